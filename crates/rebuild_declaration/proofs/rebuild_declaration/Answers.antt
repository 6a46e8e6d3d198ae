use Rattle.rebuild_type.specs.Laid.{mapping}
use Rattle.rebuild_declaration.proofs.Steps.{always-begun, opening-over, opening-ready, opening-rest, opens}
use native.Mathlib.Omega.{arith}
use Rattle.rebuild_declaration.proofs.rebuild_declaration.Goals as goal

pub returns-in_default : goal.returns-in_default
returns-in_default c = absurd (always-begun c.args.words.now c.args.pairs.now c.args.text.now c.requires.2 c.name_count.ensures c.start_walk.ensures c.in_default.is)

pub add_words-requires : goal.add_words-requires
add_words-requires c =
    let a = c.args in
    let k = opens a.words.now a.pairs.now a.text.now c.requires.2 c.name_count.ensures c.start_walk.ensures c.in-Ok.is in
    (omega (arith, k.inside), omega arith, c.requires.3)

pub rebuild_rest-requires : goal.rebuild_rest-requires
rebuild_rest-requires c =
    let a = c.args in let pre = c.requires in
    let k = opens a.words.now a.pairs.now a.text.now pre.2 c.name_count.ensures c.start_walk.ensures c.in-Ok.is in
    opening-ready a.words.now a.pairs.now a.text.now pre.2 k c.add_words.ensures pre.0 pre.1 pre.3 c.in_ok-p.was

pub returns : goal.returns
returns c =
    let a = c.args in let pre = c.requires in
    let k = opens a.words.now a.pairs.now a.text.now pre.2 c.name_count.ensures c.start_walk.ensures c.in-Ok.is in
    opening-rest a.words.now a.pairs.now a.text.now pre.2 k c.add_words.ensures (mapping a.rules.now a.pairs.now a.text.now) c.in_ok-p.was c.rebuild_rest.ensures

pub returns-in_err-p : goal.returns-in_err-p
returns-in_err-p c =
    let a = c.args in let pre = c.requires in
    let k = opens a.words.now a.pairs.now a.text.now pre.2 c.name_count.ensures c.start_walk.ensures c.in-Ok.is in
    rw c.from_residual.ensures (opening-over a.words.now a.pairs.now a.text.now pre.2 k c.add_words.ensures (mapping a.rules.now a.pairs.now a.text.now) c.in_err-p.was)
