use mathlib.Core.Path.{refl}
use native.Mathlib.Omega.{arith}
use Rattle.rast.specs.Bytes.{ascii}
use Rattle.buffer.proofs.Passes.{laid-nothing}
use Rattle.encoding.specs.Reading.{got}
use Rattle.text_pass.specs.Passes.{◌then◌, came, last}
use Rattle.text_pass.proofs.Passes.{AlongChain, chain_fits, chain-laid, last-ready, last-went, went-handed}
use Rattle.text_pass.proofs.Leaves.{count_none, count-refused, count-some}
use Rattle.text_parameters.specs.Texts.{constraints_at, some_constraints}
use Rattle.text_parameters.proofs.Parameters.{constraints-first}
use Rattle.text_parameters.proofs.lay_constraint_list.Goals as goal

pub returns-then-value-eq0 : goal.returns-then-value-eq0
returns-then-value-eq0 c =
    let start = c in
    came (count_none (constraints-first start.args.words.now start.args.pairs.now start.args.text.now start.args.at) c.scan_word.ensures c.in_ok-value.was c.if-value-eq0.true (laid-nothing _ _))

pub lay-p-requires : goal.lay-p-requires
unfolding ascii
lay-p-requires c =
    let constraints : let start = c in AlongChain start.args.write start.args.out.now start.args.pos (constraints_at start.args.words.now start.args.pairs.now start.args.text.now start.args.at) start.args.out.now start.args.pos (got (ascii ": ") c.in_ok-value.next then λ q. last (some_constraints start.args.words.now start.args.pairs.now start.args.text.now c.in_ok-value.value q)) = let start = c in
    count-some (constraints-first start.args.words.now start.args.pairs.now start.args.text.now start.args.at) c.scan_word.ensures c.in_ok-value.was c.if-value-eq0.false start.requires.1 in
    chain_fits constraints

pub lay_constraints-requires : goal.lay_constraints-requires
unfolding ascii
lay_constraints-requires c =
    let constraints : let start = c in AlongChain start.args.write start.args.out.now start.args.pos (constraints_at start.args.words.now start.args.pairs.now start.args.text.now start.args.at) start.args.out.now start.args.pos (got (ascii ": ") c.in_ok-value.next then λ q. last (some_constraints start.args.words.now start.args.pairs.now start.args.text.now c.in_ok-value.value q)) = let start = c in
    count-some (constraints-first start.args.words.now start.args.pairs.now start.args.text.now start.args.at) c.scan_word.ensures c.in_ok-value.was c.if-value-eq0.false start.requires.1 in
    (c.requires.0, omega (arith, c.if-value-eq0.false), last-ready (chain-laid constraints c.lay-p.ensures))

pub returns : goal.returns
unfolding ascii
returns c =
    let constraints : let start = c in AlongChain start.args.write start.args.out.now start.args.pos (constraints_at start.args.words.now start.args.pairs.now start.args.text.now start.args.at) start.args.out.now start.args.pos (got (ascii ": ") c.in_ok-value.next then λ q. last (some_constraints start.args.words.now start.args.pairs.now start.args.text.now c.in_ok-value.value q)) = let start = c in
    count-some (constraints-first start.args.words.now start.args.pairs.now start.args.text.now start.args.at) c.scan_word.ensures c.in_ok-value.was c.if-value-eq0.false start.requires.1 in
    last-went (chain-laid constraints c.lay-p.ensures) c.lay_constraints.ensures

pub returns-in_err-value : goal.returns-in_err-value
returns-in_err-value c =
    let start = c in
    went-handed refl c.from_residual.ensures.1 (count-refused (constraints-first start.args.words.now start.args.pairs.now start.args.text.now start.args.at) c.scan_word.ensures c.in_err-value.was)
