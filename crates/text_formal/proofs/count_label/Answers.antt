use Rattle.encoding.specs.Tables.{name_count}
use Rattle.text_formal.proofs.Texts.{formal-got, formal-stop, label-handed, labelled-as}
use Rattle.text_pass.proofs.Leaves.{scanned-none, scanned-word}
use Rattle.encoding.proofs.Inside.{below-there}
use mathlib.Core.Path.{sym}
use Rattle.text_formal.proofs.count_label.Goals as goal

pub may_receive-requires : goal.may_receive-requires
may_receive-requires c =
    let a = c.args in
    let scanned = scanned-word a.words.now (name_count a.pairs.now) a.at c.name_count.ensures c.scan_below.ensures c.in_ok-name.was in
    let e = scanned in
    ((below-there _ a.words.now a.at e).below, c.requires.good)

pub count_self-requires : goal.count_self-requires
count_self-requires c =
    let a = c.args in
    let scanned = scanned-word a.words.now (name_count a.pairs.now) a.at c.name_count.ensures c.scan_below.ensures c.in_ok-name.was in
    let e = scanned in
    (c.requires, (below-there _ a.words.now a.at e).below, c.may_receive.ensures.0 c.if-may_receive.true)

pub returns-then-may_receive : goal.returns-then-may_receive
returns-then-may_receive c =
    let a = c.args in
    let scanned = scanned-word a.words.now (name_count a.pairs.now) a.at c.name_count.ensures c.scan_below.ensures c.in_ok-name.was in
    let e = scanned in
    labelled-as (sym (formal-got a.words.now a.pairs.now a.text.now a.at e)) c.count_self.ensures

pub count_typed-requires : goal.count_typed-requires
count_typed-requires c =
    let a = c.args in
    let scanned = scanned-word a.words.now (name_count a.pairs.now) a.at c.name_count.ensures c.scan_below.ensures c.in_ok-name.was in
    let e = scanned in
    (c.requires, (below-there _ a.words.now a.at e).below, c.may_receive.ensures.1 c.if-may_receive.false)

pub returns : goal.returns
returns c =
    let a = c.args in
    let scanned = scanned-word a.words.now (name_count a.pairs.now) a.at c.name_count.ensures c.scan_below.ensures c.in_ok-name.was in
    let e = scanned in
    labelled-as (sym (formal-got a.words.now a.pairs.now a.text.now a.at e)) c.count_typed.ensures

pub returns-in_err-name : goal.returns-in_err-name
returns-in_err-name c =
    let a = c.args in
    label-handed c.from_residual.ensures.1 (formal-stop a.words.now a.pairs.now a.text.now a.at (scanned-none a.words.now (name_count a.pairs.now) a.at c.name_count.ensures c.scan_below.ensures c.in_err-name.was))
