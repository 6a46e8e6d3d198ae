use Rattle.encoding.proofs.Inside.{below-there}
use Rattle.encoding.proofs.Reading.{read-got, read-stop, handed-on}
use Rattle.encoding.specs.Reading.{read_below}
use Rattle.rebuild_rules.proofs.Lists.{first_stops, linked-tabled, listed-got, listed-stop, rules-distinct, rules-none, rules-over, rules-repeated, rules-some, rules-stop}
use Rattle.rebuild_rules.proofs.Tables.{tabled-fits}
use mathlib.Core.Path.{◌∙◌, sym}
use native.Mathlib.Omega.{arith}
use Rattle.rebuild_rules.proofs.read_rules.Goals as goal

pub scan_list-requires : goal.scan_list-requires
scan_list-requires c =
    let a = c.args in let pre = c.requires in
    let b = read-got (read_below 33 a.rules.now 0) c.scan_below.ensures c.in_ok-value.was in
    let h = below-there 33 a.rules.now 0 b in
    (pre.0, pre.1, omega (arith, h.below), omega (arith, h.here, h.next), pre.2)

pub returns-then-end-rules : goal.returns-then-end-rules
returns-then-end-rules c =
    let a = c.args in let pre = c.requires in
    let b = read-got (read_below 33 a.rules.now 0) c.scan_below.ensures c.in_ok-value.was in
    let l = listed-got c.scan_list.ensures c.in_ok-end.was in
    rules-none (rules-over a.rules.now a.pairs.now a.text.now b l.1 c.if-end-rules.true)

pub link_rules-requires : goal.link_rules-requires
link_rules-requires c =
    let a = c.args in let pre = c.requires in
    let b = read-got (read_below 33 a.rules.now 0) c.scan_below.ensures c.in_ok-value.was in
    let l = listed-got c.scan_list.ensures c.in_ok-end.was in
    let h = below-there 33 a.rules.now 0 b in
    (tabled-fits a.rules.now a.pairs.now _ l.0 _ l.3 (omega (arith, h.below)) l.4.size l.2, l.4)

pub are_repeated-requires : goal.are_repeated-requires
are_repeated-requires c =
    let a = c.args in let pre = c.requires in
    let b = read-got (read_below 33 a.rules.now 0) c.scan_below.ensures c.in_ok-value.was in
    let l = listed-got c.scan_list.ensures c.in_ok-end.was in
    let h = below-there 33 a.rules.now 0 b in
    let t = linked-tabled a.rules.now a.pairs.now l.0 l.2 l.3 (omega (arith, h.below)) l.4.size c.link_rules.ensures.0 in
    (pre.0, t.1, c.link_rules.ensures.1)

pub returns-then-are_repeated : goal.returns-then-are_repeated
returns-then-are_repeated c =
    let a = c.args in let pre = c.requires in
    let b = read-got (read_below 33 a.rules.now 0) c.scan_below.ensures c.in_ok-value.was in
    let l = listed-got c.scan_list.ensures c.in_ok-end.was in
    let h = below-there 33 a.rules.now 0 b in
    let t = linked-tabled a.rules.now a.pairs.now l.0 l.2 l.3 (omega (arith, h.below)) l.4.size c.link_rules.ensures.0 in
    rules-none (rules-repeated a.rules.now a.pairs.now a.text.now b _ l.1 c.if-end-rules.false t.0 l.3 (sym c.are_repeated.ensures ∙ c.if-are_repeated.true))

pub returns : goal.returns
returns c =
    let a = c.args in let pre = c.requires in
    let b = read-got (read_below 33 a.rules.now 0) c.scan_below.ensures c.in_ok-value.was in
    let l = listed-got c.scan_list.ensures c.in_ok-end.was in
    let h = below-there 33 a.rules.now 0 b in
    let t = linked-tabled a.rules.now a.pairs.now l.0 l.2 l.3 (omega (arith, h.below)) l.4.size c.link_rules.ensures.0 in
    rules-some (rules-distinct a.rules.now a.pairs.now a.text.now b _ l.1 c.if-end-rules.false t.0 l.3 (sym c.are_repeated.ensures ∙ c.if-are_repeated.false)) t.0 l.3 t.1 c.link_rules.ensures.1

pub returns-in_err-end : goal.returns-in_err-end
returns-in_err-end c =
    let a = c.args in
    let b = read-got (read_below 33 a.rules.now 0) c.scan_below.ensures c.in_ok-value.was in
    rw (handed-on c.from_residual-in_err-end.ensures.1) (rules-none (rules-stop a.rules.now a.pairs.now a.text.now b (listed-stop c.scan_list.ensures c.in_err-end.was)))

pub returns-in_err-value : goal.returns-in_err-value
returns-in_err-value c =
    let a = c.args in
    rw (handed-on c.from_residual.ensures.1) (rules-none (first_stops a.rules.now a.pairs.now a.text.now (read-stop (read_below 33 a.rules.now 0) c.scan_below.ensures c.in_err-value.was)))
