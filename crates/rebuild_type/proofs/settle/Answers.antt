use Prim.Native.Nat.{◌-◌}
use Rattle.encoding.specs.Tables.{name_bytes}
use Rattle.rebuild_type.proofs.Types.{to-spans}
use Rattle.rebuild_type.specs.Laid.{gives, stays}
use Rattle.rebuild_rules.proofs.Steps.{found-less}
use lib.ListN.{drop, take}
use mathlib.Core.Path.{◌∙◌, refl, sym}
use native.Mathlib.Omega.{arith}
use Rattle.rebuild_type.proofs.settle.Goals as goal

pub find_rule-requires : goal.find_rule-requires
find_rule-requires c =
    let pre = c.requires in (pre.0, pre.1.fits, pre.1.links, omega (arith, pre.2), omega (arith, pre.2, pre.3, pre.4), pre.5)

pub give_way-requires : goal.give_way-requires
give_way-requires c =
    let a = c.args in let pre = c.requires in
    let h = found-less (name_bytes a.pairs.now a.text.now) a.rules.now a.table.now 0 a.k (take (a.end - a.start) (drop a.start a.out.now)) (sym c.find_rule.ensures ∙ c.in-Some.is) in
    (pre.1.fits, omega (arith, h), to-spans a.rules.now a.pairs.now a.text.now a.table.now a.k pre.1 _ (omega (arith, h)), omega (arith, pre.2, pre.3), pre.4)

pub returns-in-Some : goal.returns-in-Some
returns-in-Some c =
    gives (sym c.find_rule.ensures ∙ c.in-Some.is) c.give_way.ensures

pub returns-in-None : goal.returns-in-None
returns-in-None c = stays (sym c.find_rule.ensures ∙ c.in-None.is) refl
