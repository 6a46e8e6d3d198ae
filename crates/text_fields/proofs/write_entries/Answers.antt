use Prim.Native.Nat.{◌-◌}
use mathlib.Core.Bool.{true}
use mathlib.Core.Path.{refl, sym}
use native.Mathlib.Omega.{arith}
use Rattle.buffer.proofs.Passes.{laid-wrote}
use Rattle.text_fields.specs.Texts.{entry_at, entry_gap}
use Rattle.text_fields.proofs.Fields.{entry-as}
use Rattle.text_fields.proofs.Turns.{turn-turned, turned-end, turned-first, turned_gap, turned-later, turned-start}
use Rattle.text_pass.proofs.Passes.{Turn, came-as, ready-as, turn-item}
use borrow.Author.Rules.{rules}
use Rattle.text_fields.proofs.write_entries.Goals as goal
use Rattle.text_fields.proofs.write_entries.Goals.{then-i-gt0, else-i-gt0}

pub loop-i-init : goal.loop-i-init
loop-i-init c = (refl, turned-start c.requires.3)

pub write_gap-requires : goal.write_gap-requires
write_gap-requires c = (c.requires.2, (turned_gap c.loop-i.invariant.1 c.if-i-gt0.true c.loop-i-test.true).room refl)

pub write_field-spot-requires : goal.write_field-spot-requires
write_field-spot-requires c =
    let a = c.args in
    let l = c.loop-i in
    let turn : Turn (entry_at a.words.now a.pairs.now a.text.now a.entry) (entry_gap a.entry a.level) true a.out.now a.pos a.n a.at c.if-i-gt0.out c.if-i-gt0.spot.pos (a.n - l.i) c.if-i-gt0.spot.next = elim c.if-i-gt0.branch [
      | then-i-gt0 w ↦ rw (w.out-is, w.spot-is) (turned-later l.invariant.1 w.if-i-gt0.true c.loop-i-test.true (laid-wrote refl w.write_gap.ensures))
      | else-i-gt0 w ↦ rw (w.out-is, w.spot-is) (turned-first l.invariant.1 (omega arith) c.loop-i-test.true)
    ] in
    (c.requires.0, ready-as (sym (entry-as a.words.now a.pairs.now a.text.now c.if-i-gt0.spot.next c.is_named-named.ensures)) (turn-item turn))

pub loop-i-preserved : goal.loop-i-preserved
loop-i-preserved c =
    let a = c.args in
    let l = c.loop-i in
    let turn : Turn (entry_at a.words.now a.pairs.now a.text.now a.entry) (entry_gap a.entry a.level) true a.out.now a.pos a.n a.at c.if-i-gt0.out c.if-i-gt0.spot.pos (a.n - l.i) c.if-i-gt0.spot.next = elim c.if-i-gt0.branch [
      | then-i-gt0 w ↦ rw (w.out-is, w.spot-is) (turned-later l.invariant.1 w.if-i-gt0.true c.loop-i-test.true (laid-wrote refl w.write_gap.ensures))
      | else-i-gt0 w ↦ rw (w.out-is, w.spot-is) (turned-first l.invariant.1 (omega arith) c.loop-i-test.true)
    ] in
    (search rules, turn-turned l.i turn (came-as (entry-as a.words.now a.pairs.now a.text.now c.if-i-gt0.spot.next c.is_named-named.ensures) c.write_field-spot.ensures))

pub returns : goal.returns
returns c = turned-end c.loop-i.invariant.1 (omega arith) c.requires.1
