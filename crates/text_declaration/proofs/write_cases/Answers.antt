use Prim.Native.Nat.{◌-◌}
use mathlib.Core.Bool.{true}
use mathlib.Core.Path.{refl}
use native.Mathlib.Omega.{arith}
use Rattle.rast.specs.Bytes.{ascii}
use Rattle.buffer.proofs.Passes.{laid-wrote}
use Rattle.text_fields.proofs.Turns.{turn-turned, turned-end, turned-first, turned_gap, turned-later, turned-start}
use Rattle.text_pass.proofs.Passes.{Turn, turn-item}
use Rattle.text_declaration.specs.Texts.{case_line_at}
use borrow.Author.Rules.{rules}
use Rattle.text_declaration.proofs.write_cases.Goals as goal
use Rattle.text_declaration.proofs.write_cases.Goals.{then-i-gt0, else-i-gt0}

pub loop-i-init : goal.loop-i-init
loop-i-init c = (refl, turned-start c.requires.3)

pub put-requires : goal.put-requires
unfolding ascii
put-requires c = (turned_gap c.loop-i.invariant.1 c.if-i-gt0.true c.loop-i-test.true).room refl

pub write_case_line-spot-requires : goal.write_case_line-spot-requires
unfolding ascii
write_case_line-spot-requires c =
    let a = c.args in
    let l = c.loop-i in
    let turn : Turn (case_line_at a.words.now a.pairs.now a.text.now a.level) (ascii ",") true a.out.now a.pos a.n a.at c.if-i-gt0.out c.if-i-gt0.spot.pos (a.n - l.i) c.if-i-gt0.spot.next = elim c.if-i-gt0.branch [
      | then-i-gt0 w ↦ rw (w.out-is, w.spot-is) (turned-later l.invariant.1 w.if-i-gt0.true c.loop-i-test.true (laid-wrote refl w.put.ensures))
      | else-i-gt0 w ↦ rw (w.out-is, w.spot-is) (turned-first l.invariant.1 (omega arith) c.loop-i-test.true)
    ] in
    (c.requires.0, c.requires.2, turn-item turn)

pub loop-i-preserved : goal.loop-i-preserved
unfolding ascii
loop-i-preserved c =
    let a = c.args in
    let l = c.loop-i in
    let turn : Turn (case_line_at a.words.now a.pairs.now a.text.now a.level) (ascii ",") true a.out.now a.pos a.n a.at c.if-i-gt0.out c.if-i-gt0.spot.pos (a.n - l.i) c.if-i-gt0.spot.next = elim c.if-i-gt0.branch [
      | then-i-gt0 w ↦ rw (w.out-is, w.spot-is) (turned-later l.invariant.1 w.if-i-gt0.true c.loop-i-test.true (laid-wrote refl w.put.ensures))
      | else-i-gt0 w ↦ rw (w.out-is, w.spot-is) (turned-first l.invariant.1 (omega arith) c.loop-i-test.true)
    ] in
    (search rules, turn-turned l.i turn c.write_case_line-spot.ensures)

pub returns : goal.returns
returns c = turned-end c.loop-i.invariant.1 (omega arith) c.requires.1
