use Prim.Native.Nat.{◌-◌}
use mathlib.Core.Bool.{false}
use mathlib.Core.List.{[]}
use mathlib.Core.Path.{refl}
use native.Mathlib.Omega.{arith}
use Rattle.rast.specs.Bytes.{ascii}
use Rattle.buffer.proofs.Passes.{laid-counted}
use Rattle.text_pass.specs.Passes.{came}
use Rattle.text_pass.proofs.Passes.{Turn, came-to, ready-count, turn-stop}
use Rattle.text_fields.proofs.Fields.{went-handed}
use Rattle.text_fields.proofs.Turns.{turn-turned, turned-end, turned-first, turned-later, turned-start}
use Rattle.text_declaration.specs.Texts.{case_line_at}
use Rattle.text_declaration.proofs.count_cases.Goals as goal
use Rattle.text_declaration.proofs.count_cases.Goals.{then-i-gt0, else-i-gt0}

pub loop-i-init : goal.loop-i-init
loop-i-init c = turned-start ready-count

pub loop-i-preserved : goal.loop-i-preserved
unfolding ascii
loop-i-preserved c =
    let a = c.args in
    let l = c.loop-i in
    let turn : Turn (case_line_at a.words.now a.pairs.now a.text.now a.level) (ascii ",") false [] a.pos a.n a.at [] c.if-i-gt0.p (a.n - l.i) l.place = elim c.if-i-gt0.branch [
      | then-i-gt0 w ↦ rw w.p-is (turned-later l.invariant w.if-i-gt0.true c.loop-i-test.true (laid-counted refl w.count_few-p.ensures))
      | else-i-gt0 w ↦ rw w.p-is (turned-first l.invariant (omega arith) c.loop-i-test.true)
    ] in
    turn-turned l.i turn (came-to c.count_case_line.ensures c.in_ok-next.was)

pub returns-in_err-next : goal.returns-in_err-next
unfolding ascii
returns-in_err-next c =
    let a = c.args in
    let l = c.loop-i in
    let turn : Turn (case_line_at a.words.now a.pairs.now a.text.now a.level) (ascii ",") false [] a.pos a.n a.at [] c.if-i-gt0.p (a.n - l.i) l.place = elim c.if-i-gt0.branch [
      | then-i-gt0 w ↦ rw w.p-is (turned-later l.invariant w.if-i-gt0.true c.loop-i-test.true (laid-counted refl w.count_few-p.ensures))
      | else-i-gt0 w ↦ rw w.p-is (turned-first l.invariant (omega arith) c.loop-i-test.true)
    ] in
    went-handed c.in_err-next.was c.from_residual.ensures.1 (turn-stop turn c.count_case_line.ensures c.in_err-next.was)

pub returns : goal.returns
returns c = came (turned-end c.loop-i.invariant (omega arith) c.requires.1)
