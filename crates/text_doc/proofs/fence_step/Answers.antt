use Rattle.text_doc.proofs.Runs.{run-byte, run_inside}
use Rattle.text_doc.proofs.Splits.{close-splits, splits-as}
use lib.ListN.{drop, length-drop}
use native.Mathlib.Omega.{arith}
use Rattle.text_doc.proofs.fence_step.Goals as goal

pub open_step-requires : goal.open_step-requires
open_step-requires c =
    let r = c.run.ensures in
    (omega (arith, r.0, c.requires.1.opens c.if-fence-eq0.true), r.0, r.1)

pub returns-then-fence-eq0 : goal.returns-then-fence-eq0
returns-then-fence-eq0 c = rw c.if-fence-eq0.true c.open_step.ensures

pub copy_step-requires : goal.copy_step-requires
copy_step-requires c =
    let s = c in
    let d = drop s.args.at s.args.doc.now in
    omega (arith, s.requires.1.closes (omega (arith, c.if-fence-eq0.false)), run_inside 96 d, length-drop s.args.at s.args.doc.now)

pub returns : goal.returns
returns c =
    let s = c in
    let d = drop s.args.at s.args.doc.now in
    let k = s.requires.1.closes (omega (arith, c.if-fence-eq0.false)) in
    let q = run-byte 96 s.args.doc.now s.args.at s.requires.0 (omega (arith, k, c.if-fence-eq0.false)) in
    splits-as c.copy_step.ensures
    (close-splits s.args.doc.now s.args.at s.requires.0 q s.args.fence (omega (arith, c.if-fence-eq0.false)) k
    (omega (arith, k, run_inside 96 d, length-drop s.args.at s.args.doc.now, s.requires.0)))
