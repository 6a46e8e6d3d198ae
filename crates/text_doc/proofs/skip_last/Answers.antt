use Prim.Native.Nat.{◌+◌, ◌-◌}
use mathlib.Core.Path.{◌≡◌}
use native.Mathlib.Omega.{arith}
use lib.ListN.{length}
use Rattle.text_doc.proofs.Runs.{passed_none, passed_over}
use Rattle.text_doc.proofs.skip_last.Goals as goal

pub returns-then-doc-at-lt16 : goal.returns-then-doc-at-lt16
returns-then-doc-at-lt16 c = passed_none c.args.doc.now c.args.at c.requires

pub returns : goal.returns
returns c =
    let l = c.args.doc.now in
    let p = c.skip_blocks-i.ensures in
    let short = c.if-doc-i-ge16.false in
    let long = c.if-doc-at-lt16.false in
    let z : length l - 16 + 16 ≡ length l = omega (arith, long) in
    rw z at (passed_over l p (c.newline_among.ensures c.if-newline_among.false) (omega (arith, short, p.inside)) (omega (arith, long, p.inside)))
