use Rattle.text_doc.proofs.Runs.{nearest-line, passed-all, passed_then}
use native.Mathlib.Omega.{arith}
use Rattle.text_doc.proofs.line_length.Goals as goal

pub returns-then-doc-at-lt64 : goal.returns-then-doc-at-lt64
returns-then-doc-at-lt64 c =
    let l = c.args.doc.now in
    let n = c.newline_from.ensures in
    let p = passed_then l c.skip_last.ensures n.0 in
    (passed-all l p n.1, omega (arith, p.order, p.inside))

pub returns-then-found-ne255 : goal.returns-then-found-ne255
returns-then-found-ne255 c = nearest-line _ _ c.near_length-found.ensures c.if-found-ne255.true

pub returns : goal.returns
returns c =
    let l = c.args.doc.now in
    let near = c.near_length-found.ensures.none c.if-found-ne255.false in
    let n = c.newline_from-2.ensures in
    let p = passed_then l (passed_then l near c.skip_blocks-i.ensures) n.0 in
    (passed-all l p n.1, omega (arith, p.order, p.inside))
