use Prim.Native.Nat.{◌≤◌}
use Rattle.encoding.specs.Tables.{name_bytes}
use Rattle.encoding.proofs.Names.{fixed-short}
use Rattle.buffer.proofs.Laws.{wrote-front, wrote_kept}
use Rattle.buffer.proofs.Passes.{fits-as, laid_as}
use Rattle.rast.specs.Bytes.{Bytes}
use Rattle.rast.specs.Doc.{ToDocstringPrefix}
use Rattle.rast.specs.Indent.{indent}
use mathlib.Core.Path.{ap, sym}
use native.Mathlib.Omega.{arith}
use lib.ListN.{length}
use lib.Seq.{length-take-le}
use Rattle.text_pass.proofs.lay_fixed_doc.Goals as goal
use Rattle.text_pass.proofs.lay_fixed_doc.Goals.{Start}

short : (c : Start) → length (name_bytes c.args.pairs.now c.args.text.now c.args.name) ≤ 13
short c = fixed-short c.args.pairs.now c.args.text.now c.args.name c.requires.0

pub put_name-end-requires : goal.put_name-end-requires
put_name-end-requires c =
    let s = c in (s.requires.1, s.requires.2, omega (arith, short (goal.at.put_name-end-requires c).Start))

pub slice_bounds-bytes-end : goal.slice_bounds-bytes-end
slice_bounds-bytes-end c =
    let w = c.put_name-end.ensures in
    omega (arith, w.next, wrote_kept w, short (goal.at.slice_bounds-bytes-end c).Start)

pub slice_bounds-lay_doc-end : goal.slice_bounds-lay_doc-end
slice_bounds-lay_doc-end c =
    let w = c.put_name-end.ensures in
    sym (length-take-le _ _ (omega (arith, w.next, wrote_kept w, short (goal.at.slice_bounds-lay_doc-end c).Start)))

pub lay_doc-requires : goal.lay_doc-requires
lay_doc-requires c =
    let s = c in
    fits-as (ap (λ (b : Bytes). ToDocstringPrefix b (indent s.args.level)) (sym (wrote-front (omega (arith, short (goal.at.lay_doc-requires c).Start)) c.put_name-end.ensures))) s.requires.3

pub returns : goal.returns
returns c =
    let s = c in
    laid_as (ap (λ (b : Bytes). ToDocstringPrefix b (indent s.args.level)) (wrote-front (omega (arith, short (goal.at.returns c).Start)) c.put_name-end.ensures)) c.lay_doc.ensures
