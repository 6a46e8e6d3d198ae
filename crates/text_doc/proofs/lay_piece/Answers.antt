use Prim.Native.Nat.{ℕ}
use mathlib.Core.List.{List}
use Rattle.text_doc.specs.declared.DocPiece.{DocPiece}
use Rattle.text_doc.specs.Steps.{copied, piece_text}
use Rattle.buffer.specs.Laid.{Fits, Laid}
use Rattle.buffer.proofs.Passes.{fits-as, fits-behind, fits-front, laid_as, laid_then}
use Rattle.rast.specs.Bytes.{ascii}
use Rattle.rast.specs.Doc.{DocStringPrefix}
use Rattle.rast.specs.Indent.{indent}
use lib.ListN.{drop}
use mathlib.Core.Path.{◌≡◌, ap, sym}
use Rattle.text_doc.proofs.lay_piece.Goals as goal
use Rattle.text_doc.proofs.lay_piece.Goals.{Start}

fits : (c : Start) → (k : DocPiece) → c.args.piece ≡ k → Fits c.args.write c.args.out.now c.args.pos (piece_text (indent c.args.level) (drop c.args.at c.args.doc.now) k)
unfolding piece_text
fits c = λ k e. fits-as (ap (piece_text (indent c.args.level) (drop c.args.at c.args.doc.now)) e) c.requires.1

laid : (c : Start) → (k : DocPiece) (o : List ℕ) (p : ℕ) → c.args.piece ≡ k → Laid c.args.write c.args.out.now c.args.pos (piece_text (indent c.args.level) (drop c.args.at c.args.doc.now) k) o p → Laid c.args.write c.args.out.now c.args.pos (piece_text (indent c.args.level) (drop c.args.at c.args.doc.now) c.args.piece) o p
unfolding piece_text DocStringPrefix ascii
laid c = λ k o p e l. laid_as (ap (piece_text (indent c.args.level) (drop c.args.at c.args.doc.now)) (sym e)) l

pub lay_line-next-requires : goal.lay_line-next-requires
unfolding piece_text
lay_line-next-requires c =
    fits-front DocStringPrefix (fits (goal.at.lay_line-next-requires c).Start _ c.in-Newline.is)

pub lay-requires : goal.lay-requires
unfolding piece_text DocStringPrefix ascii
lay-requires c =
    let e = c.in-Newline.is in
    fits-behind DocStringPrefix (fits (goal.at.lay-requires c).Start _ e) c.lay_line-next.ensures

pub lay-requires-in-Bar : goal.lay-requires-in-Bar
unfolding piece_text ascii
lay-requires-in-Bar c =
    fits (goal.at.lay-requires-in-Bar c).Start _ c.in-Bar.is

pub lay_part-next-requires : goal.lay_part-next-requires
unfolding piece_text copied
lay_part-next-requires c =
    let s = c in
    let e = c.in-Unnamed.is in
    (rw e at s.requires.0, fits-front (ascii "dafny") (fits (goal.at.lay_part-next-requires c).Start _ e))

pub lay-requires-in-Unnamed : goal.lay-requires-in-Unnamed
unfolding piece_text ascii
lay-requires-in-Unnamed c =
    let e = c.in-Unnamed.is in
    fits-behind (ascii "dafny") (fits (goal.at.lay-requires-in-Unnamed c).Start _ e) c.lay_part-next.ensures

pub lay_part-requires : goal.lay_part-requires
unfolding piece_text copied
lay_part-requires c =
    let s = c in
    let e = c.in-Copied.is in
    (rw e at s.requires.0, fits (goal.at.lay_part-requires c).Start _ e)

pub returns-in-Newline : goal.returns-in-Newline
unfolding piece_text DocStringPrefix ascii
returns-in-Newline c =
    let e = c.in-Newline.is in
    let both = laid_then c.lay_line-next.ensures c.lay.ensures in
    laid (goal.at.returns-in-Newline c).Start _ _ _ e both

pub returns-in-Bar : goal.returns-in-Bar
unfolding piece_text ascii
returns-in-Bar c =
    laid (goal.at.returns-in-Bar c).Start _ _ _ c.in-Bar.is c.lay-in-Bar.ensures

pub returns-in-Unnamed : goal.returns-in-Unnamed
unfolding piece_text ascii
returns-in-Unnamed c =
    let e = c.in-Unnamed.is in
    let both = laid_then c.lay_part-next.ensures c.lay-in-Unnamed.ensures in
    laid (goal.at.returns-in-Unnamed c).Start _ _ _ e both

pub returns-in-Copied : goal.returns-in-Copied
unfolding piece_text
returns-in-Copied c =
    laid (goal.at.returns-in-Copied c).Start _ _ _ c.in-Copied.is c.lay_part.ensures
