use Rattle.text_doc.proofs.Laying.{doc-parts, no-doc}
use Rattle.buffer.proofs.Passes.{fits-as, fits-behind, fits-front, laid_as, laid-nothing, laid_then}
use Rattle.rast.specs.Bytes.{ascii}
use Rattle.rast.specs.Doc.{DocStringPrefix}
use Rattle.rast.specs.Indent.{indent}
use mathlib.Core.Path.{sym}
use borrow.Author.Rules.{rules}
use Rattle.text_doc.proofs.lay_doc.Goals as goal

pub returns-then-doc-eq0 : goal.returns-then-doc-eq0
returns-then-doc-eq0 c =
    let a = c.args in
    laid_as (sym (no-doc a.doc.now (indent a.level) c.if-doc-eq0.true)) (laid-nothing a.out.now a.pos)

pub lay-start-requires : goal.lay-start-requires
unfolding DocStringPrefix ascii
lay-start-requires c =
    let s = c in
    fits-front _ (fits-as (doc-parts s.args.doc.now (indent s.args.level) (search rules)) s.requires)

pub lay_converted-end-requires : goal.lay_converted-end-requires
unfolding DocStringPrefix ascii
lay_converted-end-requires c =
    let s = c in
    let f = fits-as (doc-parts s.args.doc.now (indent s.args.level) (search rules)) s.requires in
    fits-front _ (fits-behind _ f c.lay-start.ensures)

pub lay_line-requires : goal.lay_line-requires
unfolding DocStringPrefix ascii
lay_line-requires c =
    let s = c in
    let f = fits-as (doc-parts s.args.doc.now (indent s.args.level) (search rules)) s.requires in
    fits-behind _ (fits-behind _ f c.lay-start.ensures) c.lay_converted-end.ensures

pub returns : goal.returns
unfolding DocStringPrefix ascii
returns c =
    let a = c.args in
    let e = doc-parts a.doc.now (indent a.level) (search rules) in
    let line = c.lay_line.ensures in
    let rest = laid_then c.lay_converted-end.ensures line in
    laid_as (sym e) (laid_then c.lay-start.ensures rest)
