use Rattle.text_pass.proofs.Leaves.{no-doc-text}
use Rattle.buffer.proofs.Passes.{fits-as, laid_as, laid-nothing}
use Rattle.rast.specs.Bytes.{Bytes}
use Rattle.rast.specs.Doc.{ToDocstringPrefix}
use Rattle.rast.specs.Indent.{indent}
use mathlib.Core.Path.{ap, sym}
use Rattle.text_pass.proofs.lay_known_doc.Goals as goal

pub returns-then-name-eq-EMPTY : goal.returns-then-name-eq-EMPTY
returns-then-name-eq-EMPTY c =
    let a = c.args in
    laid_as (no-doc-text a.pairs.now a.text.now a.name (indent a.level) c.if-name-eq-EMPTY.true) (laid-nothing a.out.now a.pos)

pub lay_doc-requires : goal.lay_doc-requires
lay_doc-requires c = fits-as (ap (λ (b : Bytes). ToDocstringPrefix b (indent c.args.level)) (sym c.pair_bytes.ensures)) c.requires.2

pub returns : goal.returns
returns c = laid_as (ap (λ (b : Bytes). ToDocstringPrefix b (indent c.args.level)) c.pair_bytes.ensures) c.lay_doc.ensures
