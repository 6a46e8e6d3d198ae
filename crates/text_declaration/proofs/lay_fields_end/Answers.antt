use mathlib.Core.Path.{ap, sym}
use Rattle.rast.specs.Bytes.{ascii}
use Rattle.buffer.proofs.Passes.{fits-as, laid_as, laid-nothing}
use Rattle.text_declaration.specs.Texts.{fields_end}
use Rattle.text_declaration.proofs.Declarations.{lined_end}
use Rattle.text_declaration.proofs.lay_fields_end.Goals as goal

pub lay-requires : goal.lay-requires
unfolding fields_end ascii
lay-requires c = fits-as (ap fields_end c.in-Inline.is) c.requires

pub returns-in-Inline : goal.returns-in-Inline
unfolding fields_end ascii
returns-in-Inline c = laid_as (ap fields_end (sym c.in-Inline.is)) c.lay.ensures

pub returns-in-Named : goal.returns-in-Named
returns-in-Named c = laid_as (sym (lined_end c.in-Named.is)) (laid-nothing _ _)
