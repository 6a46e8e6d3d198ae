use Rattle.text_declaration.proofs.Declarations.{keyword-type}
use Rattle.text_declaration.specs.Texts.{keyword_text}
use Rattle.buffer.proofs.Passes.{fits-as, laid_as}
use Rattle.rast.specs.Bytes.{ascii}
use mathlib.Core.Path.{ap, sym}
use Rattle.text_declaration.proofs.lay_keyword.Goals as goal

pub lay-requires : goal.lay-requires
unfolding keyword_text ascii
lay-requires c =
    fits-as (ap keyword_text c.in-25.is) c.requires

pub lay-requires-in-26 : goal.lay-requires-in-26
unfolding keyword_text ascii
lay-requires-in-26 c =
    fits-as (ap keyword_text c.in-26.is) c.requires

pub lay-requires-in_default : goal.lay-requires-in_default
unfolding ascii
lay-requires-in_default c =
    fits-as (keyword-type _ c.in_default.in_default-own.rest.0.1 c.in_default.in_default-own.rest.1) c.requires

pub returns-in-25 : goal.returns-in-25
unfolding keyword_text ascii
returns-in-25 c = laid_as (ap keyword_text (sym c.in-25.is)) c.lay.ensures

pub returns-in-26 : goal.returns-in-26
unfolding keyword_text ascii
returns-in-26 c = laid_as (ap keyword_text (sym c.in-26.is)) c.lay-in-26.ensures

pub returns-in_default : goal.returns-in_default
unfolding ascii
returns-in_default c = laid_as (sym (keyword-type _ c.in_default.in_default-own.rest.0.1 c.in_default.in_default-own.rest.1)) c.lay-in_default.ensures
