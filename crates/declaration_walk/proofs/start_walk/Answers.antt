use Rattle.encoding.proofs.Reading.{handed-on, read-got, read-stop}
use Rattle.encoding.specs.Forms.{present}
use Rattle.encoding.specs.Reading.{read_word}
use Rattle.declaration_walk.proofs.Scans.{opening-none, title-started}
use Rattle.declaration_walk.specs.Walks.{opening_after, read_opening}
use Rattle.declaration_walk.specs.declared.After.TheVariants.{CaseList, FieldList, OneType}
use Rattle.declaration_walk.specs.declared.Role.TheVariants.{StructField}
use mathlib.Core.Path.{◌∙◌, sym}
use Rattle.declaration_walk.proofs.start_walk.Goals as goal

pub returns-in-25 : goal.returns-in-25
unfolding read_opening opening_after
returns-in-25 c =
    c.start_title.ensures ∙ sym (title-started c.args.bound c.args.words.now present.struct_head (FieldList StructField) _) ∙ rw (read-got (read_word c.args.words.now c.args.at) c.scan_word.ensures c.in_ok-value.was, c.in-25.is)

pub returns-in-26 : goal.returns-in-26
unfolding read_opening opening_after
returns-in-26 c =
    c.start_title-in-26.ensures ∙ sym (title-started c.args.bound c.args.words.now present.enum_head CaseList _) ∙ rw (read-got (read_word c.args.words.now c.args.at) c.scan_word.ensures c.in_ok-value.was, c.in-26.is)

pub returns-in-27 : goal.returns-in-27
unfolding read_opening opening_after
returns-in-27 c =
    c.start_title-in-27.ensures ∙ sym (title-started c.args.bound c.args.words.now present.synonym_head OneType _) ∙ rw (read-got (read_word c.args.words.now c.args.at) c.scan_word.ensures c.in_ok-value.was, c.in-27.is)

pub returns-in-28 : goal.returns-in-28
unfolding read_opening opening_after
returns-in-28 c =
    c.start_use.ensures ∙ rw (read-got (read_word c.args.words.now c.args.at) c.scan_word.ensures c.in_ok-value.was, c.in-28.is)

pub returns-in_default : goal.returns-in_default
unfolding read_opening
returns-in_default c =
    rw (read-got (read_word c.args.words.now c.args.at) c.scan_word.ensures c.in_ok-value.was, opening-none c.args.bound c.args.words.now _ _ c.in_default.in_default-own.rest.0.0.0.1 c.in_default.in_default-own.rest.0.0.1 c.in_default.in_default-own.rest.0.1 c.in_default.in_default-own.rest.1)

pub returns-in_err-value : goal.returns-in_err-value
unfolding read_opening
returns-in_err-value c =
    rw (handed-on c.from_residual.ensures.1, read-stop (read_word c.args.words.now c.args.at) c.scan_word.ensures c.in_err-value.was)
