use Rattle.encoding.specs.Reading.{read_word}
use Rattle.encoding.specs.Tables.{name_bytes, name_count}
use Rattle.encoding.specs.Types.{type_at}
use Rattle.encoding.specs.Declarations.{declaration_after, read_declaration, read_use}
use Rattle.encoding.proofs.Reading.{read-got, read-stop}
use Rattle.accept_declaration.specs.Ends.{enum_at, struct_at, synonym_at}
use Rattle.declaration_walk.proofs.Scans.{ended-made}
use Rattle.accept_declaration.proofs.Ends.{head-unknown, use-ended}
use mathlib.Core.Path.{◌∙◌, sym}
use Rattle.encoding.proofs.Reading.{handed-on}
use Rattle.accept_declaration.proofs.accept_declaration.Goals as goal

pub returns-in-25 : goal.returns-in-25
unfolding read_declaration declaration_after
returns-in-25 c =
    let a = c.args in
    c.scan_struct.ensures ∙ rw (read-got (read_word a.words.now a.at) c.scan_word.ensures c.in_ok-value.was, c.in-25.is) (sym (ended-made (struct_at a.words.now a.pairs.now a.text.now _) _))

pub returns-in-26 : goal.returns-in-26
unfolding read_declaration declaration_after
returns-in-26 c =
    let a = c.args in
    c.scan_enum.ensures ∙ rw (read-got (read_word a.words.now a.at) c.scan_word.ensures c.in_ok-value.was, c.in-26.is) (sym (ended-made (enum_at a.words.now a.pairs.now a.text.now _) _))

pub returns-in-27 : goal.returns-in-27
unfolding read_declaration declaration_after
returns-in-27 c =
    let a = c.args in
    c.scan_synonym.ensures ∙ rw (read-got (read_word a.words.now a.at) c.scan_word.ensures c.in_ok-value.was, c.in-27.is) (sym (ended-made (synonym_at a.words.now a.pairs.now a.text.now _) _))

pub returns-in-28 : goal.returns-in-28
unfolding read_declaration declaration_after
returns-in-28 c =
    let a = c.args in
    rw c.name_count.ensures at c.scan_use.ensures ∙ use-ended a.words.now a.pairs.now a.text.now _ ∙ rw (read-got (read_word a.words.now a.at) c.scan_word.ensures c.in_ok-value.was, c.in-28.is) (sym (ended-made (read_use (name_count a.pairs.now) a.words.now (name_bytes a.pairs.now a.text.now) (type_at a.words.now a.pairs.now a.text.now) _) _))

pub returns-in_default : goal.returns-in_default
unfolding read_declaration
returns-in_default c =
    let a = c.args in
    rw (read-got (read_word a.words.now a.at) c.scan_word.ensures c.in_ok-value.was, head-unknown a.words.now a.pairs.now a.text.now _ _ c.in_default.in_default-own.rest.0.0.0.1 c.in_default.in_default-own.rest.0.0.1 c.in_default.in_default-own.rest.0.1 c.in_default.in_default-own.rest.1)

pub returns-in_err-value : goal.returns-in_err-value
unfolding read_declaration
returns-in_err-value c =
    let a = c.args in
    rw (handed-on c.from_residual.ensures.1, read-stop (read_word a.words.now a.at) c.scan_word.ensures c.in_err-value.was)
