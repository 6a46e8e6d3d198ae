use Rattle.text_fields.proofs.Fields.{went-handed}
use Rattle.text_declaration.proofs.Declarations.{declaration-got, declaration-stop}
use Rattle.encoding.proofs.Reading.{read-got, read-stop}
use Rattle.encoding.specs.Reading.{read_word}
use Rattle.text_pass.proofs.Passes.{ready-as, stops-here, went-as}
use mathlib.Core.Path.{sym, refl}
use Rattle.text_declaration.proofs.lay_declaration.Goals as goal

pub lay_after-requires : goal.lay_after-requires
lay_after-requires c =
    let a = c.args in
    (c.requires.0, c.requires.1, ready-as (declaration-got a.words.now a.pairs.now a.text.now a.level a.at (read-got (read_word a.words.now a.at) c.scan_word.ensures c.in_ok-value.was)) c.requires.2)

pub returns : goal.returns
returns c =
    let a = c.args in
    went-as (sym (declaration-got a.words.now a.pairs.now a.text.now a.level a.at (read-got (read_word a.words.now a.at) c.scan_word.ensures c.in_ok-value.was))) c.lay_after.ensures

pub returns-in_err-value : goal.returns-in_err-value
returns-in_err-value c =
    let a = c.args in
    went-handed refl c.from_residual.ensures.1 (stops-here (declaration-stop a.words.now a.pairs.now a.text.now a.level a.at (read-stop (read_word a.words.now a.at) c.scan_word.ensures c.in_err-value.was)))
