use mathlib.Core.Path.{sym, ◌∙◌}
use Rattle.encoding.specs.Refusals.{unless, map_answer}
use Rattle.encoding.specs.Types.{type_of}
use Rattle.encoding.proofs.Reading.{handed-on}
use Rattle.sound_type.specs.Calls.{type_is_sound}
use Rattle.sound_type.proofs.Steps.{passed-ready}
use Rattle.sound_type.proofs.type_is_sound.Goals as goal

pub judge_whole-requires : goal.judge_whole-requires
judge_whole-requires c =
    let a = c.args in
    passed-ready a.words.now a.pairs.now a.text.now (sym c.check_tables.ensures ∙ c.in_ok-check_tables.was)

pub returns : goal.returns
unfolding type_is_sound type_of unless
returns c = rw (sym c.check_tables.ensures ∙ c.in_ok-check_tables.was) c.judge_whole.ensures

pub returns-in_err-check_tables : goal.returns-in_err-check_tables
unfolding type_is_sound type_of unless map_answer
returns-in_err-check_tables c = rw (sym c.check_tables.ensures ∙ c.in_err-check_tables.was) (handed-on c.from_residual.ensures.1)
