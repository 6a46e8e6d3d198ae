use Rattle.encoding.specs.Types.{type_at}
use Rattle.encoding.proofs.Reading.{map-stop}
use Rattle.text_formal.proofs.Texts.{label-handed}
use Rattle.text_measure.proofs.Measured.{measured-stop}
use mathlib.Core.Path.{sym, ◌∙◌}
use Rattle.text_formal.proofs.count_self.Goals as goal

pub count_receiver-requires : goal.count_receiver-requires
count_receiver-requires c =
    (c.requires.0, c.requires.1, c.requires.2, sym c.in_ok-next.was ∙ c.measure_type.ensures)

pub returns-in_err-next : goal.returns-in_err-next
returns-in_err-next c =
    let a = c.args in
    label-handed c.from_residual.ensures.1 (map-stop _ (measured-stop (type_at a.words.now a.pairs.now a.text.now a.at) c.measure_type.ensures c.in_err-next.was))
