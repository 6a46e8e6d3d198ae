use Rattle.text_fields.proofs.Fields.{along-came}
use Rattle.text_formal.proofs.Texts.{written_all, written-front}
use Rattle.text_fields.proofs.write_rest.Goals as goal

pub write_field_type-requires : goal.write_field_type-requires
write_field_type-requires c =
    (c.requires.0, (written-front c.write_label.ensures c.in-Rest.is).ready)

pub returns-in-Rest : goal.returns-in-Rest
returns-in-Rest c =
    along-came (written-front c.write_label.ensures c.in-Rest.is) c.write_field_type.ensures

pub returns-in-Done : goal.returns-in-Done
returns-in-Done c = written_all c.write_label.ensures c.in-Done.is
