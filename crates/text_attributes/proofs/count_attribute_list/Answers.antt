use mathlib.Core.Path.{refl, sym}
use Rattle.encoding.specs.Reading.{read_word}
use Rattle.encoding.proofs.Reading.{read-got, read-stop}
use Rattle.text_pass.proofs.Passes.{stops-here, went-as, went-handed}
use Rattle.text_attributes.proofs.Attributes.{attributes-read, attributes-stop}
use Rattle.text_attributes.proofs.count_attribute_list.Goals as goal

pub count_attributes-requires : goal.count_attributes-requires
count_attributes-requires c = c.requires

pub returns : goal.returns
returns c =
    let start = c in
    went-as (sym (attributes-read start.args.words.now start.args.pairs.now start.args.text.now start.args.level start.args.at (read-got (read_word start.args.words.now start.args.at) c.scan_word.ensures c.in_ok-value.was))) c.count_attributes.ensures

pub returns-in_err-value : goal.returns-in_err-value
returns-in_err-value c =
    let start = c in
    went-handed refl c.from_residual.ensures.1 (stops-here (attributes-stop start.args.words.now start.args.pairs.now start.args.text.now start.args.level start.args.at (read-stop (read_word start.args.words.now start.args.at) c.scan_word.ensures c.in_err-value.was)))
