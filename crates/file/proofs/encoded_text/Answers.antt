use Rattle.std.proofs.Common.{◌∙◌, ap, rules}
use Rattle.encoding.specs.Filled.{filled}
use Rattle.file.proofs.Files.{call-of, numbers-lent, text-lent}
use Rattle.file.proofs.encoded_text.Goals as goal

pub returns : goal.returns
returns c =
    c.declaration_text.ensures ∙ ap (filled c.args.out.now)
    (call-of
    (numbers-lent _ _ _ _ _ (search rules) c.read_numbers-2.auto.out c.read_numbers-2.ensures)
    (numbers-lent _ _ _ _ _ (search rules) c.read_numbers.auto.out c.read_numbers.ensures)
    (text-lent _ _ _ _ _ _ (search rules) c.put_part.auto.out c.requires.3 c.put_part.ensures))
