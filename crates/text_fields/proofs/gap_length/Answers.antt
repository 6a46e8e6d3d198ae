use mathlib.Core.Path.{◌∙◌, ap, refl, sym}
use native.Mathlib.Omega.{arith}
use lib.ListN.{length}
use Rattle.rast.specs.Bytes.{ascii}
use Rattle.rast.specs.DeclarationToString.{separator_text}
use Rattle.text_fields.specs.Texts.{entry_gap}
use Rattle.text_fields.proofs.Fields.{comma-line-size, lined-gap, size_of}
use Rattle.text_fields.proofs.gap_length.Goals as goal

pub returns-in-Inline : goal.returns-in-Inline
unfolding entry_gap separator_text ascii
returns-in-Inline c = (size_of (λ x. entry_gap x c.args.level) c.in-Inline.is refl, omega arith)

pub returns-in-Named : goal.returns-in-Named
returns-in-Named c = (sym (ap length (lined-gap c.args.level c.in-Named.is) ∙ comma-line-size c.args.level), omega arith)
