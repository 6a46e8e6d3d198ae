use mathlib.Core.Path.{refl}
use native.Mathlib.Omega.{arith}
use Rattle.text_fields.proofs.Fields.{front-size, size_of}
use Rattle.text_fields.specs.Texts.{list_front}
use Rattle.rast.specs.Bytes.{ascii}
use Rattle.text_fields.proofs.front_length.Goals as goal

pub returns-then-named : goal.returns-then-named
returns-then-named c =
    (size_of (λ b. list_front b c.args.level) c.if-named.true (front-size c.args.level), omega (arith, c.requires))

pub returns : goal.returns
unfolding list_front ascii
returns c = (size_of (λ b. list_front b c.args.level) c.if-named.false refl, omega arith)
