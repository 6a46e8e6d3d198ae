use mathlib.Core.Path.{refl}
use native.Mathlib.Omega.{arith}
use Rattle.text_fields.proofs.Fields.{size_of}
use Rattle.text_fields.specs.Texts.{no_fields}
use Rattle.rast.specs.Bytes.{ascii}
use Rattle.text_fields.proofs.none_length.Goals as goal

pub returns-then-named : goal.returns-then-named
unfolding no_fields ascii
returns-then-named c = (size_of no_fields c.if-named.true refl, omega arith)

pub returns : goal.returns
unfolding no_fields ascii
returns c = (size_of no_fields c.if-named.false refl, omega arith)
