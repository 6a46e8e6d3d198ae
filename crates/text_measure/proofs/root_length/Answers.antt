use borrow.Author.Tests.{ne_eqb}
use Rattle.rast.specs.Bytes.{ascii}
use Rattle.rast.specs.ToString.{Path-to_string}
use Rattle.encoding.specs.Types.{root_of}
use native.Mathlib.Omega.{arith}
use Rattle.text_measure.proofs.root_length.Goals as goal

pub returns-in-0 : goal.returns-in-0
unfolding root_of Path-to_string ascii
returns-in-0 c = (rw c.in-0.is, omega arith)

pub returns-in-1 : goal.returns-in-1
unfolding root_of Path-to_string ascii
returns-in-1 c = (rw c.in-1.is, omega arith)

pub returns-in_default : goal.returns-in_default
unfolding root_of Path-to_string ascii
returns-in_default c = (rw (ne_eqb _ _ c.in_default.in_default-own.rest.0.1, ne_eqb _ _ c.in_default.in_default-own.rest.1), omega arith)
