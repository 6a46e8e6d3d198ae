use Rattle.encoding.proofs.Names.{fixed_same}
use mathlib.Core.Path.{◌∙◌, sym}
use native.Mathlib.Omega.{arith}
use Rattle.encoding.proofs.is_name.Goals as goal

pub returns-then-name-lt-FIRST_PAIR : goal.returns-then-name-lt-FIRST_PAIR
returns-then-name-lt-FIRST_PAIR c = sym (fixed_same c.args.pairs.now c.args.text.now c.args.name c.args.k c.if-name-lt-FIRST_PAIR.true c.requires.2)

pub pair_bytes-requires : goal.pair_bytes-requires
pair_bytes-requires c = (omega (arith, c.if-name-lt-FIRST_PAIR.false), c.requires.0, c.requires.1)

pub returns : goal.returns
returns c = c.same_bytes.ensures ∙ cc (c.pair_bytes.ensures, c.requires.3)
