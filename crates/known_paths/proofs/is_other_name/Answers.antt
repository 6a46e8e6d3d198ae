use Rattle.rast.specs.Bytes.{Bytes, same}
use Rattle.known_paths.proofs.Paths.{fixed-other}
use Rattle.std.proofs.Common.{sym, ap, ◌∙◌, arith}
use Rattle.known_paths.proofs.is_other_name.Goals as goal

pub returns-then-name-lt-FIRST_PAIR : goal.returns-then-name-lt-FIRST_PAIR
returns-then-name-lt-FIRST_PAIR c =
    let a = c.args in
    sym (fixed-other a.pairs.now a.text.now a.name a.bytes.now c.if-name-lt-FIRST_PAIR.true c.requires.2)

pub pair_bytes-requires : goal.pair_bytes-requires
pair_bytes-requires c = (omega (arith, c.if-name-lt-FIRST_PAIR.false), c.requires.0, c.requires.1)

pub returns : goal.returns
returns c =
    let a = c.args in
    c.same_bytes.ensures ∙ ap (λ (b : Bytes). same b a.bytes.now) c.pair_bytes.ensures
