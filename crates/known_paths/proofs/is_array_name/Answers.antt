use Rattle.rast.specs.Bytes.{ascii, begins}
use Rattle.known_paths.proofs.Paths.{begins-starts, fixed-no-array}
use Rattle.std.proofs.Common.{sym, ap, ◌∙◌}
use Rattle.known_paths.proofs.is_array_name.Goals as goal

pub returns-then-name-lt-FIRST_PAIR : goal.returns-then-name-lt-FIRST_PAIR
returns-then-name-lt-FIRST_PAIR c =
    let a = c.args in
    sym (fixed-no-array a.pairs.now a.text.now a.name c.if-name-lt-FIRST_PAIR.true)

pub returns : goal.returns
unfolding ascii
returns c = c.starts_with.ensures.value ∙ begins-starts (ascii "Array") _ ∙ ap (begins (ascii "Array")) c.pair_bytes.ensures
