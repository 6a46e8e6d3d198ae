use mathlib.Core.Path.{sym, ◌∙◌}
use Rattle.encoding.specs.Tables.{name_bytes}
use Rattle.sound_names.proofs.Names.{size-fixed, size-named, size-empty, size-some}
use native.Mathlib.Omega.{arith}
use borrow.Author.Rules.{rules}
use Rattle.sound_names.proofs.sound_size.Goals as goal

pub returns-then-size-lt-FIRST_PAIR_SIZE : goal.returns-then-size-lt-FIRST_PAIR_SIZE
returns-then-size-lt-FIRST_PAIR_SIZE c =
    let a = c.args in
    sym (size-fixed a.pairs.now a.text.now a.size c.if-size-lt-FIRST_PAIR_SIZE.true)

pub pair_bytes-bytes-requires : goal.pair_bytes-bytes-requires
pair_bytes-bytes-requires c =
    let s = c in
    (search rules, omega (arith, s.requires.0), s.requires.1)

pub returns-then-bytes-eq0 : goal.returns-then-bytes-eq0
returns-then-bytes-eq0 c =
    let a = c.args in
    rw (size-named (name_bytes a.pairs.now a.text.now) a.size (search rules), ← c.pair_bytes-bytes.ensures) (sym (size-empty _ c.if-bytes-eq0.true))

pub returns : goal.returns
returns c =
    let a = c.args in
    rw (size-named (name_bytes a.pairs.now a.text.now) a.size (search rules), ← c.pair_bytes-bytes.ensures)
    (c.all_word_bytes.ensures ∙ sym (size-some _ (search rules)))
