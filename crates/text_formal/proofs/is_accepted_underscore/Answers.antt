use Prim.Native.Nat.{◌+◌}
use Rattle.encoding.proofs.Reading.{below_in}
use Rattle.encoding.specs.Tables.{fixed_names, name_count}
use Rattle.text_formal.proofs.Receivers.{tells-name, tells-other}
use Rattle.rast.specs.Bytes.{ascii}
use Rattle.accepted_types.proofs.Accepted.{name-type, type-here}
use mathlib.Core.Path.{refl}
use native.Mathlib.Omega.{arith}
use borrow.Author.Rules.{rules}
use Rattle.text_formal.proofs.is_accepted_underscore.Goals as goal

pub offset_bounds-words-at : goal.offset_bounds-words-at
offset_bounds-words-at c =
    let a = c.args in
    let h = type-here a.words.now a.pairs.now a.text.now a.at c.requires.1.reads in search rules

pub bounds-words-at : goal.bounds-words-at
bounds-words-at c =
    let a = c.args in
    type-here a.words.now a.pairs.now a.text.now a.at c.requires.1.reads

pub returns-then-words-at-ne-T_IDENTIFIER : goal.returns-then-words-at-ne-T_IDENTIFIER
returns-then-words-at-ne-T_IDENTIFIER c =
    let a = c.args in
    tells-other a.words.now a.pairs.now a.text.now a.at (search rules)

pub overflow_add-at : goal.overflow_add-at
overflow_add-at c =
    let a = c.args in
    let h = type-here a.words.now a.pairs.now a.text.now a.at c.requires.1.reads in search rules

pub offset_bounds-words-at-2 : goal.offset_bounds-words-at-2
offset_bounds-words-at-2 c =
    let a = c.args in
    let h = (name-type a.words.now a.pairs.now a.text.now a.at c.requires.1.reads (search rules)).inside in search rules

pub bounds-words-at-2 : goal.bounds-words-at-2
bounds-words-at-2 c =
    let a = c.args in
    (name-type a.words.now a.pairs.now a.text.now a.at c.requires.1.reads (search rules)).inside

pub is_name-requires : goal.is_name-requires
unfolding fixed_names ascii
is_name-requires c =
    let a = c.args in
    ((name-type a.words.now a.pairs.now a.text.now a.at c.requires.1.reads (search rules)).below, c.requires.0, omega arith, refl)

pub returns : goal.returns
returns c =
    let a = c.args in
    let there = name-type a.words.now a.pairs.now a.text.now a.at c.requires.1.reads (search rules) in
    tells-name a.words.now a.pairs.now a.text.now a.at (type-here a.words.now a.pairs.now a.text.now a.at c.requires.1.reads) (search rules) (below_in (name_count a.pairs.now) a.words.now (a.at + 1) there.inside there.below) c.is_name.ensures
