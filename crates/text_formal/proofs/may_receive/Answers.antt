use mathlib.Core.Path.{refl, sym, ◌∙◌}
use native.Mathlib.Omega.{arith}
use lib.ListN.{get_or}
use borrow.Author.Tests.{ltb-false}
use Rattle.rast.specs.Bytes.{ascii}
use Rattle.encoding.specs.Tables.{fixed_names, name_bytes}
use Rattle.encoding.proofs.Tables.{impossible}
use Rattle.text_formal.proofs.Receivers.{leaf_type, no-type}
use Rattle.text_formal.proofs.Texts.{other_name}
use Rattle.text_formal.proofs.may_receive.Goals as goal

pub is_name-requires : goal.is_name-requires
unfolding ascii fixed_names
is_name-requires c = (c.requires.0, c.requires.1, omega arith, refl)

pub returns-then-at-words : goal.returns-then-at-words
unfolding fixed_names
returns-then-at-words c =
    let a = c.args in
    let b = name_bytes a.pairs.now a.text.now a.name in
    (λ e. sym c.is_name.ensures ∙ c.if-is_name.true, λ e. leaf_type a.words.now a.pairs.now a.text.now a.at b (omega (arith, ltb-false 12 (get_or a.words.now a.at 0) e)))

pub returns-else-at-words : goal.returns-else-at-words
returns-else-at-words c =
    let a = c.args in
    let b = name_bytes a.pairs.now a.text.now a.name in
    (λ e. impossible (cc), λ e. no-type a.words.now a.pairs.now a.text.now a.at b (omega (arith, c.if-at-words.false)))

pub returns-else-is_name : goal.returns-else-is_name
unfolding fixed_names
returns-else-is_name c = (λ e. impossible (cc), λ e. other_name (sym c.is_name.ensures ∙ c.if-is_name.false))
