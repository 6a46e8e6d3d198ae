use Prim.Native.Nat.{◌+◌}
use mathlib.Core.Bool.{true, false}
use Rattle.encoding.specs.Reading.{got}
use Rattle.encoding.specs.Types.{type_at}
use Rattle.text_formal.specs.Receivers.{NoReceiver}
use Rattle.text_formal.specs.Texts.{formal_at, formal_of, typed_at}
use Rattle.text_pass.proofs.Leaves.{BelowThere}
use Rattle.encoding.specs.Tables.{fixed_names, name_bytes, name_count}
use Rattle.text_formal.proofs.Texts.{formal-got, formal-there, name-and-type, only-name, other_name, type-read, written_as, written-bytes}
use Rattle.text_pass.proofs.Passes.{ready-as, ready-bytes}
use Rattle.rast.specs.Bytes.{ascii}
use Rattle.accepted_types.proofs.Accepted.{type-here}
use lib.ListN.{get_or}
use mathlib.Core.Path.{◌≡◌, ◌∙◌, refl, sym}
use native.Mathlib.Omega.{arith}
use borrow.Author.Rules.{rules}
use Rattle.text_formal.proofs.write_label.Goals as goal

pub offset_bounds-words-at : goal.offset_bounds-words-at
offset_bounds-words-at c =
    let a = c.args in
    let there : BelowThere (name_count a.pairs.now) a.words.now a.at = formal-there a.words.now a.pairs.now a.text.now a.at c.requires.1 in
    let h = there.here in
    search rules

pub bounds-words-at : goal.bounds-words-at
bounds-words-at c =
    let a = c.args in
    let there : BelowThere (name_count a.pairs.now) a.words.now a.at = formal-there a.words.now a.pairs.now a.text.now a.at c.requires.1 in
    there.here

pub overflow_add-next : goal.overflow_add-next
overflow_add-next c =
    let a = c.args in
    let there : BelowThere (name_count a.pairs.now) a.words.now a.at = formal-there a.words.now a.pairs.now a.text.now a.at c.requires.1 in
    let h = there.here in
    omega (arith, h, c.requires.0.few)

pub is_name-requires : goal.is_name-requires
unfolding ascii fixed_names
is_name-requires c =
    let a = c.args in
    let there : BelowThere (name_count a.pairs.now) a.words.now a.at = formal-there a.words.now a.pairs.now a.text.now a.at c.requires.1 in
    (there.below, c.requires.0.good, omega arith, refl)

pub write_receiver-requires : goal.write_receiver-requires
unfolding fixed_names
write_receiver-requires c =
    let a = c.args in
    let there : BelowThere (name_count a.pairs.now) a.words.now a.at = formal-there a.words.now a.pairs.now a.text.now a.at c.requires.1 in
    let named : formal_at a.words.now a.pairs.now a.text.now a.at ≡ formal_of a.words.now a.pairs.now a.text.now (get_or a.words.now a.at 0) (a.at + 1) = formal-got a.words.now a.pairs.now a.text.now a.at there.reads in
    (c.requires.0, there.below, sym c.is_name.ensures ∙ c.if-is_name.true, ready-as named c.requires.1)

pub returns-then-is_name : goal.returns-then-is_name
returns-then-is_name c =
    let a = c.args in
    let there : BelowThere (name_count a.pairs.now) a.words.now a.at = formal-there a.words.now a.pairs.now a.text.now a.at c.requires.1 in
    let named : formal_at a.words.now a.pairs.now a.text.now a.at ≡ formal_of a.words.now a.pairs.now a.text.now (get_or a.words.now a.at 0) (a.at + 1) = formal-got a.words.now a.pairs.now a.text.now a.at there.reads in
    written_as (sym named) c.write_receiver.ensures

pub is_accepted_underscore-requires : goal.is_accepted_underscore-requires
is_accepted_underscore-requires c =
    let a = c.args in
    let there : BelowThere (name_count a.pairs.now) a.words.now a.at = formal-there a.words.now a.pairs.now a.text.now a.at c.requires.1 in
    let named : formal_at a.words.now a.pairs.now a.text.now a.at ≡ formal_of a.words.now a.pairs.now a.text.now (get_or a.words.now a.at 0) (a.at + 1) = formal-got a.words.now a.pairs.now a.text.now a.at there.reads in
    (c.requires.0.good, type-read a.words.now a.pairs.now a.text.now (get_or a.words.now a.at 0) (a.at + 1) (ready-as named c.requires.1))

pub overflow_add-result : goal.overflow_add-result
overflow_add-result c =
    let a = c.args in
    let h = type-here a.words.now a.pairs.now a.text.now (a.at + 1) (c.is_accepted_underscore.ensures.there c.if-is_accepted_underscore.true) in
    omega (arith, h, c.requires.0.few)

pub put_name-requires : goal.put_name-requires
unfolding fixed_names
put_name-requires c =
    let a = c.args in
    let there : BelowThere (name_count a.pairs.now) a.words.now a.at = formal-there a.words.now a.pairs.now a.text.now a.at c.requires.1 in
    let named : formal_at a.words.now a.pairs.now a.text.now a.at ≡ formal_of a.words.now a.pairs.now a.text.now (get_or a.words.now a.at 0) (a.at + 1) = formal-got a.words.now a.pairs.now a.text.now a.at there.reads in
    let other : NoReceiver (name_bytes a.pairs.now a.text.now (get_or a.words.now a.at 0)) (type_at a.words.now a.pairs.now a.text.now (a.at + 1)) = other_name (sym c.is_name.ensures ∙ c.if-is_name.false) in
    let only : c.is_accepted_underscore.result ≡ true → formal_at a.words.now a.pairs.now a.text.now a.at ≡ got (name_bytes a.pairs.now a.text.now (get_or a.words.now a.at 0)) (a.at + 1 + 2) = λ d. named ∙ only-name a.words.now a.pairs.now a.text.now (get_or a.words.now a.at 0) (a.at + 1) other (c.is_accepted_underscore.ensures.there d) in
    (there.below, c.requires.0.good, (ready-bytes (ready-as (only c.if-is_accepted_underscore.true) c.requires.1)).room refl)

pub returns-then-is_accepted_underscore : goal.returns-then-is_accepted_underscore
unfolding fixed_names
returns-then-is_accepted_underscore c =
    let a = c.args in
    let there : BelowThere (name_count a.pairs.now) a.words.now a.at = formal-there a.words.now a.pairs.now a.text.now a.at c.requires.1 in
    let named : formal_at a.words.now a.pairs.now a.text.now a.at ≡ formal_of a.words.now a.pairs.now a.text.now (get_or a.words.now a.at 0) (a.at + 1) = formal-got a.words.now a.pairs.now a.text.now a.at there.reads in
    let other : NoReceiver (name_bytes a.pairs.now a.text.now (get_or a.words.now a.at 0)) (type_at a.words.now a.pairs.now a.text.now (a.at + 1)) = other_name (sym c.is_name.ensures ∙ c.if-is_name.false) in
    let only : c.is_accepted_underscore.result ≡ true → formal_at a.words.now a.pairs.now a.text.now a.at ≡ got (name_bytes a.pairs.now a.text.now (get_or a.words.now a.at 0)) (a.at + 1 + 2) = λ d. named ∙ only-name a.words.now a.pairs.now a.text.now (get_or a.words.now a.at 0) (a.at + 1) other (c.is_accepted_underscore.ensures.there d) in
    written-bytes (only c.if-is_accepted_underscore.true) c.put_name.ensures

pub write_open-requires : goal.write_open-requires
unfolding fixed_names
write_open-requires c =
    let a = c.args in
    let there : BelowThere (name_count a.pairs.now) a.words.now a.at = formal-there a.words.now a.pairs.now a.text.now a.at c.requires.1 in
    let named : formal_at a.words.now a.pairs.now a.text.now a.at ≡ formal_of a.words.now a.pairs.now a.text.now (get_or a.words.now a.at 0) (a.at + 1) = formal-got a.words.now a.pairs.now a.text.now a.at there.reads in
    let other : NoReceiver (name_bytes a.pairs.now a.text.now (get_or a.words.now a.at 0)) (type_at a.words.now a.pairs.now a.text.now (a.at + 1)) = other_name (sym c.is_name.ensures ∙ c.if-is_name.false) in
    let typed : c.is_accepted_underscore.result ≡ false → formal_at a.words.now a.pairs.now a.text.now a.at ≡ typed_at a.words.now a.pairs.now a.text.now (get_or a.words.now a.at 0) (a.at + 1) = λ d. named ∙ name-and-type a.words.now a.pairs.now a.text.now (get_or a.words.now a.at 0) (a.at + 1) other (λ t n e. sym (c.is_accepted_underscore.ensures.says t n e) ∙ d) in
    (c.requires.0, there.below, ready-as (typed c.if-is_accepted_underscore.false) c.requires.1)

pub returns : goal.returns
unfolding fixed_names
returns c =
    let a = c.args in
    let there : BelowThere (name_count a.pairs.now) a.words.now a.at = formal-there a.words.now a.pairs.now a.text.now a.at c.requires.1 in
    let named : formal_at a.words.now a.pairs.now a.text.now a.at ≡ formal_of a.words.now a.pairs.now a.text.now (get_or a.words.now a.at 0) (a.at + 1) = formal-got a.words.now a.pairs.now a.text.now a.at there.reads in
    let other : NoReceiver (name_bytes a.pairs.now a.text.now (get_or a.words.now a.at 0)) (type_at a.words.now a.pairs.now a.text.now (a.at + 1)) = other_name (sym c.is_name.ensures ∙ c.if-is_name.false) in
    let typed : c.is_accepted_underscore.result ≡ false → formal_at a.words.now a.pairs.now a.text.now a.at ≡ typed_at a.words.now a.pairs.now a.text.now (get_or a.words.now a.at 0) (a.at + 1) = λ d. named ∙ name-and-type a.words.now a.pairs.now a.text.now (get_or a.words.now a.at 0) (a.at + 1) other (λ t n e. sym (c.is_accepted_underscore.ensures.says t n e) ∙ d) in
    written_as (sym (typed c.if-is_accepted_underscore.false)) c.write_open.ensures
