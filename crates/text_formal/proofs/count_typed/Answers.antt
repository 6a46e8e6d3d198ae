use Rattle.encoding.proofs.Tables.{name-length}
use Rattle.text_formal.proofs.Texts.{label-bytes, labelled-as, name-and-type, only-name}
use Rattle.text_measure.proofs.Lengths.{name-fits}
use Rattle.buffer.specs.Laid.{clamp}
use Rattle.accepted_types.proofs.Accepted.{type-here}
use Prim.Native.Nat.{ℕ, ◌+◌}
use mathlib.Core.Path.{◌∙◌, ap, sym}
use native.Mathlib.Omega.{arith}
use Rattle.text_formal.proofs.count_typed.Goals as goal

pub overflow_add-result : goal.overflow_add-result
overflow_add-result c =
    let a = c.args in
    let h = type-here a.words.now a.pairs.now a.text.now a.at (c.is_underscore.ensures.there c.if-is_underscore.true) in
    omega (arith, h, c.requires.0.few)

pub count_few-requires : goal.count_few-requires
count_few-requires c =
    omega (arith, name-fits c.args.pairs.now (λ i. omega (arith, c.shared_slice_known-2-1.given i)) _ _ c.name_length.ensures)

pub returns-then-is_underscore : goal.returns-then-is_underscore
returns-then-is_underscore c =
    let a = c.args in
    let n = c.name_length.ensures ∙ sym (name-length a.pairs.now a.text.now a.name c.requires.0.good c.requires.1) in
    let e = only-name a.words.now a.pairs.now a.text.now a.name a.at c.requires.2 (c.is_underscore.ensures.there c.if-is_underscore.true) in
    label-bytes e (c.count_few.ensures ∙ ap (λ (m : ℕ). clamp (a.pos + m)) n)

pub returns : goal.returns
returns c =
    let a = c.args in
    let e = name-and-type a.words.now a.pairs.now a.text.now a.name a.at c.requires.2 (λ t n d. sym (c.is_underscore.ensures.says t n d) ∙ c.if-is_underscore.false) in
    labelled-as (sym e) c.count_open.ensures
