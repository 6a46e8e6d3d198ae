use Prim.Native.Nat.{ℕ, ◌+◌}
use mathlib.Core.List.{◌++◌}
use mathlib.Core.Path.{◌≡◌, ◌∙◌, ap, refl, sym}
use native.Mathlib.Omega.{arith}
use lib.ListN.{length, length-append}
use Rattle.rast.specs.Bytes.{ascii}
use Rattle.buffer.specs.Laid.{clamp}
use Rattle.encoding.specs.Tables.{name_bytes}
use Rattle.encoding.specs.Types.{type_at}
use Rattle.encoding.proofs.Tables.{name-length}
use Rattle.text_measure.proofs.Lengths.{name-fits}
use Rattle.text_measure.proofs.Measured.{measured-got}
use Rattle.text_formal.specs.declared.Receiver.TheVariants.{Typed}
use Rattle.text_formal.proofs.Texts.{label-bytes, labelled-as, receiver-name, receiver_front, self-and-type}
use Rattle.text_formal.proofs.count_receiver.Goals as goal
use Rattle.text_formal.proofs.count_receiver.Goals.{in-ByValue, in-ByRef, in-ByMut}

pub self_form-requires : goal.self_form-requires
self_form-requires c =
    let a = c.args in
    let read = measured-got (type_at a.words.now a.pairs.now a.text.now a.at) c.requires.3 refl in
    (c.requires.0.good, record { value = read.value; end = a.end; reads = read.reads })

pub returns-in-Typed : goal.returns-in-Typed
returns-in-Typed c =
    let a = c.args in
    let read = measured-got (type_at a.words.now a.pairs.now a.text.now a.at) c.requires.3 refl in
    labelled-as (sym (self-and-type a.words.now a.pairs.now a.text.now a.name a.at c.requires.2 read.reads (sym c.in-Typed.is ∙ c.self_form.ensures.says _ _ read.reads))) c.count_measured.ensures

pub overflow_add-front : goal.overflow_add-front
overflow_add-front c =
    let short = name-fits c.args.pairs.now (λ i. omega (arith, c.shared_slice_known-2-1.given i)) c.args.name _ c.name_length.ensures in
    elim c.match-self_form.branch [ in-ByValue w ↦ omega arith | in-ByRef w ↦ omega arith | in-ByMut w ↦ omega arith ]

pub count_few-requires : goal.count_few-requires
count_few-requires c =
    let short = name-fits c.args.pairs.now (λ i. omega (arith, c.shared_slice_known-2-1.given i)) c.args.name _ c.name_length.ensures in
    elim c.match-self_form.branch [ in-ByValue w ↦ omega arith | in-ByRef w ↦ omega arith | in-ByMut w ↦ omega arith ]

pub returns : goal.returns
unfolding receiver_front ascii
returns c =
    let a = c.args in
    let name = name_bytes a.pairs.now a.text.now a.name in
    let read = measured-got (type_at a.words.now a.pairs.now a.text.now a.at) c.requires.3 refl in
    let front : (c.self_form.result ≡ Typed → ⊥) × (c.match-self_form.front ≡ length (receiver_front c.self_form.result)) = elim c.match-self_form.branch [
      | in-ByValue w ↦ (λ e. cc (e, w.in-ByValue.is), rw (w.front-is, w.in-ByValue.is))
      | in-ByRef w ↦ (λ e. cc (e, w.in-ByRef.is), rw (w.front-is, w.in-ByRef.is))
      | in-ByMut w ↦ (λ e. cc (e, w.in-ByMut.is), rw (w.front-is, w.in-ByMut.is))
    ] in
    let size : c.name_length.result ≡ length name = c.name_length.ensures ∙ sym (name-length a.pairs.now a.text.now a.name c.requires.0.good c.requires.1) in
    let l : c.match-self_form.front + c.name_length.result ≡ length (receiver_front c.self_form.result ++ name) = omega (arith, front.1, size, length-append (receiver_front c.self_form.result) name) in
    label-bytes (receiver-name a.words.now a.pairs.now a.text.now a.name a.at c.requires.2 read.reads (c.self_form.ensures.says _ _ read.reads) front.0) (c.count_few.ensures ∙ ap (λ (x : ℕ). clamp (a.pos + x)) l)
