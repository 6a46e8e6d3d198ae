use mathlib.Core.Path.{◌≡◌, ◌∙◌, refl, sym}
use Rattle.rast.specs.Bytes.{ascii}
use Rattle.buffer.specs.Wrote.{Wrote}
use Rattle.buffer.proofs.Laws.{wrote_nothing, wrote_then}
use Rattle.buffer.proofs.Passes.{fits-behind, fits-front, laid-wrote}
use Rattle.encoding.specs.Tables.{name_bytes}
use Rattle.text_pass.proofs.Passes.{ready-as, ready-bytes}
use Rattle.text_formal.specs.declared.Receiver.TheVariants.{ByRef, ByMut, Typed}
use Rattle.text_formal.proofs.Texts.{receiver-name, receiver_front, self-and-type, type-read, written_as, written-bytes}
use Rattle.text_formal.proofs.write_receiver.Goals as goal
use Rattle.text_formal.proofs.write_receiver.Goals.{in-ByValue, in-ByRef, in-ByMut}

pub self_form-requires : goal.self_form-requires
self_form-requires c =
    let a = c.args in
    (c.requires.0.good, type-read a.words.now a.pairs.now a.text.now a.name a.at c.requires.3)

pub put-p-requires : goal.put-p-requires
unfolding receiver_front ascii
put-p-requires c =
    let a = c.args in
    let there = type-read a.words.now a.pairs.now a.text.now a.name a.at c.requires.3 in
    let shown = receiver-name a.words.now a.pairs.now a.text.now a.name a.at c.requires.2 there.reads {r = ByRef} (sym c.in-ByRef.is ∙ c.self_form.ensures.says _ _ there.reads) (λ e. cc) in
    (fits-front {b = ascii "&"} (name_bytes a.pairs.now a.text.now a.name) (ready-bytes (ready-as shown c.requires.3))).room refl

pub put-p-requires-in-ByMut : goal.put-p-requires-in-ByMut
unfolding receiver_front ascii
put-p-requires-in-ByMut c =
    let a = c.args in
    let there = type-read a.words.now a.pairs.now a.text.now a.name a.at c.requires.3 in
    let shown = receiver-name a.words.now a.pairs.now a.text.now a.name a.at c.requires.2 there.reads {r = ByMut} (sym c.in-ByMut.is ∙ c.self_form.ensures.says _ _ there.reads) (λ e. cc) in
    (fits-front {b = ascii "&mut "} (name_bytes a.pairs.now a.text.now a.name) (ready-bytes (ready-as shown c.requires.3))).room refl

pub write_open-requires : goal.write_open-requires
write_open-requires c =
    let a = c.args in
    let there = type-read a.words.now a.pairs.now a.text.now a.name a.at c.requires.3 in
    (c.requires.0, c.requires.1, ready-as (self-and-type a.words.now a.pairs.now a.text.now a.name a.at c.requires.2 there.reads (sym c.in-Typed.is ∙ c.self_form.ensures.says _ _ there.reads)) c.requires.3)

pub returns-in-Typed : goal.returns-in-Typed
returns-in-Typed c =
    let a = c.args in
    let there = type-read a.words.now a.pairs.now a.text.now a.name a.at c.requires.3 in
    written_as (sym (self-and-type a.words.now a.pairs.now a.text.now a.name a.at c.requires.2 there.reads (sym c.in-Typed.is ∙ c.self_form.ensures.says _ _ there.reads))) c.write_open.ensures

pub skip_type-requires : goal.skip_type-requires
skip_type-requires c =
    let a = c.args in
    type-read a.words.now a.pairs.now a.text.now a.name a.at c.requires.3

pub put_name-requires : goal.put_name-requires
unfolding receiver_front ascii
put_name-requires c =
    let a = c.args in
    let there = type-read a.words.now a.pairs.now a.text.now a.name a.at c.requires.3 in
    let front : (c.self_form.result ≡ Typed → ⊥) × Wrote a.out.now a.pos (receiver_front c.self_form.result) c.match-self_form.out c.match-self_form.p = elim c.match-self_form.branch [
      | in-ByValue w ↦ (λ e. cc (e, w.in-ByValue.is), rw (w.out-is, w.p-is, w.in-ByValue.is) (wrote_nothing _ _))
      | in-ByRef w ↦ (λ e. cc (e, w.in-ByRef.is), rw (w.out-is, w.p-is, w.in-ByRef.is) w.put-p.ensures)
      | in-ByMut w ↦ (λ e. cc (e, w.in-ByMut.is), rw (w.out-is, w.p-is, w.in-ByMut.is) w.put-p-in-ByMut.ensures)
    ] in
    let shown = receiver-name a.words.now a.pairs.now a.text.now a.name a.at c.requires.2 there.reads (c.self_form.ensures.says _ _ there.reads) front.0 in
    (c.requires.1, c.requires.0.good, (fits-behind (name_bytes a.pairs.now a.text.now a.name) (ready-bytes (ready-as shown c.requires.3)) (laid-wrote refl front.1)).room refl)

pub returns : goal.returns
unfolding receiver_front ascii
returns c =
    let a = c.args in
    let there = c.skip_type.ensures in
    let front : (c.self_form.result ≡ Typed → ⊥) × Wrote a.out.now a.pos (receiver_front c.self_form.result) c.match-self_form.out c.match-self_form.p = elim c.match-self_form.branch [
      | in-ByValue w ↦ (λ e. cc (e, w.in-ByValue.is), rw (w.out-is, w.p-is, w.in-ByValue.is) (wrote_nothing _ _))
      | in-ByRef w ↦ (λ e. cc (e, w.in-ByRef.is), rw (w.out-is, w.p-is, w.in-ByRef.is) w.put-p.ensures)
      | in-ByMut w ↦ (λ e. cc (e, w.in-ByMut.is), rw (w.out-is, w.p-is, w.in-ByMut.is) w.put-p-in-ByMut.ensures)
    ] in
    let shown = receiver-name a.words.now a.pairs.now a.text.now a.name a.at c.requires.2 there.reads (c.self_form.ensures.says _ _ there.reads) front.0 in
    written-bytes shown (wrote_then front.1 c.put_name.ensures)
