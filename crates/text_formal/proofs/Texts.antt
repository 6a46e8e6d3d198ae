-- The text of a field's name and type, by the case that the code takes.
use Rattle.std.specs.Prelude.{Ok, Err, Result, IsErrAnd}
use Prim.Native.Nat.{ℕ, ◌+◌, ◌<◌}
use mathlib.Core.Path.{◌≡◌, refl, ap, sym, ◌∙◌, subst}
use mathlib.Core.Bool.{Bool, true, false}
use mathlib.Core.List.{List, [], ◌++◌, append_assoc}
use native.Mathlib.Omega.{arith}
use lib.ListN.{length}
use Rattle.rast.specs.Bytes.{Bytes, ascii, same, ◌and◌, ◌or◌}
use Rattle.rast.specs.Tree.{Ty, TIdentifier}
use Rattle.rast.specs.ToString.{Type-to_string}
use Rattle.rast.specs.Declaration.{Formal}
use Rattle.rast.specs.DeclarationToString.{Expand, is_self_owned, is_self_borrowed, is_self_borrowed_mut, is_underscore, Formal-to_string}
use Rattle.buffer.specs.Wrote.{Wrote}
use Rattle.buffer.specs.Laid.{Laid, clamp}
use Rattle.buffer.proofs.Passes.{laid-wrote, laid-counted}
use Rattle.encoding.specs.declared.Refusal.{Refusal}
use Rattle.encoding.specs.Refusals.{pick}
use Rattle.encoding.specs.Reading.{Reading, got, stop, ◌>>=◌, read_below}
use Rattle.encoding.specs.Scans.{map_reading}
use Rattle.encoding.specs.Tables.{name_bytes, name_count}
use Rattle.encoding.specs.Tested.{Good, name_length}
use Rattle.encoding.specs.Types.{type_at}
use Rattle.encoding.specs.Declarations.{read_name, read_formal}
use Rattle.encoding.proofs.Tables.{impossible, name-length}
use Rattle.encoding.proofs.Reading.{handed-on, map-got, map-stop}
use Rattle.accepted_types.specs.declared.Spot.{Spot}
use Rattle.text_type.specs.declared.Part.{Part}
use Rattle.text_type.specs.declared.Part.TheVariants.{Rest, Done}
use Rattle.accepted_types.specs.Accepted.{Readable}
use Rattle.text_pass.specs.Passes.{last, ◌then◌, run, Ready, Came, Along}
use Rattle.text_pass.specs.Texts.{type_text_at}
use Rattle.text_pass.proofs.Passes.{Runs, ReadyChain, came-bytes, counts-bytes, ready-count, ready-runs, ready-last, ready-next, went-runs, went-last, went_then}
use Rattle.text_pass.proofs.Leaves.{BelowThere, below_of, read_of}
use Rattle.text_pass.proofs.Splits.{map-made}
use Rattle.text_formal.specs.declared.Label.{Label}
use Rattle.text_formal.specs.declared.Label.TheVariants.{Open, Whole}
use Rattle.text_formal.specs.declared.Receiver.{Receiver}
use Rattle.text_formal.specs.declared.Receiver.TheVariants.{ByValue, ByRef, ByMut, Typed}
use Rattle.text_formal.specs.Labels.{Labelled, opened, whole, unread, LabelWritten, front, all}
use Rattle.text_formal.specs.Receivers.{receiver_of, is_receiver, NoReceiver}
use Rattle.text_formal.specs.Texts.{formal_at, formal_of, typed_at}

abbrev formal : Bytes → Ty Bytes → Formal Bytes
formal x t = record { name = x; tpe = t }

-- the cases of `Formal.ToString`, over any answers to its tests: s for the name, a to d for the type
unfoldable cases : Bytes → Ty Bytes → Bool → Bool → Bool → Bool → Bool → Bytes
cases x t s a b c d =
    elim (s and a) [
      | true ↦ x
      | false ↦ elim (s and b) [
        | true ↦ ascii "&" ++ x
        | false ↦ elim (s and c) [
          | true ↦ ascii "&mut " ++ x
          | false ↦ elim d [
            | true ↦ x
            | false ↦ x ++ ascii ": " ++ Type-to_string t
          ]
        ]
      ]
    ]

by_cases : (x : Bytes) (t : Ty Bytes) → Formal-to_string (formal x t) ≡ cases x t (same x (ascii "self")) (is_self_owned (Expand t)) (is_self_borrowed t) (is_self_borrowed_mut t) (is_underscore t)
unfolding Formal-to_string cases
by_cases x t = refl

-- ---- a field that is no receiver

other-cases : (x : Bytes) (t : Ty Bytes) (s a b c d : Bool) → (s and (a or b or c)) ≡ false → cases x t s a b c d ≡ elim d [ true ↦ x | false ↦ x ++ (ascii ": " ++ Type-to_string t) ]
unfolding cases ◌and◌
other-cases x t false a b c true e = refl
other-cases x t false a b c false e = append_assoc x (ascii ": ") (Type-to_string t)
other-cases x t true true b c d e = impossible (cc)
other-cases x t true false true c d e = impossible (cc)
other-cases x t true false false true d e = impossible (cc)
other-cases x t true false false false true e = refl
other-cases x t true false false false false e = append_assoc x (ascii ": ") (Type-to_string t)

other_text : (x : Bytes) (t : Ty Bytes) {d : Bool} → is_receiver x t ≡ false → is_underscore t ≡ d
    → Formal-to_string (formal x t) ≡ elim d [ true ↦ x | false ↦ x ++ (ascii ": " ++ Type-to_string t) ]
unfolding is_receiver
other_text x t {d} e f =
    by_cases x t ∙ ap (λ (b : Bool). cases x t (same x (ascii "self")) (is_self_owned (Expand t)) (is_self_borrowed t) (is_self_borrowed_mut t) b) f
    ∙ other-cases x t (same x (ascii "self")) (is_self_owned (Expand t)) (is_self_borrowed t) (is_self_borrowed_mut t) d e

not-self-underscore : (x : Bytes) → is_receiver x (TIdentifier (ascii "_")) ≡ false → Formal-to_string (formal x (TIdentifier (ascii "_"))) ≡ x
unfolding is_underscore same ascii ◌and◌
not-self-underscore x e = other_text x (TIdentifier (ascii "_")) {d = true} e refl

not-self-typed : (x : Bytes) (t : Ty Bytes) → is_receiver x t ≡ false → is_underscore t ≡ false → Formal-to_string (formal x t) ≡ x ++ (ascii ": " ++ Type-to_string t)
not-self-typed x t e d = other_text x t {d = false} e d

-- one with another name is none
pub other_name : {x : Bytes} {y : Reading (Ty Bytes)} → same x (ascii "self") ≡ false → NoReceiver x y
unfolding is_receiver ◌and◌
other_name e = record { says = λ t n d. rw e }

-- ---- a field named `self`

unfoldable pub receiver_text : Bytes → Ty Bytes → Receiver → Bytes
receiver_text x t ByValue = x
receiver_text x t ByRef = ascii "&" ++ x
receiver_text x t ByMut = ascii "&mut " ++ x
receiver_text x t Typed = x ++ (ascii ": " ++ Type-to_string t)

-- what stands before the name, where the name shows without its type
unfoldable pub receiver_front : Receiver → Bytes
receiver_front ByValue = []
receiver_front ByRef = ascii "&"
receiver_front ByMut = ascii "&mut "
receiver_front Typed = []

fronted : (x : Bytes) (t : Ty Bytes) (r : Receiver) → (r ≡ Typed → ⊥) → receiver_text x t r ≡ receiver_front r ++ x
unfolding receiver_text receiver_front
fronted x t ByValue h = refl
fronted x t ByRef h = refl
fronted x t ByMut h = refl
fronted x t Typed h = absurd (h refl)

self-cases : (x : Bytes) (t : Ty Bytes) (a b c d : Bool) → cases x t true a b c d ≡ receiver_text x t (pick a ByValue (pick b ByRef (pick c ByMut (pick d ByValue Typed))))
unfolding cases receiver_text ◌and◌
self-cases x t true b c d = refl
self-cases x t false true c d = refl
self-cases x t false false true d = refl
self-cases x t false false false true = refl
self-cases x t false false false false = append_assoc x (ascii ": ") (Type-to_string t)

self-text : (x : Bytes) (t : Ty Bytes) → same x (ascii "self") ≡ true → Formal-to_string (formal x t) ≡ receiver_text x t (receiver_of t)
self-text x t e =
    by_cases x t ∙ ap (λ (s : Bool). cases x t s (is_self_owned (Expand t)) (is_self_borrowed t) (is_self_borrowed_mut t) (is_underscore t)) e
    ∙ self-cases x t (is_self_owned (Expand t)) (is_self_borrowed t) (is_self_borrowed_mut t) (is_underscore t)

-- ---- the same at a place

typed-read : (x : Bytes) (at : ℕ) (y : Reading (Ty Bytes)) → ((t : Ty Bytes) (n : ℕ) → y ≡ got t n → Formal-to_string (formal x t) ≡ x ++ (ascii ": " ++ Type-to_string t))
    → map_reading (λ t. Formal-to_string (formal x t)) y ≡ run (got x at then λ p. got (ascii ": ") p then λ q. last (map_reading Type-to_string y))
unfolding map_reading run
typed-read x at (got t n) h = ap (λ (b : Bytes). got b n) (h t n refl)
typed-read x at (stop k) h = refl

module _ (ws pairs : List ℕ) (text : Bytes) where
  pub formal-got : (at : ℕ) {x p : ℕ} → read_below (name_count pairs) ws at ≡ got x p → formal_at ws pairs text at ≡ formal_of ws pairs text x p
  unfolding read_formal read_name
  formal-got at {x} {p} e =
      let d : formal_at ws pairs text at ≡ map_reading Formal-to_string (type_at ws pairs text p >>= λ t q. got (formal (name_bytes pairs text x) t) q) = rw e in
      d ∙ map-made Formal-to_string (formal (name_bytes pairs text x)) (type_at ws pairs text p)

  pub formal-stop : (at : ℕ) {k : Refusal} → read_below (name_count pairs) ws at ≡ stop k → formal_at ws pairs text at ≡ stop k
  unfolding read_formal read_name map_reading
  formal-stop at e = rw e

  module _ (x at : ℕ) where
    abbrev named : Bytes
    named = name_bytes pairs text x

    module _ (other : NoReceiver named (type_at ws pairs text at)) where
      pub only-name : type_at ws pairs text at ≡ got (TIdentifier (ascii "_")) (at + 2) → formal_of ws pairs text x at ≡ got named (at + 2)
      only-name e = map-got (λ t. Formal-to_string (formal named t)) e ∙ ap (λ (b : Bytes). got b (at + 2)) (not-self-underscore named (other.says _ _ e))

      pub name-and-type : ((t : Ty Bytes) (n : ℕ) → type_at ws pairs text at ≡ got t n → is_underscore t ≡ false) → formal_of ws pairs text x at ≡ typed_at ws pairs text x at
      unfolding run
      name-and-type h = typed-read named at (type_at ws pairs text at) (λ t n e. not-self-typed named t (other.says t n e) (h t n e))

    module _ (self : same named (ascii "self") ≡ true) {t : Ty Bytes} {n : ℕ} (e : type_at ws pairs text at ≡ got t n) where
      pub receiver-text : {r : Receiver} → r ≡ receiver_of t → formal_of ws pairs text x at ≡ got (receiver_text named t r) n
      receiver-text d =
          map-got (λ u. Formal-to_string (formal named u)) e
          ∙ ap (λ (b : Bytes). got b n) (self-text named t self ∙ ap (receiver_text named t) (sym d))

      pub receiver-name : {r : Receiver} → r ≡ receiver_of t → (r ≡ Typed → ⊥) → formal_of ws pairs text x at ≡ got (receiver_front r ++ named) n
      receiver-name {r} d h = receiver-text d ∙ ap (λ (b : Bytes). got b n) (fronted named t r h)

      pub self-and-type : Typed ≡ receiver_of t → formal_of ws pairs text x at ≡ typed_at ws pairs text x at
      unfolding run receiver_text
      self-and-type d = typed-read named at (type_at ws pairs text at) go
        where
          go : (u : Ty Bytes) (m : ℕ) → type_at ws pairs text at ≡ got u m → Formal-to_string (formal named u) ≡ named ++ (ascii ": " ++ Type-to_string u)
          go u m f =
              let v : u ≡ t = cc (e, f) in
              self-text named u self ∙ ap (receiver_text named u) (ap receiver_of v ∙ sym d)

-- ---- a name and a type, as a chain

module _ (ws pairs : List ℕ) (text : Bytes) (x at : ℕ) where
  typed-runs : Runs (typed_at ws pairs text x at) (got (name_bytes pairs text x) at then λ p. got (ascii ": ") p then λ q. last (type_text_at ws pairs text q))
  typed-runs = record { same = refl }

  pub typed-chain : {write : Bool} {o : List ℕ} {pos : ℕ} → Ready write o pos (typed_at ws pairs text x at)
      → ReadyChain write o pos (got (name_bytes pairs text x) at then λ p. got (ascii ": ") p then λ q. last (type_text_at ws pairs text q))
  typed-chain r = ready-runs typed-runs r

  -- the name and what follows it are laid: the type is left
  pub typed-along : {write : Bool} {o o₁ o₂ : List ℕ} {pos p₁ p₂ : ℕ} → Ready write o pos (typed_at ws pairs text x at) → Laid write o pos (name_bytes pairs text x) o₁ p₁ → Laid write o₁ p₁ (ascii ": ") o₂ p₂
      → Along write o pos (typed_at ws pairs text x at) o₂ p₂ (type_text_at ws pairs text at)
  typed-along r k l = record {
    ready = ready-last (ready-next (ready-next (typed-chain r) (came-bytes at k)) (came-bytes at l));
    ends = λ o'' a w. went-runs typed-runs (went_then (came-bytes at k) (went_then (came-bytes at l) (went-last w)));
  }

  -- both are counted at once, by the name's length
  pub typed-counted : {l pos q : ℕ} → Good pairs text → x < name_count pairs → l ≡ name_length pairs x → clamp q ≡ clamp (pos + (l + 2))
      → Along false [] pos (typed_at ws pairs text x at) [] q (type_text_at ws pairs text at)
  unfolding ascii
  typed-counted {l} {pos} {q} good h n c =
      let name = name_bytes pairs text x in
      let m : l ≡ length name = n ∙ sym (name-length pairs text x good h) in
      let e : pos + (l + 2) ≡ pos + length name + 2 = omega (arith, m) in
      let first : Laid false [] pos name [] (pos + length name) = laid-counted refl refl in
      typed-along ready-count first (laid-counted refl (c ∙ ap clamp e))

-- ---- a field that was accepted

module _ (ws pairs : List ℕ) (text : Bytes) {o : List ℕ} {pos : ℕ} where
  pub type-read : (x at : ℕ) → Ready true o pos (formal_of ws pairs text x at) → Readable (type_at ws pairs text at)
  type-read x at r = read_of (type_at ws pairs text at) (formal_of ws pairs text x at) (λ k e. map-stop (λ t. Formal-to_string (formal (name_bytes pairs text x) t)) e) r

  pub formal-there : (at : ℕ) → Ready true o pos (formal_at ws pairs text at) → BelowThere (name_count pairs) ws at
  formal-there at r = below_of (name_count pairs) ws at (formal_at ws pairs text at) (λ k e. formal-stop ws pairs text at e) r

-- ---- how far a field was counted

module _ {rest : ℕ → Reading Bytes} {p : ℕ} where
  pub labelled-as : {x y : Reading Bytes} {r : Result Label Refusal} → x ≡ y → Labelled rest p x r → Labelled rest p y r
  labelled-as {r = r} e l = subst (λ (z : Reading Bytes). Labelled rest p z r) e l

  -- all of a text of known bytes is counted
  pub label-bytes : {x : Reading Bytes} {b : Bytes} {n q : ℕ} → x ≡ got b n → clamp q ≡ clamp (p + length b) → Labelled rest p x (Ok (Whole n q))
  label-bytes e c = labelled-as (sym e) (whole (counts-bytes c))

  module _ {x : Reading Bytes} where
    pub label-open : {r : Result Label Refusal} {n q : ℕ} → Labelled rest p x r → r ≡ Ok (Open n q) → Along false [] p x [] q (rest n)
    label-open {n = n} {q = q} (opened {n = m} {p' = p'} a) e =
        let u : m ≡ n = cc in
        let v : p' ≡ q = cc in
        subst (λ (z : ℕ). Along false [] p x [] q (rest z)) u (subst (λ (z : ℕ). Along false [] p x [] z (rest m)) v a)
    label-open (whole c) e = impossible (cc)
    label-open (unread d) e = impossible (cc)

    pub label-whole : {r : Result Label Refusal} {n q : ℕ} → Labelled rest p x r → r ≡ Ok (Whole n q) → Came false [] p x [] n q
    label-whole (opened a) e = impossible (cc)
    label-whole {n = n} {q = q} (whole {n = m} {p' = p'} c) e =
        let u : m ≡ n = cc in
        let v : p' ≡ q = cc in
        subst (λ (z : ℕ). Came false [] p x [] z q) u (subst (λ (z : ℕ). Came false [] p x [] m z) v c)
    label-whole (unread d) e = impossible (cc)

    pub label-none : {r : Result Label Refusal} {k : Refusal} → Labelled rest p x r → r ≡ Err k → x ≡ stop k
    label-none (opened a) e = impossible (cc)
    label-none (whole c) e = impossible (cc)
    label-none {k = k} (unread {k = m} d) e = let u : m ≡ k = cc in d ∙ ap stop u

    -- the refusal that a `?` hands on
    pub label-handed : {r : Result Label Refusal} {k : Refusal} → IsErrAnd r (λ u. u ≡ k) → x ≡ stop k → Labelled rest p x r
    label-handed e d = subst (λ (z : Result Label Refusal). Labelled rest p x z) (sym (handed-on e)) (unread d)

-- ---- how far a field was written

module _ {rest : ℕ → Reading Bytes} {o : List ℕ} {p : ℕ} {o' : List ℕ} where
  pub written_as : {x y : Reading Bytes} {r : Part} → x ≡ y → LabelWritten rest o p x o' r → LabelWritten rest o p y o' r
  written_as {r = r} e l = subst (λ (z : Reading Bytes). LabelWritten rest o p z o' r) e l

  -- all of a text of known bytes is written
  pub written-bytes : {x : Reading Bytes} {b : Bytes} {s : Spot} → x ≡ got b s.next → Wrote o p b o' s.pos → LabelWritten rest o p x o' (Done s)
  written-bytes {s = s} e w = written_as (sym e) (all (came-bytes s.next (laid-wrote refl w)))

  module _ {x : Reading Bytes} where
    pub written-front : {r : Part} {s : Spot} → LabelWritten rest o p x o' r → r ≡ Rest s → Along true o p x o' s.pos (rest s.next)
    written-front {s = s} (front {s = t} a) e = let u : t ≡ s = cc in subst (λ (z : Spot). Along true o p x o' z.pos (rest z.next)) u a
    written-front (all c) e = impossible (cc)

    pub written_all : {r : Part} {s : Spot} → LabelWritten rest o p x o' r → r ≡ Done s → Came true o p x o' s.next s.pos
    written_all (front a) e = impossible (cc)
    written_all {s = s} (all {s = t} c) e = let u : t ≡ s = cc in subst (λ (z : Spot). Came true o p x o' z.next z.pos) u c
