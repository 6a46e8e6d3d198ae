-- A question that goes on from a type to one type in it: behind a wrapper or a borrow the answer is the same.
use Prim.Native.Nat.{ℕ, ◌+◌, ◌<◌}
use mathlib.Core.Path.{◌≡◌, refl, ap, sym, ◌∙◌}
use mathlib.Core.List.{List}
use native.Mathlib.Omega.{arith}
use lib.ListN.{length, get_or}
use Rattle.rast.specs.Bytes.{Bytes}
use Rattle.rast.specs.Tree.{Ty, Borrowed, IntersectionType, TSynonym}
use Rattle.encoding.specs.Reading.{got}
use Rattle.encoding.specs.Types.{type_at}
use Rattle.encoding.proofs.Types.{Made₂}
use Rattle.accepted_types.specs.Accepted.{Readable, EndsAt}
use Rattle.accepted_types.proofs.Accepted.{type-here}
use Rattle.tree_words.specs.Encode.{words}
use Rattle.tree_words.proofs.Renaming.{type-words}
use Rattle.unwrap.specs.Asked.{Judges}
use Rattle.unwrap.proofs.TypesIn.{ref-of, both_of, synonym-of, flagged, meta-of}

-- on the way from the type at `at`: the answer about the type at `place` is the answer about that one
pub record Going {A : Type 0} (f : ℕ → Ty Bytes → A) (ws pairs : List ℕ) (text : Bytes) (at place : ℕ) : Type 0 where
  pub type : Ty Bytes
  pub inner : Ty Bytes
  pub end : ℕ
  pub stop : ℕ
  pub reads : type_at ws pairs text at ≡ got type end
  pub left : type_at ws pairs text place ≡ got inner stop
  pub here : place < length ws
  pub same : f place inner ≡ f at type

module _ {A : Type 0} {f : ℕ → Ty Bytes → A} {ws pairs : List ℕ} {text : Bytes} {at : ℕ} where
  pub going_start : Readable (type_at ws pairs text at) → Going f ws pairs text at at
  going_start r = record { type = r.value; inner = r.value; end = r.end; stop = r.end; reads = r.reads; left = r.reads; here = type-here ws pairs text at r.reads; same = refl }

  module _ {place : ℕ} (s : Going f ws pairs text at place) where
    pub going-readable : Readable (type_at ws pairs text place)
    going-readable = record { value = s.inner; end = s.stop; reads = s.left }

    -- another type, of which the answer is the same
    pub going-to : (next stop : ℕ) (u : Ty Bytes) → type_at ws pairs text next ≡ got u stop → f next u ≡ f place s.inner → Going f ws pairs text at next
    going-to next stop u e k = record { type = s.type; inner = u; end = s.end; stop = stop; reads = s.reads; left = e; here = type-here ws pairs text next e; same = k ∙ s.same }

    pub going-ref : get_or ws place 0 ≡ 15 → ((p : ℕ) (u : Ty Bytes) → f p (Borrowed u) ≡ f (p + 1) u) → Going f ws pairs text at (place + 1)
    going-ref h k =
        let m = ref-of ws pairs text place s.left h in
        going-to (place + 1) s.stop m.value m.reads (sym (ap (f place) m.made ∙ k place m.value))

    pub going-display : get_or ws place 0 ≡ 23 → ((p : ℕ) (d b : Ty Bytes) → f p (TSynonym d b) ≡ f (p + 1) d) → Going f ws pairs text at (place + 1)
    going-display h k =
        let m = synonym-of ws pairs text place s.left h in
        going-to (place + 1) m.middle m.left m.reads (sym (ap (f place) m.made ∙ k place m.left m.right))

    first-readable : {c : Ty Bytes → Ty Bytes → Ty Bytes} → Made₂ (type_at ws pairs text (place + 1)) (type_at ws pairs text) c s.inner s.stop → Readable (type_at ws pairs text (place + 1))
    first-readable m = record { value = m.left; end = m.middle; reads = m.reads }

    -- what a synonym's display, or an intersection's left type, is read by
    pub synonym-readable : get_or ws place 0 ≡ 23 → Readable (type_at ws pairs text (place + 1))
    synonym-readable h = first-readable (synonym-of ws pairs text place s.left h)

    pub left-readable : get_or ws place 0 ≡ 21 → Readable (type_at ws pairs text (place + 1))
    left-readable h = first-readable (both_of ws pairs text place s.left h)

    -- and it ends behind the place
    pub first_ends : {next : ℕ} → EndsAt (type_at ws pairs text (place + 1)) next → place < next
    first_ends d = omega (arith, type-words ws pairs text (place + 1) d.reads)

    second : {next : ℕ} (c : Ty Bytes → Ty Bytes → Ty Bytes) → Made₂ (type_at ws pairs text (place + 1)) (type_at ws pairs text) c s.inner s.stop → EndsAt (type_at ws pairs text (place + 1)) next
        → ((p : ℕ) (d b : Ty Bytes) → f p (c d b) ≡ f (p + 1 + words d) b) → Going f ws pairs text at next
    second {next} c m d k =
        let o : m.middle ≡ next = cc (m.reads, d.reads) in
        let w : m.middle ≡ place + 1 + words m.left = type-words ws pairs text (place + 1) m.reads in
        going-to next s.stop m.right (ap (type_at ws pairs text) (sym o) ∙ m.reads₂) (sym (ap (f place) m.made ∙ k place m.left m.right ∙ ap (λ q. f q m.right) (sym w ∙ o)))

    pub going-base : {next : ℕ} → get_or ws place 0 ≡ 23 → EndsAt (type_at ws pairs text (place + 1)) next → ((p : ℕ) (d b : Ty Bytes) → f p (TSynonym d b) ≡ f (p + 1 + words d) b) → Going f ws pairs text at next
    going-base h d k = second TSynonym (synonym-of ws pairs text place s.left h) d k

    pub going-right : {next : ℕ} → get_or ws place 0 ≡ 21 → EndsAt (type_at ws pairs text (place + 1)) next → ((p : ℕ) (l r : Ty Bytes) → f p (IntersectionType l r) ≡ f (p + 1 + words l) r) → Going f ws pairs text at next
    going-right h d k = second IntersectionType (both_of ws pairs text place s.left h) d k

    pub going-meta : get_or ws place 0 ≡ 24 → ((d : Ty Bytes) → f place (flagged ws pairs text place s.left d) ≡ f (place + 2) d) → Going f ws pairs text at (place + 2)
    going-meta h k =
        let m = (meta-of ws pairs text place s.left h).1 in
        going-to (place + 2) s.stop m.value m.reads (sym (ap (f place) m.made ∙ k m.value))

    pub meta-inside : get_or ws place 0 ≡ 24 → place + 1 < length ws
    meta-inside h = (meta-of ws pairs text place s.left h).0

    -- the answer at the end of the way
    pub arrived : {r : A} → r ≡ f place s.inner → Judges (f at) (type_at ws pairs text at) r
    arrived {r} k = record {
      says = λ t n e.
          let i : s.type ≡ t = cc s.reads in
          k ∙ s.same ∙ ap (f at) i;
    }

    pub arrived-by : {r : A} (g : Ty Bytes → A) → Judges g (type_at ws pairs text place) r → g s.inner ≡ f place s.inner → Judges (f at) (type_at ws pairs text at) r
    arrived-by g j k = arrived (j.says s.inner s.stop s.left ∙ k)
