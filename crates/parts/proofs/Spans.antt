-- Accept, then find: the public answers by where a part of the accepted type is found.
use Rattle.std.specs.Prelude.{Option, Ok, Err, Some, None, Result}
use Prim.Native.Nat.{ℕ, ◌+◌, ◌-◌, ◌≤◌}
use mathlib.Core.Path.{◌≡◌, refl, ap, sym, ◌∙◌}
use mathlib.Core.List.{List, []}
use native.Mathlib.Omega.{arith}
use lib.ListN.{length, take, drop}
use Rattle.rast.specs.Bytes.{Bytes}
use Rattle.rast.specs.Tree.{Ty}
use Rattle.rast.specs.DeclarationToString.{Expand}
use Rattle.encoding.specs.declared.Refusal.{Refusal}
use Rattle.encoding.specs.declared.Refusal.TheVariants.{NoSuchPart}
use Rattle.encoding.specs.Refusals.{Answer}
use Rattle.encoding.specs.Tables.{name_bytes}
use Rattle.encoding.specs.Reading.{Reading, got}
use Rattle.encoding.specs.Types.{type_at, type_of}
use Rattle.encoding.proofs.Tables.{impossible}
use Rattle.encoding.proofs.Names.{part-to}
use Rattle.encoding.proofs.Types.{type-lies}
use Rattle.accepted_types.specs.Accepted.{EndsAt}
use Rattle.accepted_types.proofs.Accepted.{type-here}
use Rattle.tree_words.specs.Renamed.{renamed}
use Rattle.tree_words.specs.Encode.{words, encode}
use Rattle.tree_words.specs.Places.{Place, place}
use Rattle.tree_words.proofs.Renaming.{numbered, words-kept, encode-words, tree-run, type-words}
use Rattle.unwrap.specs.Asked.{Judges, ExpandsAt}
use Rattle.known_paths.specs.Asked.{Finds, found}
use Rattle.shapes.specs.Accepted.{acceptance}
use Rattle.shapes.specs.Parts.{removed_at, owned_at, RemoveSynonyms, ExpandAt, ToOwned}
use Rattle.parts.specs.declared.Wanted.{Wanted}
use Rattle.parts.specs.declared.Wanted.TheVariants.{Removed, Expanded, Owned, OfMultiArray, OfBox, OfPointer, OfRc, OfBoxDyn, OfCollection, OfPlacebo, OfUninitArray}
use Rattle.parts.specs.Answers.{span_of, span_in, part_of, part_words}
use Rattle.parts.specs.declared.Span.{Span}
use Rattle.parts.specs.Asked.{part_for, Spans}
use Rattle.known_paths.proofs.Children.{Standing, Keeps}
use Rattle.known_paths.proofs.Finding.{located, nowhere}
use Rattle.shapes.proofs.Answers.{Accepted, accepted, not-accepted}
use Rattle.shapes.proofs.Behind.{finds-expanded}
use Rattle.shapes.proofs.Parts.{removed-keeps, expanded_keeps, owned-keeps, box-keeps, rc-keeps, placebo-keeps, multi-array-keeps, pointer-keeps, box-dyn-keeps, collection-keeps, uninit-array-keeps}

module _ (ws pairs : List ℕ) (text : Bytes) where
  abbrev again : ℕ → Reading (Ty Bytes)
  again = type_at ws pairs text

  -- every part stands where it is said
  pub part-keeps : (wanted : Wanted) → Keeps ws pairs text (part_for wanted)
  part-keeps Removed = removed-keeps ws pairs text
  part-keeps Expanded = expanded_keeps ws pairs text
  part-keeps Owned = owned-keeps ws pairs text
  part-keeps OfMultiArray = multi-array-keeps ws pairs text
  part-keeps OfBox = box-keeps ws pairs text
  part-keeps OfPointer = pointer-keeps ws pairs text
  part-keeps OfRc = rc-keeps ws pairs text
  part-keeps OfBoxDyn = box-dyn-keeps ws pairs text
  part-keeps OfCollection = collection-keeps ws pairs text
  part-keeps OfPlacebo = placebo-keeps ws pairs text
  part-keeps OfUninitArray = uninit-array-keeps ws pairs text

  -- ---- the parts that every type has

  module _ (at r : ℕ) where
    pub removed-finds : Judges (λ t. (removed_at at t).at) (again at) r → Finds RemoveSynonyms again at (Some r)
    unfolding RemoveSynonyms found
    removed-finds j = record { says = λ t n e. ap Some (j.says t n e) }

    pub owned-finds : Judges (λ t. (owned_at at t).at) (again at) r → Finds ToOwned again at (Some r)
    unfolding ToOwned found
    owned-finds j = record { says = λ t n e. ap Some (j.says t n e) }

    pub expanded-finds : ExpandsAt again at r → Finds ExpandAt again at (Some r)
    unfolding ExpandAt found
    expanded-finds x = finds-expanded ws pairs text at r x ExpandAt (λ p. Some p) (λ p. refl) (record { says = λ t n e. refl })

  -- ---- spans

  module _ (f : Place Bytes → Option (Place Bytes)) where
    pub span_none : {u : Option ℕ} → Finds f again 0 u → u ≡ None → Spans f (again 0) (Err NoSuchPart)
    unfolding span_of
    span_none d k = record { says = λ t n e. rw (nowhere ws pairs text 0 e d k) refl }

    pub span-found : {u : Option ℕ} {s end : ℕ} → Keeps ws pairs text f → Finds f again 0 u → u ≡ Some s → EndsAt (again s) end → Spans f (again 0) (Ok (record { start = s; length = end - s }))
    unfolding span_of
    span-found {u} {s} {end} k d i x = record {
      says = λ t n e.
          let l = located ws pairs text 0 e k d i in
          let z : l.end ≡ end = cc (l.reads, x.reads) in
          let w = type-words ws pairs text s l.reads in
          let o : end - s ≡ words l.tpe = omega (arith, z, w) in
          rw l.is (ap (λ k. Ok (record { start = s; length = k })) o);
    }

    pub part-given : {r : Result Span Refusal} → Accepted ws pairs text → Spans f (again 0) r → r ≡ part_of f ws pairs text
    unfolding part_of span_in
    part-given a s = rw a.is (s.says a.type (length ws) a.reads)

    pub part-refused : {c : Result (Unit {0}) Refusal} {r : Refusal} → c ≡ acceptance (type_of ws pairs text) → c ≡ Err r → Err r ≡ part_of f ws pairs text
    unfolding part_of span_in
    part-refused e d = rw (not-accepted ws pairs text e d) refl

  -- what `Expand` gives of a type that fills the words ends where they do
  module _ {s : ℕ} (a : Accepted ws pairs text) (x : ExpandsAt again 0 s) where
    pub expanded-end : EndsAt (again s) (length ws)
    expanded-end = record { value = Expand a.type; reads = x.expands a.type (length ws) a.reads }

    pub expanded-given : Ok (record { start = s; length = length ws - s }) ≡ part_of ExpandAt ws pairs text
    expanded-given = part-given ExpandAt a (span-found ExpandAt (expanded_keeps ws pairs text) (expanded-finds 0 s x) refl expanded-end)

  -- a part that ends does so behind its start
  pub part-forward : (s : ℕ) {end : ℕ} → EndsAt (again s) end → s ≤ end
  part-forward s x = omega (arith, type-words ws pairs text s x.reads)

-- ---- the words of a part

span-some : (o : Option (Place Bytes)) {p : Span} → span_of o ≡ Ok p → (A : Type 0) → ((q : Place Bytes) → o ≡ Some q → q.at ≡ p.start → words q.tpe ≡ p.length → A) → A
unfolding span_of
span-some None e A k = impossible (cc)
span-some (Some q) {p} e A k = let d = same-given e in k q refl (ap (λ (s : Span). s.start) d) (ap (λ (s : Span). s.length) d)
  where
    same-given : {a b : Span} → ◌≡◌ {A = Answer Span} (Ok a) (Ok b) → a ≡ b
    same-given e = cc

module _ (ws pairs : List ℕ) (text : Bytes) (f : Place Bytes → Option (Place Bytes)) (k : Keeps ws pairs text f) where
  -- a part of the type that fills the words stands where it is said
  part-stands : {t : Ty Bytes} (q : Place Bytes) → type_of ws pairs text ≡ Ok t → f (place 0 t) ≡ Some q → Standing ws pairs text q
  part-stands {t} q i o =
      let a = accepted ws pairs text {c = Ok tt} (rw i refl) refl in
      let j : a.type ≡ t = cc a.is in
      k.keeps (place 0 t) q (record { end = length ws; reads = a.reads ∙ ap (λ y. got y (length ws)) j }) o

  -- where there is a part, there is a type
  typed : {p : Span} → part_of f ws pairs text ≡ Ok p → Accepted ws pairs text
  unfolding part_of span_in
  typed {p} e = go (type_of ws pairs text) refl e
    where
      go : (x : Answer (Ty Bytes)) → type_of ws pairs text ≡ x → span_in f x ≡ Ok p → Accepted ws pairs text
      go (Ok t) i d = accepted ws pairs text {c = Ok tt} (rw i refl) refl
      go (Err r) i d = impossible (cc)

  -- a part's words lie within the words
  within : {p : Span} → part_of f ws pairs text ≡ Ok p → p.start + p.length ≤ length ws
  unfolding part_of span_in
  within {p} e =
      let a = typed e in
      span-some (f (place 0 a.type)) (rw a.is at e) (p.start + p.length ≤ length ws) λ q o u v.
      let s = part-stands q a.is o in
      let h = type-here ws pairs text q.at s.reads in
      let l = type-lies ws pairs text q.at (omega (arith, h)) s.reads in
      omega (arith, l.ends, type-words ws pairs text q.at s.reads, u, v)

  module _ {r : Result Span Refusal} (e : r ≡ part_of f ws pairs text) where
    pub part-within : {p : Span} → r ≡ Ok p → p.start + p.length ≤ length ws
    part-within d = within (sym e ∙ d)

    pub part-few : {p : Span} → r ≡ Ok p → length ws ≤ 8192
    part-few d = (typed (sym e ∙ d)).few

    pub words-given : {p : Span} → r ≡ Ok p → take (p.start + p.length - p.start) (drop p.start ws) ≡ part_words ws (part_of f ws pairs text)
    unfolding part_words
    words-given {p} d = rw (part-to ws p.start p.length, sym e ∙ d) refl

    pub words-refused : {q : Refusal} → r ≡ Err q → [] ≡ part_words ws (part_of f ws pairs text)
    unfolding part_words
    words-refused d = rw (sym e ∙ d) refl

-- ---- what the words of a part hold

-- the words of the part are the encoding of its type, whose names are given by their numbers
pub record Encoded (ws pairs : List ℕ) (text : Bytes) (b : List ℕ) (t : Ty Bytes) : Type 0 where
  pub tree : Ty ℕ
  pub spells : t ≡ renamed (name_bytes pairs text) tree
  pub is : b ≡ encode tree

module _ (ws pairs : List ℕ) (text : Bytes) (f : Place Bytes → Option (Place Bytes)) (k : Keeps ws pairs text f) where
  pub part-encoded : {t : Ty Bytes} (q : Place Bytes) → type_of ws pairs text ≡ Ok t → f (place 0 t) ≡ Some q → Encoded ws pairs text (part_words ws (part_of f ws pairs text)) q.tpe
  unfolding part_of span_in span_of part_words
  part-encoded {t} q i o =
      let s = part-stands ws pairs text f k q i o in
      let h = type-here ws pairs text q.at s.reads in
      let u = numbered ws pairs text q.at s.reads in
      let r = tree-run ws pairs q.at (omega (arith, h)) u.reads in
      let w : words q.tpe ≡ length (encode u.tree) =
      ap words u.spells ∙ words-kept (name_bytes pairs text) u.tree ∙ sym (encode-words u.tree) in
      record { tree = u.tree; spells = u.spells; is = rw (i, o, w) r.0.words }
