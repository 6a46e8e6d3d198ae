-- The pointer that a type is, by the words that stand there, and its name.
use Rattle.std.specs.Prelude.{Some, None, Option}
use Rattle.std.proofs.Common.{◌≡◌, ℕ, ◌+◌, ◌<◌, ◌≤◌, Bool, true, false, eqb, List, get_or, sym, refl, ap, ◌∙◌, arith, eq-eqb, ne_eqb}
use Rattle.rast.specs.Bytes.{Bytes, ascii, same, ◌and◌}
use Rattle.rast.specs.Tree.{Ty, Tys, nil, cons, count}
use Rattle.rast.specs.DeclarationToString.{Expand}
use Rattle.rast.proofs.BytesLaws.{and-false, and-true, or-true}
use Rattle.rast.proofs.SourceEquations.{expand-by}
use Rattle.encoding.specs.declared.PathAt.{PathAt}
use Rattle.encoding.specs.HeadWords.{InsidePath}
use Rattle.encoding.specs.Refusals.{pick}
use Rattle.encoding.specs.Reading.{got}
use Rattle.encoding.specs.Tables.{name_bytes, name_count}
use Rattle.encoding.specs.Types.{path_of, type_at}
use Rattle.encoding.proofs.Tables.{impossible}
use Rattle.encoding.proofs.Types.{types-count}
use Rattle.accepted_types.specs.Accepted.{Readable}
use Rattle.tree_words.specs.Encode.{words}
use Rattle.tree_words.specs.Numbered.{tree_at}
use Rattle.tree_words.specs.Places.{place}
use Rattle.tree_words.specs.Renamed.{renamed}
use Rattle.tree_words.proofs.Renaming.{type-words}
use Rattle.unwrap.specs.Asked.{Judges, ExpandsAt}
use Rattle.unwrap.proofs.TypesIn.{apply-of}
use Rattle.unwrap.proofs.Expanding.{synonym-words, meta-words}
use Rattle.known_paths.specs.declared.Class.{Class}
use Rattle.known_paths.specs.declared.Class.TheVariants.{ObjectClass, PtrClass}
use Rattle.known_paths.specs.Asked.{InRuntime, found, Finds}
use Rattle.known_paths.specs.Classes.{in_class, member_in, arity, is_of}
use Rattle.known_paths.specs.Matches.{applied}
use Rattle.known_paths.specs.Steps.{when, type_at_index, argument_at, argument_of}
use Rattle.known_paths.proofs.Paths.{class-object, class-pointer}
use Rattle.known_paths.proofs.Worded.{word-other, count-other, base-word-other, path-word, path-here}
use Rattle.shapes.specs.Parts.{expanded, ObjectOrPointerUnderlying}
use Rattle.shapes.specs.Shapes.{IsObject, IsObjectOrPointer}
use Rattle.shapes.proofs.Pointers.{expanded-tree, pointer_is}
use Rattle.rebuild_initial.specs.Initialized.{pointer_name, Member, OfRuntime, under_pointer, Points}
use Rattle.rebuild_initial.proofs.Changes.{type-read, expanded-place}

-- ---- members of `dafny_runtime`

object-member : Member ObjectClass
unfolding arity
object-member = record { one = refl; by = class-object }

pointer-member : Member PtrClass
unfolding arity
pointer-member = record { one = refl; by = class-pointer }

module _ (ws pairs : List ℕ) (text : Bytes) (at : ℕ) where
  runtime-none : ((class : Class) → Member class → Judges (is_of class) (type_at ws pairs text at) false) → OfRuntime ws pairs text at false
  unfolding ◌and◌
  runtime-none h = record { inside = λ e. impossible (cc); below = λ e. impossible (cc); of = h; argument = λ t n e. impossible (cc) }

  pub runtime-kind : (get_or ws at 0 ≡ 14 → ⊥) → OfRuntime ws pairs text at false
  runtime-kind h = runtime-none λ class m. word-other ws pairs text at class h

  module _ (k : get_or ws at 0 ≡ 14) where
    pub runtime-arguments : (get_or ws (at + 1) 0 ≡ 1 → ⊥) → OfRuntime ws pairs text at false
    runtime-arguments h = runtime-none λ class m. count-other ws pairs text at class k (sym m.one) h

    pub runtime-base : (get_or ws (at + 2) 0 ≡ 13 → ⊥) → OfRuntime ws pairs text at false
    runtime-base h = runtime-none λ class m. base-word-other ws pairs text at class k h

first-index : (p : ℕ) (ts : Tys Bytes) → count ts ≡ 1 → found (type_at_index 0 p ts) ≡ Some p
unfolding type_at_index found count
first-index p nil e = absurd (let z : ⊥ = omega (arith, e) in z)
first-index p (cons t ts) e = refl

module _ (ws pairs : List ℕ) (text : Bytes) (at : ℕ) (x : Readable (type_at ws pairs text at)) (k : get_or ws at 0 ≡ 14) (j : get_or ws (at + 1) 0 ≡ 1) (h : get_or ws (at + 2) 0 ≡ 13) where
  abbrev there : PathAt
  there = record { root = get_or ws (at + 2 + 1) 0; start = at + 2 + 3; count = get_or ws (at + 2 + 2) 0 }

  pub runtime-path : {r : Bool} → InRuntime ws pairs text there r → OfRuntime ws pairs text at r
  unfolding argument_at
  runtime-path {r} i = record {
    inside = λ e. omega (arith, own.inside, i.two e);
    below = λ e. rw last (own.below (at + 2 + 3 + 1) (omega arith) (omega (arith, i.two e)));
    of = λ class m. path-word ws pairs text at class k (sym m.one) j h (member class m);
    argument = λ t n e d.
        let a = (apply-of ws pairs text at d k).1 in
        let p = path-here ws pairs text at (record { value = t; end = n; reads = d }) k h in
        let c = types-count (type_at ws pairs text) (get_or ws (at + 1) 0) a.middle a.reads₂ ∙ j in
        let w = type-words ws pairs text (at + 2) a.reads in
        let q : at + 2 + words a.left ≡ at + 7 = omega (arith, w, p.end, i.two e) in
        rw a.made (first-index (at + 2 + words a.left) a.right c ∙ ap Some q);
  }
    where
      own : InsidePath (name_count pairs) ws there
      own = (path-here ws pairs text at x k h).own

      last : at + 6 ≡ at + 2 + 3 + 1
      last = omega arith

      member : (class : Class) → Member class → (r and member_in class (name_bytes pairs text (get_or ws (at + 6) 0))) ≡ in_class class (path_of ws (name_bytes pairs text) there)
      member class m = rw last (sym (m.by (path_of ws (name_bytes pairs text) there) ∙ i.says (member_in class)))

-- ---- behind wrappers

-- a type in wrappers is no application itself, and their words stand before what is in them
bare-only : (t : Ty Bytes) (at : ℕ) → at + words (Expand t) ≡ words t → is_of ObjectClass t ≡ (is_of ObjectClass (Expand t) and eqb at 0)
unfolding is_of applied
bare-only t =
    (expand-by (λ t u. (words u ≤ words t) × ((at : ℕ) → at + words u ≡ words t → is_of ObjectClass t ≡ (is_of ObjectClass u and eqb at 0)))
    (λ t h. (omega arith, λ at e. sym (ap (λ x. is_of ObjectClass t and x) (eq-eqb at 0 (omega (arith, e))) ∙ and-true (is_of ObjectClass t))))
    (λ d b u h. (omega (arith, h.0, synonym-words d b), λ at e. sym (wrapped u at (omega (arith, h.0, e, synonym-words d b)))))
    (λ d u c o h. (omega (arith, h.0, meta-words d c o), λ at e. sym (wrapped u at (omega (arith, h.0, e, meta-words d c o))))) t).1
  where
    wrapped : (u : Ty Bytes) (at : ℕ) → 0 < at → (is_of ObjectClass u and eqb at 0) ≡ false
    wrapped u at h = ap (λ x. is_of ObjectClass u and x) (ne_eqb at 0 (λ e. omega (arith, h, e))) ∙ and-false (is_of ObjectClass u)

module _ (ws pairs : List ℕ) (text : Bytes) (r : Readable (tree_at ws pairs 0)) (at : ℕ) (x : ExpandsAt (type_at ws pairs text) 0 at) {b : Bool} (o : OfRuntime ws pairs text at b) where
  abbrev bytes : ℕ → Bytes
  bytes = name_bytes pairs text

  abbrev type : Ty Bytes
  type = renamed bytes r.value

  abbrev member : Bytes
  member = bytes (get_or ws (at + 6) 0)

  opened : type_at ws pairs text at ≡ got (Expand type) r.end
  opened = x.expands type r.end (type-read ws pairs text 0 r.reads)

  stands : at + words (Expand type) ≡ words type
  stands = omega (arith, type-words ws pairs text at opened, type-words ws pairs text 0 (type-read ws pairs text 0 r.reads))

  object-is : (b and same member (ascii "Object")) ≡ is_of ObjectClass (Expand type)
  unfolding member_in
  object-is = (o.of ObjectClass object-member).says (Expand type) r.end opened

  pointer-like : (b and same member (ascii "Ptr")) ≡ is_of PtrClass (Expand type)
  unfolding member_in
  pointer-like = (o.of PtrClass pointer-member).says (Expand type) r.end opened

  -- the answer to the type that was read
  part_of : (m : Option (ℕ × ℕ)) → under_pointer m ≡ found (ObjectOrPointerUnderlying (place 0 type)) → Finds ObjectOrPointerUnderlying (type_at ws pairs text) 0 (under_pointer m)
  part_of m e = record {
    says = λ t n d.
        let k = type-read ws pairs text 0 r.reads in
        let i : type ≡ t = cc (k, d) in
        e ∙ ap (λ u. found (ObjectOrPointerUnderlying (place 0 u))) i;
  }

  pub no-pointer-here : (b and same member (ascii "Object")) ≡ false → (b and same member (ascii "Ptr")) ≡ false → Points ws pairs text None
  unfolding ObjectOrPointerUnderlying when found under_pointer
  no-pointer-here h k =
      let z : IsObjectOrPointer type ≡ false = sym (pointer_is type) ∙ rw (sym pointer-like, sym object-is, h, k) refl in
      record { part = part_of None (rw z refl); name = λ n p e. impossible (cc) }

  points_to : (k : ℕ) → b ≡ true → IsObjectOrPointer type ≡ true → k ≡ pick (is_of ObjectClass (Expand type) and eqb at 0) 11 12 → Points ws pairs text (Some (k, at + 7))
  unfolding ObjectOrPointerUnderlying expanded argument_of when under_pointer IsObject is_of in_class arity
  points_to k e y n =
      let q : found (argument_at 0 at (Expand type)) ≡ Some (at + 7) = o.argument (Expand type) r.end e opened in
      record {
        part = part_of (Some (k, at + 7)) (rw (y, expanded-tree 0 type, expanded-place ws pairs text 0 r at x) (sym q));
        name = λ m p d. record {
          names = λ t l c.
              let i : r.value ≡ t = cc (r.reads, c) in
              let q : ◌≡◌ {A = ℕ × ℕ} (k, at + 7) (m, p) = cc in
              let j : k ≡ m = ap (λ z. z.0) q in
              sym j ∙ n ∙ ap (λ u. pick u 11 12) (sym (bare-only type at stands) ∙ ap (λ u. is_of ObjectClass (renamed bytes u)) i);
        };
      }

  module _ (e : b ≡ true) where
    pub object-here : {k : ℕ} → same member (ascii "Object") ≡ true → k ≡ pointer_name at → Points ws pairs text (Some (k, at + 7))
    unfolding ◌and◌ pointer_name
    object-here {k} h n =
        let i : is_of ObjectClass (Expand type) ≡ true = sym object-is ∙ rw (e, h) refl in
        points_to k e (sym (pointer_is type) ∙ rw i (or-true (is_of PtrClass (Expand type)))) (n ∙ rw i refl)

    pub pointer-here : same member (ascii "Object") ≡ false → same member (ascii "Ptr") ≡ true → Points ws pairs text (Some (12, at + 7))
    unfolding ◌and◌
    pointer-here h k =
        let i : is_of ObjectClass (Expand type) ≡ false = sym object-is ∙ rw (e, h) refl in
        let j : is_of PtrClass (Expand type) ≡ true = sym pointer-like ∙ rw (e, k) refl in
        points_to 12 e (sym (pointer_is type) ∙ rw j refl) (rw i refl)

    pub neither-here : same member (ascii "Object") ≡ false → same member (ascii "Ptr") ≡ false → Points ws pairs text None
    unfolding ◌and◌
    neither-here h k = no-pointer-here (rw (e, h) refl) (rw (e, k) refl)

  pub none_here : b ≡ false → Points ws pairs text None
  unfolding ◌and◌
  none_here e = no-pointer-here (rw e refl) (rw e refl)
