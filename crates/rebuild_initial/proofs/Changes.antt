-- What changes at initialization, by what the finders answer.
use Rattle.std.specs.Prelude.{Option, Some, None}
use Rattle.std.proofs.Common.{◌≡◌, ℕ, ◌+◌, ◌-◌, ◌<◌, ◌≤◌, Bool, true, false, eqb, List, [], ◌∷◌, ◌++◌, length, get_or, take, drop, sym, refl, ap, ◌∙◌, subst, append-nil, arith, length-append, eq-eqb, ne_eqb, eqb-true}
use mathlib.Core.List.{map-append}
use Rattle.rast.specs.Bytes.{Bytes, ◌and◌, ◌or◌}
use Rattle.rast.specs.Tree.{Path, Global, PMemberSelect, Ty, Tys, Primitive, TIdentifier, TypeFromPath, TypeApp, Borrowed, BorrowedMut, ImplType, DynType, TupleType, FnType, IntersectionType, Array, TSynonym, TMetaData, nil, cons, count}
use Rattle.rast.specs.DeclarationToString.{Expand}
use Rattle.rast.proofs.BytesLaws.{and_right}
use Rattle.rast.proofs.SourceEquations.{expand-by}
use Rattle.encoding.specs.Reading.{got}
use Rattle.encoding.specs.Scans.{map_reading}
use Rattle.encoding.specs.Tables.{name_bytes}
use Rattle.encoding.specs.Types.{size_of, type_at}
use Rattle.encoding.proofs.Tables.{impossible}
use Rattle.encoding.proofs.TypeKinds.{kind, type-kind}
use Rattle.accepted_types.specs.Accepted.{Readable}
use Rattle.tree_words.specs.Renamed.{renamed_size, renamed, renamed_all}
use Rattle.tree_words.specs.Encode.{token_word, root_word, names, path_tokens, tokens, tokens_all, words, encode}
use Rattle.tree_words.specs.Numbered.{tree_at}
use Rattle.tree_words.specs.Places.{Place, place}
use Rattle.tree_words.proofs.Heads.{tree-here}
use Rattle.tree_words.proofs.Renaming.{words-kept, encode-words, spelled, tree-run, type-words}
use Rattle.rebuild_spec.specs.Laying.{depth, deepest}
use Rattle.unwrap.specs.Asked.{ExpandsAt}
use Rattle.unwrap.proofs.TypesIn.{array_of}
use Rattle.unwrap.proofs.Expanding.{expands-readable}
use Rattle.known_paths.specs.declared.Class.TheVariants.{ArrayClass}
use Rattle.known_paths.specs.Asked.{found, is_found, Finds}
use Rattle.known_paths.specs.Classes.{in_class, arity, is_of, first}
use Rattle.known_paths.specs.Matches.{applied, type_in, argument, unsized}
use Rattle.known_paths.specs.Steps.{when, and_then, or_else, type_at_index, argument_at, argument_of}
use Rattle.known_paths.proofs.Applying.{first_found, first-other}
use Rattle.shapes.specs.Parts.{expanded_at, expanded, ObjectOrPointerUnderlying}
use Rattle.shapes.specs.Shapes.{IsObject, IsPointer, IsObjectOrPointer, IsMultiArray}
use Rattle.shapes.specs.Initialization.{own_number, MaybeUninitType, applied_to_uninit, new_underlying}
use Rattle.shapes.proofs.Pointers.{expanded-tree, multi-array-is, pointer-found}
use Rattle.rebuild_type.proofs.Growing.{front-taken}
use Rattle.rebuild_initial.specs.Initialized.{uninit_words, new_array, Pieces, pieces, unchanged, Becomes}
use Rattle.rebuild_initial.proofs.Parts.{tree-words, array-below, apply-below, deep-some, opened, OneArgument, one_argument}

-- ---- words and depths

-- an application of a path to one type: its words, and those before the type
pub one-words : (p : Path ℕ) (a : Ty ℕ) → encode (TypeApp (TypeFromPath p) (cons a nil)) ≡ (14 ∷ 1 ∷ encode (TypeFromPath p)) ++ encode a
unfolding encode tokens tokens_all token_word count
one-words p a = rw (append-nil (tokens a)) (ap (λ l. 14 ∷ 1 ∷ l) (map-append token_word (tokens (TypeFromPath p)) (tokens a)))

pub one-depth : (p : Path ℕ) (a : Ty ℕ) → 0 < depth a → depth (TypeApp (TypeFromPath p) (cons a nil)) ≡ 1 + depth a
unfolding depth deepest
one-depth p a h = omega (arith, h)

uninit-words : (a : Ty ℕ) → encode (MaybeUninitType own_number a) ≡ uninit_words ++ encode a
unfolding MaybeUninitType encode tokens path_tokens root_word names token_word
uninit-words a = one-words (PMemberSelect (PMemberSelect (PMemberSelect Global 1) 8) 9) a

uninit-depth : (a : Ty ℕ) → 0 < depth a → depth (MaybeUninitType own_number a) ≡ 1 + depth a
unfolding MaybeUninitType
uninit-depth a h = one-depth (PMemberSelect (PMemberSelect (PMemberSelect Global 1) 8) 9) a h

pub pieces_of : (ws pairs : List ℕ) (around : ℕ) (t : Ty ℕ) (end : ℕ) (new : Option (Ty ℕ)) (array u : Ty ℕ) (start element : ℕ) → new ≡ Some array → start ≤ element → element ≤ length ws
    → tree_at ws pairs element ≡ got u end → encode array ≡ take (element - start) (drop start ws) ++ (uninit_words ++ encode u) → depth array ≡ 2 + depth u → around + depth u ≤ depth t
    → Pieces ws pairs around t end new (Some (start, element))
pieces_of ws pairs around t end new array u start element e h l k w d a = pieces e h l k w d a

-- more types stand around an element than around what it stands in
pieces-below : {ws pairs : List ℕ} {s : Ty ℕ} {end : ℕ} {new : Option (Ty ℕ)} {r : Option (ℕ × ℕ)} (t : Ty ℕ) → 1 + depth s ≤ depth t → Pieces ws pairs 1 s end new r → Pieces ws pairs 2 t end new r
pieces-below {ws} {pairs} {s} {end} {new} t q (pieces {array = v} {u = u} {start = i} {element = j} e h l k w d a) = pieces_of ws pairs 2 t end new v u i j e h l k w d (omega (arith, q, a))
pieces-below t q (unchanged e) = unchanged e

-- what stands behind wrappers is no deeper
expand-deep : (t : Ty ℕ) → depth (Expand t) ≤ depth t
unfolding depth
expand-deep = expand-by (λ t u. depth u ≤ depth t) (λ t h. omega arith) (λ d b u h. omega (arith, h)) (λ d u c o h. omega (arith, h))

-- so its argument is less deep
argument-deep : (t : Ty ℕ) (p : Path ℕ) (a : Ty ℕ) → 0 < depth a → Expand t ≡ TypeApp (TypeFromPath p) (cons a nil) → 1 + depth a ≤ depth t
argument-deep t p a h e = omega (arith, expand-deep t, ap depth e, one-depth p a h)

-- ---- arrays

module _ (f : ℕ → Bytes) where
  record IsArray (s : Ty ℕ) (z : Option Bytes) : Type 0 where
    element : Ty ℕ
    size : Option ℕ
    made : s ≡ Array element size
    sized : renamed_size f size ≡ z

  -- a type is an array, or it has no element
  array-cases : (P : Ty ℕ → Type 0) → ((u : Ty ℕ) (z : Option ℕ) → P (Array u z)) → ((s : Ty ℕ) → ((v : Ty Bytes) (z : Option Bytes) → renamed f s ≡ Array v z → ⊥) → unsized s ≡ None → P s) → (s : Ty ℕ) → P s
  unfolding unsized renamed
  array-cases P h k (Primitive p) = k (Primitive p) (λ v z e. impossible (cc)) refl
  array-cases P h k (TIdentifier x) = k (TIdentifier x) (λ v z e. impossible (cc)) refl
  array-cases P h k (TypeFromPath p) = k (TypeFromPath p) (λ v z e. impossible (cc)) refl
  array-cases P h k (TypeApp b ts) = k (TypeApp b ts) (λ v z e. impossible (cc)) refl
  array-cases P h k (Borrowed t) = k (Borrowed t) (λ v z e. impossible (cc)) refl
  array-cases P h k (BorrowedMut t) = k (BorrowedMut t) (λ v z e. impossible (cc)) refl
  array-cases P h k (ImplType t) = k (ImplType t) (λ v z e. impossible (cc)) refl
  array-cases P h k (DynType t) = k (DynType t) (λ v z e. impossible (cc)) refl
  array-cases P h k (TupleType ts) = k (TupleType ts) (λ v z e. impossible (cc)) refl
  array-cases P h k (FnType ts t) = k (FnType ts t) (λ v z e. impossible (cc)) refl
  array-cases P h k (IntersectionType l r) = k (IntersectionType l r) (λ v z e. impossible (cc)) refl
  array-cases P h k (Array t s) = h t s
  array-cases P h k (TSynonym d b) = k (TSynonym d b) (λ v z e. impossible (cc)) refl
  array-cases P h k (TMetaData d c o) = k (TMetaData d c o) (λ v z e. impossible (cc)) refl

  is-array : (s : Ty ℕ) {v : Ty Bytes} {z : Option Bytes} → renamed f s ≡ Array v z → IsArray s z
  unfolding renamed
  is-array s {v} {z} =
      array-cases (λ s. renamed f s ≡ Array v z → IsArray s z) (λ u y e. record { element = u; size = y; made = refl; sized = cc }) (λ s k n e. absurd (k v z e)) s

  no_size : (z : Option ℕ) → renamed_size f z ≡ None → z ≡ None
  unfolding renamed_size
  no_size None e = refl
  no_size (Some x) e = impossible (cc)

  -- an array with a size stays
  sized-stays : (u : Ty ℕ) (z : Option ℕ) {x : Bytes} → renamed_size f z ≡ Some x → new_underlying own_number (renamed f) (Array u z) ≡ None
  unfolding renamed_size new_underlying unsized and_then or_else when IsMultiArray applied Expand renamed
  sized-stays u None e = impossible (cc)
  sized-stays u (Some y) e = refl

  not-unsized : (s : Ty ℕ) → (kind (renamed f s) ≡ 22 → ⊥) → unsized s ≡ None
  unfolding renamed
  not-unsized = array-cases (λ s. (kind (renamed f s) ≡ 22 → ⊥) → unsized s ≡ None) (λ u z h. absurd (h refl)) (λ s k n h. n)

  -- what becomes of a type that is no array
  new_none : (s : Ty ℕ) → unsized s ≡ None → IsMultiArray (renamed f s) ≡ false → new_underlying own_number (renamed f) s ≡ None
  unfolding new_underlying and_then or_else when
  new_none s e d = rw (e, d) refl

  new-multi : (s : Ty ℕ) (p : Path ℕ) (a : Ty ℕ) → unsized s ≡ None → IsMultiArray (renamed f s) ≡ true → Expand s ≡ TypeApp (TypeFromPath p) (cons a nil)
      → new_underlying own_number (renamed f) s ≡ Some (TypeApp (TypeFromPath p) (cons (MaybeUninitType own_number a) nil))
  unfolding new_underlying and_then or_else when argument type_in applied_to_uninit
  new-multi s p a e d k = rw (e, d, k) refl

  new-behind : (t : Ty ℕ) {p : Path ℕ} {a : Ty ℕ} → IsObjectOrPointer (renamed f t) ≡ true → Expand t ≡ TypeApp (TypeFromPath p) (cons a nil) → new_array f t ≡ new_underlying own_number (renamed f) a
  unfolding new_array when and_then argument type_in
  new-behind t y e = rw (y, e) refl

one-counted : (a : Bool) (ts : Tys Bytes) → (a and eqb (count ts) 1) ≡ true → count ts ≡ 1
one-counted a ts e = eqb-true (count ts) 1 (and_right a (eqb (count ts) 1) e)

or-either : (a b : Bool) (C : Type 0) → (a or b) ≡ true → (a ≡ true → C) → (b ≡ true → C) → C
or-either true b C e f g = f refl
or-either false b C e f g = g e

-- where an argument that was found stands
found-when : (b : Bool) (x : Option (Place Bytes)) {at : ℕ} → found (when b x) ≡ Some at → found x ≡ Some at
unfolding when found
found-when true x e = e
found-when false x e = impossible (cc)

argument-place : (f : ℕ → Bytes) (q : ℕ) (p : Path ℕ) (a : Ty ℕ) {at : ℕ} → found (argument_at 0 q (renamed f (TypeApp (TypeFromPath p) (cons a nil)))) ≡ Some at → q + 2 + words (TypeFromPath p) ≡ at
unfolding found argument_at type_at_index renamed renamed_all
argument-place f q p a {at} e =
    let i : q + 2 + words (renamed f (TypeFromPath p)) ≡ at = cc in
    omega (arith, i, words-kept f (TypeFromPath p))

-- ---- where the array stands

module _ (ws pairs : List ℕ) (text : Bytes) where
  abbrev bytes : ℕ → Bytes
  bytes = name_bytes pairs text

  pub type-read : (at : ℕ) {t : Ty ℕ} {n : ℕ} → tree_at ws pairs at ≡ got t n → type_at ws pairs text at ≡ got (renamed bytes t) n
  unfolding map_reading
  type-read at e = rw (spelled ws pairs text at, e) refl

  pub type-readable : (at : ℕ) → Readable (tree_at ws pairs at) → Readable (type_at ws pairs text at)
  type-readable at r = record { value = renamed bytes r.value; end = r.end; reads = type-read at r.reads }

  -- what stands behind its wrappers
  pub expanded-readable : (at : ℕ) → Readable (tree_at ws pairs at) → {start : ℕ} → ExpandsAt (type_at ws pairs text) at start → Readable (type_at ws pairs text start)
  expanded-readable at r {start} x = expands-readable ws pairs text at start x (type-readable at r)

  -- where `Expand` of a tree stands
  pub expanded-place : (at : ℕ) (r : Readable (tree_at ws pairs at)) (start : ℕ) → ExpandsAt (type_at ws pairs text) at start → (expanded_at at (renamed bytes r.value)).at ≡ start
  expanded-place at r start x =
      let t = renamed bytes r.value in
      let o = opened ws pairs bytes at r.value r.reads in
      let i : Expand t ≡ renamed bytes (Expand r.value) = sym (expanded-tree at t) ∙ o.tree in
      let w = type-words ws pairs text start (x.expands t r.end (type-read at r.reads)) in
      let v = tree-words ws pairs (expanded_at at t).at o.reads in
      omega (arith, w, v, ap words i, words-kept bytes (Expand r.value))

  -- what begins with another word has no first argument
  pub no-application : (start : ℕ) → (get_or ws start 0 ≡ 14 → ⊥) → Finds (first ArrayClass) (type_at ws pairs text) start None
  no-application start h = record { says = λ t n e. sym (first-other ArrayClass start t λ c. h (sym (type-kind ws pairs text start e) ∙ c)) }

  module _ (at : ℕ) (r : Readable (tree_at ws pairs at)) where
    abbrev tree : Ty ℕ
    tree = r.value

    abbrev type : Ty Bytes
    type = renamed bytes r.value

    -- an array's second word
    pub size-here : get_or ws at 0 ≡ 22 → at + 1 < length ws
    size-here h = (array_of ws pairs text at (type-read at r.reads) h).0

    pub new-unsized : get_or ws at 0 ≡ 22 → get_or ws (at + 1) 0 ≡ 0 → Becomes (new_underlying own_number (renamed bytes)) 1 ws pairs at (Some (at, at + 2))
    unfolding size_of new_underlying unsized and_then or_else encode tokens token_word depth
    new-unsized h k =
        let m = (array_of ws pairs text at (type-read at r.reads) h).1 in
        let e : type ≡ Array m.value None = m.made ∙ rw (eq-eqb (get_or ws (at + 1) 0) 0 k) refl in
        let a = is-array bytes tree e in
        let s : tree ≡ Array a.element None = a.made ∙ ap (Array a.element) (no_size bytes a.size a.sized) in
        go a.element (r.reads ∙ ap (λ t. got t r.end) s)
      where
        deep : (u : Ty ℕ) → depth (MaybeUninitType own_number u) ≡ 1 + depth u → depth (Array (MaybeUninitType own_number u) None) ≡ 2 + depth u
        deep u d = omega (arith, d)

        go : (u : Ty ℕ) → tree_at ws pairs at ≡ got (Array u None) r.end → Becomes (new_underlying own_number (renamed bytes)) 1 ws pairs at (Some (at, at + 2))
        go u e =
            let d = array-below ws pairs at e in
            let t = tree-here ws pairs (at + 2) d in
            let w = (tree-run ws pairs at (omega (arith, t)) e).0 in
            let z : at + 2 - at ≡ 2 = omega arith in
            let front : take (at + 2 - at) (drop at ws) ≡ 22 ∷ 0 ∷ [] = rw z (front-taken (drop at ws) (22 ∷ 0 ∷ []) (encode u) 2 (length (22 ∷ 0 ∷ encode u)) w.words refl (omega arith)) in
            record {
              tree = Array u None;
              end = r.end;
              reads = e;
              by = pieces_of ws pairs 1 (Array u None) r.end (new_underlying own_number (renamed bytes) (Array u None)) (Array (MaybeUninitType own_number u) None) u at (at + 2) refl (omega arith) (omega (arith, t)) d
                  (ap (λ l. 22 ∷ 0 ∷ l) (uninit-words u) ∙ ap (λ l. l ++ (uninit_words ++ encode u)) (sym front))
                  (deep u (uninit-depth u (deep-some ws pairs (at + 2) d))) (omega arith);
            }

    pub new-sized : get_or ws at 0 ≡ 22 → (get_or ws (at + 1) 0 ≡ 0 → ⊥) → Becomes (new_underlying own_number (renamed bytes)) 1 ws pairs at None
    unfolding size_of
    new-sized h k =
        let m = (array_of ws pairs text at (type-read at r.reads) h).1 in
        let e : type ≡ Array m.value (Some (bytes (get_or ws (at + 1) 0 - 1))) = m.made ∙ rw (ne_eqb (get_or ws (at + 1) 0) 0 k) refl in
        let a = is-array bytes tree e in
        record {
          tree = r.value;
          end = r.end;
          reads = r.reads;
          by = unchanged (ap (new_underlying own_number (renamed bytes)) a.made ∙ sized-stays bytes a.element a.size a.sized);
        }

    -- no array: what `Expand` gives is asked
    module _ (h : get_or ws at 0 ≡ 22 → ⊥) (start : ℕ) (x : ExpandsAt (type_at ws pairs text) at start) {m : Option ℕ} (d : Finds (first ArrayClass) (type_at ws pairs text) start m) where
      no-array : unsized tree ≡ None
      no-array = not-unsized bytes tree λ k. h (sym (type-kind ws pairs text at (type-read at r.reads)) ∙ k)

      said : m ≡ found (first ArrayClass (place start (Expand type)))
      said = d.says (Expand type) r.end (x.expands type r.end (type-read at r.reads))

      multi : is_found m ≡ IsMultiArray type
      multi = ap is_found said ∙ first_found ArrayClass (place start (Expand type)) ∙ sym (multi-array-is type)

      pub new-no-part : m ≡ None → Becomes (new_underlying own_number (renamed bytes)) 1 ws pairs at None
      new-no-part e = record {
        tree = r.value;
        end = r.end;
        reads = r.reads;
        by = unchanged (new_none bytes tree no-array (sym multi ∙ ap is_found e));
      }

      pub new-part : {element : ℕ} → m ≡ Some element → Becomes (new_underlying own_number (renamed bytes)) 1 ws pairs at (Some (start, element))
      unfolding is_of arity first argument_of
      new-part {element} e =
          let o = opened ws pairs bytes at tree r.reads in
          let t : Expand type ≡ renamed bytes (Expand tree) = sym (expanded-tree at type) ∙ o.tree in
          let y : IsMultiArray type ≡ true = sym multi ∙ ap is_found e in
          let i : is_of ArrayClass (renamed bytes (Expand tree)) ≡ true = ap (is_of ArrayClass) (sym t) ∙ sym (multi-array-is type) ∙ y in
          let a = one_argument bytes (λ p ts. in_class ArrayClass p and eqb (count ts) 1) (λ p ts. one-counted (in_class ArrayClass p) ts) (Expand tree) i in
          let s = expanded-place at r start x in
          let q : tree_at ws pairs start ≡ got (Expand tree) r.end = ap (tree_at ws pairs) (sym s) ∙ o.reads in
          let c : found (first ArrayClass (place start (renamed bytes (TypeApp (TypeFromPath a.path) (cons a.argument nil))))) ≡ Some element =
          ap (λ b. found (first ArrayClass (place start b))) (sym (t ∙ ap (renamed bytes) a.made)) ∙ sym said ∙ e in
          go a.path a.argument (q ∙ ap (λ b. got b r.end) a.made)
          (argument-place bytes start a.path a.argument (found-when (is_of ArrayClass _) (argument_at 0 start _) c))
          (new-multi bytes tree a.path a.argument no-array y a.made) a.made
        where
          go : (p : Path ℕ) (a : Ty ℕ) → tree_at ws pairs start ≡ got (TypeApp (TypeFromPath p) (cons a nil)) r.end → start + 2 + words (TypeFromPath p) ≡ element
              → new_underlying own_number (renamed bytes) tree ≡ Some (TypeApp (TypeFromPath p) (cons (MaybeUninitType own_number a) nil)) → Expand tree ≡ TypeApp (TypeFromPath p) (cons a nil) → Becomes (new_underlying own_number (renamed bytes)) 1 ws pairs at (Some (start, element))
          go p a q i k m =
              let b = apply-below ws pairs start q in
              let c : tree_at ws pairs element ≡ got a r.end = ap (tree_at ws pairs) (sym i) ∙ b in
              let t = tree-here ws pairs element c in
              let w = (tree-run ws pairs start (let j = tree-here ws pairs start q in omega arith) q).0 in
              let own : List ℕ = 14 ∷ 1 ∷ encode (TypeFromPath p) in
              let z : element - start ≡ length own = omega (arith, i, encode-words (TypeFromPath p)) in
              let front : take (element - start) (drop start ws) ≡ own = front-taken (drop start ws) own (encode a) (element - start) (length (own ++ encode a)) (rw (one-words p a) at w.words) (sym z) (omega (arith, z, length-append own (encode a))) in
              let s = deep-some ws pairs element c in
              let d = uninit-depth a s in
              let g : encode (TypeApp (TypeFromPath p) (cons (MaybeUninitType own_number a) nil)) ≡ take (element - start) (drop start ws) ++ (uninit_words ++ encode a) =
              one-words p (MaybeUninitType own_number a) ∙ ap (λ l. own ++ l) (uninit-words a) ∙ ap (λ l. l ++ (uninit_words ++ encode a)) (sym front) in
              let j : depth (TypeApp (TypeFromPath p) (cons (MaybeUninitType own_number a) nil)) ≡ 2 + depth a = one-depth p (MaybeUninitType own_number a) (omega (arith, d)) ∙ omega (arith, d) in
              record { tree = r.value; end = r.end; reads = r.reads; by = pieces_of ws pairs 1 tree r.end (new_underlying own_number (renamed bytes) tree) (TypeApp (TypeFromPath p) (cons (MaybeUninitType own_number a) nil)) a start element k (omega (arith, i)) (omega (arith, t)) c g j (argument-deep tree p a s m) }

  -- ---- under the pointer

  module _ (r : Readable (tree_at ws pairs 0)) {m : Option ℕ} (d : Finds ObjectOrPointerUnderlying (type_at ws pairs text) 0 m) where
    abbrev held : Ty ℕ
    held = r.value

    abbrev whole : Ty Bytes
    whole = renamed bytes r.value

    told : m ≡ found (ObjectOrPointerUnderlying (place 0 whole))
    told = d.says whole r.end (type-read 0 r.reads)

    pointer : is_found m ≡ IsObjectOrPointer whole
    pointer = ap is_found told ∙ pointer-found (place 0 whole)

    pub no_pointer : m ≡ None → Becomes (new_array bytes) 2 ws pairs 0 None
    unfolding new_array when
    no_pointer e =
        let z : IsObjectOrPointer whole ≡ false = sym pointer ∙ ap is_found e in
        record { tree = r.value; end = r.end; reads = r.reads; by = unchanged (rw z refl) }

    -- what the pointer points to
    record Pointed (at : ℕ) : Type 0 where
      tree : Ty ℕ
      reads : tree_at ws pairs at ≡ got tree r.end
      new : new_array bytes held ≡ new_underlying own_number (renamed bytes) tree
      deep : 1 + depth tree ≤ depth held

    points : {at : ℕ} → m ≡ Some at → Pointed at
    unfolding IsObjectOrPointer IsPointer IsObject ObjectOrPointerUnderlying expanded argument_of
    points {at} e =
        let o = opened ws pairs bytes 0 held r.reads in
        let t : Expand whole ≡ renamed bytes (Expand held) = sym (expanded-tree 0 whole) ∙ o.tree in
        let y : IsObjectOrPointer whole ≡ true = sym pointer ∙ ap is_found e in
        let i : (IsPointer (renamed bytes (Expand held)) or IsObject (renamed bytes (Expand held))) ≡ true = rw (sym t) y in
        let a : OneArgument (Expand held) =
        or-either (IsPointer (renamed bytes (Expand held))) (IsObject (renamed bytes (Expand held))) (OneArgument (Expand held)) i
        (λ k. one_argument bytes _ (λ p ts. one-counted _ ts) (Expand held) k) (λ k. one_argument bytes _ (λ p ts. one-counted _ ts) (Expand held) k) in
        let q = (expanded_at 0 whole).at in
        let c : found (argument_at 0 q (expanded_at 0 whole).tpe) ≡ Some at = found-when (IsObjectOrPointer whole) (argument_at 0 q (expanded_at 0 whole).tpe) (sym told ∙ e) in
        let l = argument-place bytes q a.path a.argument (ap (λ b. found (argument_at 0 q b)) (sym (o.tree ∙ ap (renamed bytes) a.made)) ∙ c) in
        let b : tree_at ws pairs at ≡ got a.argument r.end = ap (tree_at ws pairs) (sym l) ∙ apply-below ws pairs q (o.reads ∙ ap (λ b. got b r.end) a.made) in
        record { tree = a.argument; reads = b; new = new-behind bytes held y a.made; deep = argument-deep held a.path a.argument (deep-some ws pairs at b) a.made }

    pub pointed-readable : {at : ℕ} → m ≡ Some at → Readable (tree_at ws pairs at)
    pointed-readable e = let p = points e in record { value = p.tree; end = r.end; reads = p.reads }

    pub pointed-becomes : {at : ℕ} {c : Option (ℕ × ℕ)} → m ≡ Some at → Becomes (new_underlying own_number (renamed bytes)) 1 ws pairs at c → Becomes (new_array bytes) 2 ws pairs 0 c
    pointed-becomes {at} {c} e b =
        let p = points e in
        let i : b.tree ≡ p.tree = cc (p.reads, b.reads) in
        let j : b.end ≡ r.end = cc (p.reads, b.reads) in
        let n : new_underlying own_number (renamed bytes) b.tree ≡ new_array bytes held = ap (new_underlying own_number (renamed bytes)) i ∙ sym p.new in
        let k = pieces-below held (omega (arith, p.deep, ap depth i)) b.by in
        record { tree = r.value; end = r.end; reads = r.reads; by = subst (λ v. Pieces ws pairs 2 held r.end v c) n (subst (λ q. Pieces ws pairs 2 held q (new_underlying own_number (renamed bytes) b.tree) c) j k) }
