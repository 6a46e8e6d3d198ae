-- Laws of runs of pieces, one behind the other.
use Prim.Native.Nat.{ℕ, zero, suc, ◌-◌, ◌<◌}
use mathlib.Core.Path.{◌≡◌, refl, ap, sym, ◌∙◌}
use mathlib.Core.List.{List, [], ◌∷◌, ◌++◌, append-nil, append_assoc}
use native.Mathlib.Omega.{arith}
use native.Mathlib.Numerals.{sub-one}
use lib.ListN.{length}
use Rattle.rast.specs.Tree.{Ty}
use Rattle.encoding.specs.declared.Refusal.{Refusal}
use Rattle.encoding.specs.Reading.{Reading, got, stop, ◌>>=◌}
use Rattle.encoding.specs.Scans.{map_reading}
use Rattle.encoding.specs.Declarations.{read_list}
use Rattle.encoding.proofs.Types.{made₂-got}
use Rattle.declaration_walk.specs.Pieces.{Piece, runs, type_piece}
use Rattle.declaration_walk.specs.Walks.{ahead, ◌&◌, many}
use Rattle.declaration_walk.specs.declared.Role.{Role}

module _ {N : Type 0} where
  pub ahead_none : (x : Reading (List (Piece N))) → ahead [] x ≡ x
  unfolding ahead map_reading
  ahead_none (got ps n) = refl
  ahead_none (stop r) = refl

  pub ahead-twice : (ps qs : List (Piece N)) (x : Reading (List (Piece N))) → ahead ps (ahead qs x) ≡ ahead (ps ++ qs) x
  unfolding ahead map_reading
  ahead-twice ps qs (got rs n) = ap (λ l. got l n) (sym (append_assoc ps qs rs))
  ahead-twice ps qs (stop r) = refl

  pub ahead-and : (ps : List (Piece N)) (x : Reading (List (Piece N))) (g : ℕ → Reading (List (Piece N))) → ahead ps x & g ≡ ahead ps (x & g)
  unfolding ahead map_reading ◌&◌
  ahead-and ps (got qs n) g = sym (ahead-twice ps qs (g n))
  ahead-and ps (stop r) g = refl

  pub and_assoc : (x : Reading (List (Piece N))) (g h : ℕ → Reading (List (Piece N))) → ◌&◌ (x & g) h ≡ x & (λ p. g p & h)
  unfolding ◌&◌ ahead map_reading
  and_assoc (got ps q) g h = ahead-and ps (g q) h
  and_assoc (stop r) g h = refl

  pub and_none : (p : ℕ) (g : ℕ → Reading (List (Piece N))) → got [] p & g ≡ g p
  unfolding ◌&◌
  and_none p g = ahead_none (g p)

  pub and_last : (x : Reading (List (Piece N))) → x & (λ p. got [] p) ≡ x
  unfolding ◌&◌ ahead map_reading
  and_last (got ps q) = ap (λ l. got l q) (append-nil ps)
  and_last (stop r) = refl

  -- what is read behind is the same
  pub and_same : (x : Reading (List (Piece N))) (g h : ℕ → Reading (List (Piece N))) → ((q : ℕ) → g q ≡ h q) → x & g ≡ x & h
  unfolding ◌&◌
  and_same (got ps q) g h e = ap (ahead ps) (e q)
  and_same (stop r) g h e = refl

  pub and-stop : (r : Refusal) (g : ℕ → Reading (List (Piece N))) → stop r & g ≡ stop r
  unfolding ◌&◌
  and-stop r g = refl

  module _ {A : Type 0} (item : ℕ → Reading A) (f : A → List (Piece N)) where
    many_more : (n p : ℕ) → many item f (suc n) p ≡ map_reading f (item p) & many item f n
    unfolding many read_list ◌&◌ ahead map_reading runs
    many_more n p = go (item p)
      where
        tail : (x : A) (y : Reading (List A)) → map_reading (runs f) (y >>= λ xs r. got (x ∷ xs) r) ≡ map_reading (λ qs. f x ++ qs) (map_reading (runs f) y)
        tail x (got xs r) = refl
        tail x (stop r) = refl

        go : (y : Reading A) → map_reading (runs f) (y >>= λ x q. read_list item n q >>= λ xs r. got (x ∷ xs) r)
            ≡ (map_reading f y >>= λ ps q. map_reading (λ qs. ps ++ qs) (map_reading (runs f) (read_list item n q)))
        go (got x q) = tail x (read_list item n q)
        go (stop r) = refl

    pub many-none : (n p : ℕ) → n ≡ 0 → many item f n p ≡ got [] p
    unfolding many read_list map_reading runs
    many-none n p e = rw e

    -- the first of some things, and the others behind it
    pub item-more : (n p : ℕ) (g : ℕ → Reading (List (Piece N))) → 0 < n → many item f n p & g ≡ map_reading f (item p) & (λ q. many item f (n - 1) q & g)
    item-more zero p g h = absurd (let z : ⊥ = omega arith in z)
    item-more (suc n) p g h =
        ap (λ x. x & g) (many_more n p) ∙ and_assoc (map_reading f (item p)) (many item f n) g
        ∙ ap (λ k. map_reading f (item p) & (λ q. many item f k q & g)) (sym (sub-one (suc n)))

    pub many-stop : (n p : ℕ) (g : ℕ → Reading (List (Piece N))) {r : Refusal} → 0 < n → item p ≡ stop r → many item f n p & g ≡ stop r
    unfolding map_reading
    many-stop n p g {r} h e = item-more n p g h ∙ ap (λ x. map_reading f x & (λ q. many item f (n - 1) q & g)) e ∙ and-stop r _

  -- a type, and what follows it
  pub type-and : (a : Role) (x : Reading (Ty N)) (g : ℕ → Reading (List (Piece N))) → map_reading (type_piece a) x & g ≡ (x >>= λ t q. ahead (type_piece a t) (g q))
  unfolding ◌&◌ map_reading
  type-and a (got t q) g = refl
  type-and a (stop r) g = refl

  pub many-one : (a : Role) (type : ℕ → Reading (Ty N)) (p : ℕ) → many type (type_piece a) 1 p ≡ map_reading (type_piece a) (type p)
  many-one a type p = many_more type (type_piece a) 0 p ∙ and_same _ _ (λ q. got [] q) (λ q. many-none type (type_piece a) 0 q refl) ∙ and_last (map_reading (type_piece a) (type p))

-- as many things as were asked for
pub list_length : {A : Type 0} (item : ℕ → Reading A) (n p : ℕ) {xs : List A} {q : ℕ} → read_list item n p ≡ got xs q → length xs ≡ n
unfolding read_list
list_length item zero p {xs} e = let z : xs ≡ [] = cc in rw z
list_length item (suc n) p {xs} e =
    let m = made₂-got (item p) (read_list item n) ◌∷◌ e in
    rw m.made (ap suc (list_length item n m.middle m.reads₂))
