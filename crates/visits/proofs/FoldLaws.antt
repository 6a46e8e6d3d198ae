-- The source's `Fold` is `FoldLeft` over the types visited.
use Prim.Native.Nat.{ℕ, ◌+◌}
use mathlib.Core.Path.{◌≡◌, refl}
use mathlib.Core.List.{List, [], ◌∷◌, ◌++◌, map}
use Rattle.rast.specs.Tree.{Ty, Tys, Primitive, TIdentifier, TypeFromPath, TypeApp, Borrowed, BorrowedMut, ImplType, DynType, TupleType, FnType, IntersectionType, Array, TSynonym, TMetaData, nil, cons}
use Rattle.rast.proofs.SourceEquations.{list}
use Rattle.tree_words.specs.Places.{Place}
use Rattle.visits.specs.Fold.{FoldLeft, Fold, FoldAll}
use Rattle.visits.specs.Visited.{visited, visited_from, visited_all}

module _ {N A : Type 0} (f : A → Ty N → A) where
  -- `FoldAll` is the source's `FoldLeft` over arguments
  pub FoldAll-left : (ts : Tys N) (acc : A) → FoldAll f acc ts ≡ FoldLeft (λ a t. Fold f a t) acc (list ts)
  unfolding Fold FoldLeft list
  FoldAll-left nil acc = refl
  FoldAll-left (cons t ts) acc = FoldAll-left ts (Fold f acc t)

  -- f at each of the types, in order
  abbrev pub along : A → List (Place N) → A
  along acc ps = FoldLeft f acc (map (λ (q : Place N). q.tpe) ps)

  -- two runs, one behind the other
  pub behind : (acc : A) (ps qs : List (Place N)) {a b : A} → a ≡ along acc ps → b ≡ along a qs → b ≡ along acc (ps ++ qs)
  unfolding FoldLeft
  behind acc [] qs e d = rw e at d
  behind acc (p ∷ ps) qs e d = behind (f acc p.tpe) ps qs e d

  mutual
    unfolding Fold FoldLeft visited_from

    pub from-visited : (t : Ty N) (acc : A) (p : ℕ) → Fold f acc t ≡ along acc (visited_from p t)
    from-visited (Primitive x) acc p = refl
    from-visited (TIdentifier x) acc p = refl
    from-visited (TypeFromPath x) acc p = refl
    from-visited (TypeApp b ts) acc p = behind _ (visited_from (p + 2) b) _ (from-visited b _ (p + 2)) (all-visited ts _ _)
    from-visited (Borrowed t) acc p = from-visited t _ (p + 1)
    from-visited (BorrowedMut t) acc p = from-visited t _ (p + 1)
    from-visited (ImplType t) acc p = from-visited t _ (p + 1)
    from-visited (DynType t) acc p = from-visited t _ (p + 1)
    from-visited (TupleType ts) acc p = all-visited ts _ (p + 2)
    from-visited (FnType ts t) acc p = behind _ (visited_all (p + 2) ts) _ (all-visited ts _ (p + 2)) (from-visited t _ _)
    from-visited (IntersectionType l r) acc p = behind _ (visited_from (p + 1) l) _ (from-visited l _ (p + 1)) (from-visited r _ _)
    from-visited (Array t s) acc p = from-visited t _ (p + 2)
    from-visited (TSynonym d b) acc p = from-visited d _ (p + 1)
    from-visited (TMetaData d c o) acc p = from-visited d _ (p + 2)

    all-visited : (ts : Tys N) (acc : A) (p : ℕ) → FoldAll f acc ts ≡ along acc (visited_all p ts)
    all-visited nil acc p = refl
    all-visited (cons t ts) acc p = behind acc (visited_from p t) _ (from-visited t acc p) (all-visited ts _ _)

  -- `Fold` of a type that stands anywhere
  pub Fold-visited : (acc : A) (q : Place N) → Fold f acc q.tpe ≡ FoldLeft f acc (map (λ (x : Place N). x.tpe) (visited q))
  unfolding visited
  Fold-visited acc q = from-visited q.tpe acc q.at
