-- The names of a rebuilt tree are those of the tree or of a rule's to, so they are in the table.
use Rattle.std.specs.Prelude.{Err, Ok}
use Prim.Native.Nat.{ℕ, zero, suc}
use mathlib.Core.Path.{◌≡◌}
use mathlib.Core.Bool.{Bool, true, false}
use mathlib.Core.List.{List, [], ◌∷◌, ◌++◌}
use lib.ListN.{length}
use Rattle.rast.specs.Bytes.{Bytes}
use Rattle.rast.specs.Tree.{Ty, Tys, Primitive, TIdentifier, TypeFromPath, TypeApp, Borrowed, BorrowedMut, ImplType, DynType, TupleType, FnType, IntersectionType, Array, TSynonym, TMetaData, nil, cons}
use Rattle.encoding.specs.declared.Refusal.TheVariants.{RepeatedRule}
use Rattle.encoding.specs.Refusals.{pick, Answer, unless}
use Rattle.encoding.specs.Reading.{Reading, got, whole, read_below}
use Rattle.encoding.specs.Tables.{name_bytes, name_count}
use Rattle.encoding.specs.Declarations.{read_list}
use Rattle.encoding.proofs.Answers.{given-whole}
use Rattle.encoding.proofs.Tables.{impossible}
use Rattle.encoding.proofs.Types.{bind-got, made₂-got}
use Rattle.tree_words.specs.Encode.{Token, tokens, tokens_all}
use Rattle.tree_words.specs.Names.{NameBelow, NamesBelow, Each}
use Rattle.tree_words.specs.Numbered.{tree_at}
use Rattle.tree_words.proofs.Names.{each-left, each-right, each-join, type-names}
use Rattle.rebuild_spec.specs.Same.{same_by}
use Rattle.rebuild_spec.specs.Replace.{Replace, Replaces, ruled}
use Rattle.rebuild_spec.specs.Rules.{Rule, read_rule, read_rules, repeated, distinct, rules_of, mapping_of}

-- ---- rebuilt trees

module _ (b : ℕ) where
  -- the names of two runs of words, each changed by itself
  two : (xs ys us vs : List (Token ℕ)) → (NamesBelow b xs → NamesBelow b us) → (NamesBelow b ys → NamesBelow b vs) → NamesBelow b (xs ++ ys) → NamesBelow b (us ++ vs)
  two xs ys us vs f g h = each-join (NameBelow b) us vs (f (each-left (NameBelow b) xs ys h)) (g (each-right (NameBelow b) xs ys h))

  module _ (m : Ty ℕ → Ty ℕ) (keeps : (t : Ty ℕ) → NamesBelow b (tokens t) → NamesBelow b (tokens (m t))) where
    mutual
      unfolding Replace Replaces tokens tokens_all

      pub replace-names : (t : Ty ℕ) → NamesBelow b (tokens t) → NamesBelow b (tokens (Replace m t))
      replace-names (Primitive p) h = keeps (Primitive p) h
      replace-names (TIdentifier x) h = keeps (TIdentifier x) h
      replace-names (TypeFromPath p) h = keeps (TypeFromPath p) h
      replace-names (TypeApp t ts) h = keeps (TypeApp (Replace m t) (Replaces m ts)) (tt, (tt, two (tokens t) (tokens_all ts) (tokens (Replace m t)) (tokens_all (Replaces m ts)) (λ k. replace-names t k) (λ k. replaces-names ts k) h.1.1))
      replace-names (Borrowed t) h = keeps (Borrowed (Replace m t)) (tt, replace-names t h.1)
      replace-names (BorrowedMut t) h = keeps (BorrowedMut (Replace m t)) (tt, replace-names t h.1)
      replace-names (ImplType t) h = keeps (ImplType (Replace m t)) (tt, replace-names t h.1)
      replace-names (DynType t) h = keeps (DynType (Replace m t)) (tt, replace-names t h.1)
      replace-names (TupleType ts) h = keeps (TupleType (Replaces m ts)) (tt, (tt, replaces-names ts h.1.1))
      replace-names (FnType ts t) h = keeps (FnType (Replaces m ts) (Replace m t)) (tt, (tt, two (tokens_all ts) (tokens t) (tokens_all (Replaces m ts)) (tokens (Replace m t)) (λ k. replaces-names ts k) (λ k. replace-names t k) h.1.1))
      replace-names (IntersectionType l r) h = keeps (IntersectionType (Replace m l) (Replace m r)) (tt, two (tokens l) (tokens r) (tokens (Replace m l)) (tokens (Replace m r)) (λ k. replace-names l k) (λ k. replace-names r k) h.1)
      replace-names (Array t s) h = keeps (Array (Replace m t) s) (tt, (h.1.0, replace-names t h.1.1))
      replace-names (TSynonym d a) h = keeps (TSynonym (Replace m d) (Replace m a)) (tt, two (tokens d) (tokens a) (tokens (Replace m d)) (tokens (Replace m a)) (λ k. replace-names d k) (λ k. replace-names a k) h.1)
      replace-names (TMetaData d c o) h = keeps (TMetaData (Replace m d) c o) (tt, (tt, replace-names d h.1.1))

      replaces-names : (ts : Tys ℕ) → NamesBelow b (tokens_all ts) → NamesBelow b (tokens_all (Replaces m ts))
      replaces-names nil h = tt
      replaces-names (cons t ts) h = two (tokens t) (tokens_all ts) (tokens (Replace m t)) (tokens_all (Replaces m ts)) (λ k. replace-names t k) (λ k. replaces-names ts k) h

  -- ---- rules

  -- the names of a rule's to
  abbrev ToBelow : Rule → Type 0
  ToBelow r = NamesBelow b (tokens r.1)

  ruled-names : (eq : Ty ℕ → Ty ℕ → Bool) (rs : List Rule) → Each ToBelow rs → (t : Ty ℕ) → NamesBelow b (tokens t) → NamesBelow b (tokens (ruled eq rs t))
  unfolding ruled
  ruled-names eq [] h t k = k
  ruled-names eq (r ∷ rs) h t k = go (eq t r.0) (ruled-names eq rs h.1 t k)
    where
      go : (c : Bool) → NamesBelow b (tokens (ruled eq rs t)) → NamesBelow b (tokens (elim c [ true ↦ r.1 | false ↦ ruled eq rs t ]))
      go true i = h.0
      go false i = i

  listed-names : (type : ℕ → Reading (Ty ℕ)) → ((p : ℕ) (t : Ty ℕ) (n : ℕ) → type p ≡ got t n → NamesBelow b (tokens t)) → (k p : ℕ) (rs : List Rule) (n : ℕ) → read_list (read_rule type) k p ≡ got rs n → Each ToBelow rs
  unfolding read_list read_rule
  listed-names type h zero p rs n e = let z : rs ≡ [] = cc in rw z tt
  listed-names type h (suc k) p rs n e =
      let m = made₂-got (read_rule type p) (read_list (read_rule type) k) ◌∷◌ e in
      let r = made₂-got (type p) type (λ from to. (from, to)) m.reads in
      let i : ToBelow m.left = rw r.made (h r.middle r.right m.middle r.reads₂) in
      rw m.made (i, listed-names type h k m.middle m.right n m.reads₂)

-- the rules of a list have names in the table
rules-names : (rules pairs : List ℕ) (text : Bytes) {rs : List Rule} → rules_of rules pairs text ≡ Ok rs → Each (ToBelow (name_count pairs)) rs
unfolding rules_of read_rules unless distinct
rules-names rules pairs text {rs} e =
    let g = given-whole (Ok tt) (length rules) (read_rules rules pairs) (told (whole (length rules) (read_rules rules pairs)) e) in
    let d = bind-got (read_below 33 rules 0) _ g.1 in
    listed-names (name_count pairs) (tree_at rules pairs) (λ p t n i. type-names (name_count pairs) rules 64 p t n i) d.value d.end rs (length rules) d.rest
  where
    told : (x : Answer (List Rule)) → distinct (same_by (name_bytes pairs text)) x ≡ Ok rs → unless (Ok tt) x ≡ Ok rs
    told (Ok us) e = go (repeated (same_by (name_bytes pairs text)) us) e
      where
        go : (c : Bool) → pick c (Err RepeatedRule) (Ok us) ≡ Ok rs → unless (Ok tt) (Ok us) ≡ Ok rs
        go true e = impossible (cc)
        go false e = e
    told (Err r) e = impossible (cc)

-- what rules make of a tree whose names are in the table
pub mapped-names : (rules pairs : List ℕ) (text : Bytes) {rs : List Rule} → rules_of rules pairs text ≡ Ok rs → (t : Ty ℕ) → NamesBelow (name_count pairs) (tokens t) → NamesBelow (name_count pairs) (tokens (Replace (mapping_of pairs text rs) t))
unfolding mapping_of
mapped-names rules pairs text {rs} e t h =
    replace-names (name_count pairs) (ruled (same_by (name_bytes pairs text)) rs) (ruled-names (name_count pairs) (same_by (name_bytes pairs text)) rs (rules-names rules pairs text e)) t h
