-- The own words of an opening stand in the words as they are read.
use Prim.Native.Nat.{ℕ, zero, suc, ◌+◌, ◌≤◌}
use mathlib.Core.Path.{◌≡◌, refl, ap, sym, ◌∙◌, subst}
use mathlib.Core.Bool.{Bool, true, false}
use mathlib.Core.List.{List, [], ◌∷◌, ◌++◌, map, map-append}
use native.Mathlib.Omega.{arith}
use borrow.Author.Tests.{eqb-true}
use lib.Dec.{eqb}
use lib.ListN.{length, length-append, length-map}
use Rattle.rast.specs.Tree.{Ty}
use Rattle.rast.specs.Declaration.{Attribute}
use Rattle.encoding.specs.declared.Refusal.TheVariants.{UnknownWord}
use Rattle.encoding.specs.Refusals.{pick}
use Rattle.encoding.specs.Reading.{Reading, got, stop, read_word, read_below}
use Rattle.encoding.specs.Heads.{read_path}
use Rattle.encoding.specs.Types.{path_of}
use Rattle.encoding.specs.Forms.{present}
use Rattle.encoding.specs.Declarations.{read_list, read_counted, read_name, read_attribute}
use Rattle.encoding.proofs.Tables.{impossible}
use Rattle.encoding.proofs.Reading.{got-value, got-end}
use Rattle.encoding.proofs.Inside.{There, word-there, below-there}
use Rattle.encoding.proofs.Types.{bind-got, made_got, made₂-got}
use Rattle.tree_words.specs.Encode.{Token, word, name, token_word, path_tokens}
use Rattle.tree_words.specs.Runs.{Run}
use Rattle.tree_words.proofs.Runs.{run_none, run_join}
use Rattle.tree_words.proofs.Spans.{Stands, path-stands}
use Rattle.declaration_walk.specs.declared.After.{After}
use Rattle.declaration_walk.specs.declared.After.TheVariants.{FieldList, CaseList, OneType}
use Rattle.declaration_walk.specs.declared.Role.TheVariants.{StructField}
use Rattle.declaration_walk.specs.Pieces.{runs, attribute_tokens, attributes_tokens, title_tokens, use_tokens}
use Rattle.declaration_walk.specs.Walks.{read_entry, Opening, read_attributes, read_title, read_using, opening_after, read_opening}
use Rattle.declaration_walk.proofs.Scans.{entry}
use Rattle.declaration_walk.proofs.Ahead.{list_length}
use Rattle.declaration_walk.proofs.Steps.{below_word, one-run, two_run, visibility-word}

-- words stand at a position, and end behind themselves
abbrev pub Spelt : List ℕ → ℕ → List ℕ → ℕ → Type 0
Spelt ws p code n = Run ws p code × (n ≡ p + length code)

pub words_runs : {A : Type 0} (f : A → List (Token ℕ)) (xs : List A) → map token_word (runs f xs) ≡ runs (λ x. map token_word (f x)) xs
unfolding runs
words_runs f [] = refl
words_runs f (x ∷ xs) = map-append token_word (f x) (runs f xs) ∙ ap (λ l. map token_word (f x) ++ l) (words_runs f xs)

module _ (ws : List ℕ) where
  pub spelt-inside : {p n : ℕ} {code : List ℕ} → Spelt ws p code n → n ≤ length ws
  spelt-inside s = omega (arith, s.0.ends, s.1)

  pub spelt-then : {p m n : ℕ} (a b : List ℕ) → Spelt ws p a m → Spelt ws m b n → Spelt ws p (a ++ b) n
  spelt-then a b s t = (run_join a b s.0 s.1 t.0, omega (arith, s.1, t.1, length-append a b))

  pub spelt-word : {p x q : ℕ} → There ws p x q → Spelt ws p (x ∷ []) q
  spelt-word {p} s = one-run ws p s

  pub spelt-as : {p n : ℕ} {a b : List ℕ} → a ≡ b → Spelt ws p a n → Spelt ws p b n
  spelt-as {p} {n} e s = subst (λ (l : List ℕ). Spelt ws p l n) e s

  list-spells : {A : Type 0} (code : A → List ℕ) (item : ℕ → Reading A) → Stands code ws item → (k : ℕ) → Stands (runs code) ws (read_list item k)
  unfolding read_list runs
  list-spells code item h zero p xs n l e =
      let z : xs ≡ [] = cc in let y : p ≡ n = cc in
      spelt-as (sym (ap (runs code) z)) (run_none ws p l, omega (arith, y))
  list-spells code item h (suc k) p xs n l e =
      let m = made₂-got (item p) (read_list item k) ◌∷◌ e in
      let s = h p m.left m.middle l m.reads in
      let t = list-spells code item h k m.middle m.right n (spelt-inside s) m.reads₂ in
      spelt-as (sym (ap (runs code) m.made)) (spelt-then (code m.left) (runs code m.right) s t)

  pub counted-spells : {A : Type 0} (code : A → List ℕ) (item : ℕ → Reading A) → Stands code ws item → Stands (λ xs. length xs ∷ runs code xs) ws (read_counted ws item)
  unfolding read_counted
  counted-spells code item h p xs n l e =
      let t = bind-got (read_word ws p) _ e in
      let s = spelt-word (word-there ws p t.first) in
      let u = list-spells code item h t.value t.end xs n (spelt-inside s) t.rest in
      spelt-as (ap (λ k. k ∷ runs code xs) (sym (list_length item t.value t.end t.rest))) (spelt-then (t.value ∷ []) (runs code xs) s u)

  module _ (bound : ℕ) where
    pub name-spells : (ty : ℕ → Reading (Ty ℕ)) → Stands (λ x. x ∷ []) ws (read_name bound ws (λ x. x) ty)
    unfolding read_name
    name-spells ty p x n l e =
        let m = made_got (read_below bound ws p) (λ i. i) e in
        spelt-as (ap (λ i. i ∷ []) (sym m.made)) (spelt-word (below_word bound ws p m.reads))

    pub runs-one : (xs : List ℕ) → runs (λ x. x ∷ []) xs ≡ map token_word (map name xs)
    unfolding runs token_word
    runs-one [] = refl
    runs-one (x ∷ xs) = ap (◌∷◌ x) (runs-one xs)

    attribute-spells : (ty : ℕ → Reading (Ty ℕ)) → Stands (λ a. map token_word (attribute_tokens a)) ws (read_attribute bound ws (λ x. x) ty)
    unfolding read_attribute attribute_tokens token_word
    attribute-spells ty p a n l e =
        let m = made₂-got (read_name bound ws (λ x. x) ty p) (read_counted ws (read_name bound ws (λ x. x) ty)) (λ x xs. record { name = x; derived = xs }) e in
        let s = name-spells ty p m.left m.middle l m.reads in
        let t = counted-spells (λ x. x ∷ []) _ (name-spells ty) m.middle m.right n (spelt-inside s) m.reads₂ in
        spelt-as (ap (λ (i : List ℕ). m.left ∷ length m.right ∷ i) (runs-one m.right) ∙ ap (λ (b : Attribute ℕ). map token_word (attribute_tokens b)) (sym m.made)) (spelt-then (m.left ∷ []) (length m.right ∷ runs (λ x. x ∷ []) m.right) s t)

    attributes-words : (l : List (Attribute ℕ)) → map token_word (attributes_tokens l) ≡ length l ∷ runs (λ a. map token_word (attribute_tokens a)) l
    unfolding attributes_tokens token_word
    attributes-words l = ap (◌∷◌ (length l)) (words_runs attribute_tokens l)

    pub attributes-spell : (ty : ℕ → Reading (Ty ℕ)) → Stands (λ l. map token_word (attributes_tokens l)) ws (read_counted ws (read_attribute bound ws (λ x. x) ty))
    attributes-spell ty p l n h e = spelt-as (sym (attributes-words l)) (counted-spells (λ a. map token_word (attribute_tokens a)) (read_attribute bound ws (λ x. x) ty) (attribute-spells ty) p l n h e)

    -- the words of an opening, from its head on
    title-spells : (k : ℕ) (after : After) (p : ℕ) (o : Opening) (q n : ℕ) → Spelt ws p (k ∷ []) q → read_title bound ws k after q ≡ got o n → Spelt ws p (map token_word o.tokens) n
    unfolding read_title read_attributes title_tokens token_word
    title-spells k after p o q n h e =
        let r = bind-got (read_below bound ws q) _ e in
        let a = bind-got (read_attributes bound ws r.end) _ r.rest in
        let t = bind-got (read_entry bound ws a.end) _ a.rest in
        let pair = entry bound ws a.end t.first in
        let two = two_run ws a.end (below_word bound ws a.end pair.first) (word-there ws pair.middle pair.second) in
        let s₁ = spelt-word (below_word bound ws q r.first) in
        let s₂ = attributes-spell (λ i. stop UnknownWord) r.end a.value a.end (spelt-inside s₁) a.first in
        let s₃ : Spelt ws a.end (t.value.0 ∷ t.value.1 ∷ []) t.end = two in
        let all = spelt-then (k ∷ []) _ h (spelt-then (r.value ∷ []) _ s₁ (spelt-then (map token_word (attributes_tokens a.value)) (t.value.0 ∷ t.value.1 ∷ []) s₂ s₃)) in
        let v = got-value t.rest in
        let m : t.end ≡ n = got-end t.rest in
        subst (λ i. Spelt ws p (map token_word o.tokens) i) m
        (spelt-as (ap (λ l. k ∷ r.value ∷ l) (sym (map-append token_word (attributes_tokens a.value) (name t.value.0 ∷ word t.value.1 ∷ []))) ∙ ap (λ (x : Opening). map token_word x.tokens) v) all)

    using-spells : (p : ℕ) (o : Opening) (q n : ℕ) → Spelt ws p (present.use_head ∷ []) q → read_using present.use_head bound ws q ≡ got o n → Spelt ws p (map token_word o.tokens) n
    unfolding read_using use_tokens token_word
    using-spells p o q n h e =
        let r = bind-got (read_below 2 ws q) _ e in
        let x = bind-got (read_path bound ws r.end) _ r.rest in
        let w = below-there 2 ws q r.first in
        let s₁ = spelt-word (below_word 2 ws q r.first) in
        let s₂ = path-stands bound ws r.end x.value x.end (spelt-inside s₁) x.first in
        let all = spelt-then (present.use_head ∷ []) _ h (spelt-then (r.value ∷ []) _ s₁ s₂) in
        let v = got-value x.rest in
        let m : x.end ≡ n = got-end x.rest in
        subst (λ i. Spelt ws p (map token_word o.tokens) i) m
        (spelt-as (ap (λ i. present.use_head ∷ i ∷ map token_word (path_tokens (path_of ws (λ j. j) x.value))) (sym (visibility-word r.value w.below)) ∙ ap (λ (y : Opening). map token_word y.tokens) v) all)

    -- the own words of an opening, and where it ends
    pub opening-run : (at : ℕ) (o : Opening) (n : ℕ) → read_opening present bound ws at ≡ got o n → Run ws at (map token_word o.tokens) × (n ≡ at + length o.tokens)
    unfolding read_opening opening_after
    opening-run at o n e =
        let r = bind-got (read_word ws at) _ e in
        let s = spelt-word (word-there ws at r.first) in
        let t = go r.value r.end s (eqb r.value present.struct_head) (eqb-true r.value present.struct_head) (eqb r.value present.enum_head) (eqb-true r.value present.enum_head)
        (eqb r.value present.synonym_head) (eqb-true r.value present.synonym_head) (eqb r.value present.use_head) (eqb-true r.value present.use_head) r.rest in
        (t.0, t.1 ∙ ap (λ i. at + i) (length-map o.tokens token_word))
      where
        go : (w p : ℕ) → Spelt ws at (w ∷ []) p → (a : Bool) → (a ≡ true → w ≡ present.struct_head) → (b : Bool) → (b ≡ true → w ≡ present.enum_head) → (c : Bool) → (c ≡ true → w ≡ present.synonym_head)
            → (d : Bool) → (d ≡ true → w ≡ present.use_head)
            → pick a (read_title bound ws present.struct_head (FieldList StructField) p) (pick b (read_title bound ws present.enum_head CaseList p) (pick c (read_title bound ws present.synonym_head OneType p) (pick d (read_using present.use_head bound ws p) (stop UnknownWord)))) ≡ got o n
            → Spelt ws at (map token_word o.tokens) n
        go w p s true h b hb c hc d hd e = title-spells present.struct_head (FieldList StructField) at o p n (spelt-as (ap (λ i. i ∷ []) (h refl)) s) e
        go w p s false h true hb c hc d hd e = title-spells present.enum_head CaseList at o p n (spelt-as (ap (λ i. i ∷ []) (hb refl)) s) e
        go w p s false h false hb true hc d hd e = title-spells present.synonym_head OneType at o p n (spelt-as (ap (λ i. i ∷ []) (hc refl)) s) e
        go w p s false h false hb false hc true hd e = using-spells at o p n (spelt-as (ap (λ i. i ∷ []) (hd refl)) s) e
        go w p s false h false hb false hc false hd e = impossible (cc)
