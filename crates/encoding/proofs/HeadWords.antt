-- A head that was read, by its words alone.
use Prim.Native.Nat.{ℕ, ◌+◌, ◌≤◌, ◌<◌}
use mathlib.Core.Path.{◌≡◌, refl, ap, sym, ◌∙◌, subst}
use mathlib.Core.Bool.{true}
use mathlib.Core.List.{List}
use native.Mathlib.Omega.{arith}
use borrow.Author.Tests.{ltb-true, lt-ltb, le-ltb, eqb-true, ne_eqb}
use lib.Dec.{ltb, eqb}
use lib.ListN.{length, get_or}
use Rattle.encoding.specs.declared.Head.{Head}
use Rattle.encoding.specs.declared.Head.TheVariants.{Name, Apply, Tuple, Function, ArrayOf, Meta}
use Rattle.encoding.specs.Reading.{got, ◌>>=◌, read_word, read_below}
use Rattle.encoding.specs.Heads.{read_path, path_head, head_after, read_head}
use Rattle.encoding.specs.HeadWords.{kids, HeadHere, types_below, own_end}
use Rattle.encoding.proofs.Inside.{Holds, holds_on, holds-pick, There, Next, word_holds, below_holds, path-by, head-lies, head-begins}

-- ---- what the kind alone says

-- kinds behind which no own word stands
pub end-other : (ws : List ℕ) (at : ℕ) {w : ℕ} → w ≡ get_or ws at 0
    → (w ≡ 12 → ⊥) → (w ≡ 13 → ⊥) → (w ≡ 14 → ⊥) → (w ≡ 19 → ⊥) → (w ≡ 20 → ⊥) → (w ≡ 22 → ⊥) → (w ≡ 24 → ⊥) → own_end ws at ≡ at + 1
unfolding own_end
end-other ws at {w} e h₁₂ h₁₃ h₁₄ h₁₉ h₂₀ h₂₂ h₂₄ =
    rw (← e, ne_eqb w 12 h₁₂, ne_eqb w 13 h₁₃, ne_eqb w 14 h₁₄, ne_eqb w 19 h₁₉, ne_eqb w 20 h₂₀, ne_eqb w 22 h₂₂, ne_eqb w 24 h₂₄) refl

-- kinds that one type follows
pub below_other : (ws : List ℕ) (at : ℕ) {w : ℕ} → w ≡ get_or ws at 0
    → 14 ≤ w → (w ≡ 14 → ⊥) → (w ≡ 19 → ⊥) → (w ≡ 20 → ⊥) → (w ≡ 21 → ⊥) → (w ≡ 23 → ⊥) → types_below ws at ≡ 1
unfolding types_below
below_other ws at {w} e h h₁₄ h₁₉ h₂₀ h₂₁ h₂₃ =
    rw (← e, le-ltb w 14 h, ne_eqb w 14 h₁₄, ne_eqb w 19 h₁₉, ne_eqb w 20 h₂₀, ne_eqb w 21 h₂₁, ne_eqb w 23 h₂₃) refl

-- plain types
pub plain_end : (ws : List ℕ) (at : ℕ) → get_or ws at 0 < 12 → own_end ws at ≡ at + 1
plain_end ws at h =
    let no : (k : ℕ) → 12 ≤ k → get_or ws at 0 ≡ k → ⊥ = λ k m i. omega arith in
    end-other ws at refl (no 12 (omega arith)) (no 13 (omega arith)) (no 14 (omega arith)) (no 19 (omega arith)) (no 20 (omega arith)) (no 22 (omega arith)) (no 24 (omega arith))

-- plain types, names and paths
pub plain-below : (ws : List ℕ) (at : ℕ) → get_or ws at 0 < 14 → types_below ws at ≡ 0
unfolding types_below
plain-below ws at h = rw (lt-ltb _ 14 h) refl

-- what the words say of a head that was read
record Told (ws : List ℕ) (at : ℕ) (h : Head) (n : ℕ) : Type 0 where
  below : types_below ws at ≡ kids h
  end : own_end ws at ≡ n

module _ (b : ℕ) (ws : List ℕ) (at : ℕ) where
  -- a kind below 12
  plain-told : (h : Head) → get_or ws at 0 < 12 → kids h ≡ 0 → Told ws at h (at + 1)
  plain-told h k z = record { below = plain-below ws at (omega arith) ∙ sym z; end = plain_end ws at k }

  -- a kind and one word
  worded-told : (f : ℕ → Head) → (own_end ws at ≡ at + 2) → ((x : ℕ) → x ≡ get_or ws (at + 1) 0 → types_below ws at ≡ kids (f x))
      → (x n : ℕ) → x ≡ get_or ws (at + 1) 0 → n ≡ at + 1 + 1 → Told ws at (f x) n
  worded-told f e k x n same next = record { below = k x same; end = e ∙ (let z : at + 2 ≡ n = omega (arith, next) in z) }

  counted : (f : ℕ → Head) → (own_end ws at ≡ at + 2) → ((x : ℕ) → x ≡ get_or ws (at + 1) 0 → types_below ws at ≡ kids (f x))
      → Holds (Told ws at) (read_word ws (at + 1) >>= λ x q. got (f x) q)
  counted f e k = holds_on (There ws (at + 1)) (Told ws at) (read_word ws (at + 1)) _ (word_holds ws (at + 1)) (λ x q h. worded-told f e k x q h.same h.next)

  bounded : (c : ℕ) (f : ℕ → Head) → (own_end ws at ≡ at + 2) → ((x : ℕ) → x ≡ get_or ws (at + 1) 0 → types_below ws at ≡ kids (f x))
      → Holds (Told ws at) (read_below c ws (at + 1) >>= λ x q. got (f x) q)
  bounded c f e k = holds_on (Next c ws (at + 1)) (Told ws at) (read_below c ws (at + 1)) _ (below_holds c ws (at + 1)) (λ x q h. worded-told f e k x q h.same h.next)

  -- a path
  path-told : (own_end ws at ≡ at + 3 + get_or ws (at + 2) 0) → types_below ws at ≡ 0 → Holds (Told ws at) (path_head b ws (at + 1))
  unfolding path_head
  path-told e k =
      holds_on (λ p n. n ≡ at + 3 + get_or ws (at + 2) 0) (Told ws at) (read_path b ws (at + 1)) _ ends
      (λ p n h. record { below = k; end = e ∙ sym h })
    where
      ends : Holds (λ p n. n ≡ at + 3 + get_or ws (at + 2) 0) (read_path b ws (at + 1))
      ends = path-by (λ p n. n ≡ at + 3 + get_or ws (at + 2) 0) b ws (at + 1) λ root p n q u r h k m.
          let i : p ≡ at + 2 = omega (arith, h.next) in
          let j : n ≡ get_or ws (at + 2) 0 = k.same ∙ ap (λ j. get_or ws j 0) i in
          omega (arith, h.next, k.next, m.end)

  after-told : (w : ℕ) → get_or ws at 0 ≡ w → Holds (Told ws at) (head_after b ws w (at + 1))
  unfolding head_after types_below own_end
  after-told w e =
      let is : (k : ℕ) → eqb w k ≡ true → get_or ws at 0 ≡ k = λ k t. e ∙ eqb-true w k t in
      holds-pick (Told ws at) (ltb w 12) _ _ (λ t. plain-told _ (omega (arith, e, ltb-true w 12 t)) refl)
      (holds-pick (Told ws at) (eqb w 12) _ _ (λ t. bounded b Name (rw (is 12 t) refl) (λ x s. rw (is 12 t) refl))
      (holds-pick (Told ws at) (eqb w 13) _ _ (λ t. path-told (rw (is 13 t) refl) (rw (is 13 t) refl))
      (holds-pick (Told ws at) (eqb w 14) _ _ (λ t. counted Apply (rw (is 14 t) refl) (λ x s. rw (is 14 t, s) refl))
      (holds-pick (Told ws at) (eqb w 15) _ _ (λ t. record { below = rw (is 15 t) refl; end = rw (is 15 t) refl })
      (holds-pick (Told ws at) (eqb w 16) _ _ (λ t. record { below = rw (is 16 t) refl; end = rw (is 16 t) refl })
      (holds-pick (Told ws at) (eqb w 17) _ _ (λ t. record { below = rw (is 17 t) refl; end = rw (is 17 t) refl })
      (holds-pick (Told ws at) (eqb w 18) _ _ (λ t. record { below = rw (is 18 t) refl; end = rw (is 18 t) refl })
      (holds-pick (Told ws at) (eqb w 19) _ _ (λ t. counted Tuple (rw (is 19 t) refl) (λ x s. rw (is 19 t, s) refl))
      (holds-pick (Told ws at) (eqb w 20) _ _ (λ t. counted Function (rw (is 20 t) refl) (λ x s. rw (is 20 t, s) refl))
      (holds-pick (Told ws at) (eqb w 21) _ _ (λ t. record { below = rw (is 21 t) refl; end = rw (is 21 t) refl })
      (holds-pick (Told ws at) (eqb w 22) _ _ (λ t. bounded (b + 1) ArrayOf (rw (is 22 t) refl) (λ x s. rw (is 22 t) refl))
      (holds-pick (Told ws at) (eqb w 23) _ _ (λ t. record { below = rw (is 23 t) refl; end = rw (is 23 t) refl })
      (holds-pick (Told ws at) (eqb w 24) _ _ (λ t. bounded 4 Meta (rw (is 24 t) refl) (λ x s. rw (is 24 t) refl))
      tt)))))))))))))

  head-told : Holds (Told ws at) (read_head b ws at)
  unfolding read_head
  head-told =
      holds_on (There ws at) (Told ws at) (read_word ws at) _ (word_holds ws at)
      (λ w p h. rw h.next (after-told w (sym h.same)))

  module _ {h : Head} {n : ℕ} (e : read_head b ws at ≡ got h n) where
    pub words-kids : types_below ws at ≡ kids h
    words-kids = (subst (Holds (Told ws at)) e head-told).below

    pub words-end : own_end ws at ≡ n
    words-end = (subst (Holds (Told ws at)) e head-told).end

-- a head's own words lie in the words
pub end-inside : (ws : List ℕ) (at : ℕ) → HeadHere ws at → (at < length ws) × (own_end ws at ≤ length ws)
end-inside ws at h =
    let l = head-lies h.bound ws at h.reads in
    let e = words-end h.bound ws at h.reads in
    (head-begins h.bound ws at h.reads, omega (arith, e, l.ends))
