-- Laws of what a text begins with: runs of one byte, and lines.
use Prim.Native.Nat.{ℕ, zero, suc, ◌+◌, ◌-◌, ◌≤◌, ◌<◌}
use mathlib.Core.Path.{◌≡◌, refl, ap, sym, ◌∙◌, subst}
use mathlib.Core.Bool.{Bool, true, false}
use mathlib.Core.List.{[], ◌∷◌, ◌++◌, append-nil, append_assoc}
use native.Mathlib.Omega.{arith}
use native.Mathlib.Nat.{add-zero}
use native.Mathlib.Numerals.{add-one}
use borrow.Author.Tests.{eq-eqb, ne_eqb, eqb-true, eqb-false, le-leb, lt-leb, leb-true, leb-false, ltb-true, ltb-false}
use lib.Dec.{eqb, leb, ltb, leb-zero, leb-suc-zero, leb-suc-suc}
use lib.ListN.{length, get_or, take, drop, replicate, length-append, length-drop, length-replicate, drop_of_length-le}
use lib.Seq.{drop-cons}
use Rattle.std.specs.Prelude.{min, ◌||◌}
use Rattle.std.proofs.lemmas.List.{get_or-take, get_or-drop}
use Rattle.rast.specs.Bytes.{Bytes, ascii, ◌and◌, ◌or◌, same, begins}
use Rattle.rast.specs.Doc.{is_empty_text, GatherSimpleQuotes}
use Rattle.rast.proofs.BytesLaws.{and_left, and_right, and-true, never}
use Rattle.text_doc.specs.Steps.{run_of, line_length, Passed, Nearest, Fence, NoFence}

and-swap : (a b c : Bool) → (a and (b and c)) ≡ (b and (a and c))
unfolding ◌and◌
and-swap true b c = refl
and-swap false true c = refl
and-swap false false c = refl

-- ---- what a text begins with

pub begins-none : (d : Bytes) → begins [] d ≡ true
unfolding begins same ◌and◌
begins-none d = rw (leb-zero (length d))

pub begins-nothing : (x : ℕ) (p : Bytes) → begins (x ∷ p) [] ≡ false
unfolding begins same ◌and◌
begins-nothing x p = rw (leb-suc-zero (length p))

pub begins-cons : (x c : ℕ) (p s : Bytes) → begins (x ∷ p) (c ∷ s) ≡ (eqb c x and begins p s)
unfolding begins same
begins-cons x c p s = rw (leb-suc-suc (length p) (length s)) (and-swap (leb (length p) (length s)) (eqb c x) (same (take (length p) s) p))

pub begins-one : (x c : ℕ) (s : Bytes) → begins (x ∷ []) (c ∷ s) ≡ eqb c x
begins-one x c s = begins-cons x c [] s ∙ rw (begins-none s) (and-true (eqb c x))

pub begins-front : (a b d : Bytes) → begins (a ++ b) d ≡ true → begins a d ≡ true
begins-front [] b d e = begins-none d
begins-front (x ∷ a) b [] e = never (sym e ∙ begins-nothing x (a ++ b))
begins-front (x ∷ a) b (c ∷ s) e =
    let k = sym (begins-cons x c (a ++ b) s) ∙ e in
    let l = and_left (eqb c x) (begins (a ++ b) s) k in
    let r = begins-front a b s (and_right (eqb c x) (begins (a ++ b) s) k) in
    begins-cons x c a s ∙ rw (r) (and-true (eqb c x) ∙ l)

-- a byte of a list
pub begins-at : (l : Bytes) (i x : ℕ) → i < length l → begins (x ∷ []) (drop i l) ≡ eqb (get_or l i 0) x
begins-at l i x h = rw (drop-cons l i 0 h) (begins-one x (get_or l i 0) (drop (suc i) l))

pub begins-end : (l : Bytes) (i x : ℕ) → length l ≤ i → begins (x ∷ []) (drop i l) ≡ false
begins-end l i x h = rw (drop_of_length-le l h) (begins-nothing x [])

-- ---- runs of a byte

pub run_on : (x c : ℕ) (s : Bytes) → eqb c x ≡ true → run_of x (c ∷ s) ≡ suc (run_of x s)
unfolding run_of
run_on x c s e = rw (e, run_of)

pub run_ends : (x c : ℕ) (s : Bytes) → eqb c x ≡ false → run_of x (c ∷ s) ≡ zero
unfolding run_of
run_ends x c s e = rw (e, run_of)

pub run_inside : (x : ℕ) (d : Bytes) → run_of x d ≤ length d
unfolding run_of
run_inside x [] = omega arith
run_inside x (c ∷ s) = go (eqb c x) refl (run_inside x s)
  where
    go : (t : Bool) → eqb c x ≡ t → run_of x s ≤ length s → run_of x (c ∷ s) ≤ suc (length s)
    go true e ih = omega (arith, run_on x c s e)
    go false e ih = omega (arith, run_ends x c s e)

-- one more of a run
pub run_more : (x : ℕ) (l : Bytes) (i : ℕ) → begins (x ∷ []) (drop i l) ≡ true → i < length l → run_of x (drop i l) ≡ suc (run_of x (drop (i + 1) l))
run_more x l i e h =
    let f = sym (begins-at l i x h) ∙ e in
    rw (add-one i, drop-cons l i 0 h) (run_on x (get_or l i 0) (drop (suc i) l) f)

pub run_none : (x : ℕ) (d : Bytes) → begins (x ∷ []) d ≡ false → run_of x d ≡ zero
unfolding run_of
run_none x [] e = refl
run_none x (c ∷ s) e = run_ends x c s (sym (begins-one x c s) ∙ e)

pub begins-some : (x : ℕ) (l : Bytes) (i : ℕ) → begins (x ∷ []) (drop i l) ≡ true → i < length l
begins-some x l i e = go (drop i l) (length-drop i l) e
  where
    go : (d : Bytes) → length d ≡ length l - i → begins (x ∷ []) d ≡ true → i < length l
    go [] k e = never (sym e ∙ begins-nothing x [])
    go (c ∷ s) k e = omega arith

pub begins-run : (x k : ℕ) (d : Bytes) → begins (replicate k x) d ≡ leb k (run_of x d)
unfolding run_of ◌and◌
begins-run x zero d = begins-none d ∙ sym (leb-zero (run_of x d))
begins-run x (suc k) [] = begins-nothing x (replicate k x) ∙ sym (leb-suc-zero k)
begins-run x (suc k) (c ∷ s) = begins-cons x c (replicate k x) s ∙ go (eqb c x) refl (begins-run x k s)
  where
    go : (t : Bool) → eqb c x ≡ t → begins (replicate k x) s ≡ leb k (run_of x s) → (eqb c x and begins (replicate k x) s) ≡ leb (suc k) (run_of x (c ∷ s))
    go true e ih = rw (run_on x c s e, e, leb-suc-suc k (run_of x s)) ih
    go false e ih = rw (run_ends x c s e, e, leb-suc-zero k)

-- the front of a run
pub take-run : (x k : ℕ) (d : Bytes) → k ≤ run_of x d → take k d ≡ replicate k x
unfolding run_of
take-run x zero d h = refl
take-run x (suc k) [] h = absurd (let z : ⊥ = omega arith in z)
take-run x (suc k) (c ∷ s) h = go (eqb c x) refl (take-run x k s)
  where
    go : (t : Bool) → eqb c x ≡ t → (k ≤ run_of x s → take k s ≡ replicate k x) → c ∷ take k s ≡ x ∷ replicate k x
    go true e ih = rw (eqb-true c x e, ih (omega (arith, run_on x c s e)))
    go false e ih = absurd (let z : ⊥ = omega (arith, run_ends x c s e) in z)

-- a fence is the run of backticks
pub gather : (d acc : Bytes) → GatherSimpleQuotes d acc ≡ acc ++ replicate (run_of 96 d) 96
unfolding GatherSimpleQuotes run_of ascii
gather [] acc = sym (append-nil acc)
gather (c ∷ s) acc = go (eqb c 96) refl (gather s (acc ++ ascii "`"))
  where
    go : (t : Bool) → eqb c 96 ≡ t → GatherSimpleQuotes s (acc ++ ascii "`") ≡ (acc ++ ascii "`") ++ replicate (run_of 96 s) 96
        → GatherSimpleQuotes (c ∷ s) acc ≡ acc ++ replicate (run_of 96 (c ∷ s)) 96
    go true e ih = rw (begins-one 96 c s ∙ e, run_on 96 c s e, GatherSimpleQuotes) (ih ∙ append_assoc acc (96 ∷ []) (replicate (run_of 96 s) 96))
    go false e ih = rw (begins-one 96 c s ∙ e, run_ends 96 c s e, GatherSimpleQuotes) (sym (append-nil acc))

-- the source's `ensures` of `GatherSimpleQuotes`
pub gather-bounded : (d acc : Bytes) → length (GatherSimpleQuotes d acc) ≤ length acc + length d
gather-bounded d acc =
    let e = ap length (gather d acc) ∙ length-append acc (replicate (run_of 96 d) 96) in
    omega (arith, e, length-replicate {A = ℕ} (run_of 96 d) 96, run_inside 96 d)

-- ---- lines

pub line_on : (c : ℕ) (s : Bytes) → eqb c 10 ≡ false → line_length (c ∷ s) ≡ suc (line_length s)
unfolding line_length
line_on c s e = rw (e, line_length)

pub line-ends : (c : ℕ) (s : Bytes) → eqb c 10 ≡ true → line_length (c ∷ s) ≡ zero
unfolding line_length
line-ends c s e = rw (e, line_length)

pub line-more : (l : Bytes) (i : ℕ) → i < length l → (get_or l i 0 ≡ 10 → ⊥) → line_length (drop i l) ≡ suc (line_length (drop (i + 1) l))
line-more l i h k = rw (add-one i, drop-cons l i 0 h) (line_on (get_or l i 0) (drop (suc i) l) (ne_eqb (get_or l i 0) 10 k))

pub line-stops : (l : Bytes) (i : ℕ) → i < length l → get_or l i 0 ≡ 10 → line_length (drop i l) ≡ zero
line-stops l i h k = rw (drop-cons l i 0 h) (line-ends (get_or l i 0) (drop (suc i) l) (eq-eqb (get_or l i 0) 10 k))

pub line-none : (l : Bytes) (i : ℕ) → length l ≤ i → line_length (drop i l) ≡ zero
unfolding line_length
line-none l i h = rw (drop_of_length-le l h)

module _ (l : Bytes) where
  pub passed_none : (i : ℕ) → i ≤ length l → Passed l i i
  passed_none i h = record { order = omega arith; inside = h; line = omega arith }

  pub passed-more : {i j : ℕ} → Passed l i j → j < length l → (get_or l j 0 ≡ 10 → ⊥) → Passed l i (j + 1)
  passed-more {i} {j} p h k =
      let m = line-more l j h k in
      record { order = omega (arith, p.order); inside = omega arith; line = omega (arith, p.order, p.line) }

  -- byte by byte through a block: a newline was found before, or is this byte, or neither
  pub passed-byte : {i count k : ℕ} (found : Bool) → (found ≡ false → Passed l i (i + k)) → i + count ≤ length l → k < count
      → (found || eqb (get_or (take (i + count - i) (drop i l)) k 0) 10) ≡ false → Passed l i (i + (k + 1))
  passed-byte true p h n e = never e
  passed-byte {i} {count} {k} false p h n e =
      let same-byte : get_or (take (i + count - i) (drop i l)) k 0 ≡ get_or l (i + k) 0 = get_or-take (i + count - i) (drop i l) k 0 (omega arith) ∙ get_or-drop i l k 0 in
      let more : i + (k + 1) ≡ i + k + 1 = omega arith in
      rw more (passed-more (p refl) (omega arith) (subst (λ (w : ℕ). w ≡ 10 → ⊥) same-byte (eqb-false _ 10 e)))

  pub passed_then : {i j k : ℕ} → Passed l i j → Passed l j k → Passed l i k
  passed_then p q = record { order = omega (arith, p.order, q.order); inside = q.inside; line = omega (arith, p.order, q.order, p.line, q.line) }

  -- what was passed from i on was passed from a later place on
  passed-next : {i k : ℕ} → Passed l i k → i < k → Passed l (i + 1) k
  passed-next {i} {k} p h = record { order = omega arith; inside = p.inside; line = go (eqb (get_or l i 0) 10) refl (omega (arith, p.inside)) }
    where
      go : (b : Bool) → eqb (get_or l i 0) 10 ≡ b → i < length l → line_length (drop (i + 1) l) ≡ k - (i + 1) + line_length (drop k l)
      go true t n = absurd (let z : ⊥ = omega (arith, p.line, line-stops l i n (eqb-true _ 10 t)) in z)
      go false t n = omega (arith, p.line, line-more l i n (eqb-false _ 10 t))

  passed_later : {i k : ℕ} (d : ℕ) → Passed l i k → i + d ≤ k → Passed l (i + d) k
  passed_later {i = i} zero p h = rw (add-zero i) p
  passed_later {i = i} {k = k} (suc d) p h =
      let e : i + 1 + d ≡ i + suc d = omega arith in
      subst (λ (j : ℕ). Passed l j k) e (passed_later {i = i + 1} d (passed-next p (omega arith)) (omega arith))

  -- on by a block that begins at or before the place that was come to
  pub passed_over : {i j e k : ℕ} → Passed l i j → Passed l e k → e ≤ j → j ≤ k → Passed l i k
  passed_over {j = j} {e = e} {k = k} p q h n =
      let d : e + (j - e) ≡ j = omega arith in
      passed_then p (subst (λ (m : ℕ). Passed l m k) d (passed_later (j - e) q (omega arith)))

  -- up to a newline or the end
  pub passed-all : {i j : ℕ} → Passed l i j → (j < length l → get_or l j 0 ≡ 10) → j - i ≡ line_length (drop i l)
  passed-all {i} {j} p h = go (ltb j (length l)) refl
    where
      go : (t : Bool) → ltb j (length l) ≡ t → j - i ≡ line_length (drop i l)
      go true e = let k = ltb-true j (length l) e in omega (arith, p.line, line-stops l j k (h k))
      go false e = omega (arith, p.line, line-none l j (ltb-false j (length l) e))

-- ---- the first newline of a block

module _ (l : Bytes) (at : ℕ) where
  nearest-as : {n r f : ℕ} → r ≡ f → Nearest l at n f → Nearest l at n r
  nearest-as {n} e k = subst (λ (x : ℕ). Nearest l at n x) (sym e) k

  nearest-kept : {i f : ℕ} → f < 255 → Nearest l at i f → Nearest l at (i + 1) f
  nearest-kept h n =
      let s = n.some h in
      record { none = λ e. absurd (let z : ⊥ = omega arith in z); some = λ k. (omega (arith, s.0), s.1, s.2); most = n.most }

  -- one byte more: p is its place if it is a newline, and r the lesser of p and what was found before
  module _ (i f p r : ℕ) (n : Nearest l at i f) (inside : at + i < length l) (short : i < 255)
      (place : (get_or l (at + i) 0 ≡ 10 → p ≡ i) × ((get_or l (at + i) 0 ≡ 10 → ⊥) → p ≡ 255)) (choice : r ≡ min f p) where
    nearest-found : get_or l (at + i) 0 ≡ 10 → f ≡ 255 → Nearest l at (i + 1) i
    nearest-found e k = record { none = λ q. absurd (let z : ⊥ = omega arith in z); some = λ q. (omega arith, n.none k, e); most = omega arith }

    nearest-passed : (get_or l (at + i) 0 ≡ 10 → ⊥) → f ≡ 255 → Nearest l at (i + 1) f
    nearest-passed h k =
        let e : at + (i + 1) ≡ at + i + 1 = omega arith in
        record { none = λ q. rw e (passed-more l (n.none k) inside h); some = λ q. absurd (let z : ⊥ = omega arith in z); most = omega arith }

    chosen : p < f → r ≡ p
    chosen h = omega (arith, choice)

    kept : f ≤ p → r ≡ f
    kept h = omega (arith, choice)

    pub nearest-more : Nearest l at (i + 1) r
    nearest-more = go (eqb (get_or l (at + i) 0) 10) refl (ltb f 255) refl
      where
        go : (b : Bool) → eqb (get_or l (at + i) 0) 10 ≡ b → (t : Bool) → ltb f 255 ≡ t → Nearest l at (i + 1) r
        go true e true d =
            let k = ltb-true f 255 d in
            nearest-as (kept (omega (arith, (n.some k).0, place.0 (eqb-true _ 10 e)))) (nearest-kept k n)
        go true e false d =
            let q = eqb-true (get_or l (at + i) 0) 10 e in
            let k : f ≡ 255 = omega (arith, ltb-false f 255 d, n.most) in
            let pi = place.0 q in
            nearest-as (chosen (omega arith) ∙ pi) (nearest-found q k)
        go false e true d =
            let k = ltb-true f 255 d in
            nearest-as (kept (omega (arith, place.1 (eqb-false _ 10 e)))) (nearest-kept k n)
        go false e false d =
            let q = eqb-false (get_or l (at + i) 0) 10 e in
            let k : f ≡ 255 = omega (arith, ltb-false f 255 d, n.most) in
            nearest-as (kept (omega (arith, place.1 q))) (nearest-passed q k)

  -- what was found is the line's length
  pub nearest-line : {n f : ℕ} → Nearest l at n f → (f ≡ 255 → ⊥) → (f ≡ line_length (drop at l)) × (at + f ≤ length l)
  nearest-line {n} {f} m h =
      let s = m.some (omega (arith, m.most)) in
      let e : at + f - at ≡ f = omega arith in
      (sym e ∙ passed-all l s.1 (λ k. s.2), s.1.inside)

-- ---- whether backticks are a fence, by the code's tests

pub fence-outside : (count fence : ℕ) → fence ≡ 0 → (leb 3 count ≡ true → Fence count fence) × (leb 3 count ≡ false → NoFence count fence)
fence-outside count fence e = (
  λ t. record { opens = λ k. leb-true 3 count t; closes = λ k. absurd (let z : ⊥ = omega arith in z) },
  λ t. record { opens = λ k. leb-false 3 count t; closes = λ k. absurd (let z : ⊥ = omega arith in z) },
)

pub fence-inside : (count fence : ℕ) → (fence ≡ 0 → ⊥) → (leb fence count ≡ true → Fence count fence) × (leb fence count ≡ false → NoFence count fence)
fence-inside count fence h = (
  λ t. record { opens = λ k. absurd (h k); closes = λ k. leb-true fence count t },
  λ t. record { opens = λ k. absurd (h k); closes = λ k. leb-false fence count t },
)

-- ---- `rs`, and a blank behind it

pub rust-short : (d : Bytes) (b : Bool) → length d < 3 → (leb 3 (length d) and same (take 2 d) (ascii "rs") and b) ≡ false
unfolding ◌and◌
rust-short d b h = rw (lt-leb 3 (length d) h)

pub rust-test : (l : Bytes) (i : ℕ) (b : Bool) → i + 3 ≤ length l
    → (leb 3 (length (drop i l)) and same (take 2 (drop i l)) (ascii "rs") and b) ≡ (eqb (get_or l i 0) 114 and (eqb (get_or l (i + 1) 0) 115 and b))
unfolding ◌and◌ same ascii
rust-test l i b h =
    let e : length (drop i l) ≡ length l - i = length-drop i l in
    let t : leb 3 (length (drop i l)) ≡ true = le-leb 3 (length (drop i l)) (omega arith) in
    let d : drop i l ≡ get_or l i 0 ∷ get_or l (suc i) 0 ∷ drop (suc (suc i)) l =
    drop-cons l i 0 (omega arith) ∙ ap (λ (x : Bytes). get_or l i 0 ∷ x) (drop-cons l (suc i) 0 (omega arith)) in
    rw (t, d, add-one i) (regroup (eqb (get_or l i 0) 114) (eqb (get_or l (suc i) 0) 115))
  where
    regroup : (x y : Bool) → ((x and (y and true)) and b) ≡ (x and (y and b))
    regroup true true = refl
    regroup true false = refl
    regroup false y = refl

pub rust-no-s : (a b c : Bool) → b ≡ false → (a and (b and c)) ≡ false
unfolding ◌and◌
rust-no-s true b c e = rw e
rust-no-s false b c e = refl

pub rust-yes : (a b c : Bool) → a ≡ true → b ≡ true → (a and (b and c)) ≡ c
unfolding ◌and◌
rust-yes a b c e k = rw (e, k)

-- ---- what is behind a fence

pub behind-end : (l : Bytes) (i : ℕ) (a b : Bool) → length l ≤ i → (is_empty_text (drop i l) or a or b) ≡ true
unfolding is_empty_text
behind-end l i a b h = rw (drop_of_length-le l h)

pub behind_more : (l : Bytes) (i : ℕ) (a b : Bool) → i < length l → (is_empty_text (drop i l) or a or b) ≡ (a or b)
unfolding is_empty_text
behind_more l i a b h = rw (drop-cons l i 0 h)

-- a run's byte
pub run-byte : (x : ℕ) (l : Bytes) (i : ℕ) → i < length l → 0 < run_of x (drop i l) → get_or l i 0 ≡ x
run-byte x l i h k = go (eqb (get_or l i 0) x) refl
  where
    go : (t : Bool) → eqb (get_or l i 0) x ≡ t → get_or l i 0 ≡ x
    go true e = eqb-true (get_or l i 0) x e
    go false e = absurd (let z : ⊥ = omega (arith, run_none x (drop i l) (begins-at l i x h ∙ e)) in z)
