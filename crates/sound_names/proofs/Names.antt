-- Laws of words, of the words that are no names, and of names and sizes.
use Rattle.std.specs.Prelude.{Some}
use Prim.Native.Nat.{ℕ, zero, suc, ◌+◌, ◌-◌, ◌≤◌, ◌<◌}
use mathlib.Core.Path.{◌≡◌, refl, ap, sym, ◌∙◌}
use mathlib.Core.Bool.{Bool, true, false, not}
use mathlib.Core.List.{List, [], ◌∷◌}
use native.Mathlib.Omega.{arith}
use native.Mathlib.Numerals.{add-one}
use borrow.Author.Tests.{eqb-true, eqb-false, ltb-true, ltb-false, ne_eqb, leb-true}
use lib.Dec.{eqb, leb, ltb}
use lib.ListN.{length, get_or, take, drop, drop_of_length-le}
use lib.Seq.{drop-cons}
use Rattle.rast.specs.Bytes.{Bytes, ascii, same, each, among, ◌and◌, ◌or◌}
use Rattle.rast.specs.Sound.{within, is_letter, is_word_start, is_word_byte, is_word, excluded, sound_name, sound_size}
use Rattle.rast.proofs.BytesLaws.{and_yes}
use Rattle.encoding.specs.Refusals.{pick}
use Rattle.encoding.specs.Tables.{fixed_names, name_bytes}
use Rattle.encoding.specs.Types.{size_of}
use Rattle.buffer.proofs.Laws.{part_length}
use Rattle.sound_names.specs.Words.{letters, word_starts, word_lengths, begins_excluded, WordBytes}
use Rattle.encoding.proofs.Tables.{impossible, every_below, every-at, every-at-most, every-same, same-eq, name-fixed}
use Rattle.encoding.proofs.Names.{every-agree}
use Rattle.text_measure.proofs.PathNames.{part-next, part_none}

-- ---- words

word-start : (x : ℕ) → is_word_start x ≡ true → is_word_byte x ≡ true
unfolding is_word_byte
word-start x e = rw e

pub each_more : (f : ℕ → Bool) (l : Bytes) (i : ℕ) → i < length l → each f (drop i l) ≡ (f (get_or l i 0) and each f (drop (i + 1) l))
unfolding each
each_more f l i h = rw (add-one i, drop-cons l i 0 h)

pub each-end : (f : ℕ → Bool) (l : Bytes) (i : ℕ) → length l ≤ i → each f (drop i l) ≡ true
unfolding each
each-end f l i h = rw (drop_of_length-le l h)

-- a part of the text, byte by byte
module _ (f : ℕ → Bool) (l : Bytes) (end : ℕ) where
  pub part-more : (i : ℕ) → i < end → i < length l → each f (take (end - i) (drop i l)) ≡ (f (get_or l i 0) and each f (take (end - (i + 1)) (drop (i + 1) l)))
  unfolding each
  part-more i h k = rw (part-next l i end h k)

  pub part_end : (i : ℕ) → end ≤ i → each f (take (end - i) (drop i l)) ≡ true
  unfolding each
  part_end i h = rw (part_none l i end h)

  -- bytes that are as f says can be passed over
  pub part-past : (k i : ℕ) → i + k ≤ length l → ((j : ℕ) → i ≤ j → j < i + k → f (get_or l j 0) ≡ true)
      → each f (take (end - i) (drop i l)) ≡ each f (take (end - (i + k)) (drop (i + k) l))
  part-past zero i h w = let e : i + 0 ≡ i = omega arith in rw e
  part-past (suc k) i h w =
      let e : i + 1 + k ≡ i + suc k = omega arith in
      step (ltb i end) refl ∙ (rw e at (part-past k (i + 1) (omega arith) (λ j a b. w j (omega arith) (omega arith))))
    where
      step : (t : Bool) → ltb i end ≡ t → each f (take (end - i) (drop i l)) ≡ each f (take (end - (i + 1)) (drop (i + 1) l))
      step true t = part-more i (ltb-true i end t) (omega arith) ∙ and_yes _ (w i (omega arith) (omega arith))
      step false t = part_end i (ltb-false i end t) ∙ sym (part_end (i + 1) (let b = ltb-false i end t in omega arith))

pub word-part : (l : Bytes) (start end : ℕ) → start < end → start < length l
    → is_word (take (end - start) (drop start l)) ≡ (is_word_start (get_or l start 0) and each is_word_byte (take (end - (start + 1)) (drop (start + 1) l)))
unfolding is_word
word-part l start end h k = rw (part-next l start end h k)

pub no_word : (l : Bytes) (start end : ℕ) → end ≤ start → is_word (take (end - start) (drop start l)) ≡ false
unfolding is_word
no_word l start end h = rw (part_none l start end h)

-- a byte that is strange in none of four ways
pub word_byte : (x a b c d : ℕ) → ◌≡◌ {A = ℕ} a (pick (within 65 90 x) 1 0) → ◌≡◌ {A = ℕ} b (pick (within 97 122 x) 1 0) → ◌≡◌ {A = ℕ} c (pick (within 95 95 x) 1 0) → ◌≡◌ {A = ℕ} d (pick (within 48 57 x) 1 0)
    → ◌≡◌ {A = ℕ} (pick (is_word_byte x) 0 1) (pick (eqb (a + b + c + d) 0) 1 0)
unfolding is_word_byte is_word_start is_letter
word_byte x a b c d ea eb ec ed = rw (ea, eb, ec, ed, ← underscore (eqb x 95) refl) (go (within 65 90 x) (within 97 122 x) (within 95 95 x) (within 48 57 x))
  where
    underscore : (t : Bool) → eqb x 95 ≡ t → within 95 95 x ≡ eqb x 95
    underscore true e = rw (eqb-true x 95 e)
    underscore false e = rw e (go' (leb 95 x) (leb x 95) refl refl)
      where
        go' : (a b : Bool) → leb 95 x ≡ a → leb x 95 ≡ b → (leb 95 x and leb x 95) ≡ false
        go' true true i j = absurd (eqb-false x 95 e (let p = leb-true 95 x i in let q = leb-true x 95 j in omega arith))
        go' true false i j = rw (i, j)
        go' false b i j = rw i

    go : (p q r s : Bool) → ◌≡◌ {A = ℕ} (pick (p or q or r or s) 0 1) (pick (eqb (pick p 1 0 + pick q 1 0 + pick r 1 0 + pick s 1 0) 0) 1 0)
    go true true true true = refl
    go true true true false = refl
    go true true false true = refl
    go true true false false = refl
    go true false true true = refl
    go true false true false = refl
    go true false false true = refl
    go true false false false = refl
    go false true true true = refl
    go false true true false = refl
    go false true false true = refl
    go false true false false = refl
    go false false true true = refl
    go false false true false = refl
    go false false false true = refl
    go false false false false = refl

-- one byte more that is not strange
pub words_more : (text : Bytes) (at j : ℕ) {n : ℕ} → WordBytes text at (at + j) → ◌≡◌ {A = ℕ} n (pick (is_word_byte (get_or text (at + j) 0)) 0 1) → n ≡ 0
    → WordBytes text at (at + (j + 1))
words_more text at j w e z i h k = go (eqb i (at + j)) refl
  where
    here : (b : Bool) → is_word_byte (get_or text (at + j) 0) ≡ b → is_word_byte (get_or text (at + j) 0) ≡ true
    here true d = d
    here false d = absurd (let y = rw d at e in let o : ⊥ = omega arith in o)

    go : (b : Bool) → eqb i (at + j) ≡ b → is_word_byte (get_or text i 0) ≡ true
    go true d = rw (eqb-true i (at + j) d) (here (is_word_byte (get_or text (at + j) 0)) refl)
    go false d = w i h (let n = eqb-false i (at + j) d in omega arith)

-- ---- the words that are no names

pub among-more : (x : Bytes) (l : List Bytes) (k : ℕ) → k < length l → among x (drop k l) ≡ (same x (get_or l k []) or among x (drop (k + 1) l))
unfolding among
among-more x l k h = rw (add-one k, drop-cons l k [] h)

pub among-end : (x : Bytes) (l : List Bytes) (k : ℕ) → length l ≤ k → among x (drop k l) ≡ false
unfolding among
among-end x l k h = rw (drop_of_length-le l h)

pub excluded-part : (k : ℕ) → k < 17 → take (get_or word_lengths k 0) (drop (get_or word_starts k 0) letters) ≡ get_or excluded k []
unfolding every_below same word_starts word_lengths letters excluded ascii ◌and◌
excluded-part k h = every-same (λ i. take (get_or word_lengths i 0) (drop (get_or word_starts i 0) letters)) (λ i. get_or excluded i []) 17 refl k h

-- each of these words lies within the letters
pub excluded-inside : (k : ℕ) → k < 17 → get_or word_starts k 0 + get_or word_lengths k 0 ≤ 58
unfolding every_below word_starts word_lengths ◌and◌
excluded-inside k h = every-at-most (λ i. get_or word_starts i 0 + get_or word_lengths i 0) 58 17 refl k h

pub excluded-length : (k : ℕ) → k < 17 → length (get_or excluded k []) ≡ get_or word_lengths k 0
unfolding letters ascii
excluded-length k h = sym (ap length (excluded-part k h)) ∙ part_length letters (get_or word_starts k 0) (get_or word_lengths k 0) (excluded-inside k h)

-- what lacks something that all of some words have is none of them
among_none : (f : Bytes → Bool) (x : Bytes) (l : List Bytes) → ((k : ℕ) → k < length l → f (get_or l k []) ≡ true) → f x ≡ false → among x l ≡ false
unfolding among
among_none f x [] h e = refl
among_none f x (y ∷ l) h e = go (same x y) refl (among_none f x l (λ k b. h (suc k) (omega arith)) e)
  where
    go : (t : Bool) → same x y ≡ t → among x l ≡ false → (same x y or among x l) ≡ false
    go true d ih = let p : f y ≡ true = h 0 (omega arith) in let q : x ≡ y = same-eq x y d in impossible (cc)
    go false d ih = rw d ih

-- these words have two to five bytes, and begin with certain letters
pub excluded-sized : (x : Bytes) → (within 2 5 (length x)) ≡ false → among x excluded ≡ false
unfolding every_below within excluded ascii ◌and◌
excluded-sized x e = among_none (λ w. within 2 5 (length w)) x excluded (λ k h. every-at (λ i. within 2 5 (length (get_or excluded i []))) 17 refl k h) e

pub excluded-begins : (x : Bytes) → begins_excluded (get_or x 0 0) ≡ false → among x excluded ≡ false
unfolding every_below begins_excluded excluded ascii ◌and◌
excluded-begins x e = among_none (λ w. begins_excluded (get_or w 0 0)) x excluded (λ k h. every-at (λ i. begins_excluded (get_or (get_or excluded i []) 0 0)) 17 refl k h) e

-- ---- fixed names

-- of the fixed names only the first, the empty one, is unsound
pub fixed-sound : (pairs text : List ℕ) (x : ℕ) → x < 16 → sound_name (name_bytes pairs text x) ≡ not (eqb x 0)
unfolding every_below ◌and◌ sound_name is_word each is_word_byte is_word_start is_letter within among same excluded fixed_names ascii
fixed-sound pairs text x h =
    rw (name-fixed pairs text x h)
    (every-agree (λ i. sound_name (get_or fixed_names i [])) (λ i. not (eqb i 0)) 16 refl x h)

-- ---- sizes

pub size-fixed : (pairs text : List ℕ) (s : ℕ) → s < 17 → sound_size (size_of (name_bytes pairs text) s) ≡ not (eqb s 1)
unfolding every_below ◌and◌ sound_size size_of each is_word_byte is_word_start is_letter within fixed_names ascii
size-fixed pairs text s h =
    rw (name-fixed pairs text (s - 1) (omega arith))
    (every-agree (λ i. sound_size (size_of (λ x. get_or fixed_names x []) i)) (λ i. not (eqb i 1)) 17 refl s h)

pub size-named : (name : ℕ → Bytes) (s : ℕ) → 0 < s → size_of name s ≡ Some (name (s - 1))
unfolding size_of
size-named name s h = rw (ne_eqb s 0 (omega arith))

pub size-empty : (l : Bytes) → length l ≡ 0 → sound_size (Some l) ≡ false
unfolding sound_size
size-empty [] h = refl
size-empty (x ∷ l) h = absurd (let z : ⊥ = omega arith in z)

pub size-some : (l : Bytes) → 0 < length l → sound_size (Some l) ≡ each is_word_byte l
unfolding sound_size each
size-some [] h = absurd (let z : ⊥ = omega arith in z)
size-some (x ∷ l) h = refl

-- a sound name is a sound size
pub size-of-name : (l : Bytes) → sound_name l ≡ true → sound_size (Some l) ≡ true
unfolding sound_name is_word sound_size ◌and◌
size-of-name [] e = impossible (cc)
size-of-name (x ∷ l) e = go (is_word_start x) refl (each is_word_byte l) e
  where
    go : (a : Bool) → is_word_start x ≡ a → (b : Bool) → (a and b and not (among (x ∷ l) excluded)) ≡ true → (is_word_byte x and b) ≡ true
    go true i true d = rw (word-start x i)
    go true i false d = impossible (cc)
    go false i b d = impossible (cc)
