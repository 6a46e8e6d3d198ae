-- Laws of words laid down in a buffer.
use Rattle.std.specs.Prelude.{Some, None, Option}
use Prim.Native.Nat.{ℕ, ◌+◌, ◌-◌, ◌*◌, ◌≤◌, ◌<◌}
use mathlib.Core.Path.{◌≡◌, refl, ap, sym, ◌∙◌, subst}
use mathlib.Core.List.{List, [], ◌∷◌, ◌++◌, append_assoc, append-nil}
use native.Mathlib.Omega.{arith}
use native.Mathlib.Numerals.{add-one}
use lib.ListN.{length, take, drop, get_or, set, length-append, length-drop, get_or-append}
use lib.Seq.{sets, sets-eq, length-sets, take-suc, take_at, drop_at, take-take, take-add, length-take-le, get_or-take, get_or-drop}
use Rattle.buffer.proofs.Laws.{part_length, sets-append}
use Rattle.rebuild_rules.specs.Table.{to_words, EntriesFit}
use Rattle.rebuild_rules.specs.Scans.{SpansTo, depth_of}
use Rattle.encoding.specs.Reading.{got}
use Rattle.tree_words.specs.Numbered.{tree_at}
use Rattle.rebuild_type.specs.Laid.{Grown, Lays, laid, over, GivesTo, given, too_long, rebuilt, full, WordRebuilds}

-- ---- copying

pub copy_more : (o s : List ℕ) (p start i : ℕ) → start + i < length s
    → set (sets o p (take i (drop start s))) (p + i) (get_or s (start + i) 0) ≡ sets o p (take (i + 1) (drop start s))
copy_more o s p start i h =
    let k : i < length (drop start s) = simp length-drop (omega arith) in
    let b = take i (drop start s) in
    let e : length b ≡ i = length-take-le i (drop start s) (omega arith) in
    let j : sets (sets o p b) (p + length b) (get_or s (start + i) 0 ∷ []) ≡ sets o p (b ++ (get_or s (start + i) 0 ∷ [])) = sets-append b (get_or s (start + i) 0 ∷ []) o p in
    rw (add-one i, take-suc (drop start s) i 0 k, get_or-drop start s i 0) (rw e at j)

pub copy-one : (o s : List ℕ) (p start : ℕ) → start < length s → set o p (get_or s start 0) ≡ sets o p (take 1 (drop start s))
copy-one o s p start h =
    let z : p + 0 ≡ p = omega arith in
    let y : start + 0 ≡ start = omega arith in
    rw (z, y) at (copy_more o s p start 0 (omega arith))

pub copy-two : (o s : List ℕ) (p start : ℕ) → start + 1 < length s → set (set o p (get_or s start 0)) (p + 1) (get_or s (start + 1) 0) ≡ sets o p (take 2 (drop start s))
copy-two o s p start h = rw (copy-one o s p start (omega arith)) (copy_more o s p start 1 h)

-- ---- what has grown

pub grown-sets : (o b : List ℕ) (p q : ℕ) {o' : List ℕ} → p + length b ≤ length o → o' ≡ sets o p b → q ≡ p + length b → Grown o p b o' q
grown-sets o b p q {o'} h e d =
    let f : sets o p b ≡ take p o ++ b ++ drop (p + length b) o = sets-eq b o p h in
    let n : length (take p o ++ b) ≡ q = length-append (take p o) b ∙ ap (λ (x : ℕ). x + length b) (length-take-le p o (omega arith)) ∙ sym d in
    record {
      kept = rw e (length-sets o p b);
      next = d;
      room = omega arith;
      front = rw (e, f) (take_at (take p o ++ b) (drop (p + length b) o) q n);
    }

pub grown-then : {o o' o'' b c : List ℕ} {p p' p'' : ℕ} → Grown o p b o' p' → Grown o' p' c o'' p'' → Grown o p (b ++ c) o'' p''
grown-then {o} {o'} {o''} {b} {c} {p} {p'} {p''} l m = record {
  kept = m.kept ∙ l.kept;
  next = rw (length-append b c) (omega (arith, l.next, m.next));
  room = omega (arith, m.room, l.kept);
  front = m.front ∙ ap (λ (x : List ℕ). x ++ c) l.front ∙ append_assoc (take p o) b c;
}

pub grown-nothing : (o : List ℕ) (p : ℕ) → p ≤ length o → Grown o p [] o p
grown-nothing o p h = record { kept = refl; next = omega arith; room = h; front = sym (append-nil (take p o)) }

-- of what was taken, the front alone
pub front-taken : (l x y : List ℕ) (k n : ℕ) → take n l ≡ x ++ y → length x ≡ k → k ≤ n → take k l ≡ x
front-taken l x y k n e d h = sym (take-take k n l h) ∙ ap (take k) e ∙ take_at x y k d

-- what lies below the start stays
grown-below : {o o' b : List ℕ} {p p' : ℕ} → Grown o p b o' p' → take p o' ≡ take p o
grown-below {o} {o'} {b} {p} {p'} l = front-taken o' (take p o) b p p' l.front (length-take-le p o (omega (arith, l.next, l.room))) (omega (arith, l.next))

-- the words that were laid down
pub grown-words : {o o' b : List ℕ} {p p' : ℕ} → Grown o p b o' p' → take (p' - p) (drop p o') ≡ b
grown-words {o} {o'} {b} {p} {p'} l =
    let k : p ≤ length o = omega (arith, l.next, l.room) in
    let e : p' ≡ p + (p' - p) = omega (arith, l.next) in
    let n : length (take p o) ≡ p = length-take-le p o k in
    let f : take p o' ++ take (p' - p) (drop p o') ≡ take p o ++ b = sym (take-add p (p' - p) o') ∙ ap (λ (x : ℕ). take x o') (sym e) ∙ l.front in
    let g : take p o ++ take (p' - p) (drop p o') ≡ take p o ++ b = rw (grown-below l) at f in
    sym (drop_at (take p o) (take (p' - p) (drop p o')) p n) ∙ ap (drop p) g ∙ drop_at (take p o) b p n

-- the first word of a part, and of words that were laid down with a part before them
part-first : (l : List ℕ) (start n : ℕ) → 0 < n → get_or (take n (drop start l)) 0 0 ≡ get_or l start 0
part-first l start n h = get_or-take n (drop start l) 0 0 h ∙ get_or-drop start l 0 0 ∙ (let z : start + 0 ≡ start = omega arith in ap (λ i. get_or l i 0) z)

pub grown-first : (s : List ℕ) (start n : ℕ) (c : List ℕ) {o o' : List ℕ} {p p' : ℕ} → 0 < n → start + n ≤ length s → Grown o p (take n (drop start s) ++ c) o' p' → get_or o' p 0 ≡ get_or s start 0
grown-first s start n c {o} {o'} {p} {p'} h k l =
    let own = take n (drop start s) in
    let m : length own ≡ n = part_length s start n k in
    let q : 0 < p' - p = omega (arith, l.next, length-append own c, m) in
    sym (part-first o' p (p' - p) q) ∙ ap (λ (b : List ℕ). get_or b 0 0) (grown-words l) ∙ get_or-append own c 0 0 (omega (arith, m)) ∙ part-first s start n h

-- what was laid down from the same start, in place of what lay there
pub grown-over : {o o' o'' b c : List ℕ} {p p' p'' : ℕ} → Grown o p b o' p' → Grown o' p c o'' p'' → Grown o p c o'' p''
grown-over {o} {o'} {o''} {b} {c} {p} l m = record {
  kept = m.kept ∙ l.kept;
  next = m.next;
  room = omega (arith, m.room, l.kept);
  front = m.front ∙ ap (λ (x : List ℕ). x ++ c) (grown-below l);
}

-- ---- answers

pub lays-to : {limit p q : ℕ} {o b o' : List ℕ} {r : Option ℕ} → Lays limit o p b o' r → r ≡ Some q → (q ≤ limit) × Grown o p b o' q
lays-to {limit} {p} {q} {o} {b} {o'} e d = go (subst (Lays limit o p b o') d e)
  where
    go : Lays limit o p b o' (Some q) → (q ≤ limit) × Grown o p b o' q
    go (laid h l) = (h, l)

pub lays-over : {limit p : ℕ} {o b o' : List ℕ} {r : Option ℕ} → Lays limit o p b o' r → r ≡ None → (limit < p + length b) × (length o' ≡ length o)
lays-over {limit} {p} {o} {b} {o'} e d = go (subst (Lays limit o p b o') d e)
  where
    go : Lays limit o p b o' None → (limit < p + length b) × (length o' ≡ length o)
    go (over h k) = (h, k)

-- a part of the words was laid down, or it was too long
pub part-laid : {limit q : ℕ} {o' : List ℕ} (o src : List ℕ) (p start count : ℕ) → start + count ≤ length src → p + count ≤ limit → limit ≤ length o → o' ≡ sets o p (take count (drop start src)) → q ≡ p + count
    → Lays limit o p (take count (drop start src)) o' (Some q)
part-laid {limit} {q} o src p start count h k l e d =
    let n = part_length src start count h in
    let m : q ≤ limit = omega arith in
    laid m (grown-sets o (take count (drop start src)) p q (omega (arith, n)) e (omega (arith, n, d)))

pub part-over : {limit : ℕ} {o' : List ℕ} (o src : List ℕ) (p start count : ℕ) → start + count ≤ length src → p ≤ limit → limit - p < count → o' ≡ o → Lays limit o p (take count (drop start src)) o' None
part-over {limit} {o'} o src p start count h k l e =
    let n = part_length src start count h in
    let m : limit < p + length (take count (drop start src)) = omega (arith, n) in
    over m (ap length e)

-- one word was laid down, or there was no room for it
module _ {limit : ℕ} (o : List ℕ) (w p at : ℕ) where
  pub word-laid : p < limit → limit ≤ length o → WordRebuilds limit o p (got w (at + 1)) (set o p w) (Some (at + 1, p + 1, 0))
  word-laid h l =
      let k : p + 1 ≤ limit = omega arith in
      rebuilt refl k k (grown-sets o (w ∷ []) p (p + 1) (omega arith) refl refl) refl

  pub word_over : limit ≤ p → WordRebuilds limit o p (got w (at + 1)) o None
  word_over h = let k : limit < p + 1 = omega arith in full refl k refl

-- ---- the to of a rule in place of a finished type

-- as the entries say that it begins at `to`
module _ {rules table : List ℕ} {i to end : ℕ} (d : to ≡ get_or table (4 * i + 1) 0) (e : end ≡ get_or table (4 * i + 2) 0) where
  module _ {k : ℕ} (f : EntriesFit rules table k) (h : i < k) where
    pub to-ends : to ≤ end
    to-ends = omega (arith, f.to i h, d, e)

    pub to_inside : to + (end - to) ≤ length rules
    to_inside = omega (arith, to-ends, f.inside i h, e)

    pub to-spans : (pairs : List ℕ) → SpansTo (tree_at rules pairs (get_or table (4 * i + 1) 0)) (get_or table (4 * i + 2) 0) → SpansTo (tree_at rules pairs to) (to + (end - to))
    to-spans pairs t = let z : to + (end - to) ≡ end = omega (arith, to-ends) in rw (z, d, e) t

  module _ {pairs : List ℕ} {limit start : ℕ} {o o' : List ℕ} {r : Option ℕ} (l : Lays limit o start (take (end - to) (drop to rules)) o' r) where
    pub gives_to : {q n : ℕ} → r ≡ Some q → n ≡ depth_of (tree_at rules pairs to) → GivesTo rules pairs table i limit o start o' (Some (q, n))
    unfolding to_words
    gives_to k m = let t = lays-to (rw (d, e) at l) k in given t.0 t.1 (rw d at m)

    pub gives-over : r ≡ None → GivesTo rules pairs table i limit o start o' None
    unfolding to_words
    gives-over k = let t = lays-over (rw (d, e) at l) k in too_long t.0 t.1
