-- Laws of writing, one run of bytes behind the other.
use Prim.Native.Nat.{ℕ, zero, suc, ◌+◌, ◌-◌, ◌≤◌, ◌<◌}
use mathlib.Core.Path.{◌≡◌, refl, ap, sym, ◌∙◌, subst}
use mathlib.Core.List.{List, [], ◌∷◌, ◌++◌, append-nil, append_assoc}
use native.Mathlib.Omega.{arith}
use native.Mathlib.Nat.{add-zero}
use native.Mathlib.Numerals.{add-one, sub-one}
use lib.ListN.{length, set, get_or, take, drop, length-append, length-take, length-drop}
use borrow.Rule.Slice.PartMut.{put_mid}
use lib.Seq.{sets, sets-eq, length-sets, drop-cons, drop-drop, set_comm, set-set, take-add, take-append_seam}
use Rattle.buffer.specs.Wrote.{Wrote}

pub sets-append : (b c o : List ℕ) (p : ℕ) → sets (sets o p b) (p + length b) c ≡ sets o p (b ++ c)
sets-append [] c o p = rw add-zero
sets-append (x ∷ b) c o p =
    let e : p + suc (length b) ≡ suc p + length b = omega arith in
    rw e (sets-append b c (set o p x) (suc p))

pub wrote_nothing : (o : List ℕ) (p : ℕ) → Wrote o p [] o p
wrote_nothing o p = record { bytes = refl; next = omega arith }

pub wrote_then : {o o' o'' b c : List ℕ} {p p' p'' : ℕ} → Wrote o p b o' p' → Wrote o' p' c o'' p'' → Wrote o p (b ++ c) o'' p''
wrote_then {o} {o'} {o''} {b} {c} {p} {p'} {p''} l m = record {
  bytes = m.bytes ∙ rw (l.bytes, l.next) (sets-append b c o p);
  next = rw (length-append b c) (omega (arith, l.next, m.next));
}

-- a writer keeps the buffer's length
pub wrote_kept : {o o' b : List ℕ} {p p' : ℕ} → Wrote o p b o' p' → length o' ≡ length o
wrote_kept {o} {o'} {b} {p} l = rw l.bytes (length-sets o p b)

-- the same bytes, said in another way
pub wrote_as : {o o' b b' : List ℕ} {p p' : ℕ} → b ≡ b' → Wrote o p b o' p' → Wrote o p b' o' p'
wrote_as {o} {o'} {b} {b'} {p} {p'} e l = subst (λ (x : List ℕ). Wrote o p x o' p') e l

-- behind what is written there is room for what comes next
pub room_after : {o o' whole front : List ℕ} {p p' : ℕ} (next rest : List ℕ) → p + length whole ≤ length o → Wrote o p front o' p'
    → whole ≡ front ++ (next ++ rest) → p' + length next ≤ length o'
room_after {whole = whole} {front = front} next rest room w e =
    let l : length whole ≡ length front + (length next + length rest) = ap length e ∙ simp length-append in
    omega (arith, w.next, wrote_kept w)

-- and for what comes last
pub room-last : {o o' whole front : List ℕ} {p p' : ℕ} (next : List ℕ) → p + length whole ≤ length o → Wrote o p front o' p'
    → whole ≡ front ++ next → p' + length next ≤ length o'
room-last {front = front} next room w e = room_after next [] room w (e ∙ ap (λ (b : List ℕ). front ++ b) (sym (append-nil next)))

-- bytes that took the place of as many
pub overwritten : (o b : List ℕ) {c : List ℕ} (p k : ℕ) → c ≡ b → k ≡ length b → p + length b ≤ length o → put_mid p k o c ≡ sets o p b
overwritten o b p k e d h = rw (e, d, sets-eq b o p h, drop-drop (length b) p o) (sym (append_assoc (take p o) b (drop (p + length b) o)))

-- one more of a part
pub part-more : (l : List ℕ) (i left : ℕ) → i < length l → 0 < left → take left (drop i l) ≡ get_or l i 0 ∷ take (left - 1) (drop (i + 1) l)
part-more l i zero h k = absurd (let z : ⊥ = omega arith in z)
part-more l i (suc n) h k = rw (drop-cons l i 0 h, sub-one (suc n), add-one i)

-- one byte more of a copy
pub copied_more : (l o : List ℕ) (start count p i : ℕ) → i < count → start + i < length l
    → sets (set o (p + i) (get_or l (start + i) 0)) (p + (i + 1)) (take (count - (i + 1)) (drop (start + (i + 1)) l))
    ≡ sets o (p + i) (take (count - i) (drop (start + i) l))
copied_more l o start count p i h k =
    let more = part-more l (start + i) (count - i) k (omega arith) in
    let e₁ : p + (i + 1) ≡ suc (p + i) = omega arith in
    let e₂ : count - (i + 1) ≡ count - i - 1 = omega arith in
    let e₃ : start + (i + 1) ≡ start + i + 1 = omega arith in
    rw (more, e₁, e₂, e₃)

-- a part that lies in its list has its count of bytes
pub part_length : (l : List ℕ) (start count : ℕ) → start + count ≤ length l → length (take count (drop start l)) ≡ count
part_length l start count h = simp (length-take, length-drop) (omega arith)

-- a part that was copied was written
pub part-wrote : (l : List ℕ) (start count : ℕ) {o o' : List ℕ} {p : ℕ} → start + count ≤ length l → o' ≡ sets o p (take count (drop start l))
    → Wrote o p (take count (drop start l)) o' (p + count)
part-wrote l start count h e = record { bytes = e; next = rw (part_length l start count h) }

-- a part is its front and what follows it
part-split : (l : List ℕ) (start a b : ℕ) → take (a + b) (drop start l) ≡ take a (drop start l) ++ take b (drop (start + a) l)
part-split l start a b = take-add a b (drop start l) ∙ rw (drop-drop a start l)

-- a part whose first n bytes were copied, and then the rest
pub part-rest : (l : List ℕ) (start count n : ℕ) {o o' o'' : List ℕ} {p p'' : ℕ} → n ≤ count → start + count ≤ length l
    → o' ≡ sets o p (take n (drop start l)) → Wrote o' (p + n) (take (count - n) (drop (start + n) l)) o'' p'' → Wrote o p (take count (drop start l)) o'' p''
part-rest l start count n h k e w =
    let c : n + (count - n) ≡ count = omega arith in
    let whole : take n (drop start l) ++ take (count - n) (drop (start + n) l) ≡ take count (drop start l) =
    sym (part-split l start n (count - n)) ∙ ap (λ (m : ℕ). take m (drop start l)) c in
    wrote_as whole (wrote_then (part-wrote l start n (omega arith) e) w)

-- ---- bytes that are written twice

set-earlier : (b o : List ℕ) (p q x : ℕ) → q < p → set (sets o p b) q x ≡ sets (set o q x) p b
set-earlier [] o p q x h = refl
set-earlier (y ∷ b) o p q x h =
    let apart : p ≡ q → ⊥ = λ e. let z : ⊥ = omega arith in z in
    set-earlier b (set o p y) (suc p) q x (omega arith) ∙ ap (λ (l : List ℕ). sets l (suc p) b) (set_comm o p q y x apart)

-- what is written over shows nowhere
sets_over : (b c o : List ℕ) (p : ℕ) → length b ≤ length c → sets (sets o p b) p c ≡ sets o p c
sets_over [] c o p h = refl
sets_over (x ∷ b) [] o p h = absurd (let z : ⊥ = omega arith in z)
sets_over (x ∷ b) (y ∷ c) o p h =
    let e₁ = set-earlier b (set o p x) (suc p) p y (omega arith) in
    let e₂ = set-set o p x y in
    rw (e₁, e₂) (sets_over b c (set o p y) (suc p) (omega arith))

-- the first half bytes of a part and its last half bytes are all of it, even where they overlap
pub ends-meet : (l o : List ℕ) (start half count p : ℕ) → half ≤ count → count ≤ half + half → start + count ≤ length l
    → sets (sets o p (take half (drop start l))) (p + (count - half)) (take half (drop (start + (count - half)) l)) ≡ sets o p (take count (drop start l))
ends-meet l o start half count p h k m =
    let d = count - half in
    let front = take d (drop start l) in
    let back = take half (drop (start + d) l) in
    let seam = take (half - d) (drop (start + d) l) in
    let e₁ : half ≡ d + (half - d) = omega arith in
    let e₂ : count ≡ d + half = omega arith in
    let first : take half (drop start l) ≡ front ++ seam = ap (λ (n : ℕ). take n (drop start l)) e₁ ∙ part-split l start d (half - d) in
    let whole : take count (drop start l) ≡ front ++ back = ap (λ (n : ℕ). take n (drop start l)) e₂ ∙ part-split l start d half in
    let n₁ : length front ≡ d = part_length l start d (omega arith) in
    let n₂ : length seam ≡ half - d = part_length l (start + d) (half - d) (omega arith) in
    let n₃ : length back ≡ half = part_length l (start + d) half (omega arith) in
    let at : p + length front ≡ p + d = ap (◌+◌ p) n₁ in
    let laid : sets (sets o p front) (p + d) seam ≡ sets o p (front ++ seam) = rw at at (sets-append front seam o p) in
    let behind : sets (sets o p front) (p + d) back ≡ sets o p (front ++ back) = rw at at (sets-append front back o p) in
    ap (λ (q : List ℕ). sets q (p + d) back) (ap (sets o p) first ∙ sym laid)
    ∙ sets_over seam back (sets o p front) (p + d) (omega arith)
    ∙ behind
    ∙ ap (sets o p) (sym whole)

-- ---- the front of a buffer

pub sets-front : (b o : List ℕ) → length b ≤ length o → sets o 0 b ≡ b ++ drop (length b) o
sets-front b o h = let z : 0 + length b ≡ length b = omega arith in sets-eq b o 0 (omega arith) ∙ ap (λ (n : ℕ). b ++ drop n o) z

-- what was copied to the front of a buffer is read there
pub read_back : (l o : List ℕ) (start count : ℕ) → start + count ≤ length l → count ≤ length o
    → take count (sets o 0 (take count (drop start l))) ≡ take count (drop start l)
read_back l o start count h k =
    let part = take count (drop start l) in
    let n : length part ≡ count = part_length l start count h in
    rw (sets-front part o (omega arith)) (ap (λ (m : ℕ). take m (part ++ drop (length part) o)) (sym n) ∙ take-append_seam part (drop (length part) o))

-- what is written from the front on stands in the front
pub wrote-front : {o o' b : List ℕ} {p : ℕ} → length b ≤ length o → Wrote o 0 b o' p → take p o' ≡ b
wrote-front {o} {o'} {b} {p} h w =
    let e : p ≡ length b = omega (arith, w.next) in
    rw (e, w.bytes, sets-front b o h) (take-append_seam b (drop (length b) o))
