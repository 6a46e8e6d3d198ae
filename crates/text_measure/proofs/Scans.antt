-- From the reading of a head or a path to the code's answer.
use Rattle.std.specs.Prelude.{Ok, Err, Result}
use Prim.Native.Nat.{ℕ, ◌+◌, ◌^◌, ◌≤◌, ◌<◌}
use mathlib.Core.Path.{◌≡◌, ap}
use mathlib.Core.List.{List}
use native.Mathlib.Omega.{arith}
use Rattle.encoding.specs.declared.Refusal.{Refusal}
use Rattle.encoding.specs.declared.Head.{Head}
use Rattle.encoding.specs.Reading.{Reading, got, stop, read_word, read_below}
use Rattle.encoding.specs.Scans.{scan_of}
use Rattle.encoding.specs.Tested.{name_length}
use Rattle.encoding.specs.declared.PathAt.{PathAt}
use Rattle.encoding.specs.Heads.{read_path}
use Rattle.encoding.specs.HeadWords.{kids}
use Rattle.encoding.proofs.Reading.{read-got, read-stop}
use Rattle.encoding.proofs.Inside.{Next, below-there}
use Rattle.encoding.proofs.Tables.{impossible}
use Rattle.text_measure.specs.declared.Own.{Own}
use Rattle.text_measure.specs.declared.Own.TheVariants.{Leaf, Node}
use Rattle.text_measure.specs.Lengths.{path_length, own_length, mode_of, worded, names_path, CutDown, exact, many, PathScanned, read, unread, Scanned, leaf, node, none}

-- a path, behind its root and its count
pub path_names : (bound : ℕ) (ws : List ℕ) (at : ℕ) {root p n q : ℕ} → read_below 3 ws at ≡ got root p → read_word ws p ≡ got n q
    → read_path bound ws at ≡ names_path bound ws (record { root = root; start = q; count = n })
unfolding read_path names_path
path_names bound ws at e d = rw (e, d)

module _ (ws pairs : List ℕ) {x : Reading PathAt} where
  pub path-read : (p : PathAt) {r : Result (PathAt × ℕ × ℕ) Refusal} {n b : ℕ} → x ≡ got p n → r ≡ Ok (p, n, b) → b ≡ path_length ws (name_length pairs) p → b ≤ 2 ^ 46
      → PathScanned ws pairs x r
  path-read p e d b short = rw d (read e b short)

  pub path-unread : {r : Result (PathAt × ℕ × ℕ) Refusal} {k : Refusal} → x ≡ stop k → r ≡ Err k → PathScanned ws pairs x r
  path-unread e d = rw d (unread e)

  pub path-as : {y : Reading PathAt} {r : Result (PathAt × ℕ × ℕ) Refusal} → x ≡ y → PathScanned ws pairs y r → PathScanned ws pairs x r
  path-as e s = rw e s

-- what an answer about a path says
module _ {ws pairs : List ℕ} {x : Reading PathAt} where
  pub path-got : {r : Result (PathAt × ℕ × ℕ) Refusal} {p : PathAt} {n b : ℕ} → PathScanned ws pairs x r → r ≡ Ok (p, n, b)
      → (x ≡ got p n) × (b ≡ path_length ws (name_length pairs) p) × (b ≤ 2 ^ 46)
  path-got {p = p'} {n = n'} {b = b'} (read {p} {n} {b} e l s) d =
      let f : ◌≡◌ {A = PathAt × ℕ × ℕ} (p', n', b') (p, n, b) = cc in
      rw (ap (λ z. z.0) f, ap (λ z. z.1) f, ap (λ z. z.2) f) (e, l, s)
  path-got (unread e) d = impossible (cc)

  pub path-stop : {r : Result (PathAt × ℕ × ℕ) Refusal} {k : Refusal} → PathScanned ws pairs x r → r ≡ Err k → x ≡ stop k
  path-stop (read e l s) d = impossible (cc)
  path-stop {k = k} (unread {r} e) d = let f : r ≡ k = cc in rw f at e

-- one type more, by a count that may be cut down
pub counted-more : {k n : ℕ} → CutDown k n → CutDown (k + 1) (n + 1)
counted-more {k} {n} (exact e) = let f : k + 1 ≡ n + 1 = omega arith in exact f
counted-more {k} {n} (many h l) = let f : 8192 ≤ k + 1 = omega arith in let g : 8192 ≤ n + 1 = omega arith in many f g

pub counted-some : {k n : ℕ} → CutDown k n → 0 < n → 0 < k
counted-some (exact e) h = omega arith
counted-some (many k l) h = omega arith

-- a word below a bound, from the answer about it
pub below-got : (b : ℕ) (ws : List ℕ) (at : ℕ) {r : Result (ℕ × ℕ) Refusal} {w n : ℕ} → r ≡ scan_of (read_below b ws at) → r ≡ Ok (w, n) → Next b ws at w n
below-got b ws at e d = below-there b ws at (read-got (read_below b ws at) e d)

-- a head with one own word, from the answer about the word
module _ (f : ℕ → Head) (x : Reading ℕ) {r : Result (ℕ × ℕ) Refusal} (e : r ≡ scan_of x) where
  pub worded-got : {w n : ℕ} → r ≡ Ok (w, n) → worded f x ≡ got (f w) n
  worded-got d = ap (worded f) (read-got x e d)

  pub worded-stop : {k : Refusal} → r ≡ Err k → worded f x ≡ stop k
  worded-stop d = ap (worded f) (read-stop x e d)

  -- and if it is 0
  pub worded-none : {w n : ℕ} → r ≡ Ok (w, n) → w ≡ 0 → worded f x ≡ got (f 0) n
  worded-none d z = rw z at (worded-got d)

module _ (ws pairs : List ℕ) {x : Reading Head} where
  pub scanned-leaf : (h : Head) {r : Result Own Refusal} {n b : ℕ} → x ≡ got h n → r ≡ Ok (Leaf n b)
      → kids h ≡ 0 → b ≡ own_length ws (name_length pairs) h → b ≤ 2 ^ 46 → Scanned ws pairs x r
  scanned-leaf h e d k b short = rw d (leaf e k b short)

  pub scanned-counted : (h : Head) {r : Result Own Refusal} {n k b m : ℕ} → x ≡ got h n → r ≡ Ok (Node n k b m)
      → CutDown k (kids h) → b ≡ own_length ws (name_length pairs) h → m ≡ mode_of h → 0 < k → k ≤ 2 ^ 15 → b ≤ 2 ^ 46 → Scanned ws pairs x r
  scanned-counted h e d k b m some few short = rw d (node e k b m some few short)

  pub scanned-node : (h : Head) {r : Result Own Refusal} {n k b m : ℕ} → x ≡ got h n → r ≡ Ok (Node n k b m)
      → k ≡ kids h → b ≡ own_length ws (name_length pairs) h → m ≡ mode_of h → 0 < k → k ≤ 2 ^ 15 → b ≤ 2 ^ 46 → Scanned ws pairs x r
  scanned-node h e d k = scanned-counted h e d (exact k)

  pub scanned-stop : {r : Result Own Refusal} {k : Refusal} → x ≡ stop k → r ≡ Err k → Scanned ws pairs x r
  scanned-stop e d = rw d (none e)

  pub scanned-as : {y : Reading Head} {r : Result Own Refusal} → x ≡ y → Scanned ws pairs y r → Scanned ws pairs x r
  scanned-as e s = rw e s
