-- What holds of a head or a type that was read: where it lies, and that its names are names.
use Prim.Native.Nat.{ℕ, zero, suc, ◌+◌, ◌≤◌, ◌<◌}
use mathlib.Core.Path.{◌≡◌, refl, sym, ◌∙◌, subst}
use mathlib.Core.Bool.{Bool, true, false}
use mathlib.Core.List.{List}
use native.Mathlib.Omega.{arith}
use native.Mathlib.Decide.{ℕ_discrete}
use borrow.Author.Tests.{ltb-true}
use lib.Dec.{ltb, eqb}
use lib.ListN.{length, get_or}
use Rattle.encoding.specs.declared.PathAt.{PathAt}
use Rattle.encoding.specs.declared.Head.{Head}
use Rattle.encoding.specs.declared.Head.TheVariants.{Name, Apply, Tuple, Function, ArrayOf, Meta}
use Rattle.encoding.specs.Refusals.{pick}
use Rattle.encoding.specs.Reading.{Reading, got, stop, ◌>>=◌, read_word, read_below, read_names}
use Rattle.encoding.specs.Heads.{read_path, path_head, head_after, read_head}
use Rattle.encoding.specs.HeadWords.{InsidePath, InsideHead}
use Rattle.encoding.proofs.Heads.{head_at}

-- P of what was read, if anything was
abbrev pub Holds : {A : Type 0} → (A → ℕ → Type 0) → Reading A → Type 0
Holds P (got a n) = P a n
Holds P (stop r) = Unit {0}

pub holds_on : {A B : Type 0} (Q : A → ℕ → Type 0) (P : B → ℕ → Type 0) (x : Reading A) (g : A → ℕ → Reading B)
    → Holds Q x → ((a : A) (n : ℕ) → Q a n → Holds P (g a n)) → Holds P (x >>= g)
holds_on Q P (got a n) g h k = k a n h
holds_on Q P (stop r) g h k = tt

pub holds-pick : {A : Type 0} (P : A → ℕ → Type 0) (t : Bool) (x y : Reading A)
    → (t ≡ true → Holds P x) → Holds P y → Holds P (pick t x y)
holds-pick P true x y h k = h refl
holds-pick P false x y h k = k

holds-weaker : {A : Type 0} (Q P : A → ℕ → Type 0) (x : Reading A) → ((a : A) (n : ℕ) → Q a n → P a n) → Holds Q x → Holds P x
holds-weaker Q P (got a n) f h = f a n h
holds-weaker Q P (stop r) f h = tt

-- a word below b was there
pub record Next (b : ℕ) (ws : List ℕ) (at w n : ℕ) : Type 0 where
  pub here : at < length ws
  pub next : n ≡ at + 1
  pub same : w ≡ get_or ws at 0
  pub below : w < b

pub record There (ws : List ℕ) (at w n : ℕ) : Type 0 where
  pub here : at < length ws
  pub next : n ≡ at + 1
  pub same : w ≡ get_or ws at 0

pub word_holds : (ws : List ℕ) (at : ℕ) → Holds (There ws at) (read_word ws at)
unfolding read_word
word_holds ws at = holds-pick (There ws at) (ltb at (length ws)) _ _ (λ t. record { here = ltb-true at (length ws) t; next = refl; same = refl }) tt

pub below_holds : (b : ℕ) (ws : List ℕ) (at : ℕ) → Holds (Next b ws at) (read_below b ws at)
unfolding read_below
below_holds b ws at =
    holds_on (There ws at) (Next b ws at) (read_word ws at) _ (word_holds ws at)
    (λ w n h. holds-pick (Next b ws at) (ltb w b) _ _ (λ t. record { here = h.here; next = h.next; same = h.same; below = ltb-true w b t }) tt)

-- the same of a word that was read
pub word-there : (ws : List ℕ) (at : ℕ) {w n : ℕ} → read_word ws at ≡ got w n → There ws at w n
word-there ws at e = subst (Holds (There ws at)) e (word_holds ws at)

pub below-there : (b : ℕ) (ws : List ℕ) (at : ℕ) {w n : ℕ} → read_below b ws at ≡ got w n → Next b ws at w n
below-there b ws at e = subst (Holds (Next b ws at)) e (below_holds b ws at)

-- n names stand from `at` on
pub record Names (b : ℕ) (ws : List ℕ) (n at : ℕ) (u : Unit {0}) (r : ℕ) : Type 0 where
  pub end : r ≡ at + n
  pub inside : at + n ≤ length ws
  pub below : (i : ℕ) → at ≤ i → i < at + n → get_or ws i 0 < b

pub names-hold : (b : ℕ) (ws : List ℕ) (n at : ℕ) → at ≤ length ws → Holds (Names b ws n at) (read_names b ws n at)
unfolding read_names
names-hold b ws zero at h = record { end = omega arith; inside = omega arith; below = λ i k m. absurd (let z : ⊥ = omega arith in z) }
names-hold b ws (suc n) at h =
    holds_on (Next b ws at) (Names b ws (suc n) at) (read_below b ws at) _ (below_holds b ws at) λ x p k. rw k.next
    (holds-weaker (Names b ws n (at + 1)) (Names b ws (suc n) at) (read_names b ws n (at + 1)) (λ u r m. more x k m) (names-hold b ws n (at + 1) (omega (arith, k.here))))
  where
    more : (x : ℕ) {p : ℕ} → Next b ws at x p → {u : Unit {0}} {r : ℕ} → Names b ws n (at + 1) u r → Names b ws (suc n) at u r
    more x k m = record {
      end = omega (arith, m.end);
      inside = omega (arith, m.inside);
      below = λ i l j. first i l j (ℕ_discrete i at);
    }
      where
        first : (i : ℕ) → at ≤ i → i < at + suc n → Dec (i ≡ at) → get_or ws i 0 < b
        first i l j (yes e) = rw e (rw k.same at k.below)
        first i l j (no e) = m.below i (omega arith) (omega arith)

-- what was read from `at` to n lies in the words, and P holds of it
pub record Lies {A : Type 0} (P : A → Type 0) (ws : List ℕ) (at : ℕ) (x : A) (n : ℕ) : Type 0 where
  pub starts : at < n
  pub ends : n ≤ length ws
  pub own : P x

-- P of a path, from what holds of its root, of its count and of its names
pub path-by : (P : PathAt → ℕ → Type 0) (b : ℕ) (ws : List ℕ) (at : ℕ)
    → ((root p n q : ℕ) (u : Unit {0}) (r : ℕ) → Next 3 ws at root p → There ws p n q → Names b ws n q u r → P (record { root = root; start = q; count = n }) r)
    → Holds P (read_path b ws at)
unfolding read_path
path-by P b ws at f =
    holds_on (Next 3 ws at) P (read_below 3 ws at) _ (below_holds 3 ws at) λ root p h.
    holds_on (There ws p) P (read_word ws p) _ (word_holds ws p) λ n q k.
    holds_on (Names b ws n q) P (read_names b ws n q) _ (names-hold b ws n q (omega (arith, k.here, k.next))) λ u r m. f root p n q u r h k m

path-holds : (b : ℕ) (ws : List ℕ) (at : ℕ) → Holds (Lies (InsidePath b ws) ws at) (read_path b ws at)
path-holds b ws at = path-by (Lies (InsidePath b ws) ws at) b ws at λ root p n q u r h k m. record {
  starts = omega (arith, h.next, k.next, m.end);
  ends = omega (arith, m.end, m.inside);
  own = record { root = h.below; inside = m.inside; below = m.below };
}

-- what follows the kind lies between the kind's end and the words' end
abbrev After : ℕ → List ℕ → ℕ → Head → ℕ → Type 0
After b ws p h n = (p ≤ n) × (n ≤ length ws) × InsideHead b ws h

-- any word will do, and no more is asked of the head
count-holds : (b : ℕ) (ws : List ℕ) (p : ℕ) (f : ℕ → Head) → ((n : ℕ) → InsideHead b ws (f n)) → Holds (After b ws p) (read_word ws p >>= λ n q. got (f n) q)
count-holds b ws p f k =
    holds_on (There ws p) (After b ws p) (read_word ws p) _ (word_holds ws p)
    (λ n q h. (omega (arith, h.next), omega (arith, h.here, h.next), k n))

-- a word below c, by which the head is known
bound-holds : (b : ℕ) (ws : List ℕ) (p c : ℕ) (f : ℕ → Head) → ((x : ℕ) → x < c → InsideHead b ws (f x)) → Holds (After b ws p) (read_below c ws p >>= λ x q. got (f x) q)
bound-holds b ws p c f k =
    holds_on (Next c ws p) (After b ws p) (read_below c ws p) _ (below_holds c ws p)
    (λ x q h. (omega (arith, h.next), omega (arith, h.here, h.next), k x h.below))

after_holds : (b : ℕ) (ws : List ℕ) (w p : ℕ) → p ≤ length ws → Holds (After b ws p) (head_after b ws w p)
unfolding head_after path_head
after_holds b ws w p le =
    holds-pick (After b ws p) (ltb w 12) _ _ (λ t. (omega arith, le, ltb-true w 12 t))
    (holds-pick (After b ws p) (eqb w 12) _ _ (λ t. bound-holds b ws p b Name (λ x h. h))
    (holds-pick (After b ws p) (eqb w 13) _ _ (λ t. holds_on (Lies (InsidePath b ws) ws p) (After b ws p) (read_path b ws p) _ (path-holds b ws p) (λ x q h. (omega (arith, h.starts), h.ends, h.own)))
    (holds-pick (After b ws p) (eqb w 14) _ _ (λ t. count-holds b ws p Apply (λ n. tt))
    (holds-pick (After b ws p) (eqb w 15) _ _ (λ t. (omega arith, le, tt))
    (holds-pick (After b ws p) (eqb w 16) _ _ (λ t. (omega arith, le, tt))
    (holds-pick (After b ws p) (eqb w 17) _ _ (λ t. (omega arith, le, tt))
    (holds-pick (After b ws p) (eqb w 18) _ _ (λ t. (omega arith, le, tt))
    (holds-pick (After b ws p) (eqb w 19) _ _ (λ t. count-holds b ws p Tuple (λ n. tt))
    (holds-pick (After b ws p) (eqb w 20) _ _ (λ t. count-holds b ws p Function (λ n. tt))
    (holds-pick (After b ws p) (eqb w 21) _ _ (λ t. (omega arith, le, tt))
    (holds-pick (After b ws p) (eqb w 22) _ _ (λ t. bound-holds b ws p (b + 1) ArrayOf (λ s h. h))
    (holds-pick (After b ws p) (eqb w 23) _ _ (λ t. (omega arith, le, tt))
    (holds-pick (After b ws p) (eqb w 24) _ _ (λ t. bound-holds b ws p 4 Meta (λ x h. tt))
    tt)))))))))))))

head-holds : (b : ℕ) (ws : List ℕ) (at : ℕ) → Holds (Lies (InsideHead b ws) ws at) (read_head b ws at)
unfolding read_head
head-holds b ws at =
    holds_on (There ws at) (Lies (InsideHead b ws) ws at) (read_word ws at) _ (word_holds ws at) λ w p h.
    holds-weaker (After b ws p) (Lies (InsideHead b ws) ws at) (head_after b ws w p) (λ x n k. record {
      starts = omega (arith, h.next, k.0);
      ends = k.1;
      own = k.2;
    }) (after_holds b ws w p (omega (arith, h.here, h.next)))

abbrev pub HeadLies : ℕ → List ℕ → ℕ → Head → ℕ → Type 0
HeadLies b ws = Lies (InsideHead b ws) ws

pub head-lies : (b : ℕ) (ws : List ℕ) (at : ℕ) {h : Head} {n : ℕ} → read_head b ws at ≡ got h n → HeadLies b ws at h n
head-lies b ws at e = subst (Holds (HeadLies b ws at)) e (head-holds b ws at)

-- it begins within the words, and what is read behind its kind is the rest of it
pub head-begins : (b : ℕ) (ws : List ℕ) (at : ℕ) {h : Head} {n : ℕ} → read_head b ws at ≡ got h n → at < length ws
head-begins b ws at e = let l = head-lies b ws at e in omega (arith, l.starts, l.ends)

pub head-behind : (b : ℕ) (ws : List ℕ) (at : ℕ) {h : Head} {n : ℕ} → read_head b ws at ≡ got h n → head_after b ws (get_or ws at 0) (at + 1) ≡ got h n
head-behind b ws at e = sym (head_at b ws at (head-begins b ws at e)) ∙ e

pub path-lies : (b : ℕ) (ws : List ℕ) (at : ℕ) {p : PathAt} {n : ℕ} → read_path b ws at ≡ got p n → Lies (InsidePath b ws) ws at p n
path-lies b ws at e = subst (Holds (Lies (InsidePath b ws) ws at)) e (path-holds b ws at)

-- a path ends with its last name
pub path-end : (b : ℕ) (ws : List ℕ) (at : ℕ) {p : PathAt} {n : ℕ} → read_path b ws at ≡ got p n → n ≡ p.start + p.count
path-end b ws at e = subst (Holds (λ p n. n ≡ p.start + p.count)) e (path-by (λ p n. n ≡ p.start + p.count) b ws at λ root p n q u r h k m. m.end)
