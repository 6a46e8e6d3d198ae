-- From the code's answers back to the readings, and the readings of own words by their parts.
use Rattle.std.specs.Prelude.{Ok, Err, Result}
use Prim.Native.Nat.{ℕ, zero, suc, ◌+◌, ◌-◌, ◌≤◌, ◌<◌}
use mathlib.Core.Path.{◌≡◌, refl, ap, sym, ◌∙◌}
use mathlib.Core.List.{List, ◌∷◌}
use native.Mathlib.Omega.{arith}
use borrow.Author.Tests.{ne_eqb}
use Rattle.rast.specs.Declaration.{Attribute}
use Rattle.encoding.specs.declared.Refusal.{Refusal}
use Rattle.encoding.specs.declared.Refusal.TheVariants.{UnknownWord}
use Rattle.encoding.proofs.Reading.{scan-got, scan-stop, read-got, read-stop}
use Rattle.encoding.specs.Reading.{Reading, got, stop, ◌>>=◌, read_word, read_below, read_names}
use Rattle.encoding.specs.Scans.{scan_of, ended, map_reading}
use Rattle.encoding.specs.Forms.{present}
use Rattle.encoding.specs.Declarations.{read_list, read_counted, read_attribute, read_name}
use Rattle.encoding.proofs.Tables.{impossible}
use Rattle.encoding.proofs.Types.{made₂-got}
use Rattle.accepted_types.specs.Accepted.{EndsAt}
use Rattle.declaration_walk.specs.declared.After.{After}
use Rattle.declaration_walk.specs.Pieces.{title_tokens}
use Rattle.declaration_walk.specs.Walks.{read_entry, read_two, two_scan, read_one_attribute, read_attributes, read_title, opening_after, started_at, started_behind, titled, started, EachScanned, all, more, refused}

pub two-got : (x : Reading (ℕ × ℕ)) {r : Result (ℕ × ℕ × ℕ) Refusal} {a b n : ℕ} → r ≡ two_scan x → r ≡ Ok (a, b, n) → x ≡ got (a, b) n
two-got (got e m) {r} {a} {b} {n} h d =
    let q : ◌≡◌ {A = ℕ × ℕ × ℕ} (e.0, e.1, m) (a, b, n) = cc in ap (λ (z : ℕ × ℕ × ℕ). got (z.0, z.1) z.2) q
two-got (stop k) h d = impossible (cc)

pub two-stop : (x : Reading (ℕ × ℕ)) {r : Result (ℕ × ℕ × ℕ) Refusal} {k : Refusal} → r ≡ two_scan x → r ≡ Err k → x ≡ stop k
two-stop (got e m) h d = impossible (cc)
two-stop (stop k) h d = cc

pub end-got : {A : Type 0} (x : Reading A) {r : Result ℕ Refusal} {n : ℕ} → r ≡ ended x → r ≡ Ok n → EndsAt x n
end-got x e d = let u = scan-got x e d in record { value = u.value; reads = u.reads }

-- ---- ends: what is made of what was read does not matter

pub ended-map : {A B : Type 0} (f : A → B) (x : Reading A) → ended (map_reading f x) ≡ ended x
unfolding map_reading
ended-map f (got a n) = refl
ended-map f (stop r) = refl

pub ended-made : {A B : Type 0} (x : Reading A) (f : A → B) → ended (x >>= λ a n. got (f a) n) ≡ ended x
ended-made (got a n) f = refl
ended-made (stop r) f = refl

-- ---- two readings, one behind the other

pub record Pair (x : Reading ℕ) (y : ℕ → Reading ℕ) (a b n : ℕ) : Type 0 where
  pub middle : ℕ
  pub first : x ≡ got a middle
  pub second : y middle ≡ got b n

pub data NoPair (x : Reading ℕ) (y : ℕ → Reading ℕ) (r : Refusal) : Type 0 where
  at_first : x ≡ stop r → NoPair x y r
  at_second : {a m : ℕ} → x ≡ got a m → y m ≡ stop r → NoPair x y r

abbrev both : Reading ℕ → (ℕ → Reading ℕ) → Reading (ℕ × ℕ)
both x y = x >>= λ i q. y q >>= λ j s. got (i, j) s

pair : (x : Reading ℕ) (y : ℕ → Reading ℕ) {a b n : ℕ} → both x y ≡ got (a, b) n → Pair x y a b n
pair x y {a} {b} {n} e =
    let m = made₂-got {C = ℕ × ℕ} x y (λ i j. (i, j)) e in
    let i : m.left ≡ a = ap (λ (q : ℕ × ℕ). q.0) (sym m.made) in
    let j : m.right ≡ b = ap (λ (q : ℕ × ℕ). q.1) (sym m.made) in
    record { middle = m.middle; first = m.reads ∙ ap (λ k. got k m.middle) i; second = m.reads₂ ∙ ap (λ k. got k n) j }

no-pair : (x : Reading ℕ) (y : ℕ → Reading ℕ) {r : Refusal} → both x y ≡ stop r → NoPair x y r
no-pair (got a m) y {r} e = at_second refl (behind (y m) e)
  where
    behind : (z : Reading ℕ) → ◌>>=◌ {B = ℕ × ℕ} z (λ j s. got (a, j) s) ≡ stop r → z ≡ stop r
    behind (got b n) d = impossible (cc)
    behind (stop k) d = cc
no-pair (stop k) y e = at_first (cc)

-- the answer of both, by the answers of each
module _ (x : Reading ℕ) (y : ℕ → Reading ℕ) {s : Result (ℕ × ℕ) Refusal} (e : s ≡ scan_of x) where
  pub both_read : {t : Result (ℕ × ℕ) Refusal} {a m c n : ℕ} → s ≡ Ok (a, m) → t ≡ scan_of (y m) → t ≡ Ok (c, n) → Ok (a, c, n) ≡ two_scan (both x y)
  both_read {m = m} d f g = rw (read-got x e d, read-got (y m) f g)

  pub second-refused : {t : Result (ℕ × ℕ) Refusal} {a m : ℕ} {r : Refusal} → s ≡ Ok (a, m) → t ≡ scan_of (y m) → t ≡ Err r → Err r ≡ two_scan (both x y)
  second-refused {m = m} d f g = rw (read-got x e d, read-stop (y m) f g)

  pub first-refused : {r : Refusal} → s ≡ Err r → Err r ≡ two_scan (both x y)
  first-refused d = rw (read-stop x e d)

module _ (b : ℕ) (ws : List ℕ) (p : ℕ) where
  pub entry : {x y n : ℕ} → read_entry b ws p ≡ got (x, y) n → Pair (read_below b ws p) (read_word ws) x y n
  unfolding read_entry
  entry e = pair (read_below b ws p) (read_word ws) e

  pub no-entry : {r : Refusal} → read_entry b ws p ≡ stop r → NoPair (read_below b ws p) (read_word ws) r
  unfolding read_entry
  no-entry e = no-pair (read_below b ws p) (read_word ws) e

  pub two : (c : ℕ) {x y n : ℕ} → read_two b c ws p ≡ got (x, y) n → Pair (read_below b ws p) (read_below c ws) x y n
  unfolding read_two
  two c e = pair (read_below b ws p) (read_below c ws) e

  pub no-two : (c : ℕ) {r : Refusal} → read_two b c ws p ≡ stop r → NoPair (read_below b ws p) (read_below c ws) r
  unfolding read_two
  no-two c e = no-pair (read_below b ws p) (read_below c ws) e

-- ---- where what follows one word, or two, ends

abbrev pub then_word : Result (ℕ × ℕ) Refusal → (ℕ → ℕ → Result ℕ Refusal) → Result ℕ Refusal
then_word (Ok (a, n)) f = f a n
then_word (Err r) f = Err r

abbrev pub then_both : Result (ℕ × ℕ × ℕ) Refusal → (ℕ → ℕ → ℕ → Result ℕ Refusal) → Result ℕ Refusal
then_both (Ok (a, b, n)) f = f a b n
then_both (Err r) f = Err r

pub ended-word : {B : Type 0} (x : Reading ℕ) (f : ℕ → ℕ → Reading B) (g : ℕ → ℕ → Result ℕ Refusal) → ((a n : ℕ) → ended (f a n) ≡ g a n) → ended (x >>= f) ≡ then_word (scan_of x) g
ended-word (got a n) f g e = e a n
ended-word (stop r) f g e = refl

-- what is made of the word does not matter
pub ended-behind : {A B : Type 0} (x : Reading ℕ) (h : ℕ → A) (f : A → ℕ → Reading B) (g : ℕ → ℕ → Result ℕ Refusal) → ((a n : ℕ) → ended (f (h a) n) ≡ g a n)
    → ended ((x >>= λ a n. got (h a) n) >>= f) ≡ then_word (scan_of x) g
ended-behind (got a n) h f g e = e a n
ended-behind (stop r) h f g e = refl

pub counted-ended : {A : Type 0} (ws : List ℕ) (item : ℕ → Reading A) (p : ℕ) {s : Result (ℕ × ℕ) Refusal} → scan_of (read_word ws p) ≡ s → ended (read_counted ws item p) ≡ then_word s (λ n q. ended (read_list item n q))
unfolding read_counted
counted-ended ws item p e = ended-word (read_word ws p) (read_list item) (λ n q. ended (read_list item n q)) (λ n q. refl) ∙ ap (λ s. then_word s (λ n q. ended (read_list item n q))) e

-- two words, one behind the other, answered at once
behind-both : (x : Reading ℕ) (y : ℕ → Reading ℕ) (f : ℕ → ℕ → Result ℕ Refusal) (g : ℕ → ℕ → ℕ → Result ℕ Refusal) → ((a q : ℕ) → f a q ≡ then_word (scan_of (y q)) (g a)) → {s : Result (ℕ × ℕ × ℕ) Refusal} → two_scan (both x y) ≡ s
    → then_word (scan_of x) f ≡ then_both s g
behind-both x y f g e d = go x ∙ ap (λ s. then_both s g) d
  where
    second : (a : ℕ) (z : Reading ℕ) → then_word (scan_of z) (g a) ≡ then_both (two_scan (z >>= λ b n. got (a, b) n)) g
    second a (got b n) = refl
    second a (stop r) = refl

    go : (x : Reading ℕ) → then_word (scan_of x) f ≡ then_both (two_scan (both x y)) g
    go (got a q) = e a q ∙ second a (y q)
    go (stop r) = refl

module _ (b : ℕ) (ws : List ℕ) (p : ℕ) (f : ℕ → ℕ → Result ℕ Refusal) (g : ℕ → ℕ → ℕ → Result ℕ Refusal) where
  pub behind-entry : ((a q : ℕ) → f a q ≡ then_word (scan_of (read_word ws q)) (g a)) → {s : Result (ℕ × ℕ × ℕ) Refusal} → two_scan (read_entry b ws p) ≡ s → then_word (scan_of (read_below b ws p)) f ≡ then_both s g
  unfolding read_entry
  behind-entry e d = behind-both (read_below b ws p) (read_word ws) f g e d

  pub behind-two : (c : ℕ) → ((a q : ℕ) → f a q ≡ then_word (scan_of (read_below c ws q)) (g a)) → {s : Result (ℕ × ℕ × ℕ) Refusal} → two_scan (read_two b c ws p) ≡ s → then_word (scan_of (read_below b ws p)) f ≡ then_both s g
  unfolding read_two
  behind-two c e d = behind-both (read_below b ws p) (read_below c ws) f g e d

-- ---- attributes

-- names read one by one end where they end read as a list
names-ended : (b : ℕ) (ws : List ℕ) (name : ℕ → ℕ) (n p : ℕ) → ended (read_names b ws n p) ≡ ended (read_list (read_name b ws name (λ i. stop UnknownWord)) n p)
unfolding read_names read_list read_name
names-ended b ws name zero p = refl
names-ended b ws name (suc n) p = go (read_below b ws p) (names-ended b ws name n)
  where
    go : (x : Reading ℕ) → ((q : ℕ) → ended (read_names b ws n q) ≡ ended (read_list (read_name b ws name (λ i. stop UnknownWord)) n q)) → ended (x >>= λ w q. read_names b ws n q)
        ≡ ended ((x >>= λ w q. got (name w) q) >>= λ w q. read_list (read_name b ws name (λ i. stop UnknownWord)) n q >>= λ ws' r. got (w ∷ ws') r)
    go (got w q) ih = ih q ∙ sym (ended-made (read_list (read_name b ws name (λ i. stop UnknownWord)) n q) (◌∷◌ (name w)))
    go (stop k) ih = refl

pub attribute-ended : (b : ℕ) (ws : List ℕ) (p : ℕ) {s : Result (ℕ × ℕ × ℕ) Refusal} → two_scan (read_entry b ws p) ≡ s → ended (read_one_attribute b ws p) ≡ then_both s (λ x m q. ended (read_names b ws m q))
unfolding read_attribute read_counted read_name
attribute-ended b ws p d =
    let name = read_name b ws (λ i. i) (λ i. stop UnknownWord) in
    let names : ℕ → ℕ → Result ℕ Refusal = λ m r. ended (read_names b ws m r) in
    ended-behind (read_below b ws p) (λ i. i) _ (λ x q. then_word (scan_of (read_word ws q)) names)
    (λ x q. ended-made (read_counted ws name q) _ ∙ ended-word (read_word ws q) (read_list name) names (λ m r. sym (names-ended b ws (λ i. i) m r)))
    ∙ behind-entry b ws p _ (λ x. names) (λ x q. refl) d

-- ---- lists: `each n p` is where n things end that begin at p, `one p` where the first of them does

pub record Each (one : ℕ → Result ℕ Refusal) (each : ℕ → ℕ → Result ℕ Refusal) : Type 0 where
  pub more : (n p q : ℕ) → one p ≡ Ok q → each (suc n) p ≡ each n q
  pub stops : (n p : ℕ) (r : Refusal) → one p ≡ Err r → each (suc n) p ≡ Err r
  pub none : (p : ℕ) → each 0 p ≡ Ok p

pub list-each : {A : Type 0} (item : ℕ → Reading A) → Each (λ p. ended (item p)) (λ n p. ended (read_list item n p))
unfolding read_list
list-each item = record {
  more = λ n p q e. let t = scan-got (item p) refl e in rw t.reads (ended-made (read_list item n q) (◌∷◌ t.value));
  stops = λ n p r e. rw (scan-stop (item p) refl e);
  none = λ p. refl;
}

-- a step of a loop over such a list, of which i things were scanned
module _ {P : ℕ → Result ℕ Refusal → Type 0} {n i p : ℕ} (below : i < n) where
  pub scanned-more : {q : ℕ} {r : Result ℕ Refusal} → P p (Ok q) → EachScanned P (n - (i + 1)) q r → EachScanned P (n - i) p r
  scanned-more {q} {r} h t = let e : n - i ≡ suc (n - (i + 1)) = omega arith in rw e (more h t)

  pub scanned-refused : {k : Refusal} → P p (Err k) → EachScanned P (n - i) p (Err k)
  scanned-refused h = let e : n - i ≡ suc (n - (i + 1)) = omega arith in rw e (refused h)

pub scanned-all : {P : ℕ → Result ℕ Refusal → Type 0} {n i : ℕ} (p : ℕ) → n ≤ i → EachScanned P (n - i) p (Ok p)
scanned-all {n = n} {i} p h = let e : n - i ≡ 0 = omega arith in rw e all

-- what each call says of a thing, the whole says of the list
pub each-scanned : {P : ℕ → Result ℕ Refusal → Type 0} {one : ℕ → Result ℕ Refusal} {each : ℕ → ℕ → Result ℕ Refusal} → Each one each → ((p : ℕ) (s : Result ℕ Refusal) → P p s → s ≡ one p)
    → {n p : ℕ} {r : Result ℕ Refusal} → EachScanned P n p r → r ≡ each n p
each-scanned l says (all {p}) = sym (l.none p)
each-scanned l says (more {n} {p} {q} h t) = each-scanned l says t ∙ sym (l.more n p q (sym (says p (Ok q) h)))
each-scanned l says (refused {n} {p} {k} h) = sym (l.stops n p k (sym (says p (Err k) h)))

-- ---- openings

-- the walk behind a title does not depend on its own words
pub title-started : (bound : ℕ) (ws : List ℕ) (k : ℕ) (after : After) (p : ℕ) → started (read_title bound ws k after p) ≡ titled after bound ws p
unfolding read_title
title-started bound ws k after p = go (read_below bound ws p)
  where
    last : (d : ℕ) (l : List (Attribute ℕ)) (x : Reading (ℕ × ℕ)) → started (x >>= λ e s. got (record { tokens = title_tokens k d l e.0 e.1; parameters = e.1; after = after }) s) ≡ started_at after x
    last d l (got e s) = refl
    last d l (stop r) = refl

    behind : (d : ℕ) (x : Reading (List (Attribute ℕ))) → started (x >>= λ l r. read_entry bound ws r >>= λ e s. got (record { tokens = title_tokens k d l e.0 e.1; parameters = e.1; after = after }) s)
        ≡ started_behind x (λ r. started_at after (read_entry bound ws r))
    behind d (got l r) = last d l (read_entry bound ws r)
    behind d (stop r) = refl

    go : (x : Reading ℕ) → started (x >>= λ d q. read_attributes bound ws q >>= λ l r. read_entry bound ws r >>= λ e s. got (record { tokens = title_tokens k d l e.0 e.1; parameters = e.1; after = after }) s)
        ≡ started_behind x (λ q. started_behind (read_attributes bound ws q) λ r. started_at after (read_entry bound ws r))
    go (got d q) = behind d (read_attributes bound ws q)
    go (stop r) = refl

pub opening-none : (bound : ℕ) (ws : List ℕ) (w p : ℕ) → (w ≡ present.struct_head → ⊥) → (w ≡ present.enum_head → ⊥) → (w ≡ present.synonym_head → ⊥) → (w ≡ present.use_head → ⊥)
    → opening_after present bound ws w p ≡ stop UnknownWord
unfolding opening_after
opening-none bound ws w p a b c d = rw (ne_eqb w present.struct_head a, ne_eqb w present.enum_head b, ne_eqb w present.synonym_head c, ne_eqb w present.use_head d)
