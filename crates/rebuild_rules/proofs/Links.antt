-- Laws of the links between rules whose froms begin with the same word.
use Rattle.std.specs.Option.{is_some}
use Rattle.std.specs.Prelude.{Some, None, Option}
use Prim.Native.Nat.{ℕ, zero, suc, ◌+◌, ◌-◌, ◌*◌, ◌≤◌, ◌<◌}
use mathlib.Core.Path.{◌≡◌, refl, ap, sym, ◌∙◌, subst}
use mathlib.Core.Bool.{Bool, true, false}
use mathlib.Core.List.{List}
use native.Mathlib.Omega.{arith}
use native.Mathlib.Numerals.{add-one}
use native.Mathlib.Decide.{ℕ_discrete, dec_lt}
use borrow.Author.Tests.{eq-eqb, ne_eqb, lt-ltb, le-ltb}
use lib.Dec.{eqb}
use lib.ListN.{length, get_or, set, length-set, take, drop}
use lib.Seq.{get_or-set_same, get_or-set_other}
use Rattle.rast.specs.Bytes.{Bytes}
use Rattle.encoding.specs.Refusals.{pick}
use Rattle.encoding.proofs.Tables.{impossible}
use Rattle.rebuild_rules.specs.Table.{slot, linked, slot_of, next_rule, first_of, first_along, from_words, is_from, found_from, among_from, stands, some_stands, FoundAlong, nowhere, here, behind, EntriesFit, Links, AlongLinks, Unlinked, TableEntries}
use Rattle.rebuild_rules.proofs.Steps.{From, first_entry, from-missed, stands-missed}

-- ---- slots

pub slot_small : (w : ℕ) → w < 32 → slot w ≡ 128 + w
unfolding slot
slot_small w h = rw (lt-ltb w 32 h) refl

pub slot-large : (w : ℕ) → 32 ≤ w → slot w ≡ 159
unfolding slot
slot-large w h = rw (le-ltb w 32 h) refl

pub slot-range : (w : ℕ) → (128 ≤ slot w) × (slot w < 160)
slot-range w = go (dec_lt w 32)
  where
    go : Dec (w < 32) → (128 ≤ slot w) × (slot w < 160)
    go (yes h) = let e = slot_small w h in (omega (arith, e), omega (arith, e))
    go (no h) = let e = slot-large w (omega arith) in (omega (arith, e), omega (arith, e))

-- ---- the next rule of a slot

-- how many rules are left from a link on
unfoldable pub togo : ℕ → ℕ → ℕ
togo k zero = 0
togo k (suc m) = k - m

along-suc : (test : ℕ → Bool) (k i : ℕ) → first_along test k (i + 1) ≡ first_of test i (k - i)
unfolding first_along
along-suc test k i = rw (add-one i) refl

along-here : (test : ℕ → Bool) (k i : ℕ) → i < k → test i ≡ true → first_along test k (suc i) ≡ Some i
unfolding first_along first_of
along-here test k i h e = let z : k - i ≡ suc (k - (i + 1)) = omega arith in rw (z, e) refl

module _ (rules table : List ℕ) where
  -- it is one of those that are asked for, and has the slot
  next-found : (s i n m : ℕ) → next_rule rules table s i n ≡ suc m → (i ≤ m) × (m < i + n) × (slot_of rules table m ≡ s)
  unfolding next_rule
  next-found s i zero m e = impossible (omega (arith, e))
  next-found s i (suc n) m e = go (ℕ_discrete (slot_of rules table i) s) e (next-found s (i + 1) n m)
    where
      go : Dec (slot_of rules table i ≡ s) → pick (eqb (slot_of rules table i) s) (i + 1) (next_rule rules table s (i + 1) n) ≡ suc m
          → (next_rule rules table s (i + 1) n ≡ suc m → (i + 1 ≤ m) × (m < i + 1 + n) × (slot_of rules table m ≡ s)) → (i ≤ m) × (m < i + suc n) × (slot_of rules table m ≡ s)
      go (yes d) f more =
          let g : i + 1 ≡ suc m = rw (eq-eqb (slot_of rules table i) s d) at f in
          let z : i ≡ m = omega (arith, g) in
          (omega (arith, z), omega (arith, z), rw z at d)
      go (no d) f more = let g = more (rw (ne_eqb (slot_of rules table i) s d) at f) in (omega (arith, g.0), omega (arith, g.1), g.2)

  pub along-next : (k s i n : ℕ) → i + n ≡ k → AlongLinks rules table k s (next_rule rules table s i n)
  along-next k s i n e = record {
    within = λ m d. omega (arith, (next-found s i n m d).1, e);
    slots = λ m d. (next-found s i n m d).2;
  }

  togo-next : (k m s : ℕ) → m < k → (l : ℕ) → next_rule rules table s (m + 1) (k - (m + 1)) ≡ l → togo k l < togo k (suc m)
  unfolding togo
  togo-next k m s h zero e = omega arith
  togo-next k m s h (suc j) e = let g = next-found s (m + 1) (k - (m + 1)) j e in less g.0 g.1
    where
      less : m + 1 ≤ j → j < m + 1 + (k - (m + 1)) → k - j < k - m
      less a b = omega arith

  module _ (k : ℕ) (l : Links rules table 0 k) where
    after : (m : ℕ) → m < k → get_or table (4 * m + 3) 0 ≡ next_rule rules table (slot_of rules table m) (m + 1) (k - (m + 1))
    after m h = l.next m (omega arith) h

    pub along-first : (w : ℕ) {link : ℕ} → link ≡ get_or table (slot w) 0 → AlongLinks rules table k (slot w) link
    along-first w e = let r = slot-range w in let z : k - 0 ≡ k = omega arith in rw (e, l.first (slot w) r.0 r.1, z) (along-next k (slot w) 0 k (omega arith))

    along-more : (m : ℕ) → m < k → AlongLinks rules table k (slot_of rules table m) (get_or table (4 * m + 3) 0)
    along-more m h = rw (after m h) (along-next k (slot_of rules table m) (m + 1) (k - (m + 1)) (omega arith))

    pub along-behind : (i : ℕ) {p link : ℕ} → i < k → p ≡ get_or table (4 * i + 0) 0 → link ≡ get_or table (4 * i + 3) 0 → AlongLinks rules table k (slot (get_or rules p 0)) link
    unfolding slot_of
    along-behind i h d e = rw (d, first_entry table i, e) (along-more i h)

    togo-less : (m : ℕ) → m < k → togo k (get_or table (4 * m + 3) 0) < togo k (suc m)
    togo-less m h = togo-next k m (slot_of rules table m) h (get_or table (4 * m + 3) 0) (sym (after m h))

    -- ---- a search goes along the links, since rules of other slots do not pass

    module _ (test : ℕ → Bool) (s : ℕ) (miss : (j : ℕ) → j < k → (slot_of rules table j ≡ s → ⊥) → test j ≡ false) where
      skipped : (i n : ℕ) → i + n ≡ k → first_of test i n ≡ first_along test k (next_rule rules table s i n)
      unfolding first_of first_along next_rule
      skipped i zero e = refl
      skipped i (suc n) e = go (ℕ_discrete (slot_of rules table i) s) (skipped (i + 1) n (omega (arith, e)))
        where
          left : suc n ≡ k - i
          left = omega (arith, e)

          go : Dec (slot_of rules table i ≡ s) → first_of test (i + 1) n ≡ first_along test k (next_rule rules table s (i + 1) n)
              → first_of test i (suc n) ≡ first_along test k (pick (eqb (slot_of rules table i) s) (i + 1) (next_rule rules table s (i + 1) n))
          go (yes d) more = rw (eq-eqb (slot_of rules table i) s d) (ap (first_of test i) left ∙ sym (along-suc test k i))
          go (no d) more = rw (ne_eqb (slot_of rules table i) s d, miss i (omega (arith, e)) d) more

      along-on : (m : ℕ) → m < k → slot_of rules table m ≡ s → test m ≡ false → first_along test k (suc m) ≡ first_along test k (get_or table (4 * m + 3) 0)
      unfolding first_along first_of
      along-on m h d e =
          step ∙ skipped (m + 1) (k - (m + 1)) (omega arith) ∙ ap (first_along test k) (ap (λ x. next_rule rules table x (m + 1) (k - (m + 1))) (sym d) ∙ sym (after m h))
        where
          step : first_of test m (k - m) ≡ first_of test (m + 1) (k - (m + 1))
          step = let z : k - m ≡ suc (k - (m + 1)) = omega arith in rw (z, e) refl

    along-all : (test : ℕ → Bool) (w : ℕ) → ((j : ℕ) → j < k → (slot_of rules table j ≡ slot w → ⊥) → test j ≡ false) → first_of test 0 k ≡ first_along test k (get_or table (slot w) 0)
    along-all test w miss =
        let r = slot-range w in let z : k ≡ k - 0 = omega arith in
        skipped test (slot w) miss 0 k (omega arith) ∙ ap (first_along test k) (ap (next_rule rules table (slot w) 0) z ∙ sym (l.first (slot w) r.0 r.1))

-- ---- a search along the links

next-suc : {n : ℕ} → 0 < n → n ≡ suc (n - 1)
next-suc h = omega arith

module _ {passes : ℕ → Bool → Type 0} {table : List ℕ} where
  pub found-none : {next : ℕ} → next ≡ 0 → FoundAlong passes table next None
  found-none e = rw e nowhere

  module _ {next : ℕ} (h : 0 < next) {b : Bool} (p : passes (next - 1) b) where
    pub found-here : b ≡ true → FoundAlong passes table next (Some (next - 1))
    found-here e = subst (λ n. FoundAlong passes table n (Some (next - 1))) (sym (next-suc h)) (here (rw e at p))

    pub found-behind : b ≡ false → {link : ℕ} {r : Option ℕ} → link ≡ get_or table (4 * (next - 1) + 3) 0 → FoundAlong passes table link r → FoundAlong passes table next r
    found-behind e {r = r} d f = subst (λ n. FoundAlong passes table n r) (sym (next-suc h)) (behind (rw e at p) (rw d at f))

module _ {rules table : List ℕ} {k : ℕ} (l : Links rules table 0 k) {s next : ℕ} (along : AlongLinks rules table k s next) (h : 0 < next) where
  pub along-within : next - 1 < k
  along-within = along.within (next - 1) (next-suc h)

  module _ {link : ℕ} (e : link ≡ get_or table (4 * (next - 1) + 3) 0) where
    pub along-less : togo k link < togo k next
    along-less = rw e (subst (λ n. togo k (get_or table (4 * (next - 1) + 3) 0) < togo k n) (sym (next-suc h)) (togo-less rules table k l (next - 1) along-within))

    pub along-then : AlongLinks rules table k (slot_of rules table (next - 1)) link
    along-then = rw e (along-more rules table k l (next - 1) along-within)

-- it finds the first rule that passes, since rules of other slots do not
pub found-first : {rules table : List ℕ} {k s : ℕ} (l : Links rules table 0 k) (test : ℕ → Bool) {passes : ℕ → Bool → Type 0} → ((i : ℕ) (b : Bool) → i < k → passes i b → b ≡ test i)
    → ((j : ℕ) → j < k → (slot_of rules table j ≡ s → ⊥) → test j ≡ false)
    → {link : ℕ} {r : Option ℕ} → AlongLinks rules table k s link → FoundAlong passes table link r → r ≡ first_along test k link
unfolding first_along
found-first l test is miss a nowhere = refl
found-first {k = k} l test is miss a (here {i} p) = sym (along-here test k i (a.within i refl) (sym (is i true (a.within i refl) p)))
found-first {rules = rules} {table = table} {k = k} {s = s} l test is miss a (behind {i} {r} p f) =
    let h : i < k = a.within i refl in
    let t = a.slots i refl in
    let more : AlongLinks rules table k s (get_or table (4 * i + 3) 0) = rw t at (along-more rules table k l i h) in
    found-first {rules = rules} {table = table} {k = k} {s = s} l test is miss more f ∙ sym (along-on rules table k l test s miss i h t (sym (is i false h p)))

-- ---- linking

module _ (table : List ℕ) (i s : ℕ) where
  pub linked-length : length (linked table i s) ≡ length table
  unfolding linked
  linked-length = length-set (set table (4 * i + 3) (get_or table s 0)) s (i + 1) ∙ length-set table (4 * i + 3) (get_or table s 0)

  linked-elsewhere : (j : ℕ) → (j ≡ 4 * i + 3 → ⊥) → (j ≡ s → ⊥) → get_or (linked table i s) j 0 ≡ get_or table j 0
  unfolding linked
  linked-elsewhere j h k =
      get_or-set_other (set table (4 * i + 3) (get_or table s 0)) s j (i + 1) 0 k ∙ get_or-set_other table (4 * i + 3) j (get_or table s 0) 0 h

  linked-slot : s < length table → get_or (linked table i s) s 0 ≡ i + 1
  unfolding linked
  linked-slot h = get_or-set_same (set table (4 * i + 3) (get_or table s 0)) s (i + 1) 0 (omega (arith, length-set table (4 * i + 3) (get_or table s 0)))

  linked-rule : 4 * i + 3 < length table → 4 * i + 3 < s → get_or (linked table i s) (4 * i + 3) 0 ≡ get_or table s 0
  unfolding linked
  linked-rule h k =
      get_or-set_other (set table (4 * i + 3) (get_or table s 0)) s (4 * i + 3) (i + 1) 0 (λ e. omega (arith, e)) ∙ get_or-set_same table (4 * i + 3) (get_or table s 0) 0 h

-- rules whose entries are the same have the same slots
slots_same : (rules : List ℕ) {table table' : List ℕ} → TableEntries table table' → (j : ℕ) → j < 32 → slot_of rules table' j ≡ slot_of rules table j
unfolding slot_of
slots_same rules e j h = ap (λ n. slot (get_or rules n 0)) (e.from j h)

next-same : (rules : List ℕ) {table table' : List ℕ} → TableEntries table table' → (s i n : ℕ) → i + n ≤ 32 → next_rule rules table' s i n ≡ next_rule rules table s i n
unfolding next_rule
next-same rules e s i zero h = refl
next-same rules e s i (suc n) h = rw (slots_same rules e i (omega arith), next-same rules e s (i + 1) n (omega arith)) refl

-- the rules from the i-th on were linked in what was `table₀`
pub record Linking (rules table₀ table : List ℕ) (i k : ℕ) : Type 0 where
  pub entries : TableEntries table₀ table
  pub links : Links rules table i k
  pub within : i ≤ k

pub linking-starts : (rules table : List ℕ) (k : ℕ) → Unlinked table → Linking rules table table k k
unfolding next_rule
linking-starts rules table k u = let z : k - k ≡ 0 = omega arith in record {
  entries = record { size = refl; from = λ i h. refl; to = λ i h. refl; end = λ i h. refl };
  links = record { first = λ s a b. rw z (u.none s a b); next = λ j a b. impossible (omega arith) };
  within = omega arith;
}

module _ (rules table : List ℕ) (i k s : ℕ) (few : k ≤ 32) (h : i < k) (size : length table ≡ 160) (a : 128 ≤ s) (b : s < 160) (l : Links rules table (i + 1) k) where
  linked-entries : TableEntries table (linked table i s)
  linked-entries = record {
    size = linked-length table i s;
    from = λ j m. linked-elsewhere table i s (4 * j) (λ e. omega (arith, e)) (λ e. omega (arith, e));
    to = λ j m. linked-elsewhere table i s (4 * j + 1) (λ e. omega (arith, e)) (λ e. omega (arith, e));
    end = λ j m. linked-elsewhere table i s (4 * j + 2) (λ e. omega (arith, e)) (λ e. omega (arith, e));
  }

  linked-next : (t j n : ℕ) → j + n ≤ 32 → next_rule rules (linked table i s) t j n ≡ next_rule rules table t j n
  linked-next = next-same rules linked-entries

  linked-links : slot_of rules table i ≡ s → Links rules (linked table i s) i k
  unfolding next_rule
  linked-links d = record {
    first = λ t m n. let z : k - i ≡ suc (k - (i + 1)) = omega arith in rw z (first t (ℕ_discrete s t) m n);
    next = λ j m n. next j (ℕ_discrete j i) m n;
  }
    where
      first : (t : ℕ) → Dec (s ≡ t) → 128 ≤ t → t < 160 → get_or (linked table i s) t 0 ≡ next_rule rules (linked table i s) t i (suc (k - (i + 1)))
      first t (yes e) m n =
          rw (eq-eqb (slot_of rules (linked table i s) i) t (slots_same rules linked-entries i (omega arith) ∙ d ∙ e))
          (subst (λ x. get_or (linked table i s) x 0 ≡ i + 1) e (linked-slot table i s (omega (arith, size))))
      first t (no f) m n =
          rw (ne_eqb (slot_of rules (linked table i s) i) t (λ e. f (sym d ∙ sym (slots_same rules linked-entries i (omega arith)) ∙ e)))
          (linked-elsewhere table i s t (λ e. omega (arith, e)) (λ e. f (sym e)) ∙ l.first t m n ∙ sym (linked-next t (i + 1) (k - (i + 1)) (omega arith)))

      next : (j : ℕ) → Dec (j ≡ i) → i ≤ j → j < k → get_or (linked table i s) (4 * j + 3) 0 ≡ next_rule rules (linked table i s) (slot_of rules (linked table i s) j) (j + 1) (k - (j + 1))
      next j (yes e) m n =
          rw (e, slots_same rules linked-entries i (omega arith), linked-next (slot_of rules table i) (i + 1) (k - (i + 1)) (omega arith), d)
          (linked-rule table i s (omega (arith, size)) (omega arith) ∙ l.first s a b)
      next j (no f) m n =
          rw (slots_same rules linked-entries j (omega arith), linked-next (slot_of rules table j) (j + 1) (k - (j + 1)) (omega arith))
          (linked-elsewhere table i s (4 * j + 3) (λ e. f (omega (arith, e))) (λ e. omega (arith, e)) ∙ l.next j (later j f m) n)
        where
          later : (j : ℕ) → (j ≡ i → ⊥) → i ≤ j → i + 1 ≤ j
          later j f m = omega arith

pub linking-next : (rules table₀ table : List ℕ) (i k : ℕ) → k ≤ 32 → i < k → length table₀ ≡ 160 → Linking rules table₀ table (i + 1) k
    → Linking rules table₀ (linked table i (slot_of rules table i)) i k
unfolding slot_of
linking-next rules table₀ table i k few h size g =
    let size' : length table ≡ 160 = g.entries.size ∙ size in
    let r = slot-range (get_or rules (get_or table (4 * i) 0) 0) in
    let e = linked-entries rules table i k (slot_of rules table i) few h size' r.0 r.1 g.links in
    record {
      entries = record {
        size = e.size ∙ g.entries.size;
        from = λ j m. e.from j m ∙ g.entries.from j m;
        to = λ j m. e.to j m ∙ g.entries.to j m;
        end = λ j m. e.end j m ∙ g.entries.end j m;
      };
      links = linked-links rules table i k (slot_of rules table i) few h size' r.0 r.1 g.links refl;
      within = omega arith;
    }

-- ---- what the searches ask for

module _ (name : ℕ → Bytes) (rules table : List ℕ) {k : ℕ} (f : EntriesFit rules table k) (l : Links rules table 0 k) {link : ℕ} where
  pub found-along : (out : List ℕ) (start count : ℕ) → start + count ≤ length out → 0 < count → link ≡ get_or table (slot (get_or out start 0)) 0
      → first_along (is_from name rules table (take count (drop start out))) k link ≡ found_from name rules table 0 k (take count (drop start out))
  unfolding found_from
  found-along out start count m h e = rw e (sym (along-all rules table k l (is_from name rules table (take count (drop start out))) (get_or out start 0) (from-missed name rules table f out start count m h)))

  pub some_along : (ws : List ℕ) (at : ℕ) → at < length ws → link ≡ get_or table (slot (get_or ws at 0)) 0
      → is_some (first_along (stands name rules table (drop at ws)) k link) ≡ some_stands name rules table 0 k (drop at ws)
  unfolding some_stands
  some_along ws at m e = rw e (ap is_some (sym (along-all rules table k l (stands name rules table (drop at ws)) (get_or ws at 0) (stands-missed name rules table f ws at m))))

  pub among-along : (i : ℕ) {p n : ℕ} → i < k → From rules table i p n → p ≡ get_or table (4 * i + 0) 0 → link ≡ get_or table (4 * i + 3) 0
      → is_some (first_along (is_from name rules table (take n (drop p rules))) k link) ≡ among_from name rules table (i + 1) (k - (i + 1)) (from_words rules table i)
  unfolding among_from found_from slot_of
  among-along i {p} {n} h g d e =
      rw (g.words, e)
      (ap is_some
      (sym
      (skipped rules table k l (is_from name rules table (take n (drop p rules))) (slot_of rules table i) (rw (← first_entry table i, ← d) (from-missed name rules table f rules p n g.inside g.some))
      (i + 1) (k - (i + 1)) (omega arith)
      ∙ ap (first_along (is_from name rules table (take n (drop p rules))) k) (sym (l.next i (omega arith) h)))))
