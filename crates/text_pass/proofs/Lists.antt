-- Laws of lists: with nothing between the items, and with some of the items shown.
use Rattle.std.specs.Prelude.{Ok, Err, Result}
use Prim.Native.Nat.{ℕ, zero, suc, ◌-◌, ◌<◌}
use mathlib.Core.Path.{◌≡◌, refl, ap, sym, ◌∙◌}
use mathlib.Core.Bool.{Bool, true, false}
use mathlib.Core.List.{List, [], ◌∷◌, ◌++◌, append-nil}
use native.Mathlib.Omega.{arith}
use native.Mathlib.Numerals.{sub-one}
use Rattle.rast.specs.Bytes.{Bytes}
use Rattle.rast.specs.Indent.{SeqToString}
use Rattle.buffer.specs.Laid.{Laid, Fits}
use Rattle.encoding.specs.declared.Refusal.{Refusal}
use Rattle.encoding.specs.Refusals.{pick}
use Rattle.encoding.specs.Reading.{Reading, got, stop, ◌>>=◌}
use Rattle.encoding.specs.Scans.{map_reading}
use Rattle.encoding.specs.Declarations.{read_list}
use Rattle.accepted_types.specs.Accepted.{EndsAt}
use Rattle.text_pass.specs.Passes.{Chain, last, ◌then◌, run, listed, listed_some, Ready, Came, Went, came, Along}
use Rattle.text_pass.proofs.Passes.{Runs, AlongChain, ready-as, ready-runs, went-as, went-runs, came-nothing, came-to, stops-here, chain_fits, chain-laid, chain_next, chain-ready, chain-stop, last-ready, last-went, along-start}
use Rattle.text_pass.proofs.Splits.{map-alike, nothing-behind}

-- ---- what is left, said in another way

module _ {write : Bool} {o : List ℕ} {p : ℕ} {whole : Reading Bytes} {o₁ : List ℕ} {p₁ : ℕ} where
  along-as : {x y : Reading Bytes} → x ≡ y → Along write o p whole o₁ p₁ x → Along write o p whole o₁ p₁ y
  along-as e a = record { ready = ready-as e a.ready; ends = λ o'' r w. a.ends o'' r (went-as (sym e) w) }

  along-chain : {x : Reading Bytes} {c : Chain} → Runs x c → Along write o p whole o₁ p₁ x → AlongChain write o p whole o₁ p₁ c
  along-chain e a = record { ready = ready-runs e a.ready; ends = λ o'' r w. a.ends o'' r (went-runs e w) }

  chain-along : {x : Reading Bytes} → AlongChain write o p whole o₁ p₁ (last x) → Along write o p whole o₁ p₁ x
  chain-along a = record { ready = last-ready a; ends = λ o'' r w. last-went a w }

-- ---- a list with nothing between its items

-- nothing stands before a text
nothing-before : (n : ℕ) (x : ℕ → Reading Bytes) → run (got [] n then λ p. last (x p)) ≡ x n
unfolding run
nothing-before n x = go (x n)
  where
    go : (w : Reading Bytes) → (w >>= λ c q. got ([] ++ c) q) ≡ w
    go (got c q) = refl
    go (stop k) = refl

module _ (item : ℕ → Reading Bytes) where
  each_first : (n p : ℕ) → 0 < n → Runs (listed item [] n p) (item p then λ q. last (listed item [] (n - 1) q))
  unfolding listed run
  each_first zero p h = absurd (let z : ⊥ = omega arith in z)
  each_first (suc zero) p h = record { same = sym (nothing-behind (item p)) }
  each_first (suc (suc n)) p h = record { same = rw (sub-one (suc (suc n))) (go (item p)) }
    where
      go : (x : Reading Bytes) → run (x then λ q. got [] q then λ r. last (listed item [] (suc n) r)) ≡ run (x then λ q. last (listed item [] (suc n) q))
      go (got b q) = ap (λ (z : Reading Bytes). z >>= λ c r. got (b ++ c) r) (nothing-before q (listed item [] (suc n)))
      go (stop k) = refl

  each_none : (n p : ℕ) → n ≡ 0 → listed item [] n p ≡ got [] p
  unfolding listed
  each_none n p e = rw e

module _ {write : Bool} {o : List ℕ} {p : ℕ} {whole : Reading Bytes} {o₁ : List ℕ} {p₁ : ℕ} (item : ℕ → Reading Bytes) (left at : ℕ)
    (a : Along write o p whole o₁ p₁ (listed item [] left at)) where
  pub along-end : left ≡ 0 → Went write o p whole o₁ (Ok (at, p₁))
  along-end e = a.ends o₁ (Ok (at, p₁)) (went-as (sym (each_none item left at e)) (came (came-nothing at)))

  pub along-each : {o₂ : List ℕ} {n p₂ : ℕ} → 0 < left → Came write o₁ p₁ (item at) o₂ n p₂ → Along write o p whole o₂ p₂ (listed item [] (left - 1) n)
  along-each h c = chain-along (chain_next (along-chain (each_first item left at h) a) c)

-- ---- a list of which some items show

-- what a test says of an item, if that is accepted
pub record Showing {A : Type 0} (shows : A → Bool) (x : Reading A) (answer : Bool) : Type 0 where
  pub tells : {a : A} {n : ℕ} → x ≡ got a n → shows a ≡ answer

-- the list, by its first item
module _ {A : Type 0} (shows : A → Bool) (text : A → Bytes) (item : ℕ → Reading A) (first separator : Bytes) where
  some-shown : (n p : ℕ) → 0 < n → Showing shows (item p) true
      → Runs (listed_some shows text item first separator n p) (got first p then λ r. map_reading text (item p) then λ q. last (listed_some shows text item separator separator (n - 1) q))
  unfolding listed_some run map_reading
  some-shown zero p h s = absurd (let z : ⊥ = omega arith in z)
  some-shown (suc n) p h s = record { same = rw (sub-one (suc n)) (go (item p) s) }
    where
      join : (x : A) (w : Reading Bytes) → (w >>= λ b r. got (first ++ (text x ++ b)) r) ≡ ((w >>= λ b r. got (text x ++ b) r) >>= λ b r. got (first ++ b) r)
      join x (got b r) = refl
      join x (stop k) = refl

      go : (y : Reading A) → Showing shows y true
          → (y >>= λ x q. pick (shows x) (listed_some shows text item separator separator n q >>= λ b r. got (first ++ (text x ++ b)) r) (listed_some shows text item first separator n q))
          ≡ run (got first p then λ r. map_reading text y then λ q. last (listed_some shows text item separator separator n q))
      go (got x q) s = rw (s.tells refl) (join x (listed_some shows text item separator separator n q))
      go (stop k) s = refl

  some-hidden : (n p : ℕ) {q : ℕ} → 0 < n → Showing shows (item p) false → EndsAt (item p) q → listed_some shows text item first separator n p ≡ listed_some shows text item first separator (n - 1) q
  unfolding listed_some
  some-hidden zero p h s e = absurd (let z : ⊥ = omega arith in z)
  some-hidden (suc n) p h s e = rw (sub-one (suc n), e.reads, s.tells e.reads)

  some-refused : (n p : ℕ) {k : Refusal} → 0 < n → item p ≡ stop k → listed_some shows text item first separator n p ≡ stop k
  unfolding listed_some
  some-refused zero p h e = absurd (let z : ⊥ = omega arith in z)
  some-refused (suc n) p h e = rw e

  some-none : (n p : ℕ) → n ≡ 0 → listed_some shows text item first separator n p ≡ got [] p
  unfolding listed_some
  some-none n p e = rw e

-- a function that leaves of a list the items for which a test holds, as the source's `Filter`
pub record Filters {A : Type 0} (shows : A → Bool) (filter : List A → List A) : Type 0 where
  pub none : filter [] ≡ []
  pub kept : (x : A) (l : List A) → shows x ≡ true → filter (x ∷ l) ≡ x ∷ filter l
  pub left_out : (x : A) (l : List A) → shows x ≡ false → filter (x ∷ l) ≡ filter l

module _ {A : Type 0} (shows : A → Bool) (text : A → Bytes) (separator : Bytes) (filter : List A → List A) (f : Filters shows filter) where
  -- what `listed_some` lays of a list
  spread : Bytes → List A → Bytes
  spread first [] = []
  spread first (x ∷ l) = first ++ (text x ++ spread separator l)

  spread-list : (first : Bytes) (x : A) (l : List A) → spread first (x ∷ l) ≡ first ++ SeqToString text separator (x ∷ l)
  unfolding SeqToString spread
  spread-list first x [] = ap (λ (b : Bytes). first ++ b) (append-nil (text x))
  spread-list first x (y ∷ l) = ap (λ (b : Bytes). first ++ (text x ++ b)) (spread-list separator y l)

  spread-read : (item : ℕ → Reading A) (first : Bytes) (n p : ℕ) → map_reading (λ l. spread first (filter l)) (read_list item n p) ≡ listed_some shows text item first separator n p
  unfolding read_list listed_some map_reading spread
  spread-read item first zero p = ap (λ (l : List A). got (spread first l) p) f.none
  spread-read item first (suc n) p = go (item p) (spread-read item separator n) (spread-read item first n)
    where
      taken : (x : A) (b : Bool) → shows x ≡ b → (w : Reading (List A)) (k m : Reading Bytes)
          → map_reading (λ l. spread separator (filter l)) w ≡ k → map_reading (λ l. spread first (filter l)) w ≡ m
          → map_reading (λ l. spread first (filter l)) (w >>= λ l r. got (x ∷ l) r) ≡ pick b (k >>= λ c r. got (first ++ (text x ++ c)) r) m
      taken x true e (got l r) k m d g = rw (sym d) (ap (λ (z : List A). got (spread first z) r) (f.kept x l e))
      taken x true e (stop j) k m d g = rw (sym d)
      taken x false e (got l r) k m d g = ap (λ (z : List A). got (spread first z) r) (f.left_out x l e) ∙ g
      taken x false e (stop j) k m d g = g

      go : (y : Reading A)
          → ((q : ℕ) → map_reading (λ l. spread separator (filter l)) (read_list item n q) ≡ listed_some shows text item separator separator n q)
          → ((q : ℕ) → map_reading (λ l. spread first (filter l)) (read_list item n q) ≡ listed_some shows text item first separator n q)
          → map_reading (λ l. spread first (filter l)) (y >>= λ x q. read_list item n q >>= λ l r. got (x ∷ l) r)
          ≡ (y >>= λ x q. pick (shows x) (listed_some shows text item separator separator n q >>= λ b r. got (first ++ (text x ++ b)) r) (listed_some shows text item first separator n q))
      go (got x q) d g = taken x (shows x) refl (read_list item n q) _ _ (d q) (g q)
      go (stop k) d g = refl

  -- the text of the filtered list: fixed bytes may stand before it, if it is not empty
  module _ (first : Bytes) (g : List A → Bytes) (none : g [] ≡ []) (some : (x : A) (l : List A) → shows x ≡ true → g (x ∷ l) ≡ first ++ SeqToString text separator (x ∷ l)) where
    spread-text : (l : List A) → g (filter l) ≡ spread first (filter l)
    unfolding spread
    spread-text [] = rw f.none none
    spread-text (x ∷ l) = go (shows x) refl (spread-text l)
      where
        go : (b : Bool) → shows x ≡ b → g (filter l) ≡ spread first (filter l) → g (filter (x ∷ l)) ≡ spread first (filter (x ∷ l))
        go true e h = rw (f.kept x l e) (some x (filter l) e ∙ sym (spread-list first x (filter l)))
        go false e h = rw (f.left_out x l e) h

    pub some_read : (item : ℕ → Reading A) (n p : ℕ) → map_reading (λ l. g (filter l)) (read_list item n p) ≡ listed_some shows text item first separator n p
    some_read item n p = map-alike spread-text (read_list item n p) ∙ spread-read item first n p

-- how a loop over n items has come so far: `gap` stands before the next that shows
pub record SomeTurn {A : Type 0} (shows : A → Bool) (text : A → Bytes) (item : ℕ → Reading A) (first separator : Bytes) (write : Bool) (o : List ℕ) (p n at : ℕ)
    (o₁ : List ℕ) (p₁ : ℕ) (gap : Bytes) (left place : ℕ) : Type 0 where
  pub along : Along write o p (listed_some shows text item first separator n at) o₁ p₁ (listed_some shows text item gap separator left place)

module _ {A : Type 0} {shows : A → Bool} {text : A → Bytes} {item : ℕ → Reading A} {first separator : Bytes} {write : Bool} {o : List ℕ} {p n at : ℕ} where
  -- none has shown: the gap is `first`
  pub some-start : Ready write o p (listed_some shows text item first separator n at) → SomeTurn shows text item first separator write o p n at o p first n at
  some-start r = record { along = along-start r }

  module _ {o₁ : List ℕ} {p₁ : ℕ} {gap : Bytes} {left place : ℕ} (t : SomeTurn shows text item first separator write o p n at o₁ p₁ gap left place) where
    pub some_end : left ≡ 0 → Came write o p (listed_some shows text item first separator n at) o₁ place p₁
    some_end e = came-to (t.along.ends o₁ (Ok (place, p₁)) (went-as (sym (some-none shows text item gap separator left place e)) (came (came-nothing place)))) refl

    module _ (h : 0 < left) where
      -- an item that is refused before it is known whether it shows
      pub some-stop : {k : Refusal} → item place ≡ stop k → Went write o p (listed_some shows text item first separator n at) o₁ (Err k)
      some-stop e = t.along.ends o₁ (Err _) (stops-here (some-refused shows text item gap separator left place h e))

      -- one that does not show: the gap stays
      pub some-pass : {next : ℕ} → Showing shows (item place) false → EndsAt (item place) next → SomeTurn shows text item first separator write o p n at o₁ p₁ gap (left - 1) next
      some-pass s e = record { along = along-as (some-hidden shows text item gap separator left place h s e) t.along }

      -- one that shows, as the first or behind another
      module _ (s : Showing shows (item place) true) where
        shown-chain : AlongChain write o p (listed_some shows text item first separator n at) o₁ p₁
            (got gap place then λ r. map_reading text (item place) then λ q. last (listed_some shows text item separator separator (left - 1) q))
        shown-chain = along-chain (some-shown shows text item gap separator left place h s) t.along

        pub some-gap : Fits write o₁ p₁ gap
        some-gap = chain_fits shown-chain

        module _ {o₂ : List ℕ} {p₂ : ℕ} (l : Laid write o₁ p₁ gap o₂ p₂) where
          pub some_item : Ready write o₂ p₂ (map_reading text (item place))
          some_item = chain-ready (chain-laid shown-chain l)

          pub some-item-stop : {o₃ : List ℕ} {r : Result (ℕ × ℕ) Refusal} {k : Refusal} → Went write o₂ p₂ (map_reading text (item place)) o₃ r → r ≡ Err k
              → Went write o p (listed_some shows text item first separator n at) o₃ r
          some-item-stop w e = chain-stop (chain-laid shown-chain l) w e

          pub some_next : {o₃ : List ℕ} {next p₃ : ℕ} → Came write o₂ p₂ (map_reading text (item place)) o₃ next p₃
              → SomeTurn shows text item first separator write o p n at o₃ p₃ separator (left - 1) next
          some_next c = record { along = chain-along (chain_next (chain-laid shown-chain l) c) }
