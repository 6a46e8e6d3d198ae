-- Laws of a pass: one text behind the other.
use Rattle.std.specs.Prelude.{Ok, Err, Result, IsErrAnd}
use Prim.Native.Nat.{ℕ, zero, suc, ◌+◌, ◌-◌, ◌≤◌, ◌<◌}
use mathlib.Core.Path.{◌≡◌, refl, ap, sym, ◌∙◌, subst}
use mathlib.Core.Bool.{Bool, true, false}
use mathlib.Core.List.{List, [], ◌++◌}
use native.Mathlib.Omega.{arith}
use native.Mathlib.Nat.{add-zero}
use native.Mathlib.Numerals.{sub-one}
use lib.ListN.{length, length-append}
use Rattle.rast.specs.Bytes.{Bytes}
use Rattle.buffer.specs.Laid.{clamp, Laid, Fits}
use Rattle.buffer.proofs.Laws.{wrote_kept}
use Rattle.buffer.proofs.Passes.{laid-nothing, laid_then, laid-wrote, laid-counted}
use Rattle.encoding.specs.declared.Refusal.{Refusal}
use Rattle.encoding.specs.Reading.{Reading, got, stop}
use Rattle.encoding.proofs.Reading.{handed-on}
use Rattle.encoding.proofs.Tables.{impossible}
use Rattle.encoding.proofs.Types.{bind-got}
use Rattle.text_type.specs.Written.{Room}
use Rattle.text_pass.specs.Passes.{Chain, last, ◌then◌, run, listed, Ready, Came, Went, Counts, came, stopped, Along}

-- ---- from an answer to what it says

module _ {write : Bool} {o : List ℕ} {p : ℕ} {x : Reading Bytes} {o' : List ℕ} where
  pub came-to : {r : Result (ℕ × ℕ) Refusal} {n q : ℕ} → Went write o p x o' r → r ≡ Ok (n, q) → Came write o p x o' n q
  came-to {n = n} {q = q} (came {n = m} {p' = p'} c) e =
      let pair : ◌≡◌ {A = ℕ × ℕ} (m, p') (n, q) = cc in
      let a : m ≡ n = ap (λ (z : ℕ × ℕ). z.0) pair in
      let b : p' ≡ q = ap (λ (z : ℕ × ℕ). z.1) pair in
      record { bytes = c.bytes; reads = c.reads ∙ ap (got c.bytes) a; laid = subst (λ (z : ℕ). Laid write o p c.bytes o' z) b c.laid }
  came-to (stopped d k) e = impossible (cc)

  pub was-stopped : {r : Result (ℕ × ℕ) Refusal} {k : Refusal} → Went write o p x o' r → r ≡ Err k → (x ≡ stop k) × (write ≡ false → o' ≡ o)
  was-stopped (came c) e = impossible (cc)
  was-stopped {k = k} (stopped {k = m} d h) e = let a : m ≡ k = cc in (d ∙ ap stop a, h)

-- a `?` hands on what is said of a part that stopped
pub went-handed : {write : Bool} {o o' : List ℕ} {p : ℕ} {x : Reading Bytes} {r s : Result (ℕ × ℕ) Refusal} {k : Refusal} → r ≡ Err k → IsErrAnd s (λ u. u ≡ k) → Went write o p x o' r → Went write o p x o' s
went-handed {write} {o} {o'} {p} {x} d e w = subst (λ (z : Result (ℕ × ℕ) Refusal). Went write o p x o' z) (d ∙ sym (handed-on e)) w

-- a text is refused where another is
pub stops_as : {write : Bool} {o o' : List ℕ} {p : ℕ} {x y : Reading Bytes} {r : Result (ℕ × ℕ) Refusal} {k : Refusal} → (x ≡ stop k → y ≡ stop k) → Went write o p x o' r → r ≡ Err k → Went write o p y o' r
stops_as {write} {o} {o'} {p} {y = y} h w e =
    let s = was-stopped w e in
    subst (λ (z : Result (ℕ × ℕ) Refusal). Went write o p y o' z) (sym e) (stopped (h s.0) s.1)

-- ---- the same text, said in another way

pub ready-as : {write : Bool} {o : List ℕ} {p : ℕ} {x y : Reading Bytes} → x ≡ y → Ready write o p x → Ready write o p y
ready-as {write} {o} {p} e r = subst (λ (z : Reading Bytes). Ready write o p z) e r

pub went-as : {write : Bool} {o o' : List ℕ} {p : ℕ} {x y : Reading Bytes} {r : Result (ℕ × ℕ) Refusal} → x ≡ y → Went write o p x o' r → Went write o p y o' r
went-as {write} {o} {o'} {p} {r = r} e w = subst (λ (z : Reading Bytes). Went write o p z o' r) e w

-- ---- a text of known bytes

module _ {write : Bool} where
  pub ready-bytes : {o : List ℕ} {p n : ℕ} {b : Bytes} → Ready write o p (got b n) → Fits write o p b
  ready-bytes {o} {p} {n} {b} r = record { room = λ e. go (r.room e) }
    where
      go : Room o p (λ c. c) (got b n) → p + length b ≤ length o
      go m = let v : m.value ≡ b = cc m.reads in subst (λ (z : Bytes). p + length z ≤ length o) v m.room

  pub came-bytes : {o o' : List ℕ} {p p' : ℕ} {b : Bytes} (n : ℕ) → Laid write o p b o' p' → Came write o p (got b n) o' n p'
  came-bytes {b = b} n l = record { bytes = b; reads = refl; laid = l }

  pub came-nothing : {o : List ℕ} {p : ℕ} (n : ℕ) → Came write o p (got [] n) o n p
  came-nothing {o} {p} n = came-bytes n (laid-nothing o p)

  pub stops-here : {o : List ℕ} {p : ℕ} {x : Reading Bytes} {k : Refusal} → x ≡ stop k → Went write o p x o (Err k)
  stops-here e = stopped e (λ d. refl)

-- ---- counting alone, and writing alone

pub counts-went : {write : Bool} {o : List ℕ} {p : ℕ} {x : Reading Bytes} {r : Result (ℕ × ℕ) Refusal} → write ≡ false → Counts p x r → Went write o p x o r
counts-went e (came c) = came (record { bytes = c.bytes; reads = c.reads; laid = laid-counted e (c.laid.counted refl).next })
counts-went e (stopped d h) = stops-here d

pub came-went : {write : Bool} {o o' : List ℕ} {p n q : ℕ} {x : Reading Bytes} → write ≡ true → Came true o p x o' n q → Went write o p x o' (Ok (n, q))
came-went e c = came (record { bytes = c.bytes; reads = c.reads; laid = laid-wrote e (c.laid.wrote refl) })

pub ready-true : {write : Bool} {o : List ℕ} {p : ℕ} {x : Reading Bytes} → write ≡ true → Ready write o p x → Ready true o p x
ready-true e r = record { room = λ d. r.room e }

-- nothing stands before it
pub counts-here : {p : ℕ} {x : Reading Bytes} {r : Result (ℕ × ℕ) Refusal} → Counts (p + 0) x r → Counts p x r
counts-here {p} {x} {r} w = subst (λ (z : ℕ). Counts z x r) (add-zero p) w

-- a pass that counts needs no room
pub ready-count : {o : List ℕ} {p : ℕ} {x : Reading Bytes} → Ready false o p x
ready-count = record { room = λ e. impossible (cc) }

-- a text of known bytes, counted
pub counts-bytes : {p p' n : ℕ} {b : Bytes} → clamp p' ≡ clamp (p + length b) → Came false [] p (got b n) [] n p'
counts-bytes {n = n} e = came-bytes n (laid-counted refl e)

-- the same text, said in another way
pub came-as : {write : Bool} {o o' : List ℕ} {p n q : ℕ} {x y : Reading Bytes} → x ≡ y → Came write o p x o' n q → Came write o p y o' n q
came-as {write} {o} {o'} {p} {n} {q} e c = subst (λ (z : Reading Bytes). Came write o p z o' n q) e c

pub came-at : {write : Bool} {o o' : List ℕ} {p n m q : ℕ} {x : Reading Bytes} → n ≡ m → Came write o p x o' n q → Came write o p x o' m q
came-at {write} {o} {o'} {p} {q = q} {x = x} e c = subst (λ (z : ℕ). Came write o p x o' z q) e c

-- ---- chains

-- a text is that of a chain
pub record Runs (x : Reading Bytes) (c : Chain) : Type 0 where
  pub same : x ≡ run c

-- what `Ready` and `Went` say, of a chain
pub record ReadyChain (write : Bool) (o : List ℕ) (p : ℕ) (c : Chain) : Type 0 where
  pub ready : Ready write o p (run c)

pub record WentChain (write : Bool) (o : List ℕ) (p : ℕ) (c : Chain) (o' : List ℕ) (r : Result (ℕ × ℕ) Refusal) : Type 0 where
  pub went : Went write o p (run c) o' r

-- a text and the next, and what the two come to
record Both (x : Reading Bytes) (k : ℕ → Chain) (v : Bytes) (end : ℕ) : Type 0 where
  pub first : Bytes
  pub middle : ℕ
  pub second : Bytes
  pub reads : x ≡ got first middle
  pub reads₂ : run (k middle) ≡ got second end
  pub size : length v ≡ length first + length second

both-got : (x : Reading Bytes) (k : ℕ → Chain) {v : Bytes} {end : ℕ} → run (x then k) ≡ got v end → Both x k v end
unfolding run
both-got x k {v} {end} e =
    let t = bind-got x _ e in
    let u = bind-got (run (k t.end)) _ t.rest in
    let q : u.end ≡ end = cc u.rest in
    let w : v ≡ t.value ++ u.value = cc u.rest in
    record {
      first = t.value;
      middle = t.end;
      second = u.value;
      reads = t.first;
      reads₂ = u.first ∙ ap (got u.value) q;
      size = ap length w ∙ length-append t.value u.value;
    }

then-got : (x : Reading Bytes) (k : ℕ → Chain) {b c : Bytes} {n m : ℕ} → x ≡ got b n → run (k n) ≡ got c m → run (x then k) ≡ got (b ++ c) m
unfolding run
then-got x k e d = rw (e, d)

then-first : (x : Reading Bytes) (k : ℕ → Chain) {r : Refusal} → x ≡ stop r → run (x then k) ≡ stop r
unfolding run
then-first x k e = rw e

then-second : (x : Reading Bytes) (k : ℕ → Chain) {b : Bytes} {n : ℕ} {r : Refusal} → x ≡ got b n → run (k n) ≡ stop r → run (x then k) ≡ stop r
unfolding run
then-second x k e d = rw (e, d)

module _ {write : Bool} {o : List ℕ} {p : ℕ} where
  pub ready-runs : {x : Reading Bytes} {c : Chain} → Runs x c → Ready write o p x → ReadyChain write o p c
  ready-runs e r = record { ready = ready-as e.same r }

  pub went-runs : {x : Reading Bytes} {c : Chain} {o' : List ℕ} {r : Result (ℕ × ℕ) Refusal} → Runs x c → WentChain write o p c o' r → Went write o p x o' r
  went-runs e w = went-as (sym e.same) w.went

  pub ready-last : {x : Reading Bytes} → ReadyChain write o p (last x) → Ready write o p x
  unfolding run
  ready-last r = r.ready

  pub went-last : {x : Reading Bytes} {o' : List ℕ} {r : Result (ℕ × ℕ) Refusal} → Went write o p x o' r → WentChain write o p (last x) o' r
  unfolding run
  went-last w = record { went = w }

  pub ready-first : {x : Reading Bytes} {k : ℕ → Chain} → ReadyChain write o p (x then k) → Ready write o p x
  ready-first {x} {k} r = record { room = λ e. go (r.ready.room e) }
    where
      go : Room o p (λ b. b) (run (x then k)) → Room o p (λ b. b) x
      go m =
          let b = both-got x k m.reads in
          record { value = b.first; end = b.middle; reads = b.reads; room = omega (arith, m.room, b.size) }

  pub ready-next : {x : Reading Bytes} {k : ℕ → Chain} {o' : List ℕ} {n p' : ℕ} → ReadyChain write o p (x then k) → Came write o p x o' n p' → ReadyChain write o' p' (k n)
  ready-next {x} {k} {o'} {n} {p'} r c = record { ready = record { room = λ e. go e (r.ready.room e) } }
    where
      go : write ≡ true → Room o p (λ b. b) (run (x then k)) → Room o' p' (λ b. b) (run (k n))
      go e m =
          let b = both-got x k m.reads in
          let w = c.laid.wrote e in
          let q : b.middle ≡ n = cc (b.reads, c.reads) in
          let v : b.first ≡ c.bytes = cc (b.reads, c.reads) in
          let f : length b.first ≡ length c.bytes = ap length v in
          record {
            value = b.second;
            end = m.end;
            reads = ap (λ (z : ℕ). run (k z)) (sym q) ∙ b.reads₂;
            room = omega (arith, m.room, b.size, f, w.next, wrote_kept w);
          }

  pub went_then : {x : Reading Bytes} {k : ℕ → Chain} {o' o'' : List ℕ} {n p' : ℕ} {r : Result (ℕ × ℕ) Refusal} → Came write o p x o' n p' → WentChain write o' p' (k n) o'' r → WentChain write o p (x then k) o'' r
  went_then {x} {k} {o'} {o''} {n} {p'} c w = record { went = go w.went }
    where
      go : {r : Result (ℕ × ℕ) Refusal} → Went write o' p' (run (k n)) o'' r → Went write o p (run (x then k)) o'' r
      go (came d) = came (record { bytes = c.bytes ++ d.bytes; reads = then-got x k c.reads d.reads; laid = laid_then c.laid d.laid })
      go (stopped e h) = stopped (then-second x k c.reads e) (λ d. h d ∙ (c.laid.counted d).kept)

  pub stops_then : {x : Reading Bytes} {k : ℕ → Chain} {o' : List ℕ} {r : Result (ℕ × ℕ) Refusal} {e : Refusal} → Went write o p x o' r → r ≡ Err e → WentChain write o p (x then k) o' r
  stops_then {x} {k} w d = record { went = stops_as (then-first x k) w d }

-- ---- part by part through a chain

-- how a pass over a text has come so far: a chain is left of it
pub record AlongChain (write : Bool) (o : List ℕ) (p : ℕ) (whole : Reading Bytes) (o₁ : List ℕ) (p₁ : ℕ) (left : Chain) : Type 0 where
  pub ready : ReadyChain write o₁ p₁ left
  pub ends : (o'' : List ℕ) (r : Result (ℕ × ℕ) Refusal) → WentChain write o₁ p₁ left o'' r → Went write o p whole o'' r

pub chain-start : {write : Bool} {o : List ℕ} {p : ℕ} {x : Reading Bytes} {c : Chain} → Runs x c → Ready write o p x → AlongChain write o p x o p c
chain-start e r = record { ready = ready-runs e r; ends = λ o'' a w. went-runs e w }

module _ {write : Bool} {o : List ℕ} {p : ℕ} {whole : Reading Bytes} {o₁ : List ℕ} {p₁ : ℕ} where
  -- the next part
  module _ {x : Reading Bytes} {k : ℕ → Chain} (a : AlongChain write o p whole o₁ p₁ (x then k)) where
    pub chain-ready : Ready write o₁ p₁ x
    chain-ready = ready-first a.ready

    pub chain_next : {o₂ : List ℕ} {n p₂ : ℕ} → Came write o₁ p₁ x o₂ n p₂ → AlongChain write o p whole o₂ p₂ (k n)
    chain_next c = record { ready = ready-next a.ready c; ends = λ o'' r w. a.ends o'' r (went_then c w) }

    pub chain-stop : {o₂ : List ℕ} {r : Result (ℕ × ℕ) Refusal} {e : Refusal} → Went write o₁ p₁ x o₂ r → r ≡ Err e → Went write o p whole o₂ r
    chain-stop {o₂} {r} w d = a.ends o₂ r (stops_then w d)

  -- the next part is fixed bytes
  module _ {b : Bytes} {n : ℕ} {k : ℕ → Chain} (a : AlongChain write o p whole o₁ p₁ (got b n then k)) where
    pub chain_fits : Fits write o₁ p₁ b
    chain_fits = ready-bytes (chain-ready a)

    pub chain-laid : {o₂ : List ℕ} {p₂ : ℕ} → Laid write o₁ p₁ b o₂ p₂ → AlongChain write o p whole o₂ p₂ (k n)
    chain-laid l = chain_next a (came-bytes n l)

  -- the last part
  module _ {x : Reading Bytes} (a : AlongChain write o p whole o₁ p₁ (last x)) where
    pub last-ready : Ready write o₁ p₁ x
    last-ready = ready-last a.ready

    pub last-went : {o₂ : List ℕ} {r : Result (ℕ × ℕ) Refusal} → Went write o₁ p₁ x o₂ r → Went write o p whole o₂ r
    last-went {o₂} {r} w = a.ends o₂ r (went-last w)

    pub last-came : {o₂ : List ℕ} {n p₂ : ℕ} → Came write o₁ p₁ x o₂ n p₂ → Came write o p whole o₂ n p₂
    last-came c = came-to (last-went (came c)) refl

  -- the last part is fixed bytes
  module _ {b : Bytes} {n : ℕ} (a : AlongChain write o p whole o₁ p₁ (last (got b n))) where
    pub last_fits : Fits write o₁ p₁ b
    last_fits = ready-bytes (last-ready a)

    pub last-laid : {o₂ : List ℕ} {p₂ : ℕ} → Laid write o₁ p₁ b o₂ p₂ → Came write o p whole o₂ n p₂
    last-laid l = last-came a (came-bytes n l)

-- ---- lists

module _ (item : ℕ → Reading Bytes) (separator : Bytes) where
  -- the last of a list, and one before the last
  listed-last : (n p : ℕ) → n ≡ 1 → listed item separator n p ≡ item p
  unfolding listed
  listed-last n p e = rw e

  listed_more : (n p : ℕ) → 1 < n → Runs (listed item separator n p) (item p then λ q. got separator q then λ r. last (listed item separator (n - 1) r))
  unfolding listed
  listed_more zero p h = absurd (let z : ⊥ = omega arith in z)
  listed_more (suc zero) p h = absurd (let z : ⊥ = omega arith in z)
  listed_more (suc (suc n)) p h = record { same = rw (sub-one (suc (suc n))) }

  -- a list stops where its first stops
  listed-stop : (n p : ℕ) {k : Refusal} → 0 < n → item p ≡ stop k → listed item separator n p ≡ stop k
  unfolding listed
  listed-stop zero p h e = absurd (let z : ⊥ = omega arith in z)
  listed-stop (suc zero) p h e = e
  listed-stop (suc (suc n)) p h e = then-first (item p) (λ q. got separator q then λ r. last (listed item separator (suc n) r)) e

  ready-item : {write : Bool} {o : List ℕ} {p : ℕ} (n at : ℕ) → 0 < n → Ready write o p (listed item separator n at) → Ready write o p (item at)
  unfolding listed
  ready-item zero at h r = absurd (let z : ⊥ = omega arith in z)
  ready-item (suc zero) at h r = r
  ready-item (suc (suc n)) at h r = ready-first (ready-runs (listed_more (suc (suc n)) at (omega arith)) r)

pub along-start : {write : Bool} {o : List ℕ} {p : ℕ} {x : Reading Bytes} → Ready write o p x → Along write o p x o p x
along-start r = record { ready = r; ends = λ o'' r w. w }

module _ {write : Bool} {o : List ℕ} {p : ℕ} {whole : Reading Bytes} {o₁ : List ℕ} {p₁ : ℕ} (item : ℕ → Reading Bytes) (separator : Bytes) (left at : ℕ)
    (a : Along write o p whole o₁ p₁ (listed item separator left at)) where
  pub along-item : 0 < left → Ready write o₁ p₁ (item at)
  along-item h = ready-item item separator left at h a.ready

  pub along-stop : {o₂ : List ℕ} {r : Result (ℕ × ℕ) Refusal} {k : Refusal} → 0 < left → Went write o₁ p₁ (item at) o₂ r → r ≡ Err k → Went write o p whole o₂ r
  along-stop {o₂} {r} h w e = a.ends o₂ r (stops_as (listed-stop item separator left at h) w e)

  pub along-last : {o₂ : List ℕ} {r : Result (ℕ × ℕ) Refusal} → left ≡ 1 → Went write o₁ p₁ (item at) o₂ r → Went write o p whole o₂ r
  along-last {o₂} {r} e w = a.ends o₂ r (went-as (sym (listed-last item separator left at e)) w)

  module _ {o₂ : List ℕ} {n p₂ : ℕ} (h : 1 < left) (c : Came write o₁ p₁ (item at) o₂ n p₂) where
    more : ReadyChain write o₂ p₂ (got separator n then λ r. last (listed item separator (left - 1) r))
    more = ready-next (ready-runs (listed_more item separator left at h) a.ready) c

    pub along-gap : Fits write o₂ p₂ separator
    along-gap = ready-bytes (ready-first more)

    pub along-next : {o₃ : List ℕ} {p₃ : ℕ} → Laid write o₂ p₂ separator o₃ p₃ → Along write o p whole o₃ p₃ (listed item separator (left - 1) n)
    along-next {o₃} {p₃} l = record {
      ready = ready-last (ready-next more (came-bytes n l));
      ends = λ o'' r w. a.ends o'' r (went-runs (listed_more item separator left at h) (went_then c (went_then (came-bytes n l) (went-last w))));
    }

-- ---- a loop over a list

-- how a loop over a list of n items has come so far: at least one is left
pub record Turn (item : ℕ → Reading Bytes) (separator : Bytes) (write : Bool) (o : List ℕ) (p n at : ℕ) (o₁ : List ℕ) (p₁ left place : ℕ) : Type 0 where
  pub some : 0 < left
  pub along : Along write o p (listed item separator n at) o₁ p₁ (listed item separator left place)

pub turn-start : {item : ℕ → Reading Bytes} {separator : Bytes} {write : Bool} {o : List ℕ} {p n at : ℕ} → 0 < n → Ready write o p (listed item separator n at) → Turn item separator write o p n at o p n at
turn-start h r = record { some = h; along = along-start r }

module _ {item : ℕ → Reading Bytes} {separator : Bytes} {write : Bool} {o : List ℕ} {p n at : ℕ} {o₁ : List ℕ} {p₁ left place : ℕ} (t : Turn item separator write o p n at o₁ p₁ left place) where
  pub turn-item : Ready write o₁ p₁ (item place)
  turn-item = along-item item separator left place t.along t.some

  pub turn-stop : {o₂ : List ℕ} {r : Result (ℕ × ℕ) Refusal} {k : Refusal} → Went write o₁ p₁ (item place) o₂ r → r ≡ Err k → Went write o p (listed item separator n at) o₂ r
  turn-stop w e = along-stop item separator left place t.along t.some w e

  module _ {o₂ : List ℕ} {next p₂ : ℕ} (c : Came write o₁ p₁ (item place) o₂ next p₂) where
    pub turn_last : left - 1 ≡ 0 → Came write o p (listed item separator n at) o₂ next p₂
    turn_last e = came-to (along-last item separator left place t.along (omega (arith, t.some)) (came c)) refl

    pub turn_gap : (left - 1 ≡ 0 → ⊥) → Fits write o₂ p₂ separator
    turn_gap e = along-gap item separator left place t.along (omega (arith, t.some)) c

    pub turn-next : {o₃ : List ℕ} {p₃ : ℕ} → (left - 1 ≡ 0 → ⊥) → Laid write o₂ p₂ separator o₃ p₃ → Turn item separator write o p n at o₃ p₃ (left - 1) next
    turn-next e l = record { some = omega (arith, t.some); along = along-next item separator left place t.along (omega (arith, t.some)) c l }

-- i of n items are laid, with a separator behind each but the last
pub record Turns (item : ℕ → Reading Bytes) (separator : Bytes) (write : Bool) (o : List ℕ) (p n at : ℕ) (o₁ : List ℕ) (p₁ i place : ℕ) : Type 0 where
  pub going : i < n → Turn item separator write o p n at o₁ p₁ (n - i) place
  pub done : i ≡ n → Came write o p (listed item separator n at) o₁ place p₁

pub turns-start : {item : ℕ → Reading Bytes} {separator : Bytes} {write : Bool} {o : List ℕ} {p n at : ℕ} → 0 < n → Ready write o p (listed item separator n at) → Turns item separator write o p n at o p 0 at
turns-start {n = n} h r =
    let e : n - 0 ≡ n = omega arith in
    record { going = λ k. rw e (turn-start h r); done = λ k. absurd (let z : ⊥ = omega arith in z) }

module _ {item : ℕ → Reading Bytes} {separator : Bytes} {write : Bool} {o : List ℕ} {p n at : ℕ} {o₁ : List ℕ} {p₁ i place : ℕ} (t : Turns item separator write o p n at o₁ p₁ i place) where
  pub turns-end : i ≤ n → n ≤ i → Came write o p (listed item separator n at) o₁ place p₁
  turns-end h k = t.done (omega arith)

  module _ (h : i < n) {o₂ : List ℕ} {next p₂ : ℕ} (c : Came write o₁ p₁ (item place) o₂ next p₂) where
    pub turns-last : n ≤ i + 1 → Turns item separator write o p n at o₂ p₂ (i + 1) next
    turns-last k = record { going = λ l. absurd (let z : ⊥ = omega arith in z); done = λ e. turn_last (t.going h) c (omega arith) }

    pub turns_gap : i + 1 < n → Fits write o₂ p₂ separator
    turns_gap k = turn_gap (t.going h) c (λ e. omega arith)

    pub turns-next : {o₃ : List ℕ} {p₃ : ℕ} → i + 1 < n → Laid write o₂ p₂ separator o₃ p₃ → Turns item separator write o p n at o₃ p₃ (i + 1) next
    turns-next k l =
        let e : n - (i + 1) ≡ n - i - 1 = omega arith in
        record { going = λ m. rw e (turn-next (t.going h) c (λ z. omega arith) l); done = λ z. absurd (let w : ⊥ = omega arith in w) }
