-- Laws of a part that is read at its place in the words and shown later.
use Rattle.std.specs.Prelude.{Ok, Err, Result}
use Prim.Native.Nat.{ℕ, ◌+◌}
use mathlib.Core.Path.{◌≡◌, refl, ap, sym, ◌∙◌}
use mathlib.Core.Bool.{Bool, true, false}
use mathlib.Core.List.{List, ◌++◌}
use native.Mathlib.Omega.{arith}
use lib.ListN.{length, length-append}
use Rattle.rast.specs.Bytes.{Bytes}
use Rattle.buffer.specs.Laid.{clamp}
use Rattle.buffer.proofs.Passes.{laid_as}
use Rattle.encoding.specs.declared.Refusal.{Refusal}
use Rattle.encoding.specs.Reading.{Reading, got, stop, ◌>>=◌}
use Rattle.encoding.specs.Scans.{ended, map_reading}
use Rattle.encoding.proofs.Tables.{impossible}
use Rattle.encoding.proofs.Types.{bind-got}
use Rattle.encoding.proofs.Reading.{map-got, map-stop, scan-got}
use Rattle.accepted_types.specs.Accepted.{Readable, EndsAt}
use Rattle.text_pass.specs.Passes.{Chain, ◌then◌, ◌later◌, run, Ready, Came, Went, came, stopped}
use Rattle.text_pass.proofs.Passes.{AlongChain, ready-as, ready-count, went-as, stops-here, was-stopped, chain_fits, chain-laid}
use Rattle.text_pass.proofs.Splits.{followed, run-followed}

-- ---- where a part ends that is not laid

-- it was passed over, or counted
pub scanned-ends : {A : Type 0} (text : A → Bytes) (x : Reading A) {s : Result ℕ Refusal} {n : ℕ} → s ≡ ended x → s ≡ Ok n → EndsAt (map_reading text x) n
scanned-ends text x e d = let r = scan-got x e d in record { value = text r.value; reads = map-got text r.reads }

pub came-ends : {write : Bool} {o o' : List ℕ} {p n q : ℕ} {x : Reading Bytes} → Came write o p x o' n q → EndsAt x n
came-ends c = record { value = c.bytes; reads = c.reads }

-- ---- at its place in the words

later-got : (x : Reading Bytes) (k : Bytes → ℕ → Chain) {b : Bytes} {n : ℕ} → x ≡ got b n → run (x later k) ≡ run (k b n)
unfolding run
later-got x k e = rw e

later-refused : (x : Reading Bytes) (k : Bytes → ℕ → Chain) {e : Refusal} → x ≡ stop e → run (x later k) ≡ stop e
unfolding run
later-refused x k e = rw e

module _ {write : Bool} {o : List ℕ} {p : ℕ} {whole : Reading Bytes} {o₁ : List ℕ} {p₁ : ℕ} {x : Reading Bytes} {k : Bytes → ℕ → Chain} (a : AlongChain write o p whole o₁ p₁ (x later k)) where
  -- nothing is laid, and the pass goes on behind it
  pub later-next : {n : ℕ} (e : EndsAt x n) → AlongChain write o p whole o₁ p₁ (k e.value n)
  later-next e = record {
    ready = record { ready = ready-as (later-got x k e.reads) a.ready.ready };
    ends = λ o'' r w. a.ends o'' r (record { went = went-as (sym (later-got x k e.reads)) w.went });
  }

  -- its refusal comes before those of what follows it in the words, though it is shown behind them
  pub later-stop : {e : Refusal} → x ≡ stop e → Went write o p whole o₁ (Err e)
  later-stop e = a.ends o₁ (Err _) (record { went = stops-here (later-refused x k e) })

  -- a pass that writes can pass it over without a test
  pub later-there : write ≡ true → Readable x
  unfolding run
  later-there e =
      let m = a.ready.ready.room e in
      let t = bind-got x _ m.reads in
      record { value = t.value; end = t.end; reads = t.first }

-- ---- where it is shown

-- what was read once is not refused
pub later-never : {A : Type 0} {write : Bool} {o o' : List ℕ} {p n : ℕ} {x : Reading Bytes} {r : Result (ℕ × ℕ) Refusal} {k : Refusal} → EndsAt x n → Went write o p x o' r → r ≡ Err k → A
later-never e w d = impossible (let s = (was-stopped w d).0 in cc e.reads)

-- it is read again from where it began, and the pass goes on where it had come to
module _ {write : Bool} {o : List ℕ} {p : ℕ} {whole : Reading Bytes} {o₁ : List ℕ} {p₁ : ℕ} {x : Reading Bytes} {n : ℕ} (e : EndsAt x n) {q : ℕ} {k : ℕ → Chain}
    (a : AlongChain write o p whole o₁ p₁ (got e.value q then k)) where
  pub later-ready : Ready write o₁ p₁ x
  later-ready = let f = chain_fits a in record { room = λ d. record { value = e.value; end = n; reads = e.reads; room = f.room d } }

  pub later-shown : {o₂ : List ℕ} {m p₂ : ℕ} → Came write o₁ p₁ x o₂ m p₂ → AlongChain write o p whole o₂ p₂ (k q)
  later-shown c = let b : c.bytes ≡ e.value = cc (c.reads, e.reads) in chain-laid a (laid_as b c.laid)

-- ---- counted in the order of the words

-- a count depends on the length of a text alone
counts-size : {o o' : List ℕ} {p : ℕ} {r : Result (ℕ × ℕ) Refusal} (x y : Reading Bytes) → map_reading length x ≡ map_reading length y → Went false o p x o' r → Went false o p y o' r
unfolding map_reading
counts-size {o} {o'} {p} x (got c m) e (came {n = n} {p' = q} d) =
    let f : got (length d.bytes) n ≡ got (length c) m = sym (map-got length d.reads) ∙ e in
    let s : n ≡ m = cc in
    let l : length d.bytes ≡ length c = cc in
    came (record {
      bytes = c;
      reads = ap (got c) (sym s);
      laid = record {
        wrote = λ b. impossible (cc);
        counted = λ b. record { kept = (d.laid.counted b).kept; next = (d.laid.counted b).next ∙ ap (λ (z : ℕ). clamp (p + z)) l };
      };
    })
counts-size x (stop k) e (came d) = impossible (let f = map-got length d.reads in cc)
counts-size x (got c m) e (stopped d h) = impossible (cc)
counts-size x (stop k) e (stopped {k = m} d h) = let s : k ≡ m = cc (map-stop length d) in stopped (ap stop s) h

-- what is shown later, shown at once
later-size : (x : Reading Bytes) (c z : ℕ → Chain)
    → map_reading length (run (x then λ p. followed (c p) z)) ≡ map_reading length (run (x later λ b p. followed (c p) (λ q. got b q then z)))
unfolding map_reading run
later-size (got b p) c z = rw (run-followed (c p) z, run-followed (c p) (λ q. got b q then z)) (between (run (c p)))
  where
    behind : (d : Bytes) (w : Reading Bytes)
        → map_reading length ((w >>= λ e r. got (d ++ e) r) >>= λ e r. got (b ++ e) r) ≡ map_reading length ((w >>= λ e r. got (b ++ e) r) >>= λ e r. got (d ++ e) r)
    behind d (got e r) =
        let s : length (b ++ (d ++ e)) ≡ length (d ++ (b ++ e)) = simp length-append (omega arith) in
        ap (λ (l : ℕ). got l r) s
    behind d (stop k) = refl

    between : (w : Reading Bytes) → map_reading length (run (w then z) >>= λ e r. got (b ++ e) r) ≡ map_reading length (run (w then λ q. got b q then z))
    between (got d q) = behind d (run (z q))
    between (stop k) = refl
later-size (stop k) c z = refl

-- a pass that counts may take each part where its words stand: it is shown behind `c` and before `z`
pub later-counted : {o o₁ : List ℕ} {p p₁ : ℕ} {whole x : Reading Bytes} (c z : ℕ → Chain)
    → AlongChain false o p whole o₁ p₁ (x later λ b n. followed (c n) (λ q. got b q then z)) → AlongChain false o p whole o₁ p₁ (x then λ n. followed (c n) z)
later-counted {x = x} c z a = record {
  ready = record { ready = ready-count };
  ends = λ o'' r w. a.ends o'' r (record { went = counts-size _ _ (later-size x c z) w.went });
}
