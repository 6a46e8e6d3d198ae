-- From a pass that counted and one that wrote to the answer and the buffer.
use Rattle.std.specs.Prelude.{Ok, Err, Result}
use Prim.Native.Nat.{ℕ, ◌+◌, ◌^◌, ◌≤◌, ◌<◌}
use mathlib.Core.Path.{◌≡◌, refl, ap, sym, ◌∙◌, subst}
use mathlib.Core.Bool.{Bool, true, false}
use mathlib.Core.List.{List}
use native.Mathlib.Omega.{arith}
use borrow.Author.Tests.{ltb-false}
use lib.Dec.{ltb}
use lib.ListN.{length}
use lib.Seq.{sets}
use Rattle.rast.specs.Bytes.{Bytes}
use Rattle.rast.proofs.BytesLaws.{never}
use Rattle.buffer.specs.Laid.{clamp}
use Rattle.buffer.proofs.Passes.{Clamped, small, large, clamped}
use Rattle.encoding.specs.declared.Refusal.{Refusal}
use Rattle.encoding.specs.declared.Refusal.TheVariants.{BadLevel, BufferTooShort, LeftOver}
use Rattle.encoding.specs.Refusals.{map_answer, pick}
use Rattle.encoding.specs.Tables.{check_level}
use Rattle.encoding.specs.Reading.{Reading, got, stop, whole}
use Rattle.encoding.specs.Scans.{map_reading}
use Rattle.encoding.proofs.Tables.{impossible}
use Rattle.encoding.proofs.Answers.{filled-done, filled-left, filled-short, filled-stop}
use Rattle.encoding.specs.Filled.{filled}
use Rattle.text_pass.specs.Passes.{Ready, Came, Went}
use Rattle.text_pass.proofs.Passes.{came-to, was-stopped}

-- a count below the limit is the number itself
clamped-same : (a b : ℕ) → a < 2 ^ 63 → clamp a ≡ clamp b → a ≡ b
clamped-same a b h e = go (clamped a) (clamped b)
  where
    go : Clamped a → Clamped b → a ≡ b
    go (small k p) (small l q) = omega (arith, p, q, e)
    go (small k p) (large l q) = absurd (let z : ⊥ = omega (arith, p, q, e) in z)
    go (large k p) c = absurd (let z : ⊥ = omega (arith, k, h) in z)

clamped-above : (a b m : ℕ) → m < 2 ^ 63 → m < a → clamp a ≡ clamp b → m < b
clamped-above a b m h l e = go (clamped a) (clamped b)
  where
    go : Clamped a → Clamped b → m < b
    go (small k p) (small r q) = omega (arith, p, q, e)
    go (small k p) (large r q) = omega arith
    go (large k p) (small r q) = absurd (let z : ⊥ = omega (arith, p, q, e) in z)
    go (large k p) (large r q) = omega arith

-- what was counted
pub record Counts {A : Type 0} (f : A → Bytes) (x : Reading A) (o o' : List ℕ) (n bytes : ℕ) : Type 0 where
  pub value : A
  pub reads : x ≡ got value n
  pub kept : o' ≡ o
  pub size : clamp bytes ≡ clamp (length (f value))

module _ {A : Type 0} (f : A → Bytes) (x : Reading A) {o o' : List ℕ} {r : Result (ℕ × ℕ) Refusal} where
  counted : {n bytes : ℕ} → Went false o 0 (map_reading f x) o' r → r ≡ Ok (n, bytes) → Counts f x o o' n bytes
  unfolding map_reading
  counted {n} {bytes} w e = go x (came-to w e)
    where
      go : (y : Reading A) → Came false o 0 (map_reading f y) o' n bytes → Counts f y o o' n bytes
      go (got a m) c =
          let q : m ≡ n = cc c.reads in
          let v : c.bytes ≡ f a = cc c.reads in
          let k = c.laid.counted refl in
          let z : 0 + length c.bytes ≡ length (f a) = omega (arith, ap length v) in
          record { value = a; reads = ap (got a) q; kept = k.kept; size = k.next ∙ ap clamp z }
      go (stop k) c = impossible (let d = c.reads in cc)

  not-counted : {k : Refusal} → Went false o 0 (map_reading f x) o' r → r ≡ Err k → (x ≡ stop k) × (o' ≡ o)
  unfolding map_reading
  not-counted {k} w e = go x (was-stopped w e)
    where
      go : (y : Reading A) → (map_reading f y ≡ stop k) × (false ≡ false → o' ≡ o) → (y ≡ stop k) × (o' ≡ o)
      go (got a m) c = impossible (let d = c.0 in cc)
      go (stop j) c = let q : j ≡ k = cc c.0 in (ap stop q, c.1 refl)

module _ {A : Type 0} {f : A → Bytes} {x : Reading A} {o o' : List ℕ} {n bytes : ℕ} (c : Counts f x o o' n bytes) where
  same_size : length o < 2 ^ 63 → bytes ≤ length o → bytes ≡ length (f c.value)
  same_size h l = clamped-same bytes (length (f c.value)) (omega (arith, h, l)) c.size

  ready : length o < 2 ^ 63 → bytes ≤ length o → Ready true o' 0 (map_reading f x)
  unfolding map_reading
  ready h l = record {
    room = λ e. record {
      value = f c.value;
      end = n;
      reads = ap (map_reading f) c.reads;
      room = omega (arith, same_size h l, ap length c.kept);
    };
  }

  written : {o'' : List ℕ} {r : Result (ℕ × ℕ) Refusal} {m p : ℕ} → Went true o' 0 (map_reading f x) o'' r → r ≡ Ok (m, p) → (p ≡ length (f c.value)) × (o'' ≡ sets o 0 (f c.value))
  unfolding map_reading
  written w e =
      let d = came-to w e in
      let v : d.bytes ≡ f c.value = cc (d.reads, ap (map_reading f) c.reads) in
      let l = ap length v in
      (omega (arith, (d.laid.wrote refl).next, l), (d.laid.wrote refl).bytes ∙ ap (λ (s : List ℕ). sets s 0 d.bytes) c.kept ∙ ap (sets o 0) v)

-- ---- the two turns: one counts, and if all is well the next one writes

-- how many turns come behind this one
unfoldable pub turns : Bool → ℕ
turns true = 0
turns false = 1

pub turns-less : (write : Bool) → write ≡ false → turns true < turns write
unfolding turns
turns-less write e = rw e (omega arith)

-- before a turn that counts nothing has happened; before one that writes, the text was counted, and there is room for it
pub record Turn {A : Type 0} (f : A → Bytes) (x : Reading A) (size : ℕ) (o : List ℕ) (write : Bool) (o' : List ℕ) : Type 0 where
  pub small : length o < 2 ^ 63
  pub kept : write ≡ false → o' ≡ o
  pub bytes : ℕ
  pub counts : write ≡ true → Counts f x o o' size bytes
  pub fits : write ≡ true → bytes ≤ length o

module _ {A : Type 0} {f : A → Bytes} {x : Reading A} {size : ℕ} {o : List ℕ} where
  pub turn-start : length o < 2 ^ 63 → Turn f x size o false o
  turn-start h = record { small = h; kept = λ e. refl; bytes = 0; counts = λ e. never (sym e); fits = λ e. never (sym e) }

  module _ {write : Bool} {o' : List ℕ} (t : Turn f x size o write o') where
    pub turn-ready : Ready write o' 0 (map_reading f x)
    turn-ready = record { room = λ e. (ready (t.counts e) t.small (t.fits e)).room refl }

    module _ {o'' : List ℕ} {r : Result (ℕ × ℕ) Refusal} (w : Went write o' 0 (map_reading f x) o'' r) where
      as-counted : write ≡ false → Went false o 0 (map_reading f x) o'' r
      as-counted e =
          subst (λ (l : List ℕ). Went false l 0 (map_reading f x) o'' r) (t.kept e) (subst (λ (b : Bool). Went b o' 0 (map_reading f x) o'' r) e w)

      as_written : write ≡ true → Went true o' 0 (map_reading f x) o'' r
      as_written e = subst (λ (b : Bool). Went b o' 0 (map_reading f x) o'' r) e w

      -- the answer, by how the turn ended
      abbrev Answered : Result ℕ Refusal → Type 0
      Answered a = ◌≡◌ {A = Result ℕ Refusal × List ℕ} (a, o'') (filled o (map_answer f (whole size x)))

      module _ {n bytes : ℕ} (d : r ≡ Ok (n, bytes)) where
        pub turn-done : write ≡ true → Answered (Ok bytes)
        turn-done e =
            let k = t.counts e in
            let s = same_size k t.small (t.fits e) in
            let v = written k (as_written e) d in
            filled-done o f size x bytes k.reads refl (omega (arith, s, t.fits e)) v.0 v.1

        pub turn-left : write ≡ false → (n ≡ size → ⊥) → Answered (Err LeftOver)
        turn-left e h = let k = counted f x (as-counted e) d in rw k.kept (filled-left o f size x k.reads h)

        pub turn-short : write ≡ false → n ≡ size → length o'' < bytes → Answered (Err BufferTooShort)
        turn-short e q h =
            let k = counted f x (as-counted e) d in
            let l = clamped-above bytes (length (f k.value)) (length o) t.small (omega (arith, ap length k.kept)) k.size in
            rw k.kept (filled-short o f size x k.reads q l)

        pub turn-next : write ≡ false → n ≡ size → bytes ≤ length o'' → Turn f x size o true o''
        turn-next e q h =
            let k = counted f x (as-counted e) d in record {
              small = t.small;
              kept = λ i. never i;
              bytes = bytes;
              counts = λ i. subst (λ (m : ℕ). Counts f x o o'' m bytes) q k;
              fits = λ i. omega (arith, ap length k.kept);
            }

      pub turn_stopped : {k : Refusal} → r ≡ Err k → Answered (Err k)
      unfolding map_reading
      turn_stopped {k} d = let s = go write refl in rw s.1 (filled-stop o f size x s.0)
        where
          go : (b : Bool) → write ≡ b → (x ≡ stop k) × (o'' ≡ o)
          go true e = impossible (let s = (was-stopped (as_written e) d).0 in let m = ap (map_reading f) (t.counts e).reads in cc)
          go false e = not-counted f x (as-counted e) d

-- a level that was tested is small
pub level-passed : (level : ℕ) → check_level level ≡ Ok tt → level < 2 ^ 30
unfolding check_level
level-passed level e = go (ltb 16 level) (ltb-false 16 level) e
  where
    go : (t : Bool) → (t ≡ false → level ≤ 16) → ◌≡◌ {A = Result (Unit {0}) Refusal} (pick t (Err BadLevel) (Ok tt)) (Ok tt) → level < 2 ^ 30
    go true h d = impossible (cc)
    go false h d = omega (arith, h refl)
