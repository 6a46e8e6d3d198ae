-- A run of numbers, filled from its front.
use Prim.Native.Nat.{ℕ, zero, suc, ◌+◌, ◌*◌, ◌<◌}
use mathlib.Core.Path.{◌≡◌, ap, sym}
use mathlib.Core.List.{List, [], ◌∷◌, ◌++◌}
use native.Mathlib.Omega.{arith}
use native.Mathlib.Nat.{add-zero}
use native.Mathlib.Numerals.{add-one}
use lib.ListN.{length, set, take}
use lib.Seq.{take-suc-set}
use Rattle.little_endian.specs.Numbers.{number_at, numbers_at}

-- one number more, at the end
run_more : (n : ℕ) (bytes : List ℕ) (at : ℕ) → numbers_at (suc n) bytes at ≡ numbers_at n bytes at ++ (number_at bytes (at + 4 * n) ∷ [])
unfolding numbers_at
run_more zero bytes at = rw (add-zero at)
run_more (suc n) bytes at =
    let e : at + 4 * suc n ≡ at + 4 + 4 * n = omega arith in
    ap (◌∷◌ (number_at bytes at)) (rw e (run_more n bytes (at + 4)))

pub run-filled : (out bytes : List ℕ) (at i v : ℕ) → i < length out → take i out ≡ numbers_at i bytes at → v ≡ number_at bytes (at + 4 * i)
    → take (i + 1) (set out i v) ≡ numbers_at (i + 1) bytes at
run-filled out bytes at i v h e d = rw (add-one i, take-suc-set out i v h, e, d) (sym (run_more i bytes at))
