-- What acceptance says of a type that is not sound.
use Rattle.std.specs.Prelude.{Ok, Err, Result}
use Prim.Native.Nat.{ℕ}
use mathlib.Core.Path.{◌≡◌, refl}
use mathlib.Core.Bool.{Bool, true, false}
use lib.Dec.{eqb}
use Rattle.rast.specs.Bytes.{Bytes}
use Rattle.rast.specs.Tree.{Ty}
use Rattle.encoding.specs.declared.Refusal.{Refusal}
use Rattle.encoding.specs.declared.Refusal.TheVariants.{LeftOver}
use Rattle.encoding.specs.Refusals.{pick, map_answer}
use Rattle.encoding.specs.Reading.{Reading, got, stop, whole}
use Rattle.encoding.proofs.Tables.{impossible}
use Rattle.encoding.specs.Scans.{ended}

module _ (size : ℕ) (x : Reading (Ty Bytes)) {a : Result ℕ Refusal} (said : a ≡ ended x) where
  pub whole-denied : {r : Refusal} → a ≡ Err r → map_answer (λ t. false) (whole size x) ≡ Err r
  unfolding map_answer whole
  whole-denied {r} d = go x said
    where
      go : (y : Reading (Ty Bytes)) → a ≡ ended y → map_answer (λ t. false) (whole size y) ≡ Err r
      go (got t n) e = impossible (cc)
      go (stop k) e = let f : k ≡ r = cc in rw f

  pub whole-accepted : {n : ℕ} → a ≡ Ok n → whole size (got false n) ≡ map_answer (λ t. false) (whole size x)
  unfolding map_answer whole
  whole-accepted {n} d = go x said
    where
      last : (t : Ty Bytes) (c : Bool) → pick c (Ok false) (Err LeftOver) ≡ map_answer (λ t. false) (pick c (Ok t) (Err LeftOver))
      last t true = refl
      last t false = refl

      go : (y : Reading (Ty Bytes)) → a ≡ ended y → whole size (got false n) ≡ map_answer (λ t. false) (whole size y)
      go (got t m) e = let f : m ≡ n = cc in rw f (last t (eqb n size))
      go (stop k) e = impossible (cc)
