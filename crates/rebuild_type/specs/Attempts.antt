-- What the functions behind the calls do with a buffer: rebuild within a limit, or answer.
use Rattle.std.specs.Prelude.{Ok, Err, Result, Option, ℕ, ◌<◌, ◌≡◌, List, length}
use Rattle.encoding.specs.declared.Refusal.{Refusal}
use Rattle.encoding.specs.Reading.{Reading, got}
use Rattle.rebuild_type.specs.Laid.{Rebuilds}
use Rattle.rebuild_type.specs.declared.Attempt.{Attempt}
use Rattle.rebuild_type.specs.declared.Attempt.TheVariants.{Filled, Denied, NoRoom}
use Rattle.rebuild_type.specs.Calls.{RebuiltWords, laid_down}

-- words that are laid down as they stand, of a tree so deep
abbrev pub same_words : List ℕ → ℕ → RebuiltWords
same_words ws d = record { words = ws; top = length ws; deep = d }

-- what was read was laid down at the front of a buffer, or more words would lie there than the limit
abbrev pub LaidRebuilds : ℕ → List ℕ → Reading RebuiltWords → List ℕ → Option (ℕ × ℕ × ℕ) → Type 0
LaidRebuilds limit o x o' r = Rebuilds (λ (b : RebuiltWords). b.words) (λ (b : RebuiltWords). b.top) (λ (b : RebuiltWords). b.deep) limit o 0 x o' r

-- what was read, rebuilt within a limit: the call is answered, or more words would lie there
pub data Attempted (limit : ℕ) (x : Reading RebuiltWords) (o o' : List ℕ) : Attempt → Type 0 where
  answered : {b : RebuiltWords} {n m : ℕ} → x ≡ got b n → (Ok m, o') ≡ laid_down o (Ok b) → Attempted limit x o o' (Filled m)
  denied : {b : RebuiltWords} {n : ℕ} {r : Refusal} → x ≡ got b n → (Err r, o') ≡ laid_down o (Ok b) → Attempted limit x o o' (Denied r)
  no_room : {b : RebuiltWords} {n : ℕ} → x ≡ got b n → limit < b.top → o' ≡ o → Attempted limit x o o' NoRoom

-- what was read, rebuilt
pub record Fills (x : Reading RebuiltWords) (o o' : List ℕ) (r : Result ℕ Refusal) : Type 0 where
  pub fills : (b : RebuiltWords) (n : ℕ) → x ≡ got b n → (r, o') ≡ laid_down o (Ok b)
