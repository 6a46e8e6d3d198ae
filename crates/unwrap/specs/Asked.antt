-- What is answered about an accepted type: a function of it, and where `Expand` of it stands.
use Rattle.std.specs.Prelude.{ℕ, ◌≡◌}
use Rattle.rast.specs.Bytes.{Bytes}
use Rattle.rast.specs.Tree.{Ty}
use Rattle.rast.specs.DeclarationToString.{Expand}
use Rattle.encoding.specs.Reading.{Reading, got}

-- the answer r is f of the type that was read
pub record Judges {A : Type 0} (f : Ty Bytes → A) (x : Reading (Ty Bytes)) (r : A) : Type 0 where
  pub says : (t : Ty Bytes) (n : ℕ) → x ≡ got t n → r ≡ f t

-- at r stands what `Expand` gives of the type at `at`, and ends where that type ends
pub record ExpandsAt (again : ℕ → Reading (Ty Bytes)) (at r : ℕ) : Type 0 where
  pub expands : (t : Ty Bytes) (n : ℕ) → again at ≡ got t n → again r ≡ got (Expand t) n
