-- What the writers of accepted types need and do.
use Rattle.std.specs.Prelude.{◌≡◌, ℕ, ◌+◌, ◌≤◌, List, ◌++◌, length}
use Rattle.rast.specs.Bytes.{Bytes}
use Rattle.rast.specs.Tree.{Ty}
use Rattle.rast.specs.ToString.{Type-to_string}
use Rattle.buffer.specs.Wrote.{Wrote}
use Rattle.encoding.specs.Reading.{Reading, got}
use Rattle.accepted_types.specs.declared.Spot.{Spot}
use Rattle.text_type.specs.declared.Part.{Part}
use Rattle.text_type.specs.declared.Part.TheVariants.{Rest, Done}

-- something was read, and its text has room in o from p on
pub record Room {A : Type 0} (o : List ℕ) (p : ℕ) (text : A → Bytes) (x : Reading A) : Type 0 where
  pub value : A
  pub end : ℕ
  pub reads : x ≡ got value end
  pub room : p + length (text value) ≤ length o

-- something was read to where the writer has come, and its text written
pub record Written {A : Type 0} (o : List ℕ) (p : ℕ) (text : A → Bytes) (x : Reading A) (o' : List ℕ) (s : Spot) : Type 0 where
  pub value : A
  pub reads : x ≡ got value s.next
  pub wrote : Wrote o p (text value) o' s.pos

-- x is written up to the type that ends it: that type stands where the writer has come to, not before `from`
pub record Front (again : ℕ → Reading (Ty Bytes)) (from : ℕ) (o : List ℕ) (p : ℕ) (x : Reading (Ty Bytes)) (o' : List ℕ) (s : Spot) : Type 0 where
  pub value : Ty Bytes
  pub last : Ty Bytes
  pub end : ℕ
  pub front : Bytes
  pub reads : x ≡ got value end
  pub rest : again s.next ≡ got last end
  pub ahead : from ≤ s.next
  pub wrote : Wrote o p front o' s.pos
  pub splits : Type-to_string value ≡ front ++ Type-to_string last

-- all of x is written, or all but the type that ends it
pub data PartWritten (again : ℕ → Reading (Ty Bytes)) (from : ℕ) (o : List ℕ) (p : ℕ) (x : Reading (Ty Bytes)) (o' : List ℕ) : Part → Type 0 where
  front : {s : Spot} → Front again from o p x o' s → PartWritten again from o p x o' (Rest s)
  whole : {s : Spot} → Written o p Type-to_string x o' s → PartWritten again from o p x o' (Done s)
