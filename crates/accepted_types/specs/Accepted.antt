-- What is said of a type that was accepted: that something was read there, and where it ends.
use Rattle.std.specs.Prelude.{ℕ, ◌≡◌, List}
use Rattle.rast.specs.Bytes.{Bytes}
use Rattle.rast.specs.Tree.{Ty}
use Rattle.encoding.specs.declared.Head.{Head}
use Rattle.encoding.specs.Tables.{name_bytes}
use Rattle.encoding.specs.Reading.{Reading, got}
use Rattle.encoding.specs.Types.{read_node, type_at}

-- the type of a head whose own words end at a position
abbrev pub node_at : List ℕ → List ℕ → Bytes → Head → ℕ → Reading (Ty Bytes)
node_at ws pairs text h at = read_node ws (name_bytes pairs text) (type_at ws pairs text) h at

-- something was read
pub record Readable {A : Type 0} (x : Reading A) : Type 0 where
  pub value : A
  pub end : ℕ
  pub reads : x ≡ got value end

-- what was read ends at n
pub record EndsAt {A : Type 0} (x : Reading A) (n : ℕ) : Type 0 where
  pub value : A
  pub reads : x ≡ got value n
