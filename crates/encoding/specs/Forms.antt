-- What may differ between two forms of the encoding of declarations: the heads' numbers, and how an entry of a parameter list is written. The grammar takes a form as a
-- parameter. Document 01 has one; request 7 adds another, whose entries begin with a word for what they are, and request 8 goes from one to the other.
use Rattle.std.specs.Prelude.{ℕ}

pub data Entries : Type 0 where
  -- "name, m, m types": each entry is a type parameter
  plain : Entries

pub record Form : Type 0 where
  pub struct_head : ℕ
  pub enum_head : ℕ
  pub synonym_head : ℕ
  pub use_head : ℕ
  pub entries : Entries

-- document 01's form
abbrev pub present : Form
present = record { struct_head = 25; enum_head = 26; synonym_head = 27; use_head = 28; entries = plain }
