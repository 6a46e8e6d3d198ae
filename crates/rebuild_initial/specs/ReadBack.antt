-- What the call has written can be read again: with the same pairs and text it is an encoding that is accepted, and holds the type at initialization.
use Rattle.std.specs.Prelude.{Ok, ℕ, ◌≡◌, List, take}
use Rattle.rast.specs.Bytes.{Bytes}
use Rattle.rast.specs.Tree.{Ty}
use Rattle.encoding.specs.Tables.{name_bytes}
use Rattle.encoding.specs.Types.{type_of}
use Rattle.tree_words.specs.Renamed.{renamed}
use Rattle.tree_words.specs.Numbered.{tree_of}
use Rattle.shapes.specs.Initialization.{own_number, TypeAtInitialization}
use Rattle.rebuild_type.specs.Calls.{laid_down}
use Rattle.rebuild_initial.specs.Calls.{type_initialized}

-- `words` hold a tree, and `written` that tree as it stands at initialization: with name numbers, and with bytes, as all other calls read it
pub record HoldsInitial (words pairs : List ℕ) (text : Bytes) (written : List ℕ) : Type 0 where
  pub tree : Ty ℕ
  pub held : tree_of words pairs text ≡ Ok tree
  pub numbers : tree_of written pairs text ≡ Ok (TypeAtInitialization own_number (renamed (name_bytes pairs text)) tree)
  pub bytes : type_of written pairs text ≡ Ok (renamed (name_bytes pairs text) (TypeAtInitialization own_number (renamed (name_bytes pairs text)) tree))

-- whichever buffer is lent: if the call gives a length, so many words at the front of the buffer hold the type at initialization
abbrev pub InitialReadsBack : Type 0
InitialReadsBack =
    (words pairs : List ℕ) (text : Bytes) (out : List ℕ) (n : ℕ) (out' : List ℕ)
    → laid_down out (type_initialized words pairs text) ≡ (Ok n, out') → HoldsInitial words pairs text (take n out')
