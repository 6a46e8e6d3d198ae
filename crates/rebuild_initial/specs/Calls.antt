-- What the call gives: the type at initialization, by its words.
use Rattle.std.specs.Prelude.{ℕ, List, length}
use Rattle.rast.specs.Bytes.{Bytes}
use Rattle.rast.specs.Tree.{Ty}
use Rattle.encoding.specs.Refusals.{Answer, map_answer}
use Rattle.encoding.specs.Tables.{name_bytes}
use Rattle.tree_words.specs.Encode.{encode}
use Rattle.tree_words.specs.Numbered.{tree_of}
use Rattle.rebuild_spec.specs.Laying.{depth}
use Rattle.tree_words.specs.Renamed.{renamed}
use Rattle.shapes.specs.Initialization.{own_number, TypeAtInitialization}
use Rattle.rebuild_type.specs.Calls.{RebuiltWords}

-- a tree as it stands at initialization: on the way no more words lie there than at the end
abbrev pub laid_init : (ℕ → Bytes) → Ty ℕ → RebuiltWords
laid_init bytes t = record {
  words = encode (TypeAtInitialization own_number (renamed bytes) t);
  top = length (encode (TypeAtInitialization own_number (renamed bytes) t));
  deep = depth (TypeAtInitialization own_number (renamed bytes) t);
}

-- the type that an encoding holds, as it stands at initialization
unfoldable pub type_initialized : List ℕ → List ℕ → Bytes → Answer RebuiltWords
type_initialized words pairs text = map_answer (laid_init (name_bytes pairs text)) (tree_of words pairs text)
