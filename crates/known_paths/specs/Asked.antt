-- What is answered about an accepted type: where a part of it stands, and whether a path is one of `dafny_runtime`.
use Rattle.std.specs.Prelude.{is_some, Option, Some, None, ◌≡◌, ℕ, ◌+◌, Bool, true, List, slice_index}
use Rattle.rast.specs.Bytes.{Bytes, ◌and◌}
use Rattle.rast.specs.Tree.{Ty}
use Rattle.encoding.specs.declared.PathAt.{PathAt}
use Rattle.encoding.specs.Tables.{name_bytes}
use Rattle.encoding.specs.Types.{path_of}
use Rattle.encoding.specs.Reading.{Reading, got}
use Rattle.tree_words.specs.Places.{Place, place}
use Rattle.known_paths.specs.Paths.{runtime_member}

-- where a part stands, if there is one
unfoldable pub found : Option (Place Bytes) → Option ℕ
found (Some p) = Some p.at
found None = None

-- the answer r is where the part f of the type at `at` stands
pub record Finds (f : Place Bytes → Option (Place Bytes)) (again : ℕ → Reading (Ty Bytes)) (at : ℕ) (r : Option ℕ) : Type 0 where
  pub says : (t : Ty Bytes) (n : ℕ) → again at ≡ got t n → r ≡ found (f (place at t))

-- whether there is one
abbrev pub is_found : Option ℕ → Bool
is_found = is_some

-- r says whether a path is a member of `dafny_runtime`, whose name is then the second of two
pub record InRuntime (ws pairs : List ℕ) (text : Bytes) (path : PathAt) (r : Bool) : Type 0 where
  pub two : r ≡ true → path.count ≡ 2
  pub says : (f : Bytes → Bool) → runtime_member f (path_of ws (name_bytes pairs text) path) ≡ (r and f (name_bytes pairs text (slice_index ws (path.start + 1))))
