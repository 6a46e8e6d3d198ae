-- What the call that rebuilds a declaration gives.
use Rattle.std.specs.Prelude.{ℕ, List, length}
use Rattle.rast.specs.Bytes.{Bytes}
use Rattle.rast.specs.Tree.{Ty}
use Rattle.rast.specs.Declaration.{Declaration}
use Rattle.encoding.specs.Refusals.{Answer, unless}
use Rattle.encoding.specs.Reading.{Reading, whole}
use Rattle.encoding.specs.Tables.{name_count}
use Rattle.encoding.specs.Forms.{present}
use Rattle.encoding.specs.Declarations.{read_declaration}
use Rattle.tree_words.specs.Numbered.{tree_at}
use Rattle.rebuild_spec.specs.Rules.{check_all, rules_of, mapping_of}
use Rattle.declaration_walk.specs.Pieces.{pieces, encode_declaration}
use Rattle.rebuild_type.specs.Calls.{RebuiltWords, ruled_by}
use Rattle.rebuild_declaration.specs.Replacer.{ReplaceModDecl}
use Rattle.rebuild_declaration.specs.Laying.{deepest_piece, top_pieces}

-- the declaration that begins the words, by name numbers
abbrev pub declaration_in : List ℕ → List ℕ → Reading (Declaration ℕ)
declaration_in ws pairs = read_declaration present (name_count pairs) ws (λ x. x) (tree_at ws pairs) 0

-- a declaration rebuilt by a mapping
abbrev pub laid_declaration : (Ty ℕ → Ty ℕ) → Declaration ℕ → RebuiltWords
laid_declaration m d = record { words = encode_declaration present (ReplaceModDecl m d); top = top_pieces m (pieces present d); deep = deepest_piece (pieces present (ReplaceModDecl m d)) }

-- the declaration that an encoding holds, rebuilt by the rules of a list
unfoldable pub declaration_rebuilt : List ℕ → List ℕ → Bytes → List ℕ → Answer RebuiltWords
declaration_rebuilt words pairs text rules =
    unless (check_all words rules pairs text)
    (ruled_by (λ rs. laid_declaration (mapping_of pairs text rs)) (whole (length words) (declaration_in words pairs)) (rules_of rules pairs text))
