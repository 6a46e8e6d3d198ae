-- What an encoding holds, a type or a declaration, as it is rebuilt.
use Rattle.std.specs.Prelude.{ℕ, List, length}
use Rattle.rast.specs.Bytes.{Bytes}
use Rattle.rast.specs.Tree.{Ty}
use Rattle.encoding.specs.Refusals.{Answer}
use Rattle.encoding.specs.Reading.{Reading, whole}
use Rattle.encoding.specs.Scans.{map_reading}
use Rattle.tree_words.specs.Numbered.{tree_at}
use Rattle.rebuild_spec.specs.Rules.{rules_of, mapping_of}
use Rattle.rebuild_type.specs.Calls.{RebuiltWords, laid_type, ruled_by}
use Rattle.rebuild_declaration.specs.Calls.{declaration_in, laid_declaration}
use Rattle.accept_declaration.specs.declared.Whole.{Whole}
use Rattle.accept_declaration.specs.declared.Whole.TheVariants.{AType, ADeclaration}

-- what is laid down for the tree that begins the words
abbrev pub laid_by : Whole → List ℕ → List ℕ → (Ty ℕ → Ty ℕ) → Reading RebuiltWords
laid_by AType ws pairs m = map_reading (laid_type m) (tree_at ws pairs 0)
laid_by ADeclaration ws pairs m = map_reading (laid_declaration m) (declaration_in ws pairs)

-- the tree that fills the words, rebuilt by the rules of a list, where the tables are tested already
abbrev pub whole_rebuilt : Whole → List ℕ → List ℕ → Bytes → List ℕ → Answer RebuiltWords
whole_rebuilt AType ws pairs text rules = ruled_by (λ rs. laid_type (mapping_of pairs text rs)) (whole (length ws) (tree_at ws pairs 0)) (rules_of rules pairs text)
whole_rebuilt ADeclaration ws pairs text rules = ruled_by (λ rs. laid_declaration (mapping_of pairs text rs)) (whole (length ws) (declaration_in ws pairs)) (rules_of rules pairs text)
