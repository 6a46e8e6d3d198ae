-- What a call that rebuilds has written can be read again: with the same pairs and text it is an encoding that is accepted, and holds the rebuilt tree.
use Rattle.std.specs.Prelude.{Ok, ℕ, ◌≡◌, List, take}
use Rattle.rast.specs.Bytes.{Bytes}
use Rattle.rast.specs.Tree.{Ty}
use Rattle.rast.specs.Declaration.{Declaration}
use Rattle.encoding.specs.Tables.{name_bytes}
use Rattle.encoding.specs.Types.{type_of}
use Rattle.encoding.specs.Declarations.{declaration_of}
use Rattle.tree_words.specs.Renamed.{renamed}
use Rattle.tree_words.specs.Numbered.{tree_of}
use Rattle.declaration_walk.specs.Mapped.{renamed_declaration}
use Rattle.declaration_walk.specs.Numbered.{numbered_of}
use Rattle.rebuild_spec.specs.Replace.{Replace}
use Rattle.rebuild_spec.specs.Rules.{Rule, rules_of, mapping_of}
use Rattle.rebuild_type.specs.Calls.{laid_down, type_rebuilt}
use Rattle.rebuild_declaration.specs.Replacer.{ReplaceModDecl}
use Rattle.rebuild_declaration.specs.Calls.{declaration_rebuilt}

-- `words` hold a tree and `rules` a list of rules; `written` hold that tree, rebuilt by the rules: with name numbers, and with bytes, as all other calls read it
pub record HoldsType (words pairs : List ℕ) (text : Bytes) (rules written : List ℕ) : Type 0 where
  pub tree : Ty ℕ
  pub list : List Rule
  pub held : tree_of words pairs text ≡ Ok tree
  pub listed : rules_of rules pairs text ≡ Ok list
  pub numbers : tree_of written pairs text ≡ Ok (Replace (mapping_of pairs text list) tree)
  pub bytes : type_of written pairs text ≡ Ok (renamed (name_bytes pairs text) (Replace (mapping_of pairs text list) tree))

-- the same of a declaration
pub record HoldsDeclaration (words pairs : List ℕ) (text : Bytes) (rules written : List ℕ) : Type 0 where
  pub tree : Declaration ℕ
  pub list : List Rule
  pub held : numbered_of words pairs text ≡ Ok tree
  pub listed : rules_of rules pairs text ≡ Ok list
  pub numbers : numbered_of written pairs text ≡ Ok (ReplaceModDecl (mapping_of pairs text list) tree)
  pub bytes : declaration_of written pairs text ≡ Ok (renamed_declaration (name_bytes pairs text) (ReplaceModDecl (mapping_of pairs text list) tree))

-- whichever buffer is lent: if the call gives a length, so many words at the front of the buffer hold the rebuilt tree
abbrev pub TypeReadsBack : Type 0
TypeReadsBack =
    (words pairs : List ℕ) (text : Bytes) (rules out : List ℕ) (n : ℕ) (out' : List ℕ)
    → laid_down out (type_rebuilt words pairs text rules) ≡ (Ok n, out') → HoldsType words pairs text rules (take n out')

abbrev pub DeclarationReadsBack : Type 0
DeclarationReadsBack =
    (words pairs : List ℕ) (text : Bytes) (rules out : List ℕ) (n : ℕ) (out' : List ℕ)
    → laid_down out (declaration_rebuilt words pairs text rules) ≡ (Ok n, out') → HoldsDeclaration words pairs text rules (take n out')
