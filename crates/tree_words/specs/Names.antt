-- Document 01's name numbers: each is below the number of names. The names of a tree are those of its words.
use Rattle.std.specs.Prelude.{Some, None, ℕ, ◌<◌, List, [], ◌∷◌}
use Rattle.tree_words.specs.Encode.{Token, word, name, size}

-- a word's name, or the name of a size, is one of `bound` names
abbrev pub NameBelow : ℕ → Token ℕ → Type 0
NameBelow bound (word k) = Unit {0}
NameBelow bound (name x) = x < bound
NameBelow bound (size None) = Unit {0}
NameBelow bound (size (Some x)) = x < bound

-- P of each of some things
abbrev pub Each : {A : Type 0} → (A → Type 0) → List A → Type 0
Each P [] = Unit {0}
Each P (x ∷ xs) = P x × Each P xs

-- all names of some words are
abbrev pub NamesBelow : ℕ → List (Token ℕ) → Type 0
NamesBelow bound ks = Each (NameBelow bound) ks
