-- Document 01's "rule sheet" is here a list of rules: k, then k times two types, from and to.
use Rattle.encoding.specs.declared.Refusal.{Refusal}
use Rattle.std.specs.Prelude.{Ok, Err, Result, ℕ, ◌+◌, Bool, false, List, [], ◌∷◌, ltb, length}
use Rattle.rast.specs.Bytes.{Bytes, ◌or◌}
use Rattle.rast.specs.Tree.{Ty}
use Rattle.encoding.specs.Words.{max_words, max_rules}
use Rattle.encoding.specs.declared.Refusal.TheVariants.{Overlong, BadPair, RepeatedRule}
use Rattle.encoding.specs.Refusals.{pick, Answer}
use Rattle.encoding.specs.Reading.{Reading, got, ◌>>=◌, read_below, whole}
use Rattle.encoding.specs.Tables.{overlong, good_pairs, name_bytes}
use Rattle.encoding.specs.Declarations.{read_list}
use Rattle.tree_words.specs.Numbered.{tree_at}
use Rattle.rebuild_spec.specs.Same.{same_by}
use Rattle.rebuild_spec.specs.Replace.{ruled}

-- a rule: what gives way, and to what
abbrev pub Rule : Type 0
Rule = Ty ℕ × Ty ℕ

unfoldable pub read_rule : (ℕ → Reading (Ty ℕ)) → ℕ → Reading Rule
read_rule type at = type at >>= λ from p. type p >>= λ to q. got (from, to) q

-- at most `max_rules` rules
unfoldable pub read_rules : List ℕ → List ℕ → Reading (List Rule)
read_rules rules pairs = read_below (max_rules + 1) rules 0 >>= λ k p. read_list (read_rule (tree_at rules pairs)) k p

-- some from equals t
unfoldable pub among_froms : (Ty ℕ → Ty ℕ → Bool) → Ty ℕ → List Rule → Bool
among_froms eq t [] = false
among_froms eq t (r ∷ rs) = eq t r.0 or among_froms eq t rs

-- two rules have equal froms
unfoldable pub repeated : (Ty ℕ → Ty ℕ → Bool) → List Rule → Bool
repeated eq [] = false
repeated eq (r ∷ rs) = among_froms eq r.0 rs or repeated eq rs

-- the limits, those on the rules' words with those on the tree's; then the pairs
unfoldable pub check_all : List ℕ → List ℕ → List ℕ → Bytes → Result (Unit {0}) Refusal
check_all words rules pairs text =
    pick (overlong words pairs text or ltb max_words (length rules)) (Err Overlong)
    (pick (good_pairs pairs 0 (length text)) (Ok tt) (Err BadPair))

-- rules of which two have equal froms are refused
unfoldable pub distinct : (Ty ℕ → Ty ℕ → Bool) → Answer (List Rule) → Answer (List Rule)
distinct eq (Ok rs) = pick (repeated eq rs) (Err RepeatedRule) (Ok rs)
distinct eq (Err r) = Err r

-- the rules of a list, or the refusal
unfoldable pub rules_of : List ℕ → List ℕ → Bytes → Answer (List Rule)
rules_of rules pairs text = distinct (same_by (name_bytes pairs text)) (whole (length rules) (read_rules rules pairs))

-- the mapping of `ReplaceMap` that a list of rules stands for
unfoldable pub mapping_of : List ℕ → Bytes → List Rule → Ty ℕ → Ty ℕ
mapping_of pairs text rs = ruled (same_by (name_bytes pairs text)) rs
