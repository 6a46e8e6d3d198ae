-- A type and a declaration alike: where they end, and what the call answers.
use Rattle.std.specs.Prelude.{Ok, Err, Result, Option}
use Prim.Native.Nat.{ℕ}
use mathlib.Core.Path.{◌≡◌, refl, ap, sym, ◌∙◌, subst}
use mathlib.Core.List.{List}
use lib.ListN.{length}
use Rattle.rast.specs.Bytes.{Bytes}
use Rattle.rast.specs.Tree.{Ty}
use Rattle.rast.specs.Declaration.{Declaration}
use Rattle.encoding.specs.declared.Refusal.{Refusal}
use Rattle.encoding.specs.declared.Refusal.TheVariants.{LeftOver}
use Rattle.encoding.specs.Reading.{Reading, whole}
use Rattle.encoding.specs.Scans.{ended, map_reading}
use Rattle.encoding.proofs.Reading.{scan-stop}
use Rattle.tree_words.specs.Numbered.{tree_at}
use Rattle.accepted_types.specs.Accepted.{Readable, EndsAt}
use Rattle.rebuild_spec.specs.Rules.{Rule, rules_of, mapping_of}
use Rattle.tree_words.proofs.Renaming.{spelled}
use Rattle.accept_declaration.specs.Ends.{held_at}
use Rattle.declaration_walk.proofs.RenamedReading.{declaration-spelled}
use Rattle.declaration_walk.proofs.Scans.{ended-map, end-got}
use Rattle.rebuild_type.specs.declared.Attempt.{Attempt}
use Rattle.rebuild_type.specs.Laid.{Rebuilds, rule_list, mapping}
use Rattle.rebuild_type.specs.Calls.{RebuiltWords, laid_down, laid_type, ruled_by}
use Rattle.rebuild_type.specs.Attempts.{LaidRebuilds, Attempted, Fills}
use Rattle.rebuild_type.proofs.Calls.{laid-mapped, mapped-reads, tree-stops, tree_over, rules-stop-it, whole-filled}
use Rattle.rebuild_declaration.specs.Calls.{declaration_in, laid_declaration}
use Rattle.accept_declaration.specs.declared.Whole.{Whole}
use Rattle.accept_declaration.specs.declared.Whole.TheVariants.{AType, ADeclaration}
use Rattle.rebuild_calls.specs.Wholes.{laid_by, whole_rebuilt}

-- ---- the tree that begins the words, a type or a declaration

abbrev Tree : Whole → Type 0
Tree AType = Ty ℕ
Tree ADeclaration = Declaration ℕ

abbrev tree_in : (what : Whole) → List ℕ → List ℕ → Reading (Tree what)
tree_in AType ws pairs = tree_at ws pairs 0
tree_in ADeclaration ws pairs = declaration_in ws pairs

abbrev laid_tree : (what : Whole) → (Ty ℕ → Ty ℕ) → Tree what → RebuiltWords
laid_tree AType = laid_type
laid_tree ADeclaration = laid_declaration

laid-tree : (what : Whole) (ws pairs : List ℕ) (m : Ty ℕ → Ty ℕ) → laid_by what ws pairs m ≡ map_reading (laid_tree what m) (tree_in what ws pairs)
laid-tree AType ws pairs m = refl
laid-tree ADeclaration ws pairs m = refl

rebuilt-tree : (what : Whole) (ws pairs : List ℕ) (text : Bytes) (rules : List ℕ)
    → ruled_by (λ rs. laid_tree what (mapping_of pairs text rs)) (whole (length ws) (tree_in what ws pairs)) (rules_of rules pairs text) ≡ whole_rebuilt what ws pairs text rules
rebuilt-tree AType ws pairs text rules = refl
rebuilt-tree ADeclaration ws pairs text rules = refl

-- what was read and laid down, once it is known which of the two it is
module _ {what kind : Whole} (e : what ≡ kind) (ws pairs : List ℕ) (m : Ty ℕ → Ty ℕ) where
  laid-kind : laid_by what ws pairs m ≡ map_reading (laid_tree kind m) (tree_in kind ws pairs)
  laid-kind = ap (λ w. laid_by w ws pairs m) e ∙ laid-tree kind ws pairs m

  pub tree-readable : Readable (laid_by what ws pairs m) → Readable (tree_in kind ws pairs)
  tree-readable r = mapped-reads (laid_tree kind m) (tree_in kind ws pairs) (subst Readable laid-kind r)

  pub tree-laid : {limit : ℕ} {s s' : List ℕ} {r : Option (ℕ × ℕ × ℕ)}
      → Rebuilds (λ a. (laid_tree kind m a).words) (λ a. (laid_tree kind m a).top) (λ a. (laid_tree kind m a).deep) limit s 0 (tree_in kind ws pairs) s' r → LaidRebuilds limit s (laid_by what ws pairs m) s' r
  tree-laid {limit} {s} {s'} {r} k = subst (λ x. LaidRebuilds limit s x s' r) (sym laid-kind) (laid-mapped (laid_tree kind m) (tree_in kind ws pairs) k)

-- ---- where it ends

-- what is laid down ends where the tree does
tree-ends : (what : Whole) (ws pairs : List ℕ) (m : Ty ℕ → Ty ℕ) → ended (laid_by what ws pairs m) ≡ ended (tree_in what ws pairs)
tree-ends what ws pairs m = ap ended (laid-tree what ws pairs m) ∙ ended-map (laid_tree what m) (tree_in what ws pairs)

pub tree-got : (what : Whole) (ws pairs : List ℕ) (m : Ty ℕ → Ty ℕ) {n : ℕ} → ended (laid_by what ws pairs m) ≡ Ok n → EndsAt (tree_in what ws pairs) n
tree-got what ws pairs m e = end-got (tree_in what ws pairs) (tree-ends what ws pairs m) e

pub ended-readable : {A : Type 0} (x : Reading A) {n : ℕ} → ended x ≡ Ok n → Readable x
ended-readable x {n} e = let t = end-got x refl e in record { value = t.value; end = n; reads = t.reads }

held-tree : (what : Whole) (ws pairs : List ℕ) (text : Bytes) → ended (held_at what ws pairs text) ≡ ended (tree_in what ws pairs)
held-tree AType ws pairs text = ap ended (spelled ws pairs text 0) ∙ ended-map _ (tree_at ws pairs 0)
held-tree ADeclaration ws pairs text = ap ended (declaration-spelled ws pairs text 0) ∙ ended-map _ (declaration_in ws pairs)

-- ---- the answer of an attempt

pub limit_is : {i j : ℕ} {x : Reading RebuiltWords} {o o' : List ℕ} {a : Attempt} → i ≡ j → Attempted i x o o' a → Attempted j x o o' a
limit_is {x = x} {o = o} {o' = o'} {a = a} e k = subst (λ l. Attempted l x o o' a) e k

-- ---- the answers of the call, by what acceptance said

module _ (what : Whole) (ws pairs : List ℕ) (text : Bytes) {s : Result ℕ Refusal} (a : s ≡ ended (held_at what ws pairs text)) where
  accepts : s ≡ ended (tree_in what ws pairs)
  accepts = a ∙ held-tree what ws pairs text

  pub laid-ends : (m : Ty ℕ → Ty ℕ) {n : ℕ} → s ≡ Ok n → n ≡ length ws → ended (laid_by what ws pairs m) ≡ Ok (length ws)
  laid-ends m e d = tree-ends what ws pairs m ∙ sym accepts ∙ e ∙ ap Ok d

  module _ (rules o : List ℕ) where
    abbrev build : List Rule → Tree what → RebuiltWords
    build rs = laid_tree what (mapping_of pairs text rs)

    asked : {p : Result ℕ Refusal × List ℕ} → p ≡ laid_down o (ruled_by build (whole (length ws) (tree_in what ws pairs)) (rules_of rules pairs text)) → p ≡ laid_down o (whole_rebuilt what ws pairs text rules)
    asked e = e ∙ ap (laid_down o) (rebuilt-tree what ws pairs text rules)

    pub whole-stops : {k : Refusal} → s ≡ Err k → ◌≡◌ {A = Result ℕ Refusal × List ℕ} (Err k, o) (laid_down o (whole_rebuilt what ws pairs text rules))
    whole-stops e = asked (tree-stops build o (length ws) (tree_in what ws pairs) (rules_of rules pairs text) (scan-stop (tree_in what ws pairs) accepts e))

    module _ {n : ℕ} (e : s ≡ Ok n) where
      reads : EndsAt (tree_in what ws pairs) n
      reads = end-got (tree_in what ws pairs) accepts e

      pub whole-over : (n ≡ length ws → ⊥) → ◌≡◌ {A = Result ℕ Refusal × List ℕ} (Err LeftOver, o) (laid_down o (whole_rebuilt what ws pairs text rules))
      whole-over d = asked (tree_over build o (length ws) (tree_in what ws pairs) (rules_of rules pairs text) reads.reads d)

      pub whole-refused : {k : Refusal} → n ≡ length ws → rules_of rules pairs text ≡ Err k → ◌≡◌ {A = Result ℕ Refusal × List ℕ} (Err k, o) (laid_down o (whole_rebuilt what ws pairs text rules))
      whole-refused d c = asked (rules-stop-it build o (length ws) (tree_in what ws pairs) (rules_of rules pairs text) reads.reads d c)

      pub whole-answered : {o' : List ℕ} {r : Result ℕ Refusal} → n ≡ length ws → rules_of rules pairs text ≡ Ok (rule_list (rules_of rules pairs text))
          → Fills (laid_by what ws pairs (mapping rules pairs text)) o o' r → (r, o') ≡ laid_down o (whole_rebuilt what ws pairs text rules)
      unfolding mapping
      whole-answered {o'} {r} d c f =
          asked (whole-filled build (length ws) (tree_in what ws pairs) (rules_of rules pairs text) reads.reads d c
          (subst (λ x. Fills x o o' r) (laid-tree what ws pairs (mapping rules pairs text)) f))
