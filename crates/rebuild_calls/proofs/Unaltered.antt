-- Where a mapping leaves every type alone that stands in the words of an encoding, as one by no rules does, these come back unaltered.
use Rattle.encoding.specs.declared.Refusal.{Refusal}
use Rattle.std.specs.Prelude.{Ok, Result}
use Prim.Native.Nat.{ℕ}
use mathlib.Core.Path.{◌≡◌, refl, ap, sym, ◌∙◌, subst}
use mathlib.Core.List.{List, [], ◌∷◌, map}
use native.Mathlib.Omega.{arith}
use mathlib.Core.Bool.{true}
use lib.ListN.{length}
use Rattle.rast.specs.Bytes.{Bytes}
use Rattle.rast.specs.Tree.{Ty}
use Rattle.rast.specs.Declaration.{Declaration}
use Rattle.encoding.specs.Refusals.{unless}
use Rattle.encoding.specs.Reading.{Reading, got, read_below, read_word, whole}
use Rattle.encoding.specs.Scans.{ended}
use Rattle.encoding.specs.Tables.{check_tables, name_bytes}
use Rattle.encoding.specs.Declarations.{read_list}
use Rattle.encoding.proofs.Answers.{given-whole}
use Rattle.tree_words.specs.Encode.{encode, words}
use Rattle.tree_words.specs.Runs.{Run}
use Rattle.tree_words.specs.Numbered.{tree_at, tree_of}
use Rattle.tree_words.proofs.Renaming.{tree-run, encode-words}
use Rattle.rebuild_spec.specs.Replace.{Replace, ruled}
use Rattle.rebuild_spec.specs.Laying.{depth}
use Rattle.rebuild_spec.specs.Rules.{read_rules, repeated, distinct, check_all, rules_of, mapping_of}
use Rattle.rebuild_spec.proofs.Depths.{tree-deep}
use Rattle.rebuild_spec.proofs.Still.{Kept, still}
use Rattle.rebuild_rules.specs.Table.{none_stands}
use Rattle.rebuild_rules.proofs.Lists.{check-tables}
use Rattle.rebuild_rules.proofs.Nowhere.{none-gives-way}
use Rattle.rebuild_type.specs.Laid.{rule_list, mapping, Ruled}
use Rattle.rebuild_type.specs.Calls.{RebuiltWords, laid_down, laid_type, ruled_by, type_rebuilt}
use Rattle.rebuild_type.specs.Attempts.{same_words, Fills}
use Rattle.rebuild_type.proofs.Calls.{both-given, copied-fills, run-whole}
use Rattle.accept_declaration.specs.Ends.{held_at}
use Rattle.declaration_walk.specs.Pieces.{Piece, own, type, pieces, declaration_tokens, encode_declaration}
use Rattle.declaration_walk.specs.Mapped.{piece_with}
use Rattle.declaration_walk.proofs.Encoded.{declaration-run}
use Rattle.rebuild_declaration.specs.Laying.{deepest_piece, top_pieces}
use Rattle.rebuild_declaration.specs.Steps.{encode_pieces}
use Rattle.rebuild_declaration.specs.Calls.{declaration_in, laid_declaration, declaration_rebuilt}
use Rattle.rebuild_declaration.proofs.Pieces.{encode-none, encode-own, encode-type, declaration-words, declaration-depth}
use Rattle.accept_declaration.specs.declared.Whole.{Whole}
use Rattle.accept_declaration.specs.declared.Whole.TheVariants.{AType, ADeclaration}
use Rattle.rebuild_calls.specs.Wholes.{laid_by, whole_rebuilt}
use Rattle.rebuild_calls.proofs.Wholes.{tree-got, laid-ends, whole-answered}
use Rattle.rebuild_calls.proofs.EachType.{Every, each-type, declaration-deep}
use Rattle.encoding.specs.Forms.{present}

-- a list of no rules
no-rules : (pairs : List ℕ) (text : Bytes) → rules_of (0 ∷ []) pairs text ≡ Ok []
unfolding rules_of read_rules read_below read_word read_list whole distinct repeated
no-rules pairs text = refl

-- ---- types and declarations

alike : {v w : List ℕ} {s t m n : ℕ} → v ≡ w → s ≡ t → m ≡ n → ◌≡◌ {A = RebuiltWords} (record { words = v; top = s; deep = m }) (record { words = w; top = t; deep = n })
alike e f g = rw (e, f, g) refl

module _ (m : Ty ℕ → Ty ℕ) where
  pieces_kept : (ps : List (Piece ℕ)) → Every (Kept m) ps → map (piece_with (Replace m)) ps ≡ ps
  unfolding piece_with
  pieces_kept [] h = refl
  pieces_kept (own k ∷ ps) h = ap (◌∷◌ (own k)) (pieces_kept ps h)
  pieces_kept (type a t ∷ ps) h = ap (λ (u : Ty ℕ). type a u ∷ map (piece_with (Replace m)) ps) h.0.replaced ∙ ap (◌∷◌ (type a t)) (pieces_kept ps h.1)

  top_kept : (ps : List (Piece ℕ)) → Every (Kept m) ps → top_pieces m ps ≡ length (encode_pieces ps)
  unfolding top_pieces
  top_kept [] h = sym encode-none
  top_kept (own k ∷ ps) h = let i = top_kept ps h in omega (arith, i, encode-own k ps)
  top_kept (type a t ∷ ps) h = let i = top_kept ps h.1 in omega (arith, i, ap words h.0.replaced, h.0.peaked, encode-type a t ps)

  laid_kept : (d : Declaration ℕ) → Every (Kept m) (pieces present d) → laid_declaration m d ≡ same_words (encode_declaration present d) (deepest_piece (pieces present d))
  unfolding encode_declaration declaration_tokens encode_pieces
  laid_kept d h =
      alike (declaration-words m d ∙ ap encode_pieces (pieces_kept (pieces present d) h)) (top_kept (pieces present d) h) (declaration-depth m d ∙ ap deepest_piece (pieces_kept (pieces present d) h))

module _ (ws pairs : List ℕ) (m : Ty ℕ → Ty ℕ) (stays : (q : ℕ) (t : Ty ℕ) → Run ws q (encode t) → m t ≡ t) where
  type-kept : {t : Ty ℕ} → tree_at ws pairs 0 ≡ got t (length ws) → laid_type m t ≡ same_words ws (depth t)
  type-kept {t} e =
      let r = tree-run ws pairs 0 (omega arith) e in
      let w = run-whole r.0 (omega (arith, r.1, encode-words t)) in
      let k = still ws pairs m stays 0 e in
      alike (ap encode k.replaced ∙ w) (k.peaked ∙ (let z : words t ≡ length ws = omega (arith, r.1) in z)) (ap depth k.replaced)

  declaration-kept : {d : Declaration ℕ} → declaration_in ws pairs ≡ got d (length ws) → laid_declaration m d ≡ same_words ws (deepest_piece (pieces present d))
  declaration-kept {d} e =
      let r = declaration-run ws pairs 0 e in
      laid_kept m d (each-type ws pairs (Kept m) (λ p t n i. still ws pairs m stays p i) e) ∙ ap (λ l. same_words l (deepest_piece (pieces present d))) (run-whole r.0 (omega (arith, r.1)))

-- ---- the calls

-- so the words are copied
module _ (ws pairs : List ℕ) (m : Ty ℕ → Ty ℕ) (stays : (q : ℕ) (t : Ty ℕ) → Run ws q (encode t) → m t ≡ t) where
  pub unaltered-fills : (what : Whole) {o o' : List ℕ} {r : Result ℕ Refusal} → ended (laid_by what ws pairs m) ≡ Ok (length ws) → (r, o') ≡ laid_down o (Ok (same_words ws 0)) → Fills (laid_by what ws pairs m) o o' r
  unaltered-fills AType e h = let t = tree-got AType ws pairs m e in copied-fills (laid_type m) depth t.reads (tree-deep ws pairs 0 t.reads) (type-kept ws pairs m stays t.reads) h
  unaltered-fills ADeclaration e h =
      let d = tree-got ADeclaration ws pairs m e in
      copied-fills (laid_declaration m) (λ x. deepest_piece (pieces present x)) d.reads (declaration-deep ws pairs d.reads) (declaration-kept ws pairs m stays d.reads) h

-- ---- without rules

module _ (ws pairs : List ℕ) (text : Bytes) where
  none-given : (q : ℕ) (t : Ty ℕ) → Run ws q (encode t) → mapping_of pairs text [] t ≡ t
  unfolding mapping_of ruled
  none-given q t r = refl

  -- a tree that stays so is given by the words
  same-given : {A : Type 0} (build : (Ty ℕ → Ty ℕ) → A → RebuiltWords) (deep : A → ℕ) (x : Reading A) {a : A} → (x ≡ got a (length ws) → build (mapping_of pairs text []) a ≡ same_words ws (deep a))
      → unless (check_tables ws pairs text) (whole (length ws) x) ≡ Ok a
      → unless (check_all ws (0 ∷ []) pairs text) (ruled_by (λ rs. build (mapping_of pairs text rs)) (whole (length ws) x) (rules_of (0 ∷ []) pairs text)) ≡ Ok (same_words ws (deep a))
  unfolding unless
  same-given build deep x k e =
      let p = given-whole (check_tables ws pairs text) (length ws) x e in
      rw (check-tables ws (0 ∷ []) pairs text (omega arith), p.0)
      (both-given (λ rs. build (mapping_of pairs text rs)) [] (length ws) x (rules_of (0 ∷ []) pairs text) p.1 refl (no-rules pairs text) ∙ ap Ok (k p.1))

  pub unaltered : {t : Ty ℕ} → tree_of ws pairs text ≡ Ok t → type_rebuilt ws pairs text (0 ∷ []) ≡ Ok (same_words ws (depth t))
  unfolding tree_of type_rebuilt
  unaltered e = same-given laid_type depth (tree_at ws pairs 0) (type-kept ws pairs (mapping_of pairs text []) none-given) e

  pub unaltered-declaration : {d : Declaration ℕ} → unless (check_tables ws pairs text) (whole (length ws) (declaration_in ws pairs)) ≡ Ok d
      → declaration_rebuilt ws pairs text (0 ∷ []) ≡ Ok (same_words ws (deepest_piece (pieces present d)))
  unfolding declaration_rebuilt
  unaltered-declaration e = same-given laid_declaration (λ x. deepest_piece (pieces present x)) (declaration_in ws pairs) (declaration-kept ws pairs (mapping_of pairs text []) none-given) e

  pub copied : (what : Whole) {s : Result ℕ Refusal} → s ≡ ended (held_at what ws pairs text) → (o : List ℕ) {rules o' : List ℕ} {r : Result ℕ Refusal} {n : ℕ} → s ≡ Ok n → n ≡ length ws → rules ≡ 0 ∷ []
      → (r, o') ≡ laid_down o (Ok (same_words ws 0)) → (r, o') ≡ laid_down o (whole_rebuilt what ws pairs text rules)
  unfolding mapping rule_list
  copied what a o {o' = o'} {r = r} e i k h =
      let g : rules_of (0 ∷ []) pairs text ≡ Ok (rule_list (rules_of (0 ∷ []) pairs text)) = rw (no-rules pairs text) refl in
      let s : (q : ℕ) (t : Ty ℕ) → Run ws q (encode t) → mapping (0 ∷ []) pairs text t ≡ t = λ q t x. rw (no-rules pairs text) (none-given q t x) in
      let f = unaltered-fills ws pairs (mapping (0 ∷ []) pairs text) s what (laid-ends what ws pairs text a (mapping (0 ∷ []) pairs text) e i) h in
      subst (λ rs. (r, o') ≡ laid_down o (whole_rebuilt what ws pairs text rs)) (sym k) (whole-answered what ws pairs text a (0 ∷ []) o e i g f)

-- ---- with rules that match nowhere

pub none-match : {rules pairs table ws : List ℕ} {text : Bytes} {k : ℕ} → Ruled rules pairs text table k → none_stands (name_bytes pairs text) rules table k ws ≡ true
    → (q : ℕ) (t : Ty ℕ) → Run ws q (encode t) → mapping rules pairs text t ≡ t
unfolding mapping mapping_of
none-match {rules} {pairs} {table} {ws} {text} g e = none-gives-way (name_bytes pairs text) rules pairs table ws (rule_list (rules_of rules pairs text)) g.tabled (rw g.many e)
