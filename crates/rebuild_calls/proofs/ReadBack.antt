-- What a call that rebuilds has written is an encoding that is accepted, and holds the rebuilt tree.
use Rattle.std.specs.Prelude.{Ok}
use Prim.Native.Nat.{ℕ, ◌≤◌}
use mathlib.Core.Path.{◌≡◌, ap, sym, ◌∙◌, subst}
use mathlib.Core.List.{List, [], ◌∷◌, map}
use native.Mathlib.Omega.{arith}
use lib.ListN.{length}
use Rattle.rast.specs.Bytes.{Bytes}
use Rattle.rast.specs.Tree.{Ty}
use Rattle.encoding.specs.Words.{max_depth}
use Rattle.encoding.specs.Refusals.{unless}
use Rattle.encoding.specs.Reading.{whole}
use Rattle.encoding.specs.Tables.{check_tables, name_count}
use Rattle.encoding.specs.Forms.{present}
use Rattle.encoding.proofs.Answers.{given-whole}
use Rattle.tree_words.specs.Encode.{tokens}
use Rattle.tree_words.specs.Depths.{depth as word_depth}
use Rattle.tree_words.specs.Names.{NameBelow, NamesBelow}
use Rattle.tree_words.specs.Numbered.{tree_at, tree_of}
use Rattle.tree_words.proofs.Names.{each-join, type-names}
use Rattle.tree_words.proofs.ReadBack.{written-tree, written-type}
use Rattle.rebuild_spec.specs.Replace.{Replace}
use Rattle.rebuild_spec.specs.Rules.{check_all, rules_of, mapping_of}
use Rattle.rebuild_spec.specs.Laying.{depth}
use Rattle.rebuild_spec.proofs.Nodes.{peak-least}
use Rattle.rebuild_spec.proofs.SameDepths.{same-depth}
use Rattle.rebuild_spec.proofs.Names.{mapped-names}
use Rattle.rebuild_rules.proofs.Lists.{check-tables, all-passed}
use Rattle.rebuild_type.specs.Calls.{RebuiltWords, room_of, laid_type, type_rebuilt}
use Rattle.rebuild_type.proofs.Results.{ruled-given, laid-result}
use Rattle.declaration_walk.specs.Pieces.{Piece, own, type, runs, piece_tokens, pieces, declaration_tokens}
use Rattle.declaration_walk.specs.Mapped.{piece_with}
use Rattle.declaration_walk.specs.Numbered.{numbered_of}
use Rattle.declaration_walk.proofs.EachPiece.{Every, EveryType, each-piece}
use Rattle.declaration_walk.proofs.ReadBack.{written-numbered, written-declaration}
use Rattle.rebuild_declaration.specs.Replacer.{ReplaceModDecl}
use Rattle.rebuild_declaration.specs.Laying.{deepest_piece}
use Rattle.rebuild_declaration.specs.Calls.{declaration_in, laid_declaration, declaration_rebuilt}
use Rattle.rebuild_declaration.proofs.Pieces.{top-least, replaced-pieces, declaration-words}
use Rattle.rebuild_calls.specs.ReadBack.{HoldsType, HoldsDeclaration, TypeReadsBack, DeclarationReadsBack}

-- the tables of an encoding that is rebuilt pass
tables-pass : (words rules pairs : List ℕ) (text : Bytes) → check_all words rules pairs text ≡ Ok tt → check_tables words pairs text ≡ Ok tt
tables-pass words rules pairs text e = sym (check-tables words rules pairs text (all-passed words rules pairs text e).2) ∙ e

-- ---- types

-- a type that was rebuilt within the limits
pub type-read-back : (words pairs : List ℕ) (text : Bytes) (rules out : List ℕ) {b : RebuiltWords}
    → type_rebuilt words pairs text rules ≡ Ok b → b.top ≤ room_of out → b.deep ≤ max_depth → HoldsType words pairs text rules b.words
unfolding type_rebuilt tree_of unless
type-read-back words pairs text rules out {b} e l k =
    let r = ruled-given (λ rs. laid_type (mapping_of pairs text rs)) (check_all words rules pairs text) (whole (length words) (tree_at words pairs 0)) (rules_of rules pairs text) e in
    let t = r.value in
    let m = mapping_of pairs text r.list in
    let u = Replace m t in
    let p = tables-pass words rules pairs text r.passed in
    let g = given-whole (Ok tt) (length words) (tree_at words pairs 0) r.held in
    let known = mapped-names rules pairs text r.listed t (type-names (name_count pairs) words max_depth 0 t (length words) g.1) in
    let within : depth u ≤ max_depth = subst (λ (x : RebuiltWords). x.deep ≤ max_depth) r.made k in
    let shallow : word_depth u ≤ max_depth = omega (arith, within, same-depth u) in
    let few = peak-least m t in
    let top = subst (λ (x : RebuiltWords). x.top ≤ room_of out) r.made l in
    subst (λ (x : RebuiltWords). HoldsType words pairs text rules x.words) (sym r.made) (record {
      tree = t;
      list = r.list;
      held = rw p r.held;
      listed = r.listed;
      numbers = written-tree words pairs text p u known shallow (omega (arith, few, top));
      bytes = written-type words pairs text p u known shallow (omega (arith, few, top));
    })

pub type-reads-back : TypeReadsBack
type-reads-back words pairs text rules out n out' e =
    let r = laid-result out (type_rebuilt words pairs text rules) e in
    subst (HoldsType words pairs text rules) (sym r.words) (type-read-back words pairs text rules out r.gives r.fits r.shallow)

-- ---- declarations

-- the names of pieces whose types are rebuilt
rebuilt-names : (b : ℕ) (r : Ty ℕ → Ty ℕ) → ((t : Ty ℕ) → NamesBelow b (tokens t) → NamesBelow b (tokens (r t))) → (ps : List (Piece ℕ)) → Every (NameBelow b) (λ t. NamesBelow b (tokens t)) ps
    → NamesBelow b (runs piece_tokens (map (piece_with r) ps))
unfolding runs piece_tokens piece_with
rebuilt-names b r keeps [] h = tt
rebuilt-names b r keeps (own k ∷ ps) h = (h.0, rebuilt-names b r keeps ps h.1)
rebuilt-names b r keeps (type a t ∷ ps) h = each-join (NameBelow b) (tokens (r t)) (runs piece_tokens (map (piece_with r) ps)) (keeps t h.0) (rebuilt-names b r keeps ps h.1)

-- no type is deeper than the deepest
none-deeper : (deep : ℕ) (ps : List (Piece ℕ)) → deepest_piece ps ≤ deep → EveryType (λ t. word_depth t ≤ deep) ps
unfolding deepest_piece
none-deeper deep [] l = tt
none-deeper deep (own k ∷ ps) l = (tt, none-deeper deep ps l)
none-deeper deep (type a t ∷ ps) l = (omega (arith, l, same-depth t), none-deeper deep ps (omega (arith, l)))

-- a declaration that was rebuilt within the limits
pub declaration-read-back : (words pairs : List ℕ) (text : Bytes) (rules out : List ℕ) {b : RebuiltWords}
    → declaration_rebuilt words pairs text rules ≡ Ok b → b.top ≤ room_of out → b.deep ≤ max_depth → HoldsDeclaration words pairs text rules b.words
unfolding declaration_rebuilt numbered_of unless declaration_tokens
declaration-read-back words pairs text rules out {b} e l k =
    let r = ruled-given (λ rs. laid_declaration (mapping_of pairs text rs)) (check_all words rules pairs text) (whole (length words) (declaration_in words pairs)) (rules_of rules pairs text) e in
    let d = r.value in
    let m = mapping_of pairs text r.list in
    let u = ReplaceModDecl m d in
    let p = tables-pass words rules pairs text r.passed in
    let g = given-whole (Ok tt) (length words) (declaration_in words pairs) r.held in
    let each = each-piece words pairs (NameBelow (name_count pairs)) (λ t. NamesBelow (name_count pairs) (tokens t)) (λ k h. h) (λ p t n i. type-names (name_count pairs) words max_depth p t n i) 0 g.1 in
    let known : NamesBelow (name_count pairs) (declaration_tokens present u) = rw (replaced-pieces m d) (rebuilt-names (name_count pairs) (Replace m) (mapped-names rules pairs text r.listed) (pieces present d) each) in
    let within : deepest_piece (pieces present u) ≤ max_depth = subst (λ (x : RebuiltWords). x.deep ≤ max_depth) r.made k in
    let shallow = none-deeper max_depth (pieces present u) within in
    let few = top-least m (pieces present d) in
    let same = ap length (declaration-words m d) in
    let top = subst (λ (x : RebuiltWords). x.top ≤ room_of out) r.made l in
    subst (λ (x : RebuiltWords). HoldsDeclaration words pairs text rules x.words) (sym r.made) (record {
      tree = d;
      list = r.list;
      held = rw p r.held;
      listed = r.listed;
      numbers = written-numbered words pairs text p u known shallow (omega (arith, few, same, top));
      bytes = written-declaration words pairs text p u known shallow (omega (arith, few, same, top));
    })

pub declaration-reads-back : DeclarationReadsBack
declaration-reads-back words pairs text rules out n out' e =
    let r = laid-result out (declaration_rebuilt words pairs text rules) e in
    subst (HoldsDeclaration words pairs text rules) (sym r.words) (declaration-read-back words pairs text rules out r.gives r.fits r.shallow)
