-- What holds of every type that is read holds of all types of a declaration that is read: none is too deep, and those that a mapping leaves alone come back.
use Prim.Native.Nat.{ℕ, zero, suc, ◌≤◌}
use mathlib.Core.Path.{◌≡◌, refl, subst}
use mathlib.Core.Bool.{Bool, true, false}
use mathlib.Core.List.{List, [], ◌∷◌, ◌++◌}
use native.Mathlib.Omega.{arith}
use lib.Dec.{eqb}
use lib.ListN.{length}
use Rattle.rast.specs.Tree.{Ty}
use Rattle.rast.specs.Declaration.{Attribute, TypeParamDecl, NamedFields, NamelessFields, Use, Declaration, StructDecl, EnumDecl, TypeDecl, UseDecl}
use Rattle.encoding.specs.declared.Refusal.TheVariants.{UnknownWord}
use Rattle.encoding.specs.Refusals.{pick}
use Rattle.encoding.specs.Reading.{Reading, got, stop, ◌>>=◌, read_word, read_below}
use Rattle.encoding.specs.Tables.{name_count}
use Rattle.encoding.proofs.Inside.{Holds, holds_on}
use Rattle.encoding.specs.Forms.{present}
use Rattle.encoding.specs.Declarations.{read_list, read_counted, read_visibility, read_name, read_attribute, read_parameter, read_formal, read_field, read_nameless_field, read_fields, read_case, read_struct, read_enum, read_type_synonym, read_use, declaration_after, read_declaration}
use Rattle.tree_words.specs.Encode.{Token}
use Rattle.tree_words.specs.Numbered.{tree_at}
use Rattle.rebuild_spec.specs.Laying.{depth}
use Rattle.rebuild_spec.proofs.Depths.{tree-deep}
use Rattle.declaration_walk.specs.Pieces.{Piece, own, type, runs, own_pieces, title_tokens, use_tokens, counted, type_piece, parameter_pieces, field_pieces, nameless_pieces, fields_pieces, case_pieces, heading, front, rest, pieces}
use Rattle.declaration_walk.proofs.Openings.{title_then}
use Rattle.rebuild_declaration.specs.Laying.{deepest_piece}
use Rattle.rebuild_declaration.specs.Calls.{declaration_in}
use Rattle.encoding.specs.Words.{max_depth}
use Rattle.encoding.specs.Forms.{plain}
use Rattle.declaration_walk.specs.declared.Role.{Role}
use Rattle.declaration_walk.specs.declared.Role.TheVariants.{Constraint, StructField, CaseField, Aliased}

-- P of every type among some pieces
abbrev pub Every : (Ty ℕ → Type 0) → List (Piece ℕ) → Type 0
Every P [] = Unit {0}
Every P (own k ∷ ps) = Every P ps
Every P (type a t ∷ ps) = P t × Every P ps

every_append : (P : Ty ℕ → Type 0) (ps qs : List (Piece ℕ)) → Every P ps → Every P qs → Every P (ps ++ qs)
every_append P [] qs h k = k
every_append P (own x ∷ ps) qs h k = every_append P ps qs h k
every_append P (type a t ∷ ps) qs h k = (h.0, every_append P ps qs h.1 k)

every-owned : (P : Ty ℕ → Type 0) (ks : List (Token ℕ)) → Every P (own_pieces ks)
every-owned P [] = tt
every-owned P (k ∷ ks) = every-owned P ks

-- Q of what is read first, if anything is, and then R of the rest; or nothing of what is read first
then : {A B : Type 0} {Q : A → Type 0} (R : B → Type 0) (x : Reading A) (f : A → ℕ → Reading B) → Holds (λ a n. Q a) x → ((a : A) (n : ℕ) → Q a → Holds (λ b n. R b) (f a n)) → Holds (λ b n. R b) (x >>= f)
then {Q = Q} R x f h k = holds_on (λ a n. Q a) (λ b n. R b) x f h k

past : {A B : Type 0} (R : B → Type 0) (x : Reading A) (f : A → ℕ → Reading B) → ((a : A) (n : ℕ) → Holds (λ b n. R b) (f a n)) → Holds (λ b n. R b) (x >>= f)
past R (got a n) f h = h a n
past R (stop r) f h = tt

module _ (ws pairs : List ℕ) (P : Ty ℕ → Type 0) (read : (p : ℕ) (t : Ty ℕ) (n : ℕ) → tree_at ws pairs p ≡ got t n → P t) where
  -- P of all types among the pieces that f gives
  abbrev by : {A : Type 0} → (A → List (Piece ℕ)) → A → Type 0
  by f a = Every P (f a)

  -- what is read has Q
  abbrev Shows : {A : Type 0} → (A → Type 0) → Reading A → Type 0
  Shows Q x = Holds (λ a n. Q a) x

  abbrev nm : ℕ → ℕ
  nm x = x

  abbrev b : ℕ
  b = name_count pairs

  abbrev ty : ℕ → Reading (Ty ℕ)
  ty = tree_at ws pairs

  types : (a : Role) (p : ℕ) → Shows (by (type_piece a)) (ty p)
  types a p = go (ty p) (read p)
    where
      go : (x : Reading (Ty ℕ)) → ((t : Ty ℕ) (n : ℕ) → x ≡ got t n → P t) → Shows (by (type_piece a)) x
      go (got t n) h = (h t n refl, tt)
      go (stop r) h = tt

  each : {A : Type 0} (f : A → List (Piece ℕ)) (item : ℕ → Reading A) → ((p : ℕ) → Shows (by f) (item p)) → (n p : ℕ) → Shows (by (runs f)) (read_list item n p)
  unfolding read_list runs
  each f item h zero p = tt
  each f item h (suc n) p =
      then (by (runs f)) (item p) _ (h p) λ x q i. then (by (runs f)) (read_list item n q) _ (each f item h n q) λ xs r j.
      every_append P (f x) (runs f xs) i j

  some : {A : Type 0} (f : A → List (Piece ℕ)) (item : ℕ → Reading A) → ((p : ℕ) → Shows (by f) (item p)) → (p : ℕ) → Shows (by (runs f)) (read_counted ws item p)
  unfolding read_counted
  some f item h p = past (by (runs f)) (read_word ws p) _ λ n q. each f item h n q

  parameters : (p : ℕ) → Shows (by (parameter_pieces plain Constraint)) (read_parameter present b ws nm ty p)
  unfolding read_parameter parameter_pieces counted
  parameters p = past _ (read_name b ws nm ty p) _ λ x q. then _ (read_counted ws ty q) _ (some (type_piece Constraint) ty (types Constraint) q) λ ts r h. h

  formals : (a : Role) (p : ℕ) → Shows (λ f. Every P (type_piece a f.tpe)) (read_formal b ws nm ty p)
  unfolding read_formal
  formals a p = past _ (read_name b ws nm ty p) _ λ x q. then _ (ty q) _ (types a q) λ t r h. h

  fields : (a : Role) (p : ℕ) → Shows (by (field_pieces a)) (read_field b ws nm ty p)
  unfolding read_field field_pieces
  fields a p = past _ (read_visibility ws p) _ λ v q. then _ (read_formal b ws nm ty q) _ (formals a q) λ f r h. h

  nameless : (a : Role) (p : ℕ) → Shows (by (nameless_pieces a)) (read_nameless_field b ws nm ty p)
  unfolding read_nameless_field nameless_pieces
  nameless a p = past _ (read_visibility ws p) _ λ v q. then _ (ty q) _ (types a q) λ t r h. h

  field-lists : (a : Role) (p : ℕ) → Shows (by (fields_pieces a)) (read_fields b ws nm ty p)
  unfolding read_fields fields_pieces counted
  field-lists a p = past _ (read_below 2 ws p) _ λ k q. go (eqb k 0) q
    where
      go : (t : Bool) (q : ℕ) → Shows (by (fields_pieces a)) (pick t (read_counted ws (read_field b ws nm ty) q >>= λ xs r. got (NamedFields xs) r) (read_counted ws (read_nameless_field b ws nm ty) q >>= λ xs r. got (NamelessFields xs) r))
      go true q = then _ (read_counted ws (read_field b ws nm ty) q) _ (some (field_pieces a) (read_field b ws nm ty) (fields a) q) λ xs r h. h
      go false q = then _ (read_counted ws (read_nameless_field b ws nm ty) q) _ (some (nameless_pieces a) (read_nameless_field b ws nm ty) (nameless a) q) λ xs r h. h

  cases : (p : ℕ) → Shows (by case_pieces) (read_case b ws nm ty p)
  unfolding read_case case_pieces
  cases p = past _ (read_name b ws nm ty p) _ λ d q. past _ (read_name b ws nm ty q) _ λ x r. then _ (read_fields b ws nm ty r) _ (field-lists CaseField r) λ fs s h. h

  -- ---- declarations

  -- a title, and what follows it
  titled : {B : Type 0} (R : B → Type 0) (last : ℕ → List (Attribute ℕ) → ℕ → List (TypeParamDecl ℕ) → ℕ → Reading B)
      → ((d : ℕ) (l : List (Attribute ℕ)) (x : ℕ) (ps : List (TypeParamDecl ℕ)) (v : ℕ) → Every P (runs (parameter_pieces plain Constraint) ps) → Shows R (last d l x ps v))
      → (p : ℕ) → Shows R (title_then b ws nm ty last p)
  titled R last h p =
      past R (read_name b ws nm ty p) _ λ d q. past R (read_counted ws (read_attribute b ws nm ty) q) _ λ l r. past R (read_name b ws nm ty r) _ λ x s.
      then R (read_counted ws (read_parameter present b ws nm ty) s) _ (some (parameter_pieces plain Constraint) (read_parameter present b ws nm ty) parameters s) (h d l x)

  headed : (k d : ℕ) (l : List (Attribute ℕ)) (x : ℕ) (ps : List (TypeParamDecl ℕ)) (qs : List (Piece ℕ)) → Every P (runs (parameter_pieces plain Constraint) ps) → Every P qs
      → Every P (heading present k d l x ps ++ qs)
  unfolding heading
  headed k d l x ps qs h i =
      let o = own_pieces (title_tokens k d l x (length ps)) in
      every_append P (o ++ runs (parameter_pieces plain Constraint) ps) qs (every_append P o (runs (parameter_pieces plain Constraint) ps) (every-owned P (title_tokens k d l x (length ps))) h) i

  structs : (p : ℕ) → Shows (λ s. Every P (pieces present (StructDecl s))) (read_struct present b ws nm ty p)
  unfolding read_struct pieces front rest
  structs p = titled _ _ (λ d l x ps v h. then _ (read_fields b ws nm ty v) _ (field-lists StructField v) λ fs t i. headed present.struct_head d l x ps (fields_pieces StructField fs) h i) p

  enums : (p : ℕ) → Shows (λ e. Every P (pieces present (EnumDecl e))) (read_enum present b ws nm ty p)
  unfolding read_enum pieces front rest counted
  enums p =
      titled _ _ (λ d l x ps v h.
      then _ (read_counted ws (read_case b ws nm ty) v) _ (some case_pieces (read_case b ws nm ty) cases v) λ cs t i. headed present.enum_head d l x ps (counted case_pieces cs) h i) p

  synonyms : (p : ℕ) → Shows (λ t. Every P (pieces present (TypeDecl t))) (read_type_synonym present b ws nm ty p)
  unfolding read_type_synonym pieces front rest
  synonyms p = titled _ _ (λ d l x ps v h. then _ (ty v) _ (types Aliased v) λ t u i. headed present.synonym_head d l x ps (type_piece Aliased t) h i) p

  uses : (u : Use ℕ) → Every P (pieces present (UseDecl u))
  unfolding pieces front rest
  uses u = every_append P (own_pieces (use_tokens present.use_head u)) [] (every-owned P (use_tokens present.use_head u)) tt

  declarations : Shows (by (pieces present)) (declaration_in ws pairs)
  unfolding read_declaration declaration_after
  declarations = past _ (read_word ws 0) _ λ w p. go (eqb w present.struct_head) (eqb w present.enum_head) (eqb w present.synonym_head) (eqb w present.use_head) p
    where
      go : (c d e f : Bool) (p : ℕ)
          → Shows (by (pieces present)) (pick c (read_struct present b ws nm ty p >>= λ s q. got (StructDecl s) q) (pick d (read_enum present b ws nm ty p >>= λ e q. got (EnumDecl e) q) (pick e (read_type_synonym present b ws nm ty p >>= λ t q. got (TypeDecl t) q) (pick f (read_use b ws nm ty p >>= λ u q. got (UseDecl u) q) (stop UnknownWord)))))
      go true d e f p = then _ (read_struct present b ws nm ty p) _ (structs p) λ s q h. h
      go false true e f p = then _ (read_enum present b ws nm ty p) _ (enums p) λ s q h. h
      go false false true f p = then _ (read_type_synonym present b ws nm ty p) _ (synonyms p) λ t q h. h
      go false false false true p = past _ (read_use b ws nm ty p) _ λ u q. uses u
      go false false false false p = tt

  pub each-type : {d : Declaration ℕ} {n : ℕ} → declaration_in ws pairs ≡ got d n → Every P (pieces present d)
  each-type {d} {n} e = subst (Shows (by (pieces present))) e declarations

-- ---- depths

none_deep : (ps : List (Piece ℕ)) → Every (λ t. depth t ≤ max_depth) ps → deepest_piece ps ≤ max_depth
unfolding deepest_piece
none_deep [] h = omega arith
none_deep (own k ∷ ps) h = none_deep ps h
none_deep (type a t ∷ ps) h = let k = none_deep ps h.1 in omega (arith, h.0, k)

pub declaration-deep : (ws pairs : List ℕ) {d : Declaration ℕ} {n : ℕ} → declaration_in ws pairs ≡ got d n → deepest_piece (pieces present d) ≤ max_depth
declaration-deep ws pairs {d} e = none_deep (pieces present d) (each-type ws pairs (λ t. depth t ≤ max_depth) (λ p t n i. tree-deep ws pairs p i) e)
