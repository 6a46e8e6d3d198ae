-- What holds of every own word and of every type that is read holds of all pieces of a declaration that is read: its names are in the table, say.
use Prim.Native.Nat.{ℕ, zero, suc}
use mathlib.Core.Path.{◌≡◌, refl, subst}
use mathlib.Core.Bool.{Bool, true, false}
use mathlib.Core.List.{List, [], ◌∷◌, ◌++◌, map}
use lib.Dec.{eqb}
use lib.ListN.{length}
use Rattle.rast.specs.Tree.{Ty}
use Rattle.rast.specs.Declaration.{Visibility, Attribute, TypeParamDecl, NamedFields, NamelessFields, Use, Declaration, StructDecl, EnumDecl, TypeDecl, UseDecl}
use Rattle.encoding.specs.declared.PathAt.{PathAt}
use Rattle.encoding.specs.declared.Refusal.TheVariants.{UnknownWord}
use Rattle.encoding.specs.Refusals.{pick}
use Rattle.encoding.specs.Reading.{Reading, got, stop, ◌>>=◌, read_word, read_below}
use Rattle.encoding.specs.Tables.{name_count}
use Rattle.encoding.specs.Heads.{read_path}
use Rattle.encoding.specs.Types.{path_of}
use Rattle.encoding.specs.Forms.{plain, present}
use Rattle.encoding.specs.Declarations.{read_list, read_counted, read_visibility, read_name, read_attribute, read_parameter, read_formal, read_field, read_nameless_field, read_fields, read_case, read_struct, read_enum, read_type_synonym, read_use, declaration_after, read_declaration}
use Rattle.encoding.proofs.Inside.{Holds, holds_on, below_holds, path-lies}
use Rattle.tree_words.specs.Encode.{Token, word, name, path_tokens}
use Rattle.tree_words.specs.Names.{NameBelow, Each}
use Rattle.tree_words.specs.Numbered.{tree_at}
use Rattle.tree_words.proofs.Names.{each-join, path-below}
use Rattle.declaration_walk.specs.declared.Role.{Role}
use Rattle.declaration_walk.specs.declared.Role.TheVariants.{Constraint, StructField, CaseField, Aliased}
use Rattle.declaration_walk.specs.Pieces.{Piece, own, type, visibility_word, runs, attribute_tokens, attributes_tokens, title_tokens, use_tokens, own_pieces, counted, type_piece, parameter_pieces, field_pieces, nameless_pieces, fields_pieces, case_pieces, heading, front, rest, pieces}
use Rattle.declaration_walk.proofs.Openings.{title_then}
use Rattle.declaration_walk.proofs.RenamedReading.{numbered_at}

-- O of an own word, P of a type
abbrev pub PieceHas : (Token ℕ → Type 0) → (Ty ℕ → Type 0) → Piece ℕ → Type 0
PieceHas O P (own k) = O k
PieceHas O P (type a t) = P t

-- of all of some pieces
abbrev pub Every : (Token ℕ → Type 0) → (Ty ℕ → Type 0) → List (Piece ℕ) → Type 0
Every O P ps = Each (PieceHas O P) ps

-- of all types among them
abbrev pub EveryType : (Ty ℕ → Type 0) → List (Piece ℕ) → Type 0
EveryType P ps = Every (λ k. Unit {0}) P ps

every-owned : (O : Token ℕ → Type 0) (P : Ty ℕ → Type 0) (ks : List (Token ℕ)) → Each O ks → Every O P (own_pieces ks)
every-owned O P [] h = tt
every-owned O P (k ∷ ks) h = (h.0, every-owned O P ks h.1)

-- Q of what is read first, if anything is, and then R of the rest; or nothing of what is read first
then : {A B : Type 0} {Q : A → Type 0} (R : B → Type 0) (x : Reading A) (f : A → ℕ → Reading B) → Holds (λ a n. Q a) x → ((a : A) (n : ℕ) → Q a → Holds (λ b n. R b) (f a n)) → Holds (λ b n. R b) (x >>= f)
then {Q = Q} R x f h k = holds_on (λ a n. Q a) (λ b n. R b) x f h k

past : {A B : Type 0} (R : B → Type 0) (x : Reading A) (f : A → ℕ → Reading B) → ((a : A) (n : ℕ) → Holds (λ b n. R b) (f a n)) → Holds (λ b n. R b) (x >>= f)
past R (got a n) f h = h a n
past R (stop r) f h = tt

module _ (ws pairs : List ℕ) (O : Token ℕ → Type 0) (P : Ty ℕ → Type 0) (known : (k : Token ℕ) → NameBelow (name_count pairs) k → O k)
    (read : (p : ℕ) (t : Ty ℕ) (n : ℕ) → tree_at ws pairs p ≡ got t n → P t) where
  -- all among the pieces that f gives
  abbrev by : {A : Type 0} → (A → List (Piece ℕ)) → A → Type 0
  by f a = Every O P (f a)

  -- all words that f gives
  abbrev words : {A : Type 0} → (A → List (Token ℕ)) → A → Type 0
  words f a = Each O (f a)

  -- what is read has Q
  abbrev Shows : {A : Type 0} → (A → Type 0) → Reading A → Type 0
  Shows Q x = Holds (λ a n. Q a) x

  abbrev nm : ℕ → ℕ
  nm x = x

  abbrev b : ℕ
  b = name_count pairs

  abbrev ty : ℕ → Reading (Ty ℕ)
  ty = tree_at ws pairs

  known-all : (ks : List (Token ℕ)) → Each (NameBelow b) ks → Each O ks
  known-all [] h = tt
  known-all (k ∷ ks) h = (known k h.0, known-all ks h.1)

  numbers : (n : ℕ) → O (word n)
  numbers n = known (word n) tt

  types : (a : Role) (p : ℕ) → Shows (by (type_piece a)) (ty p)
  types a p = go (ty p) (read p)
    where
      go : (x : Reading (Ty ℕ)) → ((t : Ty ℕ) (n : ℕ) → x ≡ got t n → P t) → Shows (by (type_piece a)) x
      go (got t n) h = (h t n refl, tt)
      go (stop r) h = tt

  abbrev one : ℕ → List (Token ℕ)
  one x = name x ∷ []

  named : (p : ℕ) → Shows (words one) (read_name b ws nm ty p)
  unfolding read_name
  named p = holds_on _ _ (read_below b ws p) _ (below_holds b ws p) λ x n h. (known (name x) h.below, tt)

  -- lists, each item by pieces or by words
  each : {A B : Type 0} (Q : B → Type 0) (f : A → List B) (item : ℕ → Reading A) → ((p : ℕ) → Shows (λ a. Each Q (f a)) (item p)) → (n p : ℕ) → Shows (λ xs. Each Q (runs f xs)) (read_list item n p)
  unfolding read_list runs
  each Q f item h zero p = tt
  each Q f item h (suc n) p =
      then (λ xs. Each Q (runs f xs)) (item p) _ (h p) λ x q i. then (λ xs. Each Q (runs f xs)) (read_list item n q) _ (each Q f item h n q) λ xs r j.
      each-join Q (f x) (runs f xs) i j

  some : {A B : Type 0} (Q : B → Type 0) (f : A → List B) (item : ℕ → Reading A) → ((p : ℕ) → Shows (λ a. Each Q (f a)) (item p)) → (p : ℕ) → Shows (λ xs. Each Q (runs f xs)) (read_counted ws item p)
  unfolding read_counted
  some Q f item h p = past _ (read_word ws p) _ λ n q. each Q f item h n q

  attribute : (p : ℕ) → Shows (words attribute_tokens) (read_attribute b ws nm ty p)
  unfolding read_attribute attribute_tokens runs
  attribute p =
      then _ (read_name b ws nm ty p) _ (named p) λ x q h. then _ (read_counted ws (read_name b ws nm ty) q) _ (some O one (read_name b ws nm ty) named q) λ xs r i. (h.0, (numbers (length xs), singles xs i))
    where
      singles : (xs : List ℕ) → Each O (runs one xs) → Each O (map name xs)
      singles [] h = tt
      singles (x ∷ xs) h = (h.0, singles xs h.1)

  attributes : (p : ℕ) → Shows (words attributes_tokens) (read_counted ws (read_attribute b ws nm ty) p)
  unfolding attributes_tokens
  attributes p = go (read_counted ws (read_attribute b ws nm ty) p) (some O attribute_tokens (read_attribute b ws nm ty) attribute p)
    where
      go : (x : Reading (List (Attribute ℕ))) → Shows (λ l. Each O (runs attribute_tokens l)) x → Shows (words attributes_tokens) x
      go (got l n) h = (numbers (length l), h)
      go (stop r) h = tt

  parameters : (p : ℕ) → Shows (by (parameter_pieces plain Constraint)) (read_parameter present b ws nm ty p)
  unfolding read_parameter parameter_pieces counted
  parameters p =
      then _ (read_name b ws nm ty p) _ (named p) λ x q h. then _ (read_counted ws ty q) _ (some (PieceHas O P) (type_piece Constraint) ty (types Constraint) q) λ ts r i.
      (h.0, (numbers (length ts), i))

  visible : (v : Visibility) → O (word (visibility_word v))
  visible v = numbers (visibility_word v)

  formals : (a : Role) (p : ℕ) → Shows (λ f. O (name f.name) × Every O P (type_piece a f.tpe)) (read_formal b ws nm ty p)
  unfolding read_formal
  formals a p = then _ (read_name b ws nm ty p) _ (named p) λ x q h. then _ (ty q) _ (types a q) λ t r i. (h.0, i)

  fields : (a : Role) (p : ℕ) → Shows (by (field_pieces a)) (read_field b ws nm ty p)
  unfolding read_field field_pieces
  fields a p = past _ (read_visibility ws p) _ λ v q. then _ (read_formal b ws nm ty q) _ (formals a q) λ f r h. (visible v, h)

  nameless : (a : Role) (p : ℕ) → Shows (by (nameless_pieces a)) (read_nameless_field b ws nm ty p)
  unfolding read_nameless_field nameless_pieces
  nameless a p = past _ (read_visibility ws p) _ λ v q. then _ (ty q) _ (types a q) λ t r h. (visible v, h)

  field-lists : (a : Role) (p : ℕ) → Shows (by (fields_pieces a)) (read_fields b ws nm ty p)
  unfolding read_fields fields_pieces counted
  field-lists a p = past _ (read_below 2 ws p) _ λ k q. go (eqb k 0) q
    where
      go : (t : Bool) (q : ℕ) → Shows (by (fields_pieces a)) (pick t (read_counted ws (read_field b ws nm ty) q >>= λ xs r. got (NamedFields xs) r) (read_counted ws (read_nameless_field b ws nm ty) q >>= λ xs r. got (NamelessFields xs) r))
      go true q = then _ (read_counted ws (read_field b ws nm ty) q) _ (some (PieceHas O P) (field_pieces a) (read_field b ws nm ty) (fields a) q) λ xs r h. (numbers 0, (numbers (length xs), h))
      go false q = then _ (read_counted ws (read_nameless_field b ws nm ty) q) _ (some (PieceHas O P) (nameless_pieces a) (read_nameless_field b ws nm ty) (nameless a) q) λ xs r h. (numbers 1, (numbers (length xs), h))

  cases : (p : ℕ) → Shows (by case_pieces) (read_case b ws nm ty p)
  unfolding read_case case_pieces
  cases p =
      then _ (read_name b ws nm ty p) _ (named p) λ d q h. then _ (read_name b ws nm ty q) _ (named q) λ x r i. then _ (read_fields b ws nm ty r) _ (field-lists CaseField r) λ fs s j.
      (h.0, (i.0, j))

  -- ---- declarations

  -- a title with its parameters
  abbrev Titled : ℕ → List (Attribute ℕ) → ℕ → List (TypeParamDecl ℕ) → Type 0
  Titled d l x ps = (k : ℕ) → Every O P (heading present k d l x ps)

  headed : (d : ℕ) (l : List (Attribute ℕ)) (x : ℕ) (ps : List (TypeParamDecl ℕ)) → O (name d) → Each O (attributes_tokens l) → O (name x) → Every O P (runs (parameter_pieces plain Constraint) ps) → Titled d l x ps
  unfolding heading title_tokens
  headed d l x ps h i j m k =
      let ks = title_tokens k d l x (length ps) in
      let own : Each O ks = (numbers k, (h, each-join O (attributes_tokens l) (name x ∷ word (length ps) ∷ []) i (j, (numbers (length ps), tt)))) in
      each-join (PieceHas O P) (own_pieces ks) (runs (parameter_pieces plain Constraint) ps) (every-owned O P ks own) m

  -- and what follows it
  titled : {B : Type 0} (R : B → Type 0) (last : ℕ → List (Attribute ℕ) → ℕ → List (TypeParamDecl ℕ) → ℕ → Reading B)
      → ((d : ℕ) (l : List (Attribute ℕ)) (x : ℕ) (ps : List (TypeParamDecl ℕ)) (v : ℕ) → Titled d l x ps → Shows R (last d l x ps v)) → (p : ℕ) → Shows R (title_then b ws nm ty last p)
  titled R last h p =
      then R (read_name b ws nm ty p) _ (named p) λ d q i. then R (read_counted ws (read_attribute b ws nm ty) q) _ (attributes q) λ l r j. then R (read_name b ws nm ty r) _ (named r) λ x s k.
      then R (read_counted ws (read_parameter present b ws nm ty) s) _ (some (PieceHas O P) (parameter_pieces plain Constraint) (read_parameter present b ws nm ty) parameters s) λ ps v m.
      h d l x ps v (headed d l x ps i.0 j k.0 m)

  structs : (p : ℕ) → Shows (λ s. by (pieces present) (StructDecl s)) (read_struct present b ws nm ty p)
  unfolding read_struct pieces front rest
  structs p =
      titled _ _ (λ d l x ps v h.
      then _ (read_fields b ws nm ty v) _ (field-lists StructField v) λ fs t i.
      each-join (PieceHas O P) (heading present present.struct_head d l x ps) (fields_pieces StructField fs) (h present.struct_head) i) p

  enums : (p : ℕ) → Shows (λ e. by (pieces present) (EnumDecl e)) (read_enum present b ws nm ty p)
  unfolding read_enum pieces front rest counted
  enums p =
      titled _ _ (λ d l x ps v h.
      then _ (read_counted ws (read_case b ws nm ty) v) _ (some (PieceHas O P) case_pieces (read_case b ws nm ty) cases v) λ cs t i.
      each-join (PieceHas O P) (heading present present.enum_head d l x ps) (counted case_pieces cs) (h present.enum_head) (numbers (length cs), i)) p

  synonyms : (p : ℕ) → Shows (λ t. by (pieces present) (TypeDecl t)) (read_type_synonym present b ws nm ty p)
  unfolding read_type_synonym pieces front rest
  synonyms p =
      titled _ _ (λ d l x ps v h. then _ (ty v) _ (types Aliased v) λ t u i. each-join (PieceHas O P) (heading present present.synonym_head d l x ps) (type_piece Aliased t) (h present.synonym_head) i) p

  uses : (p : ℕ) → Shows (λ u. by (pieces present) (UseDecl u)) (read_use b ws nm ty p)
  unfolding read_use pieces front rest use_tokens
  uses p = past _ (read_visibility ws p) _ λ v q. go v q (read_path b ws q) (λ x n e. path-below b ws x (path-lies b ws q e).own)
    where
      go : (v : Visibility) (q : ℕ) (y : Reading PathAt) → ((x : PathAt) (n : ℕ) → y ≡ got x n → Each (NameBelow b) (path_tokens (path_of ws nm x)))
          → Shows (λ (u : Use ℕ). Every O P (own_pieces (word present.use_head ∷ word (visibility_word u.visibility) ∷ path_tokens u.path) ++ [])) (y >>= λ x q. got (record { visibility = v; path = path_of ws nm x }) q)
      go v q (got x n) h =
          let ks = path_tokens (path_of ws nm x) in
          (numbers present.use_head, (visible v, each-join (PieceHas O P) (own_pieces ks) [] (every-owned O P ks (known-all ks (h x n refl))) tt))
      go v q (stop r) h = tt

  declarations : (p : ℕ) → Shows (by (pieces present)) (numbered_at ws pairs p)
  unfolding read_declaration declaration_after
  declarations p = past _ (read_word ws p) _ λ w q. go (eqb w present.struct_head) (eqb w present.enum_head) (eqb w present.synonym_head) (eqb w present.use_head) q
    where
      go : (c d e f : Bool) (p : ℕ)
          → Shows (by (pieces present)) (pick c (read_struct present b ws nm ty p >>= λ s q. got (StructDecl s) q) (pick d (read_enum present b ws nm ty p >>= λ e q. got (EnumDecl e) q) (pick e (read_type_synonym present b ws nm ty p >>= λ t q. got (TypeDecl t) q) (pick f (read_use b ws nm ty p >>= λ u q. got (UseDecl u) q) (stop UnknownWord)))))
      go true d e f p = then _ (read_struct present b ws nm ty p) _ (structs p) λ s q h. h
      go false true e f p = then _ (read_enum present b ws nm ty p) _ (enums p) λ s q h. h
      go false false true f p = then _ (read_type_synonym present b ws nm ty p) _ (synonyms p) λ t q h. h
      go false false false true p = then _ (read_use b ws nm ty p) _ (uses p) λ u q h. h
      go false false false false p = tt

  pub each-piece : (p : ℕ) {d : Declaration ℕ} {n : ℕ} → numbered_at ws pairs p ≡ got d n → Every O P (pieces present d)
  each-piece p e = subst (Shows (by (pieces present))) e (declarations p)

pub each-type : (ws pairs : List ℕ) (P : Ty ℕ → Type 0) → ((p : ℕ) (t : Ty ℕ) (n : ℕ) → tree_at ws pairs p ≡ got t n → P t) → (p : ℕ) {d : Declaration ℕ} {n : ℕ} → numbered_at ws pairs p ≡ got d n
    → EveryType P (pieces present d)
each-type ws pairs P read p e = each-piece ws pairs (λ k. Unit {0}) P (λ k h. tt) read p e
