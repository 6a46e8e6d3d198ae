-- The source's visitor of declarations is `FoldLeft` over the types visited.
use Prim.Native.Nat.{ℕ, ◌+◌}
use mathlib.Core.Path.{◌≡◌, refl, ap, sym, ◌∙◌}
use mathlib.Core.Bool.{Bool, true, false}
use mathlib.Core.List.{List, [], ◌∷◌, ◌++◌, map}
use Rattle.rast.specs.Tree.{Ty}
use Rattle.rast.specs.Declaration.{Attribute, TypeParamDecl, Fields, NamedFields, NamelessFields, EnumCase, Declaration, StructDecl, EnumDecl, TypeDecl, UseDecl}
use Rattle.encoding.specs.Refusals.{pick}
use Rattle.encoding.specs.Forms.{plain, present}
use Rattle.tree_words.specs.Encode.{Token, words}
use Rattle.tree_words.specs.Places.{Place}
use Rattle.declaration_walk.specs.declared.Role.TheVariants.{Constraint, StructField, CaseField, Aliased}
use Rattle.declaration_walk.specs.Pieces.{Piece, own, type, runs, own_pieces, title_tokens, use_tokens, counted, type_piece, parameter_pieces, field_pieces, nameless_pieces, fields_pieces, case_pieces, heading, front, rest, pieces}
use Rattle.visits.specs.Fold.{FoldLeft, Fold, VisitTypeParams, VisitFields, VisitModMapping}
use Rattle.visits.specs.Visited.{is_entered, visited_from, visited_pieces, visited_declaration}
use Rattle.visits.proofs.FoldLaws.{along, behind, from-visited}

-- nothing is done at each item
past_all : {A B : Type 0} (xs : List B) (acc : A) → FoldLeft (λ a x. a) acc xs ≡ acc
unfolding FoldLeft
past_all [] acc = refl
past_all (x ∷ xs) acc = past_all xs acc

module _ {N A : Type 0} (f : A → Ty N → A) where
  -- `Fold` at each type of a run of pieces that is entered
  unfoldable through : A → List (Piece N) → A
  through acc [] = acc
  through acc (own k ∷ ps) = through acc ps
  through acc (type r t ∷ ps) = through (pick (is_entered r) (Fold f acc t) acc) ps

  through-append : (acc : A) (ps qs : List (Piece N)) → through acc (ps ++ qs) ≡ through (through acc ps) qs
  unfolding through
  through-append acc [] qs = refl
  through-append acc (own k ∷ ps) qs = through-append acc ps qs
  through-append acc (type r t ∷ ps) qs = through-append (pick (is_entered r) (Fold f acc t) acc) ps qs

  through-owned : (acc : A) (ks : List (Token N)) (qs : List (Piece N)) → through acc (own_pieces ks ++ qs) ≡ through acc qs
  unfolding through
  through-owned acc [] qs = refl
  through-owned acc (k ∷ ks) qs = through-owned acc ks qs

  through-visited : (ps : List (Piece N)) (p : ℕ) (acc : A) → through acc ps ≡ along f acc (visited_pieces is_entered p ps)
  unfolding through visited_pieces FoldLeft
  through-visited [] p acc = refl
  through-visited (own k ∷ ps) p acc = through-visited ps (p + 1) acc
  through-visited (type r t ∷ ps) p acc = go (is_entered r) (λ a. through-visited ps (p + words t) a)
    where
      go : (b : Bool) → ((a : A) → through a ps ≡ along f a (visited_pieces is_entered (p + words t) ps))
          → through (pick b (Fold f acc t) acc) ps ≡ along f acc (pick b (visited_from p t) [] ++ visited_pieces is_entered (p + words t) ps)
      go true rest = behind f acc (visited_from p t) _ (from-visited f t acc p) (rest (Fold f acc t))
      go false rest = rest acc

  -- a list is gone through item by item
  through-runs : {B : Type 0} (g : B → List (Piece N)) (v : A → B → A) → ((acc : A) (x : B) → v acc x ≡ through acc (g x)) → (xs : List B) (acc : A)
      → FoldLeft v acc xs ≡ through acc (runs g xs)
  unfolding FoldLeft runs through
  through-runs g v h [] acc = refl
  through-runs g v h (x ∷ xs) acc =
      through-runs g v h xs (v acc x) ∙ ap (λ a. through a (runs g xs)) (h acc x) ∙ sym (through-append acc (g x) (runs g xs))

  through-parameters : (ps : List (TypeParamDecl N)) (acc : A) → VisitTypeParams f acc ps ≡ through acc (runs (parameter_pieces plain Constraint) ps)
  unfolding VisitTypeParams parameter_pieces counted through is_entered
  through-parameters ps acc =
      through-runs (parameter_pieces plain Constraint) (λ a p. FoldLeft (λ b t. Fold f b t) a p.constraints)
      (λ a p. through-runs (type_piece Constraint) (λ b t. Fold f b t) (λ b t. refl) p.constraints a) ps acc

  through-fields : (acc : A) (x : Fields N) → VisitFields f acc x ≡ through acc (fields_pieces CaseField x)
  unfolding VisitFields fields_pieces field_pieces nameless_pieces counted through is_entered
  through-fields acc (NamedFields xs) = through-runs (field_pieces CaseField) (λ a x. Fold f a x.formal.tpe) (λ a x. refl) xs acc
  through-fields acc (NamelessFields xs) = through-runs (nameless_pieces CaseField) (λ a x. Fold f a x.tpe) (λ a x. refl) xs acc

  -- a struct's fields are not entered
  past-fields : (acc : A) (x : Fields N) → acc ≡ through acc (fields_pieces StructField x)
  unfolding fields_pieces field_pieces nameless_pieces counted through is_entered
  past-fields acc (NamedFields xs) = sym (past_all xs acc) ∙ through-runs (field_pieces StructField) (λ a x. a) (λ a x. refl) xs acc
  past-fields acc (NamelessFields xs) = sym (past_all xs acc) ∙ through-runs (nameless_pieces StructField) (λ a x. a) (λ a x. refl) xs acc

  through-cases : (cs : List (EnumCase N)) (acc : A) → FoldLeft (λ a c. VisitFields f a c.fields) acc cs ≡ through acc (counted case_pieces cs)
  unfolding case_pieces counted through
  through-cases cs acc = through-runs case_pieces (λ a c. VisitFields f a c.fields) (λ a c. through-fields a c.fields) cs acc

  through-heading : (k : ℕ) (doc : N) (l : List (Attribute N)) (x : N) (ps : List (TypeParamDecl N)) (acc : A) → VisitTypeParams f acc ps ≡ through acc (heading present k doc l x ps)
  unfolding heading
  through-heading k doc l x ps acc = through-parameters ps acc ∙ sym (through-owned acc (title_tokens k doc l x _) (runs (parameter_pieces plain Constraint) ps))

  -- a heading, and what follows it
  through-titled : (k : ℕ) (doc : N) (l : List (Attribute N)) (x : N) (ps : List (TypeParamDecl N)) (acc : A) (qs : List (Piece N)) {end : A}
      → end ≡ through (VisitTypeParams f acc ps) qs → end ≡ through acc (heading present k doc l x ps ++ qs)
  through-titled k doc l x ps acc qs e =
      e ∙ ap (λ a. through a qs) (through-heading k doc l x ps acc) ∙ sym (through-append acc (heading present k doc l x ps) qs)

  through-entered : (acc : A) (d : Declaration N) (single : A → Declaration N → A) → VisitModMapping f single acc d ≡ through (single acc d) (pieces present d)
  unfolding VisitModMapping pieces front rest through is_entered
  through-entered acc (StructDecl s) single = through-titled present.struct_head s.doc_string s.attributes s.name s.type_params _ _ (past-fields _ s.fields)
  through-entered acc (EnumDecl e) single = through-titled present.enum_head e.doc_string e.attributes e.name e.type_params _ _ (through-cases e.variants _)
  through-entered acc (TypeDecl t) single = through-titled present.synonym_head t.doc_string t.attributes t.name t.type_params _ (type_piece Aliased t.tpe) refl
  through-entered acc (UseDecl u) single = sym (through-owned (single acc (UseDecl u)) (use_tokens present.use_head u) [])

  -- `VisitModMapping` of a declaration
  pub VisitModMapping-visited : (single : A → Declaration N → A) (acc : A) (d : Declaration N)
      → VisitModMapping f single acc d ≡ FoldLeft f (single acc d) (map (λ (q : Place N). q.tpe) (visited_declaration d))
  unfolding visited_declaration
  VisitModMapping-visited single acc d = through-entered acc d single ∙ through-visited (pieces present d) 0 (single acc d)
