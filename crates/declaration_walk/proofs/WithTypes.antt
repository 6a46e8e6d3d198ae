-- The pieces of a declaration with other types are its pieces with other types.
use Prim.Native.Nat.{ℕ}
use mathlib.Core.Path.{◌≡◌, refl, ap, sym, ◌∙◌}
use mathlib.Core.List.{List, [], ◌∷◌, ◌++◌, map, map-append, map-id, append-nil}
use lib.ListN.{length, length-map}
use Rattle.rast.specs.Tree.{Path, Global, Crate, Self, PMemberSelect, Ty}
use Rattle.rast.specs.Declaration.{Attribute, TypeParamDecl, Fields, NamedFields, NamelessFields, EnumCase, Use, Declaration, StructDecl, EnumDecl, TypeDecl, UseDecl}
use Rattle.encoding.specs.Forms.{Form, Entries, plain}
use Rattle.tree_words.specs.Encode.{Token, word, name}
use Rattle.tree_words.specs.Renamed.{renamed_path}
use Rattle.declaration_walk.specs.declared.Role.{Role}
use Rattle.declaration_walk.specs.declared.Role.TheVariants.{Constraint, StructField, CaseField, Aliased}
use Rattle.declaration_walk.specs.Pieces.{Piece, own, runs, own_pieces, title_tokens, use_tokens, counted, type_piece, parameter_pieces, field_pieces, nameless_pieces, fields_pieces, case_pieces, heading, front, rest, pieces}
use Rattle.declaration_walk.specs.Mapped.{map_attribute, map_parameter, map_field, map_nameless, map_fields, map_case, map_declaration, with_types, piece_with}

-- ---- names that are kept

module _ {N : Type 0} where
  abbrev same : N → N
  same x = x

  pub attributes-kept : (l : List (Attribute N)) → map (map_attribute same) l ≡ l
  attributes-kept [] = refl
  attributes-kept (a ∷ l) =
      let d : map same a.derived ≡ a.derived = map-id a.derived in
      let h : map_attribute same a ≡ a = ap (λ (xs : List N). record { name = a.name; derived = xs }) d in
      rw (h, attributes-kept l)

  pub path-kept : (p : Path N) → renamed_path same p ≡ p
  unfolding renamed_path
  path-kept Global = refl
  path-kept Crate = refl
  path-kept Self = refl
  path-kept (PMemberSelect p x) = ap (λ (q : Path N). PMemberSelect q x) (path-kept p)

  pub use_kept : (g : Ty N → Ty N) (u : Use N) → with_types g (UseDecl u) ≡ UseDecl u
  unfolding map_declaration
  use_kept g u = ap (λ (p : Path N). UseDecl (record { visibility = u.visibility; path = p })) (path-kept u.path)

-- ---- pieces

module _ {N : Type 0} (r : Ty N → Ty N) where
  with-owned : (ks : List (Token N)) → map (piece_with r) (own_pieces ks) ≡ own_pieces ks
  unfolding piece_with
  with-owned [] = refl
  with-owned (k ∷ ks) = ap (◌∷◌ (own k)) (with-owned ks)

  with-runs : {A : Type 0} (f : A → List (Piece N)) (g : A → A) → ((x : A) → f (g x) ≡ map (piece_with r) (f x)) → (xs : List A) → runs f (map g xs) ≡ map (piece_with r) (runs f xs)
  unfolding runs
  with-runs f g h [] = refl
  with-runs f g h (x ∷ xs) = rw (h x, with-runs f g h xs) (sym (map-append (piece_with r) (f x) (runs f xs)))

  with-counted : {A : Type 0} (f : A → List (Piece N)) (g : A → A) → ((x : A) → f (g x) ≡ map (piece_with r) (f x)) → (xs : List A) → counted f (map g xs) ≡ map (piece_with r) (counted f xs)
  unfolding counted piece_with
  with-counted f g h xs = rw (with-runs f g h xs, length-map xs g)

  with-parameter : (e : Entries) (a : Role) (p : TypeParamDecl N) → parameter_pieces e a (map_parameter same r p) ≡ map (piece_with r) (parameter_pieces e a p)
  unfolding parameter_pieces piece_with
  with-parameter plain a p = ap (◌∷◌ (own (name p.name))) (with-counted (type_piece a) r (λ t. refl) p.constraints)

  with-fields : (a : Role) (x : Fields N) → fields_pieces a (map_fields same r x) ≡ map (piece_with r) (fields_pieces a x)
  unfolding fields_pieces map_fields field_pieces nameless_pieces piece_with
  with-fields a (NamedFields xs) = ap (◌∷◌ (own (word 0))) (with-counted (field_pieces a) (map_field same r) (λ x. refl) xs)
  with-fields a (NamelessFields xs) = ap (◌∷◌ (own (word 1))) (with-counted (nameless_pieces a) (map_nameless same r) (λ x. refl) xs)

  with-case : (c : EnumCase N) → case_pieces (map_case same r c) ≡ map (piece_with r) (case_pieces c)
  unfolding case_pieces piece_with
  with-case c = ap (λ ps. own (name c.doc_string) ∷ own (name c.name) ∷ ps) (with-fields CaseField c.fields)

  module _ (form : Form) where
    with-heading : (k : ℕ) (doc : N) (l : List (Attribute N)) (x : N) (ps : List (TypeParamDecl N))
        → heading form k doc (map (map_attribute same) l) x (map (map_parameter same r) ps) ≡ map (piece_with r) (heading form k doc l x ps)
    unfolding heading
    with-heading k doc l x ps =
        let each = parameter_pieces form.entries Constraint in
        rw (attributes-kept l, length-map ps (map_parameter same r), with-runs each (map_parameter same r) (with-parameter form.entries Constraint) ps)
        (ap (λ qs. qs ++ map (piece_with r) (runs each ps)) (sym (with-owned (title_tokens k doc l x (length ps))))
        ∙ sym (map-append (piece_with r) (own_pieces (title_tokens k doc l x (length ps))) (runs each ps)))

    pub with-pieces : (d : Declaration N) → pieces form (with_types r d) ≡ map (piece_with r) (pieces form d)
    unfolding pieces front rest map_declaration piece_with
    with-pieces (StructDecl s) =
        let front = heading form form.struct_head s.doc_string s.attributes s.name s.type_params in
        rw (with-heading form.struct_head s.doc_string s.attributes s.name s.type_params, with-fields StructField s.fields)
        (sym (map-append (piece_with r) front (fields_pieces StructField s.fields)))
    with-pieces (EnumDecl e) =
        let front = heading form form.enum_head e.doc_string e.attributes e.name e.type_params in
        rw (with-heading form.enum_head e.doc_string e.attributes e.name e.type_params, with-counted case_pieces (map_case same r) with-case e.variants)
        (sym (map-append (piece_with r) front (counted case_pieces e.variants)))
    with-pieces (TypeDecl t) =
        let front = heading form form.synonym_head t.doc_string t.attributes t.name t.type_params in
        rw (with-heading form.synonym_head t.doc_string t.attributes t.name t.type_params)
        (sym (map-append (piece_with r) front (type_piece Aliased t.tpe)))
    with-pieces (UseDecl u) =
        ap (λ (p : Path N). own_pieces (use_tokens form.use_head (record { visibility = u.visibility; path = p })) ++ []) (path-kept u.path)
        ∙ rw (append-nil (own_pieces (use_tokens form.use_head u))) (sym (with-owned (use_tokens form.use_head u)))
