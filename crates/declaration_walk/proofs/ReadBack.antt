-- Where the encoding of a declaration stands, with names in the table and types not too deep, that declaration is read: the converse of `declaration-run`, in any form.
use Rattle.std.specs.Prelude.{Ok}
use Prim.Native.Nat.{ℕ, ◌+◌, ◌≤◌, ◌<◌}
use mathlib.Core.Path.{◌≡◌, refl, ap, sym, ◌∙◌}
use mathlib.Core.Bool.{true, false}
use mathlib.Core.List.{List, [], ◌∷◌, ◌++◌, map}
use native.Mathlib.Omega.{arith}
use borrow.Author.Tests.{eq-eqb, ne_eqb}
use lib.Dec.{eqb}
use lib.ListN.{length}
use Rattle.rast.specs.Bytes.{Bytes}
use Rattle.rast.specs.Tree.{Ty}
use Rattle.rast.specs.Declaration.{Visibility, PUB, PRIV, Attribute, TypeParamDecl, Formal, Field, NamelessField, Fields, NamedFields, NamelessFields, EnumCase, Struct, Enum, TypeSynonym, Use, Declaration, StructDecl, EnumDecl, TypeDecl, UseDecl}
use Rattle.encoding.specs.Words.{max_words, max_depth}
use Rattle.encoding.specs.Tables.{check_tables, name_bytes, name_count}
use Rattle.encoding.specs.Reading.{Reading, got, ◌>>=◌, read_word}
use Rattle.encoding.specs.Heads.{read_path}
use Rattle.encoding.specs.Types.{path_of, read_type}
use Rattle.encoding.specs.Forms.{Form, Entries, plain, present}
use Rattle.encoding.specs.Declarations.{visibility_of, read_list, read_counted, read_visibility, read_name, read_attribute, read_entry_of, read_parameter, read_formal, read_field, read_nameless_field, read_fields, read_case, read_struct, read_enum, read_type_synonym, read_use, declaration_after, read_declaration, declaration_at, declaration_of}
use Rattle.encoding.proofs.Reading.{map-got}
use Rattle.encoding.proofs.Types.{made_got}
use Rattle.tree_words.specs.Encode.{Token, word, name, token_word, path_tokens, tokens, encode}
use Rattle.tree_words.specs.Depths.{depth}
use Rattle.tree_words.specs.Names.{NameBelow, NamesBelow, Each}
use Rattle.tree_words.specs.Runs.{Run}
use Rattle.tree_words.proofs.Runs.{Spelt, spelt-parts}
use Rattle.tree_words.proofs.Names.{each-left, each-right}
use Rattle.tree_words.proofs.ReadBack.{Reads, word-back, below-back, path-back, type-back, tables-kept, whole-given, run-self}
use Rattle.declaration_walk.specs.declared.Role.{Role}
use Rattle.declaration_walk.specs.declared.Role.TheVariants.{Constraint, StructField, CaseField, Aliased}
use Rattle.declaration_walk.specs.Pieces.{Piece, own, type, visibility_word, runs, attribute_tokens, attributes_tokens, title_tokens, use_tokens, own_pieces, counted, type_piece, parameter_pieces, field_pieces, nameless_pieces, fields_pieces, case_pieces, heading, front, rest, pieces, piece_tokens, declaration_tokens, encode_declaration}
use Rattle.declaration_walk.specs.Mapped.{renamed_declaration}
use Rattle.declaration_walk.specs.Numbered.{numbered_of}
use Rattle.declaration_walk.proofs.RenamedReading.{numbered_at, declaration-spelled}
use Rattle.declaration_walk.proofs.OpeningRuns.{spelt-as, words_runs, runs-one}
use Rattle.declaration_walk.proofs.EachPiece.{PieceHas, Every, EveryType}
use Rattle.declaration_walk.proofs.Encoded.{spell, spell-own, spell-type, spell-counted, encoded-heading, encoded-declaration, encoded-use}

-- the heads of a form are numbered upwards, so no two are alike
pub record Rising (form : Form) : Type 0 where
  pub to_enum : form.struct_head < form.enum_head
  pub to_synonym : form.enum_head < form.synonym_head
  pub to_use : form.synonym_head < form.use_head

-- ---- lists

module _ {A : Type 0} (ws : List ℕ) (code : A → List ℕ) (item : ℕ → Reading A) where
  list-back : (xs : List A) → Each (Reads code ws item) xs → (p n : ℕ) → Spelt ws p (runs code xs) n → read_list item (length xs) p ≡ got xs n
  unfolding read_list runs
  list-back [] h p n s = let m : n ≡ p = omega (arith, s.1) in ap (got []) (sym m)
  list-back (x ∷ xs) h p n s =
      let k = spelt-parts (code x) (runs code xs) s in
      rw (h.0 p (p + length (code x)) k.0, list-back xs h.1 (p + length (code x)) n k.1) refl

  counted-back : (xs : List A) → Each (Reads code ws item) xs → Reads (λ xs. length xs ∷ runs code xs) ws (read_counted ws item) xs
  unfolding read_counted
  counted-back xs h p n s =
      let k = spelt-parts (length xs ∷ []) (runs code xs) s in
      rw (word-back ws (length xs) p (p + 1) k.0) (list-back xs h (p + 1) n k.1)

-- what holds of all that f gives, thing by thing
each-run : {A B : Type 0} (Q : B → Type 0) (R : A → Type 0) (f : A → List B) → ((x : A) → Each Q (f x) → R x) → (xs : List A) → Each Q (runs f xs) → Each R xs
unfolding runs
each-run Q R f h [] k = tt
each-run Q R f h (x ∷ xs) k = (h x (each-left Q (f x) (runs f xs) k), each-run Q R f h xs (each-right Q (f x) (runs f xs) k))

-- ---- two things read, and something made of them

module _ (ws : List ℕ) where
  two-read-back : {A B C : Type 0} (code₁ : A → List ℕ) (code₂ : B → List ℕ) (f : ℕ → Reading A) (g : ℕ → Reading B) (make : A → B → C) (a : A) (b : B) {words : List ℕ}
      → words ≡ code₁ a ++ code₂ b → Reads code₁ ws f a → Reads code₂ ws g b → (p n : ℕ) → Spelt ws p words n → (f p >>= λ a q. g q >>= λ b r. got (make a b) r) ≡ got (make a b) n
  two-read-back code₁ code₂ f g make a b e h i p n s =
      let k = spelt-parts (code₁ a) (code₂ b) (spelt-as ws e s) in
      rw (h p (p + length (code₁ a)) k.0, i (p + length (code₁ a)) n k.1) refl

  visibility-back : (v : Visibility) → Reads (λ v. visibility_word v ∷ []) ws (read_visibility ws) v
  unfolding read_visibility visibility_word visibility_of
  visibility-back PUB p n s = rw (below-back ws 2 0 (omega arith) p n s) refl
  visibility-back PRIV p n s = rw (below-back ws 2 1 (omega arith) p n s) refl

  -- ---- parts of a declaration, whose types are read by `ty` where they fit

  module _ (bound : ℕ) (ty : ℕ → Reading (Ty ℕ)) (Fits : Ty ℕ → Type 0) (fits : (t : Ty ℕ) → Fits t → Reads encode ws ty t) where
    abbrev nm : ℕ → ℕ
    nm x = x

    -- the pieces that f gives are read back as what they were made of
    abbrev Back : {A : Type 0} → (A → List (Piece ℕ)) → (ℕ → Reading A) → A → Type 0
    Back f item a = Every (NameBelow bound) Fits (f a) → Reads (λ x. spell (f x)) ws item a

    owned : (ks : List (Token ℕ)) → Every (NameBelow bound) Fits (own_pieces ks) → NamesBelow bound ks
    owned [] h = tt
    owned (k ∷ ks) h = (h.0, owned ks h.1)

    piece-back : (a : Role) (t : Ty ℕ) → Back (type_piece a) ty t
    piece-back a t h p n s = fits t h.0 p n (spelt-as ws (spell-type a t) s)

    name-back : (x : ℕ) → x < bound → Reads (λ k. k ∷ []) ws (read_name bound ws nm ty) x
    unfolding read_name
    name-back x h p n s = rw (below-back ws bound x h p n s) refl

    many-back : {A : Type 0} (f : A → List (Piece ℕ)) (item : ℕ → Reading A) → ((x : A) → Back f item x) → (xs : List A) → Back (counted f) (read_counted ws item) xs
    unfolding counted
    many-back f item h xs k p n s =
        counted-back ws (λ x. spell (f x)) item xs (each-run (PieceHas (NameBelow bound) Fits) (Reads (λ x. spell (f x)) ws item) f h xs k.1) p n (spelt-as ws (spell-counted f xs) s)

    names-back : (xs : List ℕ) → NamesBelow bound (map name xs) → Reads (λ xs. length xs ∷ map token_word (map name xs)) ws (read_counted ws (read_name bound ws nm ty)) xs
    unfolding token_word
    names-back xs h p n s =
        counted-back ws (λ x. x ∷ []) (read_name bound ws nm ty) xs (single xs h) p n (spelt-as ws (ap (◌∷◌ (length xs)) (sym (runs-one ws bound xs))) s)
      where
        single : (xs : List ℕ) → NamesBelow bound (map name xs) → Each (Reads (λ k. k ∷ []) ws (read_name bound ws nm ty)) xs
        single [] h = tt
        single (x ∷ xs) h = (name-back x h.0, single xs h.1)

    attribute-back : (a : Attribute ℕ) → NamesBelow bound (attribute_tokens a) → Reads (λ a. map token_word (attribute_tokens a)) ws (read_attribute bound ws nm ty) a
    unfolding read_attribute attribute_tokens token_word
    attribute-back a h =
        two-read-back (λ x. x ∷ []) (λ xs. length xs ∷ map token_word (map name xs)) (read_name bound ws nm ty) (read_counted ws (read_name bound ws nm ty)) (λ x xs. record { name = x; derived = xs }) a.name a.derived refl
        (name-back a.name h.0) (names-back a.derived h.1.1)

    attributes-back : (l : List (Attribute ℕ)) → NamesBelow bound (attributes_tokens l) → Reads (λ l. map token_word (attributes_tokens l)) ws (read_counted ws (read_attribute bound ws nm ty)) l
    unfolding attributes_tokens token_word
    attributes-back l h p n s =
        counted-back ws (λ a. map token_word (attribute_tokens a)) (read_attribute bound ws nm ty) l
        (each-run (NameBelow bound) (Reads (λ a. map token_word (attribute_tokens a)) ws (read_attribute bound ws nm ty)) attribute_tokens attribute-back l h.1) p n
        (spelt-as ws (ap (◌∷◌ (length l)) (words_runs attribute_tokens l)) s)

    -- an entry of a parameter list, by the form's entries
    entry-back : (e : Entries) (x : TypeParamDecl ℕ) → Back (parameter_pieces e Constraint) (read_entry_of bound ws nm ty e) x
    unfolding read_entry_of parameter_pieces token_word
    entry-back plain x h =
        two-read-back (λ x. x ∷ []) (λ ts. spell (counted (type_piece Constraint) ts)) (read_name bound ws nm ty) (read_counted ws ty) (λ x ts. record { name = x; constraints = ts }) x.name x.constraints
        (spell-own (name x.name) (counted (type_piece Constraint) x.constraints)) (name-back x.name h.0) (many-back (type_piece Constraint) ty (piece-back Constraint) x.constraints h.1)

    formal-back : (a : Role) (x : Formal ℕ) → x.name < bound → Fits x.tpe → Reads (λ x. x.name ∷ spell (type_piece a x.tpe)) ws (read_formal bound ws nm ty) x
    unfolding read_formal
    formal-back a x h i =
        two-read-back (λ x. x ∷ []) (λ t. spell (type_piece a t)) (read_name bound ws nm ty) ty (λ x t. record { name = x; tpe = t }) x.name x.tpe refl (name-back x.name h) (piece-back a x.tpe (i, tt))

    field-back : (a : Role) (x : Field ℕ) → Back (field_pieces a) (read_field bound ws nm ty) x
    unfolding read_field field_pieces token_word
    field-back a x h =
        two-read-back (λ v. visibility_word v ∷ []) (λ f. f.name ∷ spell (type_piece a f.tpe)) (read_visibility ws) (read_formal bound ws nm ty) (λ v f. record { visibility = v; formal = f }) x.visibility x.formal
        (spell-own (word (visibility_word x.visibility)) _ ∙ ap (◌∷◌ (visibility_word x.visibility)) (spell-own (name x.formal.name) (type_piece a x.formal.tpe)))
        (visibility-back x.visibility) (formal-back a x.formal h.1.0 h.1.1.0)

    nameless-back : (a : Role) (x : NamelessField ℕ) → Back (nameless_pieces a) (read_nameless_field bound ws nm ty) x
    unfolding read_nameless_field nameless_pieces token_word
    nameless-back a x h =
        two-read-back (λ v. visibility_word v ∷ []) (λ t. spell (type_piece a t)) (read_visibility ws) ty (λ v t. record { visibility = v; tpe = t }) x.visibility x.tpe
        (spell-own (word (visibility_word x.visibility)) (type_piece a x.tpe)) (visibility-back x.visibility) (piece-back a x.tpe h.1)

    fields-back : (a : Role) (x : Fields ℕ) → Back (fields_pieces a) (read_fields bound ws nm ty) x
    unfolding read_fields fields_pieces token_word
    fields-back a (NamedFields xs) h p n s =
        let k = spelt-parts (0 ∷ []) (spell (counted (field_pieces a) xs)) (spelt-as ws (spell-own (word 0) (counted (field_pieces a) xs)) s) in
        rw (below-back ws 2 0 (omega arith) p (p + 1) k.0, many-back (field_pieces a) (read_field bound ws nm ty) (field-back a) xs h.1 (p + 1) n k.1) refl
    fields-back a (NamelessFields xs) h p n s =
        let k = spelt-parts (1 ∷ []) (spell (counted (nameless_pieces a) xs)) (spelt-as ws (spell-own (word 1) (counted (nameless_pieces a) xs)) s) in
        rw (below-back ws 2 1 (omega arith) p (p + 1) k.0, many-back (nameless_pieces a) (read_nameless_field bound ws nm ty) (nameless-back a) xs h.1 (p + 1) n k.1) refl

    case-back : (c : EnumCase ℕ) → Back case_pieces (read_case bound ws nm ty) c
    unfolding read_case case_pieces token_word
    case-back c h p n s =
        let k = spelt-parts (c.doc_string ∷ []) _ (spelt-as ws (spell-own (name c.doc_string) (own (name c.name) ∷ fields_pieces CaseField c.fields)) s) in
        let i = spelt-parts (c.name ∷ []) _ (spelt-as ws (spell-own (name c.name) (fields_pieces CaseField c.fields)) k.1) in
        rw (name-back c.doc_string h.0 p (p + 1) k.0, name-back c.name h.1.0 (p + 1) (p + 1 + 1) i.0, fields-back CaseField c.fields h.1.1 (p + 1 + 1) n i.1) refl

    path-read : (x : Use ℕ) → NamesBelow bound (path_tokens x.path) → (p n : ℕ) → Spelt ws p (visibility_word x.visibility ∷ map token_word (path_tokens x.path)) n → read_use bound ws nm ty p ≡ got x n
    unfolding read_use
    path-read x h p n s =
        let k = spelt-parts (visibility_word x.visibility ∷ []) (map token_word (path_tokens x.path)) s in
        let m = made_got (read_path bound ws (p + 1)) (path_of ws nm) (path-back bound ws x.path h (p + 1) n k.1) in
        rw (visibility-back x.visibility p (p + 1) k.0, m.reads, sym m.made) refl

    -- ---- declarations, in a form

    module _ (form : Form) (rising : Rising form) where
      -- what stands behind a head up to the last parameter
      record Title (d : ℕ) (l : List (Attribute ℕ)) (x : ℕ) (ps : List (TypeParamDecl ℕ)) (p n : ℕ) : Type 0 where
        after_doc : ℕ
        after_attributes : ℕ
        after_name : ℕ
        doc : read_name bound ws nm ty p ≡ got d after_doc
        attributes : read_counted ws (read_attribute bound ws nm ty) after_doc ≡ got l after_attributes
        named : read_name bound ws nm ty after_attributes ≡ got x after_name
        parameters : read_counted ws (read_parameter form bound ws nm ty) after_name ≡ got ps n

      title-back : (k d : ℕ) (l : List (Attribute ℕ)) (x : ℕ) (ps : List (TypeParamDecl ℕ)) → Every (NameBelow bound) Fits (heading form k d l x ps) → (p n : ℕ) → Spelt ws p (spell (heading form k d l x ps)) n
          → (read_word ws p ≡ got k (p + 1)) × Title d l x ps (p + 1) n
      unfolding heading title_tokens read_parameter counted
      title-back k d l x ps h p n s =
          let all = PieceHas (NameBelow bound) Fits in
          let ks = title_tokens k d l x (length ps) in
          let each = parameter_pieces form.entries Constraint in
          let own = owned ks (each-left all (own_pieces ks) (runs each ps) h) in
          let listed = each-right all (own_pieces ks) (runs each ps) h in
          let codes = map token_word (attributes_tokens l) in
          let k₁ = spelt-parts (k ∷ d ∷ []) _ (spelt-as ws (sym (encoded-heading form k d l x ps)) s) in
          let k₂ = spelt-parts (k ∷ []) (d ∷ []) k₁.0 in
          let k₃ = spelt-parts codes (x ∷ spell (counted each ps)) k₁.1 in
          let k₄ = spelt-parts (x ∷ []) (spell (counted each ps)) k₃.1 in (
            word-back ws k p (p + 1) k₂.0,
            record {
              after_doc = p + 2;
              after_attributes = p + 2 + length codes;
              after_name = p + 2 + length codes + 1;
              doc = name-back d own.1.0 (p + 1) (p + 2) k₂.1;
              attributes = attributes-back l (each-left (NameBelow bound) (attributes_tokens l) _ own.1.1) (p + 2) (p + 2 + length codes) k₃.0;
              named = name-back x (each-right (NameBelow bound) (attributes_tokens l) (name x ∷ word (length ps) ∷ []) own.1.1).0 (p + 2 + length codes) (p + 2 + length codes + 1) k₄.0;
              parameters = many-back each (read_entry_of bound ws nm ty form.entries) (entry-back form.entries) ps (tt, listed) (p + 2 + length codes + 1) n k₄.1;
            },
          )

      abbrev All : List (Piece ℕ) → Type 0
      All ps = Every (NameBelow bound) Fits ps

      -- a head of the form is told from those before it
      same-head : (k : ℕ) → eqb k k ≡ true
      same-head k = eq-eqb k k refl

      other-head : (j k : ℕ) → j < k → eqb k j ≡ false
      other-head j k h = ne_eqb k j (λ e. omega (arith, h, e))

      struct-back : (x : Struct ℕ) → All (pieces form (StructDecl x)) → Reads (encode_declaration form) ws (read_declaration form bound ws nm ty) (StructDecl x)
      unfolding read_declaration declaration_after read_struct pieces front rest
      struct-back x h p n s =
          let title = heading form form.struct_head x.doc_string x.attributes x.name x.type_params in
          let fields = fields_pieces StructField x.fields in
          let all = PieceHas (NameBelow bound) Fits in
          let k = spelt-parts (spell title) (spell fields) (spelt-as ws (encoded-declaration form (StructDecl x)) s) in
          let t = title-back form.struct_head x.doc_string x.attributes x.name x.type_params (each-left all title fields h) p (p + length (spell title)) k.0 in
          let r = fields-back StructField x.fields (each-right all title fields h) (p + length (spell title)) n k.1 in
          rw (t.0, same-head form.struct_head, t.1.doc, t.1.attributes, t.1.named, t.1.parameters, r) refl

      enum-back : (x : Enum ℕ) → All (pieces form (EnumDecl x)) → Reads (encode_declaration form) ws (read_declaration form bound ws nm ty) (EnumDecl x)
      unfolding read_declaration declaration_after read_enum pieces front rest
      enum-back x h p n s =
          let title = heading form form.enum_head x.doc_string x.attributes x.name x.type_params in
          let cases = counted case_pieces x.variants in
          let all = PieceHas (NameBelow bound) Fits in
          let k = spelt-parts (spell title) (spell cases) (spelt-as ws (encoded-declaration form (EnumDecl x)) s) in
          let t = title-back form.enum_head x.doc_string x.attributes x.name x.type_params (each-left all title cases h) p (p + length (spell title)) k.0 in
          let r = many-back case_pieces (read_case bound ws nm ty) case-back x.variants (each-right all title cases h) (p + length (spell title)) n k.1 in
          rw (t.0, other-head form.struct_head form.enum_head rising.to_enum, same-head form.enum_head, t.1.doc, t.1.attributes, t.1.named, t.1.parameters, r) refl

      synonym-back : (x : TypeSynonym ℕ) → All (pieces form (TypeDecl x)) → Reads (encode_declaration form) ws (read_declaration form bound ws nm ty) (TypeDecl x)
      unfolding read_declaration declaration_after read_type_synonym pieces front rest
      synonym-back x h p n s =
          let title = heading form form.synonym_head x.doc_string x.attributes x.name x.type_params in
          let aliased = type_piece Aliased x.tpe in
          let all = PieceHas (NameBelow bound) Fits in
          let k = spelt-parts (spell title) (spell aliased) (spelt-as ws (encoded-declaration form (TypeDecl x)) s) in
          let t = title-back form.synonym_head x.doc_string x.attributes x.name x.type_params (each-left all title aliased h) p (p + length (spell title)) k.0 in
          let r = piece-back Aliased x.tpe (each-right all title aliased h) (p + length (spell title)) n k.1 in
          let e = other-head form.struct_head form.synonym_head (omega (arith, rising.to_enum, rising.to_synonym)) in
          rw (t.0, e, other-head form.enum_head form.synonym_head rising.to_synonym, same-head form.synonym_head, t.1.doc, t.1.attributes, t.1.named, t.1.parameters, r) refl

      use-back : (x : Use ℕ) → All (pieces form (UseDecl x)) → Reads (encode_declaration form) ws (read_declaration form bound ws nm ty) (UseDecl x)
      unfolding read_declaration declaration_after pieces front rest use_tokens token_word
      use-back x h p n s =
          let code = visibility_word x.visibility ∷ map token_word (path_tokens x.path) in
          let all = PieceHas (NameBelow bound) Fits in
          let k = spelt-parts (form.use_head ∷ []) code (spelt-as ws (encoded-use form x) s) in
          let own = each-left all (own_pieces (use_tokens form.use_head x)) [] h in
          let r = path-read x (owned (path_tokens x.path) own.1.1) (p + 1) n k.1 in
          let e = other-head form.struct_head form.use_head (omega (arith, rising.to_enum, rising.to_synonym, rising.to_use)) in
          let d = other-head form.enum_head form.use_head (omega (arith, rising.to_synonym, rising.to_use)) in
          rw (word-back ws form.use_head p (p + 1) k.0, e, d, other-head form.synonym_head form.use_head rising.to_use, same-head form.use_head, r) refl

      declaration-back : (d : Declaration ℕ) → All (pieces form d) → Reads (encode_declaration form) ws (read_declaration form bound ws nm ty) d
      declaration-back (StructDecl x) = struct-back x
      declaration-back (EnumDecl x) = enum-back x
      declaration-back (TypeDecl x) = synonym-back x
      declaration-back (UseDecl x) = use-back x

-- ---- the law

-- names and depths, piece by piece
each-fits : (bound deep : ℕ) (ps : List (Piece ℕ)) → NamesBelow bound (runs piece_tokens ps) → EveryType (λ t. depth t ≤ deep) ps → Every (NameBelow bound) (λ t. NamesBelow bound (tokens t) × (depth t ≤ deep)) ps
unfolding runs piece_tokens
each-fits bound deep [] h l = tt
each-fits bound deep (own k ∷ ps) h l = (h.0, each-fits bound deep ps h.1 l.1)
each-fits bound deep (type a t ∷ ps) h l =
    ((each-left (NameBelow bound) (tokens t) (runs piece_tokens ps) h, l.0), each-fits bound deep ps (each-right (NameBelow bound) (tokens t) (runs piece_tokens ps) h) l.1)

-- a declaration's words are read as that declaration, and to their end
pub read-back-declaration : (form : Form) → Rising form → (b : ℕ) (ws : List ℕ) (at : ℕ) (d : Declaration ℕ) (deep : ℕ)
    → Run ws at (encode_declaration form d) → NamesBelow b (declaration_tokens form d) → EveryType (λ t. depth t ≤ deep) (pieces form d)
    → read_declaration form b ws (λ x. x) (read_type b ws (λ x. x) deep) at ≡ got d (at + length (encode_declaration form d))
unfolding declaration_tokens
read-back-declaration form rising b ws at d deep r h l =
    declaration-back ws b (read_type b ws (λ x. x) deep) (λ t. NamesBelow b (tokens t) × (depth t ≤ deep)) (λ t k. type-back b ws t k.0 deep k.1) form rising d (each-fits b deep (pieces form d) h l) at _ (r, refl)

-- ---- as an encoding

pub present-rises : Rising present
present-rises = record { to_enum = omega arith; to_synonym = omega arith; to_use = omega arith }

module _ (ws pairs : List ℕ) (text : Bytes) (passed : check_tables ws pairs text ≡ Ok tt) (d : Declaration ℕ) (known : NamesBelow (name_count pairs) (declaration_tokens present d))
    (shallow : EveryType (λ t. depth t ≤ max_depth) (pieces present d)) (few : length (encode_declaration present d) ≤ max_words) where
  abbrev written : List ℕ
  written = encode_declaration present d

  written-reads : numbered_at written pairs 0 ≡ got d (length written)
  written-reads = read-back-declaration present present-rises (name_count pairs) written 0 d max_depth (run-self written) known shallow ∙ ap (got d) (let z : 0 + length written ≡ length written = omega arith in z)

  written-passes : check_tables written pairs text ≡ Ok tt
  written-passes = tables-kept ws written pairs text passed few

  -- the words of a declaration, with the pairs and the text of an encoding that is within the limits, are an encoding that is accepted, and hold the declaration
  pub written-numbered : numbered_of written pairs text ≡ Ok d
  unfolding numbered_of
  written-numbered = whole-given written pairs text (numbered_at written pairs 0) written-passes written-reads

  -- as the calls read it, names by their bytes
  pub written-declaration : declaration_of written pairs text ≡ Ok (renamed_declaration (name_bytes pairs text) d)
  unfolding declaration_of
  written-declaration =
      whole-given written pairs text (declaration_at written pairs text 0) written-passes (declaration-spelled written pairs text 0 ∙ map-got (renamed_declaration (name_bytes pairs text)) written-reads)
