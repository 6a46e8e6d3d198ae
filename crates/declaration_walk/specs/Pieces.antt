-- A declaration as a run of own words and types, in the order of the words. Names are of type N, as in trees. A type carries its role, what it is in the declaration, so that
-- whether it is visited is a question about its role, wherever it stands.
use Rattle.std.specs.Prelude.{ℕ, List, [], ◌∷◌, ◌++◌, map, length}
use Rattle.rast.specs.Tree.{Ty}
use Rattle.rast.specs.Declaration.{Visibility, PUB, PRIV, Attribute, TypeParamDecl, Field, NamelessField, Fields, NamedFields, NamelessFields, EnumCase, Use, Declaration, StructDecl, EnumDecl, TypeDecl, UseDecl}
use Rattle.encoding.specs.Words.{pub_word, priv_word, named_kind, nameless_kind}
use Rattle.encoding.specs.Forms.{Form, Entries, plain}
use Rattle.tree_words.specs.Encode.{Token, word, name, token_word, path_tokens, tokens}
use Rattle.declaration_walk.specs.declared.Role.{Role}
use Rattle.declaration_walk.specs.declared.Role.TheVariants.{Constraint, StructField, CaseField, Aliased}

pub data Piece (N : Type 0) : Type 0 where
  own : Token N → Piece N
  type : Role → Ty N → Piece N

-- 0 PUB, 1 PRIV
unfoldable pub visibility_word : Visibility → ℕ
visibility_word PUB = pub_word
visibility_word PRIV = priv_word

-- what f gives for each of some things, one behind the other
unfoldable pub runs : {A B : Type 0} → (A → List B) → List A → List B
runs f [] = []
runs f (x ∷ xs) = f x ++ runs f xs

module _ {N : Type 0} where
  -- an attribute: a name, m, m names
  unfoldable pub attribute_tokens : Attribute N → List (Token N)
  attribute_tokens a = name a.name ∷ word (length a.derived) ∷ map name a.derived

  -- attributes: n, n attributes
  unfoldable pub attributes_tokens : List (Attribute N) → List (Token N)
  attributes_tokens l = word (length l) ∷ runs attribute_tokens l

  -- the own words before the first parameter: the head k, doc, attributes, name, how many parameters
  unfoldable pub title_tokens : ℕ → N → List (Attribute N) → N → ℕ → List (Token N)
  title_tokens k doc attributes x n = word k ∷ name doc ∷ (attributes_tokens attributes ++ (name x ∷ word n ∷ []))

  -- a use, its head k: visibility, path
  unfoldable pub use_tokens : ℕ → Use N → List (Token N)
  use_tokens k u = word k ∷ word (visibility_word u.visibility) ∷ path_tokens u.path

  abbrev pub own_pieces : List (Token N) → List (Piece N)
  own_pieces = map own

  -- n, then the pieces of each
  unfoldable pub counted : {A : Type 0} → (A → List (Piece N)) → List A → List (Piece N)
  counted f xs = own (word (length xs)) ∷ runs f xs

  abbrev pub type_piece : Role → Ty N → List (Piece N)
  type_piece r t = type r t ∷ []

  -- a parameter whose constraints have a role, as a form has its entries: a name, m, m types
  unfoldable pub parameter_pieces : Entries → Role → TypeParamDecl N → List (Piece N)
  parameter_pieces plain r p = own (name p.name) ∷ counted (type_piece r) p.constraints

  -- a named field: visibility, name, type; a nameless one
  unfoldable pub field_pieces : Role → Field N → List (Piece N)
  field_pieces r f = own (word (visibility_word f.visibility)) ∷ own (name f.formal.name) ∷ type_piece r f.formal.tpe

  unfoldable pub nameless_pieces : Role → NamelessField N → List (Piece N)
  nameless_pieces r f = own (word (visibility_word f.visibility)) ∷ type_piece r f.tpe

  -- fields: 0 named or 1 nameless; n; n fields
  unfoldable pub fields_pieces : Role → Fields N → List (Piece N)
  fields_pieces r (NamedFields xs) = own (word named_kind) ∷ counted (field_pieces r) xs
  fields_pieces r (NamelessFields xs) = own (word nameless_kind) ∷ counted (nameless_pieces r) xs

  -- a case of an enum: doc, name, fields
  unfoldable pub case_pieces : EnumCase N → List (Piece N)
  case_pieces c = own (name c.doc_string) ∷ own (name c.name) ∷ fields_pieces CaseField c.fields

  -- what follows the parameters: fields; n cases; a type
  unfoldable pub rest : Declaration N → List (Piece N)
  rest (StructDecl s) = fields_pieces StructField s.fields
  rest (EnumDecl e) = counted case_pieces e.variants
  rest (TypeDecl t) = type_piece Aliased t.tpe
  rest (UseDecl u) = []

  -- the words of a piece
  unfoldable pub piece_tokens : Piece N → List (Token N)
  piece_tokens (own k) = k ∷ []
  piece_tokens (type r t) = tokens t

-- in a form
module _ {N : Type 0} (form : Form) where
  unfoldable pub heading : ℕ → N → List (Attribute N) → N → List (TypeParamDecl N) → List (Piece N)
  heading k doc attributes x ps = own_pieces (title_tokens k doc attributes x (length ps)) ++ runs (parameter_pieces form.entries Constraint) ps

  -- up to the parameters
  unfoldable pub front : Declaration N → List (Piece N)
  front (StructDecl s) = heading form.struct_head s.doc_string s.attributes s.name s.type_params
  front (EnumDecl e) = heading form.enum_head e.doc_string e.attributes e.name e.type_params
  front (TypeDecl t) = heading form.synonym_head t.doc_string t.attributes t.name t.type_params
  front (UseDecl u) = own_pieces (use_tokens form.use_head u)

  unfoldable pub pieces : Declaration N → List (Piece N)
  pieces d = front d ++ rest d

  unfoldable pub declaration_tokens : Declaration N → List (Token N)
  declaration_tokens d = runs piece_tokens (pieces d)

-- the encoding of a declaration in a form, names by their numbers
unfoldable pub encode_declaration : Form → Declaration ℕ → List ℕ
encode_declaration form d = map token_word (declaration_tokens form d)
