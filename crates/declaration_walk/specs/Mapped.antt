-- The one map over a declaration: f at each of its names, g at each of its types. `renamed_declaration` and `with_types` are this map.
use Rattle.std.specs.Prelude.{map}
use Rattle.rast.specs.Tree.{Ty}
use Rattle.rast.specs.Declaration.{Attribute, TypeParamDecl, Formal, Field, NamelessField, Fields, NamedFields, NamelessFields, EnumCase, Declaration, StructDecl, EnumDecl, TypeDecl, UseDecl}
use Rattle.tree_words.specs.Renamed.{renamed_path, renamed}
use Rattle.declaration_walk.specs.Pieces.{Piece, own, type}

abbrev pub map_attribute : {N M : Type 0} → (N → M) → Attribute N → Attribute M
map_attribute f a = record { name = f a.name; derived = map f a.derived }

module _ {N M : Type 0} (f : N → M) (g : Ty N → Ty M) where
  abbrev pub map_parameter : TypeParamDecl N → TypeParamDecl M
  map_parameter p = record { name = f p.name; constraints = map g p.constraints }

  abbrev pub map_formal : Formal N → Formal M
  map_formal x = record { name = f x.name; tpe = g x.tpe }

  abbrev pub map_field : Field N → Field M
  map_field x = record { visibility = x.visibility; formal = map_formal x.formal }

  abbrev pub map_nameless : NamelessField N → NamelessField M
  map_nameless x = record { visibility = x.visibility; tpe = g x.tpe }

  unfoldable pub map_fields : Fields N → Fields M
  map_fields (NamedFields xs) = NamedFields (map map_field xs)
  map_fields (NamelessFields xs) = NamelessFields (map map_nameless xs)

  abbrev pub map_case : EnumCase N → EnumCase M
  map_case c = record { doc_string = f c.doc_string; name = f c.name; fields = map_fields c.fields }

  unfoldable pub map_declaration : Declaration N → Declaration M
  map_declaration (StructDecl s) = StructDecl (record {
    doc_string = f s.doc_string;
    attributes = map (map_attribute f) s.attributes;
    name = f s.name;
    type_params = map map_parameter s.type_params;
    fields = map_fields s.fields;
  })
  map_declaration (EnumDecl e) = EnumDecl (record {
    doc_string = f e.doc_string;
    attributes = map (map_attribute f) e.attributes;
    name = f e.name;
    type_params = map map_parameter e.type_params;
    variants = map map_case e.variants;
  })
  map_declaration (TypeDecl t) = TypeDecl (record {
    doc_string = f t.doc_string;
    attributes = map (map_attribute f) t.attributes;
    name = f t.name;
    type_params = map map_parameter t.type_params;
    tpe = g t.tpe;
  })
  map_declaration (UseDecl u) = UseDecl (record { visibility = u.visibility; path = renamed_path f u.path })

-- a declaration with other names, as `renamed` does for a type
abbrev pub renamed_declaration : {N M : Type 0} → (N → M) → Declaration N → Declaration M
renamed_declaration f = map_declaration f (renamed f)

-- with other types, all else kept
abbrev pub with_types : {N : Type 0} → (Ty N → Ty N) → Declaration N → Declaration N
with_types g = map_declaration (λ x. x) g

-- the same of a piece
unfoldable pub piece_with : {N : Type 0} → (Ty N → Ty N) → Piece N → Piece N
piece_with g (own k) = own k
piece_with g (type r t) = type r (g t)
