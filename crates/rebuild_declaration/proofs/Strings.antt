-- A rebuilt declaration of name numbers is the source's replacer on the declaration of strings.
use Prim.Native.Nat.{ℕ}
use mathlib.Core.Path.{◌≡◌, refl, ap}
use mathlib.Core.List.{List, [], ◌∷◌, map}
use Rattle.rast.specs.Bytes.{Bytes}
use Rattle.rast.specs.Tree.{Ty}
use Rattle.rast.specs.Declaration.{TypeParamDecl, Fields, NamedFields, NamelessFields, EnumCase, Declaration, StructDecl, EnumDecl, TypeDecl, UseDecl}
use Rattle.encoding.specs.Tables.{name_bytes}
use Rattle.tree_words.specs.Renamed.{renamed}
use Rattle.rebuild_spec.specs.Same.{same_type, same_by}
use Rattle.rebuild_spec.specs.Replace.{Replace, ruled}
use Rattle.rebuild_spec.specs.Rules.{Rule, mapping_of}
use Rattle.rebuild_spec.proofs.Strings.{replace-renamed, spelled_rule, ruled-renamed}
use Rattle.declaration_walk.specs.Mapped.{map_parameter, map_field, map_nameless, map_fields, map_case, map_declaration, renamed_declaration}
use Rattle.rebuild_declaration.specs.Replacer.{ReplaceTypeParams, ReplaceFields, ReplaceStruct, ReplaceEnumCase, ReplaceEnum, ReplaceTypeDecl, ReplaceUse, ReplaceModDecl}

-- f goes past g and becomes g' behind it, at each item
map-past : {A B : Type 0} (g : A → A) (g' : B → B) (f : A → B) → ((x : A) → f (g x) ≡ g' (f x)) → (xs : List A) → map f (map g xs) ≡ map g' (map f xs)
map-past g g' f h [] = refl
map-past g g' f h (x ∷ xs) = rw (h x, map-past g g' f h xs) refl

module _ {N M : Type 0} (f : N → M) (m : Ty N → Ty N) (m' : Ty M → Ty M) (h : (t : Ty N) → renamed f (m t) ≡ m' (renamed f t)) where
  abbrev parameter : TypeParamDecl N → TypeParamDecl M
  parameter = map_parameter f (renamed f)

  types : (t : Ty N) → renamed f (Replace m t) ≡ Replace m' (renamed f t)
  types t = replace-renamed f m m' h t

  parameters : (ps : List (TypeParamDecl N)) → map parameter (ReplaceTypeParams m ps) ≡ ReplaceTypeParams m' (map parameter ps)
  unfolding ReplaceTypeParams
  parameters ps =
      map-past _ _ parameter
      (λ p. ap (λ (ts : List (Ty M)). record { name = f p.name; constraints = ts }) (map-past (Replace m) (Replace m') (renamed f) types p.constraints)) ps

  fields : (x : Fields N) → map_fields f (renamed f) (ReplaceFields m x) ≡ ReplaceFields m' (map_fields f (renamed f) x)
  unfolding ReplaceFields map_fields
  fields (NamedFields xs) =
      ap NamedFields
      (map-past _ _ (map_field f (renamed f)) (λ x. ap (λ (t : Ty M). record { visibility = x.visibility; formal = record { name = f x.formal.name; tpe = t } }) (types x.formal.tpe)) xs)
  fields (NamelessFields xs) =
      ap NamelessFields (map-past _ _ (map_nameless f (renamed f)) (λ x. ap (λ (t : Ty M). record { visibility = x.visibility; tpe = t }) (types x.tpe)) xs)

  case-renamed : (c : EnumCase N) → map_case f (renamed f) (ReplaceEnumCase m c) ≡ ReplaceEnumCase m' (map_case f (renamed f) c)
  unfolding ReplaceEnumCase
  case-renamed c = ap (λ (fs : Fields M). record { doc_string = f c.doc_string; name = f c.name; fields = fs }) (fields c.fields)

  pub declaration-replaced : (d : Declaration N) → renamed_declaration f (ReplaceModDecl m d) ≡ ReplaceModDecl m' (renamed_declaration f d)
  unfolding ReplaceModDecl ReplaceStruct ReplaceEnum ReplaceTypeDecl ReplaceUse map_declaration
  declaration-replaced (StructDecl s) = rw (parameters s.type_params, fields s.fields) refl
  declaration-replaced (EnumDecl e) = rw (parameters e.type_params, map-past (ReplaceEnumCase m) (ReplaceEnumCase m') (map_case f (renamed f)) case-renamed e.variants) refl
  declaration-replaced (TypeDecl t) = rw (parameters t.type_params, types t.tpe) refl
  declaration-replaced (UseDecl u) = refl

-- the declaration that a call rebuilds, its names spelled out, is the source's replacer on the declaration that the encoding holds, by the rules that the list holds
pub rebuilt-declaration-strings : (pairs : List ℕ) (text : Bytes) (rs : List Rule) (d : Declaration ℕ)
    → renamed_declaration (name_bytes pairs text) (ReplaceModDecl (mapping_of pairs text rs) d)
    ≡ ReplaceModDecl (ruled same_type (map (spelled_rule (name_bytes pairs text)) rs)) (renamed_declaration (name_bytes pairs text) d)
unfolding mapping_of
rebuilt-declaration-strings pairs text rs d =
    let bytes = name_bytes pairs text in
    declaration-replaced bytes (ruled (same_by bytes) rs) (ruled same_type (map (spelled_rule bytes) rs)) (ruled-renamed bytes rs) d
