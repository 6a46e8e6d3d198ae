-- `RASTBottomUpReplacer` on declarations: `mapping` is its `ReplaceTypeSingle`. All but the types is kept.
use Rattle.std.specs.Prelude.{List, map}
use Rattle.rast.specs.Tree.{Ty}
use Rattle.rast.specs.Declaration.{TypeParamDecl, Field, NamelessField, Fields, NamedFields, NamelessFields, EnumCase, Struct, Enum, TypeSynonym, Use, Declaration, StructDecl, EnumDecl, TypeDecl, UseDecl}
use Rattle.rebuild_spec.specs.Replace.{Replace}

module _ {N : Type 0} (mapping : Ty N → Ty N) where
  -- `ReplaceType`
  abbrev pub ReplaceType : Ty N → Ty N
  ReplaceType t = Replace mapping t

  -- `ReplaceTypeParams`
  unfoldable pub ReplaceTypeParams : List (TypeParamDecl N) → List (TypeParamDecl N)
  ReplaceTypeParams ps = map (λ (p : TypeParamDecl N). record { name = p.name; constraints = map ReplaceType p.constraints }) ps

  -- `ReplaceFields`
  unfoldable pub ReplaceFields : Fields N → Fields N
  ReplaceFields (NamedFields fs) = NamedFields (map (λ (f : Field N). record { visibility = f.visibility; formal = record { name = f.formal.name; tpe = ReplaceType f.formal.tpe } }) fs)
  ReplaceFields (NamelessFields fs) = NamelessFields (map (λ (f : NamelessField N). record { visibility = f.visibility; tpe = ReplaceType f.tpe }) fs)

  -- `ReplaceStruct`
  unfoldable pub ReplaceStruct : Struct N → Struct N
  ReplaceStruct s = record {
    doc_string = s.doc_string;
    attributes = s.attributes;
    name = s.name;
    type_params = ReplaceTypeParams s.type_params;
    fields = ReplaceFields s.fields;
  }

  -- `ReplaceEnumCase`
  unfoldable pub ReplaceEnumCase : EnumCase N → EnumCase N
  ReplaceEnumCase c = record { doc_string = c.doc_string; name = c.name; fields = ReplaceFields c.fields }

  -- `ReplaceEnum`
  unfoldable pub ReplaceEnum : Enum N → Enum N
  ReplaceEnum e = record {
    doc_string = e.doc_string;
    attributes = e.attributes;
    name = e.name;
    type_params = ReplaceTypeParams e.type_params;
    variants = map ReplaceEnumCase e.variants;
  }

  -- `ReplaceTypeDecl`
  unfoldable pub ReplaceTypeDecl : TypeSynonym N → TypeSynonym N
  ReplaceTypeDecl t = record {
    doc_string = t.doc_string;
    attributes = t.attributes;
    name = t.name;
    type_params = ReplaceTypeParams t.type_params;
    tpe = ReplaceType t.tpe;
  }

  -- `ReplaceUse`
  unfoldable pub ReplaceUse : Use N → Use N
  ReplaceUse u = u

  -- `ReplaceModDecl`
  unfoldable pub ReplaceModDecl : Declaration N → Declaration N
  ReplaceModDecl (StructDecl s) = StructDecl (ReplaceStruct s)
  ReplaceModDecl (EnumDecl e) = EnumDecl (ReplaceEnum e)
  ReplaceModDecl (TypeDecl t) = TypeDecl (ReplaceTypeDecl t)
  ReplaceModDecl (UseDecl u) = UseDecl (ReplaceUse u)
