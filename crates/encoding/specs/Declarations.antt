-- The declaration that an encoding holds: the heads of a form, and what follows each, in the order that document 01 gives.
use Rattle.std.specs.Prelude.{ℕ, zero, suc, List, [], ◌∷◌, eqb, length}
use Rattle.rast.specs.Bytes.{Bytes}
use Rattle.rast.specs.Tree.{Ty}
use Rattle.rast.specs.Declaration.{Visibility, PUB, PRIV, Attribute, TypeParamDecl, Formal, Field, NamelessField, Fields, NamedFields, NamelessFields, EnumCase, Struct, Enum, TypeSynonym, Use, Declaration, StructDecl, EnumDecl, TypeDecl, UseDecl}
use Rattle.encoding.specs.Words.{pub_word, visibility_count, named_kind, field_kinds}
use Rattle.encoding.specs.declared.Refusal.TheVariants.{UnknownWord}
use Rattle.encoding.specs.Refusals.{pick, Answer, unless}
use Rattle.encoding.specs.Reading.{Reading, got, stop, ◌>>=◌, read_word, read_below, whole}
use Rattle.encoding.specs.Tables.{check_tables, name_bytes, name_count}
use Rattle.encoding.specs.Heads.{read_path}
use Rattle.encoding.specs.Types.{path_of, type_at}
use Rattle.encoding.specs.Forms.{Form, Entries, plain, present}

-- n things, each read by `item`
unfoldable pub read_list : {A : Type 0} → (ℕ → Reading A) → ℕ → ℕ → Reading (List A)
read_list item zero p = got [] p
read_list item (suc n) p = item p >>= λ x q. read_list item n q >>= λ xs r. got (x ∷ xs) r

-- how many, and then these
unfoldable pub read_counted : {A : Type 0} → List ℕ → (ℕ → Reading A) → ℕ → Reading (List A)
read_counted ws item at = read_word ws at >>= λ n p. read_list item n p

-- 0 PUB, 1 PRIV
unfoldable pub visibility_of : ℕ → Visibility
visibility_of v = pick (eqb v pub_word) PUB PRIV

unfoldable pub read_visibility : List ℕ → ℕ → Reading Visibility
read_visibility ws at = read_below visibility_count ws at >>= λ v p. got (visibility_of v) p

-- `bound` is the number of names, `name` what each stands for, `type` reads a type that stands inside no other
module _ {N : Type 0} (bound : ℕ) (ws : List ℕ) (name : ℕ → N) (type : ℕ → Reading (Ty N)) where
  unfoldable pub read_name : ℕ → Reading N
  read_name at = read_below bound ws at >>= λ x p. got (name x) p

  -- "n times (name, m, m names)": one of them
  unfoldable pub read_attribute : ℕ → Reading (Attribute N)
  read_attribute at = read_name at >>= λ x p. read_counted ws read_name p >>= λ xs q. got (record { name = x; derived = xs }) q

  -- "n times (name, m, m types)": one of them, as a form has its entries
  unfoldable pub read_entry_of : Entries → ℕ → Reading (TypeParamDecl N)
  read_entry_of plain at = read_name at >>= λ x p. read_counted ws type p >>= λ ts q. got (record { name = x; constraints = ts }) q

  -- "n times (visibility, name if named, type)": one of them, and of a named one what stands behind the visibility
  unfoldable pub read_formal : ℕ → Reading (Formal N)
  read_formal at = read_name at >>= λ x p. type p >>= λ t q. got (record { name = x; tpe = t }) q

  unfoldable pub read_field : ℕ → Reading (Field N)
  read_field at = read_visibility ws at >>= λ v p. read_formal p >>= λ f q. got (record { visibility = v; formal = f }) q

  unfoldable pub read_nameless_field : ℕ → Reading (NamelessField N)
  read_nameless_field at = read_visibility ws at >>= λ v p. type p >>= λ t q. got (record { visibility = v; tpe = t }) q

  -- 0 named, 1 nameless
  unfoldable pub read_fields : ℕ → Reading (Fields N)
  read_fields at =
      read_below field_kinds ws at >>= λ k p.
      pick (eqb k named_kind) (read_counted ws read_field p >>= λ xs q. got (NamedFields xs) q) (read_counted ws read_nameless_field p >>= λ xs q. got (NamelessFields xs) q)

  -- "doc, name, fields" of a case
  unfoldable pub read_case : ℕ → Reading (EnumCase N)
  read_case at =
      read_name at >>= λ d p. read_name p >>= λ x q. read_fields q >>= λ fs r.
      got (record { doc_string = d; name = x; fields = fs }) r

  -- "28 `Use`: visibility, path"
  unfoldable pub read_use : ℕ → Reading (Use N)
  read_use at = read_visibility ws at >>= λ v p. read_path bound ws p >>= λ x q. got (record { visibility = v; path = path_of ws name x }) q

-- what has parameters, and the heads, in a form
module _ {N : Type 0} (form : Form) (bound : ℕ) (ws : List ℕ) (name : ℕ → N) (type : ℕ → Reading (Ty N)) where
  unfoldable pub read_parameter : ℕ → Reading (TypeParamDecl N)
  unfolding read_entry_of
  read_parameter at = read_entry_of bound ws name type form.entries at

  -- "25 `Struct`: doc, attributes, name, parameters, fields"
  unfoldable pub read_struct : ℕ → Reading (Struct N)
  read_struct at =
      read_name bound ws name type at >>= λ d p. read_counted ws (read_attribute bound ws name type) p >>= λ l q. read_name bound ws name type q >>= λ x r. read_counted ws read_parameter r >>= λ ps s.
      read_fields bound ws name type s >>= λ fs t. got (record { doc_string = d; attributes = l; name = x; type_params = ps; fields = fs }) t

  -- "26 `Enum`: doc, attributes, name, parameters, n, n times (doc, name, fields)"
  unfoldable pub read_enum : ℕ → Reading (Enum N)
  read_enum at =
      read_name bound ws name type at >>= λ d p. read_counted ws (read_attribute bound ws name type) p >>= λ l q. read_name bound ws name type q >>= λ x r. read_counted ws read_parameter r >>= λ ps s.
      read_counted ws (read_case bound ws name type) s >>= λ cs t. got (record { doc_string = d; attributes = l; name = x; type_params = ps; variants = cs }) t

  -- "27 `TypeSynonym`: doc, attributes, name, parameters, type"
  unfoldable pub read_type_synonym : ℕ → Reading (TypeSynonym N)
  read_type_synonym at =
      read_name bound ws name type at >>= λ d p. read_counted ws (read_attribute bound ws name type) p >>= λ l q. read_name bound ws name type q >>= λ x r. read_counted ws read_parameter r >>= λ ps s.
      type s >>= λ t u. got (record { doc_string = d; attributes = l; name = x; type_params = ps; tpe = t }) u

  -- what follows the head w
  unfoldable pub declaration_after : ℕ → ℕ → Reading (Declaration N)
  declaration_after w p =
      pick (eqb w form.struct_head) (read_struct p >>= λ s q. got (StructDecl s) q)
      (pick (eqb w form.enum_head) (read_enum p >>= λ e q. got (EnumDecl e) q)
      (pick (eqb w form.synonym_head) (read_type_synonym p >>= λ t q. got (TypeDecl t) q)
      (pick (eqb w form.use_head) (read_use bound ws name type p >>= λ u q. got (UseDecl u) q)
      (stop UnknownWord))))

  unfoldable pub read_declaration : ℕ → Reading (Declaration N)
  read_declaration at = read_word ws at >>= λ w p. declaration_after w p

-- the declaration that stands at a position of an encoding
abbrev pub declaration_at : List ℕ → List ℕ → Bytes → ℕ → Reading (Declaration Bytes)
declaration_at ws pairs text at = read_declaration present (name_count pairs) ws (name_bytes pairs text) (type_at ws pairs text) at

-- the declaration that an encoding holds
unfoldable pub declaration_of : List ℕ → List ℕ → Bytes → Answer (Declaration Bytes)
declaration_of words pairs text = unless (check_tables words pairs text) (whole (length words) (declaration_at words pairs text 0))
