-- Declarations from the texts of their parts.
use Prim.Native.Nat.{ℕ, ◌+◌, ◌≤◌, ◌<◌}
use mathlib.Core.Path.{◌≡◌, refl, ap, sym, ◌∙◌, subst}
use mathlib.Core.Logic.{◌⊎◌, inl, inr}
use mathlib.Core.Bool.{Bool, true, false}
use mathlib.Core.List.{List, [], ◌++◌, append_assoc, append-nil}
use native.Mathlib.Omega.{arith}
use native.Mathlib.Decide.{ℕ_discrete}
use borrow.Author.Tests.{eq-eqb, ne_eqb}
use Rattle.rast.specs.Bytes.{Bytes, ascii}
use Rattle.rast.specs.Tree.{Ty}
use Rattle.rast.specs.ToString.{Path-to_string, Type-to_string}
use Rattle.rast.specs.Indent.{IND, indent, SeqToString}
use Rattle.rast.specs.Doc.{ToDocstringPrefix}
use Rattle.rast.specs.Declaration.{Visibility, Fields, NamedFields, NamelessFields, EnumCase, StructDecl, EnumDecl, TypeDecl, UseDecl}
use Rattle.rast.specs.DeclarationToString.{Visibility-to_string, Attribute-to_string_multiple, TypeParamDecl-to_string_multiple, Fields-to_string, struct_fields_text, EnumCase-to_string, Struct-to_string, Enum-to_string, TypeSynonym-to_string, Use-to_string, Declaration-to_string}
use Rattle.encoding.specs.declared.Refusal.{Refusal}
use Rattle.encoding.specs.declared.Refusal.TheVariants.{UnknownWord}
use Rattle.encoding.specs.declared.PathAt.{PathAt}
use Rattle.encoding.specs.Reading.{Reading, got, stop, ◌>>=◌, read_word, read_below}
use Rattle.encoding.specs.Scans.{map_reading}
use Rattle.encoding.specs.Tables.{name_bytes, name_count}
use Rattle.encoding.specs.Heads.{read_path}
use Rattle.encoding.specs.Types.{path_of, type_at}
use Rattle.encoding.specs.Forms.{present}
use Rattle.encoding.specs.Declarations.{read_counted, read_visibility, read_attribute, read_parameter, read_field, read_nameless_field, read_fields, read_case, read_struct, read_enum, read_type_synonym, read_use, declaration_after, read_declaration}
use Rattle.encoding.proofs.Reading.{map_same}
use Rattle.text_pass.specs.Passes.{Chain, last, ◌then◌, run, Ready}
use Rattle.text_pass.specs.Texts.{name_at, type_text_at, path_text_at, visibility_at, doc_at}
use Rattle.text_pass.proofs.Passes.{Runs}
use Rattle.text_pass.proofs.Leaves.{BelowThere, below_of, CountFirst, counted-first}
use Rattle.text_pass.proofs.Splits.{map-made, nothing-behind, runs_as, split₃, split-front, text-before, text-behind, listed-read, map-alike}
use Rattle.text_attributes.specs.Texts.{attributes_at}
use Rattle.text_parameters.specs.Texts.{parameters_at}
use Rattle.text_fields.specs.declared.Entry.{Entry}
use Rattle.text_fields.specs.declared.Entry.TheVariants.{Named, Lined}
use Rattle.text_fields.specs.Texts.{line_text, nameless_entry, named_at, nameless_fields_at, list_at}
use Rattle.text_fields.proofs.Fields.{indent-more}
use Rattle.text_declaration.specs.Texts.{keyword_text, case_line_text, entry_of, fields_end, listed_at, fields_at, case_at, case_line_at, cases_at, variants_at, title_at, front_at, enum_body, synonym_body, body_at, fronted_at, use_at, after_at, declaration_text_at}

-- ---- chains, a text of theirs said in another way

second_alike : (x : Reading Bytes) (y z : ℕ → Reading Bytes) (k : ℕ → Chain) → ((p : ℕ) → y p ≡ z p) → run (x then λ p. y p then k) ≡ run (x then λ p. z p then k)
unfolding run
second_alike (got b p) y z k e = ap (λ (w : Reading Bytes). run (got b p then λ q. w then k)) (e p)
second_alike (stop r) y z k e = refl

last-alike : (x : Reading Bytes) (y m n : ℕ → Reading Bytes) → ((q : ℕ) → m q ≡ n q) → run (x then λ p. y p then λ q. last (m q)) ≡ run (x then λ p. y p then λ q. last (n q))
unfolding run
last-alike (got b p) y m n e = go (y p)
  where
    go : (w : Reading Bytes) → run (got b p then λ q. w then λ q. last (m q)) ≡ run (got b p then λ q. w then λ q. last (n q))
    go (got c q) = ap (λ (v : Reading Bytes). run (got b p then λ r. got c q then λ r. last v)) (e q)
    go (stop r) = refl
last-alike (stop r) y m n e = refl

end-alike : (x : Reading Bytes) (m n : ℕ → Reading Bytes) → ((q : ℕ) → m q ≡ n q) → run (x then λ q. last (m q)) ≡ run (x then λ q. last (n q))
unfolding run
end-alike (got b p) m n e = ap (λ (v : Reading Bytes). run (got b p then λ r. last v)) (e p)
end-alike (stop r) m n e = refl

-- the keyword of a head that is none of the first two
pub keyword-type : (head : ℕ) → (head ≡ 25 → ⊥) → (head ≡ 26 → ⊥) → keyword_text head ≡ ascii "pub type "
unfolding keyword_text
keyword-type head a b = rw (ne_eqb head 25 a, ne_eqb head 26 b)

-- ---- texts, their pieces put in another order of brackets

front-text : (d a w x p l : Bytes) → d ++ a ++ w ++ x ++ p ++ l ≡ d ++ (a ++ (w ++ (x ++ p))) ++ l
front-text d a w x p l = simp append_assoc

enum-text : (d a w x p o s l e : Bytes) → d ++ a ++ w ++ x ++ p ++ o ++ s ++ l ++ e ≡ d ++ (a ++ (w ++ (x ++ p))) ++ (o ++ (s ++ (l ++ e)))
enum-text d a w x p o s l e = simp append_assoc

enum-ending : (f n i e : Bytes) → f ++ n ++ i ++ e ≡ f ++ (n ++ i) ++ e
enum-ending f n i e = simp append_assoc

synonym-text : (d a w x p o s e : Bytes) → d ++ a ++ w ++ x ++ p ++ o ++ s ++ e ≡ d ++ (a ++ (w ++ (x ++ p))) ++ (o ++ (s ++ e))
synonym-text d a w x p o s e = simp append_assoc

line-text : (i e : Bytes) → ascii "\n" ++ i ++ IND ++ e ≡ ascii "\n" ++ (i ++ IND) ++ e
line-text i e = simp append_assoc

-- a list or a type, with fixed texts around it
enum-parts : {A : Type 0} (s : A → Bytes) (o l e : Bytes) (at : ℕ) (x : ℕ → Reading A)
    → map_reading (λ a. o ++ (s a ++ (l ++ e))) (x at) ≡ run (got o at then λ p. map_reading s (x p) then λ q. got l q then λ r. last (got e r))
unfolding map_reading run
enum-parts {A} s o l e at x = go (x at)
  where
    go : (y : Reading A) → map_reading (λ a. o ++ (s a ++ (l ++ e))) y ≡ run (got o at then λ p. map_reading s y then λ q. got l q then λ r. last (got e r))
    go (got a n) = refl
    go (stop k) = refl

synonym-parts : {A : Type 0} (s : A → Bytes) (o e : Bytes) (at : ℕ) (x : ℕ → Reading A)
    → map_reading (λ a. o ++ (s a ++ e)) (x at) ≡ run (got o at then λ p. map_reading s (x p) then λ q. last (got e q))
unfolding map_reading run
synonym-parts {A} s o e at x = go (x at)
  where
    go : (y : Reading A) → map_reading (λ a. o ++ (s a ++ e)) y ≡ run (got o at then λ p. map_reading s y then λ q. last (got e q))
    go (got a n) = refl
    go (stop k) = refl

-- a use line, from its visibility and its path
use-parts : (ws : List ℕ) (name : ℕ → Bytes) (x : Reading Visibility) (y : ℕ → Reading PathAt)
    → Runs (map_reading Use-to_string (x >>= λ v p. y p >>= λ u q. got (record { visibility = v; path = path_of ws name u }) q))
    (map_reading Visibility-to_string x then λ p. got (ascii "use ") p then λ q. map_reading (λ u. Path-to_string (path_of ws name u)) (y q) then λ r. last (got (ascii ";") r))
unfolding map_reading run Use-to_string
use-parts ws name (got v p) y = record { same = go (y p) }
  where
    text : (a b : Bytes) → a ++ ascii "use " ++ b ++ ascii ";" ≡ a ++ (ascii "use " ++ (b ++ ascii ";"))
    text a b = simp append_assoc

    go : (z : Reading PathAt) → map_reading Use-to_string (z >>= λ u q. got (record { visibility = v; path = path_of ws name u }) q)
        ≡ run (got (Visibility-to_string v) p then λ p. got (ascii "use ") p then λ q. map_reading (λ u. Path-to_string (path_of ws name u)) z then λ r. last (got (ascii ";") r))
    go (got u q) = ap (λ (b : Bytes). got b q) (text (Visibility-to_string v) (Path-to_string (path_of ws name u)))
    go (stop k) = refl
use-parts ws name (stop k) y = record { same = refl }

-- nothing stands behind fields on lines of their own
pub lined_end : {entry : Entry} → (entry ≡ Named) ⊎ (entry ≡ Lined) → fields_end entry ≡ []
unfolding fields_end ascii
lined_end (inl e) = rw e
lined_end (inr e) = rw e

-- what a list of fields is of
pub entry_named : {k : ℕ} (in_case : Bool) → k ≡ 0 → Named ≡ entry_of in_case k
entry_named {k} in_case z = rw (eq-eqb k 0 z)

pub entry-nameless : {k : ℕ} (in_case : Bool) → (k ≡ 0 → ⊥) → nameless_entry in_case ≡ entry_of in_case k
entry-nameless {k} in_case z = rw (ne_eqb k 0 z)

module _ (ws pairs : List ℕ) (text : Bytes) where
  abbrev bound : ℕ
  bound = name_count pairs

  abbrev name : ℕ → Bytes
  name = name_bytes pairs text

  abbrev type : ℕ → Reading (Ty Bytes)
  type = type_at ws pairs text

  -- ---- fields, by the word that says which they are

  module _ (level at : ℕ) {k p : ℕ} (e : read_below 2 ws at ≡ got k p) where
    -- any text of the fields
    as-named : (f : Fields Bytes → Bytes) → k ≡ 0 → map_reading f (read_fields bound ws name type at) ≡ map_reading (λ xs. f (NamedFields xs)) (read_counted ws (read_field bound ws name type) p)
    unfolding read_fields
    as-named f z = rw (e, eq-eqb k 0 z) (map-made f NamedFields (read_counted ws (read_field bound ws name type) p))

    as-nameless : (f : Fields Bytes → Bytes) → (k ≡ 0 → ⊥)
        → map_reading f (read_fields bound ws name type at) ≡ map_reading (λ xs. f (NamelessFields xs)) (read_counted ws (read_nameless_field bound ws name type) p)
    unfolding read_fields
    as-nameless f z = rw (e, ne_eqb k 0 z) (map-made f NamelessFields (read_counted ws (read_nameless_field bound ws name type) p))

    named-fields : (in_case : Bool) → k ≡ 0 → fields_at ws pairs text in_case level at ≡ named_at ws pairs text level p
    unfolding struct_fields_text ascii
    named-fields true z = as-named (Fields-to_string (indent level) true) z
    named-fields false z =
        as-named (struct_fields_text (indent level)) z
        ∙ map-alike (λ xs. append-nil (Fields-to_string (indent level) true (NamedFields xs))) (read_counted ws (read_field bound ws name type) p)

    nameless-fields : (in_case : Bool) → (k ≡ 0 → ⊥) → fields_at ws pairs text in_case level at ≡ listed_at ws pairs text (nameless_entry in_case) level p
    unfolding struct_fields_text fields_end ascii
    nameless-fields true z = as-nameless (Fields-to_string (indent level) true) z ∙ sym (nothing-behind (nameless_fields_at ws pairs text true level p))
    nameless-fields false z =
        as-nameless (struct_fields_text (indent level)) z
        ∙ (text-behind (ascii ";") (λ xs. Fields-to_string (indent level) false (NamelessFields xs)) (read_counted ws (read_nameless_field bound ws name type) p)).same

    pub fields-listed : (in_case : Bool) {entry : Entry} → entry ≡ entry_of in_case k → fields_at ws pairs text in_case level at ≡ listed_at ws pairs text entry level p
    unfolding fields_end ascii
    fields-listed in_case {entry} d = elim (ℕ_discrete k 0) [
      | yes z ↦ named-fields in_case z ∙ sym (nothing-behind (named_at ws pairs text level p)) ∙ ap (λ (x : Entry). listed_at ws pairs text x level p) (entry_named in_case z ∙ sym d)
      | no z ↦ nameless-fields in_case z ∙ ap (λ (x : Entry). listed_at ws pairs text x level p) (entry-nameless in_case z ∙ sym d)
    ]

    -- in a case nothing stands behind them
    pub case-listed : {entry : Entry} → entry ≡ entry_of true k → fields_at ws pairs text true level at ≡ list_at ws pairs text entry level p
    case-listed {entry} d = elim (ℕ_discrete k 0) [
      | yes z ↦ named-fields true z ∙ ap (λ (x : Entry). list_at ws pairs text x level p) (entry_named true z ∙ sym d)
      | no z ↦ as-nameless (Fields-to_string (indent level) true) z ∙ ap (λ (x : Entry). list_at ws pairs text x level p) (entry-nameless true z ∙ sym d)
    ]

  pub fields-stop : (in_case : Bool) (level at : ℕ) {k : Refusal} → read_below 2 ws at ≡ stop k → fields_at ws pairs text in_case level at ≡ stop k
  unfolding read_fields map_reading
  fields-stop in_case level at e = rw e

  pub listed-runs : (entry : Entry) (level at : ℕ) → Runs (listed_at ws pairs text entry level at) (list_at ws pairs text entry level at then λ p. last (got (fields_end entry) p))
  listed-runs entry level at = record { same = refl }

  -- the word that says which they are was accepted
  pub fields-there : (level at : ℕ) {o : List ℕ} {p : ℕ} → Ready true o p (fields_at ws pairs text true level at) → BelowThere 2 ws at
  fields-there level at r = below_of 2 ws at (fields_at ws pairs text true level at) (λ k e. fields-stop true level at e) r

  -- ---- the cases of an enum

  pub case-runs : (level at : ℕ) → Runs (case_at ws pairs text level at) (doc_at ws pairs text level at then λ p. name_at ws pairs text p then λ q. last (fields_at ws pairs text true level q))
  unfolding read_case EnumCase-to_string
  case-runs level at = record {
    same = (split₃ (λ d x fs. record { doc_string = d; name = x; fields = fs }) (EnumCase-to_string (indent level) true) (λ d. ToDocstringPrefix d (indent level)) (λ y. y) (Fields-to_string (indent level) true)
        (λ d x fs. append_assoc (ToDocstringPrefix d (indent level)) x (Fields-to_string (indent level) true fs))
        (name_at ws pairs text at) (name_at ws pairs text) (read_fields bound ws name type)).same
        ∙ second_alike (doc_at ws pairs text level at) (λ p. map_reading (λ y. y) (name_at ws pairs text p)) (name_at ws pairs text) (λ q. last (fields_at ws pairs text true level q)) (λ p. map_same (name_at ws pairs text p));
  }

  pub case-line-runs : (level at : ℕ) → Runs (case_line_at ws pairs text level at) (got (line_text (level + 1)) at then λ p. last (case_at ws pairs text (level + 1) at))
  case-line-runs level at = record {
    same = map-alike (λ c. line c) (read_case bound ws name type at)
        ∙ (text-before (line_text (level + 1)) (EnumCase-to_string (indent (level + 1)) true) at (read_case bound ws name type at)).same;
  }
    where
      line : (c : EnumCase Bytes) → case_line_text (indent level) c ≡ line_text (level + 1) ++ EnumCase-to_string (indent (level + 1)) true c
      line c =
          line-text (indent level) (EnumCase-to_string (indent level ++ IND) true c)
          ∙ ap (λ (i : Bytes). ascii "\n" ++ i ++ EnumCase-to_string i true c) (sym (indent-more level))

  pub variants-first : (level at : ℕ) → CountFirst ws at (variants_at ws pairs text level at) [] (λ n p. last (cases_at ws pairs text level n p))
  unfolding SeqToString ascii run
  variants-first level at =
      counted-first (SeqToString (case_line_text (indent level)) (ascii ",")) ws (read_case bound ws name type) at
      (λ n p h. listed-read (case_line_text (indent level)) (ascii ",") (read_case bound ws name type) n p)

  -- ---- what a struct, an enum and a type synonym begin with

  pub title-runs : (head at : ℕ) → Runs (title_at ws pairs text head at) (got (keyword_text head) at then λ p. name_at ws pairs text p then λ q. last (parameters_at ws pairs text q))
  title-runs head at = record { same = refl }

  pub front-runs : (head level at : ℕ) → Runs (front_at ws pairs text head level at) (doc_at ws pairs text level at then λ p. attributes_at ws pairs text level p then λ q. last (title_at ws pairs text head q))
  front-runs head level at = record { same = refl }

  front-alike : (head level at : ℕ)
      → run (doc_at ws pairs text level at then λ p. attributes_at ws pairs text level p then λ q.
      last (run (got (keyword_text head) q then λ r. map_reading (λ y. y) (name_at ws pairs text r) then λ s. last (parameters_at ws pairs text s))))
      ≡ front_at ws pairs text head level at
  front-alike head level at =
      last-alike (doc_at ws pairs text level at) (attributes_at ws pairs text level)
      (λ q. run (got (keyword_text head) q then λ r. map_reading (λ y. y) (name_at ws pairs text r) then λ s. last (parameters_at ws pairs text s))) (title_at ws pairs text head)
      (λ q. second_alike (got (keyword_text head) q) (λ r. map_reading (λ y. y) (name_at ws pairs text r)) (name_at ws pairs text) (λ s. last (parameters_at ws pairs text s)) (λ r. map_same (name_at ws pairs text r)))

  abbrev struct_at : ℕ → ℕ → Reading Bytes
  struct_at level at = map_reading (Struct-to_string (indent level)) (read_struct present bound ws name type at)

  abbrev enum_at : ℕ → ℕ → Reading Bytes
  enum_at level at = map_reading (Enum-to_string (indent level)) (read_enum present bound ws name type at)

  abbrev synonym_at : ℕ → ℕ → Reading Bytes
  synonym_at level at = map_reading (TypeSynonym-to_string (indent level)) (read_type_synonym present bound ws name type at)

  struct_runs : (level at : ℕ) → Runs (struct_at level at) (front_at ws pairs text 25 level at then λ p. last (fields_at ws pairs text false level p))
  unfolding read_struct Struct-to_string keyword_text
  struct_runs level at =
      runs_as (front-alike 25 level at)
      (split-front (λ d l x ps fs. record { doc_string = d; attributes = l; name = x; type_params = ps; fields = fs }) (Struct-to_string (indent level))
      (λ d. ToDocstringPrefix d (indent level)) (Attribute-to_string_multiple (indent level)) (ascii "pub struct ") (λ y. y) TypeParamDecl-to_string_multiple (struct_fields_text (indent level))
      (λ d l x ps fs. front-text (ToDocstringPrefix d (indent level)) (Attribute-to_string_multiple (indent level) l) (ascii "pub struct ") x (TypeParamDecl-to_string_multiple ps) (struct_fields_text (indent level) fs))
      (read_counted ws (read_attribute bound ws name type)) (name_at ws pairs text) (read_counted ws (read_parameter present bound ws name type)) (read_fields bound ws name type) (name_at ws pairs text at))

  enum_text : ℕ → List (EnumCase Bytes) → Bytes
  enum_text level cs = ascii " {" ++ (SeqToString (case_line_text (indent level)) (ascii ",") cs ++ (line_text level ++ ascii "}"))

  enum-runs : (level at : ℕ) → Runs (enum_at level at) (front_at ws pairs text 26 level at then λ p. last (enum_body ws pairs text level p))
  unfolding read_enum Enum-to_string keyword_text enum_text
  enum-runs level at = record {
    same = (runs_as (front-alike 26 level at)
        (split-front (λ d l x ps cs. record { doc_string = d; attributes = l; name = x; type_params = ps; variants = cs }) (Enum-to_string (indent level))
        (λ d. ToDocstringPrefix d (indent level)) (Attribute-to_string_multiple (indent level)) (ascii "pub enum ") (λ y. y) TypeParamDecl-to_string_multiple (enum_text level)
        (λ d l x ps cs. whole (ToDocstringPrefix d (indent level)) (Attribute-to_string_multiple (indent level) l) x (TypeParamDecl-to_string_multiple ps) (SeqToString (case_line_text (indent level)) (ascii ",") cs))
        (read_counted ws (read_attribute bound ws name type)) (name_at ws pairs text) (read_counted ws (read_parameter present bound ws name type)) (read_counted ws (read_case bound ws name type)) (name_at ws pairs text at))).same
        ∙ end-alike (front_at ws pairs text 26 level at) (λ p. map_reading (enum_text level) (read_counted ws (read_case bound ws name type) p)) (enum_body ws pairs text level)
        (λ p. enum-parts (SeqToString (case_line_text (indent level)) (ascii ",")) (ascii " {") (line_text level) (ascii "}") p (read_counted ws (read_case bound ws name type)));
  }
    where
      whole : (d a x p s : Bytes) → d ++ a ++ ascii "pub enum " ++ x ++ p ++ ascii " {" ++ s ++ ascii "\n" ++ indent level ++ ascii "}"
          ≡ d ++ (a ++ (ascii "pub enum " ++ (x ++ p))) ++ (ascii " {" ++ (s ++ (ascii "\n" ++ indent level ++ ascii "}")))
      whole d a x p s =
          enum-ending (d ++ a ++ ascii "pub enum " ++ x ++ p ++ ascii " {" ++ s) (ascii "\n") (indent level) (ascii "}")
          ∙ enum-text d a (ascii "pub enum ") x p (ascii " {") s (ascii "\n" ++ indent level) (ascii "}")

  synonym_text : Ty Bytes → Bytes
  synonym_text t = ascii " = " ++ (Type-to_string t ++ ascii ";")

  synonym-runs : (level at : ℕ) → Runs (synonym_at level at) (front_at ws pairs text 27 level at then λ p. last (synonym_body ws pairs text p))
  unfolding read_type_synonym TypeSynonym-to_string keyword_text synonym_text
  synonym-runs level at = record {
    same = (runs_as (front-alike 27 level at)
        (split-front (λ d l x ps t. record { doc_string = d; attributes = l; name = x; type_params = ps; tpe = t }) (TypeSynonym-to_string (indent level))
        (λ d. ToDocstringPrefix d (indent level)) (Attribute-to_string_multiple (indent level)) (ascii "pub type ") (λ y. y) TypeParamDecl-to_string_multiple synonym_text
        (λ d l x ps t. synonym-text (ToDocstringPrefix d (indent level)) (Attribute-to_string_multiple (indent level) l) (ascii "pub type ") x (TypeParamDecl-to_string_multiple ps) (ascii " = ") (Type-to_string t) (ascii ";"))
        (read_counted ws (read_attribute bound ws name type)) (name_at ws pairs text) (read_counted ws (read_parameter present bound ws name type)) type (name_at ws pairs text at))).same
        ∙ end-alike (front_at ws pairs text 27 level at) (λ p. map_reading synonym_text (type p)) (synonym_body ws pairs text)
        (λ p. synonym-parts Type-to_string (ascii " = ") (ascii ";") p type);
  }

  pub enum-body-runs : (level at : ℕ) → Runs (enum_body ws pairs text level at)
      (got (ascii " {") at then λ p. variants_at ws pairs text level p then λ q. got (line_text level) q then λ r. last (got (ascii "}") r))
  enum-body-runs level at = record { same = refl }

  pub synonym-body-runs : (at : ℕ) → Runs (synonym_body ws pairs text at) (got (ascii " = ") at then λ p. type_text_at ws pairs text p then λ q. last (got (ascii ";") q))
  synonym-body-runs at = record { same = refl }

  pub use-runs : (at : ℕ) → Runs (use_at ws pairs text at) (visibility_at ws at then λ p. got (ascii "use ") p then λ q. path_text_at ws pairs text q then λ r. last (got (ascii ";") r))
  unfolding read_use
  use-runs at = use-parts ws name (read_visibility ws at) (read_path bound ws)

  -- ---- by the head

  pub body-struct : (level at : ℕ) {head : ℕ} → head ≡ 25 → body_at ws pairs text head level at ≡ fields_at ws pairs text false level at
  body-struct level at e = ap (λ (w : ℕ). body_at ws pairs text w level at) e

  pub body-enum : (level at : ℕ) {head : ℕ} → head ≡ 26 → body_at ws pairs text head level at ≡ enum_body ws pairs text level at
  body-enum level at e = ap (λ (w : ℕ). body_at ws pairs text w level at) e

  pub body-synonym : (level at : ℕ) {head : ℕ} → (head ≡ 25 → ⊥) → (head ≡ 26 → ⊥) → body_at ws pairs text head level at ≡ synonym_body ws pairs text at
  body-synonym level at {head} a b = rw (ne_eqb head 25 a, ne_eqb head 26 b)

  pub fronted-runs : (head level at : ℕ) → Runs (fronted_at ws pairs text head level at) (front_at ws pairs text head level at then λ p. last (body_at ws pairs text head level p))
  fronted-runs head level at = record { same = refl }

  module _ (level at : ℕ) where
    after-struct : after_at ws pairs text 25 level at ≡ struct_at level at
    unfolding declaration_after Declaration-to_string
    after-struct = map-made (Declaration-to_string level) StructDecl (read_struct present bound ws name type at)

    after-enum : after_at ws pairs text 26 level at ≡ enum_at level at
    unfolding declaration_after Declaration-to_string
    after-enum = map-made (Declaration-to_string level) EnumDecl (read_enum present bound ws name type at)

    after-synonym : after_at ws pairs text 27 level at ≡ synonym_at level at
    unfolding declaration_after Declaration-to_string
    after-synonym = map-made (Declaration-to_string level) TypeDecl (read_type_synonym present bound ws name type at)

  module _ (level at : ℕ) {head : ℕ} where
    pub after-fronted : 25 ≤ head → head < 28 → after_at ws pairs text head level at ≡ fronted_at ws pairs text head level at
    after-fronted h k = go (ℕ_discrete head 25) (ℕ_discrete head 26)
      where
        by : (n : ℕ) → head ≡ n → after_at ws pairs text n level at ≡ fronted_at ws pairs text n level at → after_at ws pairs text head level at ≡ fronted_at ws pairs text head level at
        by n e f = subst (λ (w : ℕ). after_at ws pairs text w level at ≡ fronted_at ws pairs text w level at) (sym e) f

        go : Dec (head ≡ 25) → Dec (head ≡ 26) → after_at ws pairs text head level at ≡ fronted_at ws pairs text head level at
        go (yes e) d = by 25 e (after-struct level at ∙ (struct_runs level at).same)
        go (no a) (yes e) = by 26 e (after-enum level at ∙ (enum-runs level at).same)
        go (no a) (no b) = by 27 (let e : head ≡ 27 = omega arith in e) (after-synonym level at ∙ (synonym-runs level at).same)

    pub after-use : head ≡ 28 → after_at ws pairs text head level at ≡ use_at ws pairs text at
    unfolding declaration_after Declaration-to_string
    after-use e = ap (λ (w : ℕ). after_at ws pairs text w level at) e ∙ map-made (Declaration-to_string level) UseDecl (read_use bound ws name type at)

    after_none : (head ≡ 25 → ⊥) → (head ≡ 26 → ⊥) → (head ≡ 27 → ⊥) → (head ≡ 28 → ⊥) → after_at ws pairs text head level at ≡ stop UnknownWord
    unfolding declaration_after map_reading
    after_none a b c d = rw (ne_eqb head 25 a, ne_eqb head 26 b, ne_eqb head 27 c, ne_eqb head 28 d)

    pub after-below : head < 25 → after_at ws pairs text head level at ≡ stop UnknownWord
    after-below h = after_none (λ e. omega arith) (λ e. omega arith) (λ e. omega arith) (λ e. omega arith)

    pub after-above : 28 < head → after_at ws pairs text head level at ≡ stop UnknownWord
    after-above h = after_none (λ e. omega arith) (λ e. omega arith) (λ e. omega arith) (λ e. omega arith)

  pub declaration-got : (level at : ℕ) {w p : ℕ} → read_word ws at ≡ got w p → declaration_text_at ws pairs text level at ≡ after_at ws pairs text w level p
  unfolding read_declaration
  declaration-got level at e = rw e

  pub declaration-stop : (level at : ℕ) {k : Refusal} → read_word ws at ≡ stop k → declaration_text_at ws pairs text level at ≡ stop k
  unfolding read_declaration map_reading
  declaration-stop level at e = rw e
