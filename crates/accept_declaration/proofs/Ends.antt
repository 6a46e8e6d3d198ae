-- Where the parts of a declaration end, by the ends of what they consist of.
use Rattle.encoding.specs.declared.Refusal.{Refusal}
use Rattle.std.specs.Prelude.{Result}
use Prim.Native.Nat.{ℕ}
use mathlib.Core.Path.{◌≡◌, refl, ap, sym, ◌∙◌}
use mathlib.Core.Bool.{Bool, true, false}
use mathlib.Core.List.{List}
use borrow.Author.Tests.{ne_eqb, eq-eqb}
use lib.Dec.{eqb}
use Rattle.rast.specs.Bytes.{Bytes}
use Rattle.rast.specs.Declaration.{Attribute, TypeParamDecl, NamedFields, NamelessFields}
use Rattle.encoding.specs.declared.Refusal.TheVariants.{UnknownWord}
use Rattle.encoding.specs.Refusals.{pick}
use Rattle.encoding.specs.Reading.{Reading, got, stop, ◌>>=◌, read_word, read_below}
use Rattle.encoding.specs.Scans.{scan_of, ended}
use Rattle.encoding.specs.Tables.{name_bytes, name_count}
use Rattle.encoding.specs.Heads.{read_path}
use Rattle.encoding.specs.Types.{type_at}
use Rattle.encoding.specs.Forms.{present}
use Rattle.encoding.specs.Declarations.{read_list, read_counted, read_visibility, read_name, read_attribute, read_parameter, read_formal, read_field, read_nameless_field, read_fields, read_case, read_struct, read_enum, read_type_synonym, read_use, declaration_after}
use Rattle.declaration_walk.specs.Walks.{read_entry, read_two, two_scan, read_attributes}
use Rattle.accept_declaration.specs.Ends.{then_at, parameter_at, formal_at, field_at, nameless_at, field_end, each_field_end, fields_at, case_at, heading_end, struct_at, enum_at, synonym_at, use_end}
use Rattle.declaration_walk.proofs.Scans.{ended-made, ended-map, then_word, then_both, ended-word, ended-behind, counted-ended, behind-entry, behind-two, Each, list-each}
use Rattle.declaration_walk.proofs.Openings.{attributes-read, title_then}

-- the end of what follows does not depend on what was read first
ended-then : {A B : Type 0} (x : Reading A) (f : A → ℕ → Reading B) (g : ℕ → Result ℕ Refusal) → ((a : A) (n : ℕ) → ended (f a n) ≡ g n) → ended (x >>= f) ≡ then_at (ended x) g
ended-then (got a n) f g e = e a n
ended-then (stop r) f g e = refl

-- the same before h, where x ends at s
ended-before : {A B : Type 0} (x : Reading A) {s : Result ℕ Refusal} (f : A → ℕ → Reading B) (g h : ℕ → Result ℕ Refusal) → ended x ≡ s → ((a : A) (n : ℕ) → ended (f a n) ≡ then_at (g n) h)
    → ended (x >>= f) ≡ then_at (then_at s g) h
ended-before (got a n) f g h d e = e a n ∙ ap (λ t. then_at (then_at t g) h) d
ended-before (stop r) f g h d e = ap (λ t. then_at (then_at t g) h) d

-- the same, by the answer that stands for the word
behind-word : (x : Reading ℕ) (f : ℕ → Result ℕ Refusal) → then_at (ended x) f ≡ then_word (scan_of x) (λ a n. f n)
behind-word (got a n) f = refl
behind-word (stop r) f = refl

module _ (ws pairs : List ℕ) (text : Bytes) where
  -- ---- parameters

  -- a name, and a list behind it
  pub signature-ended : {A : Type 0} (item : ℕ → Reading A) (p : ℕ) {s : Result (ℕ × ℕ × ℕ) Refusal} → two_scan (read_entry (name_count pairs) ws p) ≡ s
      → then_at (ended (read_below (name_count pairs) ws p)) (λ q. ended (read_counted ws item q)) ≡ then_both s (λ x n q. ended (read_list item n q))
  signature-ended item p d =
      behind-word (read_below (name_count pairs) ws p) _
      ∙ behind-entry (name_count pairs) ws p (λ x q. ended (read_counted ws item q)) (λ x n q. ended (read_list item n q)) (λ x q. counted-ended ws item q refl) d

  pub parameter-ended : (p : ℕ) {s : Result (ℕ × ℕ × ℕ) Refusal} → two_scan (read_entry (name_count pairs) ws p) ≡ s → ended (parameter_at ws pairs text p) ≡ then_both s (λ x m q. ended (read_list (type_at ws pairs text) m q))
  unfolding read_parameter read_name
  parameter-ended p d =
      ended-behind (read_below (name_count pairs) ws p) _ _ (λ x q. ended (read_counted ws (type_at ws pairs text) q)) (λ x q. ended-made (read_counted ws (type_at ws pairs text) q) _)
      ∙ sym (behind-word (read_below (name_count pairs) ws p) (λ q. ended (read_counted ws (type_at ws pairs text) q)))
      ∙ signature-ended (type_at ws pairs text) p d

  -- ---- fields

  pub formal-ended : (p : ℕ) {s : Result (ℕ × ℕ) Refusal} → scan_of (read_below (name_count pairs) ws p) ≡ s → ended (formal_at ws pairs text p) ≡ then_word s (λ x q. ended (type_at ws pairs text q))
  unfolding read_formal read_name
  formal-ended p d = ended-behind (read_below (name_count pairs) ws p) _ _ _ (λ x q. ended-made (type_at ws pairs text q) _) ∙ ap (λ s. then_word s (λ x q. ended (type_at ws pairs text q))) d

  -- what stands behind a field's visibility
  abbrev member_end : ℕ → ℕ → Result ℕ Refusal
  member_end k q = pick (eqb k 0) (ended (formal_at ws pairs text q)) (ended (type_at ws pairs text q))

  pub named-member : (k q : ℕ) → k ≡ 0 → ended (formal_at ws pairs text q) ≡ member_end k q
  named-member k q h = rw (eq-eqb k 0 h)

  pub nameless-member : (k q : ℕ) → (k ≡ 0 → ⊥) → ended (type_at ws pairs text q) ≡ member_end k q
  nameless-member k q h = rw (ne_eqb k 0 h)

  pub field-ended : (k p : ℕ) {s : Result (ℕ × ℕ) Refusal} → scan_of (read_below 2 ws p) ≡ s → field_end ws pairs text k p ≡ then_word s (λ v q. member_end k q)
  unfolding read_field read_nameless_field read_visibility
  field-ended k p d = go (eqb k 0) ∙ ap (λ s. then_word s (λ v q. member_end k q)) d
    where
      go : (b : Bool) → pick b (ended (field_at ws pairs text p)) (ended (nameless_at ws pairs text p))
          ≡ then_word (scan_of (read_below 2 ws p)) (λ v q. pick b (ended (formal_at ws pairs text q)) (ended (type_at ws pairs text q)))
      go true = ended-behind (read_below 2 ws p) _ _ _ (λ v q. ended-made (formal_at ws pairs text q) _)
      go false = ended-behind (read_below 2 ws p) _ _ _ (λ v q. ended-made (type_at ws pairs text q) _)

  pub fields-each : (k : ℕ) → Each (field_end ws pairs text k) (each_field_end ws pairs text k)
  fields-each k = go (eqb k 0)
    where
      go : (b : Bool) → Each (λ p. pick b (ended (field_at ws pairs text p)) (ended (nameless_at ws pairs text p)))
          (λ n p. pick b (ended (read_list (field_at ws pairs text) n p)) (ended (read_list (nameless_at ws pairs text) n p)))
      go true = list-each (field_at ws pairs text)
      go false = list-each (nameless_at ws pairs text)

  pub fields-ended : (p : ℕ) {s : Result (ℕ × ℕ × ℕ) Refusal} → two_scan (read_entry 2 ws p) ≡ s → ended (fields_at ws pairs text p) ≡ then_both s (λ k n q. each_field_end ws pairs text k n q)
  unfolding read_fields
  fields-ended p d = ended-word (read_below 2 ws p) _ _ (λ k q. go q (eqb k 0)) ∙ behind-entry 2 ws p _ (λ k n q. each_field_end ws pairs text k n q) (λ k q. refl) d
    where
      go : (q : ℕ) (b : Bool)
          → ended (pick b (read_counted ws (field_at ws pairs text) q >>= λ xs r. got (NamedFields xs) r) (read_counted ws (nameless_at ws pairs text) q >>= λ xs r. got (NamelessFields xs) r))
          ≡ then_word (scan_of (read_word ws q)) (λ n r. pick b (ended (read_list (field_at ws pairs text) n r)) (ended (read_list (nameless_at ws pairs text) n r)))
      go q true = ended-made (read_counted ws (field_at ws pairs text) q) NamedFields ∙ counted-ended ws (field_at ws pairs text) q refl
      go q false = ended-made (read_counted ws (nameless_at ws pairs text) q) NamelessFields ∙ counted-ended ws (nameless_at ws pairs text) q refl

  -- ---- cases

  pub case-ended : (p : ℕ) {s : Result (ℕ × ℕ × ℕ) Refusal} → two_scan (read_two (name_count pairs) (name_count pairs) ws p) ≡ s → ended (case_at ws pairs text p) ≡ then_both s (λ d x q. ended (fields_at ws pairs text q))
  unfolding read_case read_name
  case-ended p d =
      ended-behind (read_below (name_count pairs) ws p) _ _ (λ c q. then_word (scan_of (read_below (name_count pairs) ws q)) (λ x r. ended (fields_at ws pairs text r)))
      (λ c q. ended-behind (read_below (name_count pairs) ws q) _ _ _ (λ x r. ended-made (fields_at ws pairs text r) _))
      ∙ behind-two (name_count pairs) ws p _ (λ c x q. ended (fields_at ws pairs text q)) (name_count pairs) (λ c q. refl) d

  -- ---- headings

  -- attributes end where they end by name numbers
  attributes-ended : (p : ℕ) → ended (read_counted ws (read_attribute (name_count pairs) ws (name_bytes pairs text) (type_at ws pairs text)) p) ≡ ended (read_attributes (name_count pairs) ws p)
  attributes-ended p = ap ended (attributes-read (name_count pairs) ws (name_bytes pairs text) (type_at ws pairs text) p) ∙ ended-map _ (read_attributes (name_count pairs) ws p)

  -- a heading that ends at s, and what follows it
  heading-ended : {B : Type 0} (last : Bytes → List (Attribute Bytes) → Bytes → List (TypeParamDecl Bytes) → ℕ → Reading B) (g : ℕ → Result ℕ Refusal)
      → ((d : Bytes) (l : List (Attribute Bytes)) (x : Bytes) (ps : List (TypeParamDecl Bytes)) (n : ℕ) → ended (last d l x ps n) ≡ g n) → (p : ℕ) {s : Result ℕ Refusal}
      → heading_end ws pairs text p ≡ s → ended (title_then (name_count pairs) ws (name_bytes pairs text) (type_at ws pairs text) last p) ≡ then_at s g
  unfolding read_name
  heading-ended last g e p k =
      let name = read_below (name_count pairs) ws in
      let named = read_name (name_count pairs) ws (name_bytes pairs text) (type_at ws pairs text) in
      let attributes = read_counted ws (read_attribute (name_count pairs) ws (name_bytes pairs text) (type_at ws pairs text)) in
      (ended-before (named p) _ _ g (ended-made (name p) _) λ d q.
      ended-before (attributes q) _ _ g (attributes-ended q) λ l r.
      ended-before (named r) _ _ g (ended-made (name r) _) λ x t.
      ended-then (read_counted ws (parameter_at ws pairs text) t) _ g λ ps n. e d l x ps n)
      ∙ ap (λ s. then_at s g) k

  pub struct-ended : (p : ℕ) {s : Result ℕ Refusal} → heading_end ws pairs text p ≡ s → ended (struct_at ws pairs text p) ≡ then_at s (λ q. ended (fields_at ws pairs text q))
  unfolding read_struct
  struct-ended p e = heading-ended _ _ (λ d l x ps n. ended-made (fields_at ws pairs text n) _) p e

  pub enum-ended : (p : ℕ) {s : Result ℕ Refusal} → heading_end ws pairs text p ≡ s → ended (enum_at ws pairs text p) ≡ then_at s (λ q. ended (read_counted ws (case_at ws pairs text) q))
  unfolding read_enum
  enum-ended p e = heading-ended _ _ (λ d l x ps n. ended-made (read_counted ws (case_at ws pairs text) n) _) p e

  pub synonym-ended : (p : ℕ) {s : Result ℕ Refusal} → heading_end ws pairs text p ≡ s → ended (synonym_at ws pairs text p) ≡ then_at s (λ q. ended (type_at ws pairs text q))
  unfolding read_type_synonym
  synonym-ended p e = heading-ended _ _ (λ d l x ps n. ended-made (type_at ws pairs text n) _) p e

  -- ---- uses, and other heads

  pub use-ended : (p : ℕ) → use_end (name_count pairs) ws p ≡ ended (read_use (name_count pairs) ws (name_bytes pairs text) (type_at ws pairs text) p)
  unfolding read_use read_visibility
  use-ended p =
      let path : ℕ → Result ℕ Refusal = λ q. ended (read_path (name_count pairs) ws q) in
      sym (ended-then (read_visibility ws p) _ path (λ v q. ended-made (read_path (name_count pairs) ws q) _) ∙ ap (λ s. then_at s path) (ended-made (read_below 2 ws p) _))

  pub head-unknown : (w p : ℕ) → (w ≡ present.struct_head → ⊥) → (w ≡ present.enum_head → ⊥) → (w ≡ present.synonym_head → ⊥) → (w ≡ present.use_head → ⊥)
      → declaration_after present (name_count pairs) ws (name_bytes pairs text) (type_at ws pairs text) w p ≡ stop UnknownWord
  unfolding declaration_after
  head-unknown w p a b c d = rw (ne_eqb w present.struct_head a, ne_eqb w present.enum_head b, ne_eqb w present.synonym_head c, ne_eqb w present.use_head d)
