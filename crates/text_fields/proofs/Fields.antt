-- Fields and lists of fields, from the texts of their parts.
use Rattle.std.specs.Prelude.{Ok, Err, Result, IsErrAnd}
use Prim.Native.Nat.{ℕ, ◌+◌, ◌*◌, ◌≤◌, ◌<◌}
use mathlib.Core.Path.{◌≡◌, refl, ap, sym, ◌∙◌, subst}
use mathlib.Core.Logic.{◌⊎◌, inl, inr}
use mathlib.Core.Bool.{Bool, true, false}
use mathlib.Core.List.{List, ◌∷◌, ◌++◌, append_assoc}
use native.Mathlib.Numerals.{add-one}
use native.Mathlib.Omega.{arith}
use lib.ListN.{length, length-append}
use Rattle.rast.specs.Bytes.{Bytes, ascii}
use Rattle.rast.specs.Tree.{Ty}
use Rattle.rast.specs.ToString.{Type-to_string}
use Rattle.rast.specs.Indent.{IND, indent, SeqToString}
use Rattle.rast.specs.Declaration.{NamedFields, NamelessFields}
use Rattle.rast.specs.DeclarationToString.{Visibility-to_string, Formal-to_string, Field-to_string, NamelessField-to_string, separator_text, begin_space, end_space, Fields-to_string}
use Rattle.buffer.specs.Wrote.{Wrote}
use Rattle.buffer.proofs.Laws.{wrote_as}
use Rattle.text_doc.proofs.Laying.{indent-length, line-size}
use Rattle.encoding.specs.declared.Refusal.{Refusal}
use Rattle.encoding.specs.Reading.{Reading, got}
use Rattle.encoding.specs.Scans.{map_reading}
use Rattle.encoding.specs.Tables.{name_bytes, name_count}
use Rattle.encoding.specs.Types.{type_at}
use Rattle.encoding.specs.Declarations.{read_list, read_visibility, read_formal, read_field, read_nameless_field}
use Rattle.encoding.proofs.Reading.{handed-on}
use Rattle.text_pass.specs.Passes.{last, ◌then◌, run, Came, came, Went, Along}
use Rattle.text_pass.specs.Texts.{visibility_at}
use Rattle.text_pass.proofs.Passes.{Runs, came-to}
use Rattle.text_pass.proofs.Leaves.{CountFirst, counted-first}
use Rattle.text_pass.proofs.Splits.{split₂, listed-read, listed_same, around, within_same}
use Rattle.text_fields.specs.declared.Entry.{Entry}
use Rattle.text_fields.specs.declared.Entry.TheVariants.{Named, Inline, Lined}
use Rattle.text_fields.specs.Texts.{line_text, are_named, entry_gap, list_front, list_end, no_fields, nameless_entry, field_at, rest_at, entry_at, entries_at, some_at, list_at}

-- the indent of the next level
pub indent-more : (level : ℕ) → indent (level + 1) ≡ indent level ++ IND
unfolding indent
indent-more level = rw (add-one level)

-- a comma, and the line behind it
pub comma-line : (level : ℕ) → separator_text (indent level) true ≡ ascii "," ++ (ascii "\n" ++ indent (level + 1))
unfolding separator_text ascii
comma-line level = rw (indent-more level)

-- what stands between fields on lines of their own
pub lined-gap : {entry : Entry} (level : ℕ) → (entry ≡ Named) ⊎ (entry ≡ Lined) → entry_gap entry level ≡ separator_text (indent level) true
unfolding entry_gap
lined-gap level (inl e) = rw e
lined-gap level (inr e) = rw e

-- ---- the lengths of fixed texts

pub comma-line-size : (level : ℕ) → length (separator_text (indent level) true) ≡ 6 + 4 * level
unfolding ascii
comma-line-size level = ap length (comma-line level) ∙ (let n = indent-length (level + 1) in omega (arith, n))

pub front-size : (level : ℕ) → length (list_front true level) ≡ 7 + 4 * level
unfolding list_front ascii
front-size level = let n = indent-length (level + 1) in omega (arith, n)

pub end-size : (level : ℕ) → length (list_end true level) ≡ 2 + 4 * level
unfolding list_end ascii
end-size level = let n = line-size level in let l = length-append (line_text level) (ascii "}") in omega (arith, n, l)

-- ---- the size of a text, and its room

-- the length of a text, by what is known of what decides it
pub size_of : {A : Type 0} (f : A → Bytes) {a b : A} {n : ℕ} → a ≡ b → length (f b) ≡ n → n ≡ length (f a)
size_of {A} f e d = sym d ∙ ap (λ (c : A). length (f c)) (sym e)

-- the room for a text, and that it is written, likewise
pub room_of : {A : Type 0} (f : A → Bytes) (p : ℕ) (o : List ℕ) {a b : A} → a ≡ b → p + length (f a) ≤ length o → p + length (f b) ≤ length o
room_of {A} f p o e h = subst (λ (c : A). p + length (f c) ≤ length o) e h

pub wrote_of : {A : Type 0} (f : A → Bytes) {o o' : List ℕ} {p p' : ℕ} {a b : A} → a ≡ b → Wrote o p (f b) o' p' → Wrote o p (f a) o' p'
wrote_of f e w = wrote_as (ap f (sym e)) w

-- what was left of a text is written: so is the text
pub along-came : {o o₁ o₂ : List ℕ} {p p₁ n q : ℕ} {whole left : Reading Bytes} → Along true o p whole o₁ p₁ left → Came true o₁ p₁ left o₂ n q → Came true o p whole o₂ n q
along-came {o₂ = o₂} {n = n} {q = q} a c = came-to (a.ends o₂ (Ok (n, q)) (came c)) refl

-- a `?` hands on what is said of a part that stopped
pub went-handed : {write : Bool} {o o' : List ℕ} {p : ℕ} {x : Reading Bytes} {r s : Result (ℕ × ℕ) Refusal} {k : Refusal} → r ≡ Err k → IsErrAnd s (λ u. u ≡ k) → Went write o p x o' r → Went write o p x o' s
went-handed {write} {o} {o'} {p} {x} d e w = subst (λ (z : Result (ℕ × ℕ) Refusal). Went write o p x o' z) (d ∙ sym (handed-on e)) w

-- ---- texts

-- the text of a list of named fields
braces : (ind s : Bytes) → ascii " {" ++ (ascii "\n" ++ ind ++ IND) ++ s ++ (ascii "\n" ++ ind) ++ ascii "}"
    ≡ (ascii " {" ++ (ascii "\n" ++ (ind ++ IND))) ++ (s ++ ((ascii "\n" ++ ind) ++ ascii "}"))
braces ind s = simp append_assoc

named-text : (level : ℕ) (s : Bytes) → ascii " {" ++ (ascii "\n" ++ indent level ++ IND) ++ s ++ (ascii "\n" ++ indent level) ++ ascii "}"
    ≡ (ascii " {" ++ line_text (level + 1)) ++ (s ++ (line_text level ++ ascii "}"))
named-text level s =
    braces (indent level) s ∙ ap (λ (b : Bytes). (ascii " {" ++ (ascii "\n" ++ b)) ++ (s ++ (line_text level ++ ascii "}"))) (sym (indent-more level))

module _ (ws pairs : List ℕ) (text : Bytes) where
  abbrev bound : ℕ
  bound = name_count pairs

  abbrev name : ℕ → Bytes
  name = name_bytes pairs text

  abbrev type : ℕ → Reading (Ty Bytes)
  type = type_at ws pairs text

  pub rest-as : {named b : Bool} (at : ℕ) → named ≡ b → rest_at ws pairs text named at ≡ rest_at ws pairs text b at
  rest-as at e = ap (λ (c : Bool). rest_at ws pairs text c at) e

  pub entry-as : {named b : Bool} (at : ℕ) → named ≡ b → field_at ws pairs text named at ≡ field_at ws pairs text b at
  entry-as at e = ap (λ (c : Bool). field_at ws pairs text c at) e

  pub field-runs : (named : Bool) (at : ℕ) → Runs (field_at ws pairs text named at) (visibility_at ws at then λ p. last (rest_at ws pairs text named p))
  unfolding read_field read_nameless_field Field-to_string NamelessField-to_string
  field-runs true at =
      split₂ (λ v f. record { visibility = v; formal = f }) Field-to_string Visibility-to_string Formal-to_string (λ v f. refl) (read_visibility ws at) (read_formal bound ws name type)
  field-runs false at =
      split₂ (λ v t. record { visibility = v; tpe = t }) NamelessField-to_string Visibility-to_string Type-to_string (λ v t. refl) (read_visibility ws at) type

  -- ---- n of a list

  named-read : (level n p : ℕ) → map_reading (SeqToString Field-to_string (separator_text (indent level) true)) (read_list (read_field bound ws name type) n p) ≡ entries_at ws pairs text Named level n p
  unfolding entry_gap
  named-read level n p =
      listed-read Field-to_string (separator_text (indent level) true) (read_field bound ws name type) n p
      ∙ listed_same (separator_text (indent level) true) (field_at ws pairs text true) (entry_at ws pairs text Named) (λ q. refl) n p

  nameless-read : (newLine : Bool) (level n p : ℕ) → map_reading (SeqToString NamelessField-to_string (separator_text (indent level) newLine)) (read_list (read_nameless_field bound ws name type) n p)
      ≡ entries_at ws pairs text (nameless_entry newLine) level n p
  unfolding entry_gap
  nameless-read true level n p =
      listed-read NamelessField-to_string (separator_text (indent level) true) (read_nameless_field bound ws name type) n p
      ∙ listed_same (separator_text (indent level) true) (field_at ws pairs text false) (entry_at ws pairs text Lined) (λ q. refl) n p
  nameless-read false level n p =
      listed-read NamelessField-to_string (separator_text (indent level) false) (read_nameless_field bound ws name type) n p
      ∙ listed_same (separator_text (indent level) false) (field_at ws pairs text false) (entry_at ws pairs text Inline) (λ q. refl) n p

  -- ---- how many, and then these

  named_some : (level n p : ℕ) → 0 < n → map_reading (λ l. Fields-to_string (indent level) true (NamedFields l)) (read_list (read_field bound ws name type) n p) ≡ some_at ws pairs text Named level n p
  unfolding Fields-to_string begin_space end_space list_front list_end
  named_some level n p h =
      around (λ l. Fields-to_string (indent level) true (NamedFields l)) (SeqToString Field-to_string (separator_text (indent level) true)) (ascii " {" ++ line_text (level + 1)) (line_text level ++ ascii "}")
      (λ x l. named-text level (SeqToString Field-to_string (separator_text (indent level) true) (x ∷ l))) (read_field bound ws name type) n p h
      ∙ within_same (ascii " {" ++ line_text (level + 1)) (line_text level ++ ascii "}") p
      (λ q. map_reading (SeqToString Field-to_string (separator_text (indent level) true)) (read_list (read_field bound ws name type) n q)) (entries_at ws pairs text Named level n) (named-read level n p)

  nameless-some : (newLine : Bool) (level n p : ℕ) → 0 < n
      → map_reading (λ l. Fields-to_string (indent level) newLine (NamelessFields l)) (read_list (read_nameless_field bound ws name type) n p)
      ≡ run (got (ascii "(") p then λ q. entries_at ws pairs text (nameless_entry newLine) level n q then λ r. last (got (ascii ")") r))
  unfolding Fields-to_string ascii
  nameless-some newLine level n p h =
      around (λ l. Fields-to_string (indent level) newLine (NamelessFields l)) (SeqToString NamelessField-to_string (separator_text (indent level) newLine)) (ascii "(") (ascii ")") (λ x l. refl)
      (read_nameless_field bound ws name type) n p h
      ∙ within_same (ascii "(") (ascii ")") p (λ q. map_reading (SeqToString NamelessField-to_string (separator_text (indent level) newLine)) (read_list (read_nameless_field bound ws name type) n q))
      (entries_at ws pairs text (nameless_entry newLine) level n) (nameless-read newLine level n p)

  pub list-first : (entry : Entry) (level at : ℕ) → CountFirst ws at (list_at ws pairs text entry level at) (no_fields (are_named entry)) (λ n p. last (some_at ws pairs text entry level n p))
  unfolding no_fields Fields-to_string SeqToString ascii list_front list_end run
  list-first Named level at = counted-first (λ l. Fields-to_string (indent level) true (NamedFields l)) ws (read_field bound ws name type) at (named_some level)
  list-first Inline level at = counted-first (λ l. Fields-to_string (indent level) false (NamelessFields l)) ws (read_nameless_field bound ws name type) at (nameless-some false level)
  list-first Lined level at = counted-first (λ l. Fields-to_string (indent level) true (NamelessFields l)) ws (read_nameless_field bound ws name type) at (nameless-some true level)

  -- ---- a list that is not empty, as a chain

  pub some_runs : (entry : Entry) (level n at : ℕ) {named : Bool} → named ≡ are_named entry → Runs (some_at ws pairs text entry level n at)
      (got (list_front named level) at then λ p. entries_at ws pairs text entry level n p then λ q. last (got (list_end named level) q))
  some_runs entry level n at e = record { same = ap (λ (b : Bool). run (got (list_front b level) at then λ p. entries_at ws pairs text entry level n p then λ q. last (got (list_end b level) q))) (sym e) }
