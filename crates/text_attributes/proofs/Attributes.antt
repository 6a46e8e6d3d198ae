-- Attributes and lists of them, from the texts of their parts.
use Prim.Native.Nat.{ℕ, ◌+◌, ◌*◌, ◌<◌}
use mathlib.Core.Path.{◌≡◌, refl, ◌∙◌}
use mathlib.Core.Bool.{true, false}
use mathlib.Core.List.{List, [], ◌++◌, append_assoc}
use native.Mathlib.Omega.{arith}
use lib.ListN.{length}
use Rattle.rast.specs.Bytes.{Bytes, ascii}
use Rattle.rast.specs.Indent.{indent, SeqToString}
use Rattle.rast.specs.Declaration.{Attribute}
use Rattle.rast.specs.DeclarationToString.{derived_text, Attribute-to_string, Attribute-to_string_multiple}
use Rattle.buffer.specs.Laid.{clamp}
use Rattle.buffer.proofs.Passes.{laid-size}
use Rattle.text_doc.proofs.Laying.{indent-length}
use Rattle.encoding.specs.declared.Refusal.{Refusal}
use Rattle.encoding.specs.Reading.{Reading, got, stop, ◌>>=◌, read_word}
use Rattle.encoding.specs.Scans.{map_reading}
use Rattle.encoding.specs.Tables.{name_bytes, name_count}
use Rattle.encoding.specs.Types.{type_at}
use Rattle.encoding.specs.Declarations.{read_list, read_counted, read_attribute}
use Rattle.encoding.proofs.Reading.{map_same}
use Rattle.text_pass.specs.Passes.{last, ◌then◌, Ready, Came}
use Rattle.text_pass.specs.Texts.{name_at}
use Rattle.text_pass.proofs.Passes.{Runs, came-bytes}
use Rattle.text_pass.proofs.Splits.{shown-runs, shown-bytes, shown-text, shown-then, shown-end, listed-read, listed_same, around, counted-got, counted_stop, within_same}
use Rattle.text_pass.proofs.Leaves.{word_of, CountFirst, counted-first}
use Rattle.text_attributes.specs.Texts.{some_arguments, derived_at, attribute_at, some_attributes, attributes_at}

-- the end of an attribute's line, counted
pub counts-line : (level : ℕ) {p p' n : ℕ} → clamp p' ≡ clamp (p + (2 + 4 * level)) → Came false [] p (got (ascii "]" ++ (ascii "\n" ++ indent level)) n) [] n p'
unfolding ascii
counts-line level e =
    let s : 2 + 4 * level ≡ length (ascii "]" ++ (ascii "\n" ++ indent level)) = omega (arith, indent-length level) in
    came-bytes _ (laid-size refl e s)

-- an attribute on its line, from its name and its arguments
attribute-parts : (ind : Bytes) (at : ℕ) (x : Reading Bytes) (y : ℕ → Reading (List Bytes))
    → Runs (map_reading (λ a. Attribute-to_string a ++ ascii "\n" ++ ind) (x >>= λ n p. y p >>= λ l q. got (record { name = n; derived = l }) q))
    (got (ascii "#[") at then λ o. x then λ p. map_reading derived_text (y p) then λ q. last (got (ascii "]" ++ (ascii "\n" ++ ind)) q))
unfolding Attribute-to_string
attribute-parts ind at x y =
    shown-runs (shown-bytes (ascii "#[") at (shown-text x (λ n p. shown-then derived_text (y p) (λ l q. shown-end (record { name = n; derived = l }) (ascii "]" ++ (ascii "\n" ++ ind)) q (text n (derived_text l))))))
  where
    text : (n d : Bytes) → ascii "#[" ++ n ++ d ++ ascii "]" ++ ascii "\n" ++ ind ≡ ascii "#[" ++ n ++ d ++ (ascii "]" ++ (ascii "\n" ++ ind))
    text n d = simp append_assoc

module _ (ws pairs : List ℕ) (text : Bytes) where
  abbrev attribute : ℕ → Reading (Attribute Bytes)
  attribute = read_attribute (name_count pairs) ws (name_bytes pairs text) (type_at ws pairs text)

  arguments-read : (n p : ℕ) → map_reading (SeqToString (λ y. y) (ascii ", ")) (read_list (name_at ws pairs text) n p) ≡ some_arguments ws pairs text n p
  arguments-read n p =
      listed-read (λ y. y) (ascii ", ") (name_at ws pairs text) n p
      ∙ listed_same (ascii ", ") (λ q. map_reading (λ y. y) (name_at ws pairs text q)) (name_at ws pairs text) (λ q. map_same (name_at ws pairs text q)) n p

  pub derived-first : (at : ℕ) → CountFirst ws at (derived_at ws pairs text at) [] (λ n p. got (ascii "(") p then λ q. some_arguments ws pairs text n q then λ r. last (got (ascii ")") r))
  unfolding derived_text ascii
  derived-first at =
      counted-first derived_text ws (name_at ws pairs text) at (λ n p h.
      around derived_text (SeqToString (λ y. y) (ascii ", ")) (ascii "(") (ascii ")") (λ x l. refl) (name_at ws pairs text) n p h
      ∙ within_same (ascii "(") (ascii ")") p (λ q. map_reading (SeqToString (λ y. y) (ascii ", ")) (read_list (name_at ws pairs text) n q)) (some_arguments ws pairs text n) (arguments-read n p))

  pub attributes-read : (level at : ℕ) {n p : ℕ} → read_word ws at ≡ got n p → attributes_at ws pairs text level at ≡ some_attributes ws pairs text level n p
  unfolding Attribute-to_string_multiple ascii
  attributes-read level at {n} {p} e =
      counted-got (Attribute-to_string_multiple (indent level)) ws attribute at e
      ∙ listed-read (λ a. Attribute-to_string a ++ ascii "\n" ++ indent level) [] attribute n p

  pub attributes-stop : (level at : ℕ) {k : Refusal} → read_word ws at ≡ stop k → attributes_at ws pairs text level at ≡ stop k
  attributes-stop level at e = counted_stop (Attribute-to_string_multiple (indent level)) ws attribute at e

  pub attributes-there : {o : List ℕ} {p : ℕ} (level at : ℕ) → Ready true o p (attributes_at ws pairs text level at) → at < length ws
  attributes-there level at r = word_of ws at _ (λ k e. attributes-stop level at e) r

  pub attribute-runs : (level at : ℕ) → Runs (attribute_at ws pairs text level at)
      (got (ascii "#[") at then λ o. name_at ws pairs text at then λ p. derived_at ws pairs text p then λ q. last (got (ascii "]" ++ (ascii "\n" ++ indent level)) q))
  unfolding read_attribute
  attribute-runs level at = attribute-parts (indent level) at (name_at ws pairs text at) (read_counted ws (name_at ws pairs text))
