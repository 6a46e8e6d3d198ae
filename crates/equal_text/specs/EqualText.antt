-- Document 01's demand on sound types: equal text exactly when equal trees, once wrappers have given way to their displays.
use Rattle.std.specs.Prelude.{Ok, ℕ, ◌≡◌, Bool, true, List, ◌↔◌}
use Rattle.rast.specs.Bytes.{Bytes}
use Rattle.rast.specs.Tree.{Ty}
use Rattle.rast.specs.Sound.{bare}
use Rattle.encoding.specs.Refusals.{Answer, map_answer}
use Rattle.encoding.specs.Types.{type_of}
use Rattle.text_calls.specs.Calls.{type_text}
use Rattle.sound_type.specs.Calls.{type_is_sound}

-- what a caller holds
pub record Encoding : Type 0 where
  pub words : List ℕ
  pub pairs : List ℕ
  pub text : Bytes

-- the text call's own text: whole, however short a buffer is lent
abbrev pub text_of : Encoding → ℕ → Answer Bytes
text_of e level = type_text e.words e.pairs e.text level

-- the soundness call's own answer
abbrev pub soundness_of : Encoding → Answer Bool
soundness_of e = type_is_sound e.words e.pairs e.text

-- the type without wrappers at any depth; its names and sizes are bytes
unfoldable pub bare_type_of : Encoding → Answer (Ty Bytes)
bare_type_of e = map_answer bare (type_of e.words e.pairs e.text)

-- any two encodings, accepted at any two levels and sound
abbrev pub EqualTextEqualTree : Type 0
EqualTextEqualTree =
    (e₁ e₂ : Encoding) (level₁ level₂ : ℕ) (text₁ text₂ : Bytes)
    → text_of e₁ level₁ ≡ Ok text₁ → text_of e₂ level₂ ≡ Ok text₂
    → soundness_of e₁ ≡ Ok true → soundness_of e₂ ≡ Ok true
    → (text₁ ≡ text₂) ↔ (bare_type_of e₁ ≡ bare_type_of e₂)
