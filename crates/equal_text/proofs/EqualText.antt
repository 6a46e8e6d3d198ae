-- Equal text, equal tree: what the calls give is the text and the soundness of one tree each, so the theorem over trees speaks of them.
use Rattle.encoding.specs.declared.Refusal.{Refusal}
use Rattle.std.specs.Prelude.{Ok, Err, Result}
use Prim.Native.Nat.{ℕ}
use mathlib.Core.Path.{◌≡◌, refl, ap, sym, ◌∙◌}
use mathlib.Core.Bool.{true}
use lib.Dec.{T}
use Rattle.rast.specs.Bytes.{Bytes}
use Rattle.rast.specs.Tree.{Ty}
use Rattle.rast.specs.ToString.{Type-to_string}
use Rattle.rast.specs.Sound.{bare, sound}
use Rattle.rast.proofs.Unique.{unique}
use Rattle.encoding.specs.Refusals.{Answer, map_answer, unless}
use Rattle.encoding.specs.Tables.{check_level}
use Rattle.encoding.specs.Types.{type_of}
use Rattle.encoding.proofs.Tables.{impossible}
use Rattle.text_calls.specs.Calls.{type_text}
use Rattle.sound_type.specs.Calls.{type_is_sound}
use Rattle.equal_text.specs.EqualText.{Encoding, text_of, soundness_of, bare_type_of, EqualTextEqualTree}

-- the tree behind both answers
record Holds (e : Encoding) (text : Bytes) : Type 0 where
  tree : Ty Bytes
  bares : bare_type_of e ≡ Ok (bare tree)
  prints : Type-to_string tree ≡ text
  sounds : T (sound tree)

behind : (e : Encoding) (text : Bytes) (level : Result (Unit {0}) Refusal) (x : Answer (Ty Bytes)) → x ≡ type_of e.words e.pairs e.text
    → unless level (map_answer Type-to_string x) ≡ Ok text → map_answer sound x ≡ Ok true → Holds e text
unfolding unless map_answer bare_type_of
behind e text (Ok tt) (Ok t) h p s = record { tree = t; bares = ap (map_answer bare) (sym h); prints = cc; sounds = let k : sound t ≡ true = cc in rw k tt }
behind e text (Ok tt) (Err r) h p s = impossible (cc)
behind e text (Err r) x h p s = impossible (cc)

holds : (e : Encoding) (level : ℕ) (text : Bytes) → text_of e level ≡ Ok text → soundness_of e ≡ Ok true → Holds e text
unfolding type_text type_is_sound
holds e level text p s = behind e text (check_level level) (type_of e.words e.pairs e.text) refl p s

pub equal-text-equal-tree : EqualTextEqualTree
equal-text-equal-tree e₁ e₂ l₁ l₂ b₁ b₂ p₁ p₂ s₁ s₂ =
    let h₁ = holds e₁ l₁ b₁ p₁ s₁ in
    let h₂ = holds e₂ l₂ b₂ p₂ s₂ in
    let u = unique h₁.tree h₂.tree h₁.sounds h₂.sounds in (
      λ e. h₁.bares ∙ ap Ok (u.0 (h₁.prints ∙ e ∙ sym h₂.prints)) ∙ sym h₂.bares,
      λ e. sym h₁.prints ∙ u.1 (cc) ∙ h₂.prints,
    )
