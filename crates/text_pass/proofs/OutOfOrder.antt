-- Texts out of the order of the words, by example: a type that is read before a visibility and shown behind it, and a list of names of which the empty ones do not show.
use Rattle.std.specs.Prelude.{Err, Result}
use Prim.Native.Nat.{ℕ}
use mathlib.Core.Path.{◌≡◌, refl}
use mathlib.Core.Bool.{Bool, true, false}
use mathlib.Core.List.{List, [], ◌∷◌, ◌++◌}
use native.Mathlib.Omega.{arith}
use Rattle.rast.specs.Bytes.{Bytes, ascii}
use Rattle.rast.specs.ToString.{Primitive-to_string, Type-to_string}
use Rattle.rast.specs.Indent.{SeqToString}
use Rattle.rast.specs.Declaration.{NamelessField}
use Rattle.rast.specs.DeclarationToString.{Visibility-to_string}
use Rattle.buffer.specs.Laid.{Laid, Fits}
use Rattle.encoding.specs.declared.Refusal.{Refusal}
use Rattle.encoding.specs.Refusals.{pick}
use Rattle.encoding.specs.Reading.{Reading, got, stop, ◌>>=◌, read_word, read_below}
use Rattle.encoding.specs.Scans.{map_reading}
use Rattle.encoding.specs.Tables.{fixed_names, name_bytes}
use Rattle.encoding.specs.Heads.{head_after, read_head}
use Rattle.encoding.specs.Types.{primitives, read_node, read_type, type_at}
use Rattle.encoding.specs.Declarations.{visibility_of, read_visibility, read_name, read_list}
use Rattle.accepted_types.specs.Accepted.{EndsAt}
use Rattle.text_pass.specs.Passes.{last, ◌then◌, ◌later◌, listed_some, Ready, Came, Went}
use Rattle.text_pass.specs.Texts.{visibility_at, name_at, type_text_at}
use Rattle.text_pass.proofs.Passes.{Runs, AlongChain, ready-count, chain-start, chain-ready, chain_next, chain-stop, last_fits, last-laid}
use Rattle.text_pass.proofs.Splits.{split-later}
use Rattle.text_pass.proofs.Later.{later-next, later-stop, later-ready, later-shown, later-counted}
use Rattle.text_pass.proofs.Lists.{Showing, Filters, SomeTurn, some_read, some-start, some-gap, some_next, some-pass, some_end}

-- ---- a part that is shown later

field_text : NamelessField Bytes → Bytes
field_text f = Visibility-to_string f.visibility ++ Type-to_string f.tpe ++ ascii ";"

module _ (ws pairs : List ℕ) (text : Bytes) (at : ℕ) where
  -- its type stands first
  abbrev field_at : Reading Bytes
  field_at = map_reading field_text (type_at ws pairs text at >>= λ t p. read_visibility ws p >>= λ v q. got (record { visibility = v; tpe = t }) q)

  field-runs : Runs field_at (type_text_at ws pairs text at later λ b p. visibility_at ws p then λ q. got b q then λ r. last (got (ascii ";") r))
  unfolding field_text
  field-runs = split-later (λ t v. record { visibility = v; tpe = t }) field_text Type-to_string Visibility-to_string (ascii ";") (λ t v. refl) (type_at ws pairs text at) (read_visibility ws)

  -- a function that counts or writes it: each law is what one of its calls needs, or what a return of it gives
  module _ {write : Bool} {o : List ℕ} {p : ℕ} (r : Ready write o p field_at) where
    start : AlongChain write o p field_at o p (type_text_at ws pairs text at later λ b p. visibility_at ws p then λ q. got b q then λ r. last (got (ascii ";") r))
    start = chain-start field-runs r

    -- the type is passed over, by a scan (`scanned-ends`) or a count (`came-ends`); its refusal is met first
    type-refused : {k : Refusal} → type_text_at ws pairs text at ≡ stop k → Went write o p field_at o (Err k)
    type-refused e = later-stop start e

    module _ {n : ℕ} (e : EndsAt (type_text_at ws pairs text at) n) where
      visibility-needs : Ready write o p (visibility_at ws n)
      visibility-needs = chain-ready (later-next start e)

      visibility-refused : {o₁ : List ℕ} {r : Result (ℕ × ℕ) Refusal} {k : Refusal} → Went write o p (visibility_at ws n) o₁ r → r ≡ Err k → Went write o p field_at o₁ r
      visibility-refused w d = chain-stop (later-next start e) w d

      module _ {o₁ : List ℕ} {m p₁ : ℕ} (v : Came write o p (visibility_at ws n) o₁ m p₁) where
        behind : AlongChain write o p field_at o₁ p₁ (got e.value m then λ r. last (got (ascii ";") r))
        behind = chain_next (later-next start e) v

        -- the type is laid from where it began
        type-needs : Ready write o₁ p₁ (type_text_at ws pairs text at)
        type-needs = later-ready e behind

        module _ {o₂ : List ℕ} {p₂ : ℕ} (t : Came write o₁ p₁ (type_text_at ws pairs text at) o₂ n p₂) where
          end-needs : Fits write o₂ p₂ (ascii ";")
          end-needs = last_fits (later-shown e behind t)

          returns : {o₃ : List ℕ} {p₃ : ℕ} → Laid write o₂ p₂ (ascii ";") o₃ p₃ → Came write o p field_at o₃ m p₃
          returns l = last-laid (later-shown e behind t) l

  -- a function that only counts takes the type and the visibility in the order of the words
  counts : {p n m p₁ p₂ p₃ : ℕ} → Came false [] p (type_text_at ws pairs text at) [] n p₁ → Came false [] p₁ (visibility_at ws n) [] m p₂ → Laid false [] p₂ (ascii ";") [] p₃
      → Came false [] p field_at [] m p₃
  counts t v l = last-laid (chain_next (chain_next (later-counted (λ n. last (visibility_at ws n)) (λ q. last (got (ascii ";") q)) (chain-start field-runs ready-count)) t) v) l

-- the words 0, a `u8`, and 0, `PUB`
shown-behind : field_at (0 ∷ 0 ∷ []) [] [] 0 ≡ got (ascii "pub u8;") 2
unfolding field_text map_reading read_type read_head head_after read_node primitives Primitive-to_string Type-to_string read_visibility visibility_of Visibility-to_string read_below read_word ascii
shown-behind = refl

-- ---- a list of which some items show

nonempty : Bytes → Bool
nonempty [] = false
nonempty (b ∷ l) = true

filled : List Bytes → List Bytes
filled [] = []
filled (x ∷ l) = pick (nonempty x) (x ∷ filled l) (filled l)

-- what is left of a list
left_text : List Bytes → Bytes
left_text [] = []
left_text (x ∷ l) = ascii "of " ++ SeqToString (λ y. y) (ascii ", ") (x ∷ l)

filters : Filters nonempty filled
unfolding filled
filters = record { none = refl; kept = λ x l e. rw e; left_out = λ x l e. rw e }

module _ (ws pairs : List ℕ) (text : Bytes) where
  some_names : ℕ → ℕ → Reading Bytes
  some_names n at = listed_some nonempty (λ y. y) (name_at ws pairs text) (ascii "of ") (ascii ", ") n at

  names-read : (n at : ℕ) → map_reading (λ l. left_text (filled l)) (read_list (name_at ws pairs text) n at) ≡ some_names n at
  unfolding some_names left_text
  names-read n at = some_read nonempty (λ y. y) (ascii ", ") filled filters (ascii "of ") left_text refl (λ x l e. refl) (name_at ws pairs text) n at

  -- three names, of which the second is empty: `of ` stands before the first, a comma before the third
  module _ {write : Bool} {o : List ℕ} {p : ℕ} (at : ℕ) (r : Ready write o p (some_names 3 at))
      (first : Showing nonempty (name_at ws pairs text at) true) {o₁ : List ℕ} {p₁ : ℕ} (l : Laid write o p (ascii "of ") o₁ p₁)
      {o₂ : List ℕ} (at₂ : ℕ) {p₂ : ℕ} (c : Came write o₁ p₁ (map_reading (λ y. y) (name_at ws pairs text at)) o₂ at₂ p₂)
      (second : Showing nonempty (name_at ws pairs text at₂) false) (at₃ : ℕ) (e : EndsAt (name_at ws pairs text at₂) at₃)
      (third : Showing nonempty (name_at ws pairs text at₃) true) where
    last_turn : SomeTurn nonempty (λ y. y) (name_at ws pairs text) (ascii "of ") (ascii ", ") write o p 3 at o₂ p₂ (ascii ", ") 1 at₃
    unfolding some_names
    last_turn = some-pass (some_next (some-start r) (omega arith) first l c) (omega arith) second e

    comma-needs : Fits write o₂ p₂ (ascii ", ")
    comma-needs = some-gap last_turn (omega arith) third

    list-returns : {o₃ o₄ : List ℕ} {n p₃ p₄ : ℕ} → Laid write o₂ p₂ (ascii ", ") o₃ p₃ → Came write o₃ p₃ (map_reading (λ y. y) (name_at ws pairs text at₃)) o₄ n p₄
        → Came write o p (some_names 3 at) o₄ n p₄
    unfolding some_names
    list-returns m d = some_end (some_next last_turn (omega arith) third m d) refl

-- the names 3, 0 and 5: the second is empty
shown-some : some_names (3 ∷ 0 ∷ 5 ∷ []) [] [] 3 0 ≡ got (ascii "of Rc, Arc") 3
unfolding some_names listed_some nonempty read_name read_below read_word name_bytes fixed_names ascii
shown-some = refl
