-- What is left to a pass: the same before and behind each of its steps.
use Prim.Native.Nat.{ℕ, zero, suc, ◌+◌, ◌-◌, ◌/◌, ◌%◌, ◌≤◌, ◌<◌}
use mathlib.Core.Path.{◌≡◌, refl, ap, sym, ◌∙◌}
use mathlib.Core.Bool.{true, false}
use mathlib.Core.List.{List, [], ◌∷◌}
use native.Mathlib.Omega.{arith}
use native.Mathlib.Numerals.{add-one}
use borrow.Author.Tests.{lt-ltb, le-ltb}
use lib.ListN.{length}
use Rattle.rast.specs.Bytes.{Bytes, ◌and◌}
use Rattle.rast.specs.Tree.{Ty, Tys, nil, cons}
use Rattle.rast.proofs.BytesLaws.{and-true}
use Rattle.encoding.specs.declared.Refusal.{Refusal}
use Rattle.encoding.specs.declared.Refusal.TheVariants.{TooDeep}
use Rattle.encoding.specs.declared.Head.{Head}
use Rattle.encoding.specs.Reading.{Reading, got, stop, ◌>>=◌}
use Rattle.encoding.specs.Tables.{name_bytes, name_count}
use Rattle.encoding.specs.Tested.{Good}
use Rattle.encoding.specs.Heads.{read_head}
use Rattle.encoding.specs.HeadWords.{kids}
use Rattle.encoding.specs.Types.{read_types, read_type}
use Rattle.encoding.proofs.Tables.{impossible}
use Rattle.encoding.proofs.Types.{bind-got, made₂-got}
use Rattle.text_measure.specs.Lengths.{CutDown}
use Rattle.text_measure.proofs.Texts.{bind_assoc, bind-same}
use Rattle.text_measure.proofs.Rests.{types-cut}
use Rattle.sound_type.specs.Judging.{sound_as, sound_rest, sound_from, head_sound, first_ask, last_ask, levels_at, rest_at, ask_next}
use Rattle.sound_type.proofs.Heads.{node-judged}

-- ---- levels

-- the innermost level has ended
pub level-ended : (f : ℕ → ℕ → Reading (Ty Bytes)) (d l : ℕ) (ls : List ℕ) (p : ℕ) → l < 4 → levels_at f d (l ∷ ls) p true ≡ levels_at f (suc d) ls p true
unfolding levels_at read_types sound_rest ◌and◌
level-ended f d l ls p h = let e : l / 4 ≡ 0 = omega arith in rw e

-- what the next of k + 1 types is asked, if the last of them is asked `ask`
unfoldable ask_at : ℕ → ℕ → ℕ
ask_at ask zero = ask
ask_at ask (suc k) = ask % 2

ask-at : (l k : ℕ) → l / 4 ≡ k → ask_next l ≡ ask_at (l % 4) k
unfolding ask_at
ask-at l zero e = let h : l < 4 = omega arith in let m : l % 4 ≡ l = omega arith in rw (lt-ltb l 4 h, m)
ask-at l (suc k) e = let h : 4 ≤ l = omega arith in let m : (l % 4) % 2 ≡ l % 2 = omega arith in rw (le-ltb l 4 h, m)

rest_more : (f : ℕ → Reading (Ty Bytes)) (k q r ask : ℕ) (t : Ty Bytes) (ts : Tys Bytes) → read_types f k q ≡ got ts r
    → sound_rest ask (cons t ts) ≡ (sound_as (ask_at ask k) t and sound_rest ask ts)
unfolding read_types sound_rest ask_at
rest_more f zero q r ask t ts e = let d : ts ≡ nil = cc in rw d (sym (and-true (sound_as ask t)))
rest_more f (suc k) q r ask t ts e = let m = made₂-got (f q) (read_types f k) cons e in rw m.made

-- the next type of the innermost level
pub level-next : (f : ℕ → ℕ → Reading (Ty Bytes)) (d l : ℕ) (ls : List ℕ) (p : ℕ) → 4 ≤ l → levels_at f d (l ∷ ls) p true ≡ rest_at f d (ask_next (l - 4)) ((l - 4) ∷ ls) p
unfolding levels_at rest_at read_types ◌and◌
level-next f d l ls p h =
    let e : l / 4 ≡ suc ((l - 4) / 4) = omega arith in
    let m : l % 4 ≡ (l - 4) % 4 = omega arith in
    rw (e, m, ask-at (l - 4) ((l - 4) / 4) refl)
    (bind_assoc (f d p) _ _
    ∙ bind-same (f d p) _ _ (λ t q i. bind_assoc (read_types (f d) ((l - 4) / 4) q) _ _
    ∙ bind-same (read_types (f d) ((l - 4) / 4) q) _ _ (λ ts r j. ap (λ s. levels_at f (suc d) ls r s) (rest_more (f d) ((l - 4) / 4) q r ((l - 4) % 4) t ts j))))

-- what was found unsound stays so
pub never-sound : (f : ℕ → ℕ → Reading (Ty Bytes)) (d : ℕ) (ls : List ℕ) (p n : ℕ) → levels_at f d ls p false ≡ got true n → ⊥
unfolding levels_at ◌and◌
never-sound f d [] p n e = impossible (cc)
never-sound f d (l ∷ ls) p n e =
    let t = bind-got (read_types (f d) (l / 4) p) (λ ts q. levels_at f (suc d) ls q false) e in
    never-sound f (suc d) ls t.end n t.rest

-- a first type, and the level behind it
rest-level : (f : ℕ → ℕ → Reading (Ty Bytes)) (d ask l : ℕ) (ls : List ℕ) (p : ℕ)
    → rest_at f d ask (l ∷ ls) p ≡ (read_types (f d) (l / 4 + 1) p >>= λ ts n. levels_at f (suc d) ls n (sound_from ask (l % 4) ts))
unfolding rest_at levels_at read_types sound_from
rest-level f d ask l ls p =
    rw (add-one (l / 4))
    (sym (bind_assoc (f d p) _ _ ∙ bind-same (f d p) _ _ (λ t q i. bind_assoc (read_types (f d) (l / 4) q) _ _)))

module _ (ws pairs : List ℕ) (text : Bytes) (good : Good pairs text) where
  abbrev types : ℕ → ℕ → Reading (Ty Bytes)
  types = read_type (name_count pairs) ws (name_bytes pairs text)

  pub rest-deep : (ask : ℕ) (ls : List ℕ) (p : ℕ) → rest_at types 0 ask ls p ≡ stop TooDeep
  unfolding rest_at read_type
  rest-deep ask ls p = refl

  pub rest-stop : (d ask : ℕ) (ls : List ℕ) (p : ℕ) {r : Refusal} → read_head (name_count pairs) ws p ≡ stop r → rest_at types (suc d) ask ls p ≡ stop r
  unfolding rest_at read_type
  rest-stop d ask ls p e = rw e

  module _ (d ask : ℕ) (ls : List ℕ) (p : ℕ) (h : Head) {q : ℕ} (read : read_head (name_count pairs) ws p ≡ got h q) where
    -- behind a head its types are due, one level down
    down : rest_at types (suc d) ask ls p
        ≡ (read_types (types d) (kids h) q >>= λ ts n. levels_at types (suc d) ls n (head_sound ws (name_bytes pairs text) ask h and sound_from (first_ask ask h) (last_ask ask h) ts))
    unfolding rest_at read_type
    down = rw read (node-judged ws (name_bytes pairs text) ask (λ s n. levels_at types (suc d) ls n s) (types d) h q)

    -- a head with no type behind it
    pub rest-leaf : kids h ≡ 0 → head_sound ws (name_bytes pairs text) ask h ≡ true → rest_at types (suc d) ask ls p ≡ levels_at types (suc d) ls q true
    unfolding read_types sound_from ◌and◌
    rest-leaf k s = rw (k, s) at down

    -- a head with types behind it
    pub rest-down : (l : ℕ) → CutDown (l / 4 + 1) (kids h) → head_sound ws (name_bytes pairs text) ask h ≡ true → l % 4 ≡ last_ask ask h
        → length ws ≤ 8192 → 0 < q → q ≤ length ws → rest_at types d (first_ask ask h) (l ∷ ls) q ≡ rest_at types (suc d) ask ls p
    unfolding ◌and◌
    rest-down l c s a f z w =
        rest-level types d (first_ask ask h) l ls q
        ∙ rw a (types-cut ws pairs text good d c q (λ ts n. levels_at types (suc d) ls n (sound_from (first_ask ask h) (last_ask ask h) ts)) f z w)
        ∙ sym (rw s at down)

    -- a head that is not sound
    pub rest-unsound : head_sound ws (name_bytes pairs text) ask h ≡ false → (n : ℕ) → rest_at types (suc d) ask ls p ≡ got true n → ⊥
    unfolding ◌and◌
    rest-unsound s n e =
        let t = bind-got (read_types (types d) (kids h) q) (λ ts n. levels_at types (suc d) ls n false) (sym (rw s at down) ∙ e) in
        never-sound types (suc d) ls t.end n t.rest
