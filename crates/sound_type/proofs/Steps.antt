-- The steps of the pass, as the code makes them.
use Rattle.std.specs.Prelude.{Result, Ok, Err}
use Prim.Native.Nat.{ℕ, suc, ◌+◌, ◌-◌, ◌^◌, ◌≤◌, ◌<◌}
use mathlib.Core.Path.{◌≡◌, refl, sym, ◌∙◌}
use mathlib.Core.Bool.{Bool, true, false}
use mathlib.Core.List.{List, [], ◌∷◌}
use native.Mathlib.Omega.{arith}
use lib.Dec.{eqb}
use lib.ListN.{length, length-set}
use Rattle.rast.specs.Bytes.{Bytes, ◌and◌}
use Rattle.rast.specs.Tree.{Ty}
use Rattle.rast.specs.Sound.{sound}
use Rattle.rast.proofs.BytesLaws.{and-true}
use Rattle.encoding.specs.declared.Refusal.{Refusal}
use Rattle.encoding.specs.declared.Refusal.TheVariants.{TooDeep, LeftOver}
use Rattle.encoding.specs.declared.Head.{Head}
use Rattle.encoding.specs.Refusals.{pick, map_answer}
use Rattle.encoding.specs.Reading.{Reading, got, stop, ◌>>=◌, whole}
use Rattle.encoding.specs.Tables.{name_bytes, name_count, check_tables}
use Rattle.encoding.specs.Tested.{Good}
use Rattle.encoding.specs.Heads.{read_head}
use Rattle.encoding.specs.Types.{read_types, read_type, type_at}
use Rattle.encoding.proofs.Inside.{HeadLies, head-lies}
use Rattle.encoding.proofs.Tables.{impossible, tables-passed}
use Rattle.text_measure.specs.Levels.{stacked}
use Rattle.text_measure.proofs.Rests.{stacked-push, stacked-top}
use Rattle.sound_type.specs.declared.Pass.{Pass}
use Rattle.sound_type.specs.declared.Step.{Step}
use Rattle.sound_type.specs.declared.Step.TheVariants.{On, Ended, Unfit}
use Rattle.sound_type.specs.Judging.{TablesReady, unless_judged, shape_fits, sound_as, sound_rest, head_sound, levels_at, rest_at, levels_of, rest_of, behind_of, leaving, next_type, under, pushed, Outward, Kept, Stepped, on, ended, unfit, halt}
use Rattle.sound_type.proofs.Rests.{level-ended, level-next, rest-deep, rest-stop, rest-leaf, rest-down, rest-unsound}
use Rattle.sound_type.proofs.Scans.{OwnLeaf, OwnNode}

-- ---- levels that have ended

module _ (levels : List ℕ) (p : Pass) where
  -- nothing is left
  behind-none : p.rest < 4 → p.depth ≡ 0 → (ws pairs : List ℕ) (text : Bytes) (n : ℕ) → behind_of ws pairs text levels p n ≡ got true n
  unfolding behind_of stacked levels_at
  behind-none h d ws pairs text n = rw d (level-ended (read_type (name_count pairs) ws (name_bytes pairs text)) 64 p.rest [] n h)

  behind-leaving : p.rest < 4 → 0 < p.depth → p.depth ≤ 64 → (ws pairs : List ℕ) (text : Bytes) (n : ℕ)
      → behind_of ws pairs text levels (leaving levels p) n ≡ behind_of ws pairs text levels p n
  unfolding behind_of
  behind-leaving h d k ws pairs text n =
      let f : 64 - (p.depth - 1) ≡ suc (64 - p.depth) = omega arith in
      rw (f, stacked-top levels p.depth d) (sym (level-ended _ (64 - p.depth) p.rest _ n h))

  pub outward-here : p.rest < 2 ^ 16 → Outward levels p p
  outward-here h = record { depth = omega arith; rest = h; behind = λ ws pairs text n. refl }

  -- one level more has ended
  pub outward-more : {q r : Pass} → Outward levels q p → p.rest < 4 → 0 < p.depth → p.depth ≤ 64 → r ≡ leaving levels p → r.rest < 2 ^ 16 → Outward levels q r
  outward-more {q} {r} o h d k same small =
      let w : (leaving levels p).rest < 2 ^ 16 = rw same at small in
      let j = o.depth in
      rw same (record { depth = omega arith; rest = w; behind = λ ws pairs text n. behind-leaving h d k ws pairs text n ∙ o.behind ws pairs text n })

-- ---- a step

module _ (ws pairs : List ℕ) (text : Bytes) (good : Good pairs text) (levels : List ℕ) (p : Pass) (kept : Kept ws levels p) where
  pub step-deep : p.depth ≡ 64 → Stepped ws pairs text levels p levels (Err TooDeep)
  unfolding rest_of
  step-deep e = halt {r = TooDeep} (rw e (rest-deep ws pairs text good p.ask (p.rest ∷ stacked levels 64) p.place))

  module _ (d : p.depth < 64) where
    deeper : 64 - p.depth ≡ suc (64 - (p.depth + 1))
    deeper = omega arith

    pub step-stop : {r : Refusal} → read_head (name_count pairs) ws p.place ≡ stop r → Stepped ws pairs text levels p levels (Err r)
    unfolding rest_of
    step-stop {r} e = halt {r = r} (rw deeper (rest-stop ws pairs text good (64 - (p.depth + 1)) p.ask (levels_of levels p) p.place e))

    -- a head that is not sound, or a refusal
    pub step-unsound : ((h : Head) (n : ℕ) → read_head (name_count pairs) ws p.place ≡ got h n → head_sound ws (name_bytes pairs text) p.ask h ≡ false)
        → Stepped ws pairs text levels p levels (Ok Unfit)
    unfolding rest_of
    step-unsound u = unfit (rw deeper (go (read_head (name_count pairs) ws p.place) refl))
      where
        go : (x : Reading Head) → read_head (name_count pairs) ws p.place ≡ x → (n : ℕ)
            → rest_at (read_type (name_count pairs) ws (name_bytes pairs text)) (suc (64 - (p.depth + 1))) p.ask (levels_of levels p) p.place ≡ got true n → ⊥
        go (got h q) e n i = rest-unsound ws pairs text good (64 - (p.depth + 1)) p.ask (levels_of levels p) p.place h e (u h q e) n i
        go (stop r) e n i =
            let s = rest-stop ws pairs text good (64 - (p.depth + 1)) p.ask (levels_of levels p) p.place e in
            impossible (cc)

    module _ {n : ℕ} (o : OwnLeaf ws pairs text p.ask (read_head (name_count pairs) ws p.place) n) where
      lies : HeadLies (name_count pairs) ws p.place o.head n
      lies = head-lies (name_count pairs) ws p.place o.read

      -- a head with no type behind it
      head-leaf : rest_of ws pairs text levels p ≡ behind_of ws pairs text levels p n
      unfolding rest_of behind_of
      head-leaf = rw deeper (rest-leaf ws pairs text good (64 - (p.depth + 1)) p.ask (levels_of levels p) p.place o.head o.read o.no_kids o.sound)

      module _ {q : Pass} (w : Outward levels p q) where
        pub step-ended : q.rest < 4 → q.depth ≡ 0 → Stepped ws pairs text levels p levels (Ok (Ended n))
        step-ended h e = ended {n = n} (head-leaf ∙ sym (w.behind ws pairs text n) ∙ behind-none levels q h e ws pairs text n)

        pub step_past : 4 ≤ q.rest → {r : Pass} → r ≡ next_type q n → Stepped ws pairs text levels p levels (Ok (On r))
        unfolding rest_of behind_of
        step_past h same =
            let b = w.behind ws pairs text n in
            rw same (on {p' = next_type q n} (record { room = kept.room; place = lies.ends; depth = omega (arith, w.depth); rest = omega (arith, w.rest) })
            (sym (level-next _ (64 - q.depth) q.rest (stacked levels q.depth) n h) ∙ b ∙ sym head-leaf) lies.starts)

    -- a head with types behind it
    pub step-under : length ws ≤ 8192 → {n a l : ℕ} → OwnNode ws pairs text p.ask (read_head (name_count pairs) ws p.place) n a l
        → {levels' : List ℕ} {q : Pass} → levels' ≡ pushed levels p → q ≡ under p n a l → Stepped ws pairs text levels p levels' (Ok (On q))
    unfolding rest_of
    step-under fits {n} {a} {l} o same-levels same =
        let lies = head-lies (name_count pairs) ws p.place o.read in
        rw (same-levels, same) (on {p' = under p n a l}
        (record { room = simp length-set kept.room; place = lies.ends; depth = omega arith; rest = o.few })
        (rw (stacked-push levels p.depth p.rest (omega (arith, kept.room)), o.same_first, deeper)
        (rest-down ws pairs text good (64 - (p.depth + 1)) p.ask (levels_of levels p) p.place o.head o.read l o.same-kids o.sound o.same-last fits (omega (arith, lies.starts)) lies.ends))
        lies.starts)

-- ---- what a step says

module _ {ws pairs : List ℕ} {text : Bytes} {levels : List ℕ} {p : Pass} {levels' : List ℕ} where
  pub went_on : {r : Result Step Refusal} {q : Pass} → Stepped ws pairs text levels p levels' r → r ≡ Ok (On q)
      → Kept ws levels' q × (rest_of ws pairs text levels' q ≡ rest_of ws pairs text levels p) × (p.place < q.place)
  went_on {q = q} (on {p'} k e l) d = let f : q ≡ p' = cc in rw f (k, e, l)
  went_on (ended e) d = impossible (cc)
  went_on (unfit u) d = impossible (cc)
  went_on (halt e) d = impossible (cc)

  pub came-to-end : {r : Result Step Refusal} {n : ℕ} → Stepped ws pairs text levels p levels' r → r ≡ Ok (Ended n) → rest_of ws pairs text levels p ≡ got true n
  came-to-end (on k e l) d = impossible (cc)
  came-to-end {n = n'} (ended {n} e) d = let f : n ≡ n' = cc in rw f at e
  came-to-end (unfit u) d = impossible (cc)
  came-to-end (halt e) d = impossible (cc)

  pub was-unfit : {r : Result Step Refusal} → Stepped ws pairs text levels p levels' r → r ≡ Ok Unfit → (n : ℕ) → rest_of ws pairs text levels p ≡ got true n → ⊥
  was-unfit (on k e l) d = impossible (cc)
  was-unfit (ended e) d = impossible (cc)
  was-unfit (unfit u) d = u
  was-unfit (halt e) d = impossible (cc)

  pub was-halted : {r : Result Step Refusal} {k : Refusal} → Stepped ws pairs text levels p levels' r → r ≡ Err k → rest_of ws pairs text levels p ≡ stop k
  was-halted (on k e l) d = impossible (cc)
  was-halted (ended e) d = impossible (cc)
  was-halted (unfit u) d = impossible (cc)
  was-halted {k = k} (halt {r} e) d = let f : r ≡ k = cc in rw f at e

-- ---- the whole type

judged : Reading (Ty Bytes) → Reading Bool
judged x = x >>= λ t n. got (sound t) n

-- what is left at the start is the type
start : (ws pairs : List ℕ) (text : Bytes) (levels : List ℕ) {x : Reading Bool} → rest_of ws pairs text levels (record { place = 0; depth = 0; ask = 1; rest = 0 }) ≡ x
    → judged (type_at ws pairs text 0) ≡ x
unfolding rest_of rest_at levels_at stacked read_types sound_as unless_judged shape_fits sound_rest judged ◌and◌
start ws pairs text levels e = go (type_at ws pairs text 0) ∙ e
  where
    go : (y : Reading (Ty Bytes)) → (y >>= λ t n. got (sound t) n) ≡ (y >>= λ t q. got (sound t and true) q)
    go (got t n) = rw (and-true (sound t))
    go (stop r) = refl

module _ (ws pairs : List ℕ) (text : Bytes) (levels : List ℕ) where
  abbrev first : Pass
  first = record { place = 0; depth = 0; ask = 1; rest = 0 }

  pub whole-ended : {n : ℕ} → rest_of ws pairs text levels first ≡ got true n
      → map_answer sound (whole (length ws) (type_at ws pairs text 0)) ≡ whole (length ws) (got true n)
  unfolding map_answer whole judged
  whole-ended {n} e = go (type_at ws pairs text 0) (start ws pairs text levels e)
    where
      last : (t : Ty Bytes) (c : Bool) → sound t ≡ true → map_answer sound (pick c (Ok t) (Err LeftOver)) ≡ pick c (Ok true) (Err LeftOver)
      last t true s = rw s
      last t false s = refl

      go : (y : Reading (Ty Bytes)) → judged y ≡ got true n → map_answer sound (whole (length ws) y) ≡ whole (length ws) (got true n)
      go (got t m) d = let f : m ≡ n = cc in let s : sound t ≡ true = cc in rw f (last t (eqb n (length ws)) s)
      go (stop r) d = impossible (cc)

  pub whole-halted : {r : Refusal} → rest_of ws pairs text levels first ≡ stop r
      → map_answer sound (whole (length ws) (type_at ws pairs text 0)) ≡ Err r
  unfolding map_answer whole judged
  whole-halted {r} e = go (type_at ws pairs text 0) (start ws pairs text levels e)
    where
      go : (y : Reading (Ty Bytes)) → judged y ≡ stop r → map_answer sound (whole (length ws) y) ≡ Err r
      go (got t m) d = impossible (cc)
      go (stop k) d = let f : k ≡ r = cc in rw f

  pub whole-unfit : ((n : ℕ) → rest_of ws pairs text levels first ≡ got true n → ⊥)
      → map_answer sound (whole (length ws) (type_at ws pairs text 0)) ≡ map_answer (λ t. false) (whole (length ws) (type_at ws pairs text 0))
  unfolding map_answer whole judged
  whole-unfit u = go (type_at ws pairs text 0) (λ n e. u n (sym (start ws pairs text levels refl) ∙ e))
    where
      last : (t : Ty Bytes) (b c : Bool) → sound t ≡ b → (b ≡ true → ⊥) → map_answer sound (pick c (Ok t) (Err LeftOver)) ≡ map_answer (λ t. false) (pick c (Ok t) (Err LeftOver))
      last t true c s h = absurd (h refl)
      last t false true s h = rw s
      last t false false s h = refl

      go : (y : Reading (Ty Bytes)) → ((n : ℕ) → judged y ≡ got true n → ⊥)
          → map_answer sound (whole (length ws) y) ≡ map_answer (λ t. false) (whole (length ws) y)
      go (got t m) h = last t (sound t) (eqb m (length ws)) refl (λ s. h m (rw s))
      go (stop k) h = refl

-- tables that pass are ready for the pass
pub passed-ready : (words pairs : List ℕ) (text : Bytes) → check_tables words pairs text ≡ Ok tt → TablesReady pairs text × (length words ≤ 8192)
passed-ready words pairs text e = let t = tables-passed words pairs text e in ((t.good, t.pairs-few), t.few)
