-- The steps of the pass, as the code makes them.
use Rattle.std.specs.Prelude.{Ok, Err, Result}
use Prim.Native.Nat.{ℕ, suc, ◌+◌, ◌*◌, ◌-◌, ◌^◌, ◌≤◌, ◌<◌}
use mathlib.Core.Path.{◌≡◌, refl, ap, sym, ◌∙◌}
use mathlib.Core.Bool.{Bool, true, false}
use mathlib.Core.List.{List, ◌∷◌}
use native.Mathlib.Omega.{arith}
use lib.Dec.{eqb}
use lib.ListN.{length, length-set}
use Rattle.rast.specs.Bytes.{Bytes}
use Rattle.rast.specs.Tree.{Ty, nil, cons}
use Rattle.rast.specs.ToString.{Type-to_string}
use Rattle.encoding.specs.declared.Refusal.{Refusal}
use Rattle.encoding.specs.declared.Refusal.TheVariants.{TooDeep}
use Rattle.encoding.specs.declared.Head.{Head}
use Rattle.encoding.specs.Refusals.{pick}
use Rattle.encoding.specs.Reading.{Reading, got, stop, ◌>>=◌}
use Rattle.encoding.specs.Tables.{name_bytes, name_count}
use Rattle.encoding.specs.Tested.{Good, name_length}
use Rattle.encoding.specs.Heads.{read_head}
use Rattle.encoding.specs.HeadWords.{kids}
use Rattle.encoding.specs.Types.{read_types, read_type, type_at}
use Rattle.encoding.proofs.Inside.{HeadLies, head-lies}
use Rattle.encoding.proofs.Tables.{impossible}
use Rattle.text_measure.specs.declared.Own.{Own}
use Rattle.text_measure.specs.declared.Own.TheVariants.{Leaf, Node}
use Rattle.text_measure.specs.declared.Pass.{Pass}
use Rattle.text_measure.specs.declared.Step.{Step}
use Rattle.text_measure.specs.declared.Step.TheVariants.{On, Ended}
use Rattle.text_measure.specs.Lengths.{measure_of, own_length, mode_of, CutDown, Scanned, leaf, node, none}
use Rattle.text_measure.specs.Levels.{shown_length, levels_at, rest_at, stacked, rest_of, leaving, beside, under, level_of, pushed, Outward, Kept, Stepped, on, ended, halt}
use Rattle.text_measure.proofs.Rests.{level-due, level-mode, stacked-push, stacked-top, rest-above, rest_ended, rest-deep, rest-stop, rest-down, rest-cut}

-- ---- heads

-- the head behind an answer with no types, and that what it adds in a mode is little
pub record OwnLeaf (ws pairs : List ℕ) (mode : ℕ) (x : Reading Head) (next bytes : ℕ) : Type 0 where
  pub head : Head
  pub read : x ≡ got head next
  pub no_kids : kids head ≡ 0
  pub same_bytes : bytes ≡ own_length ws (name_length pairs) head
  pub short : pick (eqb mode 0) 0 bytes ≤ 2 ^ 46

-- the head behind an answer with types, likewise
pub record OwnNode (ws pairs : List ℕ) (mode : ℕ) (x : Reading Head) (next kids' bytes below : ℕ) : Type 0 where
  pub head : Head
  pub read : x ≡ got head next
  pub same-kids : CutDown kids' (kids head)
  pub same_bytes : bytes ≡ own_length ws (name_length pairs) head
  pub same-below : below ≡ mode_of head
  pub some : 0 < kids'
  pub few : kids' ≤ 2 ^ 15
  pub short : pick (eqb mode 0) 0 bytes ≤ 2 ^ 46

picked : (s : Bool) (n : ℕ) → pick s 0 n ≤ n
picked true n = omega arith
picked false n = omega arith

module _ {ws pairs : List ℕ} (mode : ℕ) {x : Reading Head} where
  pub own-leaf : {r : Result Own Refusal} {n b : ℕ} → Scanned ws pairs x r → r ≡ Ok (Leaf n b) → OwnLeaf ws pairs mode x n b
  own-leaf {n = n'} {b = b'} (leaf {h} {n} {b} e k l s) d =
      let f : n' ≡ n = cc in
      let g : b' ≡ b = cc in
      rw (f, g) (record { head = h; read = e; no_kids = k; same_bytes = l; short = omega (arith, picked (eqb mode 0) b) })
  own-leaf (node e k b m o f s) d = impossible (cc)
  own-leaf (none e) d = impossible (cc)

  pub own-node : {r : Result Own Refusal} {n k b m : ℕ} → Scanned ws pairs x r → r ≡ Ok (Node n k b m) → OwnNode ws pairs mode x n k b m
  own-node (leaf e k l s) d = impossible (cc)
  own-node {n = n'} {k = k'} {b = b'} {m = m'} (node {h} {n} {k} {b} {m} e i j l o f s) d =
      let en : n' ≡ n = cc in
      let ek : k' ≡ k = cc in
      let eb : b' ≡ b = cc in
      let em : m' ≡ m = cc in
      rw (en, ek, eb, em) (record { head = h; read = e; same-kids = i; same_bytes = j; same-below = l; some = o; few = f; short = omega (arith, picked (eqb mode 0) b) })
  own-node (none e) d = impossible (cc)

module _ {ws pairs : List ℕ} {x : Reading Head} where
  pub own-stop : {r : Result Own Refusal} {k : Refusal} → Scanned ws pairs x r → r ≡ Err k → x ≡ stop k
  own-stop (leaf e k l s) d = impossible (cc)
  own-stop (node e k b m o f s) d = impossible (cc)
  own-stop {k = k} (none {r} e) d = let f : r ≡ k = cc in rw f at e

-- ---- the whole pass

abbrev measured : Reading ℕ → Result (ℕ × ℕ) Refusal
measured (got n p) = Ok (p, n)
measured (stop r) = Err r

start_of : (x : Reading (Ty Bytes)) → measure_of x ≡ measured ((x >>= λ t q. got (cons t nil) q) >>= λ ts q. got (0 + shown_length 1 1 ts) q)
unfolding shown_length
start_of (got t n) = let e : length (Type-to_string t) ≡ 0 + (length (Type-to_string t) + 0) = omega arith in ap (λ z. Ok (n, z)) e
start_of (stop r) = refl

module _ (ws pairs : List ℕ) (text : Bytes) where
  -- what is left at the start is the type
  pub start : (levels : List ℕ) (at : ℕ) {x : Reading ℕ} → rest_of ws pairs text levels (record { place = at; bytes = 0; depth = 0; due = 1; mode = 1 }) ≡ x
      → measured x ≡ measure_of (type_at ws pairs text at)
  unfolding rest_of rest_at levels_at stacked read_types
  start levels at e = sym (ap measured e) ∙ sym (start_of (type_at ws pairs text at))

-- ---- levels that have ended

module _ (levels : List ℕ) (p : Pass) where
  -- nothing is left
  rest-none : p.due ≡ 0 → p.depth ≡ 0 → (ws pairs : List ℕ) (text : Bytes) → rest_of ws pairs text levels p ≡ got p.bytes p.place
  unfolding rest_of stacked
  rest-none e d ws pairs text = rw (e, d) (rest_ended _ 64 p.mode p.place p.bytes)

  rest-leaving : p.due ≡ 0 → 0 < p.depth → p.depth ≤ 64 → (ws pairs : List ℕ) (text : Bytes)
      → rest_of ws pairs text levels (leaving levels p) ≡ rest_of ws pairs text levels p
  unfolding rest_of
  rest-leaving e d k ws pairs text =
      let f : 64 - (p.depth - 1) ≡ suc (64 - p.depth) = omega arith in
      rw (e, f, stacked-top levels p.depth d) (sym (rest-above _ (64 - p.depth) p.mode _ _ p.place p.bytes))

  pub outward-here : p.due ≤ 2 ^ 15 → Outward levels p p
  outward-here h = record { place = refl; bytes = refl; depth = omega arith; due = h; rest = λ ws pairs text. refl }

  -- one level more has ended
  pub outward-more : {q r : Pass} → Outward levels q p → p.due ≡ 0 → 0 < p.depth → p.depth ≤ 64 → r ≡ leaving levels p → r.due < 2 ^ 15 → Outward levels q r
  outward-more {q} {r} o e d k same small =
      let w : (leaving levels p).due ≤ 2 ^ 15 = omega (arith, rw same at small) in
      let j = o.depth in
      rw same (record { place = o.place; bytes = o.bytes; depth = omega arith; due = w; rest = λ ws pairs text. rest-leaving e d k ws pairs text ∙ o.rest ws pairs text })

-- ---- a step

module _ (ws pairs : List ℕ) (text : Bytes) (good : Good pairs text) (levels : List ℕ) (p : Pass) (kept : Kept ws levels p) where
  pub step-stop : {r : Refusal} → read_head (name_count pairs) ws p.place ≡ stop r → Stepped ws pairs text levels p levels (Err r)
  unfolding rest_of
  step-stop {r} e =
      let h = kept.some in
      let d = kept.depth in
      let f : p.due ≡ suc (p.due - 1) = omega arith in
      let i : 64 - p.depth ≡ suc (64 - (p.depth + 1)) = omega arith in
      halt {r = r} (rw (f, i) (rest-stop ws pairs text good (64 - (p.depth + 1)) p.mode (p.due - 1) (stacked levels p.depth) p.place p.bytes e))

  -- behind a head
  head-down : (h : Head) {n : ℕ} → read_head (name_count pairs) ws p.place ≡ got h n
      → rest_of ws pairs text levels p
      ≡ rest_at (read_type (name_count pairs) ws (name_bytes pairs text)) (64 - (p.depth + 1)) (pick (eqb p.mode 0) 0 (mode_of h)) (kids h)
      ((level_of p) ∷ stacked levels p.depth) n (p.bytes + pick (eqb p.mode 0) 0 (own_length ws (name_length pairs) h))
  unfolding rest_of
  head-down h e =
      let k = kept.some in
      let d = kept.depth in
      let f : p.due ≡ suc (p.due - 1) = omega arith in
      let i : 64 - p.depth ≡ suc (64 - (p.depth + 1)) = omega arith in
      let types = read_type (name_count pairs) ws (name_bytes pairs text) in
      ap (λ x. rest_at types x p.mode p.due (stacked levels p.depth) p.place p.bytes) i
      ∙ ap (λ x. rest_at types (suc (64 - (p.depth + 1))) p.mode x (stacked levels p.depth) p.place p.bytes) f
      ∙ rest-down ws pairs text good (64 - (p.depth + 1)) p.mode (p.due - 1) (stacked levels p.depth) p.place p.bytes e

  -- a head adds no more than its words allow
  bytes-kept : (n b : ℕ) → p.place < n → pick (eqb p.mode 0) 0 b ≤ 2 ^ 46 → p.bytes + pick (eqb p.mode 0) 0 b ≤ n * 2 ^ 46
  bytes-kept n b l s = omega (arith, kept.bytes)

  -- a head that was read ends behind its first word, inside the words
  lies : {h : Head} {n : ℕ} → read_head (name_count pairs) ws p.place ≡ got h n → HeadLies (name_count pairs) ws p.place h n
  lies = head-lies (name_count pairs) ws p.place

  module _ {n b : ℕ} (o : OwnLeaf ws pairs p.mode (read_head (name_count pairs) ws p.place) n b) where
    -- a head with no type behind it
    head-leaf : rest_of ws pairs text levels p ≡ rest_of ws pairs text levels (beside p n b)
    unfolding rest_of
    head-leaf =
        let i : suc (64 - (p.depth + 1)) ≡ 64 - p.depth = omega (arith, kept.depth) in
        let types = read_type (name_count pairs) ws (name_bytes pairs text) in
        let up = rest-above types (64 - (p.depth + 1)) (pick (eqb p.mode 0) 0 (mode_of o.head)) (level_of p)
        (stacked levels p.depth) n (p.bytes + pick (eqb p.mode 0) 0 b) in
        (rw (o.no_kids, ← o.same_bytes) at (head-down o.head o.read)) ∙ (rw (i, level-due (p.due - 1) p.mode, level-mode (p.due - 1) p.mode) at up)

    module _ {q : Pass} (w : Outward levels (beside p n b) q) where
      pub step_past : 0 < q.due → Stepped ws pairs text levels p levels (Ok (On q))
      step_past h =
          let s = bytes-kept n b (lies o.read).starts o.short in
          on {p' = q} (record { room = kept.room; place = omega (arith, w.place, (lies o.read).ends); bytes = omega (arith, w.place, w.bytes); depth = omega (arith, w.depth, kept.depth); some = h; due = w.due })
          (w.rest ws pairs text ∙ sym head-leaf) (omega (arith, w.place, (lies o.read).starts))

      pub step-ended : q.due ≡ 0 → q.depth ≡ 0 → Stepped ws pairs text levels p levels (Ok (Ended q))
      step-ended e z = ended {p' = q} (head-leaf ∙ sym (w.rest ws pairs text) ∙ rest-none levels q e z ws pairs text)

  module _ (fits : length ws ≤ 8192) {n k b m : ℕ} (o : OwnNode ws pairs p.mode (read_head (name_count pairs) ws p.place) n k b m) where
    -- a head with types behind it
    head-node : rest_at (read_type (name_count pairs) ws (name_bytes pairs text)) (64 - (p.depth + 1)) (pick (eqb p.mode 0) 0 m) k
        (level_of p ∷ stacked levels p.depth) n (p.bytes + pick (eqb p.mode 0) 0 b)
        ≡ rest_of ws pairs text levels p
    head-node =
        rw (o.same_bytes, o.same-below)
        (rest-cut ws pairs text good (64 - (p.depth + 1)) _ o.same-kids _ n _ fits (omega (arith, (lies o.read).starts)) (lies o.read).ends ∙ sym (head-down o.head o.read))

    -- no type may follow at the last level
    pub step-deep : p.depth ≡ 63 → Stepped ws pairs text levels p levels (Err TooDeep)
    step-deep e =
        let h = o.some in
        let f : k ≡ suc (k - 1) = omega arith in
        let i : 64 - (p.depth + 1) ≡ 0 = omega arith in
        halt {r = TooDeep} (sym head-node ∙ rw (f, i) (rest-deep ws pairs text good _ (k - 1) _ n _))

    pub step-under : (p.depth ≡ 63 → ⊥) → {levels' : List ℕ} {q : Pass} → levels' ≡ pushed levels p → q ≡ under p n k b m → Stepped ws pairs text levels p levels' (Ok (On q))
    unfolding rest_of
    step-under d same-levels same =
        rw (same-levels, same) (on {p' = under p n k b m}
        (record { room = simp length-set kept.room; place = (lies o.read).ends; bytes = bytes-kept n b (lies o.read).starts o.short; depth = omega (arith, kept.depth); some = o.some; due = omega (arith, o.few) })
        (rw (stacked-push levels p.depth (level_of p) (omega (arith, kept.room, kept.depth))) head-node) (lies o.read).starts)

-- ---- what a step says

module _ {ws pairs : List ℕ} {text : Bytes} {levels : List ℕ} {p : Pass} {levels' : List ℕ} where
  pub went_on : {r : Result Step Refusal} {q : Pass} → Stepped ws pairs text levels p levels' r → r ≡ Ok (On q)
      → Kept ws levels' q × (rest_of ws pairs text levels' q ≡ rest_of ws pairs text levels p) × (p.place < q.place)
  went_on {q = q} (on {p'} k e l) d = let f : q ≡ p' = cc in rw f (k, e, l)
  went_on (ended e) d = impossible (cc)
  went_on (halt e) d = impossible (cc)

  pub came-to-end : {r : Result Step Refusal} {q : Pass} → Stepped ws pairs text levels p levels' r → r ≡ Ok (Ended q) → rest_of ws pairs text levels p ≡ got q.bytes q.place
  came-to-end (on k e l) d = impossible (cc)
  came-to-end {q = q} (ended {p'} e) d = let f : p' ≡ q = cc in rw f at e
  came-to-end (halt e) d = impossible (cc)

  pub was-halted : {r : Result Step Refusal} {k : Refusal} → Stepped ws pairs text levels p levels' r → r ≡ Err k → rest_of ws pairs text levels p ≡ stop k
  was-halted (on k e l) d = impossible (cc)
  was-halted (ended e) d = impossible (cc)
  was-halted {k = k} (halt {r} e) d = let f : r ≡ k = cc in rw f at e
