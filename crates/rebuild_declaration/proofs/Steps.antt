-- Laws of the walk that rebuilds a declaration, one step after the other.
use Rattle.std.specs.Prelude.{Ok, Err, Some, None, Result, Option}
use Prim.Native.Nat.{ℕ, ◌+◌, ◌-◌, ◌≤◌, ◌<◌, max}
use mathlib.Core.Path.{◌≡◌, refl, ap, sym, ◌∙◌, subst}
use mathlib.Core.List.{List, [], ◌∷◌, ◌++◌, map, append-nil}
use native.Mathlib.Omega.{arith}
use lib.ListN.{length, take, drop, length-map}
use Rattle.rast.specs.Bytes.{Bytes}
use Rattle.rast.specs.Tree.{Ty}
use Rattle.encoding.specs.declared.Refusal.{Refusal}
use Rattle.encoding.specs.Reading.{Reading, got}
use Rattle.encoding.specs.Scans.{ended, map_reading}
use Rattle.encoding.specs.Forms.{present}
use Rattle.encoding.specs.Tables.{name_count}
use Rattle.encoding.specs.Tested.{Good}
use Rattle.encoding.proofs.Tables.{impossible}
use Rattle.encoding.proofs.Types.{bind-got}
use Rattle.tree_words.specs.Encode.{Token, token_word, encode}
use Rattle.tree_words.specs.Numbered.{tree_at}
use Rattle.tree_words.specs.Runs.{Run}
use Rattle.tree_words.proofs.Renaming.{tree-run, encode-words, words-some}
use Rattle.accepted_types.specs.Accepted.{Readable}
use Rattle.rebuild_spec.specs.Replace.{Replace}
use Rattle.rebuild_spec.specs.Laying.{depth, peak}
use Rattle.declaration_walk.specs.declared.Walk.{Walk}
use Rattle.declaration_walk.specs.declared.Next.{Next}
use Rattle.declaration_walk.specs.declared.Next.TheVariants.{OwnWords, TypeDue, Ended}
use Rattle.declaration_walk.specs.declared.Role.{Role}
use Rattle.declaration_walk.specs.Pieces.{Piece, type, own_pieces, pieces}
use Rattle.declaration_walk.specs.Walks.{ahead, moved, past_type, in_field, FieldNext, field_type, past_field, Stepped, type-due, read_opening, started}
use Rattle.declaration_walk.proofs.Ahead.{ahead_none, ahead-twice}
use Rattle.declaration_walk.proofs.Steps.{own-step, due-step, end_step, halt-step, field-opens}
use Rattle.declaration_walk.proofs.Openings.{tokens-same}
use Rattle.declaration_walk.proofs.OpeningRuns.{opening-run}
use Rattle.declaration_walk.proofs.Passes.{bind-at, stepped, begun, not-begun}
use Rattle.declaration_walk.proofs.Behind.{behind-got, whole-left}
use Rattle.declaration_walk.proofs.RenamedReading.{declaration-spelled}
use Rattle.declaration_walk.proofs.Scans.{ended-map}
use Rattle.rebuild_type.specs.Laid.{Grown, Lays, rebuilt, full, mapping, Ruled, TypeRebuilds}
use Rattle.rebuild_type.proofs.Growing.{grown-then, grown-nothing, lays-to, lays-over}
use Rattle.rebuild_type.proofs.Types.{came, filled}
use Rattle.rebuild_declaration.specs.declared.Advance.{Advance}
use Rattle.rebuild_declaration.specs.declared.Advance.TheVariants.{Further, Finished, NoSpace}
use Rattle.rebuild_declaration.specs.Steps.{left_in, WalkReady, PiecesLaid, PiecesOver, Advanced, further, finished, no_space, field_advance, PiecesRebuild, DeclarationRebuilds}
use Rattle.rebuild_declaration.specs.Calls.{declaration_in}
use Rattle.rebuild_declaration.proofs.Pieces.{words_append, depth-append, top-append, own-words, one_type, declaration-words, declaration-depth}

-- ---- pieces that are laid down

module _ {m : Ty ℕ → Ty ℕ} {limit p : ℕ} {o : List ℕ} where
  laid-nothing : p ≤ limit → limit ≤ length o → PiecesLaid m limit o p [] o p 0
  laid-nothing l g =
      let c = own-words m [] in
      record { fits = omega (arith, c.1); within = l; grown = rw c.0 (grown-nothing o p (omega arith)); deeps = sym c.2 }

  -- own words, as they are
  own-to : (ks : List (Token ℕ)) {b o' : List ℕ} {r : Option ℕ} {q : ℕ} → b ≡ map token_word ks → Lays limit o p b o' r → r ≡ Some q → PiecesLaid m limit o p (own_pieces ks) o' q 0
  own-to ks e l d =
      let h = lays-to l d in
      let c = own-words m ks in
      record { fits = omega (arith, h.0, h.1.next, c.1, ap length e, length-map ks token_word); within = h.0; grown = rw (c.0, sym e) h.1; deeps = sym c.2 }

  own-over : (ks : List (Token ℕ)) {b o' : List ℕ} {r : Option ℕ} → b ≡ map token_word ks → Lays limit o p b o' r → r ≡ None → PiecesOver m limit o p (own_pieces ks) o'
  own-over ks e l d = let h = lays-over l d in record { over = omega (arith, h.0, (own-words m ks).1, ap length e, length-map ks token_word); kept = h.1 }

  -- a type, rebuilt
  type-done : (a : Role) {x : Reading (Ty ℕ)} {t : Ty ℕ} {o' : List ℕ} {r : Option (ℕ × ℕ × ℕ)} {e n q d : ℕ} → TypeRebuilds m limit o p x o' r → r ≡ Some (n, q, d) → x ≡ got t e → PiecesLaid m limit o p (type a t ∷ []) o' q d × (n ≡ e)
  type-done a {t = t} {o' = o'} {q = q} k h e =
      let b = came k h in
      let i : b.value ≡ t = cc (b.reads, e) in
      let c = one_type m a t in (
        record {
          fits = omega (arith, b.fits, c.1, ap (peak m) i);
          within = b.within;
          grown = rw c.0 (subst (λ u. Grown o p (encode (Replace m u)) o' q) i b.grown);
          deeps = b.deeps ∙ ap (λ u. depth (Replace m u)) i ∙ sym c.2;
        },
        cc (b.reads, e),
      )

  type-over : (a : Role) {x : Reading (Ty ℕ)} {t : Ty ℕ} {o' : List ℕ} {r : Option (ℕ × ℕ × ℕ)} {e : ℕ} → TypeRebuilds m limit o p x o' r → r ≡ None → x ≡ got t e → PiecesOver m limit o p (type a t ∷ []) o'
  type-over a {t = t} k h e = let f = filled k h e in record { over = omega (arith, f.0, (one_type m a t).1); kept = f.1 }

  -- others behind them
  over-more : {ps : List (Piece ℕ)} {o' : List ℕ} (qs : List (Piece ℕ)) → PiecesOver m limit o p ps o' → PiecesOver m limit o p (ps ++ qs) o'
  over-more {ps} qs h = record { over = omega (arith, h.over, top-append m ps qs); kept = h.kept }

  module _ {ps qs : List (Piece ℕ)} {o₁ o₂ : List ℕ} {q d : ℕ} (l : PiecesLaid m limit o p ps o₁ q d) where
    laid_then : {q' d' deep : ℕ} → PiecesLaid m limit o₁ q qs o₂ q' d' → deep ≡ max d d' → PiecesLaid m limit o p (ps ++ qs) o₂ q' deep
    laid_then k z = record {
      fits = omega (arith, top-append m ps qs, l.fits, k.fits, l.grown.next);
      within = k.within;
      grown = rw (words_append m ps qs) (grown-then l.grown k.grown);
      deeps = omega (arith, z, l.deeps, k.deeps, depth-append m ps qs);
    }

    laid-over : PiecesOver m limit o₁ q qs o₂ → PiecesOver m limit o p (ps ++ qs) o₂
    laid-over k = record { over = omega (arith, k.over, top-append m ps qs, l.grown.next); kept = k.kept ∙ l.grown.kept }

-- ---- what a step reads

-- own words
pub record OwnLaid (ws pairs : List ℕ) (w w' : Walk) : Type 0 where
  pub tokens : List (Token ℕ)
  pub reads : left_in ws pairs w ≡ ahead (own_pieces tokens) (left_in ws pairs w')
  pub words : take (w'.place - w.place) (drop w.place ws) ≡ map token_word tokens
  pub further : w.place < w'.place
  pub inside : w'.place ≤ length ws

-- a type
pub record TypeLeft (ws pairs : List ℕ) (w : Walk) (a : Role) (w' : Walk) : Type 0 where
  pub tree : Ty ℕ
  pub end : ℕ
  pub first : tree_at ws pairs w.place ≡ got tree end
  pub reads : left_in ws pairs w ≡ ahead (type a tree ∷ []) (left_in ws pairs (moved w' end))

-- the words of a run of own words, which lies inside
run-taken : {ws : List ℕ} {at : ℕ} (n : ℕ) (ks : List (Token ℕ)) → Run ws at (map token_word ks) → n ≡ length ks → (take n (drop at ws) ≡ map token_word ks) × (at + n ≤ length ws)
run-taken n ks r e = let z : n ≡ length (map token_word ks) = e ∙ sym (length-map ks token_word) in (rw z r.words, omega (arith, z, r.ends))

-- ---- one step

module _ {ws pairs : List ℕ} {text : Bytes} {rules table : List ℕ} {k : ℕ} {w : Walk} {o : List ℕ} {p limit : ℕ} (s : WalkReady ws pairs text rules table k w o p limit) where
  abbrev m : Ty ℕ → Ty ℕ
  m = mapping rules pairs text

  module _ {bound : ℕ} {r : Result Next Refusal} (b : bound ≡ name_count pairs) (h : Stepped bound ws w r) where
    pub own-laid : {w' : Walk} → r ≡ Ok (OwnWords w') → OwnLaid ws pairs w w'
    own-laid {w'} e =
        let t = own-step (name_count pairs) ws (λ x. x) (tree_at ws pairs) w (stepped ws pairs b e h) in
        let v = run-taken (w'.place - w.place) t.tokens t.run (omega (arith, t.end)) in
        record {
          tokens = t.tokens;
          reads = t.reads ∙ ap (λ ks. ahead (own_pieces ks) (left_in ws pairs w')) (tokens-same t.tokens);
          words = v.0;
          further = t.further;
          inside = omega (arith, v.1, t.further);
        }

    pub type-left : {a : Role} {w' : Walk} → r ≡ Ok (TypeDue a w') → TypeLeft ws pairs w a w'
    type-left e =
        let t = due-step (name_count pairs) ws (λ x. x) (tree_at ws pairs) w (stepped ws pairs b e h) in
        let v = bind-got (tree_at ws pairs w.place) _ (sym t.reads ∙ s.readable.reads) in
        record { tree = v.value; end = v.end; first = v.first; reads = t.reads ∙ bind-at (tree_at ws pairs w.place) _ v.first }

    pub nothing_left : r ≡ Ok Ended → Advanced m ws pairs w limit o p o Finished
    nothing_left e = finished (end_step (name_count pairs) ws (λ x. x) (tree_at ws pairs) w (stepped ws pairs b e h)) refl

    pub never_halts : {i : Refusal} → r ≡ Err i → ⊥
    never_halts e = let t = halt-step (name_count pairs) ws (λ x. x) (tree_at ws pairs) w (stepped ws pairs b e h) in impossible (let x = s.readable.reads in cc)

  -- what is too long already is so with the rest behind it
  step-over : (ps : List (Piece ℕ)) (x : Reading (List (Piece ℕ))) {o' : List ℕ} → left_in ws pairs w ≡ ahead ps x → PiecesOver m limit o p ps o' → Advanced m ws pairs w limit o p o' NoSpace
  step-over ps x {o'} e h =
      let b = behind-got ps x (sym e ∙ s.readable.reads) in
      no_space s.readable.reads (subst (λ qs. PiecesOver m limit o p qs o') (sym b.parts) (over-more b.left h))

  module _ {w' : Walk} {o' : List ℕ} where
    module _ (t : OwnLaid ws pairs w w') {r : Option ℕ} (l : Lays limit o p (take (w'.place - w.place) (drop w.place ws)) o' r) where
      pub own-further : {q : ℕ} → r ≡ Some q → Advanced m ws pairs w limit o p o' (Further w' q 0)
      own-further e = further (own_pieces t.tokens) t.reads t.further t.inside (own-to t.tokens t.words l e)

      pub own-full : r ≡ None → Advanced m ws pairs w limit o p o' NoSpace
      own-full e = step-over (own_pieces t.tokens) (left_in ws pairs w') t.reads (own-over t.tokens t.words l e)

    module _ {a : Role} (t : TypeLeft ws pairs w a w') {r : Option (ℕ × ℕ × ℕ)} (l : TypeRebuilds m limit o p (tree_at ws pairs w.place) o' r) where
      pub type-further : {n q d : ℕ} → r ≡ Some (n, q, d) → Advanced m ws pairs w limit o p o' (Further (moved w' n) q d)
      type-further {n} e =
          let b = type-done a l e t.first in
          let v = tree-run ws pairs w.place s.inside t.first in
          let h : w.place < n = omega (arith, b.1, v.1, words-some t.tree) in
          let i : n ≤ length ws = omega (arith, b.1, v.1, v.0.ends, encode-words t.tree) in
          further (type a t.tree ∷ []) (t.reads ∙ ap (λ x. ahead (type a t.tree ∷ []) (left_in ws pairs (moved w' x))) (sym b.1)) h i b.0

      pub type-full : r ≡ None → Advanced m ws pairs w limit o p o' NoSpace
      type-full e = step-over (type a t.tree ∷ []) (left_in ws pairs (moved w' t.end)) t.reads (type-over a l e t.first)

-- ---- the walk

-- the pieces before w are laid down
pub record Going (ws pairs : List ℕ) (text : Bytes) (rules table : List ℕ) (k : ℕ) (w₀ : Walk) (limit : ℕ) (o : List ℕ) (p : ℕ) (o' : List ℕ) (w : Walk) (q found : ℕ) : Type 0 where
  pub ready : WalkReady ws pairs text rules table k w o' q limit
  pub done : List (Piece ℕ)
  pub reads : left_in ws pairs w₀ ≡ ahead done (left_in ws pairs w)
  pub laid : PiecesLaid (mapping rules pairs text) limit o p done o' q found

module _ {ws pairs : List ℕ} {text : Bytes} {rules table : List ℕ} {k : ℕ} {w₀ : Walk} {limit : ℕ} {o : List ℕ} {p : ℕ} where
  pub going-starts : WalkReady ws pairs text rules table k w₀ o p limit → Going ws pairs text rules table k w₀ limit o p o w₀ p 0
  going-starts s = record { ready = s; done = []; reads = sym (ahead_none (left_in ws pairs w₀)); laid = laid-nothing s.within s.room }

  module _ {o₁ : List ℕ} {w : Walk} {q found : ℕ} (g : Going ws pairs text rules table k w₀ limit o p o₁ w q found) where
    abbrev by : Ty ℕ → Ty ℕ
    by = mapping rules pairs text

    pub going_on : {o₂ : List ℕ} {a : Advance} {w' : Walk} {q' d deep : ℕ} → Advanced by ws pairs w limit o₁ q o₂ a → a ≡ Further w' q' d → deep ≡ max found d
        → Going ws pairs text rules table k w₀ limit o p o₂ w' q' deep × (w.place < w'.place)
    going_on {o₂} {a} {w'} {q'} {d} {deep} h e z = go (subst (Advanced by ws pairs w limit o₁ q o₂) e h)
      where
        go : Advanced by ws pairs w limit o₁ q o₂ (Further w' q' d) → Going ws pairs text rules table k w₀ limit o p o₂ w' q' deep × (w.place < w'.place)
        go (further ps r n i l) =
            let s = g.ready in
            let x = behind-got ps (left_in ws pairs w') (sym r ∙ s.readable.reads) in (
              record {
                ready = record {
                  good = s.good;
                  ruled = s.ruled;
                  readable = record { value = x.left; end = s.readable.end; reads = x.reads };
                  inside = i;
                  within = l.within;
                  room = omega (arith, s.room, l.grown.kept);
                };
                done = g.done ++ ps;
                reads = g.reads ∙ ap (ahead g.done) r ∙ ahead-twice g.done ps (left_in ws pairs w');
                laid = laid_then g.laid l z;
              },
              n,
            )

    pub going-ends : {o₂ : List ℕ} {a : Advance} → Advanced by ws pairs w limit o₁ q o₂ a → a ≡ Finished → PiecesRebuild by limit o p (left_in ws pairs w₀) o₂ (Some (w.place, q, found))
    unfolding ahead map_reading
    going-ends {o₂} h e = go (subst (Advanced by ws pairs w limit o₁ q o₂) e h)
      where
        go : Advanced by ws pairs w limit o₁ q o₂ Finished → PiecesRebuild by limit o p (left_in ws pairs w₀) o₂ (Some (w.place, q, found))
        go (finished r i) =
            let x : left_in ws pairs w₀ ≡ got g.done w.place = g.reads ∙ rw (r, append-nil g.done) refl in
            rebuilt x g.laid.fits g.laid.within (rw i g.laid.grown) g.laid.deeps

    going-over : {o₂ : List ℕ} → Advanced by ws pairs w limit o₁ q o₂ NoSpace → Advanced by ws pairs w₀ limit o p o₂ NoSpace
    unfolding ahead map_reading
    going-over (no_space {ps = ps} {n = n} r h) = let x : left_in ws pairs w₀ ≡ got (g.done ++ ps) n = g.reads ∙ rw r refl in no_space x (laid-over g.laid h)

    pub going-full : {o₂ : List ℕ} {a : Advance} → Advanced by ws pairs w limit o₁ q o₂ a → a ≡ NoSpace → PiecesRebuild by limit o p (left_in ws pairs w₀) o₂ None
    going-full {o₂} h e = go (going-over (subst (Advanced by ws pairs w limit o₁ q o₂) e h))
      where
        go : Advanced by ws pairs w₀ limit o p o₂ NoSpace → PiecesRebuild by limit o p (left_in ws pairs w₀) o₂ None
        go (no_space r f) = full r f.over f.kept

    -- several steps are one
    going-whole : w₀.place < w.place → Advanced by ws pairs w₀ limit o p o₁ (Further w q found)
    going-whole h = further g.done g.reads h g.ready.inside g.laid

-- ---- a field, whole

module _ {ws pairs : List ℕ} {text : Bytes} {rules table : List ℕ} {k : ℕ} {w : Walk} {o : List ℕ} {p limit : ℕ} (s : WalkReady ws pairs text rules table k w o p limit) (f : FieldNext w)
    {at : ℕ} (a : at ≡ field_type w) where
  abbrev inner : Walk
  inner = in_field w at

  -- its own words
  pub field-own : OwnLaid ws pairs w inner
  field-own = rw a (own-laid s refl (field-opens (name_count pairs) ws (λ x. x) (tree_at ws pairs) w s.readable.reads f) refl)

  module _ {o₁ : List ℕ} {r : Option ℕ} (l : Lays limit o p (take (at - w.place) (drop w.place ws)) o₁ r) where
    pub field-over : r ≡ None → Advanced (mapping rules pairs text) ws pairs w limit o p o₁ (field_advance w None)
    unfolding field_advance
    field-over e = own-full s field-own l e

    module _ {q : ℕ} (e : r ≡ Some q) where
      -- its type, behind them
      field-begun : Going ws pairs text rules table k w limit o p o₁ inner q 0
      field-begun = (going_on (going-starts s) (own-further s field-own l e) refl (let v : 0 ≡ max 0 0 = omega arith in v)).0

      pub field-ready : WalkReady ws pairs text rules table k inner o₁ q limit
      field-ready = field-begun.ready

      field-left : TypeLeft ws pairs inner w.role (past_type inner)
      field-left = type-left field-ready refl (type-due (omega arith)) refl

      pub field-readable : Readable (tree_at ws pairs at)
      field-readable = record { value = field-left.tree; end = field-left.end; reads = field-left.first }

      module _ {o₂ : List ℕ} {d : Option (ℕ × ℕ × ℕ)} (t : TypeRebuilds (mapping rules pairs text) limit o₁ q (tree_at ws pairs at) o₂ d) where
        field-further : {next pos deep : ℕ} → d ≡ Some (next, pos, deep) → Advanced (mapping rules pairs text) ws pairs w limit o p o₂ (Further (past_field w next) pos deep)
        field-further {next} {pos} {deep} h =
            let g = going_on field-begun (type-further field-ready field-left t h) refl (let v : deep ≡ max 0 deep = omega arith in v) in
            going-whole g.0 (omega (arith, field-own.further, g.1))

        pub field-advanced : Advanced (mapping rules pairs text) ws pairs w limit o p o₂ (field_advance w d)
        unfolding field_advance
        field-advanced = go d refl
          where
            go : (r : Option (ℕ × ℕ × ℕ)) → d ≡ r → Advanced (mapping rules pairs text) ws pairs w limit o p o₂ (field_advance w r)
            go (Some (n, q, deep)) h = field-further h
            go None h = going-over field-begun (type-full field-ready field-left t h)

-- ---- fields, one after the other

-- the fields before w are laid down, and one is left
pub record Among (ws pairs : List ℕ) (text : Bytes) (rules table : List ℕ) (k : ℕ) (w₀ : Walk) (limit : ℕ) (o : List ℕ) (p : ℕ) (o' : List ℕ) (w : Walk) (q found : ℕ) : Type 0 where
  pub going : Going ws pairs text rules table k w₀ limit o p o' w q found
  pub behind : w₀.place ≤ w.place
  pub due : FieldNext w

module _ {ws pairs : List ℕ} {text : Bytes} {rules table : List ℕ} {k : ℕ} {w₀ : Walk} {limit : ℕ} {o : List ℕ} {p : ℕ} {o₁ : List ℕ} {w : Walk} {q found : ℕ}
    (g : Among ws pairs text rules table k w₀ limit o p o₁ w q found) {o₂ : List ℕ} {r : Option (ℕ × ℕ × ℕ)} (h : Advanced (mapping rules pairs text) ws pairs w limit o₁ q o₂ (field_advance w r)) where
  pub among-full : r ≡ None → Advanced (mapping rules pairs text) ws pairs w₀ limit o p o₂ NoSpace
  unfolding field_advance
  among-full e = going-over g.going (subst (λ s. Advanced (mapping rules pairs text) ws pairs w limit o₁ q o₂ (field_advance w s)) e h)

  module _ {n q' d deep : ℕ} {w' : Walk} (e : r ≡ Some (n, q', d)) (x : w' ≡ past_field w n) (z : deep ≡ max found d) where
    among-on : Going ws pairs text rules table k w₀ limit o p o₂ w' q' deep × (w.place < w'.place)
    unfolding field_advance
    among-on = rw x (going_on g.going (subst (λ s. Advanced (mapping rules pairs text) ws pairs w limit o₁ q o₂ (field_advance w s)) e h) refl z)

    pub among-ahead : (w.place < w'.place) × (w'.place ≤ length ws)
    among-ahead = (among-on.1, among-on.0.ready.inside)

    pub among-ends : Advanced (mapping rules pairs text) ws pairs w₀ limit o p o₂ (Further w' q' deep)
    among-ends = going-whole among-on.0 (omega (arith, g.behind, among-on.1))

    pub among_next : (w'.fields ≡ 0 → ⊥) → Among ws pairs text rules table k w₀ limit o p o₂ w' q' deep
    among_next i = record {
      going = among-on.0;
      behind = omega (arith, g.behind, among-on.1);
      due = (ap Walk.types x, ap Walk.parameters x, ap Walk.after x, omega (arith, i));
    }

-- ---- the whole declaration

module _ (ws pairs : List ℕ) (text : Bytes) (c : Readable (declaration_in ws pairs)) where
  -- what a declaration begins with, and what is left behind it
  pub record Opened (w : Walk) : Type 0 where
    pub tokens : List (Token ℕ)
    pub left : List (Piece ℕ)
    pub reads : left_in ws pairs w ≡ got left c.end
    pub parts : pieces present c.value ≡ own_pieces tokens ++ left
    pub words : take w.place (drop 0 ws) ≡ map token_word tokens
    pub inside : w.place ≤ length ws

  module _ {bound : ℕ} {r : Result Walk Refusal} (b : bound ≡ name_count pairs) (e : r ≡ started (read_opening present bound ws 0)) where
    begins : r ≡ started (read_opening present (name_count pairs) ws 0)
    begins = e ∙ ap (λ n. started (read_opening present n ws 0)) b

    pub opens : {w : Walk} → r ≡ Ok w → Opened w
    opens d =
        let a = begun ws pairs text begins d in
        let h = opening-run ws (name_count pairs) 0 a.opening a.end a.reads in
        let l = whole-left (name_count pairs) ws (λ x. x) (tree_at ws pairs) 0 c.reads a.reads in
        let v = run-taken a.end a.opening.tokens h.0 (omega (arith, h.1)) in
        subst Opened (sym a.walk) record {
          tokens = a.opening.tokens;
          left = l.left;
          reads = l.reads;
          parts = l.parts ∙ ap (λ ks. own_pieces ks ++ l.left) (tokens-same a.opening.tokens);
          words = v.0;
          inside = omega (arith, v.1);
        }

    pub always-begun : {k : Refusal} → r ≡ Err k → ⊥
    always-begun d =
        let n = not-begun ws pairs text begins d in
        let h = ap ended (declaration-spelled ws pairs text 0) ∙ ended-map _ (declaration_in ws pairs) ∙ ap ended c.reads in
        impossible (cc (n, h))

  module _ {limit : ℕ} {o : List ℕ} {w : Walk} (k : Opened w) {o₁ : List ℕ} {l : Option ℕ} (h : Lays limit o 0 (take w.place (drop 0 ws)) o₁ l) where
    -- the rest can be rebuilt behind the opening
    pub opening-ready : {rules table : List ℕ} {n q : ℕ} → Good pairs text → Ruled rules pairs text table n → limit ≤ length o → l ≡ Some q → WalkReady ws pairs text rules table n w o₁ q limit
    opening-ready g r f e =
        let a = lays-to h e in
        record { good = g; ruled = r; readable = record { value = k.left; end = c.end; reads = k.reads }; inside = k.inside; within = a.0; room = omega (arith, f, a.1.kept) }

    module _ (m : Ty ℕ → Ty ℕ) where
      declared-over : {o' : List ℕ} → PiecesOver m limit o 0 (own_pieces k.tokens ++ k.left) o' → DeclarationRebuilds m limit o (declaration_in ws pairs) o' None
      declared-over {o'} f = let g : PiecesOver m limit o 0 (pieces present c.value) o' = rw k.parts f in full c.reads g.over g.kept

      -- its own words do not fit
      pub opening-over : l ≡ None → DeclarationRebuilds m limit o (declaration_in ws pairs) o₁ None
      opening-over e = declared-over (over-more k.left (own-over k.tokens k.words h e))

      -- the rest was rebuilt behind them
      pub opening-rest : {q : ℕ} {o₂ : List ℕ} {r : Option (ℕ × ℕ × ℕ)} → l ≡ Some q → PiecesRebuild m limit o₁ q (left_in ws pairs w) o₂ r → DeclarationRebuilds m limit o (declaration_in ws pairs) o₂ r
      opening-rest {q} {o₂} e b = go b
        where
          front : PiecesLaid m limit o 0 (own_pieces k.tokens) o₁ q 0
          front = own-to k.tokens k.words h e

          go : {s : Option (ℕ × ℕ × ℕ)} → PiecesRebuild m limit o₁ q (left_in ws pairs w) o₂ s → DeclarationRebuilds m limit o (declaration_in ws pairs) o₂ s
          go (rebuilt {a = ps} {n = n} {q = q'} {d = d} x f v g i) =
              let y : k.left ≡ ps = cc (k.reads, x) in
              let j : c.end ≡ n = cc (k.reads, x) in
              let t : PiecesLaid m limit o₁ q ps o₂ q' d = record { fits = f; within = v; grown = g; deeps = i } in
              let a : PiecesLaid m limit o 0 (pieces present c.value) o₂ q' d = rw (k.parts, y) (laid_then front t (omega arith)) in
              rebuilt (c.reads ∙ ap (got c.value) j) a.fits a.within (rw (declaration-words m c.value) a.grown) (a.deeps ∙ sym (declaration-depth m c.value))
          go (full {a = ps} x f i) =
              let y : k.left ≡ ps = cc (k.reads, x) in
              let t : PiecesOver m limit o₁ q ps o₂ = record { over = f; kept = i } in
              declared-over (rw y (laid-over front t))
