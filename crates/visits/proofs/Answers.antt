-- From what was read and laid down to a call's answer and buffer.
use Rattle.std.specs.Prelude.{Ok, Err, Result}
use Prim.Native.Nat.{ℕ, ◌≤◌, ◌<◌}
use mathlib.Core.Path.{◌≡◌, ap, sym, ◌∙◌}
use mathlib.Core.List.{List, append-nil}
use native.Mathlib.Omega.{arith}
use lib.ListN.{length}
use Rattle.rast.specs.Bytes.{Bytes}
use Rattle.rast.specs.Tree.{nil, cons}
use Rattle.buffer.proofs.Laws.{wrote_as}
use Rattle.encoding.specs.declared.Refusal.{Refusal}
use Rattle.encoding.specs.declared.Refusal.TheVariants.{LeftOver, BufferTooShort}
use Rattle.encoding.specs.Refusals.{Answer, unless}
use Rattle.encoding.specs.Reading.{got, whole}
use Rattle.encoding.specs.Scans.{ended}
use Rattle.encoding.specs.Tables.{check_tables}
use Rattle.encoding.specs.Types.{type_at, type_of}
use Rattle.encoding.specs.Declarations.{declaration_of}
use Rattle.encoding.proofs.Answers.{filled-stop, filled-left, filled-short, filled-done, filled-passed, filled-failed, map-unless}
use Rattle.encoding.proofs.Reading.{scan-got, scan-stop}
use Rattle.encoding.proofs.Types.{type-lies}
use Rattle.tree_words.proofs.Nodes.{one-read}
use Rattle.accepted_types.specs.declared.Spot.{Spot}
use Rattle.accepted_types.specs.Accepted.{Readable}
use Rattle.accept_declaration.specs.declared.Whole.{Whole}
use Rattle.accept_declaration.specs.declared.Whole.TheVariants.{AType, ADeclaration}
use Rattle.visits.specs.Visited.{visited, visited_from, positions, type_visits, declaration_visits}
use Rattle.encoding.specs.Filled.{filled}
use Rattle.visits.specs.Passes.{TypesDue, Visited, held_visits, FillsWords, AllVisited, whole_visits}
use Rattle.accept_declaration.specs.Ends.{Held, held_at}
use Rattle.visits.proofs.Lists.{list_of}

module _ (ws pairs : List ℕ) (text : Bytes) where
  -- ---- an accepted type, as one type that is due

  pub type-due : length ws ≤ 8192 → Readable (type_at ws pairs text 0) → TypesDue ws pairs text 0 1 0
  type-due h t = record { few = h; inside = omega arith; counted = omega arith; there = record { value = cons t.value nil; end = t.end; reads = one-read (type_at ws pairs text) 0 t.reads } }

  -- and its list laid down
  pub type-visited : {o o' : List ℕ} {s : Spot} → Readable (type_at ws pairs text 0) → Visited ws pairs text 0 1 o 0 o' s → AllVisited AType ws pairs text o o' s.pos
  unfolding visited visited_from
  type-visited {s = s} t v =
      let ts : v.types ≡ cons t.value nil = cc (one-read (type_at ws pairs text) 0 t.reads, v.reads) in
      let e : s.next ≡ t.end = cc (one-read (type_at ws pairs text) 0 t.reads, v.reads) in
      record {
        value = t.value;
        end = t.end;
        reads = t.reads;
        wrote = wrote_as (ap (list_of 0) ts ∙ ap positions (append-nil (visited_from 0 t.value))) v.wrote;
        counted = omega (arith, v.counted, e, (type-lies ws pairs text 0 (omega arith) t.reads).ends);
      }

  -- ---- the answers of a call

  -- two passes count alike
  pub same_count : {what : Whole} {o₁ o₂ o₃ o₄ : List ℕ} {p q : ℕ} → AllVisited what ws pairs text o₁ o₂ p → AllVisited what ws pairs text o₃ o₄ q → p ≡ q
  same_count {what} v w =
      let e : v.value ≡ w.value = cc (v.reads, w.reads) in
      omega (arith, v.wrote.next, w.wrote.next, ap (λ (x : Held what). length (held_visits what x)) e)

  module _ (what : Whole) (o : List ℕ) where
    module _ (f : FillsWords what ws pairs text) where
      whole-read : {o₁ o₂ : List ℕ} {p : ℕ} (v : AllVisited what ws pairs text o₁ o₂ p) → v.end ≡ length ws
      whole-read v = let m : length ws ≡ v.end = cc (f.reads, v.reads) in sym m

      pub visits-short : {o₁ o₂ : List ℕ} {p : ℕ} → AllVisited what ws pairs text o₁ o₂ p → length o < p → ◌≡◌ {A = Result ℕ Refusal × List ℕ} (Err BufferTooShort, o) (filled o (whole_visits what ws pairs text))
      visits-short v l = filled-short o (held_visits what) (length ws) (held_at what ws pairs text) v.reads (whole-read v) (omega (arith, v.wrote.next, l))

      pub visits-done : {o' : List ℕ} {p : ℕ} → AllVisited what ws pairs text o o' p → p ≤ length o → ◌≡◌ {A = Result ℕ Refusal × List ℕ} (Ok p, o') (filled o (whole_visits what ws pairs text))
      visits-done {p = p} v l =
          filled-done o (held_visits what) (length ws) (held_at what ws pairs text) p v.reads (whole-read v)
          (omega (arith, v.wrote.next, l)) (omega (arith, v.wrote.next)) v.wrote.bytes

      -- there are no more positions than words
      pub visits-within : {o' : List ℕ} {p : ℕ} → AllVisited what ws pairs text o o' p → length ws ≤ length o → ◌≡◌ {A = Result ℕ Refusal × List ℕ} (Ok p, o') (filled o (whole_visits what ws pairs text))
      visits-within v l = visits-done v (omega (arith, v.counted, l))

  -- by what acceptance said: the tree ends where the words do, or before, or it is refused
  module _ (what : Whole) {s : Result ℕ Refusal} (e : s ≡ ended (held_at what ws pairs text)) where
    pub fills : {n : ℕ} → s ≡ Ok n → n ≡ length ws → FillsWords what ws pairs text
    fills d h = let t = scan-got (held_at what ws pairs text) e d in record { value = t.value; reads = t.reads ∙ ap (got t.value) h }

    pub visits-left : (o : List ℕ) {n : ℕ} → s ≡ Ok n → (n ≡ length ws → ⊥) → ◌≡◌ {A = Result ℕ Refusal × List ℕ} (Err LeftOver, o) (filled o (whole_visits what ws pairs text))
    visits-left o d h = filled-left o (held_visits what) (length ws) (held_at what ws pairs text) (scan-got (held_at what ws pairs text) e d).reads h

    pub visits-stop : (o : List ℕ) {k : Refusal} → s ≡ Err k → ◌≡◌ {A = Result ℕ Refusal × List ℕ} (Err k, o) (filled o (whole_visits what ws pairs text))
    visits-stop o d = filled-stop o (held_visits what) (length ws) (held_at what ws pairs text) (scan-stop (held_at what ws pairs text) e d)

  pub fills-readable : {what : Whole} → FillsWords what ws pairs text → Readable (held_at what ws pairs text)
  fills-readable f = record { value = f.value; end = length ws; reads = f.reads }

  -- ---- the tables are tested first

  -- what the two calls are to give
  abbrev call_visits : Whole → Answer (List ℕ)
  call_visits AType = type_visits ws pairs text
  call_visits ADeclaration = declaration_visits ws pairs text

  call-tested : (what : Whole) → unless (check_tables ws pairs text) (whole_visits what ws pairs text) ≡ call_visits what
  unfolding type_visits type_of declaration_visits declaration_of
  call-tested AType = sym (map-unless (held_visits AType) (check_tables ws pairs text) (whole (length ws) (held_at AType ws pairs text)))
  call-tested ADeclaration = sym (map-unless (held_visits ADeclaration) (check_tables ws pairs text) (whole (length ws) (held_at ADeclaration ws pairs text)))

  module _ (what : Whole) (o : List ℕ) {t : Result (Unit {0}) Refusal} (e : t ≡ check_tables ws pairs text) where
    pub tables-passed-visits : {p : Result ℕ Refusal × List ℕ} → t ≡ Ok tt → p ≡ filled o (whole_visits what ws pairs text) → p ≡ filled o (call_visits what)
    tables-passed-visits d h = filled-passed o (check_tables ws pairs text) (whole_visits what ws pairs text) (sym e ∙ d) h ∙ ap (filled o) (call-tested what)

    pub tables-failed-visits : {k : Refusal} → t ≡ Err k → ◌≡◌ {A = Result ℕ Refusal × List ℕ} (Err k, o) (filled o (call_visits what))
    tables-failed-visits d = filled-failed o (check_tables ws pairs text) (whole_visits what ws pairs text) (sym e ∙ d) ∙ ap (filled o) (call-tested what)
