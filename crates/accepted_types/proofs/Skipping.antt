-- Passing over accepted types: what is due behind a head is what was due before it, less one, and the types that follow the head.
use Prim.Native.Nat.{ℕ, zero, suc, ◌+◌, ◌-◌, ◌≤◌, ◌<◌}
use mathlib.Core.Path.{◌≡◌, ap, sym, ◌∙◌, subst}
use mathlib.Core.List.{List}
use native.Mathlib.Omega.{arith}
use native.Mathlib.Numerals.{add-one, sub-one}
use native.Mathlib.Nat.{suc-add, zero-add}
use lib.ListN.{length}
use Rattle.rast.specs.Bytes.{Bytes}
use Rattle.rast.specs.Tree.{Ty, Tys, TypeApp, TupleType, FnType, nil, cons}
use Rattle.encoding.specs.declared.Head.{Head}
use Rattle.encoding.specs.declared.Head.TheVariants.{Plain, Name, FromPath, Apply, Ref, RefMut, Impl, Dyn, Tuple, Function, Both, ArrayOf, Synonym, Meta}
use Rattle.encoding.specs.Tables.{name_bytes, name_count}
use Rattle.encoding.specs.Reading.{Reading, got}
use Rattle.encoding.specs.Heads.{read_head}
use Rattle.encoding.specs.HeadWords.{kids, HeadHere, types_below, own_end}
use Rattle.encoding.specs.Types.{read_types, read_node, read_type, type_at}
use Rattle.encoding.proofs.Types.{Made₂, bind-got, made_got, made₂-got, node_of, type-lies}
use Rattle.encoding.proofs.Inside.{head-lies}
use Rattle.encoding.proofs.HeadWords.{words-kids, words-end}
use Rattle.accepted_types.specs.Accepted.{Readable, EndsAt}
use Rattle.accepted_types.proofs.Accepted.{type-here}

-- some types were read up to n
pub record Types (x : Reading (Tys Bytes)) (n : ℕ) : Type 0 where
  pub types : Tys Bytes
  pub reads : x ≡ got types n

module _ (f : ℕ → Reading (Ty Bytes)) where
  types-cons : (k p : ℕ) {t : Ty Bytes} {m n : ℕ} → f p ≡ got t m → Types (read_types f k m) n → Types (read_types f (suc k) p) n
  unfolding read_types
  types-cons k p {t} e r = record { types = cons t r.types; reads = rw (e, r.reads) }

  pub types-one : (p : ℕ) {t : Ty Bytes} {n : ℕ} → f p ≡ got t n → Types (read_types f 1 p) n
  unfolding read_types
  types-one p {t} e = record { types = cons t nil; reads = rw e }

  types-append : (j k p : ℕ) {m n : ℕ} → Types (read_types f j p) m → Types (read_types f k m) n → Types (read_types f (j + k) p) n
  unfolding read_types
  types-append zero k p {m} {n} r s = let e : p ≡ m = cc r.reads in rw (e, zero-add k) s
  types-append (suc j) k p {m} r s =
      let c = made₂-got (f p) (read_types f j) cons r.reads in
      rw (suc-add j k) (types-cons (j + k) p c.reads (types-append j k c.middle (record { types = c.right; reads = c.reads₂ }) s))

  types-two : (p : ℕ) {t u : Ty Bytes} {m n : ℕ} → f p ≡ got t m → f m ≡ got u n → Types (read_types f 2 p) n
  types-two p {m = m} e d = types-cons 1 p e (types-one m d)

  -- the types that follow a head
  node-types : (ws : List ℕ) (name : ℕ → Bytes) (h : Head) (p : ℕ) {t : Ty Bytes} {n : ℕ} → read_node ws name f h p ≡ got t n → Types (read_types f (kids h) p) n
  unfolding read_node read_types
  node-types ws name (Plain w) p e = record { types = nil; reads = cc }
  node-types ws name (Name x) p e = record { types = nil; reads = cc }
  node-types ws name (FromPath x) p e = record { types = nil; reads = cc }
  node-types ws name (Apply k) p e =
      let m = made₂-got (f p) (read_types f k) TypeApp e in
      rw (add-one k) (types-cons k p m.reads (record { types = m.right; reads = m.reads₂ }))
  node-types ws name Ref p e = types-one p (made_got (f p) _ e).reads
  node-types ws name RefMut p e = types-one p (made_got (f p) _ e).reads
  node-types ws name Impl p e = types-one p (made_got (f p) _ e).reads
  node-types ws name Dyn p e = types-one p (made_got (f p) _ e).reads
  node-types ws name (Tuple k) p e = let m = made_got (read_types f k p) TupleType e in record { types = m.value; reads = m.reads }
  node-types ws name (Function k) p e =
      let m = made₂-got (read_types f k p) f FnType e in
      types-append k 1 p (record { types = m.left; reads = m.reads }) (types-one m.middle m.reads₂)
  node-types ws name Both p e = let m = made₂-got (f p) f _ e in types-two p m.reads m.reads₂
  node-types ws name (ArrayOf s) p e = types-one p (made_got (f p) _ e).reads
  node-types ws name Synonym p e = let m = made₂-got (f p) f _ e in types-two p m.reads m.reads₂
  node-types ws name (Meta x) p e = types-one p (made_got (f p) _ e).reads

-- each of the types takes a word at least
pub types-fit : (ws pairs : List ℕ) (text : Bytes) (k p : ℕ) {n : ℕ} → p ≤ length ws → Types (read_types (type_at ws pairs text) k p) n → (p + k ≤ n) × (n ≤ length ws)
unfolding read_types
types-fit ws pairs text zero p {n} h r = let e : p ≡ n = cc r.reads in (omega arith, omega arith)
types-fit ws pairs text (suc k) p h r =
    let m = made₂-got (type_at ws pairs text p) (read_types (type_at ws pairs text) k) cons r.reads in
    let l = type-lies ws pairs text p h m.reads in
    let s = types-fit ws pairs text k m.middle l.ends (record { types = m.right; reads = m.reads₂ }) in
    (omega (arith, l.starts), s.1)

-- no types
pub none_of : (f : ℕ → Reading (Ty Bytes)) (k place : ℕ) {ts : Tys Bytes} {e : ℕ} → k ≡ 0 → read_types f k place ≡ got ts e → (ts ≡ nil) × (place ≡ e)
unfolding read_types
none_of f k place z r = let r' = rw z at r in (cc, cc)

-- the first of some types, and those behind it
pub first_of : (ws pairs : List ℕ) (text : Bytes) (k place : ℕ) {ts : Tys Bytes} {e : ℕ} → 0 < k → read_types (type_at ws pairs text) k place ≡ got ts e
    → Made₂ (type_at ws pairs text place) (read_types (type_at ws pairs text) (k - 1)) cons ts e
unfolding read_types
first_of ws pairs text zero place h e = absurd (let z : ⊥ = omega arith in z)
first_of ws pairs text (suc k) place h e = rw (sub-one (suc k)) (made₂-got (type_at ws pairs text place) (read_types (type_at ws pairs text) k) cons e)

-- on the way over the type at `at`: so many types are due at `place`, and they end where it ends
pub record Skipping (ws pairs : List ℕ) (text : Bytes) (at due place : ℕ) : Type 0 where
  pub type : Ty Bytes
  pub end : ℕ
  pub reads : type_at ws pairs text at ≡ got type end
  pub left : Types (read_types (type_at ws pairs text) due place) end
  pub inside : place ≤ length ws

pub record Stepped (ws pairs : List ℕ) (text : Bytes) (at due place k q : ℕ) : Type 0 where
  pub next : Skipping ws pairs text at (due - 1 + k) q
  pub few : due - 1 + k ≤ length ws
  pub ahead : place < q

pub skip-start : (ws pairs : List ℕ) (text : Bytes) (at : ℕ) → Readable (type_at ws pairs text at) → Skipping ws pairs text at 1 at
skip-start ws pairs text at r = record {
  type = r.value;
  end = r.end;
  reads = r.reads;
  left = types-one (type_at ws pairs text) at r.reads;
  inside = omega (arith, type-here ws pairs text at r.reads);
}

module _ {ws pairs : List ℕ} {text : Bytes} {at : ℕ} where
  skip_step : {due place : ℕ} {h : Head} {q : ℕ} → Skipping ws pairs text at due place → 0 < due → read_head (name_count pairs) ws place ≡ got h q → Stepped ws pairs text at due place (kids h) q
  skip_step {due} {place} {h} {q} s d e =
      let f = first_of ws pairs text due place d s.left.reads in
      let l = head-lies (name_count pairs) ws place e in
      let node = node_of ws pairs text place f.reads e in
      let all = types-append (type_at ws pairs text) (kids h) (due - 1) q (node-types (type_at ws pairs text) ws (name_bytes pairs text) h q node) (record { types = f.right; reads = f.reads₂ }) in
      let c : kids h + (due - 1) ≡ due - 1 + kids h = omega arith in
      let left = subst (λ (k : ℕ). Types (read_types (type_at ws pairs text) k q) s.end) c all in
      let fit = types-fit ws pairs text (due - 1 + kids h) q l.ends left in
      record {
        next = record { type = s.type; end = s.end; reads = s.reads; left = left; inside = l.ends };
        few = omega arith;
        ahead = l.starts;
      }

  -- where a type is due, a head stands
  module _ {due place : ℕ} (s : Skipping ws pairs text at due place) (d : 0 < due) where
    pub head-due : HeadHere ws place
    unfolding read_type
    head-due =
        let h = bind-got (read_head (name_count pairs) ws place) _ (first_of ws pairs text due place d s.left.reads).reads in
        record { bound = name_count pairs; head = h.value; next = h.end; reads = h.first }

    -- and its words say what is due behind it
    pub skip-words : Stepped ws pairs text at due place (types_below ws place) (own_end ws place)
    unfolding read_type
    skip-words =
        let h = bind-got (read_head (name_count pairs) ws place) _ (first_of ws pairs text due place d s.left.reads).reads in
        rw (words-kids (name_count pairs) ws place h.first, words-end (name_count pairs) ws place h.first) (skip_step s d h.first)

  -- where nothing is due, the type ends
  pub skip-end : {due place : ℕ} → Skipping ws pairs text at due place → due ≡ 0 → EndsAt (type_at ws pairs text at) place
  unfolding read_types
  skip-end {place = place} s z =
      let e : place ≡ s.end = (let l = rw z at s.left.reads in cc) in
      record { value = s.type; reads = s.reads ∙ ap (got s.type) (sym e) }
