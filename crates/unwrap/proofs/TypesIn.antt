-- The types in an accepted type, by the word that stands there.
use Prim.Native.Nat.{ℕ, ◌+◌, ◌%◌, ◌<◌}
use mathlib.Core.Path.{◌≡◌}
use mathlib.Core.List.{List}
use lib.Dec.{eqb, leb}
use lib.ListN.{length, get_or}
use Rattle.rast.specs.Bytes.{Bytes}
use Rattle.rast.specs.Tree.{Ty, TypeApp, Borrowed, BorrowedMut, ImplType, DynType, IntersectionType, Array, TSynonym, TMetaData}
use Rattle.encoding.specs.declared.Head.TheVariants.{Meta}
use Rattle.encoding.specs.Tables.{name_bytes}
use Rattle.encoding.specs.Heads.{head_after}
use Rattle.encoding.specs.Reading.{Reading, got}
use Rattle.encoding.specs.Types.{size_of, read_types, read_node, type_at}
use Rattle.encoding.proofs.Types.{Made, Made₂, made_got, made₂-got}
use Rattle.accepted_types.specs.Accepted.{Readable}
use Rattle.accepted_types.proofs.Accepted.{ref-head, mut-head, impl-head, dyn-head, both-head, synonym-head, apply-head, array_head, by-below}

module _ (ws pairs : List ℕ) (text : Bytes) (at : ℕ) {t : Ty Bytes} {n : ℕ} (e : type_at ws pairs text at ≡ got t n) where
  pub ref-of : get_or ws at 0 ≡ 15 → Made (type_at ws pairs text (at + 1)) Borrowed t n
  unfolding read_node
  ref-of h = made_got (type_at ws pairs text (at + 1)) Borrowed (ref-head ws pairs text at e h)

  pub mut_of : get_or ws at 0 ≡ 16 → Made (type_at ws pairs text (at + 1)) BorrowedMut t n
  unfolding read_node
  mut_of h = made_got (type_at ws pairs text (at + 1)) BorrowedMut (mut-head ws pairs text at e h)

  pub impl_of : get_or ws at 0 ≡ 17 → Made (type_at ws pairs text (at + 1)) ImplType t n
  unfolding read_node
  impl_of h = made_got (type_at ws pairs text (at + 1)) ImplType (impl-head ws pairs text at e h)

  pub dyn-of : get_or ws at 0 ≡ 18 → Made (type_at ws pairs text (at + 1)) DynType t n
  unfolding read_node
  dyn-of h = made_got (type_at ws pairs text (at + 1)) DynType (dyn-head ws pairs text at e h)

  pub both_of : get_or ws at 0 ≡ 21 → Made₂ (type_at ws pairs text (at + 1)) (type_at ws pairs text) IntersectionType t n
  unfolding read_node
  both_of h = made₂-got (type_at ws pairs text (at + 1)) (type_at ws pairs text) IntersectionType (both-head ws pairs text at e h)

  pub synonym-of : get_or ws at 0 ≡ 23 → Made₂ (type_at ws pairs text (at + 1)) (type_at ws pairs text) TSynonym t n
  unfolding read_node
  synonym-of h = made₂-got (type_at ws pairs text (at + 1)) (type_at ws pairs text) TSynonym (synonym-head ws pairs text at e h)

  -- the type that metadata makes of d
  abbrev pub flagged : Ty Bytes → Ty Bytes
  flagged d = TMetaData d (eqb (get_or ws (at + 1) 0 % 2) 1) (leb 2 (get_or ws (at + 1) 0))

  pub meta-of : get_or ws at 0 ≡ 24 → (at + 1 < length ws) × Made (type_at ws pairs text (at + 2)) flagged t n
  unfolding head_after read_node
  meta-of h =
      let k = by-below ws pairs text at e 4 Meta (rw h) in
      (k.0, made_got (type_at ws pairs text (at + 2)) flagged k.2)

  abbrev pub sized : Ty Bytes → Ty Bytes
  sized u = Array u (size_of (name_bytes pairs text) (get_or ws (at + 1) 0))

  pub array_of : get_or ws at 0 ≡ 22 → (at + 1 < length ws) × Made (type_at ws pairs text (at + 2)) sized t n
  unfolding read_node
  array_of h =
      let k = array_head ws pairs text at e h in
      (k.0, made_got (type_at ws pairs text (at + 2)) sized k.2)

  pub apply-of : get_or ws at 0 ≡ 14
      → (at + 1 < length ws) × Made₂ (type_at ws pairs text (at + 2)) (read_types (type_at ws pairs text) (get_or ws (at + 1) 0)) TypeApp t n
  unfolding read_node
  apply-of h =
      let k = apply-head ws pairs text at e h in
      (k.0, made₂-got (type_at ws pairs text (at + 2)) (read_types (type_at ws pairs text) (get_or ws (at + 1) 0)) TypeApp k.1)

made-readable : {x : Reading (Ty Bytes)} {c : Ty Bytes → Ty Bytes} {t : Ty Bytes} {n : ℕ} → Made x c t n → Readable x
made-readable {n = n} m = record { value = m.value; end = n; reads = m.reads }

-- what is borrowed, and an array's element, was read
module _ (ws pairs : List ℕ) (text : Bytes) (at : ℕ) (r : Readable (type_at ws pairs text at)) where
  pub ref-readable : get_or ws at 0 ≡ 15 → Readable (type_at ws pairs text (at + 1))
  ref-readable h = made-readable (ref-of ws pairs text at r.reads h)

  pub element-readable : get_or ws at 0 ≡ 22 → Readable (type_at ws pairs text (at + 2))
  element-readable h = made-readable (array_of ws pairs text at r.reads h).1
