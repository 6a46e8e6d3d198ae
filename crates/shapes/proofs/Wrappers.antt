-- The types behind wrappers and borrows stand where they are said.
use Prim.Native.Nat.{ℕ, ◌+◌}
use mathlib.Core.Path.{◌≡◌}
use mathlib.Core.List.{List}
use Rattle.rast.specs.Bytes.{Bytes}
use Rattle.rast.specs.Tree.{Ty, Primitive, TIdentifier, TypeFromPath, TypeApp, Borrowed, BorrowedMut, ImplType, DynType, TupleType, FnType, IntersectionType, Array, TSynonym, TMetaData}
use Rattle.encoding.specs.Reading.{Reading, got}
use Rattle.encoding.specs.Types.{type_at}
use Rattle.tree_words.specs.Encode.{words}
use Rattle.tree_words.specs.Places.{Place}
use Rattle.shapes.specs.Parts.{removed_at, expanded_at, owned_at, expanded}
use Rattle.known_paths.proofs.Children.{Standing, base-below, display-below, meta-below, mut-below, ref-below, stand-here}

module _ (ws pairs : List ℕ) (text : Bytes) where
  abbrev again : ℕ → Reading (Ty Bytes)
  again = type_at ws pairs text

  removed-stands : (p : ℕ) (t : Ty Bytes) (n : ℕ) → again p ≡ got t n → Standing ws pairs text (removed_at p t)
  unfolding removed_at
  removed-stands p (Primitive x) n e = stand-here ws pairs text p e
  removed-stands p (TIdentifier x) n e = stand-here ws pairs text p e
  removed-stands p (TypeFromPath x) n e = stand-here ws pairs text p e
  removed-stands p (TypeApp b ts) n e = stand-here ws pairs text p e
  removed-stands p (Borrowed t) n e = stand-here ws pairs text p e
  removed-stands p (BorrowedMut t) n e = stand-here ws pairs text p e
  removed-stands p (ImplType t) n e = stand-here ws pairs text p e
  removed-stands p (DynType t) n e = stand-here ws pairs text p e
  removed-stands p (TupleType ts) n e = stand-here ws pairs text p e
  removed-stands p (FnType ts t) n e = stand-here ws pairs text p e
  removed-stands p (IntersectionType l r) n e = stand-here ws pairs text p e
  removed-stands p (Array t s) n e = stand-here ws pairs text p e
  removed-stands p (TSynonym d b) n e = removed-stands (p + 1) d (p + 1 + words d) (display-below ws pairs text p e)
  removed-stands p (TMetaData d c o) n e = removed-stands (p + 2) d n (meta-below ws pairs text p e)

  expanded-stands : (p : ℕ) (t : Ty Bytes) (n : ℕ) → again p ≡ got t n → Standing ws pairs text (expanded_at p t)
  unfolding expanded_at
  expanded-stands p (Primitive x) n e = stand-here ws pairs text p e
  expanded-stands p (TIdentifier x) n e = stand-here ws pairs text p e
  expanded-stands p (TypeFromPath x) n e = stand-here ws pairs text p e
  expanded-stands p (TypeApp b ts) n e = stand-here ws pairs text p e
  expanded-stands p (Borrowed t) n e = stand-here ws pairs text p e
  expanded-stands p (BorrowedMut t) n e = stand-here ws pairs text p e
  expanded-stands p (ImplType t) n e = stand-here ws pairs text p e
  expanded-stands p (DynType t) n e = stand-here ws pairs text p e
  expanded-stands p (TupleType ts) n e = stand-here ws pairs text p e
  expanded-stands p (FnType ts t) n e = stand-here ws pairs text p e
  expanded-stands p (IntersectionType l r) n e = stand-here ws pairs text p e
  expanded-stands p (Array t s) n e = stand-here ws pairs text p e
  expanded-stands p (TSynonym d b) n e = expanded-stands (p + 1 + words d) b n (base-below ws pairs text p e)
  expanded-stands p (TMetaData d c o) n e = expanded-stands (p + 2) d n (meta-below ws pairs text p e)

  owned-stands : (p : ℕ) (t : Ty Bytes) (n : ℕ) → again p ≡ got t n → Standing ws pairs text (owned_at p t)
  unfolding owned_at
  owned-stands p (Primitive x) n e = stand-here ws pairs text p e
  owned-stands p (TIdentifier x) n e = stand-here ws pairs text p e
  owned-stands p (TypeFromPath x) n e = stand-here ws pairs text p e
  owned-stands p (TypeApp b ts) n e = stand-here ws pairs text p e
  owned-stands p (Borrowed t) n e = stand-here ws pairs text (p + 1) (ref-below ws pairs text p e)
  owned-stands p (BorrowedMut t) n e = stand-here ws pairs text (p + 1) (mut-below ws pairs text p e)
  owned-stands p (ImplType t) n e = stand-here ws pairs text p e
  owned-stands p (DynType t) n e = stand-here ws pairs text p e
  owned-stands p (TupleType ts) n e = stand-here ws pairs text p e
  owned-stands p (FnType ts t) n e = stand-here ws pairs text p e
  owned-stands p (IntersectionType l r) n e = stand-here ws pairs text p e
  owned-stands p (Array t s) n e = stand-here ws pairs text p e
  owned-stands p (TSynonym d b) n e = stand-here ws pairs text p e
  owned-stands p (TMetaData d c o) n e = stand-here ws pairs text p e

  pub stand-removed : {p : Place Bytes} → Standing ws pairs text p → Standing ws pairs text (removed_at p.at p.tpe)
  stand-removed {p} s = removed-stands p.at p.tpe s.end s.reads

  pub stand-expanded : {p : Place Bytes} → Standing ws pairs text p → Standing ws pairs text (expanded p)
  unfolding expanded
  stand-expanded {p} s = expanded-stands p.at p.tpe s.end s.reads

  pub stand-owned : {p : Place Bytes} → Standing ws pairs text p → Standing ws pairs text (owned_at p.at p.tpe)
  stand-owned {p} s = owned-stands p.at p.tpe s.end s.reads
