-- Laws of a path's text, name by name.
use Prim.Native.Nat.{ℕ, suc, ◌+◌, ◌-◌, ◌≤◌, ◌<◌}
use mathlib.Core.Path.{◌≡◌, ◌∙◌}
use mathlib.Core.List.{List, ◌++◌, map, flatten, append_assoc}
use native.Mathlib.Omega.{arith}
use native.Mathlib.Numerals.{add-one}
use borrow.Author.Tests.{ne_eqb}
use lib.ListN.{length, get_or, take, drop, length-take, length-drop}
use lib.Seq.{drop-cons}
use Rattle.std.proofs.lemmas.List.{get_or-take, get_or-drop}
use Rattle.rast.specs.Bytes.{Bytes, ascii}
use Rattle.rast.specs.ToString.{Path-to_string, size_text}
use Rattle.rast.proofs.SourceEquations.{path-text as segments-text}
use Rattle.buffer.specs.Wrote.{Wrote}
use Rattle.encoding.specs.declared.PathAt.{PathAt}
use Rattle.encoding.specs.Types.{root_of, path_of, size_of}
use Rattle.text_leaf.specs.Texts.{member_text, end_text}

-- the text of the names, each behind its colons
abbrev pub members_text : List Bytes → Bytes
members_text xs = flatten (map member_text xs)

-- the names from `start` to `end` as a slice
module _ (ws : List ℕ) (start end i : ℕ) where
  pub part_at : i < length (take (end - start) (drop start ws)) → (start + i < end) × (get_or (take (end - start) (drop start ws)) i 0 ≡ get_or ws (start + i) 0)
  part_at h =
      let k : i < end - start = omega (arith, length-take (end - start) (drop start ws)) in
      (omega arith, get_or-take (end - start) (drop start ws) i 0 k ∙ get_or-drop start ws i 0)

  pub part-done : start ≤ end → end ≤ length ws → length (take (end - start) (drop start ws)) ≤ i → end ≤ start + i
  part-done h k l = omega (arith, length-take (end - start) (drop start ws), length-drop start ws)

-- the names from i to the end
pub members-from : (name : ℕ → Bytes) (ws : List ℕ) (i end : ℕ) → i < end → end ≤ length ws
    → members_text (map name (take (end - i) (drop i ws))) ≡ member_text (name (get_or ws i 0)) ++ members_text (map name (take (end - (i + 1)) (drop (i + 1) ws)))
unfolding flatten
members-from name ws i end h k =
    let h' : i < length ws = omega arith in
    let e : end - i ≡ suc (end - suc i) = omega arith in
    rw (e, drop-cons ws i 0 h', add-one i)

pub root-self : (r : ℕ) → (r ≡ 0 → ⊥) → (r ≡ 1 → ⊥) → Path-to_string (root_of r) ≡ ascii "Self"
unfolding root_of Path-to_string
root-self r h k = rw (ne_eqb r 0 h, ne_eqb r 1 k)

-- the end of a sized array's text
pub sized-end : (name : ℕ → Bytes) (s : ℕ) → (s ≡ 0 → ⊥) → end_text (size_of name s) ≡ ascii "; " ++ (name (s - 1) ++ ascii "]")
unfolding size_text size_of
sized-end name s h = rw (ne_eqb s 0 h) (append_assoc (ascii "; ") (name (s - 1)) (ascii "]"))

-- the names from start to end, of which those before i are written
pub record MembersLeft (ws : List ℕ) (name : ℕ → Bytes) (start end : ℕ) (o : List ℕ) (p : ℕ) (o' : List ℕ) (p' i : ℕ) : Type 0 where
  pub front : Bytes
  pub wrote : Wrote o p front o' p'
  pub splits : members_text (map name (take (end - start) (drop start ws))) ≡ front ++ members_text (map name (take (end - i) (drop i ws)))
  pub inside : (start ≤ i) × (i ≤ end)

-- a path's text is its root's and then its names'
pub path-text : (ws : List ℕ) (name : ℕ → Bytes) (path : PathAt)
    → Path-to_string (path_of ws name path) ≡ Path-to_string (root_of path.root) ++ members_text (map name (take (path.start + path.count - path.start) (drop path.start ws)))
unfolding path_of
path-text ws name path =
    let e : path.start + path.count - path.start ≡ path.count = omega arith in
    rw e (segments-text (root_of path.root) (map name (take path.count (drop path.start ws))))
