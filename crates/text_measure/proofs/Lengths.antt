-- Laws of the lengths of names and paths.
use Prim.Native.Nat.{ℕ, zero, suc, ◌+◌, ◌*◌, ◌-◌, ◌^◌, ◌≤◌, ◌<◌}
use mathlib.Core.Path.{◌≡◌, ◌∙◌}
use mathlib.Core.List.{List, map}
use native.Mathlib.Omega.{arith}
use native.Mathlib.Decide.{dec_lt}
use lib.ListN.{length, get_or, take, drop, length-append}
use lib.Seq.{drop-cons}
use Rattle.rast.specs.Bytes.{Bytes, ascii}
use Rattle.rast.specs.Tree.{Path, PMemberSelect, MSels}
use Rattle.rast.specs.ToString.{Path-to_string}
use Rattle.encoding.specs.declared.PathAt.{PathAt}
use Rattle.encoding.specs.Tables.{name_bytes, name_count}
use Rattle.encoding.specs.Tested.{Good, name_length}
use Rattle.encoding.specs.HeadWords.{InsidePath}
use Rattle.encoding.specs.Types.{root_of, path_of}
use Rattle.encoding.proofs.Tables.{fixed-inside, fixed-length, length-fixed, length-pair, name-length}
use Rattle.text_measure.specs.Lengths.{names_length, path_length}
use Rattle.text_measure.proofs.PathNames.{part-next, part_none}

-- a name's length is a word of the pairs, or that of a fixed name
pub name-short : (pairs : List ℕ) → ((i : ℕ) → get_or pairs i 0 < 2 ^ 32) → (x : ℕ) → name_length pairs x < 2 ^ 32
name-short pairs h x = go (dec_lt x 16)
  where
    go : Dec (x < 16) → name_length pairs x < 2 ^ 32
    go (yes k) = omega (arith, length-fixed pairs x k, fixed-length x k, fixed-inside x k)
    go (no k) = omega (arith, length-pair pairs x (omega arith), h (2 * (x - 16) + 1))

pub name-fits : (pairs : List ℕ) → ((i : ℕ) → get_or pairs i 0 < 2 ^ 32) → (x n : ℕ) → n ≡ name_length pairs x → n < 2 ^ 32
name-fits pairs h x n e = omega (arith, name-short pairs h x)

-- ---- paths

-- the names from `i` on, up to `end`
pub names_more : (len : ℕ → ℕ) (ws : List ℕ) (i end : ℕ) → i < end → i < length ws
    → names_length len (take (end - i) (drop i ws)) ≡ 2 + len (get_or ws i 0) + names_length len (take (end - (i + 1)) (drop (i + 1) ws))
unfolding names_length
names_more len ws i end h l = rw (part-next ws i end h l)

pub names-none : (len : ℕ → ℕ) (ws : List ℕ) (i end : ℕ) → end ≤ i → names_length len (take (end - i) (drop i ws)) ≡ 0
unfolding names_length
names-none len ws i end h = rw (part_none ws i end h)

module _ (ws pairs : List ℕ) (text : Bytes) (good : Good pairs text) where
  names-length : (p : Path Bytes) (n at : ℕ) → at + n ≤ length ws → ((i : ℕ) → at ≤ i → i < at + n → get_or ws i 0 < name_count pairs)
      → length (Path-to_string (MSels p (map (name_bytes pairs text) (take n (drop at ws)))))
      ≡ length (Path-to_string p) + names_length (name_length pairs) (take n (drop at ws))
  unfolding MSels Path-to_string names_length ascii
  names-length p zero at l k = omega arith
  names-length p (suc n) at l k =
      let h : at < length ws = omega arith in
      let e = name-length pairs text (get_or ws at 0) good (k at (omega arith) (omega arith)) in
      let ih = names-length (PMemberSelect p (name_bytes pairs text (get_or ws at 0))) n (suc at) (omega arith) (λ i a b. k i (omega arith) (omega arith)) in
      rw (drop-cons ws at 0 h) (ih ∙ simp length-append (omega arith))

  pub path-length : (p : PathAt) → InsidePath (name_count pairs) ws p
      → length (Path-to_string (path_of ws (name_bytes pairs text) p)) ≡ path_length ws (name_length pairs) p
  unfolding path_of path_length
  path-length p h = names-length (root_of p.root) p.count p.start h.inside h.below
