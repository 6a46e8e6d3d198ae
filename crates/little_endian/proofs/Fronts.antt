-- The front of a list that is lent, and comes back with another content and the same length.
use Prim.Native.Nat.{ℕ, ◌≤◌}
use mathlib.Core.Path.{◌≡◌, ◌∙◌}
use mathlib.Core.List.{List, ◌++◌}
use lib.ListN.{length, take, drop}
use lib.Seq.{length-take-le, take_at}

pub front-back : (d e : List ℕ) (n : ℕ) → n ≤ length d → length e ≡ length (take n d) → take n (e ++ drop n d) ≡ e
front-back d e n h l = take_at e (drop n d) n (l ∙ length-take-le n d h)
