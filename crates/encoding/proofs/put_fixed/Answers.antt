use mathlib.Core.Path.{ap, ◌∙◌}
use Prim.Native.Nat.{ℕ}
use lib.ListN.{drop, get_or, take}
use Rattle.buffer.proofs.Laws.{wrote_as}
use native.Mathlib.Omega.{arith}
use Rattle.encoding.proofs.put_fixed.Goals as goal

pub overflow_cast-start-2 : goal.overflow_cast-start-2
overflow_cast-start-2 c =
    let s = c in
    omega (arith, s.requires.0.inside s.args.name s.requires.1)

pub put_part-requires : goal.put_part-requires
put_part-requires c =
    let s = c in
    let h = s.requires.0 in
    let n = c.fixed_length.ensures in
    (omega (arith, n, h.inside s.args.name s.requires.1, h.size), omega (arith, n, s.requires.2))

pub returns : goal.returns
returns c =
    let s = c in
    wrote_as (ap (λ (n : ℕ). take n (drop (get_or s.args.starts.now s.args.name 0) s.args.letters.now)) c.fixed_length.ensures ∙ s.requires.0.part s.args.name s.requires.1) c.put_part.ensures
