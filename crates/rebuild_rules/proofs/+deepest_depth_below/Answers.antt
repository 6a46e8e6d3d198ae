use Prim.Native.Nat.{◌+◌, ◌-◌, ◌<◌, max}
use mathlib.Core.Path.{◌≡◌}
use Rattle.rebuild_rules.proofs.Depths.{alone, deepening-ends, deepening-starts, head-due, inner}
use native.Mathlib.Omega.{arith}
use borrow.Author.Rules.{rules}
use Rattle.rebuild_rules.proofs.+deepest_depth_below.Goals as goal

pub deepest-loop-init : goal.deepest-loop-init
deepest-loop-init t c =
    let a = c.args in
    let z : a.n - 0 ≡ a.n = omega arith in
    (omega arith, rw z (deepening-starts a.words.now a.pairs.now a.at a.n c.requires.0 c.requires.1))

pub deepest-pass_head-behind-requires : goal.deepest-pass_head-behind-requires
deepest-pass_head-behind-requires t c =
    let i = c.loop.invariant.1 in
    let h : 0 < c.args.n - c.loop.counter = omega arith in
    (head-due h i, omega arith, omega (arith, (inner h i).few))

pub deepest-depth_below-below-requires : goal.deepest-depth_below-below-requires
deepest-depth_below-below-requires t c =
    let l = c.loop in
    let h : 0 < c.args.n - l.counter = omega arith in
    let s = inner h l.invariant.1 in
    let e = c.pass_head-behind.ensures in
    let d = alone e.1 in
    (omega (arith, c.decreases, e.0, s.ahead, s.inside, l.invariant.0), (omega (arith, e.0, s.inside), rw (e.0, d) s.readable))

pub deepest-overflow_add-below : goal.deepest-overflow_add-below
deepest-overflow_add-below t c =
    let h : 0 < c.args.n - c.loop.counter = omega arith in
    let s = inner h c.loop.invariant.1 in
    let e = c.pass_head-behind.ensures in
    let d = alone e.1 in
    omega (arith, s.small _ (rw (e.0, d) at c.depth_below-below.ensures))

pub deepest-loop-preserved : goal.deepest-loop-preserved
deepest-loop-preserved t c =
    let l = c.loop in
    let h : 0 < c.args.n - l.counter = omega arith in
    let s = inner h l.invariant.1 in
    let e = c.pass_head-behind.ensures in
    let k = alone e.1 in
    let d = rw (e.0, k) at c.depth_below-below.ensures in
    let z : c.args.n - l.counter - 1 ≡ c.args.n - (l.counter + 1) = omega arith in
    let m : c.max-depth.result ≡ max l.depth (c.depth_below-below.result.depth + 1) = search rules in
    (omega (arith, l.invariant.0, s.past _ d), rw z at (s.next _ _ d m))

pub deepest-returns : goal.deepest-returns
deepest-returns t c =
    let a = c.args in
    deepening-ends a.words.now a.pairs.now a.at a.n (omega arith) c.loop.invariant.1

pub depth_below-returns-then-n-eq0 : goal.depth_below-returns-then-n-eq0
depth_below-returns-then-n-eq0 t c =
    let s = c in let a = s.args in
    deepening-ends a.words.now a.pairs.now a.at a.n c.if-n-eq0.true (deepening-starts a.words.now a.pairs.now a.at a.n s.requires.0 s.requires.1)

pub depth_below-deepest-requires : goal.depth_below-deepest-requires
depth_below-deepest-requires t c = let s = c in (omega (arith, s.decreases), s.requires)

pub depth_below-returns : goal.depth_below-returns
depth_below-returns t c = c.deepest.ensures
