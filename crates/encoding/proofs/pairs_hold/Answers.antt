use Prim.Native.Nat.{◌+◌}
use mathlib.Core.Path.{◌≡◌, ap, sym, ◌∙◌}
use lib.ListN.{length, length-append}
use native.Mathlib.Omega.{arith}
use borrow.Author.Rules.{rules}
use Rattle.std.specs.Slice.Iter.{chunks_exact_rest}
use Rattle.encoding.proofs.Tables.{pairs_end, pairs-odd, pairs-early, pairs-late, pairs_next}
use Rattle.encoding.proofs.pairs_hold.Goals as goal

pub returns-then-pairs-ne0 : goal.returns-then-pairs-ne0
returns-then-pairs-ne0 c = sym (pairs-odd _ 0 _ (search rules))

pub returns-then-start-end : goal.returns-then-start-end
returns-then-start-end c =
    let l = c.loop-pair in
    let s = c.in-Some.ensures.steps in
    sym (pairs-early _ _ _ _ _ s.1.0 (s.1.1 ∙ l.invariant.0) c.if-start-end.true) ∙ l.invariant.2

pub returns-then-size-start : goal.returns-then-size-start
returns-then-size-start c =
    let l = c.loop-pair in
    let s = c.in-Some.ensures.steps in
    sym (pairs-late _ _ _ l.end _ s.1.0 (s.1.1 ∙ l.invariant.0) c.if-start-end.false c.if-size-start.true) ∙ l.invariant.2

pub loop-pair-preserved : goal.loop-pair-preserved
loop-pair-preserved c =
    let l = c.loop-pair in
    let s = c.in-Some.ensures.steps in
    let two = s.1.1 ∙ l.invariant.0 in
    let n : length (chunks_exact_rest l.pair-iterator) ≡ length c.in-Some.pair.now + length (chunks_exact_rest c.next.new.self) = ap length s.1.0 ∙ length-append _ _ in
    (s.0 ∙ l.invariant.0, omega (arith, n, two), sym (pairs_next _ _ _ l.end _ s.1.0 two c.if-start-end.false c.if-size-start.false) ∙ l.invariant.2)

pub returns : goal.returns
returns c =
    let l = c.loop-pair in
    let s = c.in-None.ensures.steps in
    sym (pairs_end _ _ _ (omega (arith, s.1.0, l.invariant.0)) l.invariant.1) ∙ l.invariant.2
