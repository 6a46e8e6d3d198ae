use Prim.Native.Nat.{◌≤◌}
use mathlib.Core.Path.{refl, ◌∙◌}
use Rattle.encoding.specs.HeadWords.{types_below, own_end}
use Rattle.encoding.proofs.HeadWords.{end-other, below_other, plain_end, plain-below}
use native.Mathlib.Omega.{arith}
use Rattle.encoding.proofs.pass_kind.Goals as goal

pub returns-then-w-lt-PLAIN_KINDS : goal.returns-then-w-lt-PLAIN_KINDS
returns-then-w-lt-PLAIN_KINDS c =
    let a = c.args in
    let k = c.requires.0 in
    rw (plain_end a.words.now a.at (omega (arith, k, c.if-w-lt-PLAIN_KINDS.true)), plain-below a.words.now a.at (omega (arith, k, c.if-w-lt-PLAIN_KINDS.true))) (c.go_on.ensures.0, omega (arith, c.go_on.ensures.1))

pub path_end-requires : goal.path_end-requires
unfolding own_end
path_end-requires c = (c.requires.2, rw (← c.requires.0, c.in-13.is) refl)

pub second_word-requires : goal.second_word-requires
unfolding own_end
second_word-requires c = (c.requires.2, rw (← c.requires.0, c.in-14.is) refl)

pub second_word-requires-in-19 : goal.second_word-requires-in-19
unfolding own_end
second_word-requires-in-19 c = (c.requires.2, rw (← c.requires.0, c.in-19.is) refl)

pub second_word-requires-in-20 : goal.second_word-requires-in-20
unfolding own_end
second_word-requires-in-20 c = (c.requires.2, rw (← c.requires.0, c.in-20.is) refl)

pub returns-in-12 : goal.returns-in-12
unfolding own_end types_below
returns-in-12 c = rw (← c.requires.0, c.in-12.is) (c.go_on-in-12.ensures.0, omega (arith, c.go_on-in-12.ensures.1, c.requires.3))

pub returns-in-13 : goal.returns-in-13
unfolding own_end types_below
returns-in-13 c = rw (← c.requires.0, c.in-13.is) ((c.go_on-in-13.ensures.0 ∙ c.path_end.ensures), omega (arith, c.go_on-in-13.ensures.1, c.requires.3))

pub returns-in-14 : goal.returns-in-14
unfolding own_end types_below
returns-in-14 c = rw (← c.requires.0, c.in-14.is) (c.go_on-in-14.ensures.0, omega (arith, c.go_on-in-14.ensures.1, c.second_word.ensures.0, c.requires.3))

pub returns-in-19 : goal.returns-in-19
unfolding own_end types_below
returns-in-19 c = rw (← c.requires.0, c.in-19.is) (c.go_on-in-19.ensures.0, omega (arith, c.go_on-in-19.ensures.1, c.second_word-in-19.ensures.0, c.requires.3))

pub returns-in-20 : goal.returns-in-20
unfolding own_end types_below
returns-in-20 c = rw (← c.requires.0, c.in-20.is) (c.go_on-in-20.ensures.0, omega (arith, c.go_on-in-20.ensures.1, c.second_word-in-20.ensures.0, c.requires.3))

pub returns-in-21 : goal.returns-in-21
unfolding own_end types_below
returns-in-21 c = rw (← c.requires.0, c.in-21.is) (c.go_on-in-21.ensures.0, omega (arith, c.go_on-in-21.ensures.1, c.requires.3))

pub returns-in-22 : goal.returns-in-22
unfolding own_end types_below
returns-in-22 c = rw (← c.requires.0, c.in-22.is) (c.go_on-in-22.ensures.0, omega (arith, c.go_on-in-22.ensures.1, c.requires.3))

pub returns-in-23 : goal.returns-in-23
unfolding own_end types_below
returns-in-23 c = rw (← c.requires.0, c.in-23.is) (c.go_on-in-23.ensures.0, omega (arith, c.go_on-in-23.ensures.1, c.requires.3))

pub returns-in-24 : goal.returns-in-24
unfolding own_end types_below
returns-in-24 c = rw (← c.requires.0, c.in-24.is) (c.go_on-in-24.ensures.0, omega (arith, c.go_on-in-24.ensures.1, c.requires.3))

pub returns-in_default : goal.returns-in_default
returns-in_default c =
    let a = c.args in
    let k = c.requires.0 in
    let r = c.in_default.in_default-own.rest in
    let h : 14 ≤ c.args.w = omega (arith, c.if-w-lt-PLAIN_KINDS.false, r.0.0.0.0.0.0.0.0.1, r.0.0.0.0.0.0.0.1) in
    rw (end-other a.words.now a.at k r.0.0.0.0.0.0.0.0.1 r.0.0.0.0.0.0.0.1 r.0.0.0.0.0.0.1 r.0.0.0.0.0.1 r.0.0.0.0.1 r.0.0.1 r.1, below_other a.words.now a.at k h r.0.0.0.0.0.0.1 r.0.0.0.0.0.1 r.0.0.0.0.1 r.0.0.0.1 r.0.1) (c.go_on-in_default.ensures.0, omega (arith, c.go_on-in_default.ensures.1, c.requires.3))
