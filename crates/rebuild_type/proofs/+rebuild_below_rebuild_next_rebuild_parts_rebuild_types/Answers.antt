use Rattle.encoding.specs.HeadWords.{types_below}
use Rattle.tree_words.proofs.Heads.{head-here, tree-here, few-below}
use Rattle.rebuild_type.proofs.Growing.{lays-over, lays-to}
use Rattle.rebuild_type.proofs.Types.{below-reads, built, own-fits, parts-finished, parts-full, parts-over, parts_then, plain-parts, rebuilding-ends, rebuilding-starts, settle-ends, type-done, type-over, type_reads, types-full, types_more, types-past}
use Rattle.rebuild_type.specs.Laid.{mapping}
use Rattle.rebuild_rules.specs.Table.{slot}
use Prim.Native.Nat.{◌+◌, ◌-◌, ◌<◌}
use lib.ListN.{get_or}
use mathlib.Core.Path.{◌≡◌, ◌∙◌, ap, refl, sym}
use native.Mathlib.Omega.{arith}
use Rattle.rebuild_type.proofs.+rebuild_below_rebuild_next_rebuild_parts_rebuild_types.Goals as goal

pub rebuild_below-returns-then-n-eq0 : goal.rebuild_below-returns-then-n-eq0
rebuild_below-returns-then-n-eq0 t c =
    let s = c in
    let a = s.args in
    let m = mapping a.rules.now a.pairs.now a.text.now in
    rebuilding-ends a.words.now a.pairs.now m a.at a.n a.limit a.out.now a.pos c.if-n-eq0.true (rebuilding-starts a.words.now a.pairs.now m a.at a.n a.limit a.out.now a.pos s.requires.2 s.requires.4 s.requires.5 s.requires.3)

pub rebuild_below-rebuild_types-requires : goal.rebuild_below-rebuild_types-requires
rebuild_below-rebuild_types-requires t c = let s = c in (omega (arith, s.decreases), s.requires)

pub rebuild_below-returns : goal.rebuild_below-returns
rebuild_below-returns t c = c.rebuild_types.ensures

pub rebuild_next-offset_bounds-words-at : goal.rebuild_next-offset_bounds-words-at
rebuild_next-offset_bounds-words-at t c =
    let s = c in
    let a = s.args in
    omega (arith, tree-here a.words.now a.pairs.now a.at s.requires.2.reads)

pub rebuild_next-bounds-words-at : goal.rebuild_next-bounds-words-at
rebuild_next-bounds-words-at t c =
    let s = c in
    let a = s.args in
    omega (arith, tree-here a.words.now a.pairs.now a.at s.requires.2.reads)

pub rebuild_next-rebuild_parts-requires : goal.rebuild_next-rebuild_parts-requires
rebuild_next-rebuild_parts-requires t c = let s = c in (omega (arith, s.decreases), s.requires)

pub rebuild_next-overflow_add-below : goal.rebuild_next-overflow_add-below
rebuild_next-overflow_add-below t c =
    let s = c in
    let a = s.args in
    let m = mapping a.rules.now a.pairs.now a.text.now in
    let g = parts-finished a.words.now a.pairs.now a.at m s.requires.2.reads c.rebuild_parts.ensures c.in_ok-end.was in
    omega (arith, g.small, s.ranges)

pub rebuild_next-settle-requires : goal.rebuild_next-settle-requires
rebuild_next-settle-requires t c =
    let s = c in
    let a = s.args in
    let m = mapping a.rules.now a.pairs.now a.text.now in
    let g = parts-finished a.words.now a.pairs.now a.at m s.requires.2.reads c.rebuild_parts.ensures c.in_ok-end.was in
    (s.requires.0, s.requires.1, g.some, g.within, omega (arith, g.grown.kept, s.requires.4), c.first_link-link.ensures ∙ ap (λ w. get_or a.table.now (slot w) 0) (sym g.first))

pub rebuild_next-returns : goal.rebuild_next-returns
rebuild_next-returns t c =
    let s = c in
    let a = s.args in
    let m = mapping a.rules.now a.pairs.now a.text.now in
    let g = parts-finished a.words.now a.pairs.now a.at m s.requires.2.reads c.rebuild_parts.ensures c.in_ok-end.was in
    let e = settle-ends a.rules.now a.pairs.now a.text.now a.table.now a.k s.requires.1 (built a.words.now a.pairs.now a.at m s.requires.2.reads refl) g.within g.grown g.deeps c.settle.ensures in
    type-done a.words.now a.pairs.now a.at m s.requires.2.reads refl g e c.in_ok-last.was

pub rebuild_next-returns-in_err-last : goal.rebuild_next-returns-in_err-last
rebuild_next-returns-in_err-last t c =
    let s = c in
    let a = s.args in
    let m = mapping a.rules.now a.pairs.now a.text.now in
    let g = parts-finished a.words.now a.pairs.now a.at m s.requires.2.reads c.rebuild_parts.ensures c.in_ok-end.was in
    let e = settle-ends a.rules.now a.pairs.now a.text.now a.table.now a.k s.requires.1 (built a.words.now a.pairs.now a.at m s.requires.2.reads refl) g.within g.grown g.deeps c.settle.ensures in
    rw c.from_residual-in_err-last.ensures (type-over a.words.now a.pairs.now a.at m s.requires.2.reads refl e c.in_err-last.was)

pub rebuild_next-returns-in_err-end : goal.rebuild_next-returns-in_err-end
rebuild_next-returns-in_err-end t c =
    let s = c in
    let a = s.args in
    let m = mapping a.rules.now a.pairs.now a.text.now in
    rw c.from_residual.ensures (parts-full a.words.now a.pairs.now a.at m s.requires.2.reads c.rebuild_parts.ensures c.in_err-end.was)

pub rebuild_parts-offset_bounds-words-at : goal.rebuild_parts-offset_bounds-words-at
rebuild_parts-offset_bounds-words-at t c =
    let s = c in
    let a = s.args in
    omega (arith, tree-here a.words.now a.pairs.now a.at s.requires.2.reads)

pub rebuild_parts-bounds-words-at : goal.rebuild_parts-bounds-words-at
rebuild_parts-bounds-words-at t c =
    let s = c in
    let a = s.args in
    omega (arith, tree-here a.words.now a.pairs.now a.at s.requires.2.reads)

pub rebuild_parts-add_plain-requires : goal.rebuild_parts-add_plain-requires
rebuild_parts-add_plain-requires t c =
    let s = c in
    let a = s.args in
    (omega (arith, tree-here a.words.now a.pairs.now a.at s.requires.2.reads), s.requires.3, s.requires.4)

pub rebuild_parts-returns-then-word-lt-PLAIN_KINDS : goal.rebuild_parts-returns-then-word-lt-PLAIN_KINDS
rebuild_parts-returns-then-word-lt-PLAIN_KINDS t c =
    let s = c in
    let a = s.args in
    let m = mapping a.rules.now a.pairs.now a.text.now in
    plain-parts a.words.now a.pairs.now a.at m s.requires.2.reads c.if-word-lt-PLAIN_KINDS.true s.requires.4 c.add_plain.ensures

pub rebuild_parts-pass_head-behind-requires : goal.rebuild_parts-pass_head-behind-requires
rebuild_parts-pass_head-behind-requires t c =
    let s = c in
    let a = s.args in
    (head-here a.words.now a.pairs.now a.at s.requires.2.reads, omega arith, omega (arith, few-below a.words.now a.pairs.now a.at s.requires.2.reads))

pub rebuild_parts-overflow_sub-next : goal.rebuild_parts-overflow_sub-next
rebuild_parts-overflow_sub-next t c =
    let s = c in
    let a = s.args in
    let m = mapping a.rules.now a.pairs.now a.text.now in
    let w = own-fits a.words.now a.pairs.now a.at m s.requires.2.reads c.pass_head-behind.ensures.0 in
    omega (arith, w.0)

pub rebuild_parts-add_words-requires : goal.rebuild_parts-add_words-requires
rebuild_parts-add_words-requires t c =
    let s = c in
    let a = s.args in
    let m = mapping a.rules.now a.pairs.now a.text.now in
    let w = own-fits a.words.now a.pairs.now a.at m s.requires.2.reads c.pass_head-behind.ensures.0 in
    (omega (arith, w.0, w.1), s.requires.3, s.requires.4)

pub rebuild_parts-returns-in_err-p : goal.rebuild_parts-returns-in_err-p
rebuild_parts-returns-in_err-p t c =
    let s = c in
    let a = s.args in
    let m = mapping a.rules.now a.pairs.now a.text.now in
    let l = lays-over c.add_words.ensures c.in_err-p.was in
    rw c.from_residual.ensures (parts-over a.words.now a.pairs.now a.at m s.requires.2.reads c.pass_head-behind.ensures.0 l.0 l.1)

pub rebuild_parts-rebuild_below-requires : goal.rebuild_parts-rebuild_below-requires
rebuild_parts-rebuild_below-requires t c =
    let s = c in
    let a = s.args in
    let m = mapping a.rules.now a.pairs.now a.text.now in
    let w = own-fits a.words.now a.pairs.now a.at m s.requires.2.reads c.pass_head-behind.ensures.0 in
    let d : c.pass_head-behind.result.due ≡ types_below a.words.now a.at = omega (arith, c.pass_head-behind.ensures.1) in
    let l = lays-to c.add_words.ensures c.in_ok-p.was in
    (omega (arith, s.decreases, w.0, w.1), (s.requires.0, s.requires.1, w.1, below-reads a.words.now a.pairs.now a.at m s.requires.2.reads c.pass_head-behind.ensures.0 d, l.0, omega (arith, l.1.kept, s.requires.4)))

pub rebuild_parts-returns : goal.rebuild_parts-returns
rebuild_parts-returns t c =
    let s = c in
    let a = s.args in
    let m = mapping a.rules.now a.pairs.now a.text.now in
    let d : c.pass_head-behind.result.due ≡ types_below a.words.now a.at = omega (arith, c.pass_head-behind.ensures.1) in
    let l = lays-to c.add_words.ensures c.in_ok-p.was in
    parts_then a.words.now a.pairs.now a.at m s.requires.2.reads c.pass_head-behind.ensures.0 d l.1 c.rebuild_below.ensures

pub rebuild_types-loop-init : goal.rebuild_types-loop-init
rebuild_types-loop-init t c =
    let a = c.args in
    let z : a.n - 0 ≡ a.n = omega arith in
    (omega arith, rw z (rebuilding-starts a.words.now a.pairs.now (mapping a.rules.now a.pairs.now a.text.now) a.at a.n a.limit a.out.now a.pos c.requires.2 c.requires.4 c.requires.5 c.requires.3))

pub rebuild_types-rebuild_next-requires : goal.rebuild_types-rebuild_next-requires
rebuild_types-rebuild_next-requires t c =
    let a = c.args in let l = c.loop in
    let h : 0 < a.n - l.counter = omega arith in
    (omega (arith, c.decreases, l.invariant.0), (c.requires.0, c.requires.1, type_reads a.words.now a.pairs.now (mapping a.rules.now a.pairs.now a.text.now) a.at a.n a.limit a.out.now a.pos h l.invariant.1, l.invariant.1.within, omega (arith, l.invariant.1.grown.kept, c.requires.5)))

pub rebuild_types-returns-in_err-next : goal.rebuild_types-returns-in_err-next
rebuild_types-returns-in_err-next t c =
    let a = c.args in let l = c.loop in
    let h : 0 < a.n - l.counter = omega arith in
    rw c.from_residual.ensures (types-full a.words.now a.pairs.now (mapping a.rules.now a.pairs.now a.text.now) a.at a.n a.limit a.out.now a.pos h l.invariant.1 c.rebuild_next.ensures c.in_err-next.was)

pub rebuild_types-loop-preserved : goal.rebuild_types-loop-preserved
rebuild_types-loop-preserved t c =
    let a = c.args in let l = c.loop in
    let h : 0 < a.n - l.counter = omega arith in
    let z : a.n - (l.counter + 1) ≡ a.n - l.counter - 1 = omega arith in
    let m = mapping a.rules.now a.pairs.now a.text.now in (
      omega (arith, l.invariant.0, types-past a.words.now a.pairs.now m a.at a.n a.limit a.out.now a.pos h l.invariant.1 c.rebuild_next.ensures c.in_ok-next.was),
      rw z (types_more a.words.now a.pairs.now m a.at a.n a.limit a.out.now a.pos h l.invariant.1 c.rebuild_next.ensures c.in_ok-next.was c.larger-deepest.ensures),
    )

pub rebuild_types-returns : goal.rebuild_types-returns
rebuild_types-returns t c =
    let a = c.args in let l = c.loop in
    let h : a.n - l.counter ≡ 0 = omega arith in
    rebuilding-ends a.words.now a.pairs.now (mapping a.rules.now a.pairs.now a.text.now) a.at a.n a.limit a.out.now a.pos h l.invariant.1
