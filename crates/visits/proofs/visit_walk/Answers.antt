use Rattle.std.specs.Prelude.{Ok}
use mathlib.Core.Path.{ap, ◌∙◌}
use Rattle.declaration_walk.proofs.Passes.{stepped}
use Rattle.visits.proofs.Entering.{going-ahead, going_done, going-due, going_end, going-halt, going_on, going-own, going_start, going-type}
use native.Mathlib.Omega.{arith}
use Rattle.visits.proofs.visit_walk.Goals as goal

pub loop-out-init : goal.loop-out-init
loop-out-init c =
    let a = c.args in
    going_start a.words.now a.pairs.now a.text.now a.walk a.out.now 0 c.requires.1 (omega arith)

pub visit_fields-behind-requires : goal.visit_fields-behind-requires
visit_fields-behind-requires c =
    let a = c.args in
    let g = c.loop-out.invariant in
    (going-ahead a.words.now a.pairs.now a.text.now a.walk a.out.now 0 g, c.enters_field.ensures c.if-enters_field.true, g.counted)

pub loop-out-smaller-then-enters_field : goal.loop-out-smaller-then-enters_field
loop-out-smaller-then-enters_field c = omega (arith, c.visit_fields-behind.ensures.1, c.visit_fields-behind.ensures.0.inside)

pub loop-out-preserved-then-enters_field : goal.loop-out-preserved-then-enters_field
loop-out-preserved-then-enters_field c =
    let a = c.args in
    going_on a.words.now a.pairs.now a.text.now a.walk a.out.now 0 c.loop-out.invariant c.visit_fields-behind.ensures.0

pub shape_of-out-then-is_done : goal.shape_of-out-then-is_done
shape_of-out-then-is_done c = c.loop-out.invariant.kept

pub returns-then-is_done : goal.returns-then-is_done
returns-then-is_done c =
    let a = c.args in
    going_done a.words.now a.pairs.now a.text.now a.walk a.out.now 0 c.loop-out.invariant (c.is_done.ensures c.if-is_done.true)

pub loop-out-smaller-in-OwnWords : goal.loop-out-smaller-in-OwnWords
loop-out-smaller-in-OwnWords c =
    let a = c.args in
    let g = going-own a.words.now a.pairs.now a.text.now a.walk a.out.now 0 c.loop-out.invariant (stepped a.words.now a.pairs.now c.requires.0 (c.in-Ok.is ∙ ap Ok c.in-OwnWords.is) c.next_piece.ensures) in
    omega (arith, g.further, g.next.inside)

pub loop-out-preserved-in-OwnWords : goal.loop-out-preserved-in-OwnWords
loop-out-preserved-in-OwnWords c =
    let a = c.args in
    (going-own a.words.now a.pairs.now a.text.now a.walk a.out.now 0 c.loop-out.invariant (stepped a.words.now a.pairs.now c.requires.0 (c.in-Ok.is ∙ ap Ok c.in-OwnWords.is) c.next_piece.ensures)).next

pub pass_type-spot-requires : goal.pass_type-spot-requires
pass_type-spot-requires c =
    let a = c.args in
    going-due a.words.now a.pairs.now a.text.now a.walk a.out.now 0 c.loop-out.invariant (stepped a.words.now a.pairs.now c.requires.0 (c.in-Ok.is ∙ ap Ok c.in-TypeDue.is) c.next_piece.ensures)

pub loop-out-smaller : goal.loop-out-smaller
loop-out-smaller c =
    let a = c.args in
    let g = going-type a.words.now a.pairs.now a.text.now a.walk a.out.now 0 c.loop-out.invariant (stepped a.words.now a.pairs.now c.requires.0 (c.in-Ok.is ∙ ap Ok c.in-TypeDue.is) c.next_piece.ensures) c.pass_type-spot.ensures in
    rw c.move_to-w.ensures (omega (arith, g.further, g.next.inside))

pub loop-out-preserved : goal.loop-out-preserved
loop-out-preserved c =
    let a = c.args in
    rw c.move_to-w.ensures (going-type a.words.now a.pairs.now a.text.now a.walk a.out.now 0 c.loop-out.invariant (stepped a.words.now a.pairs.now c.requires.0 (c.in-Ok.is ∙ ap Ok c.in-TypeDue.is) c.next_piece.ensures) c.pass_type-spot.ensures).next

pub shape_of-out-in-Ended : goal.shape_of-out-in-Ended
shape_of-out-in-Ended c = c.loop-out.invariant.kept

pub returns-in-Ended : goal.returns-in-Ended
returns-in-Ended c =
    let a = c.args in
    going_end a.words.now a.pairs.now a.text.now a.walk a.out.now 0 c.loop-out.invariant (stepped a.words.now a.pairs.now c.requires.0 (c.in-Ok.is ∙ ap Ok c.in-Ended.is) c.next_piece.ensures)

pub returns-in_default : goal.returns-in_default
returns-in_default c =
    let a = c.args in
    absurd (going-halt a.words.now a.pairs.now a.text.now a.walk a.out.now 0 c.loop-out.invariant (stepped a.words.now a.pairs.now c.requires.0 c.in_default.is c.next_piece.ensures))
