use native.Mathlib.Omega.{arith}
use Rattle.text_pass.proofs.Leaves.{TypeReady, named-asked, named-came, plain-asked, plain-came, type-asked, type-came, type-early, type-there}
use Rattle.text_pass.proofs.write_borrow.Goals as goal
use Rattle.text_pass.proofs.write_borrow.Goals.{Start}

accepted : (c : Start) → TypeReady c.args.words.now c.args.pairs.now c.args.text.now c.args.at c.args.out.now c.args.pos
accepted c = record { checked = c.requires.0; ready = c.requires.1 }

pub offset_bounds-words-at : goal.offset_bounds-words-at
offset_bounds-words-at c = omega (arith, type-early (accepted (goal.at.offset_bounds-words-at c).Start))

pub bounds-words-at : goal.bounds-words-at
bounds-words-at c = type-there (accepted (goal.at.bounds-words-at c).Start)

pub overflow_add-result : goal.overflow_add-result
overflow_add-result c = omega (arith, type-early (accepted (goal.at.overflow_add-result c).Start))

pub put_plain-requires : goal.put_plain-requires
put_plain-requires c = plain-asked (accepted (goal.at.put_plain-requires c).Start) c.if-w-lt-PLAIN_KINDS.true

pub returns-then-w-lt-PLAIN_KINDS : goal.returns-then-w-lt-PLAIN_KINDS
returns-then-w-lt-PLAIN_KINDS c = plain-came (accepted (goal.at.returns-then-w-lt-PLAIN_KINDS c).Start) c.if-w-lt-PLAIN_KINDS.true c.put_plain.ensures

pub overflow_add-result-then-w-eq-T_IDENTIFIER : goal.overflow_add-result-then-w-eq-T_IDENTIFIER
overflow_add-result-then-w-eq-T_IDENTIFIER c = omega (arith, type-early (accepted (goal.at.overflow_add-result-then-w-eq-T_IDENTIFIER c).Start))

pub overflow_add-at : goal.overflow_add-at
overflow_add-at c = omega (arith, type-early (accepted (goal.at.overflow_add-at c).Start))

pub write_name-requires : goal.write_name-requires
write_name-requires c = named-asked (accepted (goal.at.write_name-requires c).Start) c.if-w-eq-T_IDENTIFIER.true

pub returns-then-w-eq-T_IDENTIFIER : goal.returns-then-w-eq-T_IDENTIFIER
returns-then-w-eq-T_IDENTIFIER c = named-came (accepted (goal.at.returns-then-w-eq-T_IDENTIFIER c).Start) c.if-w-eq-T_IDENTIFIER.true c.write_name.ensures

pub write_type-spot-requires : goal.write_type-spot-requires
write_type-spot-requires c = type-asked (accepted (goal.at.write_type-spot-requires c).Start)

pub returns : goal.returns
returns c = type-came (accepted (goal.at.returns c).Start) _ c.write_type-spot.ensures
