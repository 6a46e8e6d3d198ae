use Prim.Native.Nat.{◌-◌}
use native.Mathlib.Omega.{arith}
use Rattle.encoding.specs.Words.{max_depth}
use Rattle.text_pass.specs.Passes.{came}
use Rattle.text_pass.proofs.Leaves.{ended-text, named-counts, plain-counts}
use Rattle.text_pass.proofs.Passes.{counts-here, stops-here}
use Rattle.text_pass.proofs.count_field_type.Goals as goal

pub returns-then-words-at : goal.returns-then-words-at
returns-then-words-at c =
    let a = c.args in
    stops-here (ended-text (max_depth - 1) a.words.now a.pairs.now a.text.now a.at c.if-words-at.true)

pub returns-then-w-lt-PLAIN_KINDS : goal.returns-then-w-lt-PLAIN_KINDS
returns-then-w-lt-PLAIN_KINDS c =
    let a = c.args in
    came (plain-counts (max_depth - 1) a.words.now a.pairs.now a.text.now a.at (omega (arith, c.if-words-at.false)) c.if-w-lt-PLAIN_KINDS.true c.primitive_length.ensures.0 c.count_few.ensures)

pub returns-then-w-eq-T_IDENTIFIER : goal.returns-then-w-eq-T_IDENTIFIER
returns-then-w-eq-T_IDENTIFIER c =
    let a = c.args in
    named-counts (max_depth - 1) a.words.now a.pairs.now a.text.now a.at (omega (arith, c.if-words-at.false)) c.if-w-eq-T_IDENTIFIER.true (counts-here c.count_name.ensures)

pub count_borrow-requires : goal.count_borrow-requires
count_borrow-requires c = (c.requires, omega (arith, c.if-words-at.false), c.if-w-eq-BORROWED.true)
