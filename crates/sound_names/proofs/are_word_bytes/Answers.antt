use Prim.Native.Nat.{◌+◌}
use borrow.Author.Rules.{rules}
use native.Mathlib.Omega.{arith}
use mathlib.Core.Path.{refl, sym, ◌∙◌}
use Rattle.rast.specs.Sound.{is_word_byte}
use Rattle.sound_names.proofs.Names.{part-past, part_end}
use Rattle.sound_names.proofs.are_word_bytes.Goals as goal

pub loop-i-init : goal.loop-i-init
loop-i-init c = refl

pub overflow_sub-text : goal.overflow_sub-text
overflow_sub-text c = omega (arith, c.requires.1)

pub part-requires : goal.part-requires
part-requires c = (omega arith, c.requires.1)

pub returns-then-text-i-lt16 : goal.returns-then-text-i-lt16
returns-then-text-i-lt16 c = rw c.part.ensures at c.all_word_bytes.ensures ∙ c.loop-i.invariant

pub sixteen_word_bytes-requires : goal.sixteen_word_bytes-requires
sixteen_word_bytes-requires c = omega (arith, c.if-text-i-lt16.false, c.requires.1)

pub part-requires-then-not-sixteen_word_bytes : goal.part-requires-then-not-sixteen_word_bytes
part-requires-then-not-sixteen_word_bytes c = (omega arith, c.requires.1)

pub returns-then-not-sixteen_word_bytes : goal.returns-then-not-sixteen_word_bytes
returns-then-not-sixteen_word_bytes c = (rw c.part-then-not-sixteen_word_bytes.ensures at c.all_word_bytes-then-not-sixteen_word_bytes.ensures) ∙ c.loop-i.invariant

pub overflow_step-i : goal.overflow_step-i
overflow_step-i c = omega (arith, c.if-text-i-lt16.false)

pub loop-i-preserved : goal.loop-i-preserved
loop-i-preserved c =
    let a = c.args in
    let l = c.loop-i in
    let w = c.sixteen_word_bytes.ensures c.if-not-sixteen_word_bytes.false in
    sym (part-past is_word_byte a.text.now a.end 16 l.i (omega (arith, c.if-text-i-lt16.false, c.requires.1)) w) ∙ l.invariant

pub returns-else-not-sixteen_word_bytes : goal.returns-else-not-sixteen_word_bytes
returns-else-not-sixteen_word_bytes c =
    let a = c.args in
    let l = c.loop-i in
    let w = c.sixteen_word_bytes.ensures c.if-not-sixteen_word_bytes.false in
    let past = part-past is_word_byte a.text.now a.end 16 l.i (omega (arith, c.if-text-i-lt16.false, c.requires.1)) w in
    sym (past ∙ part_end is_word_byte a.text.now a.end (l.i + 16) (omega arith)) ∙ l.invariant

pub returns : goal.returns
returns c =
    let a = c.args in
    sym (part_end is_word_byte a.text.now a.end c.loop-i.i (search rules)) ∙ c.loop-i.invariant
