use native.Mathlib.Omega.{arith}
use mathlib.Core.Path.{sym, ◌∙◌}
use Rattle.rast.proofs.BytesLaws.{and_no, and_yes}
use Rattle.sound_names.proofs.Names.{word-part, no_word}
use Rattle.sound_names.proofs.is_word.Goals as goal

pub returns-then-end-start : goal.returns-then-end-start
returns-then-end-start c =
    let a = c.args in
    sym (no_word a.text.now a.start a.end c.if-end-start.true)

pub bounds-text-start : goal.bounds-text-start
bounds-text-start c = omega (arith, c.if-end-start.false, c.requires.1)

pub are_word_bytes-requires : goal.are_word_bytes-requires
are_word_bytes-requires c = (omega (arith, c.if-end-start.false), c.requires.1)

pub returns-then-is_word_start : goal.returns-then-is_word_start
returns-then-is_word_start c =
    let a = c.args in
    let yes = sym c.is_word_start.ensures ∙ c.if-is_word_start.true in
    c.are_word_bytes.ensures ∙ sym (word-part a.text.now a.start a.end (omega (arith, c.if-end-start.false)) (omega (arith, c.if-end-start.false, c.requires.1)) ∙ and_yes _ yes)

pub returns : goal.returns
returns c =
    let a = c.args in
    let no = sym c.is_word_start.ensures ∙ c.if-is_word_start.false in
    sym (word-part a.text.now a.start a.end (omega (arith, c.if-end-start.false)) (omega (arith, c.if-end-start.false, c.requires.1)) ∙ and_no _ no)
