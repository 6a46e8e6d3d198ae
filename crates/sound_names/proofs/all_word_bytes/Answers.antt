use borrow.Author.Rules.{rules}
use mathlib.Core.Path.{refl, sym, ◌∙◌}
use Rattle.rast.specs.Sound.{is_word_byte}
use Rattle.rast.proofs.BytesLaws.{and_no, and_yes}
use Rattle.sound_names.proofs.Names.{each_more, each-end}
use Rattle.sound_names.proofs.all_word_bytes.Goals as goal

pub loop-b-init : goal.loop-b-init
loop-b-init c = refl

pub returns-then-not-is_word_byte : goal.returns-then-not-is_word_byte
returns-then-not-is_word_byte c =
    let l = c.loop-b in
    let no = sym c.is_word_byte.ensures ∙ c.if-not-is_word_byte.true in
    sym (each_more is_word_byte _ l.b-index (search rules) ∙ and_no _ no) ∙ l.invariant

pub loop-b-preserved : goal.loop-b-preserved
loop-b-preserved c =
    let l = c.loop-b in
    let yes = sym c.is_word_byte.ensures ∙ c.if-not-is_word_byte.false in
    sym (each_more is_word_byte _ l.b-index (search rules) ∙ and_yes _ yes) ∙ l.invariant

pub returns : goal.returns
returns c =
    let l = c.loop-b in
    sym (each-end is_word_byte _ l.b-index (search rules)) ∙ l.invariant
