use mathlib.Core.Path.{refl, sym}
use Rattle.rast.specs.Bytes.{ascii}
use Rattle.buffer.proofs.Passes.{fits-as, laid_as, laid-nothing, laid-wrote}
use Rattle.text_pass.proofs.Leaves.{hidden, visibility-word, visible, word_below, word-came, word_fits}
use borrow.Author.Rules.{rules}
use Rattle.text_pass.proofs.write_visibility.Goals as goal

pub offset_bounds-words-at : goal.offset_bounds-words-at
offset_bounds-words-at c =
    let s = c in
    let h = (word_below (visibility-word s.args.words.now s.args.at) s.requires).here in
    search rules

pub bounds-words-at : goal.bounds-words-at
bounds-words-at c = let s = c in (word_below (visibility-word s.args.words.now s.args.at) s.requires).here

pub returns-then-words-at-ne-PUB : goal.returns-then-words-at-ne-PUB
returns-then-words-at-ne-PUB c = let s = c in word-came (visibility-word s.args.words.now s.args.at) s.requires (laid_as (sym (hidden c.if-words-at-ne-PUB.true)) (laid-nothing _ _))

pub put-requires : goal.put-requires
unfolding ascii
put-requires c = let s = c in (fits-as (visible c.if-words-at-ne-PUB.false) (word_fits (visibility-word s.args.words.now s.args.at) s.requires)).room refl

pub returns : goal.returns
unfolding ascii
returns c = let s = c in word-came (visibility-word s.args.words.now s.args.at) s.requires (laid_as (sym (visible c.if-words-at-ne-PUB.false)) (laid-wrote refl c.put.ensures))
