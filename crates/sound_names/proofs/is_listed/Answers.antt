use mathlib.Core.Path.{refl, sym, ◌∙◌}
use Rattle.rast.specs.Bytes.{ascii}
use Rattle.rast.specs.Sound.{excluded}
use Rattle.sound_names.specs.Words.{letters, word_starts, word_lengths}
use Rattle.sound_names.proofs.Names.{among-more, among-end}
use borrow.Author.Rules.{rules}
use Rattle.sound_names.proofs.is_listed.Goals as goal

pub is_excluded_word-requires : goal.is_excluded_word-requires
unfolding letters word_starts word_lengths ascii
is_excluded_word-requires c = (refl, refl, refl, search rules)

pub returns-then-is_excluded_word : goal.returns-then-is_excluded_word
unfolding excluded
returns-then-is_excluded_word c =
    let l = c.loop-k in
    let a = c.args in
    let yes = sym c.is_excluded_word.ensures ∙ c.if-is_excluded_word.true in
    sym (among-more a.bytes.now excluded l.k (search rules) ∙ rw yes) ∙ l.invariant

pub loop-k-preserved : goal.loop-k-preserved
unfolding excluded
loop-k-preserved c =
    let l = c.loop-k in
    let a = c.args in
    let no = sym c.is_excluded_word.ensures ∙ c.if-is_excluded_word.false in
    sym (among-more a.bytes.now excluded l.k (search rules) ∙ rw no) ∙ l.invariant

pub returns : goal.returns
unfolding excluded
returns c =
    let l = c.loop-k in
    sym (among-end c.args.bytes.now excluded l.k (search rules)) ∙ l.invariant
