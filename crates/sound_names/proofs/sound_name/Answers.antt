use mathlib.Core.Path.{ap, sym, ◌∙◌}
use Rattle.rast.specs.Sound.{is_word, sound_name}
use Rattle.rast.proofs.BytesLaws.{and_no, and_yes}
use Rattle.encoding.proofs.Names.{pair-there, pair-part}
use Rattle.sound_names.proofs.Names.{fixed-sound}
use Rattle.sound_names.proofs.sound_name.Goals as goal

pub returns-then-name-lt-FIRST_PAIR : goal.returns-then-name-lt-FIRST_PAIR
returns-then-name-lt-FIRST_PAIR c =
    let a = c.args in
    sym (fixed-sound a.pairs.now a.text.now a.name c.if-name-lt-FIRST_PAIR.true)

pub is_word-requires : goal.is_word-requires
is_word-requires c =
    let s = c in
    pair-there s.args.pairs.now s.args.text.now s.args.name c.if-name-lt-FIRST_PAIR.false c.pair_word-start.ensures.0 c.pair_word.ensures.0 s.requires.1 s.requires.0

pub part-requires : goal.part-requires
part-requires c =
    let s = c in
    pair-there s.args.pairs.now s.args.text.now s.args.name c.if-name-lt-FIRST_PAIR.false c.pair_word-start.ensures.0 c.pair_word.ensures.0 s.requires.1 s.requires.0

pub returns-then-is_word : goal.returns-then-is_word
unfolding sound_name
returns-then-is_word c =
    let s = c in
    let n = pair-part s.args.pairs.now s.args.text.now s.args.name c.if-name-lt-FIRST_PAIR.false c.pair_word-start.ensures.0 c.pair_word.ensures.0 in
    let yes = sym (c.is_word.ensures ∙ ap is_word n) ∙ c.if-is_word.true in
    rw (c.is_excluded.ensures, c.part.ensures ∙ n) (sym (and_yes _ yes))

pub returns : goal.returns
unfolding sound_name
returns c =
    let s = c in
    let n = pair-part s.args.pairs.now s.args.text.now s.args.name c.if-name-lt-FIRST_PAIR.false c.pair_word-start.ensures.0 c.pair_word.ensures.0 in
    sym (and_no _ (sym (c.is_word.ensures ∙ ap is_word n) ∙ c.if-is_word.false))
