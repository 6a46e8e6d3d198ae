use mathlib.Core.Path.{refl}
use native.Mathlib.Omega.{arith}
use Rattle.buffer.proofs.Passes.{laid-wrote}
use Rattle.encoding.specs.Tables.{name_bytes, name_count}
use Rattle.text_pass.specs.Texts.{name_at}
use Rattle.text_pass.proofs.Leaves.{OneWord, name-word, word_below, word-came, word_fits}
use Rattle.text_pass.proofs.write_name.Goals as goal
use Rattle.text_pass.proofs.write_name.Goals.{Start}

name : (c : Start) → let a = c.args in OneWord (name_count a.pairs.now) a.words.now a.at (name_at a.words.now a.pairs.now a.text.now a.at) (name_bytes a.pairs.now a.text.now)
name c = name-word c.args.words.now c.args.pairs.now c.args.text.now c.args.at

pub offset_bounds-words-at : goal.offset_bounds-words-at
offset_bounds-words-at c =
    let s = c in omega (arith, (word_below (name (goal.at.offset_bounds-words-at c).Start) s.requires.1).here, s.requires.0.few)

pub bounds-words-at : goal.bounds-words-at
bounds-words-at c =
    let s = c in (word_below (name (goal.at.bounds-words-at c).Start) s.requires.1).here

pub put_name-requires : goal.put_name-requires
put_name-requires c =
    let s = c in ((word_below (name (goal.at.put_name-requires c).Start) s.requires.1).below, s.requires.0.good, (word_fits (name (goal.at.put_name-requires c).Start) s.requires.1).room refl)

pub returns : goal.returns
returns c =
    let s = c in word-came (name (goal.at.returns c).Start) s.requires.1 (laid-wrote refl c.put_name.ensures)
