use native.Mathlib.Omega.{arith}
use Rattle.rast.specs.Indent.{indent}
use Rattle.rast.specs.Doc.{ToDocstringPrefix}
use Rattle.encoding.specs.Tables.{name_bytes, name_count}
use Rattle.text_pass.specs.Texts.{doc_at}
use Rattle.text_pass.proofs.Leaves.{OneWord, doc-word, word_below, word-came, word_fits}
use Rattle.text_pass.proofs.write_doc.Goals as goal
use Rattle.text_pass.proofs.write_doc.Goals.{Start}

doc : (c : Start) → let a = c.args in OneWord (name_count a.pairs.now) a.words.now a.at (doc_at a.words.now a.pairs.now a.text.now a.level a.at) (λ x. ToDocstringPrefix (name_bytes a.pairs.now a.text.now x) (indent a.level))
doc c = doc-word c.args.words.now c.args.pairs.now c.args.text.now c.args.at c.args.level

pub offset_bounds-words-at : goal.offset_bounds-words-at
offset_bounds-words-at c =
    let s = c in omega (arith, (word_below (doc (goal.at.offset_bounds-words-at c).Start) s.requires.1).here, s.requires.0.few)

pub bounds-words-at : goal.bounds-words-at
bounds-words-at c =
    let s = c in (word_below (doc (goal.at.bounds-words-at c).Start) s.requires.1).here

pub lay_known_doc-requires : goal.lay_known_doc-requires
lay_known_doc-requires c =
    let s = c in ((word_below (doc (goal.at.lay_known_doc-requires c).Start) s.requires.1).below, s.requires.0.good, word_fits (doc (goal.at.lay_known_doc-requires c).Start) s.requires.1)

pub returns : goal.returns
returns c =
    let s = c in word-came (doc (goal.at.returns c).Start) s.requires.1 c.lay_known_doc.ensures
