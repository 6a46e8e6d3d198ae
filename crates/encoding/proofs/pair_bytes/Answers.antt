use mathlib.Core.Path.{◌∙◌}
use Rattle.encoding.proofs.Names.{pair-there, pair-part}
use Rattle.encoding.proofs.pair_bytes.Goals as goal

pub part-requires : goal.part-requires
part-requires c =
    let s = c in
    pair-there s.args.pairs.now s.args.text.now s.args.name s.requires.0 c.pair_word-start.ensures.0 c.pair_word.ensures.0 s.requires.2 s.requires.1

pub returns : goal.returns
returns c =
    let s = c in
    c.part.ensures ∙ pair-part s.args.pairs.now s.args.text.now s.args.name s.requires.0 c.pair_word-start.ensures.0 c.pair_word.ensures.0
