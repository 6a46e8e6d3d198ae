use Rattle.buffer.proofs.Laws.{wrote_as}
use Rattle.encoding.proofs.Names.{pair-there, pair-taken, pair_size}
use native.Mathlib.Omega.{arith}
use Rattle.encoding.proofs.put_pair.Goals as goal

pub put_part-requires : goal.put_part-requires
put_part-requires c =
    let s = c in
    let a = s.args in
    let e = c.pair_word-start.ensures.0 in
    let d = c.pair_word.ensures.0 in
    ((pair-there a.pairs.now a.text.now a.name s.requires.0 e d s.requires.2 s.requires.1).1, omega (arith, s.requires.3, pair_size a.pairs.now a.text.now a.name s.requires.0 e d s.requires.2 s.requires.1))

pub returns : goal.returns
returns c =
    let s = c in
    wrote_as (pair-taken s.args.pairs.now s.args.text.now s.args.name s.requires.0 c.pair_word-start.ensures.0 c.pair_word.ensures.0) c.put_part.ensures
