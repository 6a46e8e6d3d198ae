use Rattle.text_formal.proofs.Texts.{typed-along, typed-chain}
use Rattle.text_formal.specs.Labels.{front}
use Rattle.text_pass.proofs.Passes.{came-bytes, ready-bytes, ready-first, ready-next}
use Rattle.buffer.proofs.Passes.{laid-wrote}
use Rattle.rast.specs.Bytes.{ascii}
use mathlib.Core.Path.{refl}
use Rattle.text_formal.proofs.write_open.Goals as goal

pub put_name-p-requires : goal.put_name-p-requires
put_name-p-requires c =
    let a = c.args in
    (c.requires.1, c.requires.0.good, (ready-bytes (ready-first (typed-chain a.words.now a.pairs.now a.text.now a.name a.at c.requires.2))).room refl)

pub put-requires : goal.put-requires
unfolding ascii
put-requires c =
    let a = c.args in
    (ready-bytes (ready-first (ready-next (typed-chain a.words.now a.pairs.now a.text.now a.name a.at c.requires.2) (came-bytes _ (laid-wrote refl c.put_name-p.ensures))))).room refl

pub returns : goal.returns
unfolding ascii
returns c =
    let a = c.args in
    front (typed-along a.words.now a.pairs.now a.text.now a.name a.at c.requires.2 (laid-wrote refl c.put_name-p.ensures) (laid-wrote refl c.put.ensures))
