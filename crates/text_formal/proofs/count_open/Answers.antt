use Rattle.text_formal.proofs.Texts.{typed-counted}
use Rattle.text_formal.specs.Labels.{opened}
use Rattle.text_measure.proofs.Lengths.{name-fits}
use native.Mathlib.Omega.{arith}
use Rattle.text_formal.proofs.count_open.Goals as goal

pub overflow_add-name_length : goal.overflow_add-name_length
overflow_add-name_length c =
    let short = name-fits c.args.pairs.now (λ i. omega (arith, c.shared_slice_known-2-1.given i)) _ _ c.name_length.ensures in
    omega (arith, short)

pub count_few-requires : goal.count_few-requires
count_few-requires c =
    let short = name-fits c.args.pairs.now (λ i. omega (arith, c.shared_slice_known-2-1.given i)) _ _ c.name_length.ensures in
    omega (arith, short)

pub returns : goal.returns
returns c =
    let a = c.args in
    opened (typed-counted a.words.now a.pairs.now a.text.now a.name a.at c.requires.0.good c.requires.1 c.name_length.ensures c.count_few.ensures)
