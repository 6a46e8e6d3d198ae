use mathlib.Core.List.{[]}
use mathlib.Core.Path.{refl}
use Rattle.encoding.specs.Types.{type_at}
use Rattle.text_formal.proofs.Texts.{typed-counted}
use Rattle.text_formal.specs.Labels.{whole}
use Rattle.text_pass.proofs.Leaves.{went-measured}
use Rattle.text_pass.proofs.Passes.{came-to}
use Rattle.text_measure.proofs.Lengths.{name-fits}
use native.Mathlib.Omega.{arith}
use Rattle.text_formal.proofs.count_measured.Goals as goal

pub overflow_add-name_length : goal.overflow_add-name_length
overflow_add-name_length c =
    let short = name-fits c.args.pairs.now (λ i. omega (arith, c.shared_slice_known-2-1.given i)) _ _ c.name_length.ensures in
    omega (arith, short)

pub count_few-open-requires : goal.count_few-open-requires
count_few-open-requires c =
    let short = name-fits c.args.pairs.now (λ i. omega (arith, c.shared_slice_known-2-1.given i)) _ _ c.name_length.ensures in
    omega (arith, short)

pub returns : goal.returns
returns c =
    let a = c.args in
    let t = typed-counted a.words.now a.pairs.now a.text.now a.name a.at c.requires.0.good c.requires.1 c.name_length.ensures c.count_few-open.ensures in
    whole (came-to (t.ends [] _ (went-measured (type_at a.words.now a.pairs.now a.text.now a.at) refl c.requires.2 refl c.count_on.ensures)) refl)
