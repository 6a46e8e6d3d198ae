use Prim.Native.Nat.{◌+◌, ◌^◌, ◌<◌}
use mathlib.Core.Path.{◌≡◌, refl, ◌∙◌, ap, sym}
use lib.ListN.{length}
use native.Mathlib.Omega.{arith}
use Rattle.buffer.specs.Laid.{clamp}
use Rattle.buffer.proofs.Passes.{laid-counted}
use Rattle.encoding.specs.Tables.{name_count, name_bytes}
use Rattle.encoding.proofs.Inside.{below-there}
use Rattle.encoding.proofs.Tables.{name-length}
use Rattle.text_measure.proofs.Lengths.{name-fits}
use Rattle.text_pass.proofs.Leaves.{name-word, scanned-refused, scanned-went, scanned-word}
use Rattle.text_pass.proofs.Passes.{went-handed}
use Rattle.text_pass.proofs.count_name.Goals as goal

pub name_length-requires : goal.name_length-requires
name_length-requires c =
    let below : c.in_ok-value.value < name_count c.args.pairs.now = let a = c.args in
    let e = scanned-word a.words.now (name_count a.pairs.now) a.at c.name_count.ensures c.scan_below.ensures c.in_ok-value.was in
    (below-there _ a.words.now a.at e).below in
    below

pub overflow_add-before : goal.overflow_add-before
overflow_add-before c =
    let short : c.name_length.result < 2 ^ 32 = name-fits c.args.pairs.now (λ i. omega (arith, c.shared_slice_known-2-1.given i)) _ _ c.name_length.ensures in
    omega (arith, c.requires.1, short)

pub count_few-requires : goal.count_few-requires
count_few-requires c =
    let short : c.name_length.result < 2 ^ 32 = name-fits c.args.pairs.now (λ i. omega (arith, c.shared_slice_known-2-1.given i)) _ _ c.name_length.ensures in
    omega (arith, c.requires.1, short)

pub returns : goal.returns
returns c =
    let below : c.in_ok-value.value < name_count c.args.pairs.now = let a = c.args in
    let e = scanned-word a.words.now (name_count a.pairs.now) a.at c.name_count.ensures c.scan_below.ensures c.in_ok-value.was in
    (below-there _ a.words.now a.at e).below in
    let s = c in
    let a = s.args in
    let n = c.name_length.ensures ∙ sym (name-length a.pairs.now a.text.now _ s.requires.0.good below) in
    let e : a.pos + (a.before + c.name_length.result) ≡ a.pos + a.before + length (name_bytes a.pairs.now a.text.now c.in_ok-value.value) = omega (arith, n) in
    scanned-went (name-word a.words.now a.pairs.now a.text.now a.at) c.name_count.ensures c.scan_below.ensures c.in_ok-value.was (laid-counted refl (c.count_few.ensures ∙ ap clamp e))

pub returns-in_err-value : goal.returns-in_err-value
returns-in_err-value c =
    let a = c.args in
    went-handed refl c.from_residual.ensures.1 (scanned-refused (name-word a.words.now a.pairs.now a.text.now a.at) c.name_count.ensures c.scan_below.ensures c.in_err-value.was)
