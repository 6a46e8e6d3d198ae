use mathlib.Core.Path.{◌≡◌, ap, ◌∙◌}
use native.Mathlib.Omega.{arith}
use lib.ListN.{length}
use lib.Seq.{sets}
use Rattle.rast.specs.Tree.{Ty}
use Rattle.rast.specs.Bytes.{Bytes}
use Rattle.rast.specs.ToString.{Type-to_string}
use Rattle.encoding.specs.Types.{type_at}
use Rattle.text_measure.proofs.Measured.{measured-got, measured-stop}
use Rattle.encoding.proofs.Answers.{filled-stop, filled-left, filled-short, filled-done}
use Rattle.encoding.proofs.Reading.{handed-on}
use Rattle.text_calls.proofs.fill_type.Goals as goal

pub returns-then-next-words : goal.returns-then-next-words
returns-then-next-words c =
    let a = c.args in
    let m = measured-got (type_at a.words.now a.pairs.now a.text.now 0) c.measure_type.ensures c.in_ok-next.was in
    filled-left a.out.now Type-to_string (length a.words.now) _ m.reads c.if-next-words.true

pub returns-then-out-bytes : goal.returns-then-out-bytes
returns-then-out-bytes c =
    let a = c.args in
    let m = measured-got (type_at a.words.now a.pairs.now a.text.now 0) c.measure_type.ensures c.in_ok-next.was in
    filled-short a.out.now Type-to_string (length a.words.now) _ m.reads c.if-next-words.false (omega (arith, c.if-out-bytes.true, m.size))

pub returns : goal.returns
returns c =
    let a = c.args in
    let m = measured-got (type_at a.words.now a.pairs.now a.text.now 0) c.measure_type.ensures c.in_ok-next.was in
    let w = c.write_type.ensures in
    let v : w.value ≡ m.value = cc (w.reads, m.reads) in
    filled-done a.out.now Type-to_string (length a.words.now) _ _ m.reads c.if-next-words.false (omega (arith, c.if-out-bytes.false, m.size)) m.size (w.wrote.bytes ∙ ap (λ (t : Ty Bytes). sets a.out.now 0 (Type-to_string t)) v)

pub returns-in_err-next : goal.returns-in_err-next
returns-in_err-next c =
    let a = c.args in
    rw (handed-on c.from_residual.ensures.1) (filled-stop a.out.now Type-to_string (length a.words.now) _ (measured-stop (type_at a.words.now a.pairs.now a.text.now 0) c.measure_type.ensures c.in_err-next.was))
