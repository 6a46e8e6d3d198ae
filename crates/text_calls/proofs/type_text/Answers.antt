use Rattle.encoding.specs.Types.{type_of}
use Rattle.text_calls.specs.Calls.{type_text}
use Rattle.text_calls.proofs.Calls.{tables-tested, text-filled, text-refused}
use Rattle.encoding.proofs.Reading.{handed-on}
use Rattle.text_calls.proofs.type_text.Goals as goal

pub fill_type-requires : goal.fill_type-requires
fill_type-requires c =
    let a = c.args in
    tables-tested a.words.now a.pairs.now a.text.now a.level c.check_call.ensures c.in_ok-check_call.was

pub returns : goal.returns
unfolding type_text type_of
returns c =
    let a = c.args in
    text-filled a.words.now a.pairs.now a.text.now a.level c.check_call.ensures a.out.now _ _ c.in_ok-check_call.was c.fill_type.ensures

pub returns-in_err-check_call : goal.returns-in_err-check_call
unfolding type_text type_of
returns-in_err-check_call c =
    let a = c.args in
    rw (handed-on c.from_residual.ensures.1) (text-refused a.words.now a.pairs.now a.text.now a.level c.check_call.ensures a.out.now _ _ c.in_err-check_call.was)
