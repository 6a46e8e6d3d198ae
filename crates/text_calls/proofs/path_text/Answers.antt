use Rattle.encoding.specs.Types.{path_in}
use Rattle.text_calls.specs.Calls.{path_text}
use Rattle.text_calls.proofs.Calls.{tables-tested, text-filled, text-refused}
use Rattle.encoding.proofs.Reading.{handed-on}
use Rattle.text_calls.proofs.path_text.Goals as goal

pub fill_path-requires : goal.fill_path-requires
fill_path-requires c =
    let a = c.args in
    tables-tested a.words.now a.pairs.now a.text.now a.level c.check_call.ensures c.in_ok-check_call.was

pub returns : goal.returns
unfolding path_text path_in
returns c =
    let a = c.args in
    text-filled a.words.now a.pairs.now a.text.now a.level c.check_call.ensures a.out.now _ _ c.in_ok-check_call.was c.fill_path.ensures

pub returns-in_err-check_call : goal.returns-in_err-check_call
unfolding path_text path_in
returns-in_err-check_call c =
    let a = c.args in
    rw (handed-on c.from_residual.ensures.1) (text-refused a.words.now a.pairs.now a.text.now a.level c.check_call.ensures a.out.now _ _ c.in_err-check_call.was)
