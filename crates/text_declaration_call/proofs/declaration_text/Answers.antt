use Rattle.encoding.proofs.Reading.{handed-on}
use Rattle.encoding.specs.Declarations.{declaration_of}
use Rattle.text_calls.proofs.Calls.{level-tested, tables-tested, text-filled, text-refused}
use Rattle.text_declaration_call.specs.Calls.{declaration_text}
use Rattle.text_declaration_call.proofs.Filling.{level-passed}
use Rattle.text_declaration_call.proofs.declaration_text.Goals as goal

pub fill-requires : goal.fill-requires
fill-requires c =
    let a = c.args in
    let t = tables-tested a.words.now a.pairs.now a.text.now a.level c.check_call.ensures c.in_ok-check_call.was in
    (record { good = t.0; few = t.1 }, level-passed a.level (level-tested a.words.now a.pairs.now a.text.now a.level c.check_call.ensures c.in_ok-check_call.was))

pub returns : goal.returns
unfolding declaration_text declaration_of
returns c =
    let a = c.args in
    text-filled a.words.now a.pairs.now a.text.now a.level c.check_call.ensures a.out.now _ _ c.in_ok-check_call.was c.fill.ensures

pub returns-in_err-check_call : goal.returns-in_err-check_call
unfolding declaration_text declaration_of
returns-in_err-check_call c =
    let a = c.args in
    rw (handed-on c.from_residual.ensures.1) (text-refused a.words.now a.pairs.now a.text.now a.level c.check_call.ensures a.out.now _ _ c.in_err-check_call.was)
