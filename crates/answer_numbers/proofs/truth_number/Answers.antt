use Rattle.answer_numbers.proofs.truth_number.Goals as goal

pub returns-in-Err : goal.returns-in-Err
returns-in-Err c = cc
