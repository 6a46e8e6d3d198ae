use Rattle.answer_numbers.proofs.count_number.Goals as goal

pub returns-in-Err : goal.returns-in-Err
returns-in-Err c = cc
