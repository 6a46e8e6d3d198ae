use native.Mathlib.Omega.{arith}
use Rattle.answer_numbers.proofs.part_number.Goals as goal

pub overflow_mul-result : goal.overflow_mul-result
overflow_mul-result c = let h = c.requires.small _ c.in-Ok.is in omega (arith, h)

pub overflow_add-result : goal.overflow_add-result
overflow_add-result c = let h = c.requires.small _ c.in-Ok.is in omega (arith, h)

pub returns-in-Ok : goal.returns-in-Ok
returns-in-Ok c = cc

pub returns-in-Err : goal.returns-in-Err
returns-in-Err c = cc
