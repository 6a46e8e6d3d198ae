use Rattle.encoding.proofs.Reading.{handed-on}
use Rattle.encoding.proofs.own_word.Goals as goal

pub returns : goal.returns
returns c = rw (c.in_ok-value.was, c.head_of-head.ensures)

pub returns-in_err-value : goal.returns-in_err-value
returns-in_err-value c = rw (c.in_err-value.was, handed-on c.from_residual.ensures.1)
