use Rattle.encoding.specs.Reading.{read_below}
use Rattle.encoding.proofs.Reading.{handed-on}
use mathlib.Core.Path.{◌∙◌}
use Rattle.declaration_walk.specs.Walks.{read_two}
use Rattle.declaration_walk.proofs.Scans.{both_read, second-refused, first-refused}
use Rattle.declaration_walk.proofs.scan_two.Goals as goal

pub returns : goal.returns
unfolding read_two
returns c =
    let a = c.args in
    both_read (read_below a.bound a.words.now a.at) (read_below a.other a.words.now) c.scan_below.ensures c.in_ok-first.was c.scan_below-2.ensures c.in_ok-second.was

pub returns-in_err-second : goal.returns-in_err-second
unfolding read_two
returns-in_err-second c =
    let a = c.args in
    handed-on c.from_residual-in_err-second.ensures.1 ∙ second-refused (read_below a.bound a.words.now a.at) (read_below a.other a.words.now) c.scan_below.ensures c.in_ok-first.was c.scan_below-2.ensures c.in_err-second.was

pub returns-in_err-first : goal.returns-in_err-first
unfolding read_two
returns-in_err-first c =
    let a = c.args in
    handed-on c.from_residual.ensures.1 ∙ first-refused (read_below a.bound a.words.now a.at) (read_below a.other a.words.now) c.scan_below.ensures c.in_err-first.was
