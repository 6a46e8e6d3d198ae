use Rattle.encoding.proofs.Reading.{handed-on, read-got, read-stop}
use Rattle.encoding.specs.Reading.{read_word}
use Rattle.declaration_walk.specs.Walks.{cases, no_cases}
use Rattle.declaration_walk.proofs.open_cases.Goals as goal

pub returns : goal.returns
returns c =
    cases c.requires.0 c.requires.1 c.requires.2 (read-got (read_word c.args.words.now c.args.walk.place) c.scan_word.ensures c.in_ok-cases.was)

pub returns-in_err-cases : goal.returns-in_err-cases
returns-in_err-cases c =
    rw (handed-on c.from_residual.ensures.1) (no_cases c.requires.0 c.requires.1 c.requires.2 (read-stop (read_word c.args.words.now c.args.walk.place) c.scan_word.ensures c.in_err-cases.was))
