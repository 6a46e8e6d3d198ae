use Rattle.text_pass.proofs.Passes.{came-went, counts-went, ready-true}
use Rattle.text_declaration.proofs.lay_cases.Goals as goal

pub write_cases-spot-requires : goal.write_cases-spot-requires
write_cases-spot-requires c = (c.requires.0, c.requires.1, c.requires.2, ready-true c.if-write.true c.requires.3)

pub returns-then-write : goal.returns-then-write
returns-then-write c = came-went c.if-write.true c.write_cases-spot.ensures

pub returns : goal.returns
returns c = counts-went c.if-write.false c.count_cases.ensures
