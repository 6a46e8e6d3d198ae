use Rattle.text_pass.proofs.Passes.{came-went, counts-went, ready-true}
use Rattle.text_declaration.proofs.lay_attributes.Goals as goal

pub write_attribute_list-spot-requires : goal.write_attribute_list-spot-requires
write_attribute_list-spot-requires c = (c.requires.0, ready-true c.if-write.true c.requires.2)

pub returns-then-write : goal.returns-then-write
returns-then-write c = came-went c.if-write.true c.write_attribute_list-spot.ensures

pub returns : goal.returns
returns c = counts-went c.if-write.false c.count_attribute_list.ensures
