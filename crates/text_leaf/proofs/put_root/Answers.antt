use Rattle.rast.specs.Bytes.{ascii}
use Rattle.rast.specs.ToString.{Path-to_string}
use Rattle.encoding.specs.Types.{root_of}
use Rattle.buffer.proofs.Laws.{wrote_nothing}
use Rattle.text_leaf.proofs.Paths.{root-self}
use Rattle.text_leaf.proofs.put_root.Goals as goal

pub put-requires : goal.put-requires
unfolding root_of Path-to_string ascii
put-requires c = rw c.in-1.is at c.requires

pub put-requires-in_default : goal.put-requires-in_default
unfolding ascii
put-requires-in_default c = rw (root-self _ c.in_default.in_default-own.rest.0.1 c.in_default.in_default-own.rest.1) at c.requires

pub returns-in-0 : goal.returns-in-0
unfolding root_of Path-to_string ascii
returns-in-0 c = rw c.in-0.is (wrote_nothing _ _)

pub returns-in-1 : goal.returns-in-1
unfolding root_of Path-to_string ascii
returns-in-1 c = rw c.in-1.is c.put.ensures

pub returns-in_default : goal.returns-in_default
unfolding ascii
returns-in_default c = rw (root-self _ c.in_default.in_default-own.rest.0.1 c.in_default.in_default-own.rest.1) c.put-in_default.ensures
