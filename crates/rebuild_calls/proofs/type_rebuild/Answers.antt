use Rattle.rebuild_type.specs.Calls.{type_rebuilt}
use Rattle.rebuild_calls.proofs.type_rebuild.Goals as goal

pub returns : goal.returns
unfolding type_rebuilt
returns c = c.rebuild_by.ensures
