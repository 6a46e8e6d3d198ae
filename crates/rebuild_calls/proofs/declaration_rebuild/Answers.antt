use Rattle.rebuild_declaration.specs.Calls.{declaration_rebuilt}
use Rattle.rebuild_calls.proofs.declaration_rebuild.Goals as goal

pub returns : goal.returns
unfolding declaration_rebuilt
returns c = c.rebuild_by.ensures
