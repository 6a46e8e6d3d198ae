use Rattle.rebuild_declaration.proofs.Steps.{going-ends, going-full, going_on, going-starts}
use native.Mathlib.Omega.{arith}
use Rattle.rebuild_declaration.proofs.rebuild_rest.Goals as goal

pub loop-next-init : goal.loop-next-init
loop-next-init c = going-starts c.requires

pub add_piece-requires : goal.add_piece-requires
add_piece-requires c = c.loop-next.invariant.ready

pub loop-next-smaller : goal.loop-next-smaller
loop-next-smaller c = let g = going_on c.loop-next.invariant c.add_piece.ensures c.in-Further.is c.larger-deepest.ensures in omega (arith, g.1, g.0.ready.inside)

pub loop-next-preserved : goal.loop-next-preserved
loop-next-preserved c = (going_on c.loop-next.invariant c.add_piece.ensures c.in-Further.is c.larger-deepest.ensures).0

pub returns-in-Finished : goal.returns-in-Finished
returns-in-Finished c = going-ends c.loop-next.invariant c.add_piece.ensures c.in-Finished.is

pub returns-in-NoSpace : goal.returns-in-NoSpace
returns-in-NoSpace c = going-full c.loop-next.invariant c.add_piece.ensures c.in-NoSpace.is
