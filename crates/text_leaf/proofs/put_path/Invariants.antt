use Prim.Native.Nat.{◌+◌}
use Rattle.encoding.specs.Tables.{name_bytes}
use Rattle.text_leaf.proofs.Paths.{MembersLeft}
use Rattle.text_leaf.proofs.put_path.Given as goal

abbrev pub invariant-loop-name : goal.invariant-loop-name
invariant-loop-name l = MembersLeft l.words (name_bytes l.pairs l.text) l.start l.end l.initial.out l.initial.p l.out l.p (l.start + l.name-index)
