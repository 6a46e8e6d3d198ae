use Rattle.encoding.specs.Types.{type_at}
use Rattle.text_pass.proofs.Leaves.{room-type, went-written}
use Rattle.text_pass.proofs.Passes.{counts-went}
use Rattle.text_pass.proofs.lay_type.Goals as goal

pub write_type-spot-requires : goal.write_type-spot-requires
write_type-spot-requires c = let s = c in (s.requires.0.good, room-type _ (s.requires.1.room c.if-write.true))

pub returns-then-write : goal.returns-then-write
returns-then-write c =
    let a = c.args in
    went-written (type_at a.words.now a.pairs.now a.text.now a.at) _ c.if-write.true c.write_type-spot.ensures

pub returns : goal.returns
returns c = counts-went c.if-write.false c.count_type.ensures
