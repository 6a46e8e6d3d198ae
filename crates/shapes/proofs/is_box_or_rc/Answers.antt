use Rattle.known_paths.specs.declared.Class.TheVariants.{Boxed, Counted}
use Rattle.known_paths.specs.Classes.{arity, in_class, is_of}
use Rattle.shapes.specs.Shapes.{IsBox, IsRc}
use Rattle.shapes.proofs.Judging.{judge-one, judge-other}
use Rattle.shapes.proofs.is_box_or_rc.Goals as goal

pub returns-then-is_of : goal.returns-then-is_of
unfolding IsBox IsRc is_of in_class arity
returns-then-is_of c = judge-one (is_of Boxed) (is_of Counted) c.is_of.ensures c.if-is_of.true

pub returns : goal.returns
unfolding IsBox IsRc is_of in_class arity
returns c = judge-other (is_of Boxed) (is_of Counted) c.is_of.ensures c.if-is_of.false c.is_of-2.ensures
