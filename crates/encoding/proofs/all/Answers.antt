use lib.ListN.{length}
use lib.Seq.{take-length}
use mathlib.Core.Path.{ap, sym}
use Rattle.encoding.proofs.all.Goals as goal

pub slice_bounds-result-end : goal.slice_bounds-result-end
slice_bounds-result-end g c = ap length (sym (take-length c.args.s.now))

pub returns : goal.returns
returns g c = take-length c.args.s.now
