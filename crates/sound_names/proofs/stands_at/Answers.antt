use mathlib.Core.Path.{ap, ◌∙◌}
use lib.ListN.{length, take, drop}
use Rattle.rast.specs.Bytes.{same}
use Rattle.encoding.proofs.Names.{part-to}
use Rattle.sound_names.proofs.stands_at.Goals as goal

pub returns : goal.returns
returns c =
    let s = c in
    let a = s.args in
    let n = length a.bytes.now in
    c.same_bytes.ensures ∙ ap (same a.bytes.now) (c.part.ensures ∙ part-to a.all.now a.start n ∙ ap (λ l. take n (drop a.start l)) s.requires.0)
