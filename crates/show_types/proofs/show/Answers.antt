-- The text lies within the buffer.
use Rattle.std.proofs.Common.{refl, sym}
use Rattle.std.proofs.lemmas.List.{length-take-le}
use Rattle.text_calls.proofs.Calls.{within}
use Rattle.show_types.proofs.show.Goals as goal

pub slice_bounds-buffer-end : goal.slice_bounds-buffer-end
slice_bounds-buffer-end g c = within _ _ _ c.in-Ok.ensures refl

pub slice_bounds-print-end : goal.slice_bounds-print-end
slice_bounds-print-end g c = sym (length-take-le _ _ (within _ _ _ c.in-Ok.ensures refl))
