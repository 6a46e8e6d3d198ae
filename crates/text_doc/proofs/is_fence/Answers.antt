use Rattle.text_doc.proofs.Runs.{fence-outside, fence-inside}
use Rattle.text_doc.proofs.is_fence.Goals as goal

pub returns-then-fence-eq0 : goal.returns-then-fence-eq0
returns-then-fence-eq0 c = fence-outside _ _ c.if-fence-eq0.true

pub returns : goal.returns
returns c = fence-inside _ _ c.if-fence-eq0.false
