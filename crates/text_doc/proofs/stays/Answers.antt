use Prim.Native.Nat.{ℕ}
use Rattle.rast.proofs.BytesLaws.{never}
use Rattle.text_doc.specs.Steps.{Fence, NoFence}
use borrow.Author.Tests.{not-false, not-true}
use mathlib.Core.Path.{◌∙◌, subst, sym}
use Rattle.text_doc.proofs.stays.Goals as goal

pub returns-then-not-started : goal.returns-then-not-started
returns-then-not-started c =
    let n = c.if-not-started.true in
    (λ e. record { no-space = λ s k. never (sym s ∙ n); no-fence = λ s. never (sym s ∙ n) }, λ e. never e)

pub returns-then-doc-at-eq32 : goal.returns-then-doc-at-eq32
returns-then-doc-at-eq32 c = (λ e. never (sym e), λ e. record { starts = c.if-not-started.false; quotes = λ k. absurd (k c.if-doc-at-eq32.true) })

pub returns : goal.returns
returns c =
    let s = c in
    let r = c.run.ensures.0 in
    let space = c.if-doc-at-eq32.false in
    let f = c.is_fence.ensures in (
      λ e. record { no-space = λ k. space; no-fence = λ k. subst (λ (n : ℕ). NoFence n s.args.fence) r (f.1 (not-true _ e)) },
      λ e. record {
        starts = c.if-not-started.false;
        quotes = λ k. subst (λ (n : ℕ). Fence n s.args.fence) r (f.0 (not-false _ e));
      },
    )
