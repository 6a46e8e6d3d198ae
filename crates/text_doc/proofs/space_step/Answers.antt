use Rattle.text_doc.proofs.Splits.{bar-splits, code-spaces-splits, few-spaces-splits, splits-as}
use native.Mathlib.Omega.{arith}
use Rattle.text_doc.proofs.space_step.Goals as goal

pub returns-then-fence-ne0 : goal.returns-then-fence-ne0
returns-then-fence-ne0 c =
    let s = c in
    let r = c.run-count.ensures in
    splits-as c.copy_step.ensures
    (code-spaces-splits s.args.doc.now s.args.at s.requires.0 s.requires.1 s.args.fence _ r.0 r.1 (omega (arith, c.if-fence-ne0.true)))

pub returns-then-count-lt4 : goal.returns-then-count-lt4
returns-then-count-lt4 c =
    let s = c in
    let r = c.run-count.ensures in
    splits-as c.copy_step-then-count-lt4.ensures
    (few-spaces-splits s.args.doc.now s.args.at s.requires.0 s.requires.1 s.args.fence _ r.0 r.1 c.if-fence-ne0.false (λ h. c.if-count-lt4.true))

pub returns-then-doc-at-le4 : goal.returns-then-doc-at-le4
returns-then-doc-at-le4 c =
    let s = c in
    let r = c.run-count.ensures in
    splits-as c.copy_step-then-doc-at-le4.ensures
    (few-spaces-splits s.args.doc.now s.args.at s.requires.0 s.requires.1 s.args.fence _ r.0 r.1 c.if-fence-ne0.false
    (λ h. omega (arith, c.if-doc-at-le4.true)))

pub returns : goal.returns
returns c =
    let s = c in
    let r = c.run-count.ensures in
    bar-splits s.args.doc.now s.args.at s.requires.0 s.requires.1 s.args.fence _ r.0 r.1 c.if-fence-ne0.false (omega (arith, c.if-doc-at-le4.false)) c.if-count-lt4.false
