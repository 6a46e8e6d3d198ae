use Rattle.text_doc.proofs.Splits.{changes-start, newline-splits, splits-as, stay-splits}
use borrow.Author.Rules.{rules}
use Rattle.text_doc.proofs.step_at.Goals as goal

pub returns-then-doc-at-eq10 : goal.returns-then-doc-at-eq10
returns-then-doc-at-eq10 c =
    let s = c in
    let p = s.args.place in
    newline-splits s.args.doc.now p.at s.requires p.started p.fence c.if-doc-at-eq10.true

pub returns-then-stays : goal.returns-then-stays
returns-then-stays c =
    let s = c in
    let p = s.args.place in
    let n = c.line_length.ensures in
    let stays = c.stays.ensures.0 c.if-stays.true in
    splits-as c.copy_step.ensures (stay-splits s.args.doc.now p.at s.requires p.fence c.if-doc-at-eq10.false _ n.0 n.1 p.started stays)

pub start_step-requires : goal.start_step-requires
start_step-requires c = (search rules, changes-start (c.stays.ensures.1 c.if-stays.false))

pub returns : goal.returns
returns c = rw (c.stays.ensures.1 c.if-stays.false).starts c.start_step.ensures
