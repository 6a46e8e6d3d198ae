use borrow.Author.Rules.{rules}
use Rattle.text_doc.proofs.Runs.{nearest-more}
use Rattle.text_doc.proofs.near_length.Goals as goal

pub loop-i-preserved : goal.loop-i-preserved
loop-i-preserved c =
    let a = c.args in
    let l = c.loop-i in
    nearest-more a.doc.now a.at l.i l.found _ _ l.invariant (search rules) (search rules) c.newline_place.ensures c.min-found.ensures
