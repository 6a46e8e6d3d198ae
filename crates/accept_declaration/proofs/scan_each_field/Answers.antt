use Rattle.declaration_walk.proofs.Scans.{each-scanned}
use Rattle.accept_declaration.proofs.Ends.{fields-each}
use borrow.Author.Rules.{rules}
use Rattle.accept_declaration.proofs.scan_each_field.Goals as goal

pub returns : goal.returns
returns c =
    let a = c.args in
    each-scanned (fields-each a.words.now a.pairs.now a.text.now a.kind) (λ p s h. search rules) c.scan_each.ensures
