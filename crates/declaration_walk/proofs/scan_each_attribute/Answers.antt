use Rattle.declaration_walk.proofs.Scans.{list-each, each-scanned}
use Rattle.declaration_walk.specs.Walks.{read_one_attribute}
use borrow.Author.Rules.{rules}
use Rattle.declaration_walk.proofs.scan_each_attribute.Goals as goal

pub returns : goal.returns
returns c =
    let a = c.args in
    each-scanned (list-each (read_one_attribute a.bound a.words.now)) (λ p s h. search rules) c.scan_each.ensures
