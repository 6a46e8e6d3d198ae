use Rattle.declaration_walk.proofs.Scans.{list-each, each-scanned}
use Rattle.accept_declaration.specs.Ends.{parameter_at}
use borrow.Author.Rules.{rules}
use Rattle.accept_declaration.proofs.scan_each_parameter.Goals as goal

pub returns : goal.returns
returns c =
    let a = c.args in
    each-scanned (list-each (parameter_at a.words.now a.pairs.now a.text.now)) (λ p s h. search rules) c.scan_each.ensures
