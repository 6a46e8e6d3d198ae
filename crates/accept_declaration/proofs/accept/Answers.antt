use Rattle.encoding.specs.Scans.{ended}
use Rattle.accept_declaration.specs.Ends.{held_at}
use Rattle.accept_declaration.specs.declared.Whole.{Whole}
use mathlib.Core.Path.{◌≡◌, subst, sym}
use Rattle.accept_declaration.proofs.accept.Goals as goal

pub returns-in-AType : goal.returns-in-AType
returns-in-AType c =
    let a = c.args in
    subst (λ (x : Whole). c.scan_type.result ≡ ended (held_at x a.words.now a.pairs.now a.text.now)) (sym c.in-AType.is) c.scan_type.ensures

pub returns-in-ADeclaration : goal.returns-in-ADeclaration
returns-in-ADeclaration c =
    let a = c.args in
    subst (λ (x : Whole). c.accept_declaration.result ≡ ended (held_at x a.words.now a.pairs.now a.text.now)) (sym c.in-ADeclaration.is) c.accept_declaration.ensures
