use Rattle.accept_declaration.specs.declared.Whole.TheVariants.{ADeclaration}
use Rattle.visits.proofs.Answers.{fills, fills-readable, visits-left, visits-stop, visits-within}
use Rattle.encoding.proofs.Reading.{handed-on}
use Rattle.visits.proofs.fill_declaration.Goals as goal

pub returns-then-end-words : goal.returns-then-end-words
returns-then-end-words c =
    let s = c in let a = s.args in
    visits-left a.words.now a.pairs.now a.text.now ADeclaration c.accept_declaration.ensures a.out.now c.in_ok-end.was c.if-end-words.true

pub fill_short-requires : goal.fill_short-requires
fill_short-requires c =
    let s = c in let a = s.args in
    (s.requires.1, fills a.words.now a.pairs.now a.text.now ADeclaration c.accept_declaration.ensures c.in_ok-end.was c.if-end-words.false)

pub returns-then-out-words : goal.returns-then-out-words
returns-then-out-words c = c.fill_short.ensures

pub visit_declaration-requires : goal.visit_declaration-requires
visit_declaration-requires c =
    let s = c in let a = s.args in
    (s.requires.1, fills-readable a.words.now a.pairs.now a.text.now (fills a.words.now a.pairs.now a.text.now ADeclaration c.accept_declaration.ensures c.in_ok-end.was c.if-end-words.false))

pub returns : goal.returns
returns c =
    let s = c in let a = s.args in
    visits-within a.words.now a.pairs.now a.text.now ADeclaration a.out.now (fills a.words.now a.pairs.now a.text.now ADeclaration c.accept_declaration.ensures c.in_ok-end.was c.if-end-words.false) c.visit_declaration.ensures c.if-out-words.false

pub returns-in_err-end : goal.returns-in_err-end
returns-in_err-end c =
    let s = c in let a = s.args in
    rw (handed-on c.from_residual.ensures.1) (visits-stop a.words.now a.pairs.now a.text.now ADeclaration c.accept_declaration.ensures a.out.now c.in_err-end.was)
