use Rattle.accept_declaration.specs.declared.Whole.TheVariants.{AType}
use Rattle.visits.proofs.Answers.{fills, fills-readable, type-due, type-visited, visits-left, visits-stop, visits-within}
use Rattle.encoding.proofs.Reading.{handed-on}
use Rattle.visits.proofs.fill_type.Goals as goal

pub returns-then-next-words : goal.returns-then-next-words
returns-then-next-words c =
    let s = c in let a = s.args in
    visits-left a.words.now a.pairs.now a.text.now AType c.accept_type.ensures a.out.now c.in_ok-next.was c.if-next-words.true

pub fill_short-requires : goal.fill_short-requires
fill_short-requires c =
    let s = c in let a = s.args in
    (s.requires.1, fills a.words.now a.pairs.now a.text.now AType c.accept_type.ensures c.in_ok-next.was c.if-next-words.false)

pub returns-then-out-words : goal.returns-then-out-words
returns-then-out-words c = c.fill_short.ensures

pub visit_type-all-requires : goal.visit_type-all-requires
visit_type-all-requires c =
    let s = c in let a = s.args in
    type-due a.words.now a.pairs.now a.text.now s.requires.1 (fills-readable a.words.now a.pairs.now a.text.now (fills a.words.now a.pairs.now a.text.now AType c.accept_type.ensures c.in_ok-next.was c.if-next-words.false))

pub returns : goal.returns
returns c =
    let s = c in let a = s.args in
    let f = fills a.words.now a.pairs.now a.text.now AType c.accept_type.ensures c.in_ok-next.was c.if-next-words.false in
    visits-within a.words.now a.pairs.now a.text.now AType a.out.now f (type-visited a.words.now a.pairs.now a.text.now (fills-readable a.words.now a.pairs.now a.text.now f) c.visit_type-all.ensures) c.if-out-words.false

pub returns-in_err-next : goal.returns-in_err-next
returns-in_err-next c =
    let s = c in let a = s.args in
    rw (handed-on c.from_residual.ensures.1) (visits-stop a.words.now a.pairs.now a.text.now AType c.accept_type.ensures a.out.now c.in_err-next.was)
