use Rattle.encoding.proofs.Reading.{handed-on}
use Rattle.text_declaration_call.proofs.Filling.{turn-done, turn-left, turn-next, turn-ready, turn-short, turn-start, turn_stopped, turns-less}
use borrow.Author.Rules.{rules}
use Rattle.text_declaration_call.proofs.fill.Goals as goal

pub loop-next-init : goal.loop-next-init
loop-next-init c = (search rules, turn-start (search rules))

pub lay_declaration-requires : goal.lay_declaration-requires
lay_declaration-requires c =
    (c.requires.0, c.requires.1, turn-ready c.loop-next.invariant.1)

pub returns-then-write : goal.returns-then-write
returns-then-write c = turn-done c.loop-next.invariant.1 c.lay_declaration.ensures c.in_ok-next.was c.if-write.true

pub returns-then-next-words : goal.returns-then-next-words
returns-then-next-words c = turn-left c.loop-next.invariant.1 c.lay_declaration.ensures c.in_ok-next.was c.if-write.false c.if-next-words.true

pub returns-then-out-bytes : goal.returns-then-out-bytes
returns-then-out-bytes c = turn-short c.loop-next.invariant.1 c.lay_declaration.ensures c.in_ok-next.was c.if-write.false c.if-next-words.false c.if-out-bytes.true

pub loop-next-smaller : goal.loop-next-smaller
loop-next-smaller c = turns-less _ c.if-write.false

pub loop-next-preserved : goal.loop-next-preserved
loop-next-preserved c = (search rules, turn-next c.loop-next.invariant.1 c.lay_declaration.ensures c.in_ok-next.was c.if-write.false c.if-next-words.false c.if-out-bytes.false)

pub returns-in_err-next : goal.returns-in_err-next
returns-in_err-next c = rw (handed-on c.from_residual.ensures.1) (turn_stopped c.loop-next.invariant.1 c.lay_declaration.ensures c.in_err-next.was)
