use Rattle.encoding.proofs.Reading.{handed-on, read-got, read-stop}
use Rattle.encoding.specs.Reading.{read_below}
use Rattle.declaration_walk.proofs.Scans.{two-got, two-stop}
use Rattle.declaration_walk.specs.Walks.{field, nameless, no_field, no-nameless, read_two}
use Rattle.declaration_walk.proofs.open_field.Goals as goal

pub returns-then-walk-eq-NAMED : goal.returns-then-walk-eq-NAMED
returns-then-walk-eq-NAMED c =
    let q = c.requires in
    rw c.in_field.ensures (field q.0 q.1 q.2 q.3 c.if-walk-eq-NAMED.true (two-got (read_two 2 c.args.bound c.args.words.now c.args.walk.place) c.scan_two.ensures c.in_ok-next.was))

pub returns-in_err-next : goal.returns-in_err-next
returns-in_err-next c =
    let q = c.requires in
    rw (handed-on c.from_residual.ensures.1) (no_field q.0 q.1 q.2 q.3 c.if-walk-eq-NAMED.true (two-stop (read_two 2 c.args.bound c.args.words.now c.args.walk.place) c.scan_two.ensures c.in_err-next.was))

pub returns : goal.returns
returns c =
    let q = c.requires in
    rw c.in_field-2.ensures (nameless q.0 q.1 q.2 q.3 c.if-walk-eq-NAMED.false (read-got (read_below 2 c.args.words.now c.args.walk.place) c.scan_below.ensures c.in_ok-next-2.was))

pub returns-in_err-next-2 : goal.returns-in_err-next-2
returns-in_err-next-2 c =
    let q = c.requires in
    rw (handed-on c.from_residual-in_err-next-2.ensures.1) (no-nameless q.0 q.1 q.2 q.3 c.if-walk-eq-NAMED.false (read-stop (read_below 2 c.args.words.now c.args.walk.place) c.scan_below.ensures c.in_err-next-2.was))
