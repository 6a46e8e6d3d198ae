use Rattle.file.proofs.Printing.{decimal-short, line-written}
use Rattle.rast.specs.Bytes.{ascii}
use Rattle.std.proofs.Common.{arith}
use Rattle.file.proofs.put_refusal.Goals as goal

pub put-requires : goal.put-requires
put-requires c =
    let d = decimal-short c.from.result in
    omega (arith, c.put-digits.ensures.next, c.put-digits.auto.out, c.put_decimal-end.ensures.next, c.put_decimal-end.auto.out)

pub returns : goal.returns
unfolding ascii
returns c = line-written c.args.r c.from.ensures c.put-digits.ensures c.put_decimal-end.ensures c.put.ensures
