use Rattle.std.proofs.Common.{◌≤◌, length, arith, sym}
use lib.Seq.{length_front, length-take-le}
use Rattle.rast.specs.Bytes.{ascii}
use Rattle.text_calls.proofs.Calls.{within}
use Rattle.file.specs.File.{file_text, printed_file}
use Rattle.file.proofs.Printing.{refusal-printed, text-printed}
use Rattle.file.proofs.print_into.Goals as goal

pub slice_bounds-file_text-end-2 : goal.slice_bounds-file_text-end-2
slice_bounds-file_text-end-2 c = sym (length-take-le _ c.args.out.now (omega (arith, c.requires)))

pub put-requires : goal.put-requires
put-requires c =
    let front : 65536 ≤ length c.args.out.now = omega (arith, c.requires) in
    let w = within _ c.file_text.new.out (file_text c.args.file.now) c.file_text.ensures c.in-Ok.is in
    omega (arith, c.requires, c.file_text.auto.out, w, length-take-le 65536 c.args.out.now front, length_front c.args.out.now c.file_text.new.out 65536 c.file_text.auto.out)

pub returns-in-Ok : goal.returns-in-Ok
unfolding ascii printed_file
returns-in-Ok c = text-printed c.args.out.now c.file_text.new.out c.requires (file_text c.args.file.now) c.file_text.ensures c.in-Ok.is c.put.ensures

pub returns-in-Err : goal.returns-in-Err
unfolding printed_file
returns-in-Err c = refusal-printed c.args.out.now c.file_text.new.out c.requires (file_text c.args.file.now) c.file_text.ensures c.in-Err.is c.put_refusal.ensures
