use native.Mathlib.Omega.{arith}
use Rattle.buffer.proofs.Laws.{part-rest, part-wrote, wrote_kept}
use Rattle.buffer.proofs.+put_long.Goals as goal

pub copy_chunk-requires : goal.copy_chunk-requires
copy_chunk-requires t c = let s = c in (c.if-count-le-CHUNK.true, s.requires.0, s.requires.1)

pub returns-then-count-le-CHUNK : goal.returns-then-count-le-CHUNK
returns-then-count-le-CHUNK t c =
    let s = c in
    part-wrote s.args.bytes.now s.args.start s.args.count s.requires.0 c.copy_chunk.ensures

pub copy-requires : goal.copy-requires
copy-requires t c =
    let s = c in
    let h = c.if-count-le-CHUNK.false in
    (omega (arith, s.requires.0, h), omega (arith, s.requires.1, h))

pub put_long-requires : goal.put_long-requires
put_long-requires t c =
    let s = c in
    let h = c.if-count-le-CHUNK.false in
    let k = wrote_kept (part-wrote s.args.bytes.now s.args.start 16384 (omega (arith, s.requires.0, h)) c.copy.ensures) in
    (omega (arith, s.decreases, h), (omega (arith, s.requires.0, h), omega (arith, s.requires.1, h, k)))

pub returns : goal.returns
returns t c =
    let s = c in
    part-rest s.args.bytes.now s.args.start s.args.count 16384 (omega (arith, c.if-count-le-CHUNK.false)) s.requires.0
    c.copy.ensures c.put_long.ensures
