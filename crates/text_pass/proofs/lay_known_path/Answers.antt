use Prim.Native.Nat.{◌+◌}
use Rattle.buffer.proofs.Passes.{clamp-of, laid-size, laid-wrote}
use Rattle.text_pass.proofs.lay_known_path.Goals as goal

pub put_path-requires : goal.put_path-requires
put_path-requires c =
    let pre = c.requires in
    (pre.1, pre.0.good, pre.3.room c.if-write.true)

pub returns-then-write : goal.returns-then-write
returns-then-write c = laid-wrote c.if-write.true c.put_path.ensures

pub returns : goal.returns
returns c =
    let s = c in
    laid-size c.if-write.false (clamp-of (s.args.pos + s.args.bytes) c.count_on.ensures) s.requires.2
