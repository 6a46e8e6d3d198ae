use Rattle.rebuild_type.proofs.Growing.{gives-over, gives_to, to-ends, to_inside, to-spans}
use native.Mathlib.Omega.{arith}
use Rattle.rebuild_type.proofs.give_way.Goals as goal

pub overflow_sub-count : goal.overflow_sub-count
overflow_sub-count c =
    let s = c in to-ends c.entry-to.ensures c.entry.ensures s.requires.0 s.requires.1

pub add_words-requires : goal.add_words-requires
add_words-requires c =
    let s = c in (to_inside c.entry-to.ensures c.entry.ensures s.requires.0 s.requires.1, s.requires.3, s.requires.4)

pub depth_in-depth-requires : goal.depth_in-depth-requires
depth_in-depth-requires c =
    let s = c in let t = to_inside c.entry-to.ensures c.entry.ensures s.requires.0 s.requires.1 in
    (omega (arith, t), to-spans c.entry-to.ensures c.entry.ensures s.requires.0 s.requires.1 s.args.pairs.now s.requires.2)

pub returns : goal.returns
returns c = gives_to c.entry-to.ensures c.entry.ensures c.add_words.ensures c.in_ok-pos.was c.depth_in-depth.ensures

pub returns-in_err-pos : goal.returns-in_err-pos
returns-in_err-pos c = rw c.from_residual.ensures (gives-over c.entry-to.ensures c.entry.ensures c.add_words.ensures c.in_err-pos.was)
