use Rattle.rebuild_type.proofs.Growing.{word-laid, word_over}
use native.Mathlib.Omega.{arith}
use Rattle.rebuild_type.proofs.add_plain.Goals as goal

pub returns-then-limit-pos : goal.returns-then-limit-pos
returns-then-limit-pos c = let s = c in let a = s.args in word_over a.out.now a.word a.pos a.at c.if-limit-pos.true

pub returns : goal.returns
returns c = let s = c in let a = s.args in word-laid a.out.now a.word a.pos a.at (omega (arith, c.if-limit-pos.false)) s.requires.2
