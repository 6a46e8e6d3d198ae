use native.Mathlib.Omega.{arith}
use mathlib.Core.Path.{refl}
use Rattle.sound_type.proofs.Paths.{path-leaf}
use Rattle.sound_type.proofs.own_names.Goals as goal

pub returns-then-ask-eq0 : goal.returns-then-ask-eq0
returns-then-ask-eq0 c = (rw c.if-ask-eq0.true c.unjudged_names.ensures, c.requires.1)

pub returns-then-i-end : goal.returns-then-i-end
returns-then-i-end c =
    let a = c.args in
    (path-leaf a.words.now a.pairs.now a.text.now a.ask a.path c.requires.3 (c.known_to-i.ensures a.ask) c.if-i-end.true refl, c.requires.1)

pub new_names-requires : goal.new_names-requires
new_names-requires c =
    let s = c in
    (s.requires.0, s.requires.1, c.known_to-i.ensures s.args.ask, s.requires.3, s.requires.4, omega (arith, c.if-ask-eq0.false))
