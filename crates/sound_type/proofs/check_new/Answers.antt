use native.Mathlib.Omega.{arith}
use Prim.Native.Nat.{◌<◌}
use mathlib.Core.Path.{sym, ◌∙◌}
use borrow.Author.Tests.{eqb-true}
use Rattle.encoding.specs.Tables.{name_count}
use Rattle.sound_type.specs.Judging.{fine, poor, no_name}
use Rattle.sound_type.proofs.Names.{known_more}
use Rattle.sound_type.proofs.check_new.Goals as goal

pub returns-then-is_known : goal.returns-then-is_known
returns-then-is_known c =
    let k = c.requires.1 in
    let e = eqb-true _ _ (sym c.is_known.ensures ∙ c.if-is_known.true) in
    (fine (k.inside _ e) (k.sound _ e), k)

pub returns-then-name_count-name : goal.returns-then-name_count-name
returns-then-name_count-name c = (no_name (omega (arith, c.name_count.ensures, c.if-name_count-name.true)), c.requires.1)

pub returns-then-sound_name : goal.returns-then-sound_name
returns-then-sound_name c =
    let a = c.args in
    let h : a.name < name_count a.pairs.now = omega (arith, c.name_count.ensures, c.if-name_count-name.false) in
    let s = sym c.sound_name.ensures ∙ c.if-sound_name.true in
    (fine h s, known_more a.pairs.now a.text.now c.requires.1 a.name h s)

pub returns : goal.returns
returns c = (poor (sym c.sound_name.ensures ∙ c.if-sound_name.false), c.requires.1)
