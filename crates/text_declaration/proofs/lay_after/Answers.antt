use Rattle.text_declaration.proofs.Declarations.{after-above, after-below, after-fronted, after-use}
use Rattle.text_pass.proofs.Passes.{ready-as, stops-here, went-as}
use mathlib.Core.Path.{sym}
use native.Mathlib.Omega.{arith}
use Rattle.text_declaration.proofs.lay_after.Goals as goal

pub lay_use-requires : goal.lay_use-requires
lay_use-requires c =
    let a = c.args in
    (c.requires.0, ready-as (after-use a.words.now a.pairs.now a.text.now a.level a.at c.in-28.is) c.requires.2)

pub lay_fronted-requires : goal.lay_fronted-requires
lay_fronted-requires c =
    let a = c.args in
    (c.requires.0, c.requires.1, ready-as (after-fronted a.words.now a.pairs.now a.text.now a.level a.at (omega arith) (omega arith)) c.requires.2)

pub returns-in-28 : goal.returns-in-28
returns-in-28 c =
    let a = c.args in
    went-as (sym (after-use a.words.now a.pairs.now a.text.now a.level a.at c.in-28.is)) c.lay_use.ensures

pub returns-in-25-to-27 : goal.returns-in-25-to-27
returns-in-25-to-27 c =
    let a = c.args in
    went-as (sym (after-fronted a.words.now a.pairs.now a.text.now a.level a.at (omega arith) (omega arith))) c.lay_fronted.ensures

pub returns-in_default : goal.returns-in_default
returns-in_default c =
    let a = c.args in
    stops-here (after-below a.words.now a.pairs.now a.text.now a.level a.at (omega arith))

pub returns-in_default-2 : goal.returns-in_default-2
returns-in_default-2 c =
    let a = c.args in
    stops-here (after-above a.words.now a.pairs.now a.text.now a.level a.at (omega arith))
