use Rattle.text_declaration.proofs.Declarations.{body-struct, body-enum, body-synonym}
use Rattle.text_pass.proofs.Passes.{ready-as, went-as}
use mathlib.Core.Path.{sym}
use native.Mathlib.Omega.{arith}
use Rattle.text_declaration.proofs.lay_body.Goals as goal

pub lay_fields-requires : goal.lay_fields-requires
lay_fields-requires c =
    let a = c.args in
    (c.requires.0, omega (arith, c.requires.1), ready-as (body-struct a.words.now a.pairs.now a.text.now a.level a.at c.in-25.is) c.requires.2)

pub lay_enum_body-requires : goal.lay_enum_body-requires
lay_enum_body-requires c =
    let a = c.args in
    (c.requires.0, c.requires.1, ready-as (body-enum a.words.now a.pairs.now a.text.now a.level a.at c.in-26.is) c.requires.2)

pub lay_synonym_body-requires : goal.lay_synonym_body-requires
lay_synonym_body-requires c =
    let a = c.args in
    (c.requires.0, ready-as (body-synonym a.words.now a.pairs.now a.text.now a.level a.at c.in_default.in_default-own.rest.0.1 c.in_default.in_default-own.rest.1) c.requires.2)

pub returns-in-25 : goal.returns-in-25
returns-in-25 c =
    let a = c.args in
    went-as (sym (body-struct a.words.now a.pairs.now a.text.now a.level a.at c.in-25.is)) c.lay_fields.ensures

pub returns-in-26 : goal.returns-in-26
returns-in-26 c =
    let a = c.args in
    went-as (sym (body-enum a.words.now a.pairs.now a.text.now a.level a.at c.in-26.is)) c.lay_enum_body.ensures

pub returns-in_default : goal.returns-in_default
returns-in_default c =
    let a = c.args in
    went-as (sym (body-synonym a.words.now a.pairs.now a.text.now a.level a.at c.in_default.in_default-own.rest.0.1 c.in_default.in_default-own.rest.1)) c.lay_synonym_body.ensures
