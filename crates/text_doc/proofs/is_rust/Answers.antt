use Rattle.rast.proofs.BytesLaws.{and_no}
use Rattle.text_doc.proofs.Runs.{rust-no-s, rust-short, rust-test, rust-yes}
use borrow.Author.Tests.{eq-eqb, ne_eqb}
use lib.ListN.{drop, length-drop}
use lib.Seq.{drop-drop}
use mathlib.Core.Path.{◌∙◌, sym}
use native.Mathlib.Omega.{arith}
use borrow.Author.Rules.{rules}
use Rattle.text_doc.proofs.is_rust.Goals as goal

pub returns-then-doc-at-lt3 : goal.returns-then-doc-at-lt3
returns-then-doc-at-lt3 c =
    let a = c.args in
    sym (rust-short (drop a.at a.doc.now) _ (omega (arith, length-drop a.at a.doc.now, c.if-doc-at-lt3.true)))

pub returns-then-doc-at-ne114 : goal.returns-then-doc-at-ne114
returns-then-doc-at-ne114 c =
    let a = c.args in
    sym (rust-test a.doc.now a.at _ (search rules) ∙ and_no _ (ne_eqb _ _ c.if-doc-at-ne114.true))

pub returns-then-doc-at-ne115 : goal.returns-then-doc-at-ne115
returns-then-doc-at-ne115 c =
    let a = c.args in
    sym (rust-test a.doc.now a.at _ (search rules) ∙ rust-no-s _ _ _ (ne_eqb _ _ c.if-doc-at-ne115.true))

pub returns : goal.returns
returns c =
    let a = c.args in
    let e = rust-yes _ _ _ (eq-eqb _ _ c.if-doc-at-ne114.false) (eq-eqb _ _ c.if-doc-at-ne115.false) in
    c.is_blank.ensures ∙ rw (sym (drop-drop 2 a.at a.doc.now)) (sym (rust-test a.doc.now a.at _ (search rules) ∙ e))
