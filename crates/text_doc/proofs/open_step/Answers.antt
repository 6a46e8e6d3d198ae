use Prim.Native.Nat.{◌+◌, ◌<◌}
use Rattle.text_doc.proofs.Runs.{behind-end, behind_more, run-byte}
use Rattle.text_doc.proofs.Splits.{other-splits, rust-splits, splits-as, unnamed-splits}
use lib.ListN.{length}
use mathlib.Core.Path.{◌∙◌, sym}
use native.Mathlib.Omega.{arith}
use Rattle.text_doc.proofs.open_step.Goals as goal

pub returns-then-end-doc : goal.returns-then-end-doc
returns-then-end-doc c =
    let s = c in
    let a = s.args in
    let here : a.at < length a.doc.now = omega arith in
    let quote = run-byte 96 a.doc.now a.at here (omega arith) in
    let e = behind-end a.doc.now (a.at + a.count) _ _ (omega (arith, c.if-end-doc.true)) in
    unnamed-splits a.doc.now a.at here quote a.count s.requires.1 s.requires.0 s.requires.2 e

pub returns-then-is_blank : goal.returns-then-is_blank
returns-then-is_blank c =
    let s = c in
    let a = s.args in
    let here : a.at < length a.doc.now = omega arith in
    let quote = run-byte 96 a.doc.now a.at here (omega arith) in
    let e = behind_more a.doc.now (a.at + a.count) _ _ (omega (arith, c.if-end-doc.false)) ∙ sym c.is_blank.ensures ∙ c.if-is_blank.true in
    unnamed-splits a.doc.now a.at here quote a.count s.requires.1 s.requires.0 s.requires.2 e

pub returns-then-is_rust : goal.returns-then-is_rust
returns-then-is_rust c =
    let s = c in
    let a = s.args in
    let here : a.at < length a.doc.now = omega arith in
    let quote = run-byte 96 a.doc.now a.at here (omega arith) in
    let more = behind_more a.doc.now (a.at + a.count) _ _ (omega (arith, c.if-end-doc.false)) in
    let e = more ∙ sym c.is_blank.ensures ∙ c.if-is_blank.false in
    rust-splits a.doc.now a.at here quote a.count s.requires.1 s.requires.0 s.requires.2 e (sym c.is_rust.ensures ∙ c.if-is_rust.true)

pub returns : goal.returns
returns c =
    let s = c in
    let a = s.args in
    let here : a.at < length a.doc.now = omega arith in
    let quote = run-byte 96 a.doc.now a.at here (omega arith) in
    let more = behind_more a.doc.now (a.at + a.count) _ _ (omega (arith, c.if-end-doc.false)) in
    let e = more ∙ sym c.is_blank.ensures ∙ c.if-is_blank.false in
    splits-as c.copy_step.ensures
    (other-splits a.doc.now a.at here quote a.count s.requires.1 s.requires.0 s.requires.2 e (sym c.is_rust.ensures ∙ c.if-is_rust.false))
