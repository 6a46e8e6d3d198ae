use Rattle.encoding.specs.Types.{type_at}
use Rattle.unwrap.specs.Asked.{Judges}
use Rattle.unwrap.proofs.Expanding.{expands-readable}
use Rattle.text_formal.specs.Receivers.{shared, mutable}
use Rattle.text_formal.proofs.Receivers.{by-mut, by-ref, by-underscore, by_value, expands_to_self, judge-expanded, with-type}
use Rattle.text_formal.proofs.self_form.Goals as goal

pub is_self_type-requires : goal.is_self_type-requires
is_self_type-requires c =
    let a = c.args in
    expands-readable a.words.now a.pairs.now a.text.now a.at _ c.expand.ensures c.requires.1

pub returns-then-is_self_type : goal.returns-then-is_self_type
returns-then-is_self_type c =
    let a = c.args in
    let judged : Judges expands_to_self (type_at a.words.now a.pairs.now a.text.now a.at) c.is_self_type.result = judge-expanded (type_at a.words.now a.pairs.now a.text.now) c.expand.ensures c.is_self_type.ensures in
    let j = judged in
    by_value j c.if-is_self_type.true

pub is_self_borrowed-requires : goal.is_self_borrowed-requires
is_self_borrowed-requires c = (shared, c.requires.1)

pub returns-then-is_self_borrowed : goal.returns-then-is_self_borrowed
returns-then-is_self_borrowed c =
    let a = c.args in
    let judged : Judges expands_to_self (type_at a.words.now a.pairs.now a.text.now a.at) c.is_self_type.result = judge-expanded (type_at a.words.now a.pairs.now a.text.now) c.expand.ensures c.is_self_type.ensures in
    let j = judged in
    by-ref j c.if-is_self_type.false c.is_self_borrowed.ensures c.if-is_self_borrowed.true

pub is_self_borrowed-requires-2 : goal.is_self_borrowed-requires-2
is_self_borrowed-requires-2 c = (mutable, c.requires.1)

pub returns-then-is_self_borrowed-2 : goal.returns-then-is_self_borrowed-2
returns-then-is_self_borrowed-2 c =
    let a = c.args in
    let judged : Judges expands_to_self (type_at a.words.now a.pairs.now a.text.now a.at) c.is_self_type.result = judge-expanded (type_at a.words.now a.pairs.now a.text.now) c.expand.ensures c.is_self_type.ensures in
    let j = judged in
    by-mut j c.if-is_self_type.false c.is_self_borrowed.ensures
    c.if-is_self_borrowed.false c.is_self_borrowed-2.ensures
    c.if-is_self_borrowed-2.true

pub returns-then-is_underscore : goal.returns-then-is_underscore
returns-then-is_underscore c =
    let a = c.args in
    let judged : Judges expands_to_self (type_at a.words.now a.pairs.now a.text.now a.at) c.is_self_type.result = judge-expanded (type_at a.words.now a.pairs.now a.text.now) c.expand.ensures c.is_self_type.ensures in
    let j = judged in
    by-underscore j c.if-is_self_type.false c.is_self_borrowed.ensures
    c.if-is_self_borrowed.false c.is_self_borrowed-2.ensures
    c.if-is_self_borrowed-2.false c.is_underscore.ensures
    c.if-is_underscore.true

pub returns : goal.returns
returns c =
    let a = c.args in
    let judged : Judges expands_to_self (type_at a.words.now a.pairs.now a.text.now a.at) c.is_self_type.result = judge-expanded (type_at a.words.now a.pairs.now a.text.now) c.expand.ensures c.is_self_type.ensures in
    let j = judged in
    with-type j c.if-is_self_type.false c.is_self_borrowed.ensures
    c.if-is_self_borrowed.false c.is_self_borrowed-2.ensures
    c.if-is_self_borrowed-2.false c.is_underscore.ensures
    c.if-is_underscore.false
