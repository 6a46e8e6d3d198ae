use mathlib.Core.Path.{refl}
use Rattle.encoding.specs.declared.Head.TheVariants.{Ref, RefMut, Impl, Dyn, Both, Synonym}
use Rattle.encoding.specs.Heads.{head_after}
use Rattle.encoding.proofs.Heads.{head-unknown}
use Rattle.text_measure.specs.Lengths.{own_length}
use Rattle.text_measure.proofs.Scans.{scanned-node, scanned-stop, scanned-as}
use native.Mathlib.Omega.{arith}
use Rattle.text_measure.proofs.own_after.Goals as goal

pub returns-in-13 : goal.returns-in-13
unfolding head_after
returns-in-13 c =
    let a = c.args in
    scanned-as a.words.now a.pairs.now (rw c.in-13.is) c.own_path.ensures

pub returns-in-14 : goal.returns-in-14
unfolding head_after
returns-in-14 c =
    let a = c.args in
    scanned-as a.words.now a.pairs.now (rw c.in-14.is) c.own_apply.ensures

pub returns-in-15 : goal.returns-in-15
unfolding head_after own_length
returns-in-15 c =
    let a = c.args in
    scanned-node a.words.now a.pairs.now Ref (rw c.in-15.is) c.own_node.ensures refl refl refl (omega arith) (omega arith) (omega arith)

pub returns-in-16 : goal.returns-in-16
unfolding head_after own_length
returns-in-16 c =
    let a = c.args in
    scanned-node a.words.now a.pairs.now RefMut (rw c.in-16.is) c.own_node-in-16.ensures refl refl refl (omega arith) (omega arith) (omega arith)

pub returns-in-17 : goal.returns-in-17
unfolding head_after own_length
returns-in-17 c =
    let a = c.args in
    scanned-node a.words.now a.pairs.now Impl (rw c.in-17.is) c.own_node-in-17.ensures refl refl refl (omega arith) (omega arith) (omega arith)

pub returns-in-18 : goal.returns-in-18
unfolding head_after own_length
returns-in-18 c =
    let a = c.args in
    scanned-node a.words.now a.pairs.now Dyn (rw c.in-18.is) c.own_node-in-18.ensures refl refl refl (omega arith) (omega arith) (omega arith)

pub returns-in-19 : goal.returns-in-19
unfolding head_after
returns-in-19 c =
    let a = c.args in
    scanned-as a.words.now a.pairs.now (rw c.in-19.is) c.own_tuple.ensures

pub returns-in-20 : goal.returns-in-20
unfolding head_after
returns-in-20 c =
    let a = c.args in
    scanned-as a.words.now a.pairs.now (rw c.in-20.is) c.own_function.ensures

pub returns-in-21 : goal.returns-in-21
unfolding head_after own_length
returns-in-21 c =
    let a = c.args in
    scanned-node a.words.now a.pairs.now Both (rw c.in-21.is) c.own_node-in-21.ensures refl refl refl (omega arith) (omega arith) (omega arith)

pub returns-in-22 : goal.returns-in-22
unfolding head_after
returns-in-22 c =
    let a = c.args in
    scanned-as a.words.now a.pairs.now (rw c.in-22.is) c.own_array.ensures

pub returns-in-23 : goal.returns-in-23
unfolding head_after own_length
returns-in-23 c =
    let a = c.args in
    scanned-node a.words.now a.pairs.now Synonym (rw c.in-23.is) c.own_node-in-23.ensures refl refl refl (omega arith) (omega arith) (omega arith)

pub returns-in-24 : goal.returns-in-24
unfolding head_after
returns-in-24 c =
    let a = c.args in
    scanned-as a.words.now a.pairs.now (rw c.in-24.is) c.own_meta.ensures

pub returns-in_default : goal.returns-in_default
returns-in_default c =
    let a = c.args in
    scanned-stop a.words.now a.pairs.now (head-unknown a.bound a.words.now a.w a.at c.requires.0 c.in_default.in_default-own.rest) refl
