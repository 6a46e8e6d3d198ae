use native.Mathlib.Omega.{arith}
use mathlib.Core.Path.{refl}
use Rattle.encoding.specs.declared.Head.TheVariants.{Ref, RefMut, Impl, Dyn, Synonym}
use Rattle.encoding.specs.Heads.{head_after}
use Rattle.encoding.proofs.Heads.{head-none}
use Rattle.text_measure.specs.Lengths.{exact}
use Rattle.sound_type.specs.Judging.{words_sound}
use Rattle.sound_type.proofs.Scans.{scanned-node, scanned-both, scanned-wrapper, scanned-stop, scanned-as}
use Rattle.sound_type.proofs.own_after.Goals as goal

pub own_name-requires : goal.own_name-requires
own_name-requires c = (c.requires.3, c.requires.4)

pub own_path-requires : goal.own_path-requires
own_path-requires c = (c.requires.3, c.requires.4, c.requires.2)

pub own_array-requires : goal.own_array-requires
own_array-requires c = (c.requires.1, c.requires.3, c.requires.4)

pub returns-in-12 : goal.returns-in-12
unfolding head_after
returns-in-12 c =
    let a = c.args in
    (scanned-as a.words.now a.pairs.now a.text.now a.ask (rw (c.in-12.is, c.requires.1)) c.own_name.ensures.0, c.own_name.ensures.1)

pub returns-in-13 : goal.returns-in-13
unfolding head_after
returns-in-13 c =
    let a = c.args in
    (scanned-as a.words.now a.pairs.now a.text.now a.ask (rw (c.in-13.is, c.requires.1)) c.own_path.ensures.0, c.own_path.ensures.1)

pub returns-in-14 : goal.returns-in-14
unfolding head_after
returns-in-14 c =
    let a = c.args in
    (scanned-as a.words.now a.pairs.now a.text.now a.ask (rw c.in-14.is) c.own_apply.ensures, c.requires.4)

pub returns-in-15 : goal.returns-in-15
unfolding head_after words_sound
returns-in-15 c =
    let a = c.args in
    (scanned-node a.words.now a.pairs.now a.text.now a.ask Ref {l = 0} (rw c.in-15.is) c.own_node.ensures refl refl refl refl (exact refl) (omega arith), c.requires.4)

pub returns-in-16 : goal.returns-in-16
unfolding head_after words_sound
returns-in-16 c =
    let a = c.args in
    (scanned-node a.words.now a.pairs.now a.text.now a.ask RefMut {l = 0} (rw c.in-16.is) c.own_node-in-16.ensures refl refl refl refl (exact refl) (omega arith), c.requires.4)

pub returns-in-17 : goal.returns-in-17
unfolding head_after words_sound
returns-in-17 c =
    let a = c.args in
    (scanned-node a.words.now a.pairs.now a.text.now a.ask Impl {l = 0} (rw c.in-17.is) c.own_node-in-17.ensures refl refl refl refl (exact refl) (omega arith), c.requires.4)

pub returns-in-18 : goal.returns-in-18
unfolding head_after words_sound
returns-in-18 c =
    let a = c.args in
    (scanned-node a.words.now a.pairs.now a.text.now a.ask Dyn {l = 0} (rw c.in-18.is) c.own_node-in-18.ensures refl refl refl refl (exact refl) (omega arith), c.requires.4)

pub returns-in-19 : goal.returns-in-19
unfolding head_after
returns-in-19 c =
    let a = c.args in
    (scanned-as a.words.now a.pairs.now a.text.now a.ask (rw c.in-19.is) c.own_tuple.ensures, c.requires.4)

pub returns-in-20 : goal.returns-in-20
unfolding head_after
returns-in-20 c =
    let a = c.args in
    (scanned-as a.words.now a.pairs.now a.text.now a.ask (rw c.in-20.is) c.own_function.ensures, c.requires.4)

pub returns-in-21 : goal.returns-in-21
unfolding head_after
returns-in-21 c =
    let a = c.args in
    (scanned-both a.words.now a.pairs.now a.text.now a.ask (rw c.in-21.is) c.own_both.ensures, c.requires.4)

pub returns-in-22 : goal.returns-in-22
unfolding head_after
returns-in-22 c =
    let a = c.args in
    (scanned-as a.words.now a.pairs.now a.text.now a.ask (rw c.in-22.is) c.own_array.ensures.0, c.own_array.ensures.1)

pub returns-in-23 : goal.returns-in-23
unfolding head_after words_sound
returns-in-23 c =
    let a = c.args in
    (scanned-wrapper a.words.now a.pairs.now a.text.now a.ask Synonym {l = 4} (rw c.in-23.is) refl refl refl refl refl (exact refl) refl (omega arith), c.requires.4)

pub returns-in-24 : goal.returns-in-24
unfolding head_after
returns-in-24 c =
    let a = c.args in
    (scanned-as a.words.now a.pairs.now a.text.now a.ask (rw c.in-24.is) c.own_meta.ensures, c.requires.4)

pub returns-in_default : goal.returns-in_default
returns-in_default c =
    let a = c.args in
    (scanned-stop a.words.now a.pairs.now a.text.now a.ask (head-none a.bound a.words.now a.w a.at c.requires.0 c.in_default.in_default-own.rest) refl, c.requires.4)
