use mathlib.Core.Path.{refl}
use Rattle.encoding.specs.declared.Head.TheVariants.{Ref, RefMut, Impl, Dyn, Both, Synonym}
use Rattle.encoding.specs.Heads.{head_after}
use Rattle.encoding.proofs.Heads.{head-none}
use Rattle.accept_type.proofs.Scans.{scanned-node, scanned-stop, scanned-as}
use native.Mathlib.Omega.{arith}
use Rattle.accept_type.proofs.own_after.Goals as goal

pub own_path-requires : goal.own_path-requires
own_path-requires c = c.requires.2

pub returns-in-12 : goal.returns-in-12
unfolding head_after
returns-in-12 c = scanned-as (rw c.in-12.is) c.own_name.ensures

pub returns-in-13 : goal.returns-in-13
unfolding head_after
returns-in-13 c = scanned-as (rw c.in-13.is) c.own_path.ensures

pub returns-in-14 : goal.returns-in-14
unfolding head_after
returns-in-14 c = scanned-as (rw c.in-14.is) c.own_more.ensures.0

pub returns-in-15 : goal.returns-in-15
unfolding head_after
returns-in-15 c = scanned-node Ref (rw c.in-15.is) refl refl (omega arith) (omega arith)

pub returns-in-16 : goal.returns-in-16
unfolding head_after
returns-in-16 c = scanned-node RefMut (rw c.in-16.is) refl refl (omega arith) (omega arith)

pub returns-in-17 : goal.returns-in-17
unfolding head_after
returns-in-17 c = scanned-node Impl (rw c.in-17.is) refl refl (omega arith) (omega arith)

pub returns-in-18 : goal.returns-in-18
unfolding head_after
returns-in-18 c = scanned-node Dyn (rw c.in-18.is) refl refl (omega arith) (omega arith)

pub returns-in-19 : goal.returns-in-19
unfolding head_after
returns-in-19 c = scanned-as (rw c.in-19.is) c.own_tuple.ensures

pub returns-in-20 : goal.returns-in-20
unfolding head_after
returns-in-20 c = scanned-as (rw c.in-20.is) c.own_more-in-20.ensures.1

pub returns-in-21 : goal.returns-in-21
unfolding head_after
returns-in-21 c = scanned-node Both (rw c.in-21.is) refl refl (omega arith) (omega arith)

pub returns-in-22 : goal.returns-in-22
unfolding head_after
returns-in-22 c = scanned-as (rw c.in-22.is) c.own_one.ensures.0

pub returns-in-23 : goal.returns-in-23
unfolding head_after
returns-in-23 c = scanned-node Synonym (rw c.in-23.is) refl refl (omega arith) (omega arith)

pub returns-in-24 : goal.returns-in-24
unfolding head_after
returns-in-24 c = scanned-as (rw c.in-24.is) c.own_one-in-24.ensures.1

pub returns-in_default : goal.returns-in_default
returns-in_default c =
    let a = c.args in
    scanned-stop (head-none a.bound a.words.now a.w a.at c.requires.0 c.in_default.in_default-own.rest) refl
