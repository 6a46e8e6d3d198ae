use Prim.Native.Nat.{◌+◌}
use mathlib.Core.Path.{◌∙◌}
use Rattle.encoding.specs.Reading.{read_below, read_word}
use Rattle.encoding.specs.Heads.{head_after}
use Rattle.encoding.specs.Scans.{head_of}
use Rattle.encoding.proofs.Heads.{head-worded, head-none}
use Rattle.encoding.proofs.scan_after.Goals as goal

pub returns-in-12 : goal.returns-in-12
unfolding head_after head_of
returns-in-12 c =
    let a = c.args in
    head-worded a.bound a.words.now a.w a.at (read_below a.bound a.words.now a.at) (rw c.in-12.is) c.own_word.ensures c.scan_below.ensures

pub returns-in-13 : goal.returns-in-13
unfolding head_after
returns-in-13 c = c.scan_path_head.ensures ∙ rw c.in-13.is

pub returns-in-14 : goal.returns-in-14
unfolding head_after head_of
returns-in-14 c =
    let a = c.args in
    head-worded a.bound a.words.now a.w a.at (read_word a.words.now a.at) (rw c.in-14.is) c.own_word-in-14.ensures c.scan_word.ensures

pub returns-in-15 : goal.returns-in-15
unfolding head_after
returns-in-15 c = rw c.in-15.is

pub returns-in-16 : goal.returns-in-16
unfolding head_after
returns-in-16 c = rw c.in-16.is

pub returns-in-17 : goal.returns-in-17
unfolding head_after
returns-in-17 c = rw c.in-17.is

pub returns-in-18 : goal.returns-in-18
unfolding head_after
returns-in-18 c = rw c.in-18.is

pub returns-in-19 : goal.returns-in-19
unfolding head_after head_of
returns-in-19 c =
    let a = c.args in
    head-worded a.bound a.words.now a.w a.at (read_word a.words.now a.at) (rw c.in-19.is) c.own_word-in-19.ensures c.scan_word-in-19.ensures

pub returns-in-20 : goal.returns-in-20
unfolding head_after head_of
returns-in-20 c =
    let a = c.args in
    head-worded a.bound a.words.now a.w a.at (read_word a.words.now a.at) (rw c.in-20.is) c.own_word-in-20.ensures c.scan_word-in-20.ensures

pub returns-in-21 : goal.returns-in-21
unfolding head_after
returns-in-21 c = rw c.in-21.is

pub returns-in-22 : goal.returns-in-22
unfolding head_after head_of
returns-in-22 c =
    let a = c.args in
    head-worded a.bound a.words.now a.w a.at (read_below (a.bound + 1) a.words.now a.at) (rw c.in-22.is) c.own_word-in-22.ensures c.scan_below-in-22.ensures

pub returns-in-23 : goal.returns-in-23
unfolding head_after
returns-in-23 c = rw c.in-23.is

pub returns-in-24 : goal.returns-in-24
unfolding head_after head_of
returns-in-24 c =
    let a = c.args in
    head-worded a.bound a.words.now a.w a.at (read_below 4 a.words.now a.at) (rw c.in-24.is) c.own_word-in-24.ensures c.scan_below-in-24.ensures

pub returns-in_default : goal.returns-in_default
returns-in_default c =
    let a = c.args in
    rw (head-none a.bound a.words.now a.w a.at c.requires.0 c.in_default.in_default-own.rest)
