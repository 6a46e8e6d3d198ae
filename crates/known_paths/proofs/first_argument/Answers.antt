use Rattle.known_paths.proofs.Finding.{argument-class, argument-count, argument-found, argument-other, argument-stop, base-other, base-stop, scanned, unscanned}
use Rattle.encoding.proofs.Inside.{head-lies}
use Rattle.encoding.specs.Tables.{name_count}
use borrow.Enum.Refused.{opened}
use Rattle.std.proofs.Common.{refl}
use Rattle.known_paths.proofs.first_argument.Goals as goal

pub returns-in_default : goal.returns-in_default
returns-in_default c =
    let a = c.args in
    argument-stop a.words.now a.pairs.now a.text.now a.at a.class (unscanned a.words.now a.at c.name_count-bound.ensures c.scan_head.ensures c.in_default.is)

pub returns-in_default-head : goal.returns-in_default-head
returns-in_default-head c =
    let a = c.args in
    argument-other a.words.now a.pairs.now a.text.now a.at a.class (scanned a.words.now a.at c.name_count-bound.ensures c.scan_head.ensures c.in-Ok.is refl) (opened c.in_default-head.in_default-head-own.keys2)

-- below, s is where the type's head was taken apart, and t where its base's was
pub returns-then-n-form_of : goal.returns-then-n-form_of
returns-then-n-form_of c =
    let s = c in
    let a = s.args in
    let h = scanned a.words.now a.at s.name_count-bound.ensures s.scan_head.ensures s.in-Ok.is s.in-Apply.is in
    argument-count a.words.now a.pairs.now a.text.now a.at a.class h c.form_of.ensures.0 c.if-n-form_of.true

pub returns-in_default-scan_head : goal.returns-in_default-scan_head
returns-in_default-scan_head c =
    let s = c in
    let a = s.args in
    let h = scanned a.words.now a.at s.name_count-bound.ensures s.scan_head.ensures s.in-Ok.is s.in-Apply.is in
    base-stop a.words.now a.pairs.now a.text.now a.at a.class h (unscanned a.words.now s.in-Ok.base s.name_count-bound.ensures c.scan_head-2.ensures c.in_default-scan_head.is)

pub returns-in_default-name : goal.returns-in_default-name
returns-in_default-name c =
    let s = c in
    let a = s.args in
    let h = scanned a.words.now a.at s.name_count-bound.ensures s.scan_head.ensures s.in-Ok.is s.in-Apply.is in
    base-other a.words.now a.pairs.now a.text.now a.at a.class h (scanned a.words.now s.in-Ok.base s.name_count-bound.ensures c.scan_head-2.ensures c.in-Ok-scan_head.is refl) (opened c.in_default-name.in_default-name-own.keys2)

pub is_in_class-requires : goal.is_in_class-requires
is_in_class-requires c =
    let t = c in
    let s = t in
    let a = s.args in
    let n = scanned a.words.now s.in-Ok.base s.name_count-bound.ensures t.scan_head-2.ensures t.in-Ok-scan_head.is t.in-FromPath.is in
    ((head-lies (name_count a.pairs.now) a.words.now s.in-Ok.base n).own, s.requires.0)

pub returns-then-is_in_class : goal.returns-then-is_in_class
returns-then-is_in_class c =
    let t = c in
    let s = t in
    let a = s.args in
    let h = scanned a.words.now a.at s.name_count-bound.ensures s.scan_head.ensures s.in-Ok.is s.in-Apply.is in
    let n = scanned a.words.now s.in-Ok.base s.name_count-bound.ensures t.scan_head-2.ensures t.in-Ok-scan_head.is t.in-FromPath.is in
    argument-found a.words.now a.pairs.now a.text.now a.at a.class h n t.form_of.ensures.0 t.if-n-form_of.false c.is_in_class.ensures c.if-is_in_class.true

pub returns : goal.returns
returns c =
    let t = c in
    let s = t in
    let a = s.args in
    let h = scanned a.words.now a.at s.name_count-bound.ensures s.scan_head.ensures s.in-Ok.is s.in-Apply.is in
    let n = scanned a.words.now s.in-Ok.base s.name_count-bound.ensures t.scan_head-2.ensures t.in-Ok-scan_head.is t.in-FromPath.is in
    argument-class a.words.now a.pairs.now a.text.now a.at a.class h n c.is_in_class.ensures c.if-is_in_class.false
