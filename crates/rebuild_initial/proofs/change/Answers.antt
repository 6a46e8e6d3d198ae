use Rattle.std.proofs.Common.{sym, refl, ◌∙◌, arith, ltb-false, ltb-true}
use Rattle.rebuild_initial.proofs.Filling.{change-deep, change-front, change-over, changes, element-shallow}
use Rattle.rebuild_initial.proofs.change.Goals as goal

pub overflow_sub-count : goal.overflow_sub-count
overflow_sub-count c =
    let changing = changes c.args.words.now c.args.pairs.now c.args.text.now c.requires.1 c.requires.3 in
    let k = changing in omega (arith, k.own, k.inner)

pub returns-then-room_of-count : goal.returns-then-room_of-count
returns-then-room_of-count c =
    let changing = changes c.args.words.now c.args.pairs.now c.args.text.now c.requires.1 c.requires.3 in
    let s = c in let a = s.args in
    let k = changing in
    change-over a.words.now a.pairs.now a.text.now k a.out.now refl (omega (arith, c.room_of.ensures, c.if-room_of-count.true)) c.clear.ensures

pub is_too_deep-requires : goal.is_too_deep-requires
is_too_deep-requires c =
    let s = c in let a = s.args in element-shallow a.words.now a.pairs.now a.text.now s.requires.1 s.requires.3

pub returns-then-is_too_deep : goal.returns-then-is_too_deep
returns-then-is_too_deep c =
    let changing = changes c.args.words.now c.args.pairs.now c.args.text.now c.requires.1 c.requires.3 in
    let s = c in let a = s.args in
    let k = changing in
    change-deep a.words.now a.pairs.now a.text.now k a.out.now refl (omega (arith, c.room_of.ensures, c.if-room_of-count.false)) (ltb-true 61 _ (sym c.is_too_deep.ensures ∙ c.if-is_too_deep.true)) c.clear-then-is_too_deep.ensures

pub write_array-requires : goal.write_array-requires
write_array-requires c =
    let changing = changes c.args.words.now c.args.pairs.now c.args.text.now c.requires.1 c.requires.3 in
    let s = c in let k = changing in
    (k.own, k.inner, omega arith, omega (arith, c.room_of.ensures, c.if-room_of-count.false))

pub returns : goal.returns
returns c =
    let changing = changes c.args.words.now c.args.pairs.now c.args.text.now c.requires.1 c.requires.3 in
    let s = c in let a = s.args in
    let k = changing in
    change-front a.words.now a.pairs.now a.text.now k a.out.now refl (omega (arith, c.room_of.ensures, c.if-room_of-count.false)) (ltb-false 61 _ (sym c.is_too_deep.ensures ∙ c.if-is_too_deep.false)) s.requires.2 c.write_array.ensures
