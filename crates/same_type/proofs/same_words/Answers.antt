use Rattle.same_type.proofs.Looks.{looks-apart, looks-same}
use Rattle.same_type.specs.declared.Due.TheVariants.{Kind}
use Rattle.encoding.specs.Tables.{name_bytes}
use Rattle.buffer.proofs.Laws.{part_length}
use mathlib.Core.Bool.{true}
use mathlib.Core.Path.{◌∙◌, sym}
use Rattle.same_type.proofs.same_words.Goals as goal

pub returns-in-Same : goal.returns-in-Same
returns-in-Same c =
    let a = c.args in let pre = c.requires in
    sym (looks-same (name_bytes a.pairs.now a.text.now) Kind _ _ (part_length a.a.now a.start a.count pre.1 ∙ sym (part_length a.b.now a.from a.count pre.2)) (sym c.look_at_words.ensures ∙ c.in-Same.is))

pub returns-in-Apart : goal.returns-in-Apart
returns-in-Apart c =
    let a = c.args in
    sym (looks-apart a.pairs.now a.text.now Kind true _ _ (sym c.look_at_words.ensures ∙ c.in-Apart.is))
