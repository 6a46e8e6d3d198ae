use Rattle.same_type.proofs.Looks.{may-name, may-size}
use Rattle.encoding.proofs.Names.{same-apart}
use Rattle.encoding.specs.Tables.{name_bytes}
use mathlib.Core.Path.{◌∙◌, sym}
use Rattle.same_type.proofs.may_agree.Goals as goal

pub returns-then-before-eq-ARRAY : goal.returns-then-before-eq-ARRAY
returns-then-before-eq-ARRAY c = may-size _ _ _ _ c.if-before-eq-ARRAY.true

pub returns-then-name_size : goal.returns-then-name_size
returns-then-name_size c =
    let a = c.args in
    may-name _ _ _ _ c.if-before-eq-ARRAY.false
    (sym (same-apart (name_bytes a.pairs.now a.text.now a.x) (name_bytes a.pairs.now a.text.now a.y) (λ e. c.if-name_size.true (c.name_size.ensures ∙ e ∙ sym c.name_size-2.ensures))))

pub returns : goal.returns
returns c = may-name _ _ _ _ c.if-before-eq-ARRAY.false c.same_name.ensures
