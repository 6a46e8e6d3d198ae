use denote.Enum.Bare.{sameb}
use Rattle.same_type.specs.contracts.Look.{the_type}
use Rattle.same_type.specs.declared.Look.{Look}
use Rattle.same_type.specs.declared.Look.TheVariants.{Same, Apart, Unclear}
use Rattle.same_type.specs.Looks.{told_apart}
use mathlib.Core.Path.{◌≡◌, ◌∙◌, ap, refl}
use Rattle.same_type.proofs.numbers_apart.Goals as goal

tells_apart : (l : Look) → sameb the_type l Apart ≡ told_apart l
unfolding told_apart
tells_apart Same = refl
tells_apart Apart = refl
tells_apart Unclear = refl

pub returns : goal.returns
returns c = c.eq.ensures ∙ tells_apart _ ∙ ap told_apart c.look_at_words.ensures
