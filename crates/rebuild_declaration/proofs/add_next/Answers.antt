use Rattle.std.specs.Prelude.{Ok}
use mathlib.Core.Path.{ap, ◌∙◌}
use Rattle.rebuild_declaration.proofs.Steps.{never_halts, nothing_left, own-full, own-further, own-laid, type-full, type-further, type-left}
use native.Mathlib.Omega.{arith}
use Rattle.rebuild_declaration.proofs.add_next.Goals as goal

pub overflow_sub-count : goal.overflow_sub-count
overflow_sub-count c = let k = own-laid c.requires c.name_count.ensures c.next_piece.ensures (c.in-Ok.is ∙ ap Ok c.in-OwnWords.is) in omega (arith, k.further)

pub add_words-requires : goal.add_words-requires
add_words-requires c =
    let s = c.requires in
    let k = own-laid s c.name_count.ensures c.next_piece.ensures (c.in-Ok.is ∙ ap Ok c.in-OwnWords.is) in
    (omega (arith, k.further, k.inside), s.within, s.room)

pub rebuild_type-requires : goal.rebuild_type-requires
rebuild_type-requires c =
    let s = c.requires in
    let k = type-left s c.name_count.ensures c.next_piece.ensures (c.in-Ok.is ∙ ap Ok c.in-TypeDue.is) in
    (s.good, s.ruled, record { value = k.tree; end = k.end; reads = k.first }, s.within, s.room)

pub returns-in-Some : goal.returns-in-Some
returns-in-Some c = own-further c.requires (own-laid c.requires c.name_count.ensures c.next_piece.ensures (c.in-Ok.is ∙ ap Ok c.in-OwnWords.is)) c.add_words.ensures c.in-Some.is

pub returns-in_default-add_words : goal.returns-in_default-add_words
returns-in_default-add_words c = own-full c.requires (own-laid c.requires c.name_count.ensures c.next_piece.ensures (c.in-Ok.is ∙ ap Ok c.in-OwnWords.is)) c.add_words.ensures c.in_default-add_words.is

pub returns-in-Some-rebuild_type : goal.returns-in-Some-rebuild_type
returns-in-Some-rebuild_type c =
    rw c.move_to.ensures (type-further c.requires (type-left c.requires c.name_count.ensures c.next_piece.ensures (c.in-Ok.is ∙ ap Ok c.in-TypeDue.is)) c.rebuild_type.ensures c.in-Some-rebuild_type.is)

pub returns-in_default-rebuild_type : goal.returns-in_default-rebuild_type
returns-in_default-rebuild_type c = type-full c.requires (type-left c.requires c.name_count.ensures c.next_piece.ensures (c.in-Ok.is ∙ ap Ok c.in-TypeDue.is)) c.rebuild_type.ensures c.in_default-rebuild_type.is

pub returns-in-Ended : goal.returns-in-Ended
returns-in-Ended c = nothing_left c.requires c.name_count.ensures c.next_piece.ensures (c.in-Ok.is ∙ ap Ok c.in-Ended.is)

pub returns-in_default : goal.returns-in_default
returns-in_default c = absurd (never_halts c.requires c.name_count.ensures c.next_piece.ensures c.in_default.is)
