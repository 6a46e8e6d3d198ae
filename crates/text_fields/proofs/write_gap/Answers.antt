use mathlib.Core.Path.{sym}
use Rattle.rast.specs.Bytes.{ascii}
use Rattle.rast.specs.DeclarationToString.{separator_text}
use Rattle.buffer.proofs.Laws.{wrote_as}
use Rattle.text_fields.specs.declared.Entry.{Entry}
use Rattle.text_fields.specs.Texts.{entry_gap}
use Rattle.text_fields.proofs.Fields.{lined-gap, room_of, wrote_of}
use Rattle.text_fields.proofs.write_gap.Goals as goal

pub write_comma_line-requires : goal.write_comma_line-requires
write_comma_line-requires c = (c.requires.0, rw (lined-gap c.args.level c.in-Named.is) at c.requires.1)

pub put-requires : goal.put-requires
unfolding entry_gap separator_text ascii
put-requires c =
    let a = c.args in
    room_of (λ (e : Entry). entry_gap e a.level) a.pos a.out.now c.in-Inline.is c.requires.1

pub returns-in-Inline : goal.returns-in-Inline
unfolding entry_gap separator_text ascii
returns-in-Inline c = wrote_of (λ (e : Entry). entry_gap e c.args.level) c.in-Inline.is c.put.ensures

pub returns-in-Named : goal.returns-in-Named
returns-in-Named c = wrote_as (sym (lined-gap c.args.level c.in-Named.is)) c.write_comma_line.ensures
