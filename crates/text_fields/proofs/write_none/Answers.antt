use Rattle.text_fields.proofs.Fields.{room_of, wrote_of}
use Rattle.text_fields.specs.Texts.{no_fields}
use Rattle.rast.specs.Bytes.{ascii}
use Rattle.text_fields.proofs.write_none.Goals as goal

pub put-requires : goal.put-requires
unfolding no_fields ascii
put-requires c =
    room_of no_fields c.args.pos c.args.out.now c.if-named.true c.requires

pub returns-then-named : goal.returns-then-named
unfolding no_fields ascii
returns-then-named c = wrote_of no_fields c.if-named.true c.put.ensures

pub put-requires-2 : goal.put-requires-2
unfolding no_fields ascii
put-requires-2 c =
    room_of no_fields c.args.pos c.args.out.now c.if-named.false c.requires

pub returns : goal.returns
unfolding no_fields ascii
returns c = wrote_of no_fields c.if-named.false c.put-2.ensures
