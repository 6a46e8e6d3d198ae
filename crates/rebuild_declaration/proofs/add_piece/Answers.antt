use Rattle.rebuild_declaration.proofs.add_piece.Goals as goal

pub add_fields-requires : goal.add_fields-requires
add_fields-requires c = (c.requires, c.is_field_next.ensures c.if-is_field_next.true)
