use Rattle.std.proofs.Common.{sym, ◌∙◌}
use Rattle.std.proofs.lemmas.Bool.{ltb-true}
use Rattle.query_index.proofs.Listed.{type_put}
use Rattle.query_index.proofs.rows.put_type.Goals as goal

pub returns-then-has_room_for : goal.returns-then-has_room_for
returns-then-has_room_for c = type_put c.args.types.now c.insert.new.self c.args.ty (ltb-true _ _ (sym c.has_room_for.ensures ∙ c.if-has_room_for.true)) c.insert.ensures.members c.insert.ensures.room
