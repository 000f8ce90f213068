use Rattle.std.proofs.Common.{arith}
use Rattle.arena_compact.proofs.Kept.{as_many_entries}
use Rattle.arena_compact.proofs.keys.move_key.Goals as goal

pub move_rows-lists-requires : goal.move_rows-lists-requires
move_rows-lists-requires g c = record { can = rw (c.take.ensures) c.requires.can }

pub returns-clause-moved : goal.returns-clause-moved
returns-clause-moved g c = rw (c.put.ensures) (rw (c.take.ensures) at c.move_rows-lists.ensures.rows.moved)

pub returns-clause-steps : goal.returns-clause-steps
returns-clause-steps g c = rw (c.take.ensures) at c.move_rows-lists.ensures.rows.steps

pub returns-clause-counted : goal.returns-clause-counted
returns-clause-counted g c =
    let counted = rw (c.take.ensures) at c.move_rows-lists.ensures.rows.counted in
    let many = as_many_entries _ _ _ _ c.move_rows-lists.ensures.rows.moved in
    rw (c.put.ensures) (omega arith)
