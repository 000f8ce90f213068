use Rattle.arena_compact.specs.Roots.{kept_rows}
use Rattle.arena_compact.proofs.Kept.{kept_distinct, moved_states}
use Rattle.arena_compact.proofs.rows.move_rows.Goals as goal

pub move_some-kept-requires : goal.move_some-kept-requires
move_some-kept-requires g c = record { can = rw (c.into_rows-rows.ensures.rows) c.requires.can }

pub of-requires : goal.of-requires
of-requires g c =
    let unique = kept_distinct c.args.low c.args.active.entries c.into_rows-rows.ensures.unique in
    let moved = rw (c.into_rows-rows.ensures.rows) at c.move_some-kept.ensures.rows.moved in
    rw (moved_states _ _ (kept_rows c.args.low c.args.active.entries) _ moved) unique
