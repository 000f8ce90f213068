use Rattle.arena_compact.specs.Marks.{Sets, Stays}
use Rattle.arena_compact.proofs.marks.lower.Goals as goal

pub returns-then-is_later : goal.returns-then-is_later
returns-then-is_later c = Sets (c.is_later.ensures.later c.if-is_later.true)

pub returns-else-is_later : goal.returns-else-is_later
returns-else-is_later c = Stays (c.is_later.ensures.kept c.if-is_later.false) (c.is_later.ensures.upto c.if-is_later.false)
