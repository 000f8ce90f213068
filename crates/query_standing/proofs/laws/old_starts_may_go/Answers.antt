use Rattle.query_standing.proofs.Growing.{low_never_falls, holds_later, holds_dropped, later_answers_start_late}
use Rattle.query_standing.proofs.laws.old_starts_may_go.Goals as goal

pub returns-clause-low : goal.returns-clause-low
returns-clause-low c = low_never_falls

pub returns-clause-later : goal.returns-clause-later
returns-clause-later c = holds_later

pub returns-clause-dropped : goal.returns-clause-dropped
returns-clause-dropped c = holds_dropped

pub returns-clause-answers : goal.returns-clause-answers
returns-clause-answers c = later_answers_start_late
