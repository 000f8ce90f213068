use Rattle.query_state.proofs.Removed.{none_at, some_at}
use Rattle.query_state.proofs.dropping.is_to_stay.Goals as goal

pub returns-clause-none : goal.returns-clause-none
returns-clause-none c = none_at c.args.lists.now c.args.number c.len.result c.index-lists-number.result c.requires.inside c.index-lists-number.is c.len.ensures.len

pub returns-clause-why : goal.returns-clause-why
returns-clause-why c some none = absurd (some_at c.args.lists.now c.args.number c.len.result c.index-lists-number.result c.requires.inside c.index-lists-number.is c.len.ensures.len some none)
