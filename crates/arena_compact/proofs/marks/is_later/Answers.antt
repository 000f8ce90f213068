use Rattle.std.proofs.Common.{◌≡◌, None, Some, sym, ◌∙◌}
use Rattle.arena_compact.proofs.marks.is_later.Goals as goal

pub returns-then-not-is_kept-clause-later : goal.returns-then-not-is_kept-clause-later
returns-then-not-is_kept-clause-later c = λ same k. let e = sym (c.is_kept.ensures.gone c.if-not-is_kept.true) ∙ k.here in absurd cc
