-- The query has no answer, or those that its cursor gives.
use Rattle.std.proofs.Common.{refl, ◌∙◌, ap, List, [], ◌∷◌, ◌++◌}
use Rattle.query_engine.specs.Engine.{Open}
use Rattle.core_service.proofs.Left.{leaves_skipped, leaves_opened}
use Rattle.core_service.proofs.answering.PositionAnswers.ask.Goals as goal

pub returns-then-not-may_answer-clause-leaves : goal.returns-then-not-may_answer-clause-leaves
returns-then-not-may_answer-clause-leaves g c =
    leaves_skipped c.args.engine.now c.args.self.now _ c.args.number c.requires.over c.requires.next refl refl c.clear.ensures.items (c.if-not-may_answer.ensures.none refl)

pub returns-clause-leaves : goal.returns-clause-leaves
returns-clause-leaves g c =
    leaves_opened c.args.engine.now c.args.self.now _ c.args.number c.in_ok-cursor.cursor c.query.result.now c.requires.over c.requires.next refl refl
    (c.in_ok-push.ensures.items ∙ ap (λ (l : List Open). l ++ c.in_ok-cursor.cursor ∷ []) c.clear.ensures.items) refl c.query.ensures c.in_ok-cursor.ensures.answers
