-- The type and the name are those that stand there.
use Rattle.std.proofs.lemmas.Result.{IfOk-weaker}
use Rattle.command_sample.proofs.Formulas.{named_post}
use Rattle.command_sample.proofs.queries.named.Goals as goal

pub returns : goal.returns
returns c = IfOk-weaker c.post.result _ _ (λ f is. named_post _ _ _ _ f c.in_ok-ty.ensures c.in_ok-name.ensures is) c.post.ensures
