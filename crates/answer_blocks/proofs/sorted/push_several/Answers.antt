-- Where memory runs out no line is put.
use Rattle.std.proofs.lemmas.Result.{err_from_is_err_and}
use Rattle.answer_blocks.proofs.Put.{none_put}
use Rattle.answer_blocks.proofs.sorted.push_several.Goals as goal

pub returns-in_err-push-clause-put : goal.returns-in_err-push-clause-put
returns-in_err-push-clause-put g c =
    let p = err_from_is_err_and c.from_residual.result c.from_residual.ensures.1 in
    none_put c.args.query c.args.end _ c.args.text.now.items _ c.from_residual.result p.0 p.1

pub returns-in_err-pull_all-clause-put : goal.returns-in_err-pull_all-clause-put
returns-in_err-pull_all-clause-put g c =
    let p = err_from_is_err_and c.from_residual-in_err-pull_all.result c.from_residual-in_err-pull_all.ensures.1 in
    none_put c.args.query c.args.end _ c.args.text.now.items _ c.from_residual-in_err-pull_all.result p.0 p.1
