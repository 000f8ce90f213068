use Rattle.std.proofs.Common.{subst, List, ℕ}
use Rattle.std.specs.Prelude.{IfOk}
use Rattle.ceql_lexer.specs.Whole.{IsCut}
use Rattle.ceql_lexer.proofs.Whole.{cut_is}
use Rattle.ceql_lexer.proofs.cutting.lex.Goals as goal

pub returns-clause-cut : goal.returns-clause-cut
returns-clause-cut c =
    subst (λ (text : List ℕ). IfOk c.cut.result (λ tokens. IsCut text tokens)) c.after_mark-behind.ensures.value
    (cut_is c.after_mark-behind.result.now c.cut.result c.cut.ensures)
