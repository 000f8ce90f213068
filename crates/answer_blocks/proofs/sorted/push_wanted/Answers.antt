-- The line of the only answer.
use Rattle.std.proofs.Common.{◌≡◌, ℕ, List, ◌++◌, reverse, subst}
use Rattle.std.specs.Prelude.{OnOk}
use Rattle.answer_text.specs.Output.{line}
use Rattle.answer_blocks.specs.Wanted.{to_give}
use Rattle.answer_blocks.proofs.Put.{one_put}
use Rattle.answer_blocks.proofs.sorted.push_wanted.Goals as goal

pub returns-then-is_over-clause-put : goal.returns-then-is_over-clause-put
returns-then-is_over-clause-put g c =
    let left = to_give c.args.engine.now c.next.new.self.left c.next.new.self.cursor in
    let put = subst (λ (p : List ℕ). OnOk c.push_line.result (c.push_line.new.text.items ≡ c.args.text.now.items ++ line c.args.query c.args.end (record { start = c.in-Some.start; marks = reverse p }))) c.positions.ensures c.push_line.ensures.line in
    one_put c.args.query c.args.end _ left _ c.args.text.now.items c.push_line.new.text.items c.push_line.result c.in-Some.ensures.answer (c.is_over.ensures c.args.engine.now c.next.ensures.fits c.if-is_over.true) put
