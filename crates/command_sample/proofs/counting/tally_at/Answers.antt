-- What was pulled is all that the query has there.
use Rattle.std.proofs.Common.{◌≡◌, ◌∙◌, ◌-◌, ℕ, ap, map, length, refl, ◌%◌, ◌^◌}
use Rattle.std.specs.Prelude.{sum_by}
use Rattle.query_engine.specs.Engine.{rest}
use Rattle.query_engine.specs.Holding.{answer_of}
use Rattle.command_sample.specs.Tallies.{weight_of}
use Rattle.command_sample.proofs.Sums.{length_answers}
use Rattle.command_sample.proofs.counting.tally_at.Goals as goal

pub returns : goal.returns
returns g c events q stands at =
    let members = rest c.args.engine.now c.in_ok-cursor.cursor in
    let end = length events - 1 in
    let same : c.events-end.result - 1 ≡ end = ap (λ (n : ℕ). n - 1) (c.events-end.ensures.length events stands) in (
      length (map answer_of members),
      sum_by (weight_of end) (map answer_of members),
      record { answers = map answer_of members; are = c.in_ok-cursor.ensures.answers events q stands at; counted = refl; added = refl },
      c.pulled.ensures.answers ∙ ap (λ (n : ℕ). n % 2 ^ 64) (length_answers members),
      c.pulled.ensures.total ∙ ap (λ (n : ℕ). sum_by (weight_of n) (map answer_of members) % 2 ^ 64) same,
    )
