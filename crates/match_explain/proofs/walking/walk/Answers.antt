use Rattle.std.proofs.Common.{◌≡◌, ◌∙◌, ap, length, reverse, arith}
use Rattle.cea_determinise.specs.Cea.{automaton_of_cea}
use Rattle.match_explain.proofs.Walked.{as_many_sets, reads_to, passes_to, all_gone}
use Rattle.match_explain.proofs.walking.walk.Goals as goal
use Rattle.match_explain.proofs.walking.walk.Goals.{in-Some+in_ok-push-in-Some, in-None}

pub next_at-requires-clause-there : goal.next_at-requires-clause-there
next_at-requires-clause-there c =
    let same : length c.args.turns.now ≡ length c.args.finishers.now = as_many_sets (automaton_of_cea c.args.cea.now) c.args.turns.now c.args.finishers.now c.requires.finishers in
    omega (arith, c.loop-i-test.true)

pub loop-i-preserved : goal.loop-i-preserved
loop-i-preserved c =
    let a = automaton_of_cea c.args.cea.now in
    elim c.match-next_at.branch [
      | in-Some+in_ok-push-in-Some w ↦ reads_to a c.args.turns.now c.loop-i.i w.index-turns-i.result c.loop-i.last c.match-next_at.last c.loop-i.steps.items c.match-next_at.steps.items _ (reverse c.args.finishers.now) w.in-Some.leaf c.requires.finishers c.loop-i-test.true c.loop-i.invariant w.in-Some.ensures.found.0 w.in-Some.ensures.found.1 w.in-Some.ensures.found.2 w.last-is (ap (λ v. v.items) w.steps-is ∙ w.in_ok-push-in-Some.ensures.items) w.new.ensures
      | in-None w ↦ passes_to a c.args.turns.now c.loop-i.i c.loop-i.last c.match-next_at.last c.loop-i.steps.items c.match-next_at.steps.items (reverse c.args.finishers.now) c.requires.finishers c.loop-i-test.true c.loop-i.invariant w.in-None.ensures.none (w.last-is ∙ w.passed-last.ensures) (ap (λ v. v.items) w.steps-is)
    ]

pub returns : goal.returns
returns c = all_gone (automaton_of_cea c.args.cea.now) c.args.turns.now c.loop-i.i c.loop-i.last c.loop-i.steps.items c.loop-i-test.false c.loop-i.invariant
