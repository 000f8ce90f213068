use Rattle.std.proofs.Common.{◌≡◌, ◌∙◌, ◌<◌, length, reverse, slice_index_or, [], arith}
use Rattle.std.proofs.lemmas.Grind.{common_steps}
use Rattle.cer_base.specs.Bits.{has}
use Rattle.cea_determinise.specs.Cea.{automaton_of_cea}
use Rattle.match_explain.specs.declared.moves.Last.TheVariants.{Start}
use Rattle.match_explain.specs.Searching.{may_read}
use Rattle.match_explain.proofs.Following.{found_is}
use Rattle.match_explain.proofs.Walked.{as_many_sets, begin_is, no_turns}
use Rattle.match_explain.proofs.walking.can_begin.Goals as goal

pub returns-then-is_empty : goal.returns-then-is_empty
returns-then-is_empty c =
    let a = automaton_of_cea c.args.cea.now in
    let same : length c.args.turns.now ≡ length c.args.finishers.now = as_many_sets a c.args.turns.now c.args.finishers.now c.requires.finishers in
    no_turns a c.args.turns.now (grind (arith, common_steps))

pub returns : goal.returns
returns c =
    let a = automaton_of_cea c.args.cea.now in
    let same : length c.args.turns.now ≡ length c.args.finishers.now = as_many_sets a c.args.turns.now c.args.finishers.now c.requires.finishers in
    let some : 0 < length c.args.turns.now = grind (arith, common_steps) in
    begin_is a c.args.turns.now (reverse c.args.finishers.now) c.is_some.result c.requires.finishers some
    (c.is_some.ensures ∙ found_is (may_read a Start) (has (slice_index_or (reverse c.args.finishers.now) 0 [])) c.args.cea.now.size c.next_at.result c.next_at.ensures.found c.next_at.ensures.none)
