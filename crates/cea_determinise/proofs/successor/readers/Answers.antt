use Rattle.std.proofs.Common.{ℕ, ◌≡◌, ◌∙◌, ◌&&◌, ap}
use Rattle.std.specs.Option.{option_copied}
use Rattle.cer_base.specs.Bits.{has}
use Rattle.cea_determinise.specs.Runs.{LeafSet, agrees, candidates}
use Rattle.cea_determinise.specs.Cea.{automaton_of_cea, standing, takes_marked}
use Rattle.cea_determinise.proofs.Below.{readers_are}
use Rattle.cea_determinise.proofs.successor.readers.Goals as goal

pub returns : goal.returns
returns c =
    let can : LeafSet = λ k. has c.args.bits.now k && agrees (takes_marked c.args.side) (has c.args.cea.now.marked k) in
    let sets = (standing (option_copied c.args.state_sets)).sets in
    let read : (k : ℕ) → has c.keep_readers.new.leaves k ≡ candidates (automaton_of_cea c.args.cea.now) sets k && can k = λ k. c.keep_readers.ensures.members k ∙ ap (λ b. b && can k) (c.in_ok-leaves.ensures.members k) in
    record { below = readers_are c.args.cea.now sets can c.keep_readers.new.leaves c.requires.well_formed (c.keep_readers.ensures.room ∙ c.in_ok-leaves.ensures.room) read; members = read }
