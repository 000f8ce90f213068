use Rattle.std.proofs.Common.{ℕ, arith, refl, bit_or}
use Rattle.std.specs.Prelude.{◌||◌}
use Rattle.cer_base.proofs.WordBits.{kept_room, made_of_both, written_more, written_rest, bit-or}
use Rattle.cer_base.proofs.words.unite.Goals as goal

pub loop-i-preserved : goal.loop-i-preserved
loop-i-preserved c =
    let f : ℕ → ℕ → ℕ = λ a b. bit_or a b in
    record {
      done = written_more f c.args.words.now c.args.other.now c.loop-i.words c.loop-i.i (omega arith) c.loop-i.invariant.done c.loop-i.invariant.rest;
      rest = written_rest c.args.words.now c.loop-i.words c.loop-i.i _ (omega arith) c.loop-i.invariant.rest;
    }

pub returns-clause-members : goal.returns-clause-members
returns-clause-members c =
    made_of_both (λ x y. x || y) c.args.words.now c.args.other.now c.loop-i.words refl
    (λ k i h low. rw (c.loop-i.invariant.done k (omega arith)) (bit-or _ _ i)) c.requires c.loop-i.auto.words

pub returns-clause-room : goal.returns-clause-room
returns-clause-room c = kept_room c.args.words.now c.loop-i.words c.loop-i.auto.words
