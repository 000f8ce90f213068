use Rattle.std.proofs.Common.{refl, sym, ap, subst, ◌∙◌, ℕ, ◌<◌, ◌||◌, length, map, arith}
use Rattle.cer_base.specs.Bits.{has}
use Rattle.query_leaves.specs.LeafTree.{LeafTree, chain_of, choice_of}
use Rattle.query_leaves.specs.Shapes.{tree_of_shape}
use Rattle.query_leaves.specs.Numbering.{shape_part}
use Rattle.query_leaves.proofs.Shaped.{chain_is, choices_are}
use Rattle.cea_compile.specs.Found.{AreBelow, HasFirst}
use Rattle.cea_compile.specs.Heights.{height}
use Rattle.cea_compile.proofs.Joined.{chain_read, choices_read, part_read, choice_read, first_of_chain, first_with}
use Rattle.cea_compile.proofs.Lower.{repeated_falls, chain_falls, choices_fall, part_falls, choice_falls}
use Rattle.cea_compile.proofs.first.+put_first.Goals as goal

pub put_first-put_first_of_chain-requires : goal.put_first-put_first_of_chain-requires
put_first-put_first_of_chain-requires t c = (
  chain_falls c.args.shape.now c.in-Chain.parts c.deref.result.now t c.decreases c.in-Chain.is c.deref.ensures.value,
  (c.requires.room, chain_read c.args.size c.args.shape.now c.in-Chain.parts c.deref.result.now c.in-Chain.is c.deref.ensures.value c.requires.below),
)

pub put_first-put_first_of_choice-requires : goal.put_first-put_first_of_choice-requires
put_first-put_first_of_choice-requires t c = (
  choices_fall c.args.shape.now c.in-Either.choices c.deref-in-Either.result.now t c.decreases c.in-Either.is c.deref-in-Either.ensures.value,
  (c.requires.room, choices_read c.args.size c.args.shape.now c.in-Either.choices c.deref-in-Either.result.now c.in-Either.is c.deref-in-Either.ensures.value c.requires.below),
)

pub put_first-returns-in-Chain : goal.put_first-returns-in-Chain
put_first-returns-in-Chain t c =
    subst (λ (u : LeafTree ℕ). HasFirst u c.args.set.now c.put_first_of_chain.new.set)
    (ap (λ ps. chain_of (map shape_part ps)) c.deref.ensures.value ∙ sym (ap tree_of_shape c.in-Chain.is ∙ chain_is c.in-Chain.parts))
    c.put_first_of_chain.ensures

pub put_first-returns-in-Either : goal.put_first-returns-in-Either
put_first-returns-in-Either t c =
    subst (λ (u : LeafTree ℕ). HasFirst u c.args.set.now c.put_first_of_choice.new.set)
    (ap (λ ss. choice_of (map tree_of_shape ss)) c.deref-in-Either.ensures.value ∙ sym (ap tree_of_shape c.in-Either.is ∙ choices_are c.in-Either.choices))
    c.put_first_of_choice.ensures

pub put_first_of_chain-put_first-requires : goal.put_first_of_chain-put_first-requires
put_first_of_chain-put_first-requires t c =
    let some : 0 < length c.args.parts.now = omega (arith, c.if-parts-eq0.false) in (
      part_falls c.args.parts.now 0 c.index-parts-0.result t c.decreases c.index-parts-0.is some,
      (c.requires.room, part_read c.args.size c.args.parts.now 0 c.index-parts-0.result c.index-parts-0.is some c.requires.below),
    )

pub put_first_of_chain-returns : goal.put_first_of_chain-returns
put_first_of_chain-returns t c =
    let some : 0 < length c.args.parts.now = omega (arith, c.if-parts-eq0.false) in
    record {
      members = λ k. c.put_first.ensures.members k ∙ ap (λ b. b || has c.args.set.now k) (first_of_chain c.args.parts.now c.index-parts-0.result c.index-parts-0.is some k);
      room = c.put_first.ensures.room;
    }

pub put_first_of_choice-put_first-requires : goal.put_first_of_choice-put_first-requires
put_first_of_choice-put_first-requires t c = (
  choice_falls c.args.choices.now c.loop-choice.choice-index c.choice-item.result t c.decreases c.choice-item.is c.loop-choice-test.true,
  (c.loop-choice.invariant.room ∙ c.requires.room, choice_read c.args.size c.args.choices.now c.loop-choice.choice-index c.choice-item.result c.choice-item.is c.loop-choice-test.true c.requires.below),
)

pub put_first_of_choice-loop-choice-preserved : goal.put_first_of_choice-loop-choice-preserved
put_first_of_choice-loop-choice-preserved t c =
    first_with c.args.choices.now c.loop-choice.choice-index c.choice-item.result c.args.set.now c.loop-choice.set c.put_first.new.set c.loop-choice-test.true c.loop-choice.invariant
    (subst (λ s. HasFirst (tree_of_shape s) c.loop-choice.set c.put_first.new.set) c.choice-item.is c.put_first.ensures)
