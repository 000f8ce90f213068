use Rattle.std.proofs.Common.{refl, sym, ap, subst, ◌∙◌, ℕ, ◌<◌, length, map, take, arith}
use Rattle.std.specs.Prelude.{IfOk}
use Rattle.query_leaves.specs.LeafTree.{LeafTree, sequence, chain_of, choice_of}
use Rattle.query_leaves.specs.declared.ShapePart.{ShapePart}
use Rattle.query_leaves.specs.Shapes.{tree_of_shape}
use Rattle.query_leaves.specs.Numbering.{shape_part}
use Rattle.query_leaves.proofs.Shaped.{chain_is, choices_are}
use Rattle.cea_compile.specs.declared.ends.Ends.{Ends}
use Rattle.cea_compile.specs.Found.{AreBelow}
use Rattle.cea_compile.specs.Ended.{AreEndsOf}
use Rattle.cea_compile.specs.Heights.{height}
use Rattle.cea_compile.proofs.Below.{last_at, last_below}
use Rattle.cea_compile.proofs.Joined.{joined, chosen, next_part, first_part, parts_below, chain_read, choices_read, part_read, choice_read}
use Rattle.cea_compile.proofs.Lower.{repeated_falls, chain_falls, choices_fall, part_falls, choice_falls}
use Rattle.cea_compile.proofs.ends.+ends_of.Goals as goal

pub ends_of-returns-in-Chain : goal.ends_of-returns-in-Chain
ends_of-returns-in-Chain t c =
    subst (λ (u : LeafTree ℕ). IfOk c.ends_of_chain.result (λ e. AreEndsOf c.args.size u c.args.followers.now c.ends_of_chain.new.followers e))
    (ap (λ ps. chain_of (map shape_part ps)) c.deref.ensures.value ∙ sym (ap tree_of_shape c.in-Chain.is ∙ chain_is c.in-Chain.parts))
    c.ends_of_chain.ensures

pub ends_of-returns-in-Either : goal.ends_of-returns-in-Either
ends_of-returns-in-Either t c =
    subst (λ (u : LeafTree ℕ). IfOk c.ends_of_choice.result (λ e. AreEndsOf c.args.size u c.args.followers.now c.ends_of_choice.new.followers e))
    (ap (λ ss. choice_of (map tree_of_shape ss)) c.deref-in-Either.ensures.value ∙ sym (ap tree_of_shape c.in-Either.is ∙ choices_are c.in-Either.choices))
    c.ends_of_choice.ensures

pub ends_of-ends_of_chain-requires : goal.ends_of-ends_of_chain-requires
ends_of-ends_of_chain-requires t c = (
  chain_falls c.args.shape.now c.in-Chain.parts c.deref.result.now t c.decreases c.in-Chain.is c.deref.ensures.value,
  (c.requires.room, chain_read c.args.size c.args.shape.now c.in-Chain.parts c.deref.result.now c.in-Chain.is c.deref.ensures.value c.requires.below),
)

pub ends_of-ends_of_choice-requires : goal.ends_of-ends_of_choice-requires
ends_of-ends_of_choice-requires t c = (
  choices_fall c.args.shape.now c.in-Either.choices c.deref-in-Either.result.now t c.decreases c.in-Either.is c.deref-in-Either.ensures.value,
  (c.requires.room, choices_read c.args.size c.args.shape.now c.in-Either.choices c.deref-in-Either.result.now c.in-Either.is c.deref-in-Either.ensures.value c.requires.below),
)

pub ends_of-ends_of-requires : goal.ends_of-ends_of-requires
ends_of-ends_of-requires t c = (
  repeated_falls c.args.shape.now c.deref-in-Plus.result.now c.in-Plus.part.value t c.decreases (ap height c.in-Plus.is) c.deref-in-Plus.ensures,
  (c.requires.room, subst (λ s. AreBelow c.args.size (tree_of_shape s)) (sym c.deref-in-Plus.ensures) (rw c.in-Plus.is at c.requires.below)),
)

pub ends_of-link-requires-clause-below : goal.ends_of-link-requires-clause-below
ends_of-link-requires-clause-below t c = λ j e. last_at c.args.size c.in-Plus.part.value c.deref-in-Plus.result.now c.deref-in-Plus.ensures (rw c.in-Plus.is at c.requires.below) j (sym (c.in_ok-ends-in-Plus.ensures.last j) ∙ e)

pub ends_of_chain-ends_of-requires : goal.ends_of_chain-ends_of-requires
ends_of_chain-ends_of-requires t c =
    let some : 0 < length c.args.parts.now = omega (arith, c.if-parts-eq0.false) in (
      part_falls c.args.parts.now 0 c.index-parts-0.result t c.decreases c.index-parts-0.is some,
      (c.requires.room, part_read c.args.size c.args.parts.now 0 c.index-parts-0.result c.index-parts-0.is some c.requires.below),
    )

pub ends_of_chain-loop-k-init : goal.ends_of_chain-loop-k-init
ends_of_chain-loop-k-init t c =
    subst (λ (u : LeafTree ℕ). AreEndsOf c.args.size u c.args.followers.now c.ends_of.new.followers c.in_ok-ends.ends)
    (ap (λ (p : ShapePart). (shape_part p).1) c.index-parts-0.is ∙ sym (first_part c.args.parts.now c.index-parts-0.result (omega (arith, c.if-parts-eq0.false))))
    c.in_ok-ends.ensures

pub ends_of_chain-ends_of-requires-in-loop-k : goal.ends_of_chain-ends_of-requires-in-loop-k
ends_of_chain-ends_of-requires-in-loop-k t c = (
  part_falls c.args.parts.now c.loop-k.k c.index-parts-k.result t c.decreases c.index-parts-k.is c.loop-k-test.true,
  (c.loop-k.invariant.room, part_read c.args.size c.args.parts.now c.loop-k.k c.index-parts-k.result c.index-parts-k.is c.loop-k-test.true c.requires.below),
)

pub ends_of_chain-link-requires-clause-below : goal.ends_of_chain-link-requires-clause-below
ends_of_chain-link-requires-clause-below t c =
    λ j e. last_below c.args.size (chain_of (map shape_part (take c.loop-k.k c.args.parts.now))) (parts_below c.args.size c.args.parts.now c.loop-k.k c.requires.below) j (sym (c.loop-k.invariant.last j) ∙ e)

pub ends_of_chain-loop-k-preserved : goal.ends_of_chain-loop-k-preserved
ends_of_chain-loop-k-preserved t c =
    let parts = c.args.parts.now in
    let k = c.loop-k.k in
    let next = c.index-parts-k.result in
    let before = chain_of (map shape_part (take k parts)) in
    let ends : Ends = record { first = c.loop-k.ends.first; last = c.in_ok-after.after.last } in
    subst (λ (u : LeafTree ℕ). AreEndsOf c.args.size u c.args.followers.now c.link.new.self ends)
    (ap (λ (p : ShapePart). sequence (shape_part p).0 before (shape_part p).1) c.index-parts-k.is ∙ sym (next_part parts k next (omega (arith, c.loop-k.auto.k)) c.loop-k-test.true))
    (joined c.args.size (shape_part next).0 before (shape_part next).1 c.args.followers.now c.loop-k.followers c.ends_of-in-loop-k.new.followers c.link.new.self c.loop-k.ends c.in_ok-after.after ends c.loop-k.invariant c.in_ok-after.ensures c.link.ensures.room c.link.ensures.pairs refl refl)

pub ends_of_choice-ends_of-requires : goal.ends_of_choice-ends_of-requires
ends_of_choice-ends_of-requires t c = (
  choice_falls c.args.choices.now c.loop-choice.choice-index c.choice-item.result t c.decreases c.choice-item.is c.loop-choice-test.true,
  (c.loop-choice.invariant.room, choice_read c.args.size c.args.choices.now c.loop-choice.choice-index c.choice-item.result c.choice-item.is c.loop-choice-test.true c.requires.below),
)

pub ends_of_choice-loop-choice-preserved : goal.ends_of_choice-loop-choice-preserved
ends_of_choice-loop-choice-preserved t c =
    let next = c.choice-item.result in
    chosen c.args.size c.args.choices.now c.loop-choice.choice-index next c.args.followers.now c.loop-choice.followers c.ends_of.new.followers c.loop-choice.ends c.in_ok-others.others (record { first = c.unite.new.self; last = c.unite-in-loop-choice.new.self }) c.loop-choice-test.true c.loop-choice.invariant
    (subst (λ s. AreEndsOf c.args.size (tree_of_shape s) c.loop-choice.followers c.ends_of.new.followers c.in_ok-others.others) c.choice-item.is c.in_ok-others.ensures)
    c.unite.ensures.room c.unite-in-loop-choice.ensures.room c.unite.ensures.members c.unite-in-loop-choice.ensures.members
