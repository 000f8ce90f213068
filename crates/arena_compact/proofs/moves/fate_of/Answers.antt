use Rattle.std.proofs.Common.{ℕ, List, Option, arith, sym}
use Rattle.cer_base.specs.declared.node.Node.{Node}
use Rattle.arena_compact.specs.Marks.{IsKept}
use Rattle.arena_compact.specs.Fates.{HasPlace, NotKept, KeptLeft, KeptBottom, KeptOutput, KeptUnion}
use Rattle.arena_compact.proofs.Loop.{place_within, need_small}
use Rattle.arena_compact.proofs.moves.fate_of.Goals as goal

-- a place is a place
has_kept : (nodes : List Node) (table : List (Option ℕ)) (id : ℕ) → HasPlace nodes table id → IsKept table id
has_kept nodes table id h = record { place = h.place; here = h.gives.gives }

pub returns-then-not-is_kept-clause-fate : goal.returns-then-not-is_kept-clause-fate
returns-then-not-is_kept-clause-fate g c = NotKept (c.is_kept.ensures.gone c.if-not-is_kept.true)

pub place_of-under-requires : goal.place_of-under-requires
place_of-under-requires g c = has_kept _ _ _ (c.requires.places _ c.in-Output.ensures.node (c.is_kept.ensures.kept c.if-not-is_kept.false))

pub need_at-need-requires : goal.need_at-need-requires
need_at-need-requires g c = place_within _ _ _ _ (c.requires.places _ c.in-Output.ensures.node (c.is_kept.ensures.kept c.if-not-is_kept.false)) c.place_of-under.ensures

pub overflow_add-need : goal.overflow_add-need
overflow_add-need g c =
    let small = need_small _ _ _ _ _ (c.requires.places _ c.in-Output.ensures.node (c.is_kept.ensures.kept c.if-not-is_kept.false)) c.place_of-under.ensures c.need_at-need.ensures.need in
    let whole = c.need_at-need.ensures.countable in
    record { fits = omega arith }

pub place_of-first-requires : goal.place_of-first-requires
place_of-first-requires g c = has_kept _ _ _ (c.requires.places _ c.in-Union.ensures.node (c.is_kept.ensures.kept c.if-not-is_kept.false)).0

pub returns-then-not-is_recent-clause-fate : goal.returns-then-not-is_recent-clause-fate
returns-then-not-is_recent-clause-fate g c = KeptLeft _ _ _ _ _ _ (c.is_kept.ensures.kept c.if-not-is_kept.false) c.in-Union.ensures.node (sym (rw (c.low_at.ensures) at c.if-not-is_recent.ensures)) c.place_of-first.ensures

pub place_of-second-requires : goal.place_of-second-requires
place_of-second-requires g c = has_kept _ _ _ ((c.requires.places _ c.in-Union.ensures.node (c.is_kept.ensures.kept c.if-not-is_kept.false)).1 (sym (rw (c.low_at.ensures) at c.if-not-is_recent.ensures)))

pub need_at-first_need-requires : goal.need_at-first_need-requires
need_at-first_need-requires g c = place_within _ _ _ _ (c.requires.places _ c.in-Union.ensures.node (c.is_kept.ensures.kept c.if-not-is_kept.false)).0 c.place_of-first.ensures

pub overflow_add-first_need : goal.overflow_add-first_need
overflow_add-first_need g c =
    let small = need_small _ _ _ _ _ (c.requires.places _ c.in-Union.ensures.node (c.is_kept.ensures.kept c.if-not-is_kept.false)).0 c.place_of-first.ensures c.need_at-first_need.ensures.need in
    let whole = c.need_at-first_need.ensures.countable in
    record { fits = omega arith }

pub need_at-second_need-requires : goal.need_at-second_need-requires
need_at-second_need-requires g c = place_within _ _ _ _ ((c.requires.places _ c.in-Union.ensures.node (c.is_kept.ensures.kept c.if-not-is_kept.false)).1 (sym (rw (c.low_at.ensures) at c.if-not-is_recent.ensures))) c.place_of-second.ensures

pub returns-in-Bottom-clause-fate : goal.returns-in-Bottom-clause-fate
returns-in-Bottom-clause-fate g c = KeptBottom _ (c.is_kept.ensures.kept c.if-not-is_kept.false) c.in-Bottom.ensures.node

pub returns-in-Output-clause-fate : goal.returns-in-Output-clause-fate
returns-in-Output-clause-fate g c = KeptOutput _ _ _ _ _ _ (c.is_kept.ensures.kept c.if-not-is_kept.false) c.in-Output.ensures.node c.place_of-under.ensures c.need_at-need.ensures.need

pub returns-else-not-is_recent-clause-fate : goal.returns-else-not-is_recent-clause-fate
returns-else-not-is_recent-clause-fate g c =
    rw (c.max.ensures) (KeptUnion _ _ _ _ _ _ _ _ _ (c.is_kept.ensures.kept c.if-not-is_kept.false) c.in-Union.ensures.node (sym (rw (c.low_at.ensures) at c.if-not-is_recent.ensures)) c.place_of-first.ensures c.place_of-second.ensures c.need_at-first_need.ensures.need c.need_at-second_need.ensures.need)
