use Rattle.std.proofs.Common.{◌≡◌, ◌<◌, ℕ, List, Some, length, get_or, arith, sym, All, []}
use Rattle.std.specs.Prelude.{int_le, true, slice_get}
use Rattle.std.proofs.lemmas.Option.{slice_get_within, get_or_from_slice_get, slice_get-get_or}
use Rattle.cer_base.specs.declared.node.Root.{Root}
use Rattle.arena_compact.specs.Roots.{AreOlder, IsPlaced}
use Rattle.arena_compact.proofs.Readings.{all_read, entries_more}
use Rattle.arena_compact.proofs.Kept.{keeping_more, row_here, recent_more}
use Rattle.arena_compact.proofs.rows.move_each.Goals as goal

pub loop-k-preserved : goal.loop-k-preserved
loop-k-preserved g c =
    let long = c.loop-k.invariant.keeping.long in let paid = c.loop-k.invariant.paid in
    let d : ℕ × List Root = get_or c.loop-k.rows c.loop-k.k (0, []) in
    let lt : c.loop-k.k < length c.args.rows.now = omega arith in
    let at : slice_get c.loop-k.rows c.loop-k.k ≡ Some d = slice_get-get_or c.loop-k.rows c.loop-k.k (0, []) (omega arith) in
    let here = row_here _ _ _ _ _ _ _ d c.loop-k.invariant.keeping at in
    let step = c.move_row-kept.ensures.steps d at in
    let more = entries_more c.args.rows.now c.loop-k.k d lt (sym (get_or_from_slice_get c.args.rows.now c.loop-k.k d d here)) in
    let each = c.move_row-kept.ensures.counted d at in let counted = c.loop-k.invariant.counted in
    let recent = recent_more c.args.low c.args.rows.now c.loop-k.k d here in
    record { keeping = keeping_more _ _ _ _ _ _ _ _ _ c.loop-k.invariant.keeping lt c.move_row-kept.ensures.moved; paid = omega arith; counted = omega arith }

pub move_row-kept-requires-clause-older : goal.move_row-kept-requires-clause-older
move_row-kept-requires-clause-older g c = λ r at.
    let here = row_here _ _ _ _ _ _ _ r c.loop-k.invariant.keeping at in
    all_read (λ (s : ℕ × List Root). AreOlder s.1) c.args.rows.now c.loop-k.k r (slice_get_within c.args.rows.now c.loop-k.k r here) (sym (get_or_from_slice_get c.args.rows.now c.loop-k.k r r here)) c.requires.can.older

pub move_row-kept-requires-clause-placed : goal.move_row-kept-requires-clause-placed
move_row-kept-requires-clause-placed g c = λ r at.
    let here = row_here _ _ _ _ _ _ _ r c.loop-k.invariant.keeping at in
    (all_read (λ (s : ℕ × List Root). All (λ (e : Root). int_le c.args.low e.max.clock ≡ true → IsPlaced (g.S.NodeStore.nodes c.args.store.now) c.args.table.now e.id) s.1) c.args.rows.now c.loop-k.k r (slice_get_within c.args.rows.now c.loop-k.k r here) (sym (get_or_from_slice_get c.args.rows.now c.loop-k.k r r here)) c.requires.can.placed)
