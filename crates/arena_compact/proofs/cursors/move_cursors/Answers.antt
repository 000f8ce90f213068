use Rattle.std.proofs.Common.{◌<◌, length, map, get_or, sym, arith}
use Rattle.std.proofs.lemmas.List.{length-map, map-set, get_or-map}
use Rattle.arena_compact.proofs.Readings.{cursors_more}
use Rattle.arena_compact.proofs.cursors.move_cursors.Goals as goal

pub loop-k-preserved : goal.loop-k-preserved
loop-k-preserved g c =
    let f = g.C.HasCursor.walk in let cursor = get_or c.loop-k.cursors c.loop-k.k c.index-cursors-k.result in
    let n = length-map c.args.cursors.now f in let m = length-map c.loop-k.cursors f in let long = c.loop-k.invariant.long in
    let lt : c.loop-k.k < length (map f c.args.cursors.now) = omega arith in
    let at = sym (get_or-map f c.loop-k.cursors c.loop-k.k c.index-cursors-k.result (f cursor) (omega arith)) in
    rw (map-set f c.loop-k.cursors c.loop-k.k c.move_if.new.cursor) (cursors_more _ _ _ _ _ (f cursor) _ c.loop-k.invariant lt at c.move_if.ensures)
