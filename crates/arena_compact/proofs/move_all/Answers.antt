use Rattle.std.proofs.Common.{ℕ, ℤ, map, get_or, sym, ◌∙◌, arith}
use Rattle.std.proofs.lemmas.List.{length-map}
use Rattle.arena_compact.specs.Marks.{IsKeptFrom}
use Rattle.arena_compact.specs.Compacted.{least_of}
use Rattle.arena_compact.proofs.Headed.{list_older}
use Rattle.arena_compact.proofs.Ends.{keys_compacted, cursor_compacted}
use Rattle.arena_compact.proofs.Left.{cursor_kept, entries_kept, moved_kept, moved_placed, compacted, all_recent}
use Rattle.arena_compact.proofs.move_all.Goals as goal

pub move_cursors-requires : goal.move_cursors-requires
move_cursors-requires g c = record {
  kept = λ k d lt mine j i within.
      moved_kept _ _ _ _ _ _ _ c.requires.marks c.move_nodes.ensures.moved (cursor_kept (λ (r : ℕ × ℤ). IsKeptFrom c.args.table.now c.args.lows.now r.1 r.0) c.args.low c.args.query (map g.K.HasLists.rows c.args.keys.now) (map g.C.HasCursor.walk c.args.cursors.now) k d lt mine c.requires.marks.rooted j i within).kept;
}

pub move_keys-requires : goal.move_keys-requires
move_keys-requires g c =
    let keys = map g.K.HasLists.rows c.args.keys.now in
    record {
      can = λ k d lt. record {
        older = λ i r at. list_older _ c.requires.can.well_formed (get_or (get_or keys k d) i r).1 (c.requires.can.lists k d lt i r at);
        placed = λ i r at j e within test. moved_placed _ _ _ _ _ _ _ c.requires.marks c.move_nodes.ensures.moved (entries_kept (λ (r' : ℕ × ℤ). IsKeptFrom c.args.table.now c.args.lows.now r'.1 r'.0) c.args.low c.args.query keys (map g.C.HasCursor.walk c.args.cursors.now) c.requires.marks.rooted k d lt i r at j e within test).kept;
      };
    }

pub returns-clause-compacted : goal.returns-clause-compacted
returns-clause-compacted g c =
    let keys = map g.K.HasLists.rows c.args.keys.now in
    let ws = map g.C.HasCursor.walk c.args.cursors.now in
    let n = length-map c.args.cursors.now g.C.HasCursor.walk in
    let count = length-map c.move_cursors.new.cursors g.C.HasCursor.walk ∙ c.move_cursors.ensures.length ∙ sym n in
    let Kept : ℕ × ℤ → Type 0 = λ r. IsKeptFrom c.args.table.now c.args.lows.now r.1 r.0 in
    record {
      nodes = compacted c.args.low c.args.query _ _ _ _ _ keys _ ws _ c.requires.can.well_formed c.requires.marks c.move_nodes.ensures.moved c.move_keys.ensures.moved count (λ k d lt. c.move_cursors.ensures.moved k d (omega arith));
      lists = keys_compacted c.args.lows.now _ _ _ _ c.requires.can.well_formed c.move_nodes.ensures.moved c.args.low (least_of c.args.query c.args.low ws)
          (all_recent c.args.low c.args.query _ _ _ _ _ keys _ ws _ c.requires.can.well_formed c.requires.marks c.move_nodes.ensures.moved c.move_keys.ensures.moved count (λ k d lt. c.move_cursors.ensures.moved k d (omega arith)))
          keys _ c.requires.can.lists (entries_kept Kept c.args.low c.args.query keys ws c.requires.marks.rooted) c.move_keys.ensures.moved;
      count = count;
      cursors = λ k d lt. cursor_compacted c.args.lows.now _ _ _ _ c.requires.can.well_formed c.move_nodes.ensures.moved _ c.requires.marks c.args.query _ _ (λ mine. (λ j i within. (cursor_kept Kept c.args.low c.args.query keys ws k d lt mine c.requires.marks.rooted j i within).upto, c.requires.can.cursors k d lt mine)) (c.move_cursors.ensures.moved k d (omega arith));
    }
