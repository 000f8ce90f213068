use Rattle.std.proofs.Common.{◌++◌, [], map, get_or, arith, sym, ◌∙◌}
use Rattle.std.proofs.lemmas.Option.{slice_get-get_or}
use Rattle.tecs_enumerate.specs.Remaining.{id_of}
use Rattle.arena_compact.specs.Roots.{key_roots, cursor_roots}
use Rattle.arena_compact.proofs.Keeping.{marks_none}
use Rattle.arena_compact.proofs.Rests.{fits_at}
use Rattle.arena_compact.proofs.keep_all.Goals as goal

pub keep_keys-requires : goal.keep_keys-requires
keep_keys-requires g c = record {
  inside = λ k d lt i r at j e within. let root = (c.requires.can.lists k d lt i r at).roots j e within in let inside = root.inside in let room = c.requires.can.room in omega arith;
  even = c.requires.even;
}

pub keep_cursors-requires : goal.keep_cursors-requires
keep_cursors-requires g c =
    let long = c.keep_keys.ensures.kept.long in let even = c.requires.even in
    record {
      inside = λ k d lt mine j i within.
          let fits = c.requires.can.cursors k d lt mine in
          let here = fits_at _ _ _ _ j _ fits (slice_get-get_or (map id_of (get_or (map g.C.HasCursor.walk c.args.cursors.now) k d).stack) j i within) in
          let inside = here.0 in let same = long.0 in let room = c.requires.can.room in omega arith;
      even = long.1 ∙ even ∙ sym long.0;
    }

pub returns-clause-marks : goal.returns-clause-marks
returns-clause-marks g c =
    let nodes = g.S.NodeStore.nodes c.args.store.now in let keys = map g.K.HasLists.rows c.args.keys.now in
    let long = c.keep_keys.ensures.kept.long.0 in let room = c.requires.can.room in
    c.keep_needed.ensures.marked.marks (key_roots c.args.low keys ++ cursor_roots c.args.query (map g.C.HasCursor.walk c.args.cursors.now))
    (c.keep_cursors.ensures.marks nodes (key_roots c.args.low keys) (omega arith) c.requires.can.cursors
    (c.keep_keys.ensures.kept.marks nodes [] c.requires.can.room (λ k d lt i r at. (c.requires.can.lists k d lt i r at).roots) (marks_none nodes c.args.table.now c.args.lows.now c.requires.blank)))
