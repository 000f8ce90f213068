use Rattle.std.proofs.Common.{subst, length}
use Rattle.query_index.specs.Rows.{Table, rows_of, AreBelow, WaitAlike}
use Rattle.query_index.proofs.Found.{are_found, found_below, found_room, nothing_found}
use Rattle.query_index.proofs.Awake.{found_awake, awake_read, only_listed, marked_awake}
use Rattle.query_index.proofs.leaf_index.LeafIndex.mark.Goals as goal

pub mark_indexed-requires-clause-indexes : goal.mark_indexed-requires-clause-indexes
mark_indexed-requires-clause-indexes c =
    let are = are_found (rows_of c.self.inside.rows.items) c.self.inside.indexes.items c.as_slice.result.now c.self.inside.leaves.items c.as_slice-in-Some-2.result.now c.in-Some.indexes.now c.as_slice-in-Some.result.now c.args.event.now.ty c.self.invariant.1 c.as_slice.ensures.value c.in-Some.ensures c.as_slice-in-Some.ensures.value c.as_slice-in-Some-2.ensures.value in
    are.each

pub mark_indexed-requires-clause-below : goal.mark_indexed-requires-clause-below
mark_indexed-requires-clause-below c =
    let are = are_found (rows_of c.self.inside.rows.items) c.self.inside.indexes.items c.as_slice.result.now c.self.inside.leaves.items c.as_slice-in-Some-2.result.now c.in-Some.indexes.now c.as_slice-in-Some.result.now c.args.event.now.ty c.self.invariant.1 c.as_slice.ensures.value c.in-Some.ensures c.as_slice-in-Some.ensures.value c.as_slice-in-Some-2.ensures.value in
    found_below (rows_of c.self.inside.rows.items) c.self.inside.leaves.items c.as_slice-in-Some-2.result.now c.self.inside.count c.args.event.now.ty (length c.args.into.now) c.args.self.now c.as_slice-in-Some.result.now c.self.view_is c.self.invariant.0 c.as_slice-in-Some-2.ensures.value c.requires.count are

pub mark_indexed-requires-clause-room : goal.mark_indexed-requires-clause-room
mark_indexed-requires-clause-room c =
    let are = are_found (rows_of c.self.inside.rows.items) c.self.inside.indexes.items c.as_slice.result.now c.self.inside.leaves.items c.as_slice-in-Some-2.result.now c.in-Some.indexes.now c.as_slice-in-Some.result.now c.args.event.now.ty c.self.invariant.1 c.as_slice.ensures.value c.in-Some.ensures c.as_slice-in-Some.ensures.value c.as_slice-in-Some-2.ensures.value in
    found_room (rows_of c.self.inside.rows.items) c.self.inside.leaves.items c.as_slice-in-Some-2.result.now c.self.inside.count c.args.self.now c.args.event.now c.args.leaves.now c.as_slice-in-Some.result.now c.self.view_is c.self.invariant.0 c.as_slice-in-Some-2.ensures.value c.requires.rooms are

pub returns-in-Some-clause-marked : goal.returns-in-Some-clause-marked
returns-in-Some-clause-marked c =
    let are = are_found (rows_of c.self.inside.rows.items) c.self.inside.indexes.items c.as_slice.result.now c.self.inside.leaves.items c.as_slice-in-Some-2.result.now c.in-Some.indexes.now c.as_slice-in-Some.result.now c.args.event.now.ty c.self.invariant.1 c.as_slice.ensures.value c.in-Some.ensures c.as_slice-in-Some.ensures.value c.as_slice-in-Some-2.ensures.value in
    let marks = found_awake c.args.open_queries.now (rows_of c.self.inside.rows.items) c.self.inside.leaves.items c.as_slice-in-Some-2.result.now c.self.inside.count c.args.self.now c.args.event.now c.args.into.now c.mark_indexed.new.into c.args.leaves.now c.mark_indexed.new.sets c.as_slice-in-Some.result.now c.self.view_is c.as_slice-in-Some-2.ensures.value are c.mark_indexed.ensures in
    marked_awake c.args.open_queries.now c.args.self.now.rows c.args.self.now.leaves c.args.event.now c.args.into.now c.mark_indexed.new.into c.args.leaves.now c.mark_indexed.new.sets marks

pub returns-in-Some-clause-only : goal.returns-in-Some-clause-only
returns-in-Some-clause-only c =
    let are = are_found (rows_of c.self.inside.rows.items) c.self.inside.indexes.items c.as_slice.result.now c.self.inside.leaves.items c.as_slice-in-Some-2.result.now c.in-Some.indexes.now c.as_slice-in-Some.result.now c.args.event.now.ty c.self.invariant.1 c.as_slice.ensures.value c.in-Some.ensures c.as_slice-in-Some.ensures.value c.as_slice-in-Some-2.ensures.value in
    let marks = found_awake c.args.open_queries.now (rows_of c.self.inside.rows.items) c.self.inside.leaves.items c.as_slice-in-Some-2.result.now c.self.inside.count c.args.self.now c.args.event.now c.args.into.now c.mark_indexed.new.into c.args.leaves.now c.mark_indexed.new.sets c.as_slice-in-Some.result.now c.self.view_is c.as_slice-in-Some-2.ensures.value are c.mark_indexed.ensures in
    only_listed c.args.open_queries.now c.args.self.now.rows c.args.self.now.leaves c.args.event.now c.args.into.now c.mark_indexed.new.into c.args.leaves.now c.mark_indexed.new.sets marks

pub returns-in-Some-clause-read : goal.returns-in-Some-clause-read
returns-in-Some-clause-read c =
    let are = are_found (rows_of c.self.inside.rows.items) c.self.inside.indexes.items c.as_slice.result.now c.self.inside.leaves.items c.as_slice-in-Some-2.result.now c.in-Some.indexes.now c.as_slice-in-Some.result.now c.args.event.now.ty c.self.invariant.1 c.as_slice.ensures.value c.in-Some.ensures c.as_slice-in-Some.ensures.value c.as_slice-in-Some-2.ensures.value in
    let marks = found_awake c.args.open_queries.now (rows_of c.self.inside.rows.items) c.self.inside.leaves.items c.as_slice-in-Some-2.result.now c.self.inside.count c.args.self.now c.args.event.now c.args.into.now c.mark_indexed.new.into c.args.leaves.now c.mark_indexed.new.sets c.as_slice-in-Some.result.now c.self.view_is c.as_slice-in-Some-2.ensures.value are c.mark_indexed.ensures in
    awake_read c.args.open_queries.now c.args.self.now.rows c.args.self.now.leaves c.args.self.now.count c.args.event.now c.args.into.now c.mark_indexed.new.into c.args.leaves.now c.mark_indexed.new.sets (subst (λ (t : Table). AreBelow t.count t.rows t.leaves) c.self.view_is c.self.invariant.0) (subst (λ (t : Table). WaitAlike t.rows t.leaves) c.self.view_is c.self.invariant.2) marks

pub returns-in_default-clause-marked : goal.returns-in_default-clause-marked
returns-in_default-clause-marked c number h is = (nothing_found (rows_of c.self.inside.rows.items) c.self.inside.indexes.items c.as_slice.result.now c.self.inside.leaves.items c.self.inside.count c.args.self.now c.args.event.now c.args.into.now c.args.leaves.now c.self.view_is c.self.invariant.1 c.as_slice.ensures.value c.in_default.ensures).marked number h
