use Rattle.std.proofs.Common.{ap, arith, take}
use Rattle.event_update.specs.ActiveLists.{ActiveLists}
use Rattle.event_update.proofs.Bounds.{short_at}
use Rattle.event_update.proofs.Finding.{list_read, both_ok}
use Rattle.event_update.proofs.FirstRows.{read_staged, distinct_staged, added_staged, entries_staged}
use Rattle.event_update.proofs.Placing.{on_ok}
use Rattle.event_update.proofs.staging.add.Goals as goal

pub insert-requires-clause-can : goal.insert-requires-clause-can
insert-requires-clause-can g c =
    let same = ap (λ (a : ActiveLists). a.entries) c.rows.view_is in
    let read = read_staged c.rows.inside.rows.items c.args.rows.now.entries c.rows.inside.used c.args.k c.index_mut.result.now same c.index_mut.ensures.value c.requires.place in
    c.requires.can c.index_mut.result.now.1 (list_read (take c.rows.inside.used c.rows.inside.rows.items) c.args.rows.now.entries c.args.k c.index_mut.result.now same read c.requires.place)

pub invariant_of-rows : goal.invariant_of-rows
invariant_of-rows g c =
    let same = ap (λ (a : ActiveLists). a.entries) c.rows.view_is in
    distinct_staged c.rows.inside.rows.items c.args.rows.now.entries c.rows.inside.used c.args.k c.index_mut.result.now c.insert.new.self same c.index_mut.ensures.value c.requires.place c.rows.invariant

pub returns-clause-added : goal.returns-clause-added
returns-clause-added g c =
    let same = ap (λ (a : ActiveLists). a.entries) c.rows.view_is in
    both_ok c.insert.result _ _ _ (λ list inserted. added_staged _ _ c.rows.inside.rows.items c.args.rows.now.entries c.rows.inside.used c.args.k c.args.id c.index_mut.result.now c.insert.new.self same c.index_mut.ensures.value c.requires.place list inserted) c.insert.ensures.list c.insert.ensures.inserted

pub returns-clause-within : goal.returns-clause-within
returns-clause-within g c =
    let same = ap (λ (a : ActiveLists). a.entries) c.rows.view_is in
    let read = read_staged c.rows.inside.rows.items c.args.rows.now.entries c.rows.inside.used c.args.k c.index_mut.result.now same c.index_mut.ensures.value c.requires.place in
    let at = list_read (take c.rows.inside.used c.rows.inside.rows.items) c.args.rows.now.entries c.args.k c.index_mut.result.now same read c.requires.place in
    let e = entries_staged c.rows.inside.rows.items c.args.rows.now.entries c.rows.inside.used c.args.k c.index_mut.result.now c.insert.new.self same c.index_mut.ensures.value c.requires.place in
    record {
      places = record { grows = c.insert.ensures.grows; pushes = c.insert.ensures.pushes; counted = on_ok c.insert.result _ _ (λ s. omega (arith, e, s)) c.insert.ensures.counted };
      steps = λ x all. let short = short_at c.args.rows.now.entries c.args.k x c.index_mut.result.now.1 at all in let s = c.insert.ensures.steps in omega arith;
    }
