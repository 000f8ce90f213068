use Rattle.std.proofs.Common.{◌≡◌, ℕ, List, All, length, arith}
use Rattle.std.proofs.lemmas.List.{length-map}
use Rattle.tecs_enumerate.specs.Remaining.{CursorState, Fits}
use Rattle.std.proofs.lemmas.List.Elements.{All-map}
use Rattle.cer_base.specs.declared.node.Root.{Root}
use Rattle.event_update.specs.ActiveLists.{ActiveLists}
use Rattle.union_lists.specs.Lists.{IsUnionList}
use Rattle.arena_compact.proofs.Standing.{all_of_map, keys_lists}
use Rattle.set_tests.proofs.compactions.compact_and_tell.Goals as goal

pub compact-requires-clause-lists : goal.compact-requires-clause-lists
compact-requires-clause-lists g c = All-map (λ (rows : List (ℕ × List Root)). All (λ (r : ℕ × List Root). IsUnionList (g.S.NodeStore.nodes c.args.store.now) r.1) rows) (λ (a : ActiveLists). a.entries) c.args.keys.now c.requires.lists

pub compact-requires-clause-cursors : goal.compact-requires-clause-cursors
compact-requires-clause-cursors g c = All-map (λ (w : CursorState). w.query ≡ 1 → Fits w (g.S.NodeStore.nodes c.args.store.now)) (λ (w : CursorState). w) c.args.cursors.now (λ k d lt mine. (c.requires.cursors k d lt).1)

pub tell-requires-clause-lists : goal.tell-requires-clause-lists
tell-requires-clause-lists g c = all_of_map (λ (rows : List (ℕ × List Root)). All (λ (r : ℕ × List Root). IsUnionList (g.S.NodeStore.nodes c.compact.new.store) r.1) rows) (λ (a : ActiveLists). a.entries) c.compact.new.keys (keys_lists _ _ _ _ c.requires.well_formed _ _ c.compact.ensures.lists)

pub tell-requires-clause-fits : goal.tell-requires-clause-fits
tell-requires-clause-fits g c =
    let count = c.compact.ensures.count in
    let old = c.args.cursors.now in let new = c.compact.new.cursors in
    let n = length-map old (λ (w : CursorState). w) in let m = length-map new (λ (w : CursorState). w) in
    let were = All-map (λ (w : CursorState). (w.query ≡ 1) × Fits w (g.S.NodeStore.nodes c.args.store.now)) (λ (w : CursorState). w) old c.requires.cursors in
    all_of_map (λ (w : CursorState). Fits w (g.S.NodeStore.nodes c.compact.new.store)) (λ (w : CursorState). w) new (λ k d lt. (c.compact.ensures.cursors k d (omega arith)).fits (were k d (omega arith)).0)
