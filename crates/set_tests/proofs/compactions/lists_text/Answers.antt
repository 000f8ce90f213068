use Rattle.std.proofs.Common.{rules, ◌≡◌, ℕ, List}
use Rattle.cer_base.specs.declared.node.Root.{Root}
use Rattle.union_lists.specs.Lists.{IsUnionList}
use Rattle.arena_compact.proofs.Readings.{row_at, all_read}
use Rattle.set_tests.proofs.compactions.lists_text.Goals as goal

pub begin-requires-clause-roots : goal.begin-requires-clause-roots
begin-requires-clause-roots g c =
    let at = row_at c.args.lists.now.entries c.loop-k.k c.list.result.now c.list.ensures in
    let is = all_read (λ (r : ℕ × List Root). IsUnionList (g.S.NodeStore.nodes c.args.store.now) r.1) c.args.lists.now.entries c.loop-k.k at.row at.inside at.is c.requires.lists in
    let entries : c.as_slice.result.now ≡ c.list.result.now = search rules in
    rw (entries, ← at.list) is.roots
