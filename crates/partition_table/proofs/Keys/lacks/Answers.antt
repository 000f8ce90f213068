use Rattle.std.proofs.Common.{◌≡◌, false, sym, subst, length, Contains}
use Rattle.partition_table.specs.Digests.{is_marked, digest_there}
use Rattle.partition_table.proofs.Marked.{not_there, among_none}
use Rattle.partition_table.proofs.Keys.lacks.Goals as goal

pub returns-then-is_empty : goal.returns-then-is_empty
returns-then-is_empty c told key at there =
    let none : length c.self.inside.set.keys ≡ 0 = c.is_empty.ensures.0 c.if-is_empty.true in
    among_none c.self.inside.set.keys key none (subst (λ keys. Contains keys key) (sym c.self.view_is) there)

pub returns-else-is_empty : goal.returns-else-is_empty
returns-else-is_empty c told key at there =
    let none : is_marked c.self.inside.marks.items (digest_there c.args.places.now c.args.values.now) ≡ false = subst (λ marks. is_marked marks (digest_there c.args.places.now c.args.values.now) ≡ false) c.as_slice.ensures.value (subst (λ n. is_marked c.as_slice.result.now n ≡ false) c.digest_there.ensures (c.is_unmarked.ensures told)) in
    not_there c.self.inside.marks.items c.self.inside.set.keys c.args.places.now c.args.values.now c.self.invariant.1 none key at (subst (λ keys. Contains keys key) (sym c.self.view_is) there)
