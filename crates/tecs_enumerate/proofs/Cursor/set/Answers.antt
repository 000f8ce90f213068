use Rattle.std.proofs.Common.{arith, length, ap, reverse}
use Rattle.std.proofs.lemmas.List.{length-reverse}
use Rattle.tecs_enumerate.specs.declared.descent.Pending.{Pending}
use Rattle.tecs_enumerate.proofs.Entries.{set_ids, set_prefixes, AreNested-same}
use Rattle.tecs_enumerate.proofs.Cursor.set.Goals as goal

pub invariant_of-self : goal.invariant_of-self
invariant_of-self c =
    let inside = rw (← c.self.view_is, length-reverse) at c.requires in
    AreNested-same (length c.self.inside.path.items) (reverse c.self.inside.stack.items) _
    (set_prefixes c.self.inside.stack.items _ c.args.k _ c.index_mut.result.now (omega arith) inside (ap (λ (e : Pending). e.prefix) c.index_mut.ensures.value))
    c.self.invariant

pub returns-clause-ids : goal.returns-clause-ids
returns-clause-ids c =
    let inside = rw (← c.self.view_is, length-reverse) at c.requires in
    rw (← c.self.view_is) (set_ids c.self.inside.stack.items _ c.args.k _ (omega arith) inside)

pub returns-clause-prefixes : goal.returns-clause-prefixes
returns-clause-prefixes c =
    let inside = rw (← c.self.view_is, length-reverse) at c.requires in
    rw (← c.self.view_is) (set_prefixes c.self.inside.stack.items _ c.args.k _ c.index_mut.result.now (omega arith) inside (ap (λ (e : Pending). e.prefix) c.index_mut.ensures.value))
