use Rattle.std.proofs.Common.{ℕ, slice_get, sym, ap, subst, ◌∙◌}
use Rattle.query_leaves.specs.LeafTree.{LeafTree}
use Rattle.cea_compile.specs.Compiled.{first_set}
use Rattle.query_index.specs.Rows.{rows_of, waits_for, HaveRows, HasAdded}
use Rattle.query_index.proofs.Listed.{watched}
use Rattle.query_index.proofs.rows.add_query.Goals as goal

pub returns-clause-watched : goal.returns-clause-watched
returns-clause-watched c = watched c.args.schema.now c.args.query.now c.args.number c.in_ok-found.found.list (rows_of c.add_leaves.new.rows.items) c.add_leaves.new.leaves.items c.in_ok-found.ensures.list (subst (λ ls. HaveRows c.args.number ls (rows_of c.add_leaves.new.rows.items) c.add_leaves.new.leaves.items) c.into_vec.ensures c.in_ok-add_leaves.ensures.rows)

pub returns-clause-added : goal.returns-clause-added
returns-clause-added c = record {
  list = c.in_ok-found.found.list;
  are = c.in_ok-found.ensures.list;
  types = c.in_ok-types.types;
  first = λ k l at is. c.in_ok-types.ensures k l (ap (λ ls. slice_get ls k) c.as_slice.ensures ∙ at) (sym (c.in_ok-first.ensures k) ∙ (ap (λ (t : LeafTree ℕ). first_set t k) c.in_ok-found.ensures.shape ∙ is));
  added = subst (λ ls. HasAdded (waits_for c.in_ok-types.types c.args.number) c.args.number 0 ls (rows_of c.args.rows.now.items) c.args.leaves.now.items (rows_of c.add_leaves.new.rows.items) c.add_leaves.new.leaves.items) c.into_vec.ensures c.in_ok-add_leaves.ensures.added;
}
