use Rattle.std.proofs.Common.{◌≡◌, map, All}
use Rattle.cel_terms.specs.Checked.{IsChecked}
use Rattle.query_engine.specs.Running.{IsFirst}
use Rattle.query_engine.proofs.query_states.add_query_states.Given as goal

abbrev pub invariant-loop-query : goal.invariant-loop-query
invariant-loop-query l = record {
  next : (goal.iterator-loop-query).can_next l.query-iterator;
  finite : (goal.iterator-loop-query).is_finite l.query-iterator;
  queries : map (λ p. p.query) l.query_states.items ≡ l.yielded;
  first : All (IsFirst l.schema.value) l.query_states.items;
  checked : All (IsChecked l.schema.value) l.query-iterator.rest.items;
}
