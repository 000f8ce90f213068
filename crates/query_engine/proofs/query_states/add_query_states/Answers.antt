use Rattle.std.proofs.Common.{◌∷◌, [], ◌++◌, ◌∙◌, ap, subst, All}
use Rattle.std.proofs.lemmas.List.Elements.{All-head, All-tail}
use Rattle.cel_terms.specs.Checked.{IsChecked}
use Rattle.query_engine.proofs.query_states.add_query_states.Goals as goal

pub add_query_state-requires-clause-checked : goal.add_query_state-requires-clause-checked
add_query_state-requires-clause-checked c = All-head (IsChecked c.args.schema.now.value) c.in-Some.query _ (subst (All (IsChecked c.args.schema.now.value)) c.in-Some.ensures.steps.0 c.loop-query.invariant.checked)

pub loop-query-preserved : goal.loop-query-preserved
loop-query-preserved c = record {
  next = tt;
  finite = tt;
  queries = c.in_ok-add_query_state.ensures.queries ∙ ap (λ qs. qs ++ c.in-Some.query ∷ []) c.loop-query.invariant.queries;
  first = c.in_ok-add_query_state.ensures.first;
  checked = All-tail (IsChecked c.args.schema.now.value) c.in-Some.query _ (subst (All (IsChecked c.args.schema.now.value)) c.in-Some.ensures.steps.0 c.loop-query.invariant.checked);
}
