use Rattle.std.proofs.Common.{◌≡◌, ◌∷◌, [], sym, subst, All}
use Rattle.std.proofs.lemmas.List.Elements.{All-append, All-cons, All-nil, All-weaker}
use Rattle.all_or_none.specs.Phases.{Phase}
use Rattle.query_engine.specs.Running.{IsFirst}
use Rattle.query_engine.proofs.query_states.add_query_state.Goals as goal

pub returns-clause-first : goal.returns-clause-first
returns-clause-first c =
    let e = c.in_ok-query_state.ensures in
    let p = c.in_ok-query_state.query_state in
    let own : IsFirst c.args.schema.now.value p = record { schema_is = e.given.0; idle = e.idle; upto = e.upto; none = e.none; stands = e.stands } in
    subst (All (IsFirst c.args.schema.now.value)) (sym c.in_ok-push.ensures.items) (All-append (IsFirst c.args.schema.now.value) c.args.query_states.now.items (p ∷ []) c.requires.first (All-cons (IsFirst c.args.schema.now.value) p [] own (All-nil (IsFirst c.args.schema.now.value))))

pub new-requires-clause-others : goal.new-requires-clause-others
new-requires-clause-others c = subst (All (λ (p : Phase). p.schema ≡ c.args.schema.now.value)) (sym c.as_slice.ensures.value) (All-weaker (IsFirst c.args.schema.now.value) (λ (p : Phase). p.schema ≡ c.args.schema.now.value) (λ p first. first.schema_is) c.args.query_states.now.items c.requires.first)
