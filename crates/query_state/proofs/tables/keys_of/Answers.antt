use Rattle.std.proofs.Common.{◌≡◌, ◌∙◌, sym, ap, subst}
use Rattle.stream_schema.specs.Types.{Declared}
use Rattle.cel_terms.specs.declared.Query.{Query}
use Rattle.all_or_none.specs.Phases.{Phase}
use Rattle.arena_compact.proofs.Readings.{all_read}
use Rattle.query_state.specs.KeyPlaces.{AreKeyPlaces}
use Rattle.query_state.specs.QueryStates.{texts_of}
use Rattle.query_state.proofs.SameNames.{keyed_alike}
use Rattle.query_state.proofs.tables.keys_of.Goals as goal

pub returns-then-same_names : goal.returns-then-same_names
returns-then-same_names c =
    let other = c.index-others-k.result in
    let table = c.in_ok-keys.field-0.value.items in
    let of_schema = all_read (λ (p : Phase). p.schema ≡ c.args.schema.now) c.args.others.now c.loop-k.k other c.loop-k-test.true c.index-others-k.is c.requires in
    let same : texts_of other.query.partition ≡ texts_of c.args.query.now.partition = ap (λ (q : Query). texts_of q.partition) (sym c.query.ensures) ∙ (ap texts_of (sym c.as_slice.ensures) ∙ (c.same_names.ensures c.if-same_names.true ∙ ap texts_of c.as_slice-in-loop-k.ensures)) in
    keyed_alike c.args.schema.now other.query c.args.query.now table same (subst (λ (s : Declared). AreKeyPlaces s other.query table) of_schema c.in_ok-keys.ensures)
