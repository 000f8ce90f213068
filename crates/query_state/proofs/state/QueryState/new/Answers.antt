use Rattle.std.proofs.Common.{◌≡◌, sym, subst, ◌∙◌}
use Rattle.stream_schema.specs.Types.{Declared}
use Rattle.cel_terms.specs.Checked.{IsChecked}
use Rattle.query_state.specs.QueryStates.{HaveClocks}
use Rattle.query_state.proofs.Clocks.{have_clocks}
use Rattle.query_state.proofs.state.QueryState.new.Goals as goal

pub joined-requires-clause-clocks : goal.joined-requires-clause-clocks
joined-requires-clause-clocks c =
    let declared = c.deref-declared.result.now in
    let is : c.in_ok-shared.shared.value ≡ declared = c.in_ok-shared.ensures.cases ∙ sym c.deref-declared.ensures in
    subst (λ (s : Declared). HaveClocks s c.args.query c.in_ok-reading.reading.clock.source) (sym is)
    (have_clocks declared c.args.query c.in_ok-reading.reading.clock.source c.well_declared.ensures
    (subst (λ (s : Declared). IsChecked s c.args.query) (sym c.deref-declared.ensures) c.requires.checked) c.in_ok-reading.ensures.clock)
