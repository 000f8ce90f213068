use Rattle.std.proofs.Common.{ap, sym, subst, ◌∙◌, Option}
use Rattle.ceql_grammar.specs.declared.faults.QueryError.{QueryError}
use Rattle.ceql_parser.specs.FirstFaults.{first_in, FindsFault}
use Rattle.ceql_parser.proofs.FirstFound.{told_at, kept_at}
use Rattle.ceql_parser.specs.FormulaFaults.{filter_fault}
use Rattle.ceql_parser.proofs.RowFaults.{all_filters, any_filters}
use Rattle.ceql_parser.proofs.filter_checks.+filters.Goals as goal

pub check_filters-returns-in-Err : goal.check_filters-returns-in-Err
check_filters-returns-in-Err t c = told_at (filter_fault c.args.types.now c.args.names.now) c.args.filters.now c.loop-filter.filter-index c.filter-item.result c.in-Err.stop c.loop-filter-test.true c.filter-item.is c.loop-filter.invariant c.in-Err.ensures

pub check_filters-loop-filter-preserved : goal.check_filters-loop-filter-preserved
check_filters-loop-filter-preserved t c = kept_at (filter_fault c.args.types.now c.args.names.now) c.args.filters.now c.loop-filter.filter-index c.filter-item.result c.loop-filter-test.true c.filter-item.is c.loop-filter.invariant c.in-Ok.ensures

pub check_filter-returns-in-All : goal.check_filter-returns-in-All
check_filter-returns-in-All t c =
    let types = c.args.types.now in
    subst (λ (o : Option QueryError). FindsFault c.check_filters.result o)
    (ap (first_in (filter_fault types c.args.names.now)) c.deref.ensures.value ∙ sym (all_filters types c.args.names.now c.in-All.filters) ∙ sym (ap (filter_fault types c.args.names.now) c.in-All.is))
    c.check_filters.ensures

pub check_filter-returns-in-Any : goal.check_filter-returns-in-Any
check_filter-returns-in-Any t c =
    let types = c.args.types.now in
    subst (λ (o : Option QueryError). FindsFault c.check_filters-in-Any.result o)
    (ap (first_in (filter_fault types c.args.names.now)) c.deref-in-Any.ensures.value ∙ sym (any_filters types c.args.names.now c.in-Any.filters) ∙ sym (ap (filter_fault types c.args.names.now) c.in-Any.is))
    c.check_filters-in-Any.ensures
