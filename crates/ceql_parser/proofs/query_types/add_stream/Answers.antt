use Rattle.std.proofs.Common.{ap, sym, subst, ◌∙◌, ◌++◌, List, ℕ}
use Rattle.cel_terms.specs.Meaning.{lists_name}
use Rattle.cel_terms.specs.Answers.{types_of_stream}
use Rattle.ceql_parser.specs.QueryTypes.{AddsStream, HaveSameNumbers}
use Rattle.ceql_parser.proofs.TypeSets.{on_ok, adds_first, adds_nothing}
use Rattle.ceql_parser.proofs.query_types.add_stream.Goals.{then-not-has+in_ok-add_numbers, else-not-has}
use Rattle.ceql_parser.proofs.query_types.add_stream.Goals as goal

pub returns-clause-numbers : goal.returns-clause-numbers
returns-clause-numbers c =
    let seen = c.args.seen.now in
    let old = c.args.numbers.now.keys in
    let name = c.args.name.now.text in
    on_ok c.add.result (AddsStream c.args.schema.now seen old c.if-not-has.numbers.keys name) (elim c.if-not-has.branch [
      | then-not-has+in_ok-add_numbers w ↦ adds_first c.args.schema.now seen old c.if-not-has.numbers.keys w.types_in.result.now name
          (ap (lists_name seen) (sym c.as_str.ensures) ∙ sym c.has.ensures ∙ w.if-not-has.true)
          (subst (λ ks. HaveSameNumbers ks (old ++ w.types_in.result.now)) (sym (ap (λ s. s.keys) w.numbers-is)) w.in_ok-add_numbers.ensures)
          (w.types_in.ensures ∙ ap (types_of_stream c.args.schema.now.streams) w.as_str-then-not-has.ensures)
      | else-not-has w ↦ adds_nothing c.args.schema.now seen old c.if-not-has.numbers.keys name
          (ap (lists_name seen) (sym c.as_str.ensures) ∙ sym c.has.ensures ∙ w.if-not-has.false)
          (ap (λ s. s.keys) w.numbers-is)
    ])
