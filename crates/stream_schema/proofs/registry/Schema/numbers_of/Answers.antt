use Rattle.std.proofs.Common.{sym, ◌∙◌, ap, ◌<◌, length, subst, All, drop, ◌+◌}
use Rattle.stream_schema.specs.Names.{type_number}
use Rattle.stream_schema.specs.Declaring.{numbers_from}
use Rattle.stream_schema.proofs.WellDeclared.{all_added}
use Rattle.stream_schema.proofs.Walks.{number_found}
use Rattle.stream_schema.proofs.registry.Schema.numbers_of.Goals as goal

pub loop-name-preserved : goal.loop-name-preserved
loop-name-preserved c =
    let types = c.args.self.now.types in
    record {
      found = c.loop-name.invariant.found
          ∙ number_found c.loop-name.numbers.keys types c.args.names.now c.loop-name.name-index c.name-item.result c.in-Some.number c.loop-name-test.true c.name-item.is (c.in-Some.ensures.place ∙ ap (type_number types) c.as_str.ensures)
          ∙ ap (λ keys. numbers_from keys types (drop (c.loop-name.name-index + 1) c.args.names.now)) (sym c.in_ok-insert-in-Some.ensures.keys);
      declared = subst (All (λ ty. ty < length types)) (sym c.in_ok-insert-in-Some.ensures.keys) (all_added (λ ty. ty < length types) c.loop-name.numbers.keys c.in-Some.number c.loop-name.invariant.declared c.in-Some.ensures.bound _);
    }
