use Rattle.std.proofs.Common.{ap, sym, ◌∙◌, []}
use Rattle.ceql_parser.proofs.NameSetLemmas.{same_self, same_as, same_next}
use Rattle.ceql_parser.proofs.TypeSets.{numbers_self, numbers_as, streams_more, streams_all}
use Rattle.ceql_parser.proofs.query_types.numbers_in.Goals as goal

pub loop-name-init : goal.loop-name-init
loop-name-init c = (
  same_as c.new-seen.result c.new-seen.result [] (same_self c.new-seen.result) c.new-seen.ensures,
  numbers_as c.new-numbers.result.keys c.new-numbers.result.keys [] (numbers_self c.new-numbers.result.keys) c.new-numbers.ensures.empty,
)

pub loop-name-preserved : goal.loop-name-preserved
loop-name-preserved c = (
  same_next (λ n. n.text) c.args.streams.now c.loop-name.name-index c.name-item.result [] c.loop-name.seen c.add_stream.new.seen c.loop-name-test.true c.name-item.is c.loop-name.invariant.0 c.in_ok-add_stream.ensures.names,
  streams_more c.args.schema.now c.args.streams.now c.loop-name.name-index c.name-item.result c.loop-name.seen c.loop-name.numbers.keys c.add_stream.new.numbers.keys c.loop-name-test.true c.name-item.is c.loop-name.invariant.0 c.loop-name.invariant.1 c.in_ok-add_stream.ensures.numbers,
)

pub returns : goal.returns
returns c = streams_all c.args.schema.now c.loop-name.numbers.keys c.args.streams.now c.loop-name.name-index c.loop-name-test.false c.loop-name.invariant.1
