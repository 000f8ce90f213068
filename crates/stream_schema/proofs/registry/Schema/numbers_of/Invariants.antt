use Rattle.std.proofs.Common.{◌≡◌, ◌<◌, [], drop, length, All}
use Rattle.stream_schema.specs.Declaring.{numbers_from}
use Rattle.stream_schema.proofs.registry.Schema.numbers_of.Given as goal

abbrev pub invariant-loop-name : goal.invariant-loop-name
invariant-loop-name l = record {
  found : numbers_from [] l.self.types l.names ≡ numbers_from l.numbers.keys l.self.types (drop l.name-index l.names);
  declared : All (λ ty. ty < length l.self.types) l.numbers.keys;
}
