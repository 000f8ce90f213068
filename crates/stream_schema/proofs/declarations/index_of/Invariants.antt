use Rattle.std.proofs.Common.{◌≡◌, map, take}
use Rattle.cer_base.specs.Repeats.{HasNoRepeats}
use Rattle.stream_schema.proofs.declarations.index_of.Given as goal

abbrev pub invariant-loop-attr : goal.invariant-loop-attr
invariant-loop-attr l = record {
  names : l.names ≡ map (λ a. a.name) (take l.attr-index l.attrs);
  once : HasNoRepeats l.names;
}
