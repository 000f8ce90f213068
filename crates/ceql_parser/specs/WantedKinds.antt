-- Which kinds of an attribute serve.
use Rattle.std.specs.Prelude.{Bool}
use Rattle.stream_schema.specs.declared.Kind.{Kind}
use Rattle.ceql_parser.specs.declared.schema_lookups.KindTest.{KindTest}
use Rattle.ceql_parser.specs.declared.schema_lookups.KindTest.TheVariants as wanted
use Rattle.stream_schema.specs.Comparing.{are_alike}
use Rattle.ceql_parser.specs.TypesAsked.{any_kind, is_whole}

abbrev pub serves : KindTest → Kind → Bool
serves wanted.Any = any_kind
serves (wanted.Like other) = are_alike other
serves wanted.Whole = is_whole
