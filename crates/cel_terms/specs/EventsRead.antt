-- Whether a query reads an event.
use Rattle.std.specs.Prelude.{Bool, ◌==◌}
use Rattle.std.specs.List.{list_any}
use Rattle.stream_schema.specs.Types.{Declared}
use Rattle.stream_schema.specs.declared.Event.{Event}
use Rattle.cel_terms.specs.declared.Query.{Query}
use Rattle.cel_terms.specs.Answers.{query_types}

-- the query reads the event's type
abbrev pub query_reads : Declared → Query → Event → Bool
query_reads schema q event = list_any (λ ty. ty == event.ty) (query_types schema q.streams)
