-- For callers: a file has one late run, also where the queries are others that say the same.
use Rattle.std.proofs.Common.{◌≡◌, ℕ, inl, inr, List, [], ◌∷◌, ◌++◌, map}
use Rattle.stream_schema.specs.Types.{Declared}
use Rattle.stream_schema.specs.declared.Event.{Event as StreamEvent}
use Rattle.cel_terms.specs.declared.Query.{Query}
use Rattle.ceql_parser.specs.QueryTrees.{query_tree}
use Rattle.answer_text.specs.declared.Order.{Order}
use Rattle.event_run.specs.Runs.{RunStop}
use Rattle.event_run.proofs.Alike.{none_as, first_as}
use Rattle.command_reorder.specs.Late.{NumberedEvent, LateRequest, LateEvents, feed_for, fed, let_go, TakesOn, RunsLate}
use Rattle.command_reorder.proofs.Takings.{one_takes}

-- queries take what others take that say the same
takes_as : (schema : Declared) (ps qs : List Query) → map query_tree ps ≡ map query_tree qs → (before : List StreamEvent) (list : List NumberedEvent) (end : RunStop) (events : List StreamEvent) (halt : RunStop) →
    TakesOn schema ps before list end events halt → TakesOn schema qs before list end events halt
takes_as schema ps qs same before [] end events halt taken = taken
takes_as schema ps qs same before (e ∷ later) end events halt (inl x) = inl (none_as schema ps qs before e.1 same x.0, takes_as schema ps qs same (before ++ e.1 ∷ []) later end events halt x.1)
takes_as schema ps qs same before (e ∷ later) end events halt (inr x) =
    inr (x.0, record { query = x.1.query; from = x.1.from; now = x.1.now; falls = first_as schema ps qs before e.1 x.1.query x.1.from x.1.now same x.1.falls; stops = x.1.stops })

module _ (order : Order) (schema : Declared) (clock : List ℕ) (late most : ℕ) where
  -- what is asked, of these queries
  abbrev pub asking : List Query → LateRequest
  asking queries = record { order = order; schema = schema; queries = queries; clock = clock; late = late; most_bytes = most }

  -- the queries do not feed
  pub one_late_run_of_trees : (ps qs : List Query) (bytes : List ℕ) (events again : List StreamEvent) (halt other : RunStop) → map query_tree ps ≡ map query_tree qs → RunsLate (asking ps) bytes events halt → RunsLate (asking qs) bytes again other →
      (events ≡ again) × (halt ≡ other)
  one_late_run_of_trees ps qs bytes events again halt other same one two =
      let f : LateEvents = fed (feed_for (asking qs)) bytes in
      one_takes schema qs [] (let_go (feed_for (asking qs)) f.put f.stop) f.stop events again halt other (takes_as schema ps qs same [] (let_go (feed_for (asking ps)) f.put f.stop) f.stop events halt one) two
