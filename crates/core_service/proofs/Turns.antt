-- Lines that are fed one after another, each pulled until nothing is left.
use Rattle.std.proofs.Common.{◌≡◌, ℕ, ◌+◌, ◌-◌, inl, inr, List, [], ◌∷◌, ◌++◌, length, map, Result, Ok, Err, refl, sym, ◌∙◌, ap, subst, append_assoc, length-append, arith}
use Rattle.std.proofs.lemmas.List.{append-nil}
use Rattle.cer_base.specs.declared.OrMemory.{OrMemory}
use Rattle.cer_base.specs.declared.OrMemory.TheVariants.{Fault, Memory}
use Rattle.stream_schema.specs.Types.{Declared}
use Rattle.stream_schema.specs.declared.Event.{Event}
use Rattle.cel_terms.specs.declared.Query.{Query}
use Rattle.ceql_parser.specs.QueryTexts.{IsAnswerOfText}
use Rattle.ceql_parser.specs.QueryTrees.{query_tree}
use Rattle.query_engine.specs.Engine.{EngineState, StandsFor, SameQueries}
use Rattle.event_run.specs.Runs.{AreEventsOf}
use Rattle.event_run.proofs.ForCallers.{one_empty, one_event}
use Rattle.answer_text.specs.declared.Order.TheVariants.{Walk}
use Rattle.answer_text.specs.OutputRows.{Row, AreRowsAt, AreOutputRows}
use Rattle.output_laws.proofs.RowsGrow.{rows_grow_at_last}
use Rattle.core_service.specs.declared.Fed.{Fed}
use Rattle.core_service.specs.declared.Fed.TheVariants as fed
use Rattle.core_service.specs.declared.Refused.{Refused}
use Rattle.core_service.specs.Answering.{AnswersState, AreLeft, NoneIsLeft, row_of}
use Rattle.core_service.specs.ManyLines.{IsQuiet}
use Rattle.core_service.specs.Services.{ServiceState, IsOpened, IsFed, Gives}
use Rattle.core_service.specs.HeldCalls.{LeavesAnswers}
use Rattle.core_service.specs.Serving.{IsEmptied, unasked, over, one, compacted, beside, after, again, Turn, IsTurn, AreTurns, line_taken, lines_taken, rows_given, HasServed, ServicesGiveAllRows, QuietLinesAreTurns}

-- what is left does not go by the positions that are shown
as_left : (engine : EngineState) (a : AnswersState) (positions : List ℕ) (events : List Event) (rows : List Row) → AreLeft engine (record a { positions = positions }) events rows → AreLeft engine a events rows
as_left engine a positions events rows h = record { later = h.later; later_are = h.later_are; are = h.are }

none_as : (engine : EngineState) (a : AnswersState) (positions : List ℕ) → NoneIsLeft engine a → NoneIsLeft engine (record a { positions = positions })
none_as engine a positions h = record {
  none = λ events rows stands.
      let both = h.none events rows stands in (
        λ left. both.0 (as_left engine a positions events rows left),
        λ empty. let left = both.1 empty in record { later = left.later; later_are = left.later_are; are = left.are },
      );
}

-- The rows that were given until none was left are rows that were left.
record Emptied (old : ServiceState) (given : List Row) (new : ServiceState) : Type 0 where
  same : SameQueries old.engine new.engine
  stands : (events : List Event) → StandsFor old.engine events → StandsFor new.engine events
  lines : new.lines ≡ old.lines
  left : (events : List Event) → StandsFor old.engine events → AreLeft old.engine old.answers events given
  none : NoneIsLeft new.engine new.answers

-- some rows were given, and then others
after_call : (old middle new : ServiceState) (given more rows : List Row) → Gives old middle given → rows ≡ given ++ more → Emptied middle more new → Emptied old rows new
after_call old middle new given more rows call is rest =
    let e = call.engine in
    let there : (events : List Event) → StandsFor old.engine events → StandsFor middle.engine events = λ events stands. subst (λ (x : EngineState). StandsFor x events) (sym e) stands in
    record {
      same = (rest.same.0 ∙ ap (λ (x : EngineState). x.schema) e, rest.same.1 ∙ ap (λ (x : EngineState). x.queries) e);
      stands = λ events stands. rest.stands events (there events stands);
      lines = rest.lines ∙ call.lines;
      left = λ events stands.
          let later = subst (λ (x : EngineState). AreLeft x middle.answers events more) e (rest.left events (there events stands)) in
          subst (AreLeft old.engine old.answers events) (sym is) (call.leaves.left events more stands later);
      none = rest.none;
    }

-- nothing was asked, and none is left
at_rest : (old new : ServiceState) (given : List Row) → given ≡ [] → new ≡ old → NoneIsLeft old.engine old.answers → Emptied old given new
at_rest old new given nothing is none = record {
  same = (ap (λ (s : ServiceState). s.engine.schema) is, ap (λ (s : ServiceState). s.engine.queries) is);
  stands = λ events stands. subst (λ (s : ServiceState). StandsFor s.engine events) (sym is) stands;
  lines = ap (λ (s : ServiceState). s.lines) is;
  left = λ events stands. subst (AreLeft old.engine old.answers events) (sym nothing) ((none.none events [] stands).1 refl);
  none = subst (λ (s : ServiceState). NoneIsLeft s.engine s.answers) (sym is) none;
}

-- a call on held cursors comes first
after_beside : (old middle new : ServiceState) (rows : List Row) → LeavesAnswers old middle → Emptied middle rows new → Emptied old rows new
after_beside old middle new rows call rest =
    let e = call.engine in
    let there : (events : List Event) → StandsFor old.engine events → StandsFor middle.engine events = λ events stands. subst (λ (x : EngineState). StandsFor x events) (sym e) stands in
    record {
      same = (rest.same.0 ∙ ap (λ (x : EngineState). x.schema) e, rest.same.1 ∙ ap (λ (x : EngineState). x.queries) e);
      stands = λ events stands. rest.stands events (there events stands);
      lines = rest.lines ∙ call.lines;
      left = λ events stands.
          let later = subst (λ (x : EngineState). AreLeft x middle.answers events rows) e (rest.left events (there events stands)) in
          as_left old.engine old.answers middle.answers.positions events rows (subst (λ (a : AnswersState). AreLeft old.engine a events rows) call.answers later);
      none = rest.none;
    }

-- or last
before_beside : (old middle new : ServiceState) (rows : List Row) → Emptied old rows middle → LeavesAnswers middle new → Emptied old rows new
before_beside old middle new rows first call =
    let e = call.engine in record {
      same = (ap (λ (x : EngineState). x.schema) e ∙ first.same.0, ap (λ (x : EngineState). x.queries) e ∙ first.same.1);
      stands = λ events stands. subst (λ (x : EngineState). StandsFor x events) (sym e) (first.stands events stands);
      lines = call.lines ∙ first.lines;
      left = first.left;
      none = subst (λ (x : EngineState). NoneIsLeft x new.answers) (sym e) (subst (NoneIsLeft middle.engine) (sym call.answers) (none_as middle.engine middle.answers new.answers.positions first.none));
    }

emptied : {old new : ServiceState} {given : List Row} → IsEmptied old given new → Emptied old given new
emptied {old} {new} {given} (unasked nothing is none) = at_rest old new given nothing is none
emptied {old} {new} {given} (over nothing answered) = after_call old new new [] [] given answered.0 nothing (at_rest new new [] refl refl answered.1)
emptied {old} {new} {given} (one {new = middle} numbers later is answered rest) =
    after_call old middle new (row_of numbers middle.answers.positions ∷ []) later given answered.0 is (emptied rest)
emptied {old} {new} {given} (beside {new = middle} call rest) = after_beside old middle new given call (emptied rest)
emptied {old} {new} {given} (after {new = middle} first call) = before_beside old middle new given (emptied first) call
emptied {old} {new} {given} (again {new = middle} refused answered rest) = after_call old middle new [] given given answered refl (emptied rest)
emptied {old} {new} {given} (compacted {new = middle} made rest) =
    let r = emptied rest in record {
      same = (r.same.0 ∙ made.same.0, r.same.1 ∙ made.same.1);
      stands = λ events stands. r.stands events (made.stands events stands);
      lines = r.lines ∙ made.lines;
      left = λ events stands. (made.left.left events given).0 (r.left events (made.stands events stands));
      none = r.none;
    }

-- What was served up to a turn, after which none is left.
record IsServed (text : List ℕ) (lines : List (List ℕ)) (rows : List Row) (service : ServiceState) : Type 0 where
  served : HasServed text lines rows service
  none : NoneIsLeft service.engine service.answers

served_first : (text : List ℕ) (service : ServiceState) → IsOpened text service → IsServed text [] [] service
served_first text service h = record {
  served = record { accepted = h.accepted; events = []; are_events = refl; stands = h.stands; rows_are = refl; numbered = h.lines };
  none = h.over;
}

-- Of one schema and queries the same was served.
served_as : (text : List ℕ) (lines : List (List ℕ)) (rows : List Row) (old new : ServiceState) (events : List Event) → SameQueries old.engine new.engine →
    IsAnswerOfText text (Ok (old.engine.schema, map query_tree old.engine.queries)) → AreEventsOf old.engine.schema old.engine.queries lines events → AreOutputRows Walk old.engine.schema old.engine.queries events rows →
    StandsFor new.engine events → new.lines ≡ length lines → HasServed text lines rows new
served_as text lines rows old new events same accepted are rows_are stands numbered =
    let P : Declared → List Query → Type 0 = λ s q. IsAnswerOfText text (Ok (s, map query_tree q)) × AreEventsOf s q lines events × AreOutputRows Walk s q events rows in
    let all = subst (λ (q : List Query). P new.engine.schema q) (sym same.1) (subst (λ (s : Declared). P s old.engine.queries) (sym same.0) (accepted, are, rows_are)) in
    record { accepted = all.0; events = events; are_events = all.1; stands = stands; rows_are = all.2; numbered = numbered }

-- Nothing was taken and nothing is left: no row is given.
module _ (text : List ℕ) (lines : List (List ℕ)) (rows given : List Row) (old fed new : ServiceState) (h : IsServed text lines rows old) (e : Emptied fed given new) where
  nothing_given : fed.engine ≡ old.engine → fed.answers ≡ old.answers → given ≡ []
  nothing_given engine answers =
      let there = e.left h.served.events (subst (λ (x : EngineState). StandsFor x h.served.events) (sym engine) h.served.stands) in
      let here = subst (λ (x : EngineState). AreLeft x old.answers h.served.events given) engine (subst (λ a. AreLeft fed.engine a h.served.events given) answers there) in
      (h.none.none h.served.events given h.served.stands).0 here

  -- the same service but for how many lines it took
  still : (more : List (List ℕ)) → fed.engine ≡ old.engine → fed.answers ≡ old.answers → fed.lines ≡ length more → AreEventsOf old.engine.schema old.engine.queries more h.served.events → IsServed text more (rows ++ given) new
  still more engine answers counted are =
      let same : SameQueries old.engine new.engine = (e.same.0 ∙ ap (λ (x : EngineState). x.schema) engine, e.same.1 ∙ ap (λ (x : EngineState). x.queries) engine) in
      let none = nothing_given engine answers in
      let all : rows ≡ rows ++ given = sym (ap (λ (l : List Row). rows ++ l) none ∙ append-nil rows) in
      let stands = e.stands h.served.events (subst (λ (x : EngineState). StandsFor x h.served.events) (sym engine) h.served.stands) in
      record {
        served = served_as text more (rows ++ given) old new h.served.events same h.served.accepted are (subst (AreOutputRows Walk old.engine.schema old.engine.queries h.served.events) all h.served.rows_are) stands (e.lines ∙ counted);
        none = e.none;
      }

-- the service is as it was
unchanged : (text : List ℕ) (lines : List (List ℕ)) (rows given : List Row) (old fed new : ServiceState) → IsServed text lines rows old → fed ≡ old → Emptied fed given new → IsServed text (lines ++ []) (rows ++ given) new
unchanged text lines rows given old fed new h stays e =
    let same : length lines ≡ length (lines ++ []) = sym (ap (λ (l : List (List ℕ)). length l) (append-nil lines)) in
    still text lines rows given old fed new h e (lines ++ []) (ap (λ (s : ServiceState). s.engine) stays) (ap (λ (s : ServiceState). s.answers) stays)
    (ap (λ (s : ServiceState). s.lines) stays ∙ (h.served.numbered ∙ same))
    (subst (λ (l : List (List ℕ)). AreEventsOf old.engine.schema old.engine.queries l h.served.events) (sym (append-nil lines)) h.served.are_events)

-- a line was fed, and then none was left
turn_served : (text : List ℕ) (lines : List (List ℕ)) (rows : List Row) (line : List ℕ) (result : Result Fed (OrMemory Refused)) (given : List Row) (old fed new : ServiceState) →
    IsServed text lines rows old → IsFed line old fed result → Emptied fed given new → IsServed text (lines ++ line_taken line result) (rows ++ given) new
turn_served text lines rows line (Ok fed.Event) given old fed new h f e =
    let event = f.gives.event in
    let events = h.served.events in
    let more = events ++ event ∷ [] in
    let s = old.engine.schema in
    let q = old.engine.queries in
    let stands = f.gives.stands events h.served.stands in
    let left = (f.left more given).0 (e.left more stands) in
    let here = subst (λ (x : List Query). AreRowsAt Walk s 1 x more (length more - 1) given) f.gives.same.1 (subst (λ (x : Declared). AreRowsAt Walk x 1 fed.engine.queries more (length more - 1) given) f.gives.same.0 left) in
    let are = one_event s q [] lines events line event f.gives.read (f.gives.in_time events h.served.stands) h.served.are_events in
    let grown = rows_grow_at_last Walk s q events event rows given h.served.rows_are here in
    let long = length-append lines (line ∷ []) in
    let counted = f.lines in
    let before = h.served.numbered in
    let after = e.lines in
    record {
      served = served_as text (lines ++ line ∷ []) (rows ++ given) old new more (e.same.0 ∙ f.gives.same.0, e.same.1 ∙ f.gives.same.1) h.served.accepted are grown (e.stands more stands) (omega arith);
      none = e.none;
    }
turn_served text lines rows line (Ok fed.Nothing) given old fed new h f e =
    let long = length-append lines (line ∷ []) in
    let before = h.served.numbered in
    let counted : old.lines + 1 ≡ length (lines ++ line ∷ []) = omega arith in
    still text lines rows given old fed new h e (lines ++ line ∷ []) (ap (λ (s : ServiceState). s.engine) f.stays) (ap (λ (s : ServiceState). s.answers) f.stays) (ap (λ (s : ServiceState). s.lines) f.stays ∙ counted)
    (one_empty old.engine.schema old.engine.queries [] lines h.served.events line f.empty h.served.are_events)
turn_served text lines rows line (Err (Fault refused)) given old fed new h f e = unchanged text lines rows given old fed new h f.stays e
turn_served text lines rows line (Err Memory) given old fed new h f e = unchanged text lines rows given old fed new h f e

-- so all turns are served
turns_served : (text : List ℕ) (turns : List Turn) (lines : List (List ℕ)) (rows : List Row) (old last : ServiceState) → IsServed text lines rows old → AreTurns turns old last →
    IsServed text (lines ++ lines_taken turns) (rows ++ rows_given turns) last
turns_served text [] lines rows old last h same =
    subst (IsServed text (lines ++ []) (rows ++ [])) (sym same) (subst (λ (l : List (List ℕ)). IsServed text l (rows ++ []) old) (sym (append-nil lines)) (subst (λ (r : List Row). IsServed text lines r old) (sym (append-nil rows)) h))
turns_served text (turn ∷ turns) lines rows old last h made =
    let middle = made.0 in
    let fed = made.1.0 in
    let here = turn_served text lines rows turn.line turn.result turn.given old fed middle h made.1.1 (emptied made.1.2) in
    let rest = turns_served text turns (lines ++ line_taken turn.line turn.result) (rows ++ turn.given) middle last here made.2 in
    subst (λ (l : List (List ℕ)). IsServed text l (rows ++ (turn.given ++ rows_given turns)) last) (append_assoc lines (line_taken turn.line turn.result) (lines_taken turns))
    (subst (λ (r : List Row). IsServed text ((lines ++ line_taken turn.line turn.result) ++ lines_taken turns) r last) (append_assoc rows turn.given (rows_given turns)) rest)

pub all_rows : ServicesGiveAllRows
all_rows text opened last turns first made = (turns_served text turns [] [] opened last (served_first text opened first) made).served

-- QUIET LINES

quiet_turn : (line : List ℕ) (old new : ServiceState) → NoneIsLeft old.engine old.answers → IsQuiet line old new →
    NoneIsLeft new.engine new.answers × ((turn : Turn) × IsTurn turn old new × (line_taken turn.line turn.result ≡ line ∷ []) × (turn.given ≡ []))
quiet_turn line old new none (inl h) = (h.1, (record { line = line; result = Ok fed.Event; given = [] }, (new, h.0, unasked refl refl h.1), refl, refl))
quiet_turn line old new none (inr h) =
    let still : NoneIsLeft new.engine new.answers = subst (λ (s : ServiceState). NoneIsLeft s.engine s.answers) (sym h.stays) none in
    (still, (record { line = line; result = Ok fed.Nothing; given = [] }, (new, h, unasked refl refl still), refl, refl))

pub quiet_turns : QuietLinesAreTurns
quiet_turns [] old new none same = (subst (λ (s : ServiceState). NoneIsLeft s.engine s.answers) (sym same) none, ([], same, refl, refl))
quiet_turns (line ∷ lines) old new none made =
    let one = quiet_turn line old made.0 none made.1 in
    let rest = quiet_turns lines made.0 new one.0 made.2 in (
      rest.0,
      (
        one.1.0 ∷ rest.1.0,
        (made.0, one.1.1, rest.1.1),
        ap (λ (l : List (List ℕ)). l ++ lines_taken rest.1.0) one.1.2 ∙ ap (λ (l : List (List ℕ)). line ∷ l) rest.1.2,
        ap (λ (l : List Row). l ++ rows_given rest.1.0) one.1.3 ∙ rest.1.3,
      ),
    )
