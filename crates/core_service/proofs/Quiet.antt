-- Lines that were taken together, after whose events no answer is left.
use Rattle.std.proofs.Common.{◌≡◌, ◌∙◌, sym, refl, ap, subst, ℕ, zero, suc, ◌+◌, ◌-◌, ◌<◌, ◌≤◌, inl, Bool, true, false, List, [], ◌∷◌, ◌++◌, length, map, take, drop, flat_map, Some, Ok, Err, append_assoc, arith}
use Rattle.std.specs.Prelude.{slice_get, Contains}
use Rattle.std.proofs.lemmas.List.{append-nil, length-drop, take-append-drop, take_all}
use Rattle.std.proofs.Math.Seq.{take-add}
use Rattle.cer_base.specs.declared.bytes.TheConstants.{LINE_FEED}
use Rattle.stream_schema.specs.Types.{Declared}
use Rattle.stream_schema.specs.declared.Event.{Event}
use Rattle.cel_terms.specs.declared.Query.{Query}
use Rattle.cel_terms.specs.Answers.{Answer, AreAnswersAt}
use Rattle.query_engine.specs.Engine.{EngineState}
use Rattle.answer_text.specs.declared.Order.TheVariants.{Walk}
use Rattle.answer_text.specs.OutputRows.{Row, row_at, AreRowsOf, AreRowsAt}
use Rattle.core_service.specs.Answering.{NoneIsLeft, HaveNoAnswer}
use Rattle.core_service.specs.Services.{ServiceState, TakesEvent, RefusesLine}
use Rattle.core_service.specs.ManyLines.{IsQuiet, AreQuiet, IsNext, some_stop, with_feed, HasFedSome}
use Rattle.cer_base.specs.declared.OrMemory.{OrMemory}
use Rattle.cer_base.specs.declared.OrMemory.TheVariants.{Fault, Memory}
use Rattle.core_service.specs.declared.Refused.{Refused}
use Rattle.core_service.specs.declared.SomeStop.TheVariants as stop
use Rattle.event_reader.specs.Lines.{has_line_feed}
use Rattle.core_service.proofs.Rows.{some_rows}

-- NO ANSWER, NO ROW

nothing : (answers : List Answer) → ((a : Answer) → Contains answers a → ⊥) → answers ≡ []
nothing [] none = refl
nothing (x ∷ xs) none = absurd (none x (0, omega arith, refl))

no_row : (schema : Declared) (number : ℕ) (q : Query) (events : List Event) (end : ℕ) (rows : List Row) → AreAnswersAt schema q events end [] → AreRowsOf Walk schema number q events end rows → rows ≡ []
no_row schema number q events end rows none h =
    let empty = nothing h.answers (λ a has. let there = none.all a (h.right a has) in absurd (omega (arith, there.1))) in
    h.are ∙ ap (λ (l : List Answer). map (row_at number end) l) empty

no_rows : (schema : Declared) (number : ℕ) (queries : List Query) (events : List Event) (end : ℕ) (rows : List Row) → ((k : ℕ) (q : Query) → slice_get queries k ≡ Some q → AreAnswersAt schema q events end []) →
    AreRowsAt Walk schema number queries events end rows → rows ≡ []
no_rows schema number [] events end rows none h = h
no_rows schema number (q ∷ qs) events end rows none h =
    let front = no_row schema number q events end h.0 (none zero q refl) h.2 in
    let rest = no_rows schema (number + 1) qs events end h.1 (λ k p at. none (suc k) p at) h.3 in
    h.4 ∙ (ap (λ (l : List Row). l ++ h.1) front ∙ rest)

inside : (queries : List Query) (k : ℕ) (q : Query) → slice_get queries k ≡ Some q → k < length queries
inside [] k q at = absurd cc
inside (p ∷ ps) zero q at = omega arith
inside (p ∷ ps) (suc k) q at = let rest = inside ps k q at in omega arith

-- no query may have an answer at the event
pub none_at_event : (line : List ℕ) (old new : ServiceState) → TakesEvent line old new → HaveNoAnswer new.engine 0 (length new.engine.queries) → NoneIsLeft new.engine new.answers
none_at_event line old new h none = record {
  none = λ events rows stands.
      let e = new.engine in
      let end = length events - 1 in
      let each : (k : ℕ) (q : Query) → slice_get e.queries k ≡ Some q → AreAnswersAt e.schema q events end [] = λ k q at. none.none k q events (omega arith) (inside e.queries k q at) at stands in
      let some = some_rows e.schema 1 e.queries events end in
      let is = no_rows e.schema 1 e.queries events end some.0 each some.1 in (
        λ left. no_rows e.schema 1 e.queries events end rows each ((h.left events rows).0 left),
        λ empty. (h.left events rows).1 (subst (AreRowsAt Walk e.schema 1 e.queries events end) (is ∙ sym empty) some.1),
      );
}

-- the line's event was taken, and it was asked whether it may have an answer
pub event_next : (line : List ℕ) (old new : ServiceState) (engine : EngineState) (may : Bool) → engine ≡ new.engine → TakesEvent line old new → (may ≡ false → HaveNoAnswer engine 0 (length engine.queries)) → IsNext line old new (Ok may)
event_next line old new engine true same h none = h
event_next line old new engine false same h none = inl (h, none_at_event line old new h (subst (λ (e : EngineState). HaveNoAnswer e 0 (length e.queries)) same (none refl)))

-- LINES ONE AFTER ANOTHER

quiet_more : (lines : List (List ℕ)) (line : List ℕ) (old middle new : ServiceState) → AreQuiet lines old middle → IsQuiet line middle new → AreQuiet (lines ++ line ∷ []) old new
quiet_more [] line old middle new same one = (new, subst (λ (s : ServiceState). IsQuiet line s new) same one, refl)
quiet_more (first ∷ lines) line old middle new h one = (h.0, h.1, quiet_more lines line h.0 middle new h.2 one)

feeds_both : (xs ys : List (List ℕ)) → flat_map with_feed (xs ++ ys) ≡ flat_map with_feed xs ++ flat_map with_feed ys
feeds_both [] ys = refl
feeds_both (x ∷ xs) ys = ap (λ (l : List ℕ). with_feed x ++ l) (feeds_both xs ys) ∙ sym (append_assoc (with_feed x) (flat_map with_feed xs) (flat_map with_feed ys))

-- Quiet lines were taken, which are so many bytes.
pub record TookQuiet (bytes : List ℕ) (used : ℕ) (first now : ServiceState) : Type 0 where
  pub lines : List (List ℕ)
  pub within : used ≤ length bytes
  pub bytes_are : take used bytes ≡ flat_map with_feed lines
  pub taken : AreQuiet lines first now

pub took_none : (bytes : List ℕ) (first : ServiceState) → TookQuiet bytes 0 first first
took_none bytes first = record { lines = []; within = omega arith; bytes_are = refl; taken = refl }

-- the next line, with what stands behind it
module _ (bytes : List ℕ) (used len : ℕ) (first now : ServiceState) (h : TookQuiet bytes used first now) (within : len < length (drop used bytes)) (feed : drop len (drop used bytes) ≡ LINE_FEED ∷ drop (len + 1) (drop used bytes)) where
  one_feed : take 1 (drop len (drop used bytes)) ≡ LINE_FEED ∷ []
  one_feed = ap (take 1) feed

  next_line : take (len + 1) (drop used bytes) ≡ take len (drop used bytes) ++ LINE_FEED ∷ []
  next_line = take-add len 1 (drop used bytes) ∙ ap (λ (l : List ℕ). take len (drop used bytes) ++ l) one_feed

  bytes_with : (count : ℕ) → count ≡ used + (len + 1) → take count bytes ≡ flat_map with_feed (h.lines ++ take len (drop used bytes) ∷ [])
  bytes_with count is =
      ap (λ (n : ℕ). take n bytes) is ∙ (take-add used (len + 1) bytes ∙ (ap (λ (l : List ℕ). l ++ take (len + 1) (drop used bytes)) h.bytes_are
      ∙ (ap (λ (l : List ℕ). flat_map with_feed h.lines ++ l) (next_line ∙ sym (append-nil (with_feed (take len (drop used bytes))))) ∙ sym (feeds_both h.lines (take len (drop used bytes) ∷ [])))))

  room : used + (len + 1) ≤ length bytes
  room = let long = length-drop used bytes in let most = h.within in omega arith

  -- it was quiet
  took_more : (count : ℕ) (new : ServiceState) → count ≡ used + (len + 1) → IsQuiet (take len (drop used bytes)) now new → TookQuiet bytes count first new
  took_more count new is one = record {
    lines = h.lines ++ take len (drop used bytes) ∷ [];
    within = let most = room in omega arith;
    bytes_are = bytes_with count is;
    taken = quiet_more h.lines (take len (drop used bytes)) first now new h.taken one;
  }

  -- its event may have an answer
  fed_answer : (count : ℕ) (new : ServiceState) → count ≡ used + (len + 1) → TakesEvent (take len (drop used bytes)) now new → HasFedSome bytes first new (record { used = count; stop = stop.MayAnswer })
  fed_answer count new is one = record {
    quiet = h.lines;
    last = take len (drop used bytes) ∷ [];
    middle = now;
    within = let most = room in omega arith;
    used = bytes_with count is;
    taken = h.taken;
    stopped = (take len (drop used bytes), refl, one);
  }

  -- it is refused
  fed_refusal : (new : ServiceState) (refused : Refused) → RefusesLine (take len (drop used bytes)) now new refused → HasFedSome bytes first new (record { used = used; stop = stop.Refused refused })
  fed_refusal new refused one = record {
    quiet = h.lines;
    last = [];
    middle = now;
    within = h.within;
    used = h.bytes_are ∙ sym (ap (flat_map with_feed) (append-nil h.lines));
    taken = h.taken;
    stopped = (
      refl,
      record {
        line = take len (drop used bytes);
        later = drop (len + 1) (drop used bytes);
        next = sym (take-append-drop len (drop used bytes)) ∙ (ap (λ (l : List ℕ). take len (drop used bytes) ++ l) feed ∙ sym (append_assoc (take len (drop used bytes)) (LINE_FEED ∷ []) (drop (len + 1) (drop used bytes))));
        refuses = one;
      },
    );
  }

-- no further line was taken, and nothing has changed
pub fed_end : (bytes : List ℕ) (used : ℕ) (first now : ServiceState) → TookQuiet bytes used first now → has_line_feed (drop used bytes) ≡ false → HasFedSome bytes first now (record { used = used; stop = stop.End })
fed_end bytes used first now h none = record {
  quiet = h.lines;
  last = [];
  middle = now;
  within = h.within;
  used = h.bytes_are ∙ sym (ap (flat_map with_feed) (append-nil h.lines));
  taken = h.taken;
  stopped = (refl, refl, none);
}

pub fed_want : (bytes : List ℕ) (used : ℕ) (first now new : ServiceState) → TookQuiet bytes used first now → new ≡ now → HasFedSome bytes first new (record { used = used; stop = stop.Memory })
fed_want bytes used first now new h same = record {
  quiet = h.lines;
  last = [];
  middle = now;
  within = h.within;
  used = h.bytes_are ∙ sym (ap (flat_map with_feed) (append-nil h.lines));
  taken = h.taken;
  stopped = (refl, same);
}

-- The same, where the bytes that are left are read off as a slice.
module _ (bytes : List ℕ) (used len : ℕ) (first now : ServiceState) (h : TookQuiet bytes used first now) where
  rest_is : take (length bytes - used) (drop used bytes) ≡ drop used bytes
  rest_is = let long = length-drop used bytes in take_all (length bytes - used) (drop used bytes) (omega arith)

  module _ (within : len < length (take (length bytes - used) (drop used bytes))) (feed : drop len (take (length bytes - used) (drop used bytes)) ≡ LINE_FEED ∷ drop (len + 1) (take (length bytes - used) (drop used bytes))) where
    in_rest : len < length (drop used bytes)
    in_rest = subst (λ (r : List ℕ). len < length r) rest_is within

    feed_there : drop len (drop used bytes) ≡ LINE_FEED ∷ drop (len + 1) (drop used bytes)
    feed_there = subst (λ (r : List ℕ). drop len r ≡ LINE_FEED ∷ drop (len + 1) r) rest_is feed

    pub more_here : (count : ℕ) (new : ServiceState) → count ≡ used + (len + 1) → IsQuiet (take len (take (length bytes - used) (drop used bytes))) now new → TookQuiet bytes count first new
    more_here count new is one = took_more bytes used len first now h in_rest feed_there count new is (subst (λ (r : List ℕ). IsQuiet (take len r) now new) rest_is one)

    pub answer_here : (count : ℕ) (new : ServiceState) → count ≡ used + (len + 1) → TakesEvent (take len (take (length bytes - used) (drop used bytes))) now new → HasFedSome bytes first new (record { used = count; stop = stop.MayAnswer })
    answer_here count new is one = fed_answer bytes used len first now h in_rest feed_there count new is (subst (λ (r : List ℕ). TakesEvent (take len r) now new) rest_is one)

    pub error_here : (new : ServiceState) (why : OrMemory Refused) → IsNext (take len (take (length bytes - used) (drop used bytes))) now new (Err why) → HasFedSome bytes first new (record { used = used; stop = some_stop why })
    error_here new (Fault refused) one = fed_refusal bytes used len first now h in_rest feed_there new refused (subst (λ (r : List ℕ). RefusesLine (take len r) now new refused) rest_is one)
    error_here new Memory one = fed_want bytes used first now new h one
