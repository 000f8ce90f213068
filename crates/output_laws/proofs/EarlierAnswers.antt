-- An answer depends on the events from its start to its end alone. For callers of the crate too.
use Rattle.std.proofs.Common.{◌≡◌, sym, ◌∙◌, ℕ, zero, suc, ◌<◌, ◌≤◌, inl, inr, Bool, true, false, List, [], ◌∷◌, ◌++◌, length, Option, Some, slice_get, refl, arith}
use Rattle.std.specs.Prelude.{Contains, ◌↔◌}
use Rattle.stream_schema.specs.Types.{Declared}
use Rattle.stream_schema.specs.declared.Event.{Event}
use Rattle.cel_terms.specs.declared.Query.{Query}
use Rattle.cel_terms.specs.Answers.{Answer, IsAnswer, IsOfSubstream, IsInWindow, AreContiguous, WhereStrict, query_types, substream}
use Rattle.cel_terms.specs.MeaningLaws.{IsSpan}
use Rattle.cel_terms.proofs.Marked.{lies_selected, marks_within}
use Rattle.output_laws.specs.AnswerLaws.{AreSameUpTo, IsSameFor, AreSameWithin}
use Rattle.output_laws.proofs.Agreeing.{Agree, selected_carries}

pub turned : (end : ℕ) (events others : List Event) → AreSameUpTo end events others → AreSameUpTo end others events
turned end events others same p upto = sym (same p upto)

-- what a query sees the same, the other way about
same_back : (schema : Declared) (q : Query) (a b : Option Event) → IsSameFor schema q a b → IsSameFor schema q b a
same_back schema q a b (inl same) = inl (sym same)
same_back schema q a b (inr unread) = inr (unread.1, unread.0)

pub within_turned : (schema : Declared) (q : Query) (start end : ℕ) (events others : List Event) → AreSameWithin schema q start end events others → AreSameWithin schema q start end others events
within_turned schema q start end events others same p low upto = same_back schema q (slice_get events p) (slice_get others p) (same p low upto)

-- an event that is read stands in both
read_too : (schema : Declared) (q : Query) (a b : Option Event) (event : Event) → IsSameFor schema q a b → a ≡ Some event → Contains (query_types schema q.streams) event.ty → b ≡ Some event
read_too schema q a b event (inl same) at read = sym same ∙ at
read_too schema q a b event (inr unread) at read = absurd (unread.0 event at read)

-- a position of the interval is of the substream in both or in neither
of_substream : (schema : Declared) (q : Query) (start end : ℕ) (events others : List Event) → start ≤ end → AreSameWithin schema q start end events others → (p : ℕ) → start ≤ p → p ≤ end → IsOfSubstream schema q events end p → IsOfSubstream schema q others end p
of_substream schema q start end events others order same p low upto h = record {
  here = h.here;
  there = h.there;
  key = h.key;
  here_is = read_too schema q (slice_get events p) (slice_get others p) h.here (same p low upto) h.here_is h.here_has.0;
  there_is = read_too schema q (slice_get events end) (slice_get others end) h.there (same end order (omega arith)) h.there_is h.there_has.0;
  here_has = h.here_has;
  there_has = h.there_has;
}

agree : (schema : Declared) (q : Query) (start end : ℕ) (events others : List Event) → start ≤ end → AreSameWithin schema q start end events others → Agree start (suc end) (substream schema q events end) (substream schema q others end)
agree schema q start end events others order same = record {
  schema = refl;
  events = λ p low less has. has.here_is ∙ sym (read_too schema q (slice_get events p) (slice_get others p) has.here (same p low (omega arith)) has.here_is has.here_has.0);
  there = λ p low less. of_substream schema q start end events others order same p low (omega arith);
  back = λ p low less. of_substream schema q start end others events order (within_turned schema q start end events others same) p low (omega arith);
}

pub strict_too : (strict : Bool) (P Q : Type 0) → (P → Q) → WhereStrict strict P → WhereStrict strict Q
strict_too true P Q f h = f h
strict_too false P Q f h = tt

pub contiguous_too : (P Q : ℕ → Type 0) (start end : ℕ) (marks : List ℕ) → ((p : ℕ) → start ≤ p → p ≤ end → Q p → P p) → ((p : ℕ) → Contains marks p → (start ≤ p) × (p ≤ end)) → AreContiguous P marks → AreContiguous Q marks
contiguous_too P Q start end marks back within h low p high has_low has_high above below has =
    let from = (within low has_low).0 in
    let upto = (within high has_high).1 in
    h low p high has_low has_high above below (back p (omega arith) (omega arith) has)

-- An answer spans events of its substream.
pub spans : (schema : Declared) (q : Query) (events : List Event) (end : ℕ) (answer : Answer) → IsAnswer schema q events end answer → IsSpan (substream schema q events end) answer.start end
spans schema q events end answer h = (lies_selected (substream schema q events end) q.select q.formula answer.start end h.marks.valuation h.marks.means).span

-- An answer does not end before it starts.
pub starts_before : (schema : Declared) (q : Query) (events : List Event) (end : ℕ) (answer : Answer) → IsAnswer schema q events end answer → answer.start ≤ end
starts_before schema q events end answer h = (spans schema q events end answer h).ordered

-- its first and its last event stand in both
in_window : (schema : Declared) (q : Query) (start end : ℕ) (events others : List Event) → AreSameWithin schema q start end events others → IsSpan (substream schema q events end) start end → IsInWindow schema q events start end → IsInWindow schema q others start end
in_window schema q start end events others same span h =
    let begins = span.begins in
    let ends = span.ends in
    let order = span.ordered in
    let first = read_too schema q (slice_get events start) (slice_get others start) begins.here (same start (omega arith) order) begins.here_is begins.here_has.0 in
    let last = read_too schema q (slice_get events end) (slice_get others end) ends.here (same end order (omega arith)) ends.here_is ends.here_has.0 in
    record {
      first = h.first;
      last = h.last;
      from = h.from;
      to = h.to;
      first_is = first ∙ (sym begins.here_is ∙ h.first_is);
      last_is = last ∙ (sym ends.here_is ∙ h.last_is);
      from_is = h.from_is;
      to_is = h.to_is;
      close = h.close;
    }

-- An answer is one too where the query sees the same events from its start to its end.
pub look_within : (schema : Declared) (q : Query) (events others : List Event) (end : ℕ) (answer : Answer) → AreSameWithin schema q answer.start end events others → IsAnswer schema q events end answer → IsAnswer schema q others end answer
look_within schema q events others end answer same h =
    let v = h.marks.valuation in
    let last : end < suc end = omega arith in
    let span = spans schema q events end answer h in
    let order = span.ordered in
    let first : answer.start ≤ answer.start = omega arith in
    let carried = (selected_carries answer.start (suc end) (substream schema q events end) (substream schema q others end) (agree schema q answer.start end events others order same) q.select q.formula answer.start end v last h.marks.means).there first in
    record {
      marks = record { valuation = v; means = carried.means; are_marks = h.marks.are_marks };
      strict = strict_too q.strict (AreContiguous (IsOfSubstream schema q events end) answer.marks) (AreContiguous (IsOfSubstream schema q others end) answer.marks)
          (contiguous_too (IsOfSubstream schema q events end) (IsOfSubstream schema q others end) answer.start end answer.marks
          (λ p low upto. of_substream schema q answer.start end others events order (within_turned schema q answer.start end events others same) p low upto)
          (λ p has. (let w = marks_within schema q events end answer h p has in (w.from, w.to))))
          h.strict;
      window = in_window schema q answer.start end events others same span h.window;
    }

pub same_within : (schema : Declared) (q : Query) (start end : ℕ) (events others : List Event) → AreSameUpTo end events others → AreSameWithin schema q start end events others
same_within schema q start end events others same p low upto = inl (same p upto)

-- An answer is one too where the events up to its end are the same.
pub look_back : (schema : Declared) (q : Query) (events others : List Event) (end : ℕ) (answer : Answer) → AreSameUpTo end events others → IsAnswer schema q events end answer → IsAnswer schema q others end answer
look_back schema q events others end answer same = look_within schema q events others end answer (same_within schema q answer.start end events others same)

-- what stands at a position stays there when more comes
same_with_more : {X : Type 0} (xs more : List X) (p : ℕ) → p < length xs → slice_get xs p ≡ slice_get (xs ++ more) p
same_with_more [] more p less = absurd (omega arith)
same_with_more (x ∷ xs) more zero less = refl
same_with_more (x ∷ xs) more (suc p) less = same_with_more xs more p (omega arith)

pub same_up_to : (events more : List Event) (end : ℕ) → end < length events → AreSameUpTo end events (events ++ more)
same_up_to events more end less p upto = same_with_more events more p (omega arith)

pub no_change : (schema : Declared) (q : Query) (events more : List Event) (end : ℕ) (answer : Answer) → end < length events → IsAnswer schema q events end answer ↔ IsAnswer schema q (events ++ more) end answer
no_change schema q events more end answer less =
    let same = same_up_to events more end less in
    (look_back schema q events (events ++ more) end answer same, look_back schema q (events ++ more) events end answer (turned end events (events ++ more) same))
