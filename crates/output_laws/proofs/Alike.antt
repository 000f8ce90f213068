-- Queries that read, mean and select alike have the same answers and the same output. For callers of the crate too.
use Rattle.std.proofs.Common.{◌≡◌, refl, sym, subst, ◌∙◌, ℕ, suc, ◌<◌, ◌≤◌, List, Bool, Option, arith}
use Rattle.std.specs.Prelude.{ℤ, Contains}
use Rattle.stream_schema.specs.Types.{Declared}
use Rattle.stream_schema.specs.declared.Event.{Event}
use Rattle.cel_terms.specs.declared.Query.{Query}
use Rattle.cel_terms.specs.Meaning.{Stream, Meaning, meaning}
use Rattle.cel_terms.specs.Answers.{Answer, IsAnswer, IsOfSubstream, IsInWindow, HasClock, WithinWidth, AreContiguous, WhereStrict, query_types, values_at, selected, substream}
use Rattle.cel_terms.proofs.Marked.{marks_within}
use Rattle.answer_text.specs.declared.Order.{Order}
use Rattle.answer_text.specs.Output.{AreEnough, IsBlock}
use Rattle.output_laws.proofs.Agreeing.{Agree, selected_carries}
use Rattle.output_laws.proofs.EarlierAnswers.{strict_too, contiguous_too}
use Rattle.output_laws.proofs.Growth.{enough_too}

-- The two read the same types, and part the events alike.
pub record ReadAlike (schema : Declared) (q r : Query) : Type 0 where
  pub types : query_types schema q.streams ≡ query_types schema r.streams
  pub keys : (event : Event) → values_at schema q.partition event ≡ values_at schema r.partition event

-- They also mean and select the same, in the same window.
pub record AreAlike (schema : Declared) (q r : Query) : Type 1 where
  pub read : ReadAlike schema q r
  pub means : (stream : Stream) → selected q.select (meaning stream q.formula) ≡ selected r.select (meaning stream r.formula)
  pub strict : q.strict ≡ r.strict
  pub any : q.any ≡ r.any
  pub clock : (event : Event) (position : ℕ) (clock : ℤ) → HasClock schema q.window event position clock → HasClock schema r.window event position clock
  pub width : (from to : ℤ) → WithinWidth q.window from to → WithinWidth r.window from to

read_back : (schema : Declared) (q r : Query) → ReadAlike schema q r → ReadAlike schema r q
read_back schema q r h = record { types = sym h.types; keys = λ event. sym (h.keys event) }

of_substream : (schema : Declared) (q r : Query) → ReadAlike schema q r → (events : List Event) (end p : ℕ) → IsOfSubstream schema q events end p → IsOfSubstream schema r events end p
of_substream schema q r a events end p h = record {
  here = h.here;
  there = h.there;
  key = h.key;
  here_is = h.here_is;
  there_is = h.there_is;
  here_has = (subst (λ (types : List ℕ). Contains types h.here.ty) a.types h.here_has.0, sym (a.keys h.here) ∙ h.here_has.1);
  there_has = (subst (λ (types : List ℕ). Contains types h.there.ty) a.types h.there_has.0, sym (a.keys h.there) ∙ h.there_has.1);
}

agree : (schema : Declared) (q r : Query) → ReadAlike schema q r → (events : List Event) (end : ℕ) → Agree 0 (suc end) (substream schema q events end) (substream schema r events end)
agree schema q r a events end = record {
  schema = refl;
  events = λ p low less has. refl;
  there = λ p low less. of_substream schema q r a events end p;
  back = λ p low less. of_substream schema r q (read_back schema q r a) events end p;
}

in_window : (schema : Declared) (q r : Query) → AreAlike schema q r → (events : List Event) (start end : ℕ) → IsInWindow schema q events start end → IsInWindow schema r events start end
in_window schema q r a events start end h = record {
  first = h.first;
  last = h.last;
  from = h.from;
  to = h.to;
  first_is = h.first_is;
  last_is = h.last_is;
  from_is = a.clock h.first start h.from h.from_is;
  to_is = a.clock h.last end h.to h.to_is;
  close = a.width h.from h.to h.close;
}

pub answers_alike : (schema : Declared) (q r : Query) → AreAlike schema q r → (events : List Event) (end : ℕ) (answer : Answer) → IsAnswer schema q events end answer → IsAnswer schema r events end answer
answers_alike schema q r a events end answer h =
    let v = h.marks.valuation in
    let last : end < suc end = omega arith in
    let first : 0 ≤ answer.start = omega arith in
    let carried = (selected_carries 0 (suc end) (substream schema q events end) (substream schema r events end) (agree schema q r a.read events end) q.select q.formula answer.start end v last h.marks.means).there first in
    record {
      marks = record {
        valuation = v;
        means = subst (λ (part : Meaning). part answer.start end v) (a.means (substream schema r events end)) carried.means;
        are_marks = h.marks.are_marks;
      };
      strict = subst (λ (strict : Bool). WhereStrict strict (AreContiguous (IsOfSubstream schema r events end) answer.marks)) a.strict
          (strict_too q.strict (AreContiguous (IsOfSubstream schema q events end) answer.marks) (AreContiguous (IsOfSubstream schema r events end) answer.marks)
          (contiguous_too (IsOfSubstream schema q events end) (IsOfSubstream schema r events end) answer.start end answer.marks
          (λ p low upto. of_substream schema r q (read_back schema q r a.read) events end p)
          (λ p has. (let w = marks_within schema q events end answer h p has in (w.from, w.to))))
          h.strict);
      window = in_window schema q r a events answer.start end h.window;
    }

pub block_alike : (order : Order) (schema : Declared) (number : ℕ) (q r : Query) → AreAlike schema q r → AreAlike schema r q → (events : List Event) (end : ℕ) (bytes : List ℕ) → IsBlock order schema number q events end bytes → IsBlock order schema number r events end bytes
block_alike order schema number q r a back events end bytes h = record {
  answers = h.answers;
  distinct = h.distinct;
  right = λ answer has. answers_alike schema q r a events end answer (h.right answer has);
  enough = subst (λ (any : Option ℕ). AreEnough any (IsAnswer schema r events end) h.answers) a.any
      (enough_too q.any (IsAnswer schema q events end) (IsAnswer schema r events end)
      (λ answer. (answers_alike schema q r a events end answer, answers_alike schema r q back events end answer))
      h.answers h.enough);
  ordered = h.ordered;
  written = h.written;
}
