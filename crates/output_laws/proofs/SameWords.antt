-- The answers and the output of queries are told by their words. For callers of the crate too.
use Rattle.std.proofs.Common.{◌≡◌, refl, sym, ap, subst, ◌∙◌, ℕ, zero, suc, ◌+◌, List, [], ◌∷◌, ◌++◌, length, map, Option, Some, None}
use Rattle.std.specs.Prelude.{ℤ, option_map, option_and_then}
use Rattle.stream_schema.specs.Types.{Declared}
use Rattle.stream_schema.specs.declared.Event.{Event}
use Rattle.stream_schema.specs.declared.Value.{Value}
use Rattle.cel_terms.specs.declared.Name.{Name}
use Rattle.cel_terms.specs.declared.Query.{Query}
use Rattle.cel_terms.specs.declared.Window.{Window}
use Rattle.cel_terms.specs.declared.Window.TheVariants.{Free, Events, Clock}
use Rattle.cel_terms.specs.Predicate.{attr_value}
use Rattle.cel_terms.specs.Meaning.{Meaning, meaning}
use Rattle.cel_terms.specs.Answers.{Answer, IsAnswer, HasClock, WithinWidth, types_of_stream, query_types, values_at, selected}
use Rattle.answer_text.specs.declared.Order.{Order}
use Rattle.answer_text.specs.Output.{IsBlock, AreBlocks, IsOutputOf, IsOutput}
use Rattle.ceql_parser.specs.QueryTrees.{QueryTree}
use Rattle.output_laws.specs.QueryWords.{words, window_words, words_of}
use Rattle.output_laws.proofs.WordsMean.{kept_as, same_meaning}
use Rattle.output_laws.proofs.Alike.{AreAlike, answers_alike, block_alike}

types_as : (schema : Declared) (names : List Name) → query_types schema names ≡ query_types schema (words names)
types_as schema [] = refl
types_as schema (n ∷ ns) = ap (λ (types : List ℕ). types_of_stream schema.streams n.text ++ types) (types_as schema ns)

values_as : (schema : Declared) (names : List Name) (event : Event) → values_at schema names event ≡ values_at schema (words names) event
values_as schema [] event = refl
values_as schema (n ∷ ns) event = ap (λ (rest : Option (List Value)). option_and_then (λ v. option_map (λ vs. v ∷ vs) rest) (attr_value schema event n.text)) (values_as schema ns event)

selected_as : (names : Option (List Name)) (part : Meaning) → selected names part ≡ selected (option_map words names) part
selected_as None part = refl
selected_as (Some names) part = kept_as names part part refl

clock_as : (schema : Declared) (w : Window) (event : Event) (position : ℕ) (clock : ℤ) → HasClock schema w event position clock ≡ HasClock schema (window_words w) event position clock
clock_as schema Free event position clock = refl
clock_as schema (Events n) event position clock = refl
clock_as schema (Clock name n) event position clock = refl

width_as : (w : Window) (from to : ℤ) → WithinWidth w from to ≡ WithinWidth (window_words w) from to
width_as Free from to = refl
width_as (Events n) from to = refl
width_as (Clock name n) from to = refl

-- one fact for another that is the same
turn : (P Q : Type 0) → P ≡ Q → P → Q
turn P Q same h = subst (λ (X : Type 0). X) same h

-- Queries of the same words are alike.
pub alike : (schema : Declared) (q r : Query) → words_of q ≡ words_of r → AreAlike schema q r
alike schema q r same = record {
  read = record {
    types = types_as schema q.streams ∙ ap (λ (t : QueryTree). query_types schema t.streams) same ∙ sym (types_as schema r.streams);
    keys = λ event. values_as schema q.partition event ∙ ap (λ (t : QueryTree). values_at schema t.partition event) same ∙ sym (values_as schema r.partition event);
  };
  means = λ stream.
      selected_as q.select (meaning stream q.formula)
      ∙ ap (λ (t : QueryTree). selected t.select (meaning stream q.formula)) same
      ∙ sym (selected_as r.select (meaning stream q.formula))
      ∙ ap (λ (part : Meaning). selected r.select part) (same_meaning stream q.formula r.formula (ap (λ (t : QueryTree). t.formula) same));
  strict = ap (λ (t : QueryTree). t.strict) same;
  any = ap (λ (t : QueryTree). t.any) same;
  clock = λ event position clock. turn (HasClock schema q.window event position clock) (HasClock schema r.window event position clock)
      (clock_as schema q.window event position clock ∙ ap (λ (t : QueryTree). HasClock schema t.window event position clock) same ∙ sym (clock_as schema r.window event position clock));
  width = λ from to. turn (WithinWidth q.window from to) (WithinWidth r.window from to)
      (width_as q.window from to ∙ ap (λ (t : QueryTree). WithinWidth t.window from to) same ∙ sym (width_as r.window from to));
}

pub same_answers : (schema : Declared) (q r : Query) (events : List Event) (end : ℕ) (answer : Answer) → words_of q ≡ words_of r → IsAnswer schema q events end answer → IsAnswer schema r events end answer
same_answers schema q r events end answer same = answers_alike schema q r (alike schema q r same) events end answer

pub same_block : (order : Order) (schema : Declared) (number : ℕ) (q r : Query) (events : List Event) (end : ℕ) (bytes : List ℕ) → words_of q ≡ words_of r → IsBlock order schema number q events end bytes → IsBlock order schema number r events end bytes
same_block order schema number q r events end bytes same = block_alike order schema number q r (alike schema q r same) (alike schema r q (sym same)) events end bytes

first_same : (t u : QueryTree) (ts us : List QueryTree) → t ∷ ts ≡ u ∷ us → t ≡ u
first_same t u ts us same = cc

rest_same : (t u : QueryTree) (ts us : List QueryTree) → t ∷ ts ≡ u ∷ us → ts ≡ us
rest_same t u ts us same = cc

none_is_not_some : (t : QueryTree) (ts : List QueryTree) → [] ≡ t ∷ ts → ⊥
none_is_not_some t ts same = cc

pub same_blocks : (order : Order) (schema : Declared) (number : ℕ) (queries others : List Query) (events : List Event) (end : ℕ) (bytes : List ℕ) → map words_of queries ≡ map words_of others → AreBlocks order schema number queries events end bytes → AreBlocks order schema number others events end bytes
same_blocks order schema number [] [] events end bytes same h = h
same_blocks order schema number [] (r ∷ rs) events end bytes same h = absurd (none_is_not_some (words_of r) (map words_of rs) same)
same_blocks order schema number (q ∷ qs) [] events end bytes same h = absurd (none_is_not_some (words_of q) (map words_of qs) (sym same))
same_blocks order schema number (q ∷ qs) (r ∷ rs) events end bytes same h = (
  h.0,
  h.1,
  same_block order schema number q r events end h.0 (first_same (words_of q) (words_of r) (map words_of qs) (map words_of rs) same) h.2,
  same_blocks order schema (number + 1) qs rs events end h.1 (rest_same (words_of q) (words_of r) (map words_of qs) (map words_of rs) same) h.3,
  h.4,
)

pub same_output_of : (n : ℕ) (order : Order) (schema : Declared) (queries others : List Query) (events : List Event) (bytes : List ℕ) → map words_of queries ≡ map words_of others → IsOutputOf n order schema queries events bytes → IsOutputOf n order schema others events bytes
same_output_of zero order schema queries others events bytes same h = h
same_output_of (suc n) order schema queries others events bytes same h = (
  h.0,
  h.1,
  same_output_of n order schema queries others events h.0 same h.2,
  same_blocks order schema 1 queries others events n h.1 same h.3,
  h.4,
)

-- Queries of the same words have the same output.
pub same_output : (order : Order) (schema : Declared) (queries others : List Query) (events : List Event) (bytes : List ℕ) → map words_of queries ≡ map words_of others → IsOutput order schema queries events bytes → IsOutput order schema others events bytes
same_output order schema queries others events bytes = same_output_of (length events) order schema queries others events bytes
