-- Queries that read the same types by the same clock.
use Rattle.std.proofs.Common.{◌≡◌, ℕ, ◌<◌, ℤ, Bool, false, List, [], ◌∷◌, length, refl, sym, ap, ◌∙◌, inl, inr, Some, slice_index_or}
use Rattle.std.proofs.lemmas.Bool.{cases_lt}
use Rattle.stream_schema.specs.Types.{Declared, IsWellDeclared}
use Rattle.stream_schema.specs.declared.Event.{Event}
use Rattle.cel_terms.specs.declared.Query.{Query}
use Rattle.cel_terms.specs.declared.Window.{Window}
use Rattle.cel_terms.specs.declared.Window.TheVariants.{Free, Events, Clock}
use Rattle.cel_terms.specs.Answers.{HasClock}
use Rattle.cel_terms.proofs.Undeclared.{left_out}
use Rattle.window_clock.specs.declared.Source.{Source}
use Rattle.window_clock.specs.Clocks.{int_of, clock_of}
use Rattle.window_clock.specs.Places.{IsOf, ReadAlike}
use Rattle.query_standing.specs.Clocks.{Reads}
use Rattle.query_standing.specs.Dormancy.{ShareClock}
use Rattle.query_standing.proofs.Reading.{reads_is, is_read}
use Rattle.query_state.specs.QueryStates.{AreTypesRead}
use Rattle.query_state.proofs.Prepare.{clock_told}

-- the type of an event that is read is declared
declared_type : (schema : Declared) (q : Query) (event : Event) → IsWellDeclared schema → Reads schema q event → event.ty < length schema.types
declared_type schema q event well reads = elim (cases_lt event.ty (length schema.types)) [
  | inl less ↦ less
  | inr past ↦ absurd (left_out schema (record q { partition = [] }) (event ∷ []) 0 0 event well refl past (record {
    here = event;
    there = event;
    key = [];
    here_is = refl;
    there_is = refl;
    here_has = (reads, refl);
    there_has = (reads, refl);
  }))
]

reads_too : (schema : Declared) (q r : Query) (types others : List Bool) → IsWellDeclared schema → AreTypesRead schema q types → AreTypesRead schema r others → types ≡ others → (event : Event) → Reads schema q event → Reads schema r event
reads_too schema q r types others well of_q of_r same event reads =
    let less = declared_type schema q event well reads in
    reads_is schema r event (sym (of_r event.ty less) ∙ (ap (λ (t : List Bool). slice_index_or t event.ty false) (sym same) ∙ (of_q event.ty less ∙ is_read schema q event reads)))

clock_back : (schema : Declared) (w : Window) (event : Event) (p : ℕ) (c : ℤ) → HasClock schema w event p c → clock_of schema w event p ≡ Some c
clock_back schema Free event p c e = ap (λ z. Some z) (sym e)
clock_back schema (Events n) event p c e = ap (λ z. Some z) (sym e)
clock_back schema (Clock name n) event p c e = ap int_of e

clock_too : (schema : Declared) (q r : Query) (one two : Source) → IsOf schema q.window one → IsOf schema r.window two → ReadAlike one two → (event : Event) (p : ℕ) (c : ℤ) → HasClock schema q.window event p c → HasClock schema r.window event p c
clock_too schema q r one two of_q of_r alike event p c has =
    clock_told schema r.window event p c (sym (of_r.clock event p) ∙ (sym (alike event p) ∙ (of_q.clock event p ∙ clock_back schema q.window event p c has)))

pub shares : (schema : Declared) (q r : Query) (types others : List Bool) (one two : Source) → IsWellDeclared schema → AreTypesRead schema q types → AreTypesRead schema r others → IsOf schema q.window one → IsOf schema r.window two → types ≡ others → ReadAlike one two → ShareClock schema q r
shares schema q r types others one two well types_q types_r of_q of_r same alike = record {
  reads = reads_too schema q r types others well types_q types_r same;
  reads_back = reads_too schema r q others types well types_r types_q (sym same);
  clocks = clock_too schema q r one two of_q of_r alike;
  clocks_back = clock_too schema r q two one of_r of_q (λ event p. sym (alike event p));
}
