-- What a call on held cursors makes of a service.
use Rattle.std.proofs.Common.{◌≡◌, ℕ, ◌-◌, Bool, true, false, List, [], ◌∷◌, ◌++◌, length, map, reverse, Option, Some, None, slice_get, refl, sym, ◌∙◌, ap, ap₂, subst}
use Rattle.std.proofs.lemmas.List.{length-reverse}
use Rattle.stream_schema.specs.declared.Event.{Event}
use Rattle.cel_terms.specs.declared.Query.{Query}
use Rattle.cel_terms.specs.Answers.{AreAnswersAt}
use Rattle.answer_text.specs.OutputRows.{Row, row_at}
use Rattle.query_engine.specs.Engine.{EngineState, Open, StandsFor, rest}
use Rattle.query_engine.specs.Holding.{answer_of}
use Rattle.core_service.specs.declared.AnswerNumbers.{AnswerNumbers}
use Rattle.core_service.specs.Answering.{AnswersState, row_of}
use Rattle.core_service.specs.Holding.{HeldState, HeldRows, cursor_rows, held_rows, AddsHeld, DropsHeld, IsDrawn, HasGivenDrawn}
use Rattle.core_service.specs.Services.{ServiceState}
use Rattle.core_service.specs.HeldCalls.{LeavesAnswers, CanBeHeld, OpensHeld, StaysHeld, ShowsHeld, IsOver, GivesHeld, LetsGo, IsAdvanced}

abbrev pub service : EngineState → ℕ → AnswersState → HeldState → ServiceState
service engine lines answers held = record { engine = engine; lines = lines; answers = answers; held = held }

module _ (e : EngineState) (lines : ℕ) (a : AnswersState) (h : HeldState) (old : ServiceState) (is : service e lines a h ≡ old) where
  -- a cursor comes
  pub opens_held : (query number end : ℕ) (c : Open) (now : HeldState) → CanBeHeld query old → AddsHeld e number h now (cursor_rows e (record { number = number; end = end; drawn = None }) c) → c.query ≡ query →
      ((events : List Event) → StandsFor e events → end ≡ length events - 1) →
      ((events : List Event) (q : Query) → StandsFor e events → slice_get e.queries (query - 1) ≡ Some q → AreAnswersAt e.schema q events (length events - 1) (map answer_of (rest e c))) → OpensHeld query number old (service e lines a now)
  opens_held query number end c now can adds asked last answers =
      let made : OpensHeld query number (service e lines a h) (service e lines a now) = record {
        can = subst (CanBeHeld query) (sym is) can;
        leaves = record { engine = refl; lines = refl; answers = refl };
        rows = cursor_rows e (record { number = number; end = end; drawn = None }) c;
        adds = adds;
        none_drawn = refl;
        are = record {
          are = λ events q stands at. (
            map answer_of (rest e c),
            answers events q stands at,
            ap₂ (λ (n k : ℕ). map (row_at n k) (map answer_of (rest e c))) asked (last events stands),
          );
        };
      } in
      subst (λ (s : ServiceState). OpensHeld query number s (service e lines a now)) is made

  -- an answer is drawn, and no position is shown
  pub stays_held : (number place : ℕ) (b : AnswersState) (now : HeldState) (result : Option AnswerNumbers) → IsDrawn e number place h now result → b ≡ record a { positions = b.positions } → StaysHeld number old (service e lines b now)
  stays_held number place b now result d same = subst (λ (s : ServiceState). StaysHeld number s (service e lines b now)) is (record {
    before = d.before;
    now = d.now;
    goes = record { leaves = record { engine = refl; lines = refl; answers = same }; changes = d.changes };
    left = d.left;
  })

  -- none is left
  pub over_held : (number place : ℕ) (now : HeldState) → IsDrawn e number place h now None → IsOver number old (service e lines a now)
  over_held number place now d = subst (λ (s : ServiceState). IsOver number s (service e lines a now)) is (record {
    stays = record {
      before = d.before;
      now = d.now;
      goes = record { leaves = record { engine = refl; lines = refl; answers = refl }; changes = d.changes };
      left = d.left;
    };
    over = d.shown;
  })

  -- an answer is drawn, and its positions are shown
  pub shows_held : (number place : ℕ) (b : AnswersState) (now : HeldState) (numbers : AnswerNumbers) (path : List ℕ) → (d : IsDrawn e number place h now (Some numbers)) → d.cursor.path ≡ path →
      b ≡ record a { positions = b.positions } → b.positions ≡ reverse path → ShowsHeld number old (service e lines b now) numbers
  shows_held number place b now numbers path d gave same shown =
      let put : reverse d.cursor.path ≡ b.positions = ap reverse gave ∙ sym shown in
      let long : length d.cursor.path ≡ length b.positions = sym (length-reverse d.cursor.path) ∙ ap length put in
      subst (λ (s : ServiceState). ShowsHeld number s (service e lines b now) numbers) is (record {
        stays = record {
          before = d.before;
          now = d.now;
          goes = record { leaves = record { engine = refl; lines = refl; answers = same }; changes = d.changes };
          left = d.left;
        };
        drawn = d.shown.0 ∙ ap (λ (p : List ℕ). row_of numbers p ∷ []) put;
        count = d.shown.1 ∙ long;
      })

  -- a cursor goes
  pub lets_go : (number : ℕ) (now : HeldState) → DropsHeld e number h now → LetsGo number old (service e lines a now)
  lets_go number now drops = subst (λ (s : ServiceState). LetsGo number s (service e lines a now)) is (record { leaves = record { engine = refl; lines = refl; answers = refl }; drops = drops })

-- ONE CALL AFTER ANOTHER

answers_twice : (a b c : AnswersState) → b ≡ record a { positions = b.positions } → c ≡ record b { positions = c.positions } → c ≡ record a { positions = c.positions }
answers_twice a b c one two = two ∙ ap (λ (x : AnswersState). record x { positions = c.positions }) one

pub leaves_both : (old middle new : ServiceState) → LeavesAnswers old middle → LeavesAnswers middle new → LeavesAnswers old new
leaves_both old middle new one two = record {
  engine = two.engine ∙ one.engine;
  lines = two.lines ∙ one.lines;
  answers = answers_twice old.answers middle.answers new.answers one.answers two.answers;
}

-- a look, and then what was drawn is given
pub pulled_both : (number : ℕ) (old middle new : ServiceState) (numbers : AnswerNumbers) (found : Bool) → ShowsHeld number old middle numbers → IsAdvanced number middle new found → new.answers.positions ≡ middle.answers.positions → GivesHeld number old new numbers
pulled_both number old middle new numbers false shows none same =
    let here = subst (λ (e : EngineState). held_rows e middle.held number ≡ None) shows.stays.goes.leaves.engine none.none in
    let there = shows.stays.goes.changes.is in
    let clash : Some shows.stays.now ≡ None = sym there ∙ here in
    absurd cc
pulled_both number old middle new numbers true shows advances same =
    let stays = shows.stays in
    let one = stays.goes.changes in
    let given = subst (λ (e : EngineState). HasGivenDrawn e number middle.held new.held) stays.goes.leaves.engine advances.given in
    let two = given.changes in
    let met : Some stays.now ≡ Some given.before = sym one.is ∙ two.was in
    let behind : stays.now ≡ given.before = cc in
    let later : stays.now.later ≡ given.before.later = ap (λ (r : HeldRows). r.later) behind in record {
      before = stays.before;
      now = record given.before { drawn = [] };
      goes = record {
        leaves = leaves_both old middle new stays.goes.leaves advances.leaves;
        changes = record {
          last = two.last ∙ one.last;
          count = two.count ∙ one.count;
          was = one.was;
          is = two.is;
          others = λ other differ. two.others other differ ∙ one.others other differ;
        };
      };
      gives = sym stays.left ∙ (ap (λ (l : List Row). l ++ stays.now.later) shows.drawn ∙ (ap (λ (l : List Row). row_of numbers middle.answers.positions ∷ l) later
          ∙ ap (λ (p : List ℕ). row_of numbers p ∷ given.before.later) (sym same)));
      count = shows.count ∙ ap length (sym same);
    }
