-- What is left to be given, as queries are asked one after another and answers are drawn and given.
use Rattle.std.proofs.Common.{◌≡◌, ℕ, suc, ◌+◌, ◌-◌, ◌≤◌, ◌↔◌, List, [], ◌∷◌, ◌++◌, length, map, drop, Option, Some, None, refl, sym, ◌∙◌, ap, subst, append_assoc, arith}
use Rattle.std.specs.Prelude.{slice_get}
use Rattle.stream_schema.specs.declared.Event.{Event}
use Rattle.cel_terms.specs.declared.Query.{Query}
use Rattle.cel_terms.specs.Answers.{Answer, AreAnswersAt}
use Rattle.query_engine.specs.Engine.{EngineState, Open, StandsFor, rest}
use Rattle.query_engine.specs.Holding.{answer_of}
use Rattle.answer_text.specs.declared.Order.TheVariants.{Walk}
use Rattle.answer_text.specs.OutputRows.{Row, row_at, AreRowsOf, AreRowsAt}
use Rattle.answer_blocks.specs.Wanted.{to_give, AreWanted}
use Rattle.answer_blocks.proofs.Joined.{item_at, none_wanted}
use Rattle.core_service.specs.Answering.{AnswersState, drawn_answer, cursor_answers, answers_begun, rows_drawn, AreLeft, Leaves, LeavesDrawn, NoneIsLeft, HaveNoAnswer, IsNextQuery, CanAnswer}
use Rattle.core_service.proofs.Rows.{some_rows, rows_of, rows_from, skip_rows, none_after}

pub leaves_same : (engine : EngineState) (answers : AnswersState) → Leaves engine answers answers []
leaves_same engine answers = record { left = λ events rows stands h. h }

pub leaves_twice : (engine : EngineState) (old middle new : AnswersState) → Leaves engine old middle [] → Leaves engine middle new [] → Leaves engine old new []
leaves_twice engine old middle new one two = record { left = λ events rows stands h. one.left events rows stands (two.left events rows stands h) }

-- the rows of the first query and of those after it
later_of : (engine : EngineState) (events : List Event) (later : List Row) (n m : ℕ) → n ≡ m → AreRowsAt Walk engine.schema (n + 1) (drop n engine.queries) events (length events - 1) later →
    AreRowsAt Walk engine.schema (m + 1) (drop m engine.queries) events (length events - 1) later
later_of engine events later n m same h = subst (λ (k : ℕ). AreRowsAt Walk engine.schema (k + 1) (drop k engine.queries) events (length events - 1) later) same h

-- the same answers of the same query are left
pub leaves_begun : (engine : EngineState) (old new : AnswersState) → new.asked ≡ old.asked → answers_begun engine old ≡ answers_begun engine new → Leaves engine old new []
leaves_begun engine old new same begun = record {
  left = λ events rows stands h. record {
    later = h.later;
    later_are = later_of engine events h.later new.asked old.asked same h.later_are;
    are = h.are ∙ (ap (λ (n : ℕ). map (row_at n (length events - 1)) (answers_begun engine new) ++ h.later) same
        ∙ ap (λ (l : List Answer). map (row_at old.asked (length events - 1)) l ++ h.later) (sym begun));
  };
}

-- the queries up to another one have no answer
pub leaves_none : (engine : EngineState) (old new : AnswersState) → old.asked ≤ new.asked → new.asked ≤ length engine.queries → HaveNoAnswer engine old.asked new.asked →
    answers_begun engine old ≡ [] → answers_begun engine new ≡ [] → Leaves engine old new []
leaves_none engine old new low high none before now = record {
  left = λ events rows stands h.
      let far : old.asked + (new.asked - old.asked) ≡ new.asked = omega arith in
      let end = length events - 1 in
      record {
        later = h.later;
        later_are = skip_rows engine.schema engine.queries events end old.asked (new.asked - old.asked) h.later (omega arith)
            (λ k q from upto at. none.none k q events from (omega arith) at stands)
            (later_of engine events h.later new.asked (old.asked + (new.asked - old.asked)) (sym far) h.later_are);
        are = h.are ∙ (ap (λ (l : List Answer). map (row_at new.asked end) l ++ h.later) now ∙ sym (ap (λ (l : List Answer). map (row_at old.asked end) l ++ h.later) before));
      };
}

-- the next query is asked, and its answers are as many as it wants
pub leaves_asked : (engine : EngineState) (old new : AnswersState) (number : ℕ) → answers_begun engine old ≡ [] → IsNextQuery engine old.asked number → new.asked ≡ number → AreWanted engine number (answers_begun engine new) →
    Leaves engine old new []
leaves_asked engine old new number before next asked are = record {
  left = λ events rows stands h.
      let end = length events - 1 in
      let k = number - 1 in
      let above = next.above in
      let within = next.within in
      let item = item_at engine.queries k (omega arith) in
      let w = are.are events item.0 stands item.1 in
      let whole : k + 1 ≡ number = omega arith in
      let up : suc k ≡ number = omega arith in
      let begun = answers_begun engine new in
      let here : AreRowsOf Walk engine.schema number item.0 events end (map (row_at number end) begun) =
      subst (λ (l : List Answer). AreRowsOf Walk engine.schema number item.0 events end (map (row_at number end) l)) (sym w.2) (rows_of engine.schema number item.0 events end w.0 w.1) in
      let front = subst (λ (n : ℕ). AreRowsOf Walk engine.schema n item.0 events end (map (row_at number end) begun)) (sym whole) here in
      let behind = later_of engine events h.later new.asked (suc k) (asked ∙ sym up) h.later_are in
      let rows_are = rows_from engine.schema engine.queries k item.0 events end (map (row_at number end) begun) h.later (omega arith) item.1 front behind in
      let far : old.asked + (k - old.asked) ≡ k = omega arith in
      let all = map (row_at number end) begun ++ h.later in
      let skipped = skip_rows engine.schema engine.queries events end old.asked (k - old.asked) all (omega arith)
      (λ j q from upto at. next.between.none j q events from (omega arith) at stands)
      (later_of engine events all k (old.asked + (k - old.asked)) (sym far) rows_are) in
      let same : rows ≡ all = h.are ∙ ap (λ (n : ℕ). map (row_at n end) begun ++ h.later) asked in
      record {
        later = rows;
        later_are = subst (λ (l : List Row). AreRowsAt Walk engine.schema (old.asked + 1) (drop old.asked engine.queries) events end l) (sym same) skipped;
        are = sym (ap (λ (l : List Answer). map (row_at old.asked end) l ++ rows) before);
      };
}

-- a query without an answer wants none
pub wants_none : (engine : EngineState) (number : ℕ) →
    ((events : List Event) (q : Query) → StandsFor engine events → slice_get engine.queries (number - 1) ≡ Some q → AreAnswersAt engine.schema q events (length events - 1) []) → AreWanted engine number []
wants_none engine number none = record { are = λ events q stands at. ([], none events q stands at, sym (none_wanted q.any)) }

-- no answer is drawn, and no cursor is there
pub begun_none : (engine : EngineState) (answers : AnswersState) → answers.drawn ≡ None → answers.cursors ≡ [] → answers_begun engine answers ≡ []
begun_none engine answers drawn cursors =
    ap (λ (d : Option ℕ). drawn_answer d answers.cursors ++ cursor_answers engine answers.wanted answers.cursors) drawn ∙ ap (λ (c : List Open). cursor_answers engine answers.wanted c) cursors

-- a new cursor is there
pub begun_one : (engine : EngineState) (answers : AnswersState) (cursor : Open) → answers.drawn ≡ None → answers.cursors ≡ cursor ∷ [] → answers_begun engine answers ≡ to_give engine answers.wanted cursor
begun_one engine answers cursor drawn cursors =
    ap (λ (d : Option ℕ). drawn_answer d answers.cursors ++ cursor_answers engine answers.wanted answers.cursors) drawn ∙ ap (λ (c : List Open). cursor_answers engine answers.wanted c) cursors

-- the next query has no answer
pub leaves_skipped : (engine : EngineState) (old new : AnswersState) (number : ℕ) → answers_begun engine old ≡ [] → IsNextQuery engine old.asked number → new.asked ≡ number → new.drawn ≡ None → new.cursors ≡ [] →
    ((events : List Event) (q : Query) → StandsFor engine events → slice_get engine.queries (number - 1) ≡ Some q → AreAnswersAt engine.schema q events (length events - 1) []) → Leaves engine old new []
leaves_skipped engine old new number before next asked drawn cursors none =
    leaves_asked engine old new number before next asked (subst (AreWanted engine number) (sym (begun_none engine new drawn cursors)) (wants_none engine number none))

-- the next query has these answers, and wants so many
pub leaves_opened : (engine : EngineState) (old new : AnswersState) (number : ℕ) (cursor : Open) (query : Query) → answers_begun engine old ≡ [] → IsNextQuery engine old.asked number → new.asked ≡ number → new.drawn ≡ None →
    new.cursors ≡ cursor ∷ [] → new.wanted ≡ query.any → slice_get engine.queries (number - 1) ≡ Some query →
    ((events : List Event) (q : Query) → StandsFor engine events → slice_get engine.queries (number - 1) ≡ Some q → AreAnswersAt engine.schema q events (length events - 1) (map answer_of (rest engine cursor))) → Leaves engine old new []
leaves_opened engine old new number cursor query before next asked drawn cursors any there answers =
    let begun : answers_begun engine new ≡ to_give engine query.any cursor = begun_one engine new cursor drawn cursors ∙ ap (λ (w : Option ℕ). to_give engine w cursor) any in
    let are : AreWanted engine number (to_give engine query.any cursor) = record {
      are = λ events q stands at.
          let same : query ≡ q = cc in
          (map answer_of (rest engine cursor), answers events q stands at, ap (λ (p : Query). to_give engine p.any cursor) same);
    } in
    leaves_asked engine old new number before next asked (subst (AreWanted engine number) (sym begun) are)

-- all queries were asked, and their answers were given
pub none_left : (engine : EngineState) (answers : AnswersState) → answers_begun engine answers ≡ [] → answers.asked ≡ length engine.queries → NoneIsLeft engine answers
none_left engine answers begun asked = record {
  none = λ events rows stands. (
    λ h.
        let end = length events - 1 in
        let none : drop answers.asked engine.queries ≡ [] = ap (λ (n : ℕ). drop n engine.queries) asked ∙ none_after engine.queries in
        let empty : h.later ≡ [] = subst (λ (qs : List Query). AreRowsAt Walk engine.schema (answers.asked + 1) qs events end h.later) none h.later_are in
        h.are ∙ (ap (λ (l : List Answer). map (row_at answers.asked end) l ++ h.later) begun ∙ empty),
    λ e.
        let end = length events - 1 in
        let none : drop answers.asked engine.queries ≡ [] = ap (λ (n : ℕ). drop n engine.queries) asked ∙ none_after engine.queries in
        let nothing : AreRowsAt Walk engine.schema (answers.asked + 1) [] events end [] = refl in
        record {
          later = [];
          later_are = subst (λ (qs : List Query). AreRowsAt Walk engine.schema (answers.asked + 1) qs events end []) (sym none) nothing;
          are = e ∙ sym (ap (λ (l : List Answer). map (row_at answers.asked end) l ++ []) begun);
        },
  );
}

-- at a new position all rows are left
pub all_left : (engine : EngineState) (answers : AnswersState) (events : List Event) (rows : List Row) → answers ≡ record { asked = 0; cursors = []; wanted = None; drawn = None; positions = [] } →
    AreLeft engine answers events rows ↔ AreRowsAt Walk engine.schema 1 engine.queries events (length events - 1) rows
all_left engine answers events rows first = subst (λ (a : AnswersState). AreLeft engine a events rows ↔ AreRowsAt Walk engine.schema 1 engine.queries events (length events - 1) rows) (sym first) (
  λ h. subst (AreRowsAt Walk engine.schema 1 engine.queries events (length events - 1)) (sym h.are) h.later_are,
  λ h. record { later = rows; later_are = h; are = refl },
)

-- some rows are left
pub some_left : (engine : EngineState) (answers : AnswersState) (events : List Event) → (rows : List Row) × AreLeft engine answers events rows
some_left engine answers events =
    let end = length events - 1 in
    let later = some_rows engine.schema (answers.asked + 1) (drop answers.asked engine.queries) events end in
    (map (row_at answers.asked end) (answers_begun engine answers) ++ later.0, record { later = later.0; later_are = later.1; are = refl })

-- the answer that was drawn is given
pub leaves_drawn : (engine : EngineState) (old : AnswersState) → LeavesDrawn engine old (record old { drawn = None })
leaves_drawn engine old = record {
  left = λ events rows stands h.
      let end = length events - 1 in
      let rest = cursor_answers engine old.wanted old.cursors in
      record {
        later = h.later;
        later_are = h.later_are;
        are = ap (λ (l : List Row). rows_drawn old end ++ l) h.are ∙ (sym (append_assoc (rows_drawn old end) (map (row_at old.asked end) rest) h.later)
            ∙ ap (λ (l : List Row). l ++ h.later) (sym (map_both (row_at old.asked end) (drawn_answer old.drawn old.cursors) rest)));
      };
}
  where
    map_both : {A B : Type 0} (f : A → B) (xs ys : List A) → map f (xs ++ ys) ≡ map f xs ++ map f ys
    map_both f [] ys = refl
    map_both f (x ∷ xs) ys = ap (λ l. f x ∷ l) (map_both f xs ys)

-- no query is left to be asked
pub asked_all : (engine : EngineState) (first now : AnswersState) (asked count : ℕ) (cursors : List Open) (any drawn : Option ℕ) (positions : List ℕ) →
    record { asked = asked; cursors = cursors; wanted = any; drawn = drawn; positions = positions } ≡ now → count ≡ length engine.queries → CanAnswer engine now → Leaves engine first now [] →
    answers_begun engine now ≡ [] → HaveNoAnswer engine now.asked (length engine.queries) →
    CanAnswer engine (record { asked = count; cursors = cursors; wanted = any; drawn = drawn; positions = positions }) × Leaves engine first (record { asked = count; cursors = cursors; wanted = any; drawn = drawn; positions = positions }) []
asked_all engine first now asked count cursors any drawn positions is all can leaves begun none =
    let old : AnswersState = record { asked = asked; cursors = cursors; wanted = any; drawn = drawn; positions = positions } in
    let new : AnswersState = record { asked = count; cursors = cursors; wanted = any; drawn = drawn; positions = positions } in
    let before : CanAnswer engine old = subst (CanAnswer engine) (sym is) can in
    let nothing : answers_begun engine old ≡ [] = subst (λ (a : AnswersState). answers_begun engine a ≡ []) (sym is) begun in
    let within = before.within in
    let out : HaveNoAnswer engine asked count = subst (HaveNoAnswer engine asked) (sym all) (subst (λ (a : AnswersState). HaveNoAnswer engine a.asked (length engine.queries)) (sym is) none) in (
      record { fit = before.fit; one = before.one; within = omega arith; seen = λ less. absurd (omega arith) },
      leaves_twice engine first old new (subst (λ (a : AnswersState). Leaves engine first a []) (sym is) leaves) (leaves_none engine old new (omega arith) (omega arith) out nothing nothing),
    )
