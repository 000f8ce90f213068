-- What is left over a compaction that holds the cursor.
use Rattle.std.proofs.Common.{◌≡◌, ◌∙◌, sym, refl, ap, subst, ℕ, ◌+◌, ◌-◌, List, [], ◌∷◌, ◌++◌, length, drop, map, reverse, Option, Some, None, arith}
use Rattle.stream_schema.specs.Types.{Declared}
use Rattle.stream_schema.specs.declared.Event.{Event}
use Rattle.cel_terms.specs.declared.Query.{Query}
use Rattle.cel_terms.specs.Answers.{Answer}
use Rattle.query_engine.specs.Engine.{EngineState, Open, SameQueries}
use Rattle.query_engine.specs.Holding.{answer_of}
use Rattle.answer_text.specs.declared.Order.TheVariants.{Walk}
use Rattle.answer_text.specs.OutputRows.{Row, row_at, AreRowsAt}
use Rattle.answer_blocks.specs.Wanted.{wanted, to_give}
use Rattle.core_service.specs.Answering.{AnswersState, AreKept, drawn_answer, cursor_answers, answers_begun, AreLeft, SameLeft}

-- the rows of the queries from the one after this number on
abbrev Behind : Declared → ℕ → List Query → List Event → List Row → Type 0
Behind schema asked queries events later = AreRowsAt Walk schema (asked + 1) (drop asked queries) events (length events - 1) later

drawn_kept : (drawn : Option ℕ) (b : Open) (bs : List Open) (a : Open) (later : List Open) → a.path ≡ b.path → drawn_answer drawn (b ∷ bs) ≡ drawn_answer drawn (a ∷ later)
drawn_kept None b bs a later same = refl
drawn_kept (Some start) b bs a later same = ap (λ (p : List ℕ). record { start = start; marks = reverse p } ∷ []) (sym same)

-- the cursor is still to give the same
begun_kept : (old new : EngineState) (any drawn : Option ℕ) (before after : List Open) → AreKept old new before after →
    drawn_answer drawn before ++ cursor_answers old any before ≡ drawn_answer drawn after ++ cursor_answers new any after
begun_kept old new any drawn [] [] kept = refl
begun_kept old new any drawn [] (a ∷ later) kept = let long = kept.count in absurd (omega arith)
begun_kept old new any drawn (b ∷ bs) [] kept = let long = kept.count in absurd (omega arith)
begun_kept old new any drawn (b ∷ bs) (a ∷ later) kept =
    let one = kept.each 0 b (omega arith) in
    let front = drawn_kept drawn b bs a later one.path in
    let back : to_give old any b ≡ to_give new any a = ap (λ l. wanted any (map answer_of l)) (sym one.rest) in
    ap (λ (l : List Answer). l ++ to_give old any b) front ∙ ap (λ (l : List Answer). drawn_answer drawn (a ∷ later) ++ l) back

-- so the same rows are left
pub left_kept : (old new : EngineState) (before after : AnswersState) → SameQueries old new → after ≡ record before { cursors = after.cursors } → AreKept old new before.cursors after.cursors → SameLeft old new before after
left_kept old new before after same is kept = record {
  left = λ events rows.
      let asked : after.asked ≡ before.asked = ap (λ (a : AnswersState). a.asked) is in
      let drawn : after.drawn ≡ before.drawn = ap (λ (a : AnswersState). a.drawn) is in
      let any : after.wanted ≡ before.wanted = ap (λ (a : AnswersState). a.wanted) is in
      let begun : answers_begun old before ≡ answers_begun new after = begun_kept old new before.wanted before.drawn before.cursors after.cursors kept
      ∙ (ap (λ (d : Option ℕ). drawn_answer d after.cursors ++ cursor_answers new before.wanted after.cursors) (sym drawn) ∙ ap (λ (w : Option ℕ). drawn_answer after.drawn after.cursors ++ cursor_answers new w after.cursors) (sym any)) in
      (moved new old after before events rows (sym same.0) (sym same.1) (sym asked) (sym begun), moved old new before after events rows same.0 same.1 asked begun);
}
  where
    moved : (e f : EngineState) (a b : AnswersState) (events : List Event) (rows : List Row) → f.schema ≡ e.schema → f.queries ≡ e.queries → b.asked ≡ a.asked → answers_begun e a ≡ answers_begun f b → AreLeft e a events rows → AreLeft f b events rows
    moved e f a b events rows schema queries asked begun h = record {
      later = h.later;
      later_are = subst (λ (n : ℕ). Behind f.schema n f.queries events h.later) (sym asked) (subst (λ (qs : List Query). Behind f.schema a.asked qs events h.later) (sym queries) (subst (λ (s : Declared). Behind s a.asked e.queries events h.later) (sym schema) h.later_are));
      are = h.are ∙ (ap (λ (l : List Answer). map (row_at a.asked (length events - 1)) l ++ h.later) begun ∙ ap (λ (n : ℕ). map (row_at n (length events - 1)) (answers_begun f b) ++ h.later) (sym asked));
    }

-- The cursors were held in a compaction.
pub left_held : (old new : EngineState) (asked : ℕ) (cursors now : List Open) (any drawn : Option ℕ) (positions : List ℕ) (first : AnswersState) →
    record { asked = asked; cursors = cursors; wanted = any; drawn = drawn; positions = positions } ≡ first → SameQueries old new → AreKept old new cursors now →
    SameLeft old new first (record { asked = asked; cursors = now; wanted = any; drawn = drawn; positions = positions })
left_held old new asked cursors now any drawn positions first is same kept =
    let last : AnswersState = record { asked = asked; cursors = now; wanted = any; drawn = drawn; positions = positions } in
    subst (λ (a : AnswersState). SameLeft old new a last) is (left_kept old new (record { asked = asked; cursors = cursors; wanted = any; drawn = drawn; positions = positions }) last same refl kept)
