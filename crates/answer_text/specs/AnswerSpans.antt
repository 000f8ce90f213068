-- Complex events that are held: the positions of all in one list.
use Rattle.std.specs.Prelude.{ℕ, ◌-◌, ◌≤◌, List, length, take, drop, reverse}
use Rattle.cel_terms.specs.Answers.{Answer}
use Rattle.answer_text.specs.declared.answers.Span.{Span}

-- the complex event with these marked positions, which are given greatest first
abbrev pub answer_of : ℕ → List ℕ → Answer
answer_of start falling = record { start = start; marks = reverse falling }

-- the positions of a span, greatest first
abbrev pub positions_in : List ℕ → Span → List ℕ
positions_in positions span = take (span.to - span.from) (drop span.from positions)

-- the complex event of a span
abbrev pub answer_in : List ℕ → Span → Answer
answer_in positions span = answer_of span.start (positions_in positions span)

-- The span lies within the list.
pub record IsWithin (positions : List ℕ) (span : Span) : Type 0 where
  pub order : span.from ≤ span.to
  pub inside : span.to ≤ length positions
