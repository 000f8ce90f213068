-- The positions of a span, and what of a complex event they decide.
-- Nobody needs to believe these; the public contracts speak of the meaning alone.
use Rattle.std.specs.Prelude.{◌≡◌, ℕ, ◌-◌, Bool, true, not, ◌&&◌, ◌||◌, nat_lt, List, length, slice_index_or}
use Rattle.std.specs.List.{list_all}
use Rattle.stream_schema.specs.Types.{Declared}
use Rattle.stream_schema.specs.declared.Event.{Event}
use Rattle.cel_terms.specs.declared.Query.{Query}
use Rattle.cel_terms.specs.Answers.{IsAscending}
use Rattle.cel_lists.specs.Below.{is_in_window}
use Rattle.cea_determinise.specs.Runs.{has_mark}

-- above the first of the marks, and below the last
abbrev pub lies_between : List ℕ → ℕ → Bool
lies_between marks p = nat_lt (slice_index_or marks 0 p) p && nat_lt p (slice_index_or marks (length marks - 1) p)

-- each position of the span between two marks is marked, where the query is strict
abbrev pub is_strict_enough : Bool → List ℕ → List ℕ → Bool
is_strict_enough strict span marks = not strict || list_all (λ p. not (lies_between marks p) || has_mark marks p) span

-- All that a complex event needs besides a run: marks of the span that ascend, its ends in the span, the window, and STRICT.
pub record MayBe (schema : Declared) (q : Query) (events : List Event) (start end : ℕ) (span marks : List ℕ) : Type 0 where
  pub ascending : IsAscending marks
  pub window : is_in_window schema q.window events start end ≡ true
  pub begins : has_mark span start ≡ true
  pub ends : has_mark span end ≡ true
  pub within : list_all (has_mark span) marks ≡ true
  pub strict : is_strict_enough q.strict span marks ≡ true
