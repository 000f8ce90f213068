-- What is written of a complex event: by which events, under which names, it came about, or that it is no answer.
use Rattle.std.specs.Prelude.{◌≡◌, ℕ, ◌-◌, ◌==◌, ◌⊎◌, ◌↔◌, List, ◌++◌, Contains, Option, Some, None, slice_get, flat_map, if◌then◌else◌}
use Rattle.stream_schema.specs.Types.{Declared}
use Rattle.stream_schema.specs.declared.Event.{Event}
use Rattle.cel_terms.specs.declared.Query.{Query}
use Rattle.cel_terms.specs.Answers.{IsAnswer, IsAscending}
use Rattle.answer_text.specs.Output.{line}
use Rattle.answer_text.specs.Explanations.{binding_line, none_line}
use Rattle.match_explain.specs.declared.Binding.{Binding}
use Rattle.match_explain.specs.Explains.{Explains}
use Rattle.command_words.specs.declared.Question.{Question}

-- the query of this number, from 1
abbrev pub query_at : List Query → ℕ → Option Query
query_at queries number = if number == 0 then None else slice_get queries (number - 1)

-- The marks are the positions that were given, ascending and each once.
pub record AreMarksOf (positions marks : List ℕ) : Type 0 where
  pub ascending : IsAscending marks
  pub same : (p : ℕ) → Contains positions p ↔ Contains marks p

-- the complex event with these marks is an answer of the query of the number
abbrev pub IsSought : Declared → List Query → List Event → Question → List ℕ → Type 0
IsSought schema queries events a marks =
    (q : Query) × (query_at queries a.query ≡ Some q) × IsAnswer schema q events a.end (record { start = a.start; marks = marks })

-- the line of the complex event, and a line for each of its names
abbrev pub told : Question → List ℕ → List Binding → List ℕ
told a marks bindings =
    line a.query a.end (record { start = a.start; marks = marks }) ++ flat_map (λ b. binding_line b.name b.positions) bindings

-- The complex event is an answer, and the bytes tell what explains it.
pub record IsTold (schema : Declared) (queries : List Query) (events : List Event) (a : Question) (marks bytes : List ℕ) : Type 0 where
  pub query : Query
  pub at : query_at queries a.query ≡ Some query
  pub answer : IsAnswer schema query events a.end (record { start = a.start; marks = marks })
  pub bindings : List Binding
  pub explains : Explains schema query events a.start a.end marks bindings
  pub written : bytes ≡ told a marks bindings

-- the bytes tell what explains it, or that there is no such answer
abbrev pub Tells : Declared → List Query → List Event → Question → List ℕ → List ℕ → Type 0
Tells schema queries events a marks bytes =
    IsTold schema queries events a marks bytes ⊎ ((IsSought schema queries events a marks → ⊥) × (bytes ≡ none_line))

-- What is written of a question about these queries over these events.
pub record IsExplanation (schema : Declared) (queries : List Query) (events : List Event) (a : Question) (bytes : List ℕ) : Type 0 where
  pub marks : List ℕ
  pub are : AreMarksOf a.positions marks
  pub tells : Tells schema queries events a marks bytes
