-- What is written for events that come after others: the output at the positions behind these.
use Rattle.std.specs.Prelude.{◌≡◌, ℕ, zero, suc, ◌+◌, ◌-◌, ◌↔◌, List, [], ◌++◌, length}
use Rattle.stream_schema.specs.Types.{Declared}
use Rattle.stream_schema.specs.declared.Event.{Event}
use Rattle.cel_terms.specs.declared.Query.{Query}
use Rattle.answer_text.specs.declared.Order.{Order}
use Rattle.answer_text.specs.Output.{AreBlocks, IsOutput}
use Rattle.answer_text.specs.OutputRows.{Row, AreRowsAt, AreOutputRows}

-- the output at so many positions, of which this is the first
abbrev pub IsOutputFrom : ℕ → ℕ → Order → Declared → List Query → List Event → List ℕ → Type 0
IsOutputFrom first zero order schema queries events bytes = bytes ≡ []
IsOutputFrom first (suc n) order schema queries events bytes = (front : List ℕ) × (rest : List ℕ)
    × IsOutputFrom first n order schema queries events front
    × AreBlocks order schema 1 queries events (first + n) rest × (bytes ≡ front ++ rest)

-- the rows at so many positions, of which this is the first
abbrev pub AreRowsFrom : ℕ → ℕ → Order → Declared → List Query → List Event → List Row → Type 0
AreRowsFrom first zero order schema queries events rows = rows ≡ []
AreRowsFrom first (suc n) order schema queries events rows = (front : List Row) × (rest : List Row)
    × AreRowsFrom first n order schema queries events front
    × AreRowsAt order schema 1 queries events (first + n) rest × (rows ≡ front ++ rest)

-- The output at the positions behind the first so many; where there are none, it is the whole output.
abbrev pub IsOutputAfter : ℕ → Order → Declared → List Query → List Event → List ℕ → Type 0
IsOutputAfter zero order schema queries events bytes = IsOutput order schema queries events bytes
IsOutputAfter (suc n) order schema queries events bytes = IsOutputFrom (suc n) (length events - suc n) order schema queries events bytes

-- its rows
abbrev pub AreRowsAfter : ℕ → Order → Declared → List Query → List Event → List Row → Type 0
AreRowsAfter zero order schema queries events rows = AreOutputRows order schema queries events rows
AreRowsAfter (suc n) order schema queries events rows = AreRowsFrom (suc n) (length events - suc n) order schema queries events rows

-- In either case it is the output from there on.
abbrev pub OutputAfterIsFromThere : Type 0
OutputAfterIsFromThere = (first : ℕ) (order : Order) (schema : Declared) (queries : List Query) (events : List Event) (bytes : List ℕ) →
    (IsOutputAfter first order schema queries events bytes) ↔ (IsOutputFrom first (length events - first) order schema queries events bytes)

-- The output is that of the first events, and behind it that of those that come after them.
abbrev pub OutputIsInTwoParts : Type 0
OutputIsInTwoParts = (order : Order) (schema : Declared) (queries : List Query) (before more : List Event) (bytes : List ℕ) →
    (IsOutput order schema queries (before ++ more) bytes)
    ↔ ((front : List ℕ) × (rest : List ℕ) × IsOutput order schema queries before front × IsOutputAfter (length before) order schema queries (before ++ more) rest × (bytes ≡ front ++ rest))
