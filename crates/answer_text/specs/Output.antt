-- What is written for a stream: a line for each complex event, by position and then by query.
use Rattle.std.specs.Prelude.{◌≡◌, ℕ, zero, suc, ◌+◌, ◌<◌, ◌⊎◌, ◌↔◌, min, List, [], ◌∷◌, ◌++◌, length, Contains, Option, Some, None, slice_get, flat_map, decimal, codes}
use Rattle.cer_base.specs.declared.bytes.TheConstants.{COMMA, LINE_FEED}
use Rattle.cer_base.specs.Repeats.{HasNoRepeats}
use Rattle.stream_schema.specs.Types.{Declared}
use Rattle.stream_schema.specs.declared.Event.{Event}
use Rattle.cel_terms.specs.declared.Query.{Query}
use Rattle.cel_terms.specs.Answers.{Answer, IsAnswer}
use Rattle.answer_text.specs.declared.Order.{Order}
use Rattle.answer_text.specs.declared.Order.TheVariants.{Walk, Sorted}

-- 0,3,5
abbrev pub positions_text : List ℕ → List ℕ
positions_text [] = []
positions_text (p ∷ []) = decimal p
positions_text (p ∷ q ∷ ps) = decimal p ++ COMMA ∷ positions_text (q ∷ ps)

-- 1 [0,5] {0,3,5}
abbrev pub line : ℕ → ℕ → Answer → List ℕ
line number end answer =
    decimal number ++ codes " [" ++ decimal answer.start ++ COMMA ∷ decimal end ++ codes "] {"
    ++ positions_text answer.marks ++ codes "}" ++ LINE_FEED ∷ []

-- by the first place where two lists differ, a proper prefix being less
abbrev pub IsBefore : List ℕ → List ℕ → Type 0
IsBefore [] [] = ⊥
IsBefore [] (y ∷ ys) = Unit {0}
IsBefore (x ∷ xs) [] = ⊥
IsBefore (x ∷ xs) (y ∷ ys) = (x < y) ⊎ ((x ≡ y) × IsBefore xs ys)

abbrev pub ComesBefore : Answer → Answer → Type 0
ComesBefore a b = IsBefore (a.start ∷ a.marks) (b.start ∷ b.marks)

abbrev pub EachBeforeNext : List Answer → Type 0
EachBeforeNext answers = (i j : ℕ) (a b : Answer) → i < j
    → slice_get answers i ≡ Some a → slice_get answers j ≡ Some b → ComesBefore a b

abbrev pub AreInOrder : Order → List Answer → Type 0
AreInOrder Walk answers = Unit {0}
AreInOrder Sorted answers = EachBeforeNext answers

-- all that there are, or with ANY that many of them
abbrev pub AreEnough : Option ℕ → (Answer → Type 0) → List Answer → Type 0
AreEnough None Is answers = (answer : Answer) → Is answer → Contains answers answer
AreEnough (Some n) Is answers = (all : List Answer) × HasNoRepeats all
    × ((answer : Answer) → Is answer ↔ Contains all answer) × (length answers ≡ min n (length all))

-- the lines of one query at one position
pub record IsBlock (order : Order) (schema : Declared) (number : ℕ) (q : Query) (events : List Event) (end : ℕ) (bytes : List ℕ) : Type 0 where
  pub answers : List Answer
  pub distinct : HasNoRepeats answers
  pub right : (answer : Answer) → Contains answers answer → IsAnswer schema q events end answer
  pub enough : AreEnough q.any (IsAnswer schema q events end) answers
  pub ordered : AreInOrder order answers
  pub written : bytes ≡ flat_map (line number end) answers

-- the blocks of the queries at one position, of which the first has this number
abbrev pub AreBlocks : Order → Declared → ℕ → List Query → List Event → ℕ → List ℕ → Type 0
AreBlocks order schema number [] events end bytes = bytes ≡ []
AreBlocks order schema number (q ∷ qs) events end bytes = (front : List ℕ) × (rest : List ℕ)
    × IsBlock order schema number q events end front
    × AreBlocks order schema (number + 1) qs events end rest × (bytes ≡ front ++ rest)

-- the output at the first n positions
abbrev pub IsOutputOf : ℕ → Order → Declared → List Query → List Event → List ℕ → Type 0
IsOutputOf zero order schema queries events bytes = bytes ≡ []
IsOutputOf (suc n) order schema queries events bytes = (front : List ℕ) × (rest : List ℕ)
    × IsOutputOf n order schema queries events front
    × AreBlocks order schema 1 queries events n rest × (bytes ≡ front ++ rest)

-- What the program writes for a stream of events.
abbrev pub IsOutput : Order → Declared → List Query → List Event → List ℕ → Type 0
IsOutput order schema queries events bytes = IsOutputOf (length events) order schema queries events bytes
