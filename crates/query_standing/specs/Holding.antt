-- Open matches by the state of their run, as plain data, and which of them are answers. After "CORE: a Complex Event Recognition Engine" (PVLDB 2022).
use Rattle.std.specs.Prelude.{◌≡◌, ℕ, ℤ, Bool, true, List, map, reverse, filter, int_le}
use Rattle.cer_base.specs.declared.node.Stamp.{Stamp}
use Rattle.cer_base.specs.Repeats.{HasNoRepeats}
use Rattle.cer_base.specs.Members.{Member, recent}
use Rattle.cel_terms.specs.Answers.{Answer}
use Rattle.cea_determinise.specs.Runs.{Automaton, accepts}
use Rattle.cea_determinise.specs.Strict.{Standing}
use Rattle.event_update.specs.Reach.{Seen, Reaches, AllHave, IsComplete, all_of}

-- Each list has members whose runs over the events end in the list's state, all those that start at the low clock or later, and none twice.
pub record Holds (a : Automaton) (strict : Bool) (standing : ℕ → Standing) (low : ℤ) (xs : List Seen) (rows : List (ℕ × List Member)) : Type 0 where
  pub sound : AllHave (λ n m. Reaches a strict xs (standing n) m) rows
  pub complete : IsComplete a strict xs standing (λ (s : Stamp). int_le low s.clock ≡ true) rows
  pub distinct : HasNoRepeats (all_of rows)

-- the lists of accepting states
abbrev pub accepting : {A : Type 0} → Automaton → (ℕ → Standing) → List (ℕ × A) → List (ℕ × A)
accepting {A} a standing rows = filter (λ (r : ℕ × A). accepts a (standing r.0).sets) rows

-- a member as an answer: its positions ascend there
abbrev pub answer_of : Member → Answer
answer_of m = record { start = m.start.pos; marks = reverse m.positions }

-- the answers that open matches give: those of accepting states that start at the low clock or later
abbrev pub answers_in : Automaton → (ℕ → Standing) → ℤ → List (ℕ × List Member) → List Answer
answers_in a standing low rows = map answer_of (recent low (all_of (accepting a standing rows)))

-- the lists without the members that start below the low clock
abbrev pub dropped : ℤ → List (ℕ × List Member) → List (ℕ × List Member)
dropped low rows = map (λ (r : ℕ × List Member). (r.0, recent low r.1)) rows
