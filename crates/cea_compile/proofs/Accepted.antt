-- A query's answers are the accepted determinised runs over its substream. For callers of the crate too.
use Rattle.std.proofs.Common.{◌≡◌, refl, sym, subst, ◌∙◌, ℕ, ◌≤◌, ◌⊎◌, inl, inr, ◌↔◌, Bool, true, false, ◌&&◌, List, [], ◌∷◌, map, length, eqb, nat_le, Option, None, arith}
use Rattle.std.specs.Prelude.{if◌then◌else◌}
use Rattle.std.specs.List.{list_all}
use Rattle.std.proofs.lemmas.Bool.{eqb-true, eq-eqb, leb-true, le-leb, false≢true, and_parts, and_from, or_cases, or_left, or_right}
use Rattle.stream_schema.specs.Types.{Declared}
use Rattle.stream_schema.specs.declared.Event.{Event}
use Rattle.cel_terms.specs.declared.Query.{Query}
use Rattle.cel_terms.specs.Answers.{Answer, IsAnswer, IsAscending, IsInWindow, IsOfSubstream, substream}
use Rattle.cel_terms.specs.MeaningLaws.{IsSpan}
use Rattle.query_leaves.specs.Expand.{tree_of}
use Rattle.query_leaves.specs.Leaves.{occurrences}
use Rattle.cel_terms.proofs.Marked.{lies_selected}
use Rattle.cea_determinise.specs.Runs.{has_mark}
use Rattle.cea_determinise.specs.Strict.{Standing, begin, run_standing, accepted_standing}
use Rattle.cea_compile.specs.Paths.{reading}
use Rattle.cea_compile.specs.Covers.{Cover, AreWithin}
use Rattle.cea_compile.specs.Compiled.{automaton_of}
use Rattle.cea_compile.specs.DeterminisedRuns.{ListsSubstream, from_to, entry_at, IsAcceptedRun, AnswersAreAcceptedRuns}
use Rattle.cea_compile.proofs.Answers.{listed_is}
use Rattle.cea_compile.proofs.Queries.{answer_iff}
use Rattle.cea_compile.proofs.Entries.{ascends, ascends_filter, listed_filter, cover_from, is_entry}

span_of : (schema : Declared) (q : Query) (events : List Event) (end : ℕ) (answer : Answer) → IsAnswer schema q events end answer → IsSpan (substream schema q events end) answer.start end
span_of schema q events end answer a = (lies_selected (substream schema q events end) q.select q.formula answer.start end a.marks.valuation a.marks.means).span

all_listed : (span : List ℕ) (marks : List ℕ) → ((p : ℕ) → has_mark marks p ≡ true → has_mark span p ≡ true) → list_all (has_mark span) marks ≡ true
all_listed span [] f = refl
all_listed span (m ∷ ms) f =
    and_from (has_mark span m) (list_all (has_mark span) ms) (f m (or_left (eqb m m) (has_mark ms m) (eq-eqb m m refl)))
    (all_listed span ms (λ p l. f p (or_right (eqb p m) (has_mark ms p) l)))

listed_all : (span : List ℕ) (marks : List ℕ) → list_all (has_mark span) marks ≡ true → (p : ℕ) → has_mark marks p ≡ true → has_mark span p ≡ true
listed_all span [] h p l = absurd (false≢true l)
listed_all span (m ∷ ms) h p l =
    let parts = and_parts (has_mark span m) (list_all (has_mark span) ms) h in
    go parts.0 (λ k. listed_all span ms parts.1 p k) (or_cases (eqb p m) (has_mark ms p) l)
  where
    go : has_mark span m ≡ true → (has_mark ms p ≡ true → has_mark span p ≡ true) → (eqb p m ≡ true) ⊎ (has_mark ms p ≡ true) → has_mark span p ≡ true
    go here later (inl e) = subst (λ n. has_mark span n ≡ true) (sym (eqb-true p m e)) here
    go here later (inr k) = later k

module _ (schema : Declared) (q : Query) (events : List Event) (end : ℕ) (positions : List ℕ) (answer : Answer) (lists : ListsSubstream schema q events end positions) where
  abbrev span : List ℕ
  span = from_to answer.start end positions

  abbrev is_there : Bool
  is_there = has_mark span answer.start && (has_mark span end && list_all (has_mark span) answer.marks)

  abbrev automaton_run : Option Standing
  automaton_run = run_standing (automaton_of (tree_of q)) q.strict (has_mark answer.marks) begin (map (entry_at schema q events) span)

  in_range : ℕ → Bool
  in_range p = nat_le answer.start p && nat_le p end

  members : (p : ℕ) → (has_mark span p ≡ true) ↔ (IsOfSubstream schema q events end p × (answer.start ≤ p) × (p ≤ end))
  members p = (
    λ h. (
        let both = and_parts (has_mark positions p) (nat_le answer.start p && nat_le p end) (sym (listed_filter (λ x. nat_le answer.start x && nat_le x end) positions p) ∙ h) in
        let range = and_parts (nat_le answer.start p) (nat_le p end) both.1 in
        ((lists.exact p).0 ((listed_is positions p).0 both.0), leb-true answer.start p range.0, leb-true p end range.1)),
    λ h. (listed_filter (λ x. nat_le answer.start x && nat_le x end) positions p ∙
        and_from (has_mark positions p) (nat_le answer.start p && nat_le p end) ((listed_is positions p).1 ((lists.exact p).1 h.0))
        (and_from (nat_le answer.start p) (nat_le p end) (le-leb answer.start p h.1) (le-leb p end h.2))),
  )

  covers : IsOfSubstream schema q events end answer.start → IsOfSubstream schema q events end end → answer.start ≤ end → Cover (reading (substream schema q events end) (occurrences (tree_of q))) (automaton_of (tree_of q)).size answer.start (map (entry_at schema q events) span) end
  covers begins ends ordered =
      cover_from (reading (substream schema q events end) (occurrences (tree_of q))) (length (occurrences (tree_of q))) schema q events (is_entry schema q events end) end ends answer.start span begins ordered
      (ascends_filter (λ x. nat_le answer.start x && nat_le x end) positions (ascends positions lists.ascending)) members

  there : IsSpan (substream schema q events end) answer.start end → AreWithin (substream schema q events end) answer.start end answer.marks → is_there ≡ true
  there s w =
      let ordered = s.ordered in
      let low : answer.start ≤ answer.start = omega arith in
      let high : end ≤ end = omega arith in
      and_from (has_mark span answer.start) (has_mark span end && list_all (has_mark span) answer.marks) ((members answer.start).1 (s.begins, low, ordered))
      (and_from (has_mark span end) (list_all (has_mark span) answer.marks) ((members end).1 (s.ends, ordered, high))
      (all_listed span answer.marks (λ p l. (members p).1 (w.within p ((listed_is answer.marks p).0 l)))))

  taken : (b : Bool) → b ≡ true → accepted_standing (automaton_of (tree_of q)) automaton_run ≡ true → accepted_standing (automaton_of (tree_of q)) (if b then automaton_run else None) ≡ true
  taken true e h = h
  taken false e h = absurd (false≢true e)

  is_taken : (b : Bool) → accepted_standing (automaton_of (tree_of q)) (if b then automaton_run else None) ≡ true → (b ≡ true) × (accepted_standing (automaton_of (tree_of q)) automaton_run ≡ true)
  is_taken true h = (refl, h)
  is_taken false h = absurd (false≢true h)

  accepted_from_answer : IsAnswer schema q events end answer → IsAscending answer.marks × IsAcceptedRun schema q events positions end answer × IsInWindow schema q events answer.start end
  accepted_from_answer a =
      let s = span_of schema q events end answer a in
      let h = (answer_iff schema q events end answer (map (entry_at schema q events) span) (covers s.begins s.ends s.ordered)).0 a in
      (h.0.ascending, taken is_there (there s h.0) h.1, h.2)

  answer_from_accepted : IsAscending answer.marks × IsAcceptedRun schema q events positions end answer × IsInWindow schema q events answer.start end → IsAnswer schema q events end answer
  answer_from_accepted h =
      let run = is_taken is_there h.1 in
      let first = and_parts (has_mark span answer.start) (has_mark span end && list_all (has_mark span) answer.marks) run.0 in
      let rest = and_parts (has_mark span end) (list_all (has_mark span) answer.marks) first.1 in
      let begins = (members answer.start).0 first.0 in
      let ends = (members end).0 rest.0 in
      (answer_iff schema q events end answer (map (entry_at schema q events) span) (covers begins.0 ends.0 begins.2)).1 (
        record { ascending = h.0; within = λ p c. (members p).0 (listed_all span answer.marks rest.1 p ((listed_is answer.marks p).1 c)) },
        run.1,
        h.2,
      )

pub answers_are_accepted : AnswersAreAcceptedRuns
answers_are_accepted schema q events end positions answer lists =
    (accepted_from_answer schema q events end positions answer lists, answer_from_accepted schema q events end positions answer lists)
