-- A query's answers are what the determinised runs of its automaton accept.
use Rattle.std.proofs.Common.{◌≡◌, refl, sym, subst, ℕ, ◌↔◌, Bool, true, List, [], ◌∷◌, ◌++◌, Option, Some, None, option_and_then}
use Rattle.stream_schema.specs.Types.{Declared}
use Rattle.stream_schema.specs.declared.Event.{Event}
use Rattle.cel_terms.specs.declared.Name.{Name}
use Rattle.cel_terms.specs.declared.Query.{Query}
use Rattle.cel_terms.specs.Answers.{IsInWindow, Answer, IsAnswer, selected, substream}
use Rattle.query_leaves.specs.LeafTree.{LeafTree}
use Rattle.query_leaves.specs.Expand.{Occurrence, expand, selected_tree, tree_of}
use Rattle.query_leaves.specs.Leaves.{occurrences}
use Rattle.cea_determinise.specs.Runs.{Automaton, Entry, has_mark}
use Rattle.cea_determinise.specs.Strict.{Standing, begin, next_standing, run_standing, accepted_standing}
use Rattle.cea_compile.specs.Paths.{Reading, MayComeAfter, tree_meaning, reading}
use Rattle.cea_compile.specs.Covers.{IsEntry, Cover, CoverAfter, AreWithin}
use Rattle.cea_compile.specs.Compiled.{automaton_of}
use Rattle.cel_terms.specs.Meaning.{Stream, Meaning, meaning, only_names}
use Rattle.cea_compile.proofs.Expand.{Same, Same_trans, renamed_same, renamed_tree, expanded}
use Rattle.cea_compile.proofs.Compiled.{automaton_is}
use Rattle.cea_compile.proofs.Strict.{marks_iff_standing}

selected_expanded : (stream : Stream) (select : Option (List Name)) (part : Meaning) (t : LeafTree Occurrence) → Same part (tree_meaning stream t) → Same (selected select part) (tree_meaning stream (selected_tree select t))
selected_expanded stream None part t h = h
selected_expanded stream (Some names) part t h = Same_trans _ _ _ (renamed_same (only_names names) _ _ h) (renamed_tree stream (only_names names) t)

pub query_expanded : (stream : Stream) (q : Query) → Same (selected q.select (meaning stream q.formula)) (tree_meaning stream (tree_of q))
query_expanded stream q = selected_expanded stream q.select (meaning stream q.formula) (expand q.formula) (expanded stream q.formula)

-- The query has the answer at the end exactly where its marks lie there, the determinised run that takes them accepts, and it is in the window.
pub answer_iff : (schema : Declared) (q : Query) (events : List Event) (end : ℕ) (answer : Answer) (xs : List Entry) → Cover (reading (substream schema q events end) (occurrences (tree_of q))) (automaton_of (tree_of q)).size answer.start xs end → IsAnswer schema q events end answer ↔ (AreWithin (substream schema q events end) answer.start end answer.marks × (accepted_standing (automaton_of (tree_of q)) (run_standing (automaton_of (tree_of q)) q.strict (has_mark answer.marks) begin xs) ≡ true) × IsInWindow schema q events answer.start end)
answer_iff schema q events end answer xs cover =
    let s = substream schema q events end in
    let iff = marks_iff_standing s (tree_of q) (selected q.select (meaning s q.formula)) (query_expanded s q) (automaton_of (tree_of q)) (automaton_is (tree_of q)) answer.start end answer.marks q.strict xs cover in (
      λ a. (let p = iff.0 (a.marks, a.strict) in (p.0, p.1, a.window)),
      λ h. (let p = iff.1 (h.0, h.1) in record { marks = p.0; strict = p.1; window = h.2 }),
    )

-- A run over one more entry.
run_more_step : (a : Automaton) (strict : Bool) (marks : ℕ → Bool) (xs : List Entry) (x : Entry) → ((s : Standing) → run_standing a strict marks s (xs ++ (x ∷ [])) ≡ option_and_then (λ t. next_standing a strict t x.bits (marks x.position)) (run_standing a strict marks s xs)) → (o : Option Standing) → option_and_then (λ t. run_standing a strict marks t (xs ++ (x ∷ []))) o ≡ option_and_then (λ t. next_standing a strict t x.bits (marks x.position)) (option_and_then (λ t. run_standing a strict marks t xs) o)
run_more_step a strict marks xs x f None = refl
run_more_step a strict marks xs x f (Some s) = f s

and_then_some : {A : Type 0} (o : Option A) → option_and_then (λ x. Some x) o ≡ o
and_then_some None = refl
and_then_some (Some x) = refl

pub run_more : (a : Automaton) (strict : Bool) (marks : ℕ → Bool) (xs : List Entry) (x : Entry) (s : Standing) → run_standing a strict marks s (xs ++ (x ∷ [])) ≡ option_and_then (λ t. next_standing a strict t x.bits (marks x.position)) (run_standing a strict marks s xs)
run_more a strict marks [] x s = and_then_some (next_standing a strict s x.bits (marks x.position))
run_more a strict marks (y ∷ xs) x s = run_more_step a strict marks xs x (run_more a strict marks xs x) (next_standing a strict s y.bits (marks y.position))

-- The entries from a start, and one more.
cover_after_more : (r : Reading) (size p middle : ℕ) (xs : List Entry) (x : Entry) → CoverAfter r size p xs middle → MayComeAfter r.Has true middle x.position → IsEntry r size x → CoverAfter r size p (xs ++ (x ∷ [])) x.position
cover_after_more r size p middle [] x c after entry = (subst (λ n. MayComeAfter r.Has true n x.position) (sym c) after, entry, refl)
cover_after_more r size p middle (y ∷ xs) x c after entry = (c.0, c.1, cover_after_more r size y.position middle xs x c.2 after entry)

pub cover_more : (r : Reading) (size from middle : ℕ) (xs : List Entry) (x : Entry) → Cover r size from xs middle → MayComeAfter r.Has true middle x.position → IsEntry r size x → Cover r size from (xs ++ (x ∷ [])) x.position
cover_more r size from middle [] x c after entry = absurd c
cover_more r size from middle (y ∷ xs) x c after entry = (c.0, c.1, cover_after_more r size y.position middle xs x c.2 after entry)

pub cover_one : (r : Reading) (size : ℕ) (x : Entry) → IsEntry r size x → Cover r size x.position (x ∷ []) x.position
cover_one r size x entry = (refl, entry, refl)
