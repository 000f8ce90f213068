-- A run explains the complex event, and where there is none the event is no answer.
use Rattle.std.proofs.Common.{◌≡◌, refl, sym, ap, subst, ◌∙◌, ℕ, ◌⊎◌, inl, inr, Bool, true, List, [], ◌∷◌, map, Option, Some, None, slice_get, Contains, Any, bytes_eq, eqb}
use Rattle.std.proofs.lemmas.Bool.{false≢true, or_cases, eqb-true}
use Rattle.std.proofs.lemmas.Slice.Eq.{bytes_eq-Decides}
use Rattle.stream_schema.specs.Types.{Declared}
use Rattle.stream_schema.specs.declared.Event.{Event}
use Rattle.cel_terms.specs.declared.Name.{Name}
use Rattle.cel_terms.specs.declared.Query.{Query}
use Rattle.cel_terms.specs.Meaning.{Bound, Valuation, Meaning, meaning, lists_name}
use Rattle.cel_terms.specs.Answers.{IsAnswer, IsAscending, IsBoundAt, is_bound, IsOfSubstream, selected, substream}
use Rattle.cel_lists.proofs.Members.{Among, contains_from, among_from, among_filter, filter_among, any_among, among_any, among_map, map_among}
use Rattle.cel_plain.proofs.Naming.{listed_is as names_listed_is}
use Rattle.query_leaves.specs.Expand.{Occurrence, tree_of, expand}
use Rattle.query_leaves.specs.Leaves.{occurrences, numbered, names_in, leaf_is_marked}
use Rattle.cea_determinise.specs.Runs.{Automaton, Entry, has_mark}
use Rattle.cea_compile.specs.Paths.{Step, reading, valuation}
use Rattle.cea_compile.specs.Covers.{Cover, MarkedAt}
use Rattle.cea_compile.specs.Compiled.{automaton_of}
use Rattle.cea_compile.specs.DeterminisedRuns.{entry_at}
use Rattle.cea_compile.proofs.Answers.{listed_is, marks_iff_run}
use Rattle.cea_compile.proofs.Compiled.{automaton_is}
use Rattle.cea_compile.proofs.Glushkov.{path_iff_walk}
use Rattle.cea_compile.proofs.Leaves.{numbered_linear}
use Rattle.cea_compile.proofs.Queries.{query_expanded}
use Rattle.cel_lists.proofs.Windows.{window_from}
use Rattle.match_explain.specs.declared.Binding.{Binding}
use Rattle.match_explain.specs.declared.turns.Turn.{Turn}
use Rattle.match_explain.specs.declared.moves.Last.TheVariants.{Start}
use Rattle.match_explain.specs.Explains.{IsInSetOf, IsSelected, IsMarkedBy, Explains}
use Rattle.match_explain.specs.LeafNames.{LeafNames, leaf_names}
use Rattle.match_explain.specs.Bindings.{bindings_of}
use Rattle.match_explain.specs.Spans.{MayBe}
use Rattle.match_explain.specs.Searching.{AreTurnsOf, IsRun, HasNoRun}
use Rattle.match_explain.proofs.Beginning.{begins}
use Rattle.match_explain.proofs.MarkedTurns.{IsMarkedTurn, walk_of, marked_from, marked_to}
use Rattle.match_explain.proofs.Copied.{expand_names}
use Rattle.match_explain.proofs.Unselected.{kept, names_kept, formula_means}
use Rattle.match_explain.proofs.Bound.{some_from, some_to, bound_from, bound_to, names_are, bindings_are, walk_ascends}
use Rattle.match_explain.proofs.Spanned.{span_of, span_lists, span_covers, listed_all, strict_from}

-- marked turns are those at the marks
turn_marked : (a : Automaton) (marks : ℕ → Bool) (xs : List Entry) (ts : List Turn) (p : ℕ) → AreTurnsOf a marks xs ts → IsMarkedTurn ts p → marks p ≡ true
turn_marked a marks xs [] p are h = absurd h
turn_marked a marks [] (t ∷ ts) p are h = absurd are
turn_marked a marks (x ∷ xs) (t ∷ ts) p are (inl h) = ap marks (sym h.0 ∙ are.0.position) ∙ (sym are.0.marked ∙ h.1)
turn_marked a marks (x ∷ xs) (t ∷ ts) p are (inr h) = turn_marked a marks xs ts p are.1 h

marked_turn : (schema : Declared) (q : Query) (events : List Event) (a : Automaton) (marks : ℕ → Bool) (span : List ℕ) (ts : List Turn) (p : ℕ) → AreTurnsOf a marks (map (entry_at schema q events) span) ts → has_mark span p ≡ true → marks p ≡ true → IsMarkedTurn ts p
marked_turn schema q events a marks [] ts p are l m = absurd (false≢true l)
marked_turn schema q events a marks (x ∷ span) [] p are l m = absurd are
marked_turn schema q events a marks (x ∷ span) (t ∷ ts) p are l m = go (marked_turn schema q events a marks span ts p are.1) (or_cases (eqb p x) (has_mark span p) l)
  where
    go : (has_mark span p ≡ true → marks p ≡ true → IsMarkedTurn ts p) → (eqb p x ≡ true) ⊎ (has_mark span p ≡ true) → IsMarkedTurn (t ∷ ts) p
    go rest (inl e) = let same = eqb-true p x e in inl (are.0.position ∙ sym same, are.0.marked ∙ (ap marks (sym same) ∙ m))
    go rest (inr k) = inr (rest k m)

-- a marked step
pub record IsMarkedStep (ls : List Occurrence) (select : Option (List Name)) (p : ℕ) (s : Step) : Type 0 where
  pub at : s.position ≡ p
  pub marked : is_bound (kept select (names_in (slice_get ls s.leaf))) ≡ true

marked_step : (ls os : List Occurrence) (select : Option (List Name)) (w : List Step) (p : ℕ) → ((k : ℕ) → names_in (slice_get os k) ≡ kept select (names_in (slice_get ls k))) → MarkedAt (leaf_is_marked os) w p → (s : Step) × Among s w × IsMarkedStep ls select p s
marked_step ls os select [] p same h = absurd h
marked_step ls os select (s ∷ w) p same (inl h) = (s, inl refl, record { at = h.0; marked = sym (ap is_bound (same s.leaf)) ∙ h.1 })
marked_step ls os select (s ∷ w) p same (inr h) = let r = marked_step ls os select w p same h in (r.0, inr r.1, r.2)

step_marked : (ls os : List Occurrence) (select : Option (List Name)) (w : List Step) (p : ℕ) → ((k : ℕ) → names_in (slice_get os k) ≡ kept select (names_in (slice_get ls k))) → (s : Step) → Among s w → IsMarkedStep ls select p s → MarkedAt (leaf_is_marked os) w p
step_marked ls os select [] p same s a m = absurd a
step_marked ls os select (x ∷ w) p same s (inl e) m = inl (ap (λ (z : Step). z.position) e ∙ m.at, ap (λ (z : Step). is_bound (names_in (slice_get os z.leaf))) e ∙ (ap is_bound (same s.leaf) ∙ m.marked))
step_marked ls os select (x ∷ w) p same s (inr a) m = inr (step_marked ls os select w p same s a m)

-- some name is left
bound_name : (names : List (List ℕ)) → is_bound names ≡ true → (n : List ℕ) × Among n names
bound_name [] e = absurd (false≢true e)
bound_name (n ∷ ns) e = (n, inl refl)

name_bound : (names : List (List ℕ)) (n : List ℕ) → Among n names → is_bound names ≡ true
name_bound [] n h = absurd h
name_bound (m ∷ ns) n h = refl

selected_from : (listed : List Name) (n : List ℕ) → lists_name (map (λ m. m.text) listed) n ≡ true → Any (λ m. m.text ≡ n) listed
selected_from listed n e =
    let a = among_any (λ (m : Name). bytes_eq m.text n) listed (sym (names_listed_is listed n) ∙ e) in
    some_to (λ (m : Name). m.text ≡ n) listed a.0 a.1 ((bytes_eq-Decides a.0.text n).0 a.2)

selected_to : (listed : List Name) (n : List ℕ) → Any (λ m. m.text ≡ n) listed → lists_name (map (λ m. m.text) listed) n ≡ true
selected_to listed n h =
    let a = some_from (λ (m : Name). m.text ≡ n) listed h in
    names_listed_is listed n ∙ any_among (λ (m : Name). bytes_eq m.text n) a.0 listed a.1 ((bytes_eq-Decides a.0.text n).1 a.2)

-- the names that SELECT leaves are the selected ones
kept_from : (select : Option (List Name)) (names : List (List ℕ)) (n : List ℕ) → Among n (kept select names) → Among n names × IsSelected select n
kept_from None names n h = (h, tt)
kept_from (Some listed) names n h = let f = filter_among (lists_name (map (λ m. m.text) listed)) n names h in (f.0, selected_from listed n f.1)

kept_to : (select : Option (List Name)) (names : List (List ℕ)) (n : List ℕ) → Among n names → IsSelected select n → Among n (kept select names)
kept_to None names n h s = h
kept_to (Some listed) names n h s = among_filter (lists_name (map (λ m. m.text) listed)) n names h (selected_to listed n s)

module _ (ls : List Occurrence) (leaves : LeafNames) (are : leaves ≡ map (λ (o : Occurrence). o.names) ls) (select : Option (List Name)) (steps : List Step) where
  by_from : (p : ℕ) (s : Step) → Among s steps → IsMarkedStep ls select p s → IsMarkedBy select (bindings_of leaves steps) p
  by_from p s a m =
      let n = bound_name (kept select (names_in (slice_get ls s.leaf))) m.marked in
      let k = kept_from select (names_in (slice_get ls s.leaf)) n.0 n.1 in
      let b = some_from (λ (b : Binding). (b.name ≡ n.0) × Contains b.positions p) (bindings_of leaves steps) (bound_to leaves steps n.0 p s a (record { at = m.at; named = subst (Among n.0) (sym (names_are ls leaves are steps s.leaf)) k.0 })) in
      some_to (λ (b : Binding). IsSelected select b.name × Contains b.positions p) (bindings_of leaves steps) b.0 b.1 (subst (IsSelected select) (sym b.2.0) k.1, b.2.1)

  by_to : (p : ℕ) → IsMarkedBy select (bindings_of leaves steps) p → (s : Step) × Among s steps × IsMarkedStep ls select p s
  by_to p h =
      let b = some_from (λ (b : Binding). IsSelected select b.name × Contains b.positions p) (bindings_of leaves steps) h in
      let s = bound_from leaves steps b.0.name p (some_to (λ (c : Binding). (c.name ≡ b.0.name) × Contains c.positions p) (bindings_of leaves steps) b.0 b.1 (refl, b.2.1)) in
      (s.0, s.1, record { at = s.2.at; marked = name_bound (kept select (names_in (slice_get ls s.0.leaf))) b.0.name (kept_to select (names_in (slice_get ls s.0.leaf)) b.0.name (subst (Among b.0.name) (names_are ls leaves are steps s.0.leaf) s.2.named) b.2.0) })

module _ (schema : Declared) (q : Query) (events : List Event) (first end : ℕ) (marks : List ℕ) (m : MayBe schema q events first end (span_of schema q events first end) marks) where
  cover : Cover (reading (substream schema q events end) (occurrences (tree_of q))) (automaton_of (tree_of q)).size first (map (entry_at schema q events) (span_of schema q events first end)) end
  cover = span_covers schema q events first end m.begins m.ends

  within : (p : ℕ) → has_mark marks p ≡ true → has_mark (span_of schema q events first end) p ≡ true
  within = listed_all schema q events first end marks m.within

  -- The bindings of a run explain it.
  pub explained : (steps : List Step) → IsRun schema q events (span_of schema q events first end) marks steps → Explains schema q events first end marks (bindings_of (leaf_names q.formula) steps)
  explained steps r =
      let w = walk_of (reading (substream schema q events end) (occurrences (tree_of q))) (numbered 0 (tree_of q)) (automaton_of (tree_of q)) (has_mark marks) first end (map (entry_at schema q events) (span_of schema q events first end)) r.turns steps (automaton_is (tree_of q)).pairs r.told cover r.goes in
      let path = (path_iff_walk (reading (substream schema q events end) (occurrences (tree_of q))) (numbered 0 (tree_of q)) (numbered_linear (tree_of q) 0) first end steps).1 w in
      let are : leaf_names q.formula ≡ map (λ (o : Occurrence). o.names) (occurrences (expand q.formula)) = sym (expand_names q.formula) in
      record {
        valuation = valuation (occurrences (expand q.formula)) steps;
        means = formula_means (substream schema q events end) q.select q.formula first end steps path;
        listed = bindings_are (occurrences (expand q.formula)) (leaf_names q.formula) are steps (walk_ascends w);
        marked = λ p. (
          λ c. (
              let l = (listed_is marks p).1 c in
              let t = marked_turn schema q events (automaton_of (tree_of q)) (has_mark marks) (span_of schema q events first end) r.turns p r.told (within p l) l in
              let s = marked_step (occurrences (expand q.formula)) (occurrences (tree_of q)) q.select steps p (names_kept q.select (expand q.formula)) (marked_to (automaton_of (tree_of q)) (has_mark marks) Start (map (entry_at schema q events) (span_of schema q events first end)) r.turns steps p r.told r.goes t) in
              by_from (occurrences (expand q.formula)) (leaf_names q.formula) are q.select steps p s.0 s.1 s.2),
          λ b. (
              let s = by_to (occurrences (expand q.formula)) (leaf_names q.formula) are q.select steps p b in
              let t = marked_from (automaton_of (tree_of q)) (has_mark marks) Start (map (entry_at schema q events) (span_of schema q events first end)) r.turns steps p r.told r.goes (step_marked (occurrences (expand q.formula)) (occurrences (tree_of q)) q.select steps p (names_kept q.select (expand q.formula)) s.0 s.1 s.2) in
              (listed_is marks p).0 (turn_marked (automaton_of (tree_of q)) (has_mark marks) (map (entry_at schema q events) (span_of schema q events first end)) r.turns p r.told t)),
        );
        strict = strict_from q.strict (IsOfSubstream schema q events end) (span_of schema q events first end) marks m.ascending within first end (span_lists schema q events first end) m.strict;
        window = window_from schema q events first end m.window;
      }

  -- Without a run it is no answer.
  pub no_answer : HasNoRun schema q events (span_of schema q events first end) marks → IsAnswer schema q events end (record { start = first; marks = marks }) → ⊥
  no_answer n a =
      let s = substream schema q events end in
      let iff = marks_iff_run s (tree_of q) (selected q.select (meaning s q.formula)) (query_expanded s q) (automaton_of (tree_of q)) (automaton_is (tree_of q)) first end marks (map (entry_at schema q events) (span_of schema q events first end)) cover in
      let can = begins (reading s (occurrences (tree_of q))) (automaton_of (tree_of q)) (has_mark marks) first end (map (entry_at schema q events) (span_of schema q events first end)) n.turns cover n.told (iff.0 a.marks).1 in
      false≢true (sym n.stuck ∙ can)

-- the valuation that SELECT leaves
abbrev left_of : Option (List Name) → Valuation → Valuation
left_of select v = map (λ (b : Bound). record { position = b.position; names = kept select b.names }) v

map_same : (v : Valuation) → left_of None v ≡ v
map_same [] = refl
map_same (b ∷ v) = ap (λ (w : Valuation). b ∷ w) (map_same v)

left_means : (select : Option (List Name)) (part : Meaning) (s e : ℕ) (v : Valuation) → part s e v → selected select part s e (left_of select v)
left_means None part s e v h = subst (part s e) (sym (map_same v)) h
left_means (Some names) part s e v h = (v, h, refl)

bound_at_from : (select : Option (List Name)) (v : Valuation) (p : ℕ) → IsBoundAt (left_of select v) p → (n : List ℕ) × IsSelected select n × IsInSetOf v n p
bound_at_from select v p h =
    let b = some_from (λ (b : Bound). (b.position ≡ p) × (is_bound b.names ≡ true)) (left_of select v) h in
    let o = map_among (λ (b : Bound). record { position = b.position; names = kept select b.names }) b.0 v b.1 in
    let n = bound_name (kept select o.0.names) (ap (λ (z : Bound). is_bound z.names) o.2 ∙ b.2.1) in
    let k = kept_from select o.0.names n.0 n.1 in
    (n.0, k.1, some_to (λ (b : Bound). (b.position ≡ p) × Contains b.names n.0) v o.0 o.1 (ap (λ (z : Bound). z.position) o.2 ∙ b.2.0, contains_from n.0 o.0.names k.0))

bound_at_to : (select : Option (List Name)) (v : Valuation) (p : ℕ) (n : List ℕ) → IsSelected select n → IsInSetOf v n p → IsBoundAt (left_of select v) p
bound_at_to select v p n s h =
    let b = some_from (λ (b : Bound). (b.position ≡ p) × Contains b.names n) v h in
    some_to (λ (b : Bound). (b.position ≡ p) × (is_bound b.names ≡ true)) (left_of select v) (record { position = b.0.position; names = kept select b.0.names })
    (among_map (λ (b : Bound). record { position = b.position; names = kept select b.names }) b.0 v b.1)
    (b.2.0, name_bound (kept select b.0.names) n (kept_to select b.0.names n (among_from n b.0.names b.2.1) s))

-- What explains a complex event makes it an answer.
pub is_answer : (schema : Declared) (q : Query) (events : List Event) (first end : ℕ) (marks : List ℕ) (bindings : List Binding) → IsAscending marks → Explains schema q events first end marks bindings → IsAnswer schema q events end (record { start = first; marks = marks })
is_answer schema q events first end marks bindings up x = record {
  marks = record {
    valuation = left_of q.select x.valuation;
    means = left_means q.select (meaning (substream schema q events end) q.formula) first end x.valuation x.means;
    are_marks = record {
      ascending = up;
      bound = λ p. (
        λ c. (
            let b = some_from (λ (b : Binding). IsSelected q.select b.name × Contains b.positions p) bindings ((x.marked p).0 c) in
            let i = (x.listed.exact b.0.name p).0 (some_to (λ (d : Binding). (d.name ≡ b.0.name) × Contains d.positions p) bindings b.0 b.1 (refl, b.2.1)) in
            bound_at_to q.select x.valuation p b.0.name b.2.0 i),
        λ h. (
            let n = bound_at_from q.select x.valuation p h in
            let b = some_from (λ (d : Binding). (d.name ≡ n.0) × Contains d.positions p) bindings ((x.listed.exact n.0 p).1 n.2) in
            (x.marked p).1 (some_to (λ (d : Binding). IsSelected q.select d.name × Contains d.positions p) bindings b.0 b.1 (subst (IsSelected q.select) (sym b.2.0) n.1, b.2.1))),
      );
    };
  };
  strict = x.strict;
  window = x.window;
}
