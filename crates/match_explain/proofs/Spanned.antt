-- The span of a complex event in its substream, and what of the event it decides.
use Rattle.std.proofs.Common.{◌≡◌, refl, sym, subst, ◌∙◌, ℕ, zero, suc, ◌-◌, ◌<◌, ◌≤◌, ◌⊎◌, inl, inr, ◌↔◌, Bool, true, false, not, ◌&&◌, ◌||◌, List, [], ◌∷◌, length, map, get_or, Option, Some, None, slice_get, Contains, All, nat_le, nat_lt, eqb, arith}
use Rattle.std.specs.List.{list_all}
use Rattle.std.specs.Option.{option_map_or}
use Rattle.std.proofs.lemmas.Bool.{and_parts, and_from, or_cases, or_left, or_right, not-true, not_from_false, false≢true, leb-true, le-leb, ltb-true, lt-ltb, eqb-true}
use Rattle.std.proofs.lemmas.List.{get_or_default}
use Rattle.std.proofs.lemmas.Option.{slice_get_within, get_or_from_slice_get}
use Rattle.stream_schema.specs.Types.{Declared}
use Rattle.stream_schema.specs.declared.Event.{Event}
use Rattle.cel_terms.specs.declared.Query.{Query}
use Rattle.cel_terms.specs.Answers.{IsAnswer, IsAscending, IsOfSubstream, AreContiguous, WhereStrict, substream}
use Rattle.cel_terms.proofs.Marked.{lies_selected, marks_within}
use Rattle.cel_lists.specs.Below.{below, shares_at, substream_positions}
use Rattle.cel_lists.proofs.Places.{below_rises, ascends as ascends_rising}
use Rattle.cel_lists.proofs.Keys.{positions_from, positions_to}
use Rattle.cel_lists.proofs.Windows.{window_to}
use Rattle.query_leaves.specs.Expand.{tree_of}
use Rattle.query_leaves.specs.Leaves.{occurrences}
use Rattle.cea_determinise.specs.Runs.{has_mark}
use Rattle.cea_compile.specs.Paths.{reading}
use Rattle.cea_compile.specs.Covers.{Cover}
use Rattle.cea_compile.specs.Compiled.{automaton_of}
use Rattle.cea_compile.specs.DeterminisedRuns.{from_to, entry_at}
use Rattle.cea_compile.proofs.Answers.{listed_is}
use Rattle.cea_compile.proofs.Entries.{Ascends, ascends, ascends_filter, listed_filter, cover_from, is_entry}
use Rattle.match_explain.specs.Spans.{lies_between, is_strict_enough, MayBe}
use Rattle.match_explain.proofs.Ascending.{in_order}

listed_get : (xs : List ℕ) (i y : ℕ) → slice_get xs i ≡ Some y → has_mark xs y ≡ true
listed_get xs i y e =
    let less = slice_get_within xs i y e in
    (listed_is xs y).1 (i, less, get_or_from_slice_get xs i y y e)

is_ascending : (xs : List ℕ) → Ascends xs → IsAscending xs
is_ascending [] h i j x y less p q = absurd (let l = slice_get_within [] i x p in omega arith)
is_ascending (z ∷ zs) h i zero x y less p q = absurd (omega arith)
is_ascending (z ∷ zs) h zero (suc j) x y less p q = let same : z ≡ x = cc in subst (λ (k : ℕ). k < y) same (h.0 y (listed_get zs j y q))
is_ascending (z ∷ zs) h (suc i) (suc j) x y less p q = is_ascending zs h.1 i j x y (omega arith) p q

substream_ascends : (schema : Declared) (q : Query) (events : List Event) (end : ℕ) → IsAscending (substream_positions schema q events end)
substream_ascends schema q events end = go (slice_get events end)
  where
    go : (o : Option Event) → IsAscending (option_map_or (λ there. below (shares_at schema q events there) (length events)) o [])
    go None = is_ascending [] tt
    go (Some there) = ascends_rising (below (shares_at schema q events there) (length events)) (below_rises (shares_at schema q events there) (length events))

-- the span that is computed
abbrev pub span_of : Declared → Query → List Event → ℕ → ℕ → List ℕ
span_of schema q events start end = from_to start end (substream_positions schema q events end)

module _ (schema : Declared) (q : Query) (events : List Event) (start end : ℕ) where
  abbrev the_span : List ℕ
  the_span = span_of schema q events start end

  abbrev positions : List ℕ
  positions = substream_positions schema q events end

  rising : Ascends the_span
  rising = ascends_filter (λ x. nat_le start x && nat_le x end) positions (ascends positions (substream_ascends schema q events end))

  pub span_ascends : IsAscending the_span
  span_ascends = is_ascending the_span rising

  pub span_lists : (p : ℕ) → (has_mark the_span p ≡ true) ↔ (IsOfSubstream schema q events end p × (start ≤ p) × (p ≤ end))
  span_lists p = (
    λ h. (
        let both = and_parts (has_mark positions p) (nat_le start p && nat_le p end) (sym (listed_filter (λ x. nat_le start x && nat_le x end) positions p) ∙ h) in
        let range = and_parts (nat_le start p) (nat_le p end) both.1 in
        (positions_from schema q events end p ((listed_is positions p).0 both.0), leb-true start p range.0, leb-true p end range.1)),
    λ h. (listed_filter (λ x. nat_le start x && nat_le x end) positions p ∙
        and_from (has_mark positions p) (nat_le start p && nat_le p end) ((listed_is positions p).1 (positions_to schema q events end p h.0))
        (and_from (nat_le start p) (nat_le p end) (le-leb start p h.1) (le-leb p end h.2))),
  )

  pub span_there : All (λ p. p < length events) the_span
  span_there k d less =
      let h = (span_lists (get_or the_span k d)).0 ((listed_is the_span (get_or the_span k d)).1 (k, less, get_or_default the_span k (get_or the_span k d) d less)) in
      slice_get_within events (get_or the_span k d) h.0.here h.0.here_is

  pub span_covers : has_mark the_span start ≡ true → has_mark the_span end ≡ true → Cover (reading (substream schema q events end) (occurrences (tree_of q))) (automaton_of (tree_of q)).size start (map (entry_at schema q events) the_span) end
  span_covers b e =
      let begins = (span_lists start).0 b in
      let ends = (span_lists end).0 e in
      cover_from (reading (substream schema q events end) (occurrences (tree_of q))) (length (occurrences (tree_of q))) schema q events (is_entry schema q events end) end ends.0 start the_span begins.0 begins.2 rising span_lists

  all_listed : (marks : List ℕ) → ((p : ℕ) → has_mark marks p ≡ true → has_mark the_span p ≡ true) → list_all (has_mark the_span) marks ≡ true
  all_listed [] f = refl
  all_listed (m ∷ ms) f =
      and_from (has_mark the_span m) (list_all (has_mark the_span) ms) (f m (listed_get (m ∷ ms) 0 m refl))
      (all_listed ms (λ p l. f p (or_right (eqb p m) (has_mark ms p) l)))

  pub listed_all : (marks : List ℕ) → list_all (has_mark the_span) marks ≡ true → (p : ℕ) → has_mark marks p ≡ true → has_mark the_span p ≡ true
  listed_all [] h p l = absurd (false≢true l)
  listed_all (m ∷ ms) h p l =
      let parts = and_parts (has_mark the_span m) (list_all (has_mark the_span) ms) h in
      go parts.0 (listed_all ms parts.1 p) (or_cases (eqb p m) (has_mark ms p) l)
    where
      go : has_mark the_span m ≡ true → (has_mark ms p ≡ true → has_mark the_span p ≡ true) → (eqb p m ≡ true) ⊎ (has_mark ms p ≡ true) → has_mark the_span p ≡ true
      go here rest (inl e) = subst (λ n. has_mark the_span n ≡ true) (sym (eqb-true p m e)) here
      go here rest (inr k) = rest k

-- contiguous marks
first_low : (marks : List ℕ) → IsAscending marks → (low p : ℕ) → Contains marks low → low < p → nat_lt (get_or marks 0 p) p ≡ true
first_low marks up low p c less =
    let i = c.0 in
    let there = c.1 in
    let at : get_or marks i 0 ≡ low = get_or_default marks i 0 low there ∙ c.2 in
    let le = in_order marks up 0 i (omega arith) there in
    let first : get_or marks 0 p ≡ get_or marks 0 0 = get_or_default marks 0 p 0 (omega arith) in
    lt-ltb (get_or marks 0 p) p (omega arith)

last_high : (marks : List ℕ) → IsAscending marks → (high p : ℕ) → Contains marks high → p < high → nat_lt p (get_or marks (length marks - 1) p) ≡ true
last_high marks up high p c less =
    let i = c.0 in
    let there = c.1 in
    let at : get_or marks i 0 ≡ high = get_or_default marks i 0 high there ∙ c.2 in
    let end : length marks - 1 < length marks = omega arith in
    let le = in_order marks up i (length marks - 1) (omega arith) end in
    let last : get_or marks (length marks - 1) p ≡ get_or marks (length marks - 1) 0 = get_or_default marks (length marks - 1) p 0 end in
    lt-ltb p (get_or marks (length marks - 1) p) (omega arith)

each_passes : (f : ℕ → Bool) (xs : List ℕ) → list_all f xs ≡ true → (p : ℕ) → has_mark xs p ≡ true → f p ≡ true
each_passes f [] h p l = absurd (false≢true l)
each_passes f (x ∷ xs) h p l =
    let parts = and_parts (f x) (list_all f xs) h in
    go parts.0 (each_passes f xs parts.1 p) (or_cases (eqb p x) (has_mark xs p) l)
  where
    go : f x ≡ true → (has_mark xs p ≡ true → f p ≡ true) → (eqb p x ≡ true) ⊎ (has_mark xs p ≡ true) → f p ≡ true
    go here rest (inl e) = subst (λ n. f n ≡ true) (sym (eqb-true p x e)) here
    go here rest (inr k) = rest k

all_pass : (f : ℕ → Bool) (xs : List ℕ) → ((p : ℕ) → has_mark xs p ≡ true → f p ≡ true) → list_all f xs ≡ true
all_pass f [] g = refl
all_pass f (x ∷ xs) g = and_from (f x) (list_all f xs) (g x (listed_get (x ∷ xs) 0 x refl)) (all_pass f xs (λ p l. g p (or_right (eqb p x) (has_mark xs p) l)))

abbrev passes : List ℕ → ℕ → Bool
passes marks p = not (lies_between marks p) || has_mark marks p

contiguous_from : (Has : ℕ → Type 0) (span marks : List ℕ) → IsAscending marks → ((p : ℕ) → has_mark marks p ≡ true → has_mark span p ≡ true) → (start end : ℕ) → ((p : ℕ) → (has_mark span p ≡ true) ↔ (Has p × (start ≤ p) × (p ≤ end))) → list_all (passes marks) span ≡ true → AreContiguous Has marks
contiguous_from Has span marks up within start end lists h low p high cl ch less more has =
    let l = (lists low).0 (within low ((listed_is marks low).1 cl)) in
    let u = (lists high).0 (within high ((listed_is marks high).1 ch)) in
    let from = l.1 in
    let to = u.2 in
    let there = (lists p).1 (has, omega arith, omega arith) in
    let between = and_from (nat_lt (get_or marks 0 p) p) (nat_lt p (get_or marks (length marks - 1) p)) (first_low marks up low p cl less) (last_high marks up high p ch more) in
    (listed_is marks p).0 (go between (or_cases (not (lies_between marks p)) (has_mark marks p) (each_passes (passes marks) span h p there)))
  where
    go : lies_between marks p ≡ true → (not (lies_between marks p) ≡ true) ⊎ (has_mark marks p ≡ true) → has_mark marks p ≡ true
    go b (inl n) = absurd (false≢true (sym (not-true (lies_between marks p) n) ∙ b))
    go b (inr m) = m

first_there : (marks : List ℕ) (p : ℕ) → nat_lt (get_or marks 0 p) p ≡ true → 0 < length marks
first_there [] p h = absurd (let l = ltb-true p p h in omega arith)
first_there (m ∷ ms) p h = omega arith

contiguous_to : (Has : ℕ → Type 0) (span marks : List ℕ) → (start end : ℕ) → ((p : ℕ) → (has_mark span p ≡ true) ↔ (Has p × (start ≤ p) × (p ≤ end))) → AreContiguous Has marks → list_all (passes marks) span ≡ true
contiguous_to Has span marks start end lists contiguous = all_pass (passes marks) span (λ p l. go p ((lists p).0 l).0 (lies_between marks p) refl)
  where
    go : (p : ℕ) → Has p → (b : Bool) → lies_between marks p ≡ b → passes marks p ≡ true
    go p has false e = or_left (not (lies_between marks p)) (has_mark marks p) (not_from_false (lies_between marks p) e)
    go p has true e =
        let both = and_parts (nat_lt (get_or marks 0 p) p) (nat_lt p (get_or marks (length marks - 1) p)) e in
        let some = first_there marks p both.0 in
        let end : length marks - 1 < length marks = omega arith in
        or_right (not (lies_between marks p)) (has_mark marks p) ((listed_is marks p).1
        (contiguous (get_or marks 0 p) p (get_or marks (length marks - 1) p) (0, some, get_or_default marks 0 (get_or marks 0 p) p some) (length marks - 1, end, get_or_default marks (length marks - 1) (get_or marks (length marks - 1) p) p end)
        (ltb-true (get_or marks 0 p) p both.0) (ltb-true p (get_or marks (length marks - 1) p) both.1) has))

pub strict_from : (strict : Bool) (Has : ℕ → Type 0) (span marks : List ℕ) → IsAscending marks → ((p : ℕ) → has_mark marks p ≡ true → has_mark span p ≡ true) → (start end : ℕ) → ((p : ℕ) → (has_mark span p ≡ true) ↔ (Has p × (start ≤ p) × (p ≤ end))) → is_strict_enough strict span marks ≡ true → WhereStrict strict (AreContiguous Has marks)
strict_from true Has span marks up within start end lists h = contiguous_from Has span marks up within start end lists h
strict_from false Has span marks up within start end lists h = tt

strict_to : (strict : Bool) (Has : ℕ → Type 0) (span marks : List ℕ) → (start end : ℕ) → ((p : ℕ) → (has_mark span p ≡ true) ↔ (Has p × (start ≤ p) × (p ≤ end))) → WhereStrict strict (AreContiguous Has marks) → is_strict_enough strict span marks ≡ true
strict_to true Has span marks start end lists h = contiguous_to Has span marks start end lists h
strict_to false Has span marks start end lists h = refl

-- An answer has all that a complex event needs besides a run.
pub may_be_answer : (schema : Declared) (q : Query) (events : List Event) (start end : ℕ) (marks : List ℕ) → IsAnswer schema q events end (record { start = start; marks = marks }) → MayBe schema q events start end (span_of schema q events start end) marks
may_be_answer schema q events start end marks a =
    let s = (lies_selected (substream schema q events end) q.select q.formula start end a.marks.valuation a.marks.means).span in
    let ordered = s.ordered in
    record {
      ascending = a.marks.are_marks.ascending;
      window = window_to schema q events start end a.window;
      begins = (span_lists schema q events start end start).1 (s.begins, omega arith, ordered);
      ends = (span_lists schema q events start end end).1 (s.ends, ordered, omega arith);
      within = all_listed schema q events start end marks (λ p l. (let w = marks_within schema q events end (record { start = start; marks = marks }) a p ((listed_is marks p).0 l) in (span_lists schema q events start end p).1 (w.has, w.from, w.to)));
      strict = strict_to q.strict (IsOfSubstream schema q events end) (span_of schema q events start end) marks start end (span_lists schema q events start end) a.strict;
    }
