-- The open matches of a key that accept and are recent are the answers at the key's last event, each once.
use Rattle.std.proofs.Common.{◌≡◌, ℕ, ◌≤◌, inl, inr, ℤ, ◌≤ℤ◌, Bool, true, false, ◌&&◌, List, [], ◌∷◌, ◌++◌, map, reverse, refl, sym, ap, subst, ◌∙◌, All, Contains, Option, Some, None, slice_get, eqb, nat_le, ◌<◌, arith}
use Rattle.std.specs.Prelude.{if◌then◌else◌, int_le}
use Rattle.std.specs.List.{list_all}
use Rattle.std.proofs.lemmas.Bool.{false≢true, and_from, and_parts, le-leb}
use Rattle.std.proofs.lemmas.List.{reverse-reverse}
use Rattle.std.proofs.lemmas.List.Elements.{All-nil, All-cons, All-head, All-tail, Contains-append_left, Contains-append_right, Contains-append_cases}
use Rattle.std.proofs.lemmas.Option.{slice_get_within}
use Rattle.cer_base.specs.declared.node.Stamp.{Stamp}
use Rattle.cer_base.specs.Repeats.{HasNoRepeats}
use Rattle.cer_base.specs.Members.{Member, recent}
use Rattle.cer_base.proofs.Repeats.{HasNoRepeats-back}
use Rattle.cer_base.proofs.Walks.{test_passes, test_tells}
use Rattle.stream_schema.specs.Types.{Declared}
use Rattle.stream_schema.specs.declared.Event.{Event}
use Rattle.stream_schema.specs.declared.Value.{Value}
use Rattle.cel_terms.specs.declared.Query.{Query}
use Rattle.cel_terms.specs.Answers.{Answer, IsAnswer, IsAscending, IsInWindow, IsOfSubstream, HasKey, HasClock, AreAnswersAt}
use Rattle.query_leaves.specs.Expand.{tree_of}
use Rattle.query_leaves.specs.Leaves.{occurrences}
use Rattle.cea_determinise.specs.Runs.{Automaton, Entry, accepts, has_mark}
use Rattle.cea_determinise.specs.Strict.{Standing, begin, run_standing, accepted_standing}
use Rattle.cea_compile.specs.Compiled.{automaton_of}
use Rattle.cea_compile.specs.DeterminisedRuns.{ListsSubstream, from_to, reads_at, entry_at, IsAcceptedRun}
use Rattle.cea_compile.proofs.Answers.{listed_is}
use Rattle.cea_compile.proofs.Accepted.{answers_are_accepted}
use Rattle.cer_base.specs.Repeats as plain
use Rattle.event_update.specs.Reach.{Seen, entry, RunEndsIn, Reaches, Has, all_of}
use Rattle.event_update.specs.Dormancy.{IsSilent}
use Rattle.event_update.proofs.Advance.{reaches_less}
use Rattle.event_update.proofs.Dormant.{not_accepting}
use Rattle.query_standing.specs.Clocks.{low_of}
use Rattle.query_standing.specs.Bounds.{IsMet}
use Rattle.query_standing.specs.Keys.{HasKeyAt, IsSeen, positions, IsGiven}
use Rattle.query_standing.specs.Holding.{Holds, accepting, answer_of, answers_in}
use Rattle.query_standing.proofs.Lists.{here, cons_cases, none_in_nil, all_from, Rises, rises, ascending, rises_reverse, falls_reverse, all_reverse, any_reverse, between, span_is, kept_is, is_kept, mapped_is, is_mapped, filter_distinct, map_distinct, reverse_same}
use Rattle.query_standing.proofs.Windows.{clock_is_one, in_window, low_in_window}

-- A run over the last events of a list, from one of them on.
pub record RunsFrom (a : Automaton) (strict : Bool) (xs : List Seen) (s : Standing) (m : Member) : Type 0 where
  pub before : List Seen
  pub first : Seen
  pub others : List Seen
  pub whole : xs ≡ before ++ first ∷ others
  pub start : m.start ≡ first.stamp
  pub runs : RunEndsIn a strict (first ∷ others) s m.positions

pub runs_from : (a : Automaton) (strict : Bool) (xs : List Seen) (s : Standing) (m : Member) → Reaches a strict xs s m → RunsFrom a strict xs s m
runs_from a strict [] s m h = absurd h
runs_from a strict (x ∷ xs) s m (inl h) = record { before = []; first = x; others = xs; whole = refl; start = h.0; runs = h.1 }
runs_from a strict (x ∷ xs) s m (inr h) =
    let r = runs_from a strict xs s m h in
    record { before = x ∷ r.before; first = r.first; others = r.others; whole = ap (λ ys. x ∷ ys) r.whole; start = r.start; runs = r.runs }

pub reaches : (a : Automaton) (strict : Bool) (before : List Seen) (x : Seen) (others : List Seen) (s : Standing) (m : Member) → m.start ≡ x.stamp → RunEndsIn a strict (x ∷ others) s m.positions → Reaches a strict (before ++ x ∷ others) s m
reaches a strict [] x others s m e r = inl (e, r)
reaches a strict (y ∷ ys) x others s m e r = inr (reaches a strict ys x others s m e r)

pub positions_append : (xs ys : List Seen) → positions (xs ++ ys) ≡ positions xs ++ positions ys
positions_append [] ys = refl
positions_append (x ∷ xs) ys = ap (λ ps. x.stamp.pos ∷ ps) (positions_append xs ys)

-- a position that is listed splits the list
pub record SplitsAt (xs : List Seen) (p : ℕ) : Type 0 where
  pub before : List Seen
  pub at : Seen
  pub others : List Seen
  pub whole : xs ≡ before ++ at ∷ others
  pub is : at.stamp.pos ≡ p

pub splits : (xs : List Seen) (p : ℕ) → Contains (positions xs) p → SplitsAt xs p
splits [] p h = absurd (none_in_nil p h)
splits (x ∷ xs) p h = elim (cons_cases x.stamp.pos p (positions xs) h) [
  | inl e ↦ record { before = []; at = x; others = xs; whole = refl; is = e }
  | inr l ↦ let r = splits xs p l in record { before = x ∷ r.before; at = r.at; others = r.others; whole = ap (λ ys. x ∷ ys) r.whole; is = r.is }
]

-- what is seen of an event is its entry in a run
entry_is : (schema : Declared) (q : Query) (events : List Event) (x : Seen) → IsSeen schema q events x → entry_at schema q events x.stamp.pos ≡ entry x
entry_is schema q events x s =
    let f : Option Event → Entry = λ e. record { position = x.stamp.pos; bits = λ k. reads_at schema (slice_get (occurrences (tree_of q)) k) e } in
    let one : entry_at schema q events x.stamp.pos ≡ f (Some s.event) = ap f s.at in
    one ∙ ap (λ b. record { position = x.stamp.pos; bits = b }) (sym s.tells.bits)

entries_are : (schema : Declared) (q : Query) (events : List Event) (xs : List Seen) → All (IsSeen schema q events) xs → map (entry_at schema q events) (positions xs) ≡ map entry xs
entries_are schema q events [] h = refl
entries_are schema q events (x ∷ xs) h =
    ap (λ e. e ∷ map (entry_at schema q events) (positions xs)) (entry_is schema q events x (All-head (IsSeen schema q events) x xs h))
    ∙ ap (λ es. entry x ∷ es) (entries_are schema q events xs (All-tail (IsSeen schema q events) x xs h))

All-back : {X : Type 0} (P : X → Type 0) (xs ys : List X) → All P (xs ++ ys) → All P ys
All-back P [] ys h = h
All-back P (x ∷ xs) ys h = All-back P xs ys (All-tail P x (xs ++ ys) h)

all_listed : (span marks : List ℕ) → All (Contains span) marks → list_all (has_mark span) marks ≡ true
all_listed span [] h = refl
all_listed span (m ∷ ms) h = and_from (has_mark span m) (list_all (has_mark span) ms) ((listed_is span m).1 (All-head (Contains span) m ms h)) (all_listed span ms (All-tail (Contains span) m ms h))

listed_all : (span marks : List ℕ) → list_all (has_mark span) marks ≡ true → All (Contains span) marks
listed_all span [] h = All-nil (Contains span)
listed_all span (m ∷ ms) h = let p = and_parts (has_mark span m) (list_all (has_mark span) ms) h in All-cons (Contains span) m ms ((listed_is span m).0 p.0) (listed_all span ms p.1)

-- a run that accepts is there, and its state does
some_accepts : (a : Automaton) (o : Option Standing) → accepted_standing a o ≡ true → (s : Standing) × (o ≡ Some s) × (accepts a s.sets ≡ true)
some_accepts a None h = absurd (false≢true h)
some_accepts a (Some s) h = (s, refl, h)

taken : (a : Automaton) (o : Option Standing) (b : Bool) → b ≡ true → accepted_standing a o ≡ true → accepted_standing a (if b then o else None) ≡ true
taken a o true e h = h
taken a o false e h = absurd (false≢true e)

is_taken : (a : Automaton) (o : Option Standing) (b : Bool) → accepted_standing a (if b then o else None) ≡ true → (b ≡ true) × (accepted_standing a o ≡ true)
is_taken a o true h = (refl, h)
is_taken a o false h = absurd (false≢true h)

-- marks in the other order are the same marks
marks_same : (ms : List ℕ) → has_mark (reverse ms) ≡ has_mark ms
marks_same ms i p = any_reverse (eqb p) ms i

-- the members of accepting states' lists
pub in_accepting : (a : Automaton) (standing : ℕ → Standing) (rows : List (ℕ × List Member)) (n : ℕ) (m : Member) → Has rows n m → accepts a (standing n).sets ≡ true → Contains (all_of (accepting a standing rows)) m
in_accepting a standing [] n m h acc = absurd h
in_accepting a standing (r ∷ rows) n m (inl h) acc =
    let e : accepts a (standing r.0).sets ≡ true = ap (λ k. accepts a (standing k).sets) h.0 ∙ acc in
    rw e (Contains-append_left r.1 (all_of (accepting a standing rows)) m h.1)
in_accepting a standing (r ∷ rows) n m (inr h) acc = go (accepts a (standing r.0).sets) refl (in_accepting a standing rows n m h acc)
  where
    go : (b : Bool) → accepts a (standing r.0).sets ≡ b → Contains (all_of (accepting a standing rows)) m → Contains (all_of (accepting a standing (r ∷ rows))) m
    go true e c = rw e (Contains-append_right r.1 (all_of (accepting a standing rows)) m c)
    go false e c = rw e c

pub from_accepting : (a : Automaton) (standing : ℕ → Standing) (rows : List (ℕ × List Member)) (m : Member) → Contains (all_of (accepting a standing rows)) m → (n : ℕ) × Has rows n m × (accepts a (standing n).sets ≡ true)
from_accepting a standing [] m c = absurd (none_in_nil m c)
from_accepting a standing (r ∷ rows) m c = go (accepts a (standing r.0).sets) refl c (from_accepting a standing rows m)
  where
    go : (b : Bool) → accepts a (standing r.0).sets ≡ b → Contains (all_of (accepting a standing (r ∷ rows))) m → (Contains (all_of (accepting a standing rows)) m → (n : ℕ) × Has rows n m × (accepts a (standing n).sets ≡ true)) → (n : ℕ) × Has (r ∷ rows) n m × (accepts a (standing n).sets ≡ true)
    go true e c rest = elim (Contains-append_cases r.1 (all_of (accepting a standing rows)) m (rw e at c)) [
      | inl l ↦ (r.0, inl (refl, l), e)
      | inr l ↦ let k = rest l in (k.0, inr k.1, k.2)
    ]
    go false e c rest = let k = rest (rw e at c) in (k.0, inr k.1, k.2)

-- a list after another may lose elements
fewer_after : {X : Type 0} (xs ys zs : List X) → HasNoRepeats (xs ++ ys) → ((z : X) → Contains zs z → Contains ys z) → HasNoRepeats zs → HasNoRepeats (xs ++ zs)
fewer_after [] ys zs h sub d = d
fewer_after (x ∷ xs) ys zs h sub d = (
  λ c. h.0 (elim (Contains-append_cases xs zs x c) [ inl l ↦ Contains-append_left xs ys x l | inr l ↦ Contains-append_right xs ys x (sub x l) ]),
  fewer_after xs ys zs h.1 sub d,
)

accepting_within : (a : Automaton) (standing : ℕ → Standing) (rows : List (ℕ × List Member)) (m : Member) → Contains (all_of (accepting a standing rows)) m → Contains (all_of rows) m
accepting_within a standing rows m c = let f = from_accepting a standing rows m c in has_is rows f.0 m f.1
  where
    has_is : (rows : List (ℕ × List Member)) (n : ℕ) (m : Member) → Has rows n m → Contains (all_of rows) m
    has_is [] n m h = absurd h
    has_is (r ∷ rows) n m (inl h) = Contains-append_left r.1 (all_of rows) m h.1
    has_is (r ∷ rows) n m (inr h) = Contains-append_right r.1 (all_of rows) m (has_is rows n m h)

accepting_distinct : (a : Automaton) (standing : ℕ → Standing) (rows : List (ℕ × List Member)) → HasNoRepeats (all_of rows) → HasNoRepeats (all_of (accepting a standing rows))
accepting_distinct a standing [] h = tt
accepting_distinct a standing (r ∷ rows) h = go (accepts a (standing r.0).sets) refl (accepting_distinct a standing rows (HasNoRepeats-back r.1 (all_of rows) h))
  where
    go : (b : Bool) → accepts a (standing r.0).sets ≡ b → HasNoRepeats (all_of (accepting a standing rows)) → HasNoRepeats (all_of (accepting a standing (r ∷ rows)))
    go true e d = rw e (fewer_after r.1 (all_of rows) (all_of (accepting a standing rows)) h (accepting_within a standing rows) d)
    go false e d = rw e d

pub distinct_answers : (xs : List Answer) → HasNoRepeats xs → plain.HasNoRepeats xs
distinct_answers [] h = tt
distinct_answers (x ∷ xs) h = (h.0, distinct_answers xs h.1)

module _ (schema : Declared) (q : Query) (events : List Event) (end : ℕ) (key : List Value) (now : ℤ) (xs : List Seen) (given : IsGiven schema q events end key now xs) where
  abbrev a : Automaton
  a = automaton_of (tree_of q)

  pub keyed_then_of : (p : ℕ) → HasKeyAt schema q events key p → IsOfSubstream schema q events end p
  keyed_then_of p h = record { here = h.event; there = given.last; key = key; here_is = h.at; there_is = given.last_is; here_has = h.has; there_has = given.has }

  of_then_keyed : (p : ℕ) → IsOfSubstream schema q events end p → HasKeyAt schema q events key p
  of_then_keyed p h =
      let same : h.there ≡ given.last = (let e = sym h.there_is ∙ given.last_is in cc) in
      let at_last : HasKey schema q given.last h.key = subst (λ e. HasKey schema q e h.key) same h.there_has in
      let key_is : h.key ≡ key = (let e = sym at_last.1 ∙ given.has.1 in cc) in
      record { event = h.here; at = h.here_is; has = subst (λ k. HasKey schema q h.here k) key_is h.here_has }

  pub lists : ListsSubstream schema q events end (positions xs)
  lists = record {
    ascending = given.seen.ascending;
    exact = λ p. (λ c. keyed_then_of p ((given.seen.exact p).0 c), λ h. (given.seen.exact p).1 (of_then_keyed p h));
  }

  upto : All (λ p. p ≤ end) (positions xs)
  upto = all_from (λ p. p ≤ end) (positions xs) (λ p c. (let k = (given.seen.exact p).0 c in let l = slice_get_within events p k.event k.at in let e = given.ends in omega arith))

  has_end : Contains (positions xs) end
  has_end = (given.seen.exact end).1 (record { event = given.last; at = given.last_is; has = given.has })

  all_rise : Rises (positions xs)
  all_rise = rises (positions xs) given.seen.ascending

  -- the span from one of the events on is what comes from there
  span : (before : List Seen) (x : Seen) (others : List Seen) → xs ≡ before ++ x ∷ others → from_to x.stamp.pos end (positions xs) ≡ positions (x ∷ others)
  span before x others whole =
      let e : positions xs ≡ positions before ++ x.stamp.pos ∷ positions others = ap positions whole ∙ positions_append before (x ∷ others) in
      ap (from_to x.stamp.pos end) e ∙ span_is (positions before) x.stamp.pos (positions others) end (subst Rises e all_rise) (All-back (λ p. p ≤ end) (positions before) (x.stamp.pos ∷ positions others) (subst (All (λ p. p ≤ end)) e upto))

  seen_from : (before : List Seen) (x : Seen) (others : List Seen) → xs ≡ before ++ x ∷ others → All (IsSeen schema q events) (x ∷ others)
  seen_from before x others whole = All-back (IsSeen schema q events) before (x ∷ others) (subst (All (IsSeen schema q events)) whole given.seen.seen)

  -- the determinised run of the definition is the run over what is seen
  run_is : (before : List Seen) (x : Seen) (others : List Seen) (ms : List ℕ) → xs ≡ before ++ x ∷ others → run_standing a q.strict (has_mark (reverse ms)) begin (map (entry_at schema q events) (from_to x.stamp.pos end (positions xs))) ≡ run_standing a q.strict (has_mark ms) begin (map entry (x ∷ others))
  run_is before x others ms whole =
      ap (λ f. run_standing a q.strict f begin (map (entry_at schema q events) (from_to x.stamp.pos end (positions xs)))) (marks_same ms)
      ∙ ap (λ es. run_standing a q.strict (has_mark ms) begin es) (ap (map (entry_at schema q events)) (span before x others whole) ∙ entries_are schema q events (x ∷ others) (seen_from before x others whole))

  upto_from : (before : List Seen) (x : Seen) (others : List Seen) → xs ≡ before ++ x ∷ others → All (λ p. p ≤ end) (positions (x ∷ others))
  upto_from before x others whole =
      let e : positions xs ≡ positions before ++ positions (x ∷ others) = ap positions whole ∙ positions_append before (x ∷ others) in
      All-back (λ p. p ≤ end) (positions before) (positions (x ∷ others)) (subst (All (λ p. p ≤ end)) e upto)

  end_is_after : (before : List Seen) (x : Seen) (others : List Seen) → xs ≡ before ++ x ∷ others → Contains (positions (x ∷ others)) end
  end_is_after before x others whole =
      let le = All-head (λ p. p ≤ end) x.stamp.pos (positions others) (upto_from before x others whole) in
      let same : end ≤ end = omega arith in
      let in_ : between x.stamp.pos end end ≡ true = and_from (nat_le x.stamp.pos end) (nat_le end end) (le-leb x.stamp.pos end le) (le-leb end end same) in
      subst (λ ps. Contains ps end) (span before x others whole) (is_kept (between x.stamp.pos end) (positions xs) end has_end in_)

  accepted_at : (before : List Seen) (x : Seen) (others : List Seen) (ms : List ℕ) (s : Standing) → xs ≡ before ++ x ∷ others → RunEndsIn a q.strict (x ∷ others) s ms → accepts a s.sets ≡ true → IsAcceptedRun schema q events (positions xs) end (record { start = x.stamp.pos; marks = reverse ms })
  accepted_at before x others ms s whole r acc =
      let ps = from_to x.stamp.pos end (positions xs) in
      let sp : positions (x ∷ others) ≡ ps = sym (span before x others whole) in
      let first : has_mark ps x.stamp.pos ≡ true = (listed_is ps x.stamp.pos).1 (subst (λ zs. Contains zs x.stamp.pos) sp (here x.stamp.pos (positions others))) in
      let last : has_mark ps end ≡ true = (listed_is ps end).1 (subst (λ zs. Contains zs end) sp (end_is_after before x others whole)) in
      let marks : list_all (has_mark ps) (reverse ms) ≡ true = all_listed ps (reverse ms) (all_reverse (Contains ps) ms (subst (λ zs. All (Contains zs) ms) sp r.inside)) in
      taken a (run_standing a q.strict (has_mark (reverse ms)) begin (map (entry_at schema q events) ps)) (has_mark ps x.stamp.pos && (has_mark ps end && list_all (has_mark ps) (reverse ms)))
      (and_from (has_mark ps x.stamp.pos) (has_mark ps end && list_all (has_mark ps) (reverse ms)) first (and_from (has_mark ps end) (list_all (has_mark ps) (reverse ms)) last marks))
      (ap (accepted_standing a) (run_is before x others ms whole ∙ r.run) ∙ acc)

  -- a state that a member reaches is one that a run meets
  pub met_at : (s : Standing) (m : Member) → Reaches a q.strict xs s m → IsMet schema q events s
  met_at s m r =
      let f = runs_from a q.strict xs s m r in
      let x = f.first in
      let ps = from_to x.stamp.pos end (positions xs) in
      let sp : positions (x ∷ f.others) ≡ ps = sym (span f.before x f.others f.whole) in
      let first : has_mark ps x.stamp.pos ≡ true = (listed_is ps x.stamp.pos).1 (subst (λ zs. Contains zs x.stamp.pos) sp (here x.stamp.pos (positions f.others))) in
      let last : has_mark ps end ≡ true = (listed_is ps end).1 (subst (λ zs. Contains zs end) sp (end_is_after f.before x f.others f.whole)) in
      let marks : list_all (has_mark ps) (reverse m.positions) ≡ true = all_listed ps (reverse m.positions) (all_reverse (Contains ps) m.positions (subst (λ zs. All (Contains zs) m.positions) sp f.runs.inside)) in
      record {
        first = events;
        later = [];
        whole = whole_is events;
        end = end;
        positions = positions xs;
        lists = lists;
        start = x.stamp.pos;
        marks = reverse m.positions;
        leads = there_is (run_standing a q.strict (has_mark (reverse m.positions)) begin (map (entry_at schema q events) ps)) (has_mark ps x.stamp.pos && (has_mark ps end && list_all (has_mark ps) (reverse m.positions))) s
            (and_from (has_mark ps x.stamp.pos) (has_mark ps end && list_all (has_mark ps) (reverse m.positions)) first (and_from (has_mark ps end) (list_all (has_mark ps) (reverse m.positions)) last marks))
            (run_is f.before x f.others m.positions f.whole ∙ f.runs.run);
      }
    where
      there_is : (o : Option Standing) (b : Bool) (s : Standing) → b ≡ true → o ≡ Some s → (if b then o else None) ≡ Some s
      there_is o true s e h = h
      there_is o false s e h = absurd (false≢true e)

      whole_is : {X : Type 0} (zs : List X) → zs ≡ zs ++ []
      whole_is [] = refl
      whole_is (z ∷ zs) = ap (λ ys. z ∷ ys) (whole_is zs)

  accepted_from : (s : Standing) (m : Member) → Reaches a q.strict xs s m → accepts a s.sets ≡ true → IsAcceptedRun schema q events (positions xs) end (answer_of m)
  accepted_from s m r acc =
      let f = runs_from a q.strict xs s m r in
      let e : f.first.stamp.pos ≡ m.start.pos = ap (λ (t : Stamp). t.pos) (sym f.start) in
      subst (λ p. IsAcceptedRun schema q events (positions xs) end (record { start = p; marks = reverse m.positions })) e (accepted_at f.before f.first f.others m.positions s f.whole f.runs acc)

  accepted_back : (before : List Seen) (x : Seen) (others : List Seen) (ms : List ℕ) → xs ≡ before ++ x ∷ others → IsAscending ms → IsAcceptedRun schema q events (positions xs) end (record { start = x.stamp.pos; marks = ms }) → (s : Standing) × (accepts a s.sets ≡ true) × RunEndsIn a q.strict (x ∷ others) s (reverse ms)
  accepted_back before x others ms whole up h =
      let ps = from_to x.stamp.pos end (positions xs) in
      let o = run_standing a q.strict (has_mark ms) begin (map (entry_at schema q events) ps) in
      let tk = is_taken a o (has_mark ps x.stamp.pos && (has_mark ps end && list_all (has_mark ps) ms)) h in
      let one = and_parts (has_mark ps x.stamp.pos) (has_mark ps end && list_all (has_mark ps) ms) tk.0 in
      let two = and_parts (has_mark ps end) (list_all (has_mark ps) ms) one.1 in
      let inside = subst (λ zs. All (Contains zs) ms) (span before x others whole) (listed_all ps ms two.1) in
      let acc = some_accepts a o tk.1 in
      let same = ap (λ zs. run_standing a q.strict (has_mark zs) begin (map (entry_at schema q events) ps)) (reverse-reverse ms) in (
        acc.0,
        acc.2,
        record {
          falls = falls_reverse ms (rises ms up);
          inside = all_reverse (Contains (positions (x ∷ others))) ms inside;
          run = sym (run_is before x others (reverse ms) whole) ∙ (same ∙ acc.1);
        },
      )

  accepted_to : (answer : Answer) → IsAscending answer.marks → IsAcceptedRun schema q events (positions xs) end answer → (s : Standing) × (m : Member) × Reaches a q.strict xs s m × (accepts a s.sets ≡ true) × (answer_of m ≡ answer)
  accepted_to answer up h =
      let ps = from_to answer.start end (positions xs) in
      let o = run_standing a q.strict (has_mark answer.marks) begin (map (entry_at schema q events) ps) in
      let tk = is_taken a o (has_mark ps answer.start && (has_mark ps end && list_all (has_mark ps) answer.marks)) h in
      let one = and_parts (has_mark ps answer.start) (has_mark ps end && list_all (has_mark ps) answer.marks) tk.0 in
      let c = (kept_is (between answer.start end) (positions xs) answer.start ((listed_is ps answer.start).0 one.0)).0 in
      let sp = splits xs answer.start c in
      let b = accepted_back sp.before sp.at sp.others answer.marks sp.whole up (subst (λ p. IsAcceptedRun schema q events (positions xs) end (record { start = p; marks = answer.marks })) (sym sp.is) h) in
      let m : Member = record { start = sp.at.stamp; positions = reverse answer.marks } in
      (b.0, m, subst (λ ys. Reaches a q.strict ys b.0 m) (sym sp.whole) (reaches a q.strict sp.before sp.at sp.others b.0 m refl b.2), b.1, λ i. record { start = sp.is i; marks = reverse-reverse answer.marks i })

  -- where a member that has a run starts: at one of the events
  pub record StartsAt (m : Member) : Type 0 where
    pub event : Event
    pub at : slice_get events m.start.pos ≡ Some event
    pub clock : HasClock schema q.window event m.start.pos m.start.clock

  pub starts_at : (s : Standing) (m : Member) → Reaches a q.strict xs s m → StartsAt m
  starts_at s m r =
      let f = runs_from a q.strict xs s m r in
      let seen = All-head (IsSeen schema q events) f.first f.others (seen_from f.before f.first f.others f.whole) in
      record {
        event = seen.event;
        at = subst (λ (t : Stamp). slice_get events t.pos ≡ Some seen.event) (sym f.start) seen.at;
        clock = subst (λ (t : Stamp). HasClock schema q.window seen.event t.pos t.clock) (sym f.start) seen.tells.clock;
      }

  -- two members with one answer are one
  one_member : (s t : Standing) (m n : Member) → Reaches a q.strict xs s m → Reaches a q.strict xs t n → answer_of m ≡ answer_of n → m ≡ n
  one_member s t m n r r' e =
      let x = starts_at s m r in
      let y = starts_at t n r' in
      let p : m.start.pos ≡ n.start.pos = ap (λ (z : Answer). z.start) e in
      let at_n : slice_get events n.start.pos ≡ Some x.event = subst (λ z. slice_get events z ≡ Some x.event) p x.at in
      let event : x.event ≡ y.event = (let both = sym at_n ∙ y.at in cc) in
      let clock_at_n : HasClock schema q.window y.event n.start.pos m.start.clock = subst (λ z. HasClock schema q.window y.event z m.start.clock) p (subst (λ z. HasClock schema q.window z m.start.pos m.start.clock) event x.clock) in
      let c : m.start.clock ≡ n.start.clock = clock_is_one schema q.window y.event n.start.pos m.start.clock n.start.clock clock_at_n y.clock in
      let ps : m.positions ≡ n.positions = reverse_same m.positions n.positions (ap (λ (z : Answer). z.marks) e) in
      λ i. record { start = record { pos = p i; clock = c i }; positions = ps i }

  module _ (standing : ℕ → Standing) (low : ℤ) (low_is : low ≡ low_of q.window now) (rows : List (ℕ × List Member)) (holds : Holds a q.strict standing low xs rows) where
    abbrev found : List Member
    found = all_of (accepting a standing rows)

    is_recent : Member → Bool
    is_recent m = int_le low m.start.clock

    each : (answer : Answer) → Contains (answers_in a standing low rows) answer → IsAnswer schema q events end answer
    each answer c =
        let r = mapped_is answer_of (recent low found) answer c in
        let k = kept_is (λ (m : Member). int_le low m.start.clock) found r.0 r.1 in
        let f = from_accepting a standing rows r.0 k.0 in
        let reach = holds.sound f.0 r.0 f.1 in
        let x = starts_at (standing f.0) r.0 reach in
        let window = in_window schema q events r.0.start.pos end x.event given.last r.0.start.clock now x.at given.last_is x.clock given.clock (subst (λ z. z ≤ℤ r.0.start.clock) low_is (test_tells low r.0.start.clock k.1)) in
        let up = ascending (reverse r.0.positions) (rises_reverse r.0.positions (runs_from a q.strict xs (standing f.0) r.0 reach).runs.falls) in
        subst (IsAnswer schema q events end) r.2 ((answers_are_accepted schema q events end (positions xs) (answer_of r.0) lists).1 (up, accepted_from (standing f.0) r.0 reach f.2, window))

    all : (answer : Answer) → IsAnswer schema q events end answer → Contains (answers_in a standing low rows) answer
    all answer is =
        let query_states = (answers_are_accepted schema q events end (positions xs) answer lists).0 is in
        let t = accepted_to answer query_states.0 query_states.1 in
        let x = starts_at t.0 t.1 t.2 in
        let start_is : answer.start ≡ t.1.start.pos = ap (λ (z : Answer). z.start) (sym t.4) in
        let window = subst (λ p. IsInWindow schema q events p end) start_is query_states.2 in
        let low_le = low_in_window schema q events t.1.start.pos end x.event given.last t.1.start.clock now x.at given.last_is x.clock given.clock window in
        let recent_ = test_passes low t.1.start.clock (subst (λ z. z ≤ℤ t.1.start.clock) (sym low_is) low_le) in
        let c = holds.complete t.0 t.1 t.2 recent_ in
        let acc : accepts a (standing c.0).sets ≡ true = ap (λ (s : Standing). accepts a s.sets) c.1 ∙ t.3 in
        let inside = is_kept (λ (m : Member). int_le low m.start.clock) found t.1 (in_accepting a standing rows c.0 t.1 c.2 acc) recent_ in
        subst (Contains (answers_in a standing low rows)) t.4 (is_mapped answer_of (recent low found) t.1 inside)

    once : HasNoRepeats (answers_in a standing low rows)
    once =
        map_distinct answer_of (recent low found) only (filter_distinct (λ (m : Member). int_le low m.start.clock) found (accepting_distinct a standing rows holds.distinct))
      where
        only : (m n : Member) → Contains (recent low found) m → Contains (recent low found) n → answer_of m ≡ answer_of n → m ≡ n
        only m n cm cn e =
            let f = from_accepting a standing rows m (kept_is (λ (m : Member). int_le low m.start.clock) found m cm).0 in
            let g = from_accepting a standing rows n (kept_is (λ (m : Member). int_le low m.start.clock) found n cn).0 in
            one_member (standing f.0) (standing g.0) m n (holds.sound f.0 m f.1) (holds.sound g.0 n g.1) e

    pub are_answers : AreAnswersAt schema q events end (answers_in a standing low rows)
    are_answers = record { each = each; all = all; once = distinct_answers (answers_in a standing low rows) once }

-- where the last event has no key there is no answer
pub no_answer : (schema : Declared) (q : Query) (events : List Event) (end : ℕ) (last : Event) → slice_get events end ≡ Some last → ((key : List Value) → HasKey schema q last key → ⊥) → (answer : Answer) → IsAnswer schema q events end answer → ⊥
no_answer schema q events end last last_is none answer is =
    let lists : ListsSubstream schema q events end [] = record { ascending = ascending [] tt; exact = λ p. (λ c. absurd (none_in_nil p c), λ h. absurd (out p h)) } in
    let query_states = (answers_are_accepted schema q events end [] answer lists).0 is in
    absurd (false≢true query_states.1)
  where
    out : (p : ℕ) → IsOfSubstream schema q events end p → ⊥
    out p h = let same : h.there ≡ last = (let e = sym h.there_is ∙ last_is in cc) in none h.key (subst (λ e. HasKey schema q e h.key) same h.there_has)

-- nor where no leaf reads it
pub no_silent_answer : (schema : Declared) (q : Query) (events : List Event) (end : ℕ) (key : List Value) (now : ℤ) (xs : List Seen) (x : Seen) → IsGiven schema q events end key now (xs ++ x ∷ []) → IsSilent x → All (λ (y : Seen). y.stamp.pos < x.stamp.pos) xs → (answer : Answer) → IsAnswer schema q events end answer → ⊥
no_silent_answer schema q events end key now xs x given silent later answer is =
    let whole : List Seen = xs ++ x ∷ [] in
    let query_states = (answers_are_accepted schema q events end (positions whole) answer (lists schema q events end key now whole given)).0 is in
    let t = accepted_to schema q events end key now whole given answer query_states.0 query_states.1 in
    let o = reaches_less (automaton_of (tree_of q)) q.strict xs x t.0 t.1 later t.2 in
    let none : accepts (automaton_of (tree_of q)) t.0.sets ≡ false = elim o.extends [
      | inl mark ↦ not_accepting (automaton_of (tree_of q)) q.strict o.state t.0 x.bits true silent mark.0
      | inr past ↦ not_accepting (automaton_of (tree_of q)) q.strict o.state t.0 x.bits false silent past.0
    ] in
    false≢true (sym none ∙ t.3)
