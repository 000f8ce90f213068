-- Lists of matches one after another are what the meaning's sequence is.
use Rattle.std.proofs.Common.{◌≡◌, refl, sym, ap, subst, ℕ, zero, suc, ◌+◌, ◌<◌, ◌≤◌, inl, inr, Bool, true, false, not, ◌&&◌, List, ◌++◌, Some, None, nat_lt, arith}
use Rattle.std.proofs.lemmas.Bool.{ltb-true, lt-ltb, cases_lt}
use Rattle.std.specs.Prelude.{Contains, if◌then◌else◌}
use Rattle.std.specs.List.{list_any, filter_map}
use Rattle.stream_schema.specs.Types.{Declared}
use Rattle.stream_schema.specs.declared.Event.{Event}
use Rattle.cel_terms.specs.Meaning.{Meaning, Valuation, MayFollow, Sequence, Repeated, once, again}
use Rattle.cel_terms.specs.MeaningLaws.{stream_of}
use Rattle.cel_terms.proofs.Operations.{Within}
use Rattle.cel_lists.specs.declared.Match.{Match}
use Rattle.cel_lists.specs.Lists.{is_between, may_follow, joined, join_if, in_sequence, times, up_to}
use Rattle.cel_lists.proofs.Members.{Among, contains_from, among_from, among_left, among_right, among_cases, among_filter_map, filter_map_among, among_flat_map, flat_map_among, any_among, among_any}

-- the valuations with their intervals that are in the list
abbrev pub In : List Match → Meaning
In ms s e v = Among (record { start = s; end = e; bounds = v }) ms

pub and_from : (a b : Bool) → (a && b) ≡ true → (a ≡ true) × (b ≡ true)
and_from true b e = (refl, e)
and_from false b e = absurd cc

pub and_to : (a b : Bool) → a ≡ true → b ≡ true → (a && b) ≡ true
and_to true b p q = q
and_to false b p q = absurd cc

not_from : (a : Bool) → not a ≡ true → a ≡ true → ⊥
not_from true e h = absurd cc
not_from false e h = absurd cc

not_to : (a : Bool) → (a ≡ true → ⊥) → not a ≡ true
not_to true h = absurd (h refl)
not_to false h = refl

pub follow_from : (schema : Declared) (events : List Event) (positions : List ℕ) (tight : Bool) (from to : ℕ) → may_follow positions tight from to ≡ true → MayFollow (stream_of schema events positions) tight from to
follow_from schema events positions false from to e = ltb-true from to (and_from _ _ e).0
follow_from schema events positions true from to e = (
  ltb-true from to (and_from _ _ e).0,
  λ p has after before. not_from (list_any (is_between from to) positions) (and_from _ _ e).1
      (any_among (is_between from to) p positions (among_from p positions has) (and_to _ _ (lt-ltb from p after) (lt-ltb p to before))),
)

none_between : (positions : List ℕ) (from to : ℕ) → ((p : ℕ) → Contains positions p → from < p → p < to → ⊥) → list_any (is_between from to) positions ≡ true → ⊥
none_between positions from to none e =
    let s = among_any (is_between from to) positions e in
    let b = and_from (nat_lt from s.0) (nat_lt s.0 to) s.2 in
    none s.0 (contains_from s.0 positions s.1) (ltb-true from s.0 b.0) (ltb-true s.0 to b.1)

pub follow_to : (schema : Declared) (events : List Event) (positions : List ℕ) (tight : Bool) (from to : ℕ) → MayFollow (stream_of schema events positions) tight from to → may_follow positions tight from to ≡ true
follow_to schema events positions false from to h = and_to _ _ (lt-ltb from to h) refl
follow_to schema events positions true from to h = and_to _ _ (lt-ltb from to h.0) (not_to _ (none_between positions from to h.1))

pub if_to : (b : Bool) (m : Match) → b ≡ true → (if b then Some m else None) ≡ Some m
if_to true m e = refl
if_to false m e = absurd cc

pub if_from : (b : Bool) (m n : Match) → (if b then Some m else None) ≡ Some n → (b ≡ true) × (m ≡ n)
if_from true m n e = (refl, cc)
if_from false m n e = absurd cc

pub sequence_in : (schema : Declared) (events : List Event) (positions : List ℕ) (tight : Bool) (first second : List Match) → Within (Sequence (stream_of schema events positions) tight (In first) (In second)) (In (in_sequence positions tight first second))
sequence_in schema events positions tight first second s e v h =
    let a : Match = record { start = s; end = h.middle; bounds = h.before } in
    let b : Match = record { start = h.next; end = e; bounds = h.after } in
    subst (λ (w : Valuation). In (in_sequence positions tight first second) s e w) (sym h.united)
    (among_flat_map (λ x. filter_map (join_if positions tight x) second) a (joined a b) first h.first_is
    (among_filter_map (join_if positions tight a) b (joined a b) second h.second_is
    (if_to (may_follow positions tight h.middle h.next) (joined a b) (follow_to schema events positions tight h.middle h.next h.follows))))

pub in_sequence_means : (schema : Declared) (events : List Event) (positions : List ℕ) (tight : Bool) (first second : List Match) → Within (In (in_sequence positions tight first second)) (Sequence (stream_of schema events positions) tight (In first) (In second))
in_sequence_means schema events positions tight first second s e v h =
    let m : Match = record { start = s; end = e; bounds = v } in
    let x = flat_map_among (λ x. filter_map (join_if positions tight x) second) m first h in
    let y = filter_map_among (join_if positions tight x.0) m second x.2 in
    let j = if_from (may_follow positions tight x.0.end y.0.start) (joined x.0 y.0) m y.2 in
    let from_start : x.0.start ≡ s = ap (λ (k : Match). k.start) j.1 in
    let to_end : y.0.end ≡ e = ap (λ (k : Match). k.end) j.1 in
    record {
      middle = x.0.end;
      next = y.0.start;
      before = x.0.bounds;
      after = y.0.bounds;
      first_is = subst (λ (k : ℕ). In first k x.0.end x.0.bounds) from_start x.1;
      follows = follow_from schema events positions tight x.0.end y.0.start j.0;
      second_is = subst (λ (k : ℕ). In second y.0.start k y.0.bounds) to_end y.1;
      united = sym (ap (λ (k : Match). k.bounds) j.1);
    }

-- Each of so many times is a repetition,
times_repeat : (schema : Declared) (events : List Event) (positions : List ℕ) (tight : Bool) (part : List Match) (n : ℕ) → Within (In (times positions tight part n)) (Repeated (stream_of schema events positions) tight (In part))
times_repeat schema events positions tight part zero s e v h = once h
times_repeat schema events positions tight part (suc n) s e v h =
    let q = in_sequence_means schema events positions tight part (times positions tight part n) s e v h in
    subst (Repeated (stream_of schema events positions) tight (In part) s e) (sym q.united)
    (again q.first_is q.follows (times_repeat schema events positions tight part n q.next e q.after q.second_is))

pub up_to_repeat : (schema : Declared) (events : List Event) (positions : List ℕ) (tight : Bool) (part : List Match) (n : ℕ) → Within (In (up_to positions tight part n)) (Repeated (stream_of schema events positions) tight (In part))
up_to_repeat schema events positions tight part zero s e v h = once h
up_to_repeat schema events positions tight part (suc n) s e v h =
    elim (among_cases _ (up_to positions tight part n) (times positions tight part (suc n)) h) [
      | inl a ↦ up_to_repeat schema events positions tight part n s e v a
      | inr b ↦ times_repeat schema events positions tight part (suc n) s e v b
    ]

-- and a repetition is one of so many times, at most as many as its interval is long.
record IsTimes (positions : List ℕ) (tight : Bool) (part : List Match) (s e : ℕ) (v : Valuation) : Type 0 where
  count : ℕ
  is : In (times positions tight part count) s e v
  short : s + count ≤ e

earlier : (schema : Declared) (events : List Event) (positions : List ℕ) (tight : Bool) (from to : ℕ) → MayFollow (stream_of schema events positions) tight from to → from < to
earlier schema events positions false from to h = h
earlier schema events positions true from to h = h.0

repeat_times : (schema : Declared) (events : List Event) (positions : List ℕ) (tight : Bool) (part : List Match) → ((s e : ℕ) (v : Valuation) → In part s e v → s ≤ e) → (s e : ℕ) (v : Valuation) → Repeated (stream_of schema events positions) tight (In part) s e v → IsTimes positions tight part s e v
repeat_times schema events positions tight part ordered s e v (once h) = let o = ordered _ _ _ h in record { count = 0; is = h; short = omega arith }
repeat_times schema events positions tight part ordered s e v (again {start = start} {middle = middle} {next = next} {end = end} {v = v'} {w = w} h m r) =
    let i = repeat_times schema events positions tight part ordered next end w r in
    let o = ordered start middle v' h in
    let l = earlier schema events positions tight middle next m in
    let short = i.short in
    record {
      count = suc i.count;
      is = sequence_in schema events positions tight part (times positions tight part i.count) start end (v' ++ w)
          record { middle = middle; next = next; before = v'; after = w; first_is = h; follows = m; second_is = i.is; united = refl };
      short = omega arith;
    }

times_up_to : (positions : List ℕ) (tight : Bool) (part : List Match) (n k : ℕ) → k ≤ n → (m : Match) → Among m (times positions tight part k) → Among m (up_to positions tight part n)
times_up_to positions tight part zero zero le m h = h
times_up_to positions tight part zero (suc k) le m h = absurd (omega arith)
times_up_to positions tight part (suc n) k le m h =
    elim (cases_lt k (suc n)) [
      | inl less ↦ among_left m (up_to positions tight part n) (times positions tight part (suc n)) (times_up_to positions tight part n k (omega arith) m h)
      | inr more ↦ among_right m (up_to positions tight part n) (times positions tight part (suc n)) (let same : k ≡ suc n = omega arith in subst (λ (j : ℕ). Among m (times positions tight part j)) same h)
    ]

pub repeat_up_to : (schema : Declared) (events : List Event) (positions : List ℕ) (tight : Bool) (part : List Match) (n : ℕ) → ((s e : ℕ) (v : Valuation) → In part s e v → s ≤ e) → ((s e : ℕ) (v : Valuation) → Repeated (stream_of schema events positions) tight (In part) s e v → e ≤ n) → Within (Repeated (stream_of schema events positions) tight (In part)) (In (up_to positions tight part n))
repeat_up_to schema events positions tight part n ordered bounded s e v h =
    let t = repeat_times schema events positions tight part ordered s e v h in
    let b = bounded s e v h in
    let short = t.short in
    times_up_to positions tight part n t.count (omega arith) (record { start = s; end = e; bounds = v }) t.is
