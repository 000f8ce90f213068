-- Queries that are compacted where they have grown: what is left of each, and that what was put by pays for it.
use Rattle.std.proofs.Common.{◌∷◌, ◌≡◌, ℕ, ◌+◌, ◌-◌, ◌*◌, ◌<◌, ◌≤◌, ◌⊎◌, inl, inr, ℤ, Bool, true, false, cond, List, map, length, Result, Ok, Err, refl, sym, ap, subst, ◌∙◌, Option, Some, slice_get, arith, None, []}
use Rattle.std.specs.Prelude.{nat_le, ◌&&◌, OnOk, ◌≤ℤ◌, pos, IfSome, IfNone}
use Rattle.cel_terms.specs.Answers.{HasClock}
use Rattle.cel_terms.specs.declared.Window.{Window}
use Rattle.cel_terms.specs.declared.Window.TheVariants.{Free}
use Rattle.query_engine.specs.Clocks.{Reads, HasClockAt, IsLastClock, low_of}
use Rattle.std.specs.Option.{option_map_or}
use Rattle.std.proofs.lemmas.Bool.{cases_lt, cases_Bool, leb-true, le-leb}
use Rattle.std.proofs.lemmas.Int.{ints}
use Rattle.std.proofs.lemmas.Option.{slice_get_within}
use Rattle.std.proofs.lemmas.List.Elements.{All-nil, All-weaker}
use Rattle.stream_schema.specs.Types.{Declared}
use Rattle.stream_schema.specs.declared.Event.{Event}
use Rattle.cel_terms.specs.declared.Query.{Query}
use Rattle.arena_compact.specs.Roots.{places}
use Rattle.query_standing.specs.Kept.{QueryState}
use Rattle.query_standing.specs.Bounds.{for_each_query}
use Rattle.all_or_none.specs.Phases.{Phase}
use Rattle.all_or_none.specs.Dormancy.{phase_at}
use Rattle.query_engine.specs.declared.sizes.Size.{Size}
use Rattle.query_engine.specs.Times.{query_states_at}
use Rattle.query_engine.specs.Engine.{EngineState, Open, StandsFor, SameQueries, kept_of, len_of, MayStartAt}
use Rattle.query_engine.specs.Compacting.{is_chosen, places_of, compact_bounds, chosen_bounds, IsLeft, IsLeftOf, OthersAreKept}
use Rattle.query_engine.specs.Keys.{keys_of, KeysFollowWindows}
use Rattle.query_engine.specs.Windows.{IsReadFrom, IsDense, IsHeld, IsFollowed, FollowsWindow}
use Rattle.query_engine.proofs.DenseNodes.{dense_nodes}
use Rattle.query_engine.specs.Sizes.{size_of, base_of, has_grown, AreSizes, put_by, AreTended}
use Rattle.query_engine.specs.Choosing.{query_state_weight, noted_at, AreGrown, NoneHasGrown, AreNoted, AreNotedAll, OthersAreFree}
use Rattle.query_engine.proofs.Standing.{state, mapped, map_at, length_map}
use Rattle.query_engine.proofs.Keeping.{seen_length}
use Rattle.query_engine.proofs.Clocked.{clocked_back}
use Rattle.query_engine.proofs.Counting.{each_at_most, each_of_both, query_at}
use Rattle.query_engine.proofs.FewEntries.{entries_few}
use Rattle.query_engine.proofs.Windows.{query_state_of_query, query_follows_window}
use Rattle.query_engine.proofs.Keys.{query_keys_follow}
use Rattle.query_engine.proofs.SmallSizes.{followed_is_sized}

-- SIZES OF PARTS

sizes_are : (engine : EngineState) (k : ℕ) (query_state : QueryState) → slice_get engine.query_states k ≡ Some query_state → size_of engine (k + 1) ≡ length query_state.nodes + 8 * length query_state.keys
unfolding len_of keys_of
sizes_are engine k query_state at =
    let number : k + 1 - 1 ≡ k = omega arith in
    ap (λ (i : ℕ). option_map_or (λ (x : QueryState). length x.nodes) (slice_get engine.query_states i) 0 + 8 * option_map_or (λ (x : QueryState). length x.keys) (slice_get engine.query_states i) 0) number
    ∙ ap (λ (o : Option QueryState). option_map_or (λ (x : QueryState). length x.nodes) o 0 + 8 * option_map_or (λ (x : QueryState). length x.keys) o 0) at

pub base_at : (bases : List Size) (k : ℕ) → base_of bases (k + 1) ≡ noted_at bases k
base_at bases k = let number : k + 1 - 1 ≡ k = omega arith in ap (noted_at bases) number

module _ (schema : Declared) (count : ℕ) (clocks : List (Option ℤ)) (query_states : List Phase) (ps : List ℕ) (s : EngineState) (is : state schema count (query_states_at count query_states clocks) ps ≡ s) where
  pub query_states_long : length s.queries ≡ length query_states
  query_states_long = ap (λ (t : EngineState). length t.queries) (sym is) ∙ (length_map (λ (p : Phase). p.query) (query_states_at count query_states clocks) ∙ seen_length count query_states clocks)

  -- the query state of a query, and how much it keeps
  pub weighed : (k : ℕ) (q : Query) → slice_get s.queries k ≡ Some q → (p : Phase) × (slice_get query_states k ≡ Some p) × (size_of s (k + 1) ≡ query_state_weight p)
  weighed = subst (λ (t : EngineState). (k : ℕ) (q : Query) → slice_get t.queries k ≡ Some q → (p : Phase) × (slice_get query_states k ≡ Some p) × (size_of t (k + 1) ≡ query_state_weight p)) is (λ k q at. (
      let one = mapped (λ (p : Phase). p.query) (query_states_at count query_states clocks) k q at in
      let two = clocked_back (map (phase_at count) query_states) clocks k one.0 one.1 in
      let three = mapped (phase_at count) query_states k two.0 two.1 in
      let kept = map_at (λ (p : Phase). p.kept) (query_states_at count query_states clocks) k one.0 one.1 in
      (three.0, three.1, sizes_are (state schema count (query_states_at count query_states clocks) ps) k one.0.kept kept ∙ (ap query_state_weight (sym two.2) ∙ ap query_state_weight (sym three.2)))))

  pub are_sizes : (bases : List Size) → length bases ≡ length s.queries → AreNotedAll (length query_states) query_states bases → AreSizes s bases
  are_sizes bases long noted = record {
    count = long;
    each = λ k q at. (let p = weighed k q at in base_at bases k ∙ (noted k p.0 (slice_get_within query_states k p.0 p.1) p.1 ∙ sym p.2));
  }

  -- flags by what the queries keep
  pub flags_are : (least : ℕ) (bases : List Size) (chosen : List Bool) → AreGrown least bases (length query_states) query_states chosen → (k : ℕ) (q : Query) → slice_get s.queries k ≡ Some q → is_chosen chosen k ≡ has_grown least (base_of bases (k + 1)) (size_of s (k + 1))
  flags_are least bases chosen grown k q at =
      let p = weighed k q at in
      grown k p.0 (slice_get_within query_states k p.0 p.1) p.1 ∙ (ap (λ (b : ℕ). has_grown least b (query_state_weight p.0)) (sym (base_at bases k)) ∙ ap (has_grown least (base_of bases (k + 1))) (sym p.2))

  pub none_grown : (least : ℕ) (bases : List Size) → NoneHasGrown least bases (length query_states) query_states → (k : ℕ) (q : Query) → slice_get s.queries k ≡ Some q → has_grown least (base_of bases (k + 1)) (size_of s (k + 1)) ≡ false
  none_grown least bases none k q at =
      let p = weighed k q at in
      ap (has_grown least (base_of bases (k + 1))) p.2 ∙ (ap (λ (b : ℕ). has_grown least b (query_state_weight p.0)) (base_at bases k) ∙ none k p.0 (slice_get_within query_states k p.0 p.1) p.1)

  -- what is not chosen has no window
  pub others_free : (chosen : List Bool) → OthersAreFree (length query_states) query_states chosen → (k : ℕ) (q : Query) → slice_get s.queries k ≡ Some q → is_chosen chosen k ≡ false → q.window ≡ Free
  others_free chosen free = subst (λ (t : EngineState). (k : ℕ) (q : Query) → slice_get t.queries k ≡ Some q → is_chosen chosen k ≡ false → q.window ≡ Free) is (λ k q at other. (
      let one = mapped (λ (p : Phase). p.query) (query_states_at count query_states clocks) k q at in
      let two = clocked_back (map (phase_at count) query_states) clocks k one.0 one.1 in
      let three = mapped (phase_at count) query_states k two.0 two.1 in
      let query : three.0.query ≡ q = ap (λ (p : Phase). p.query) three.2 ∙ (ap (λ (p : Phase). p.query) two.2 ∙ one.2) in
      ap (λ (x : Query). x.window) (sym query) ∙ free k three.0 (slice_get_within query_states k three.0 three.1) three.1 other))

  pub noted_sizes : (chosen : List Bool) (old new : List Size) → AreNoted chosen (length query_states) query_states old new → (k : ℕ) (q : Query) → slice_get s.queries k ≡ Some q → is_chosen chosen k ≡ true → base_of new (k + 1) ≡ size_of s (k + 1)
  noted_sizes chosen old new noted k q at flag =
      let p = weighed k q at in
      base_at new k ∙ (noted.chosen_ones k p.0 (slice_get_within query_states k p.0 p.1) p.1 flag ∙ sym p.2)

  -- every query is chosen where every query state is
  pub all_chosen : (new : EngineState) → SameQueries s new → (slice : List Phase) → slice ≡ query_states → (items flags : List Bool) → flags ≡ items → ((k : ℕ) → k < length slice → is_chosen items k ≡ true) → (k : ℕ) (q : Query) → slice_get new.queries k ≡ Some q → is_chosen flags k ≡ true
  all_chosen new same slice slice_is items flags flags_is every k q at =
      let inside = slice_get_within new.queries k q at in
      let as_many = ap length same.1 in
      let long = query_states_long in
      let many = ap length slice_is in
      subst (λ (bs : List Bool). is_chosen bs k ≡ true) (sym flags_is) (every k (omega arith))

-- EVERY QUERY

pub all_left : (chosen : List Bool) (engine : EngineState) (held : List Open) → ((k : ℕ) (q : Query) → slice_get engine.queries k ≡ Some q → is_chosen chosen k ≡ true) → IsLeftOf chosen engine held → IsLeft engine held
all_left chosen engine held all left k q p q_at p_at = left k q p q_at p_at (all k q q_at)

pub chosen_within : (chosen : List Bool) (engine : EngineState) → chosen_bounds chosen engine ≤ compact_bounds engine
chosen_within chosen engine = each_at_most (length engine.queries) (λ k. cond (is_chosen chosen (k - 1)) (8 * len_of engine k + 4 * places_of engine k) 0) (λ k. 8 * len_of engine k + 4 * places_of engine k)
    (λ j less. at_most (is_chosen chosen (j + 1 - 1)) (8 * len_of engine (j + 1) + 4 * places_of engine (j + 1)))
  where
    at_most : (b : Bool) (n : ℕ) → cond b n 0 ≤ n
    at_most true n = omega arith
    at_most false n = omega arith

-- what follows from two and three facts of a result
pub on_ok_from : {T F : Type 0} (r : Result T F) (P Q : Type 0) → (P → Q) → OnOk r P → OnOk r Q
on_ok_from (Ok x) P Q f p = f p
on_ok_from (Err e) P Q f p = tt

pub on_ok_two : {T F : Type 0} (r : Result T F) (P Q R : Type 0) → (P → Q → R) → OnOk r P → OnOk r Q → OnOk r R
on_ok_two (Ok x) P Q R f p q = f p q
on_ok_two (Err e) P Q R f p q = tt

pub on_ok_three : {T F : Type 0} (r : Result T F) (P Q R S : Type 0) → (P → Q → R → S) → OnOk r P → OnOk r Q → OnOk r R → OnOk r S
on_ok_three (Ok x) P Q R S f p q t = f p q t
on_ok_three (Err e) P Q R S f p q t = tt

-- WITHOUT A WINDOW

-- no event is out of it
none_out : (q : Query) (now clock : ℤ) (position : ℕ) → q.window ≡ Free → clock ≡ pos position → low_of q.window now ≤ℤ clock
none_out q now clock position free is = subst (λ (z : ℤ). low_of q.window now ≤ℤ z) (sym is) (subst (λ (w : Window). low_of w now ≤ℤ pos position) (sym free) (omega (arith, ints)))

free_clock : (schema : Declared) (q : Query) (events : List Event) (x : ℕ) (clock : ℤ) → q.window ≡ Free → HasClockAt schema q events x clock → clock ≡ pos x
free_clock schema q events x clock free h = subst (λ (w : Window). HasClock schema w h.event x clock) free h.clock_is

-- so the nodes follow it, compacted or not
pub free_follows : (engine : EngineState) (events : List Event) (held : List Open) → StandsFor engine events → IsDense engine events → (k : ℕ) (q : Query) → slice_get engine.queries k ≡ Some q → q.window ≡ Free → IsFollowed engine events held k q
unfolding StandsFor
free_follows engine events held stands dense k q at free =
    let found = query_state_of_query (kept_of engine) events k q stands at in
    let query_state = found.0 in
    let st = stands.each k q query_state at found.1 in
    let h = dense_nodes engine events dense k q at in
    let may : (x : ℕ) → IsReadFrom engine.schema q events 0 x → MayStartAt engine events q x = λ x r. (
    let clock = free_clock engine.schema q events x r.clock free r.has in
    let own = last_clock engine.schema q events query_state.clock x r.clock st.clock st.unread r.has in
    record { clock = r.clock; has = r.has; recent = (own.0, own.1, none_out q own.0 r.clock x free clock) }) in
    record {
      number = len_of engine (k + 1);
      bounded = record { positions = h.positions; distinct = h.distinct; each = All-weaker (IsReadFrom engine.schema q events 0) (MayStartAt engine events q) may h.positions h.each; bounded = h.bounded };
      others = [];
      distinct = tt;
      each = All-nil (IsHeld engine held k);
      whole = omega arith;
    }
  where
    last_clock : (schema : Declared) (q : Query) (events : List Event) (c : Option ℤ) (x : ℕ) (clock : ℤ) → IfSome c (IsLastClock schema q events) → IfNone c ((p : ℕ) (e : Event) → slice_get events p ≡ Some e → Reads schema q e → ⊥) → HasClockAt schema q events x clock → (now : ℤ) × IsLastClock schema q events now
    last_clock schema q events None x clock last none has = absurd (none x has.event has.at has.read)
    last_clock schema q events (Some now) x clock last none has = (now, last)

-- WHAT HAS GROWN

not_grown : (least base now : ℕ) → has_grown least base now ≡ false → (now < least) ⊎ (now < 2 * base)
not_grown least base now none = elim (cases_lt now least) [
  | inl less ↦ inl less
  | inr enough ↦ elim (cases_lt now (2 * base)) [
    | inl less ↦ inr less
    | inr twice ↦
        let one : nat_le least now ≡ true = le-leb least now enough in
        let two : nat_le (2 * base) now ≡ true = le-leb (2 * base) now twice in
        absurd cc
  ]
]

second : (a b : Bool) → a && b ≡ true → b ≡ true
second true b e = e
second false b e = absurd cc

has_doubled : (least base now : ℕ) → has_grown least base now ≡ true → 2 * base ≤ now
has_doubled least base now grown = leb-true (2 * base) now (second (nat_le least now) (nat_le (2 * base) now) grown)

-- What is left alone is as it was.
pub alone : (least : ℕ) (engine : EngineState) (bases : List Size) → ((k : ℕ) (q : Query) → slice_get engine.queries k ≡ Some q → has_grown least (base_of bases (k + 1)) (size_of engine (k + 1)) ≡ false) → (events : List Event) (held : List Open) → AreTended least engine engine events held bases bases
alone least engine bases none events held k q at = inr (record { noted = refl; same = refl; small = not_grown least (base_of bases (k + 1)) (size_of engine (k + 1)) (none k q at) })

-- Which queries were chosen, what was noted of them, and that the others are as they were.
pub record AreChosen (least : ℕ) (chosen : List Bool) (old new : EngineState) (before after : List Size) : Type 0 where
  pub same : SameQueries old new
  pub flags : (k : ℕ) (q : Query) → slice_get old.queries k ≡ Some q → is_chosen chosen k ≡ has_grown least (base_of before (k + 1)) (size_of old (k + 1))
  pub noted : (k : ℕ) (q : Query) → slice_get new.queries k ≡ Some q → is_chosen chosen k ≡ true → base_of after (k + 1) ≡ size_of new (k + 1)
  pub others : (k : ℕ) → is_chosen chosen k ≡ false → base_of after (k + 1) ≡ base_of before (k + 1)
  pub stay : OthersAreKept chosen old new

module _ (least : ℕ) (chosen : List Bool) (old new : EngineState) (before after : List Size) (are : AreChosen least chosen old new before after) where
  query_before : (k : ℕ) (q : Query) → slice_get new.queries k ≡ Some q → slice_get old.queries k ≡ Some q
  query_before k q at = subst (λ (qs : List Query). slice_get qs k ≡ Some q) are.same.1 at

  same_size : (k : ℕ) (q : Query) → slice_get old.queries k ≡ Some q → is_chosen chosen k ≡ false → size_of new (k + 1) ≡ size_of old (k + 1)
  unfolding len_of keys_of
  same_size k q at other =
      let number : k + 1 - 1 ≡ k = omega arith in
      let f : Option QueryState → ℕ = λ o. option_map_or (λ (x : QueryState). length x.nodes) o 0 + 8 * option_map_or (λ (x : QueryState). length x.keys) o 0 in
      ap (λ (i : ℕ). f (slice_get new.query_states i)) number ∙ (ap f (are.stay k q at other) ∙ ap (λ (i : ℕ). f (slice_get old.query_states i)) (sym number))

  pub tended : (events : List Event) (held : List Open) → StandsFor new events → IsDense new events → IsLeftOf chosen new held → AreTended least old new events held before after
  tended events held stands dense left k q at = elim (cases_Bool (is_chosen chosen k)) [
    | inl flag ↦ inl (record {
      noted = are.noted k q at flag;
      window = followed_is_sized new events held k q (query_follows_window new events held stands dense k q at (λ query_state query_state_at. left k q query_state at query_state_at flag)) (query_keys_follow new events held stands k q at (λ query_state query_state_at. left k q query_state at query_state_at flag));
    })
    | inr other ↦
        let was = query_before k q at in
        inr (record {
          noted = are.others k other;
          same = same_size k q was other;
          small = (let size = same_size k q was other in subst (λ (n : ℕ). (n < least) ⊎ (n < 2 * base_of before (k + 1))) (sym size) (not_grown least (base_of before (k + 1)) (size_of old (k + 1)) (sym (are.flags k q was) ∙ other)));
        })
  ]

  -- the entries of lists are no more than the nodes
  few_entries : (events : List Event) → StandsFor old events → (k : ℕ) (q : Query) → slice_get old.queries k ≡ Some q → places_of old (k + 1) ≤ len_of old (k + 1)
  unfolding StandsFor len_of places_of
  few_entries events stands k q at =
      let found = query_state_of_query (kept_of old) events k q stands at in
      let few = entries_few old.schema q events found.0 (stands.each k q found.0 at found.1) in
      let number : k ≡ k + 1 - 1 = omega arith in
      let here : option_map_or (λ (x : QueryState). places x.rows) (slice_get old.query_states k) 0 ≤ option_map_or (λ (x : QueryState). length x.nodes) (slice_get old.query_states k) 0 = subst (λ (o : Option QueryState). option_map_or (λ (x : QueryState). places x.rows) o 0 ≤ option_map_or (λ (x : QueryState). length x.nodes) o 0) (sym found.1) few in
      subst (λ (i : ℕ). option_map_or (λ (x : QueryState). places x.rows) (slice_get old.query_states i) 0 ≤ option_map_or (λ (x : QueryState). length x.nodes) (slice_get old.query_states i) 0) number here

  -- what a query's compaction costs, it has put by
  query_pays : (events : List Event) → StandsFor old events → (j : ℕ) (q : Query) → slice_get old.queries j ≡ Some q → (flag : Bool) → is_chosen chosen j ≡ flag →
      cond flag (8 * len_of old (j + 1) + 4 * places_of old (j + 1)) 0 + 24 * (size_of new (j + 1) - base_of after (j + 1)) ≤ 24 * (size_of old (j + 1) - base_of before (j + 1))
  query_pays events stands j q at true flag =
      let now = are.noted j q (subst (λ (qs : List Query). slice_get qs j ≡ Some q) (sym are.same.1) at) flag in
      let twice = has_doubled least (base_of before (j + 1)) (size_of old (j + 1)) (sym (are.flags j q at) ∙ flag) in
      let few = few_entries events stands j q at in
      omega (arith, now, twice, few)
  query_pays events stands j q at false other =
      let now = are.others j other in
      let same = same_size j q at other in
      omega (arith, now, same)

  pub chosen_are_paid : (events : List Event) → StandsFor old events → chosen_bounds chosen old + put_by new after ≤ put_by old before
  chosen_are_paid events stands =
      let n = length old.queries in
      let costs : ℕ → ℕ = λ k. cond (is_chosen chosen (k - 1)) (8 * len_of old k + 4 * places_of old k) 0 in
      let later : ℕ → ℕ = λ k. 24 * (size_of new k - base_of after k) in
      let both = each_of_both n costs later (λ k. costs k + later k) (λ j. refl) in
      let each = each_at_most n (λ k. costs k + later k) (λ k. 24 * (size_of old k - base_of before k)) (λ j less. (
      let asked = query_at old.queries j less in
      let number : j + 1 - 1 ≡ j = omega arith in
      subst (λ (i : ℕ). cond (is_chosen chosen i) (8 * len_of old (j + 1) + 4 * places_of old (j + 1)) 0 + later (j + 1) ≤ 24 * (size_of old (j + 1) - base_of before (j + 1))) (sym number) (query_pays events stands j asked.0 asked.1 (is_chosen chosen j) refl)
      )) in
      let queries : put_by new after ≡ for_each_query n later = ap (λ (qs : List Query). for_each_query (length qs) later) are.same.1 in
      omega (arith, both, each, queries)

-- A compaction that spares queries without a window leaves nodes that follow the windows.
pub spared_follows : (chosen : List Bool) (old new : EngineState) (events : List Event) (held : List Open) → SameQueries old new → ((k : ℕ) (q : Query) → slice_get old.queries k ≡ Some q → is_chosen chosen k ≡ false → q.window ≡ Free) → StandsFor new events → IsDense new events → IsLeftOf chosen new held → FollowsWindow new events held
spared_follows chosen old new events held same free stands dense left k q at = elim (cases_Bool (is_chosen chosen k)) [
  | inl flag ↦ query_follows_window new events held stands dense k q at (λ query_state query_state_at. left k q query_state at query_state_at flag)
  | inr other ↦ free_follows new events held stands dense k q at (free k q (subst (λ (qs : List Query). slice_get qs k ≡ Some q) same.1 at) other)
]

-- And keys of the others that follow theirs.
pub spared_keys : (chosen : List Bool) (old new : EngineState) (events : List Event) (held : List Open) → SameQueries old new → ((k : ℕ) (q : Query) → slice_get old.queries k ≡ Some q → is_chosen chosen k ≡ false → q.window ≡ Free) → StandsFor new events → IsLeftOf chosen new held → KeysFollowWindows new events
spared_keys chosen old new events held same free stands left k q at windowed = elim (cases_Bool (is_chosen chosen k)) [
  | inl flag ↦ query_keys_follow new events held stands k q at (λ query_state query_state_at. left k q query_state at query_state_at flag)
  | inr other ↦ absurd (windowed (free k q (subst (λ (qs : List Query). slice_get qs k ≡ Some q) same.1 at) other))
]

pub none_held : (held : List Open) → length held ≡ 0 → held ≡ []
none_held [] long = refl
none_held (w ∷ held) long = absurd (omega arith)
