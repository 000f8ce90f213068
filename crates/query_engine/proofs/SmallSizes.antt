-- What is put by for compactions, and how large a query state is. For callers of the crate too.
use Rattle.std.proofs.Common.{All, ◌≡◌, ℕ, ◌+◌, ◌-◌, ◌*◌, ◌≤◌, inl, inr, List, [], ◌∷◌, ◌++◌, length, take, refl, sym, ap, subst, Contains, Some, slice_get, arith, length-append}
use Rattle.std.proofs.Math.Nat.{mul-le-mul_left, mul-le-mul_right}
use Rattle.std.proofs.lemmas.Bool.{cases_lt}
use Rattle.std.proofs.lemmas.List.{take-append-le, take_all}
use Rattle.std.proofs.lemmas.List.Elements.{All-head, All-weaker}
use Rattle.stream_schema.specs.Types.{Declared}
use Rattle.stream_schema.specs.declared.Event.{Event}
use Rattle.cel_terms.specs.declared.Query.{Query}
use Rattle.query_standing.specs.Bounds.{update_bound, for_each_query}
use Rattle.query_engine.specs.declared.sizes.Size.{Size}
use Rattle.query_engine.specs.Clocks.{HasClockAt, IsLastClock}
use Rattle.query_engine.specs.Counts.{MeetMost, event_bound}
use Rattle.query_engine.specs.Engine.{EngineState, Open, StandsFor, SameQueries, MayStartAt, found_of, len_of}
use Rattle.query_engine.specs.Keys.{keys_of, IsWithin, HasAddedKeys, KeysFollowWindow}
use Rattle.query_engine.specs.Windows.{IsBoundedBy, HasAdded, IsHeld, IsFollowed, FollowsWindow}
use Rattle.query_engine.specs.Sizes.{size_of, base_of, AreSizes, put_by, steady_bound, IsSizedBy, IsSized, IsLeftAlone, AreTended, IsInWindowAfter, IsKeptSmall, AreKeptSmall}
use Rattle.query_engine.proofs.Counting.{each_at_most, each_of_both, bound_grows, found_are_met, query_at}

-- THE STEPS

none_for_each : (n : ℕ) → for_each_query n (λ k. 0) ≡ 0
none_for_each n = let twice = each_of_both n (λ k. 0) (λ k. 0) (λ k. 0) (λ j. refl) in omega arith

pub nothing_is_put_by : (engine : EngineState) (bases : List Size) → AreSizes engine bases → put_by engine bases ≡ 0
nothing_is_put_by engine bases are =
    let n = length engine.queries in
    let less = each_at_most n (λ k. 24 * (size_of engine k - base_of bases k)) (λ k. 0) (λ j inside. (
    let asked = query_at engine.queries j inside in
    let same = are.each j asked.0 asked.1 in
    omega arith
    )) in
    let none = none_for_each n in
    omega arith

-- the bound of an update is 64 at least
pub bound_least : (n : ℕ) → 64 ≤ update_bound n
bound_least n = let first : update_bound 0 ≡ 64 = refl in let more = bound_grows 0 n (omega arith) in omega arith

pay : (bound most old new base : ℕ) → bound ≤ most → 64 ≤ most → new ≤ old + bound + 8 → 2 * most + 1 + 24 * (new - base) ≤ 24 * (old - base) + (29 * most + 1)
pay bound most old new base less least grown = omega arith

-- an event's growth
size_grows : (old new : EngineState) (event : Event) → HasAdded old new event → HasAddedKeys old new event → (query : ℕ) → size_of new query ≤ size_of old query + update_bound (found_of new query) + 8
size_grows old new event added keys query = let nodes = added.growth query in let few = keys.few query in omega arith

pub event_puts_by : (old new : EngineState) (events : List Event) (event : Event) (bases : List Size) (most : ℕ → ℕ) →
    SameQueries old new → StandsFor new (events ++ event ∷ []) → HasAdded old new event → HasAddedKeys old new event → MeetMost new.schema new.queries (events ++ event ∷ []) most →
    event_bound (length new.queries) most + put_by new bases ≤ put_by old bases + steady_bound (length new.queries) most
event_puts_by old new events event bases most same stands added keys meet =
    let n = length new.queries in
    let many : length old.queries ≡ n = ap length (sym same.1) in
    let left = each_of_both n (λ k. 2 * update_bound (most k) + 1) (λ k. 24 * (size_of new k - base_of bases k)) (λ k. 2 * update_bound (most k) + 1 + 24 * (size_of new k - base_of bases k)) (λ j. refl) in
    let right = each_of_both n (λ k. 24 * (size_of old k - base_of bases k)) (λ k. 29 * update_bound (most k) + 1) (λ k. 24 * (size_of old k - base_of bases k) + (29 * update_bound (most k) + 1)) (λ j. refl) in
    let all = each_at_most n (λ k. 2 * update_bound (most k) + 1 + 24 * (size_of new k - base_of bases k)) (λ k. 24 * (size_of old k - base_of bases k) + (29 * update_bound (most k) + 1)) (λ j inside. (
    let asked = query_at new.queries j inside in
    let found = bound_grows (found_of new (j + 1)) (most (j + 1)) (found_are_met new (events ++ event ∷ []) j asked.0 (most (j + 1)) stands asked.1 (meet j asked.0 asked.1)) in
    pay (update_bound (found_of new (j + 1))) (update_bound (most (j + 1))) (size_of old (j + 1)) (size_of new (j + 1)) (base_of bases (j + 1)) found (bound_least (most (j + 1))) (size_grows old new event added keys (j + 1))
    )) in
    let before : put_by old bases ≡ for_each_query n (λ k. 24 * (size_of old k - base_of bases k)) = ap (λ m. for_each_query m (λ k. 24 * (size_of old k - base_of bases k))) many in
    omega (arith, left, right, all, before)

-- THE SIZES

-- what is sized so in one engine is so in one with as many states or more
pub sized_on : (Are Also : ℕ → Type 0) (old new : EngineState) (query size : ℕ) → ((x : ℕ) → Are x → Also x) → found_of old query ≤ found_of new query → IsSizedBy Are old query size → IsSizedBy Also new query size
sized_on Are Also old new query size still found h =
    let b = update_bound (found_of old query) in
    let c = update_bound (found_of new query) in
    let more : length h.positions * (b + 8) ≤ length h.positions * (c + 8) = mul-le-mul_left (length h.positions) (let g = bound_grows (found_of old query) (found_of new query) found in omega arith) in
    let was = h.bounded in
    record { positions = h.positions; distinct = h.distinct; each = All-weaker Are Also still h.positions h.each; bounded = omega (arith, more, was) }

weigh : (few many b nodes keys : ℕ) → few ≤ many → nodes ≤ few * b → keys ≤ many + 1 → nodes + 8 * keys ≤ many * (b + 8) + 8
weigh few many b nodes keys less n k =
    let wider : few * b ≤ many * b = mul-le-mul_right b less in
    let whole : many * (b + 8) ≡ many * b + 8 * many = omega arith in
    omega (arith, n, k, wider, whole)

weigh_keys : (few many b nodes keys : ℕ) → few ≤ many → nodes ≤ many * b → keys ≤ few + 1 → nodes + 8 * keys ≤ many * (b + 8) + 8
weigh_keys few many b nodes keys less n k =
    let whole : many * (b + 8) ≡ many * b + 8 * many = omega arith in
    omega (arith, n, k, less, whole)

-- nodes and keys that are bounded by such positions, by the more of them
sized_by_both : (Are : ℕ → Type 0) (engine : EngineState) (query nodes : ℕ) → IsBoundedBy Are engine query nodes → IsWithin Are (keys_of engine query) → IsSizedBy Are engine query (nodes + 8 * keys_of engine query)
sized_by_both Are engine query nodes few keys =
    let b = update_bound (found_of engine query) in
    elim (cases_lt (length few.positions) (length keys.positions)) [
      | inl less ↦ record { positions = keys.positions; distinct = keys.distinct; each = keys.each; bounded = weigh (length few.positions) (length keys.positions) b nodes (keys_of engine query) (omega arith) few.bounded keys.bounded }
      | inr least ↦ record { positions = few.positions; distinct = few.distinct; each = few.each; bounded = weigh_keys (length keys.positions) (length few.positions) b nodes (keys_of engine query) (omega arith) few.bounded keys.bounded }
    ]

pub followed_is_sized : (engine : EngineState) (events : List Event) (held : List Open) (k : ℕ) (q : Query) → IsFollowed engine events held k q → IsWithin (MayStartAt engine events q) (keys_of engine (k + 1)) → IsSized engine events held k q
followed_is_sized engine events held k q f keys = record {
  number = f.number + 8 * keys_of engine (k + 1);
  bounded = sized_by_both (MayStartAt engine events q) engine (k + 1) f.number f.bounded keys;
  others = f.others;
  distinct = f.distinct;
  each = f.each;
  whole = (let whole = f.whole in omega arith);
}

-- where no cursor is held, an answer may start where the window after all events is
in_window : (engine : EngineState) (events : List Event) (q : Query) (x : ℕ) → MayStartAt engine events q x → IsInWindowAfter engine events (length events) q x
in_window engine events q x m =
    let all : take (length events) events ≡ events = take_all (length events) events (omega arith) in
    record {
      clock = m.clock;
      has = subst (λ (es : List Event). HasClockAt engine.schema q es x m.clock) (sym all) m.has;
      now = m.recent.0;
      last = subst (λ (es : List Event). IsLastClock engine.schema q es m.recent.0) (sym all) m.recent.1;
      recent = m.recent.2;
    }

none_other : (engine : EngineState) (k : ℕ) (others : List ℕ) → All (IsHeld engine [] k) others → length others ≡ 0
none_other engine k [] each = refl
none_other engine k (id ∷ others) each = let held = All-head (IsHeld engine [] k) id others each in absurd (let less = held.among.1 in omega arith)

-- a query that was compacted just now
fresh_is_small : (least : ℕ) (engine : EngineState) (bases : List Size) (events : List Event) (k : ℕ) (q : Query) → base_of bases (k + 1) ≡ size_of engine (k + 1) → IsSized engine events [] k q →
    IsKeptSmall least (length events) engine bases events k q
fresh_is_small least engine bases events k q noted sized =
    let none = none_other engine k sized.others sized.each in
    let whole = sized.whole in
    record {
      first = length events;
      among = omega arith;
      needed = sized.number;
      window = sized_on (MayStartAt engine events q) (IsInWindowAfter engine events (length events) q) engine engine (k + 1) sized.number (in_window engine events q) (omega arith) sized.bounded;
      base = omega arith;
      size = omega arith;
    }

pub compacted_are_small : (engine : EngineState) (bases : List Size) (events : List Event) (least : ℕ) → FollowsWindow engine events [] → KeysFollowWindow engine events → AreSizes engine bases → AreKeptSmall least (length events) engine bases events
compacted_are_small engine bases events least nodes keys are k q at =
    fresh_is_small least engine bases events k q (are.each k q at) (followed_is_sized engine events [] k q (nodes k q at) (keys k q at))

-- so much is allowed for one event more
allowed : (least needed since b c old new : ℕ) → b ≤ c → old ≤ least + 2 * needed + since * (b + 8) → new ≤ old + c + 8 → new ≤ least + 2 * needed + (since + 1) * (c + 8)
allowed least needed since b c old new less was grown =
    let more : since * (b + 8) ≤ since * (c + 8) = mul-le-mul_left since (omega arith) in
    let whole : (since + 1) * (c + 8) ≡ since * (c + 8) + (c + 8) = omega arith in
    omega (arith, was, grown, more, whole)

module _ (old new : EngineState) (bases : List Size) (events : List Event) (event : Event) (least looked : ℕ) (behind : looked ≤ length events) (same : SameQueries old new) (added : HasAdded old new event) (keys : HasAddedKeys old new event) where
  still_in : (q : Query) (first x : ℕ) → first ≤ length events → IsInWindowAfter old events first q x → IsInWindowAfter new (events ++ event ∷ []) first q x
  still_in q first x among h =
      let firsts : take first events ≡ take first (events ++ event ∷ []) = sym (take-append-le first events (event ∷ []) among) in
      record {
        clock = h.clock;
        has = subst (λ (es : List Event). HasClockAt new.schema q es x h.clock) firsts (subst (λ (s : Declared). HasClockAt s q (take first events) x h.clock) (sym same.0) h.has);
        now = h.now;
        last = subst (λ (es : List Event). IsLastClock new.schema q es h.now) firsts (subst (λ (s : Declared). IsLastClock s q (take first events) h.now) (sym same.0) h.last);
        recent = h.recent;
      }

  pub event_keeps_small : AreKeptSmall least looked old bases events → AreKeptSmall least looked new bases (events ++ event ∷ [])
  event_keeps_small small k q at =
      let h = small k q (subst (λ (qs : List Query). slice_get qs k ≡ Some q) same.1 at) in
      let count : length (events ++ event ∷ []) ≡ length events + 1 = length-append events (event ∷ []) in
      let among = h.among in
      let since : length (events ++ event ∷ []) - looked ≡ (length events - looked) + 1 = omega arith in
      let grown = allowed least h.needed (length events - looked) (update_bound (found_of old (k + 1))) (update_bound (found_of new (k + 1))) (size_of old (k + 1)) (size_of new (k + 1))
      (bound_grows (found_of old (k + 1)) (found_of new (k + 1)) (added.found (k + 1))) h.size (size_grows old new event added keys (k + 1)) in
      record {
        first = h.first;
        among = omega arith;
        needed = h.needed;
        window = sized_on (IsInWindowAfter old events h.first q) (IsInWindowAfter new (events ++ event ∷ []) h.first q) old new (k + 1) h.needed (λ x w. still_in q h.first x h.among w) (added.found (k + 1)) h.window;
        base = h.base;
        size = subst (λ (n : ℕ). size_of new (k + 1) ≤ least + 2 * h.needed + n * (update_bound (found_of new (k + 1)) + 8)) (sym since) grown;
      }

-- A LOOK

module _ (old new : EngineState) (before after : List Size) (events : List Event) (least looked : ℕ) (same : SameQueries old new) (found : (query : ℕ) → found_of new query ≡ found_of old query) where
  as_before : (q : Query) (first x : ℕ) → IsInWindowAfter old events first q x → IsInWindowAfter new events first q x
  as_before q first x h = record {
    clock = h.clock;
    has = subst (λ (s : Declared). HasClockAt s q (take first events) x h.clock) (sym same.0) h.has;
    now = h.now;
    last = subst (λ (s : Declared). IsLastClock s q (take first events) h.now) (sym same.0) h.last;
    recent = h.recent;
  }

  left_is_small : (k : ℕ) (q : Query) → IsLeftAlone least old new before after k → IsKeptSmall least looked old before events k q → IsKeptSmall least (length events) new after events k q
  left_is_small k q alone h =
      let noted = alone.noted in
      let stays = alone.same in
      let base = h.base in
      let states = found (k + 1) in
      record {
        first = h.first;
        among = h.among;
        needed = h.needed;
        window = sized_on (IsInWindowAfter old events h.first q) (IsInWindowAfter new events h.first q) old new (k + 1) h.needed (λ x w. as_before q h.first x w) (omega arith) h.window;
        base = omega arith;
        size = elim alone.small [
          | inl less ↦ omega arith
          | inr less ↦ omega arith
        ];
      }

  pub tending_keeps_small : AreTended least old new events [] before after → AreKeptSmall least looked old before events → AreKeptSmall least (length events) new after events
  tending_keeps_small tended small k q at = elim (tended k q at) [
    | inl now ↦ fresh_is_small least new after events k q now.noted now.window
    | inr alone ↦ left_is_small k q alone (small k q (subst (λ (qs : List Query). slice_get qs k ≡ Some q) same.1 at))
  ]
