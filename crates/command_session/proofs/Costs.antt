-- How many steps each command takes at most, by the states that the runs over the events meet.
use Rattle.std.proofs.Common.{◌≡◌, ℕ, ◌+◌, ◌-◌, ◌*◌, ◌==◌, ◌<◌, ◌≤◌, Ok, refl, List, [], ◌∷◌, ◌++◌, length, take, position, Option, Some, slice_get, Bool, sym, ◌∙◌, ap, subst, arith}
use Rattle.std.specs.Prelude.{option_and_then}
use Rattle.std.specs.Option.{option_map_or}
use Rattle.stream_schema.specs.Types.{Declared}
use Rattle.stream_schema.specs.declared.Event.{Event}
use Rattle.cel_terms.specs.declared.Query.{Query}
use Rattle.query_engine.specs.Bounds.{update_bound, for_each_query, MeetAtMost}
use Rattle.query_engine.specs.Counts.{MeetMost, HasFewNodes, compaction_bound}
use Rattle.query_engine.specs.Engine.{EngineState, Open, StandsFor, SameQueries, found_of, update_bounds}
use Rattle.query_engine.specs.declared.sizes.Size.{Size}
use Rattle.query_engine.specs.Keys.{HasAddedKeys}
use Rattle.query_engine.specs.Sizes.{put_by}
use Rattle.query_engine.specs.Windows.{HasAdded}
use Rattle.query_engine.proofs.Counting.{each_at_most, bound_grows, found_are_met, query_at}
use Rattle.answer_blocks.specs.RowSteps.{delays}
use Rattle.command_session.specs.declared.command.ScriptCommand.{ScriptCommand}
use Rattle.command_session.specs.declared.command.ScriptCommand.TheVariants as command
use Rattle.command_session.specs.declared.opened.CursorNumber.{CursorNumber}
use Rattle.command_session.specs.SessionModel.{SessionModel, OpenCursor}
use Rattle.command_session.specs.Sessions.{Session, Stands, IsKept, IsTended, HasTaken, EventIsWithin, pull_bound, put_by_in, paid_bounds, cursor_seen, left_of}
use Rattle.command_session.specs.CommandSteps.{CostsAtMost, pull_cost}
use Rattle.command_session.proofs.Paid.{event_is_paid, once_is_less}
use Rattle.command_session.proofs.Stepping.{session, same_parts, place_is, at_place}

pub costs_nothing : (asked : ScriptCommand) (s : Session) (machine : SessionModel) (new : Session) (before after : ℕ) → after ≡ before → put_by_in new ≡ put_by_in s → CostsAtMost asked s machine new before after
costs_nothing asked s machine new before after same kept most meet few = omega (arith, same, kept)

-- where the engine is as it was
pub costs_refused : (asked : ScriptCommand) (e f : EngineState) (os : List CursorNumber) (cs : List Open) (d : Bool) (bs : List Size) (s : Session) (machine : SessionModel) (before after : ℕ) → session e os cs d bs ≡ s → f ≡ e → after ≡ before →
    CostsAtMost asked s machine (session f os cs d bs) before after
costs_refused asked e f os cs d bs s machine before after view engine same =
    costs_nothing asked s machine (session f os cs d bs) before after same (ap put_by_in (same_parts e f os cs cs d bs s view engine refl))

-- no more is found of a query than is met
found_within : (e : EngineState) (events : List Event) (most : ℕ → ℕ) → StandsFor e events → MeetMost e.schema e.queries events most → (j : ℕ) → j < length e.queries → update_bound (found_of e (j + 1)) ≤ update_bound (most (j + 1))
found_within e events most stands meet j less =
    let asked = query_at e.queries j less in
    bound_grows (found_of e (j + 1)) (most (j + 1)) (found_are_met e events j asked.0 (most (j + 1)) stands asked.1 (meet j asked.0 asked.1))

-- the event was taken
pub costs_event : (e f : EngineState) (os : List CursorNumber) (cs : List Open) (d : Bool) (bs : List Size) (s : Session) (machine : SessionModel) (event : Event) (before after : ℕ) → session e os cs d bs ≡ s → SameQueries e f →
    ((events : List Event) → StandsFor e events → StandsFor f (events ++ event ∷ [])) → HasAdded e f event → HasAddedKeys e f event → after ≤ before + update_bounds f → Stands s machine →
    CostsAtMost (command.Event event) s machine (session f os cs d bs) before after
costs_event e f os cs d bs s machine event before after view same stood added keys within stands =
    let P : Session → Type 0 = λ t. Stands t machine → CostsAtMost (command.Event event) t machine (session f os cs d bs) before after in
    subst P view (λ stands most meet few.
    let D : Declared → Type 0 = λ x. MeetMost x e.queries (machine.events ++ event ∷ []) most in
    let Q : List Query → Type 0 = λ qs. MeetMost f.schema qs (machine.events ++ event ∷ []) most in
    let met : MeetMost f.schema f.queries (machine.events ++ event ∷ []) most = subst Q (sym same.1) (subst D (sym same.0) meet) in
    let pays = event_is_paid e f event bs most same added keys (found_within f (machine.events ++ event ∷ []) most (stood machine.events stands.events) met) in
    let many : for_each_query (length f.queries) (λ k. 28 * update_bound (most k)) ≡ for_each_query (length e.queries) (λ k. 28 * update_bound (most k)) = ap (λ (qs : List Query). for_each_query (length qs) (λ k. 28 * update_bound (most k))) same.1 in
    omega (arith, within, pays, many)) stands

-- memory ran out before it was
pub costs_want : (e f : EngineState) (os : List CursorNumber) (cs : List Open) (d : Bool) (bs : List Size) (s : Session) (machine : SessionModel) (event : Event) (before after : ℕ) → session e os cs d bs ≡ s → f ≡ e →
    ((events : List Event) (most : ℕ → ℕ) → StandsFor e events → ((k : ℕ) (q : Query) → slice_get e.queries k ≡ Some q → MeetAtMost e.schema q (events ++ event ∷ []) (most (k + 1))) →
    after ≤ before + for_each_query (length e.queries) (λ k. update_bound (most k))) → Stands s machine → CostsAtMost (command.Event event) s machine (session f os cs d bs) before after
costs_want e f os cs d bs s machine event before after view engine within stands =
    let P : Session → Type 0 = λ t. Stands t machine → CostsAtMost (command.Event event) t machine (session f os cs d bs) before after in
    subst P view (λ stands most meet few.
    let took = within machine.events most stands.events meet in
    let less = once_is_less (length e.queries) most in
    let kept : put_by f bs ≡ put_by e bs = ap (λ (x : EngineState). put_by x bs) engine in
    omega (arith, took, less, kept)) stands

-- the compactions after it were paid
pub costs_paid : (event : Event) (s : Session) (machine : SessionModel) (middle new : Session) (before between after : ℕ) → CostsAtMost (command.Event event) s machine middle before between →
    after + put_by_in new ≤ between + put_by_in middle → CostsAtMost (command.Event event) s machine new before after
costs_paid event s machine middle new before between after costs pays most meet few = let whole = costs most meet few in omega (arith, whole, pays)

-- and by the states that were found
pub within_paid : (event : Event) (s : Session) (middle new : Session) (before between after : ℕ) → SameQueries s.engine middle.engine → SameQueries middle.engine new.engine → middle.bases ≡ s.bases → HasTaken event s.engine middle.engine → IsTended middle.engine new.engine →
    between ≤ before + update_bounds middle.engine → after + put_by_in new ≤ between + put_by_in middle → EventIsWithin s new before after (Ok tt)
within_paid event s middle new before between after first second noted taken tended within pays =
    let whole = event_is_paid s.engine middle.engine event s.bases (found_of middle.engine) first taken.added taken.keys (λ j inside. omega arith) in
    let bases : put_by_in middle ≡ put_by middle.engine s.bases = ap (λ (bs : List Size). put_by middle.engine bs) noted in
    let fewer = each_at_most (length middle.engine.queries) (λ k. 28 * update_bound (found_of middle.engine k)) (λ k. 28 * update_bound (found_of new.engine k)) (λ j inside. (let states = ap (λ n. 28 * update_bound n) (tended.found (j + 1)) in omega (arith, states))) in
    let many : paid_bounds new.engine ≡ for_each_query (length middle.engine.queries) (λ k. 28 * update_bound (found_of new.engine k)) = ap (λ (qs : List Query). for_each_query (length qs) (λ k. 28 * update_bound (found_of new.engine k))) second.1 in
    omega (arith, whole, bases, fewer, many, within, pays)

pub costs_open : (e : EngineState) (os : List CursorNumber) (cs : List Open) (d : Bool) (bs : List Size) (s : Session) (machine : SessionModel) (query number before after : ℕ) → session e os cs d bs ≡ s → 1 ≤ query → query ≤ length e.queries →
    after ≤ before + update_bound (found_of e query) → Stands s machine → CostsAtMost (command.OpenAt query number) s machine (session e os cs d bs) before after
costs_open e os cs d bs s machine query number before after view one last within stands =
    let P : Session → Type 0 = λ t. Stands t machine → CostsAtMost (command.OpenAt query number) t machine (session e os cs d bs) before after in
    subst P view (λ stands most meet few.
    let at : query - 1 + 1 ≡ query = omega (arith, one) in
    let less : query - 1 < length e.queries = omega (arith, one, last) in
    let most_found = subst (λ (k : ℕ). update_bound (found_of e k) ≤ update_bound (most k)) at (found_within e machine.events most stands.events meet (query - 1) less) in
    omega (arith, within, most_found)) stands

pub costs_pull : (e : EngineState) (os : List CursorNumber) (cs : List Open) (d : Bool) (bs : List Size) (s : Session) (machine : SessionModel) (number n k before after : ℕ) (o : CursorNumber) (c : Open) → session e os cs d bs ≡ s → IsKept e os cs →
    Some k ≡ position (λ (x : CursorNumber). x.number == number) os → slice_get os k ≡ Some o → slice_get cs k ≡ Some c →
    after ≤ before + (delays (take n (left_of e c)) + 1) → Stands s machine → CostsAtMost (command.Pull number n) s machine (session e os cs d bs) before after
costs_pull e os cs d bs s machine number n k before after o c view kept found here there within stands most meet few =
    let P : Session → Type 0 = λ t. Stands t machine → after + put_by e bs ≤ before + put_by_in t + pull_cost number n machine in
    subst P view (λ stands.
    let at = place_is e os cs machine number (Some k) stands.cursors kept.count found in
    let is = at_place e os cs machine k o c stands.cursors here there in
    let cost : pull_cost number n machine ≡ pull_bound n (cursor_seen e o c) =
    ap (λ (x : Option ℕ). option_map_or (pull_bound n) (option_and_then (slice_get machine.cursors) x) 0) at ∙ ap (λ (x : Option OpenCursor). option_map_or (pull_bound n) x 0) is in
    omega (arith, within, cost)) stands

-- the sizes were noted, and nothing is put by; or nothing has changed
pub costs_compact : (e f : EngineState) (os os2 : List CursorNumber) (cs cs2 : List Open) (d d2 : Bool) (bs bs2 : List Size) (s : Session) (machine : SessionModel) (before after : ℕ) → session e os cs d bs ≡ s → put_by f bs2 ≤ put_by e bs →
    ((events : List Event) (most : ℕ → ℕ) → StandsFor e events → MeetMost e.schema e.queries events most → HasFewNodes e (length events) most → after ≤ before + compaction_bound (length e.queries) most (length events)) →
    Stands s machine → CostsAtMost command.Compact s machine (session f os2 cs2 d2 bs2) before after
costs_compact e f os os2 cs cs2 d d2 bs bs2 s machine before after view less within stands =
    let P : Session → Type 0 = λ t. Stands t machine → CostsAtMost command.Compact t machine (session f os2 cs2 d2 bs2) before after in
    subst P view (λ stands most meet few. let took = within machine.events most stands.events meet few in omega (arith, took, less)) stands
