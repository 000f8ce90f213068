use Rattle.std.proofs.Common.{◌≡◌, ◌+◌, ◌<◌, ◌≤◌, ◌∙◌, ℕ, ℤ, Bool, true, List, Option, None, map, length, subst, sym, arith, refl, slice_index_or, slice_set, [], ◌∷◌}
use Rattle.std.specs.List.{AllZip}
use Rattle.std.proofs.lemmas.List.{map-id, take_all}
use Rattle.tecs_enumerate.specs.Remaining.{CursorState}
use Rattle.stream_schema.specs.declared.Event.{Event}
use Rattle.all_or_none.specs.Phases.{Phase}
use Rattle.all_or_none.proofs.LoopTurn.{all_here, said_here, left_next}
use Rattle.query_standing.specs.Kept.{low_at}
use Rattle.query_state.specs.QueryStates.{StandsWith}
use Rattle.query_state.specs.Compacting.{QueryStateCompacted}
use Rattle.query_engine.specs.Times.{clocks_in, with_clocks}
use Rattle.query_engine.specs.Compacting.{is_chosen, CanCompact, IsCompacted, AreTrimmed, AreOnce, OthersStay, AreCarried}
use Rattle.query_engine.proofs.Carried.{none_carried}
use Rattle.query_engine.proofs.Clocked.{clocked_length}
use Rattle.query_engine.proofs.CompactingOne.{IsOneCompacted, one_fits, one_done, one_carried, one_trimmed, one_others, one_once, one_cost, left_behind, left_done, left_carried, left_trimmed, left_once, left_others, left_cost}
use Rattle.query_engine.proofs.compacting.compact_all.Invariants.{Compacts}
use Rattle.query_engine.proofs.compacting.compact_all.Goals as goal
use Rattle.query_engine.proofs.compacting.compact_all.Goals.{then-chosen-k, else-chosen-k}

-- the same, as the query states, the cursors, the room and the steps are named
renamed : (chosen : List Bool) (clocks : List (Option ℤ)) (old cur cur' : List Phase) (ws vs vs' : List CursorState) (k room now_room now_room' before now now' : ℕ) → cur' ≡ cur → vs' ≡ vs → now_room' ≡ now_room → now' ≡ now →
    Compacts chosen clocks old cur ws vs k room now_room before now → Compacts chosen clocks old cur' ws vs' k room now_room' before now'
renamed chosen clocks old cur cur' ws vs vs' k room now_room now_room' before now now' a b c d h =
    subst (λ (ps : List Phase). Compacts chosen clocks old ps ws vs' k room now_room' before now') (sym a)
    (subst (λ (us : List CursorState). Compacts chosen clocks old cur ws us k room now_room' before now') (sym b)
    (subst (λ (n : ℕ). Compacts chosen clocks old cur ws vs k room n before now') (sym c)
    (subst (λ (n : ℕ). Compacts chosen clocks old cur ws vs k room now_room before n) (sym d) h)))

first_of : (xs : List Phase) {k : ℕ} → k < length xs → Phase
first_of [] {k = k} inside = absurd (omega arith)
first_of (x ∷ xs) inside = x

pub clock-requires-clause-there : goal.clock-requires-clause-there
clock-requires-clause-there g c =
    let many = c.requires.clocks in
    let same = c.loop-k.auto.query_states in
    let t = c.loop-k-test.true in
    omega arith

pub clock-requires-clause-inside : goal.clock-requires-clause-inside
clock-requires-clause-inside g c = c.requires.times

pub compact-requires-clause-idle : goal.compact-requires-clause-idle
compact-requires-clause-idle g c =
    let inside : c.loop-k.k < length c.loop-k.query_states = (let e = c.loop-k.auto.query_states in let t = c.loop-k-test.true in omega arith) in
    let same : length c.loop-k.query_states ≡ length c.args.query_states.now = c.loop-k.auto.query_states in
    (all_here CanCompact c.loop-k.query_states c.args.query_states.now c.loop-k.k c.index-query_states-k.result inside same c.loop-k.invariant.left c.requires.query_states).idle

pub compact-requires-clause-events : goal.compact-requires-clause-events
compact-requires-clause-events g c =
    let inside : c.loop-k.k < length c.loop-k.query_states = (let e = c.loop-k.auto.query_states in let t = c.loop-k-test.true in omega arith) in
    let same : length c.loop-k.query_states ≡ length c.args.query_states.now = c.loop-k.auto.query_states in
    (all_here CanCompact c.loop-k.query_states c.args.query_states.now c.loop-k.k c.index-query_states-k.result inside same c.loop-k.invariant.left c.requires.query_states).events

pub compact-requires-clause-room : goal.compact-requires-clause-room
compact-requires-clause-room g c =
    let inside : c.loop-k.k < length c.loop-k.query_states = (let e = c.loop-k.auto.query_states in let t = c.loop-k-test.true in omega arith) in
    let same : length c.loop-k.query_states ≡ length c.args.query_states.now = c.loop-k.auto.query_states in
    let le = said_here (λ (j : ℕ) (p : Phase). j < length c.args.query_states.now → is_chosen c.args.chosen.now j ≡ true → length p.kept.nodes ≤ c.args.room.now) c.loop-k.query_states c.args.query_states.now c.loop-k.k c.index-query_states-k.result inside same c.loop-k.invariant.left
    (λ j p at less flag. c.requires.room j p less at flag) c.loop-k-test.true c.if-chosen-k.true in
    let room = c.loop-k.invariant.same_room in
    omega arith

pub compact-requires-clause-cursors : goal.compact-requires-clause-cursors
compact-requires-clause-cursors g c =
    let inside : c.loop-k.k < length c.loop-k.query_states = (let e = c.loop-k.auto.query_states in let t = c.loop-k-test.true in omega arith) in
    let same : length c.loop-k.query_states ≡ length c.args.query_states.now = c.loop-k.auto.query_states in
    one_fits (clocks_in c.args.times.now) c.args.query_states.now c.loop-k.query_states c.loop-k.k c.index-query_states-k.result inside same c.loop-k.invariant.left c.args.held.now c.loop-k.held c.requires.held c.loop-k.invariant.held

pub loop-k-init : goal.loop-k-init
loop-k-init g c = record {
  done = tt;
  left = refl;
  held = none_carried (with_clocks c.args.query_states.now (clocks_in c.args.times.now)) c.args.held.now c.requires.held;
  same_room = refl;
  trimmed = λ j p less at flag. absurd (omega arith);
  once = λ j p less at flag. absurd (omega arith);
  others = λ j p less at flag. absurd (omega arith);
  few = omega arith;
  paid = omega arith;
}

pub loop-k-preserved : goal.loop-k-preserved
loop-k-preserved g c =
    let inside : c.loop-k.k < length c.loop-k.query_states = (let e = c.loop-k.auto.query_states in let t = c.loop-k-test.true in omega arith) in
    let same : length c.loop-k.query_states ≡ length c.args.query_states.now = c.loop-k.auto.query_states in
    let left = c.loop-k.invariant.left in
    let clocks = clocks_in c.args.times.now in
    let paid = c.loop-k.invariant.paid in
    let few = c.loop-k-test.true in
    elim c.if-chosen-k.branch [
      | then-chosen-k w ↦ (
          let q = slice_index_or c.loop-k.query_states c.loop-k.k w.index-query_states-k.result in
          let of = subst (λ (clock : Option ℤ). QueryStateCompacted (c.loop-k.k + 1) (low_at q.query clock) q.kept w.compact.new.self.kept (map (λ v. v) c.loop-k.held) (map (λ v. v) w.compact.new.cursors)) w.clock.ensures w.compact.ensures.compacted in
          let one : IsOneCompacted (c.loop-k.k + 1) (slice_index_or clocks c.loop-k.k None) q w.compact.new.self c.loop-k.held w.compact.new.cursors = record {
            schema = w.compact.ensures.same.0;
            query = w.compact.ensures.same.1;
            idle = w.compact.ensures.idle;
            upto = w.compact.ensures.upto;
            stands = subst (λ (clock : Option ℤ). (events : List Event) → StandsWith clock events q → StandsWith clock events w.compact.new.self) w.clock.ensures w.compact.ensures.stands;
            compacted = of;
            fewer = w.compact.ensures.fewer;
            once = w.compact.ensures.once;
          } in
          let flag = w.if-chosen-k.true in
          let more = one_cost clocks c.args.query_states.now c.loop-k.query_states c.loop-k.k w.index-query_states-k.result inside same left c.args.chosen.now flag in
          let step = w.compact.ensures.steps in
          renamed c.args.chosen.now clocks c.args.query_states.now (slice_set c.loop-k.query_states c.loop-k.k w.compact.new.self) c.if-chosen-k.query_states c.args.held.now w.compact.new.cursors c.if-chosen-k.held (c.loop-k.k + 1) c.args.room.now w.compact.new.room c.if-chosen-k.room c.args.steps.now w.compact.new.steps c.if-chosen-k.steps w.query_states-is w.held-is w.room-is w.steps-is (record {
            done = one_done clocks c.args.query_states.now c.loop-k.query_states c.loop-k.k w.index-query_states-k.result inside same left w.compact.new.self c.args.held.now c.loop-k.held w.compact.new.cursors one c.loop-k.invariant.done;
            left = left_next c.loop-k.query_states c.args.query_states.now c.loop-k.k w.compact.new.self inside same left;
            held = one_carried clocks c.args.query_states.now c.loop-k.query_states c.loop-k.k w.index-query_states-k.result inside same left w.compact.new.self c.args.held.now c.loop-k.held w.compact.new.cursors one c.requires.held c.loop-k.invariant.held;
            same_room = w.compact.ensures.room ∙ c.loop-k.invariant.same_room;
            trimmed = one_trimmed clocks c.args.query_states.now c.loop-k.query_states c.loop-k.k w.index-query_states-k.result inside same left w.compact.new.self c.args.held.now c.loop-k.held w.compact.new.cursors one c.args.chosen.now c.loop-k.invariant.trimmed;
            once = one_once clocks c.args.query_states.now c.loop-k.query_states c.loop-k.k w.index-query_states-k.result inside same left w.compact.new.self c.args.held.now c.loop-k.held w.compact.new.cursors one c.args.chosen.now c.loop-k.invariant.once;
            others = one_others clocks c.args.query_states.now c.loop-k.query_states c.loop-k.k w.index-query_states-k.result inside same left w.compact.new.self c.args.held.now c.loop-k.held w.compact.new.cursors one c.args.chosen.now flag c.loop-k.invariant.others;
            few = omega arith;
            paid = omega arith;
          })
          )
      | else-chosen-k w ↦ (
          let flag = w.if-chosen-k.false in
          let d = slice_index_or c.loop-k.query_states c.loop-k.k (first_of c.loop-k.query_states inside) in
          let less = left_cost clocks c.args.query_states.now c.loop-k.query_states c.loop-k.k d inside same left c.args.chosen.now flag in
          let idle = (all_here CanCompact c.loop-k.query_states c.args.query_states.now c.loop-k.k d inside same left c.requires.query_states).idle in
          renamed c.args.chosen.now clocks c.args.query_states.now c.loop-k.query_states c.if-chosen-k.query_states c.args.held.now c.loop-k.held c.if-chosen-k.held (c.loop-k.k + 1) c.args.room.now c.loop-k.room c.if-chosen-k.room c.args.steps.now c.loop-k.steps c.if-chosen-k.steps w.query_states-is w.held-is w.room-is w.steps-is (record {
            done = left_done clocks c.args.query_states.now c.loop-k.query_states c.loop-k.k d inside same left c.args.chosen.now flag idle c.loop-k.invariant.done;
            left = left_behind clocks c.args.query_states.now c.loop-k.query_states c.loop-k.k d inside same left c.args.chosen.now flag;
            held = left_carried clocks c.args.query_states.now c.loop-k.query_states c.loop-k.k d inside same left c.args.chosen.now flag c.args.held.now c.loop-k.held c.requires.held c.loop-k.invariant.held;
            same_room = c.loop-k.invariant.same_room;
            trimmed = left_trimmed clocks c.args.query_states.now c.loop-k.query_states c.loop-k.k d inside same left c.args.chosen.now flag c.loop-k.held (with_clocks c.loop-k.query_states clocks) c.loop-k.invariant.trimmed;
            once = left_once clocks c.args.query_states.now c.loop-k.query_states c.loop-k.k d inside same left c.args.chosen.now flag (with_clocks c.args.query_states.now clocks) c.loop-k.invariant.once;
            others = left_others clocks c.args.query_states.now c.loop-k.query_states c.loop-k.k d inside same left c.args.chosen.now flag c.loop-k.invariant.others;
            few = omega arith;
            paid = omega arith;
          })
          )
    ]

pub returns-clause-query_states : goal.returns-clause-query_states
returns-clause-query_states g c =
    let few = c.loop-k.invariant.few in
    let same = c.loop-k.auto.query_states in
    let end = c.loop-k-test.false in
    let clocks = clocks_in c.args.times.now in
    let long_old = clocked_length c.args.query_states.now clocks in
    let long_new = clocked_length c.loop-k.query_states clocks in
    let all_old = take_all c.loop-k.k (with_clocks c.args.query_states.now clocks) (omega arith) in
    let all_new = take_all c.loop-k.k (with_clocks c.loop-k.query_states clocks) (omega arith) in
    subst (λ (ps : List Phase). AllZip IsCompacted ps (with_clocks c.loop-k.query_states clocks)) (map-id (with_clocks c.args.query_states.now clocks))
    (subst (AllZip IsCompacted (map (λ p. p) (with_clocks c.args.query_states.now clocks))) (map-id (with_clocks c.loop-k.query_states clocks)) (rw (all_old, all_new) at c.loop-k.invariant.done))

pub returns-clause-left : goal.returns-clause-left
returns-clause-left g c =
    let few = c.loop-k.invariant.few in
    let same = c.loop-k.auto.query_states in
    let end = c.loop-k-test.false in
    let is : c.loop-k.k ≡ length c.args.query_states.now = omega arith in
    subst (λ k. AreTrimmed c.args.chosen.now k c.loop-k.held (with_clocks c.loop-k.query_states (clocks_in c.args.times.now))) is c.loop-k.invariant.trimmed

pub returns-clause-once : goal.returns-clause-once
returns-clause-once g c =
    let few = c.loop-k.invariant.few in
    let end = c.loop-k-test.false in
    let is : c.loop-k.k ≡ length c.args.query_states.now = omega arith in
    subst (λ k. AreOnce c.args.chosen.now k (with_clocks c.args.query_states.now (clocks_in c.args.times.now))) is c.loop-k.invariant.once

pub returns-clause-others : goal.returns-clause-others
returns-clause-others g c =
    let few = c.loop-k.invariant.few in
    let end = c.loop-k-test.false in
    let is : c.loop-k.k ≡ length c.args.query_states.now = omega arith in
    subst (λ k. OthersStay c.args.chosen.now k (with_clocks c.args.query_states.now (clocks_in c.args.times.now)) (with_clocks c.loop-k.query_states (clocks_in c.args.times.now))) is c.loop-k.invariant.others

pub returns-clause-held : goal.returns-clause-held
returns-clause-held g c =
    let few = c.loop-k.invariant.few in
    let same = c.loop-k.auto.query_states in
    let end = c.loop-k-test.false in
    let is : c.loop-k.k ≡ length c.args.query_states.now = omega arith in
    subst (λ k. AreCarried k (with_clocks c.args.query_states.now (clocks_in c.args.times.now)) (with_clocks c.loop-k.query_states (clocks_in c.args.times.now)) c.args.held.now c.loop-k.held) is c.loop-k.invariant.held

pub returns-clause-steps : goal.returns-clause-steps
returns-clause-steps g c =
    let few = c.loop-k.invariant.few in
    let same = c.loop-k.auto.query_states in
    let end = c.loop-k-test.false in
    let long = clocked_length c.args.query_states.now (clocks_in c.args.times.now) in
    let all_old = take_all c.loop-k.k (with_clocks c.args.query_states.now (clocks_in c.args.times.now)) (omega arith) in
    rw all_old at c.loop-k.invariant.paid
