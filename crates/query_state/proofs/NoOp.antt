-- A key's event that is a no-op for its lists.
use Rattle.std.proofs.Common.{ℤ, ◌≡◌, ◌∙◌, ◌==◌, ℕ, ◌<◌, ◌≤◌, inl, Bool, true, false, ◌&&◌, not, List, [], ◌∷◌, map, All, Contains, length, refl, sym, subst, Some, slice_get, slice_set, slice_index_or, arith}
use Rattle.std.proofs.lemmas.Bool.{eqb-true}
use Rattle.std.proofs.lemmas.List.Elements.{All-nil, All-cons, All-head, All-tail}
use Rattle.cer_base.specs.Bits.{has}
use Rattle.cer_base.specs.declared.node.Root.{Root}
use Rattle.std.specs.List.{IsDistinct}
use Rattle.stream_schema.specs.declared.Value.{Value}
use Rattle.cer_base.specs.declared.node.Stamp.{Stamp}
use Rattle.cer_base.specs.Nodes.{WellFormed}
use Rattle.cea_determinise.specs.LazyDfa.{Table, IsSound}
use Rattle.cea_determinise.specs.Keys.{are_same_sets}
use Rattle.event_update.specs.Dormancy.{IsNoOp, AreNoOp}
use Rattle.event_update.specs.declared.Staged.TheVariants.{Unchanged}
use Rattle.event_update.proofs.GivenBack.{discovers_none}
use Rattle.event_update.proofs.RowPlaced.{grows_by_none}
use Rattle.event_update.proofs.Passing.{no_op_stand}
use Rattle.query_standing.specs.Kept.{Rows}
use Rattle.query_standing.proofs.KeyCases.{at_one_place}
use Rattle.query_standing.proofs.Lists.{got}
use Rattle.query_state.specs.declared.lists.Lists.{Lists}
use Rattle.query_state.specs.Matches.{OpenMatches, HasNoneOf, OwnNone, active_keys_in, IsReady}
use Rattle.query_state.proofs.Dormant.{Recounted, recounted}

pub one_row : (rows others : Rows) → Some rows ≡ Some others → rows ≡ others
one_row rows others e = cc

pub one_set : (leaves others : List Bool) → Some leaves ≡ Some others → leaves ≡ others
one_set leaves others e = cc

pub not_so : (b : Bool) → not b ≡ true → b ≡ false
not_so false e = refl
not_so true e = absurd cc

-- the numbers in lists for which events are no-ops are those of states
pub no_op_states : (t : Table) (bits : List Bool) (rows : Rows) → All (λ (r : ℕ × List Root). IsNoOp t bits r.0) rows → All (λ n. n ≤ length t.states) (map (λ (r : ℕ × List Root). r.0) rows)
no_op_states t bits [] h = All-nil (λ n. n ≤ length t.states)
no_op_states t bits (r ∷ rows) h =
    All-cons (λ n. n ≤ length t.states) r.0 (map (λ (r : ℕ × List Root). r.0) rows)
    (All-head (λ (q : ℕ × List Root). IsNoOp t bits q.0) r rows h).is_state
    (no_op_states t bits rows (All-tail (λ (q : ℕ × List Root). IsNoOp t bits q.0) r rows h))

-- what is ready then is what there was
pub ready_no_op : (h : OpenMatches) (stamp : Stamp) (low : ℤ) (bits : List Bool) (key : List Value) (number : ℕ) (rows : Rows) → slice_get h.keys number ≡ Some key → slice_get h.rows number ≡ Some rows → IsSound h.table → IsDistinct are_same_sets h.table.states → WellFormed h.nodes → AreNoOp h.table bits rows → IsReady stamp low bits key number Unchanged h h
ready_no_op h stamp low bits key number rows numbered at sound once formed no_op = record {
  mid = h;
  takes = inl (got h.keys number key numbered, refl);
  keys = refl;
  rows = refl;
  numbered = numbered;
  before = rows;
  before_is = at;
  states = _;
  states_are = refl;
  table = discovers_none h.table _ bits;
  sets = sound.states;
  distinct = once;
  nodes = grows_by_none stamp h.nodes formed;
  stands = λ from xs le later st. no_op_stand h.table from xs stamp bits h.nodes rows no_op later st;
  growth = omega arith;
}

-- as many keys' lists are not known to be dormant
pub active_keys_same : (ls : List Lists) (n : ℕ) (d new : Lists) → n < length ls → new.is_dormant ≡ (slice_index_or ls n d).is_dormant → active_keys_in (slice_set ls n new) ≡ active_keys_in ls
active_keys_same ls n d new less same = go new.is_dormant (subst (λ b. Recounted b new.is_dormant (active_keys_in ls) (active_keys_in (slice_set ls n new))) (sym same) (recounted ls n d new less))
  where
    go : (b : Bool) → Recounted b b (active_keys_in ls) (active_keys_in (slice_set ls n new)) → active_keys_in (slice_set ls n new) ≡ active_keys_in ls
    go true h = h
    go false h = h

-- lists that are as many as none
pub no_rows : (rows : Rows) (count : ℕ) → count ≡ length rows → (count == 0) ≡ true → rows ≡ []
no_rows [] count is none = refl
no_rows (r ∷ rows) count is none = (let zero = eqb-true count 0 none in absurd (omega arith))

-- no match is open of the key with the number
pub none_at : (h : OpenMatches) (key : List Value) (number : ℕ) → slice_get h.keys number ≡ Some key → slice_get h.rows number ≡ Some [] → HasNoneOf h key
none_at h key number numbered none distinct place rows there at =
    let here : number ≡ place = at_one_place h.keys number place key distinct numbered there in
    one_row rows [] (sym at ∙ subst (λ i. slice_get h.rows i ≡ Some []) here none)

-- where the key is not there
pub none_of : (h : OpenMatches) (key : List Value) → (Contains h.keys key → ⊥) → HasNoneOf h key
none_of h key fresh distinct place rows there at = absurd (fresh (got h.keys place key there))

-- the event begins no match, and none is open of its key
pub nothing_of : (h : OpenMatches) (key : List Value) (first bits : List Bool) → ((k : ℕ) → has first k && has bits k ≡ false) → HasNoneOf h key → OwnNone h (Some key) first bits
nothing_of h key first bits begins none = record { begins = begins; empty = λ other is. (let same : key ≡ other = cc in subst (HasNoneOf h) same none) }
