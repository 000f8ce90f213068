-- Events that are no-ops for query states that keep no clock.
use Rattle.std.proofs.Common.{◌≡◌, ℕ, ◌+◌, ◌≤◌, ◌==◌, inl, inr, Bool, true, false, List, [], length, refl, sym, ap, subst, All, Option, Some, None, slice_get, arith}
use Rattle.std.specs.Prelude.{if◌then◌else◌}
use Rattle.std.proofs.lemmas.Bool.{eqb-true}
use Rattle.std.proofs.lemmas.List.Elements.{All-contains}
use Rattle.stream_schema.specs.Types.{Declared}
use Rattle.stream_schema.specs.Events.{IsOfSchema}
use Rattle.stream_schema.specs.declared.Event.{Event}
use Rattle.cel_terms.specs.declared.Query.{Query}
use Rattle.query_leaves.specs.Expand.{tree_of}
use Rattle.cea_compile.specs.Compiled.{automaton_of}
use Rattle.query_standing.specs.Clocks.{Reads}
use Rattle.query_standing.specs.Keys.{leaves_reading}
use Rattle.query_standing.specs.Kept.{QueryState, Rows, roots_for}
use Rattle.query_standing.proofs.Nothing.{none_begins}
use Rattle.query_standing.specs.Dormancy.{IsLetPass, IsNoOp}
use Rattle.query_standing.proofs.Lists.{got}
use Rattle.query_standing.proofs.Passing.{append_none}
use Rattle.query_standing.proofs.Dormancy.{lets_pass}
use Rattle.event_update.specs.Dormancy.{AreDormant}
use Rattle.all_or_none.specs.Phases.{Phase, IsIdle, IsUnread, CanPrepare, Grows, IsStep, IsNoOpFor, IsDormant, IsEmpty}
use Rattle.all_or_none.specs.Dormancy.{here_at, phase_at, HasTimes, LetsPass}

-- there are not as many events yet as there will be
not_yet : (upto position : ℕ) → upto ≤ position → (position + 1 == upto) ≡ false
not_yet upto position le = go (position + 1 == upto) refl
  where
    go : (b : Bool) → (position + 1 == upto) ≡ b → (position + 1 == upto) ≡ false
    go false e = e
    go true e = (let same = eqb-true (position + 1) upto e in absurd (omega arith))

later_none : (upto position : ℕ) (n : Option ℕ) → upto ≤ position → here_at upto (position + 1) n ≡ None
later_none upto position n le = ap (λ b. if b then n else None) (not_yet upto position le)

-- the same with the number of another key
other_here : (schema : Declared) (q : Query) (event : Event) (query_state : QueryState) (n : Option ℕ) → IsNoOp schema q event query_state → IsNoOp schema q event (record query_state { here = n })
other_here schema q event query_state n (inl none) = inl none
other_here schema q event query_state n (inr (inl pass)) = inr (inl (record { unread = pass.unread; is_dormant = pass.is_dormant }))
other_here schema q event query_state n (inr (inr nothing)) = inr (inr (record { begins = nothing.begins; empty = nothing.empty; table = refl; keys = refl; rows = refl; here = refl }))

step : (schema : Declared) (q : Query) (event : Event) (position : ℕ) (query_state : QueryState) (n : Option ℕ) → HasTimes schema q → IsOfSchema schema event → (Reads schema q event → IsNoOp schema q event query_state) → IsStep schema q event position (record query_state { here = n }) (record query_state { here = None })
step schema q event position query_state n times of leaves = record {
  stands = λ events count time s. lets_pass schema q events event (record query_state { here = n }) s (record { has = times event (length events) of; in_time = time }) (λ reads. other_here schema q event query_state n (leaves reads));
  grows = record {
    extends = record { cea = refl; more_states = []; states = sym (append_none query_state.table.states); more_nodes = []; nodes = sym (append_none query_state.nodes) };
    growth = omega arith;
    unread = λ no. refl;
    key = omega arith;
    no_key = λ no. refl;
  };
}

-- For what takes the event by being left as it is, it is a no-op.
pub passes_step : (p : Phase) (event : Event) (position : ℕ) → IsIdle p → p.upto ≤ position → IsStep p.schema p.query event position (record p.kept { here = here_at p.upto position p.kept.here }) (record p.kept { here = None }) → IsNoOpFor event position (phase_at position p) (phase_at (position + 1) p)
passes_step p event position idle le taken = record {
  schema = refl;
  query = refl;
  was_idle = idle;
  idle = idle;
  upto = refl;
  quiet = ap (λ (m : Option ℕ). roots_for p.query (record p.kept { here = m }) m) none;
  step = subst (λ (m : Option ℕ). IsStep p.schema p.query event position (record p.kept { here = here_at p.upto position p.kept.here }) (record p.kept { here = m })) (sym none) taken;
} where
  none : here_at p.upto (position + 1) p.kept.here ≡ None
  none = later_none p.upto position p.kept.here le

pub passes_by : (p : Phase) (event : Event) (position : ℕ) → IsIdle p → HasTimes p.schema p.query → p.upto ≤ position → CanPrepare event position (phase_at position p) → (Reads p.schema p.query event → IsNoOp p.schema p.query event p.kept) → IsNoOpFor event position (phase_at position p) (phase_at (position + 1) p)
passes_by p event position idle times le can leaves =
    passes_step p event position idle le (step p.schema p.query event position p.kept (here_at p.upto position p.kept.here) times can.of_schema leaves)

pub quiet_is_dormant : (p : Phase) → IsIdle p → HasTimes p.schema p.query → LetsPass p.query p.kept → IsDormant (λ n. phase_at n p)
quiet_is_dormant p idle times lets = record {
  passes = λ event position le is can unread. passes_by p event position idle times le can (λ reads. inr (inl (pass event unread lets)));
} where
  pass : (event : Event) → IsUnread event p → LetsPass p.query p.kept → IsLetPass p.schema p.query event p.kept
  pass event unread (inl skip_insensitive) = record { unread = unread; is_dormant = inl skip_insensitive }
  pass event unread (inr all) = record { unread = unread; is_dormant = inr (λ key number rows has at were. All-contains (AreDormant p.kept.table) p.kept.rows rows all (got p.kept.rows number rows were)) }

-- what has no open match
pub none_is_empty : (p : Phase) → IsIdle p → HasTimes p.schema p.query → All (λ (rows : Rows). rows ≡ []) p.kept.rows → IsEmpty (λ n. phase_at n p)
none_is_empty p idle times none = record {
  passes = λ event position le is can begins. passes_by p event position idle times le can (λ reads. inr (inr (record {
    begins = none_begins (automaton_of (tree_of p.query)) p.query.strict (leaves_reading p.schema p.query event) begins;
    empty = λ key number rows has at were. All-contains (λ (rows : Rows). rows ≡ []) p.kept.rows rows none (got p.kept.rows number rows were);
    table = refl;
    keys = refl;
    rows = refl;
    here = refl;
  })));
}
