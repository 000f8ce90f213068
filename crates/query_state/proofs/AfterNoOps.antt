-- What a query state is for which the last events were no-ops.
use Rattle.std.proofs.Common.{◌≡◌, ℕ, ◌+◌, ◌≤◌, ◌⊎◌, inl, inr, Bool, true, List, [], refl, sym, ap, subst, ◌∙◌, false, All, Option, None}
use Rattle.stream_schema.specs.Types.{Declared}
use Rattle.stream_schema.specs.declared.Event.{Event}
use Rattle.cel_terms.specs.declared.Query.{Query}
use Rattle.cer_base.specs.Bits.{has}
use Rattle.cea_determinise.specs.Runs.{LeafSet}
use Rattle.event_update.specs.Dormancy.{HasNoReader, AreDormant}
use Rattle.window_clock.specs.declared.Source.{Source}
use Rattle.window_clock.specs.Places.{IsOf}
use Rattle.query_standing.specs.Clocks.{Reads}
use Rattle.query_standing.specs.Kept.{Rows}
use Rattle.all_or_none.specs.Phases.{Phase, IsNoOpFor, IsDormant, IsEmpty}
use Rattle.all_or_none.specs.Dormancy.{here_at, phase_at, LetsPass}
use Rattle.all_or_none.proofs.Dormancy.{passes_step, quiet_is_dormant, none_is_empty}
use Rattle.query_state.specs.declared.matches.Ready.{Ready}
use Rattle.query_state.specs.declared.matches.Sizes.{Sizes}
use Rattle.query_state.specs.declared.state.Step.{Step}
use Rattle.query_state.specs.Matches.{OpenMatches}
use Rattle.query_state.specs.QueryStates.{query_state_of, HaveClocks, MayBeSkipInsensitive, HasEvents}
use Rattle.query_state.proofs.Fresh.{fresh_seen}
use Rattle.query_state.proofs.Prepare.{seen_as, sleeper, idle_fields, have_times}
use Rattle.query_state.proofs.Cases.{unread_step}

-- what stands for events where they were not no-ops for it stands for the same ones
pub fresh_events : (count : ℕ) (p : Phase) → p.upto ≡ count → HasEvents (phase_at count p) → HasEvents p
fresh_events count p is h = subst HasEvents (fresh_seen count p is) h

-- no leaf reads it, where none is in the set
pub unread_bits : (bits : List Bool) (reading : LeafSet) → has bits ≡ reading → HasNoReader bits → (k : ℕ) → reading k ≡ false
unread_bits bits reading same quiet k = sym (ap (λ (f : LeafSet). f k) same) ∙ quiet k

-- An event of a type that is not read is a no-op.
pub passes_unread : (schema : Declared) (q : Query) (event : Event) (position : ℕ) (h : OpenMatches) (n : Option ℕ) (upto : ℕ) → upto ≤ position → (Reads schema q event → ⊥) → IsNoOpFor event position (phase_at position (sleeper schema q h n upto)) (phase_at (position + 1) (sleeper schema q h n upto))
passes_unread schema q event position h n upto le unread =
    passes_step (sleeper schema q h n upto) event position refl le (unread_step schema q event position h (here_at upto position n) unread)

-- what is told by a flag is so
pub told_pass : (q : Query) (h : OpenMatches) (skip_insensitive : Bool) → MayBeSkipInsensitive q skip_insensitive → (skip_insensitive ≡ true) ⊎ All (AreDormant h.table) h.rows → LetsPass q (query_state_of h None None)
told_pass q h skip_insensitive may (inl is) = inl (may is)
told_pass q h skip_insensitive may (inr all) = inr all

-- Each later event that begins no match is a no-op, where none is open.
pub query_state_is_empty : (schema : Declared) (q : Query) (source : Source) (step : Option Step) (r : Option Ready) (z : Sizes) (h : OpenMatches) (n : Option ℕ) (upto : ℕ) (p : Phase) → seen_as schema q step r z h n upto ≡ p → HaveClocks schema q source → IsOf schema q.window source → All (λ (rows : Rows). rows ≡ []) h.rows → IsEmpty (λ count. phase_at count p)
query_state_is_empty schema q source step r z h n upto p view clocks of none = record {
  passes = λ event position le idle can begins. (
      let is_empty = subst (λ (x : Phase). IsEmpty (λ count. phase_at count x)) (idle_fields schema q step r z h n upto p view idle)
      (none_is_empty (sleeper schema q h n upto) refl (have_times schema q source clocks of) none) in
      is_empty.passes event position le idle can begins
      );
}

-- Each later event that no leaf can read is a no-op, where the automaton is skip-insensitive or all lists are dormant.
pub query_state_is_dormant : (schema : Declared) (q : Query) (source : Source) (step : Option Step) (r : Option Ready) (z : Sizes) (h : OpenMatches) (n : Option ℕ) (upto : ℕ) (p : Phase) → seen_as schema q step r z h n upto ≡ p → HaveClocks schema q source → IsOf schema q.window source → LetsPass q (query_state_of h None None) → IsDormant (λ count. phase_at count p)
query_state_is_dormant schema q source step r z h n upto p view clocks of lets = record {
  passes = λ event position le idle can unread. (
      let is_dormant = subst (λ (x : Phase). IsDormant (λ count. phase_at count x)) (idle_fields schema q step r z h n upto p view idle)
      (quiet_is_dormant (sleeper schema q h n upto) refl (have_times schema q source clocks of) lets) in
      is_dormant.passes event position le idle can unread
      );
}
