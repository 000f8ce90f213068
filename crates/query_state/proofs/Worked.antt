-- The steps of an event are bounded by the states that runs meet, also where its work was given up.
use Rattle.std.proofs.Common.{◌≡◌, ℕ, ◌+◌, ◌*◌, ◌≤◌, ◌⊎◌, inl, inr, ℤ, Bool, List, [], ◌∷◌, ◌++◌, map, length, sym, subst, All, Option, arith}
use Rattle.std.proofs.Math.Nat.{mul-le-mul}
use Rattle.std.proofs.lemmas.List.Elements.{All-append, All-weaker}
use Rattle.cer_base.specs.Bits.{has}
use Rattle.cer_base.specs.declared.node.Root.{Root}
use Rattle.stream_schema.specs.Types.{Declared}
use Rattle.stream_schema.specs.declared.Event.{Event}
use Rattle.stream_schema.specs.declared.Value.{Value}
use Rattle.cel_terms.specs.declared.Query.{Query}
use Rattle.cel_terms.specs.Answers.{HasKey, HasClock}
use Rattle.cea_determinise.specs.declared.cea.StateSets.{StateSets}
use Rattle.cea_determinise.specs.Cea.{standing_of}
use Rattle.event_update.specs.Update.{Discovers, work_bound}
use Rattle.query_standing.specs.Bounds.{update_bound, IsMet, MeetAtMost}
use Rattle.query_standing.specs.Keys.{leaves_reading}
use Rattle.query_standing.specs.Kept.{QueryStateStands}
use Rattle.query_standing.proofs.FoundStates.{met_at_most}
use Rattle.query_standing.proofs.QueryStates.{met_more}
use Rattle.query_state.specs.Matches.{OpenMatches, HasWorked}
use Rattle.query_state.specs.QueryStates.{query_state_of}
use Rattle.all_or_none.specs.Phases.{Phase, IsWithin}
use Rattle.query_state.proofs.Cases.{same_bound, mid_stands}
use Rattle.query_state.proofs.Prepare.{Idle, inner_stands}
use Rattle.query_state.proofs.Discovered.{discovered_met}

square_grows : (n m : ℕ) → n ≤ m → n * n ≤ m * m
square_grows n m le = mul-le-mul le le

work_grows : (n m : ℕ) → n ≤ m → work_bound n ≤ work_bound m
work_grows n m le = let square = square_grows (n + 2) (m + 2) (omega arith) in omega arith

pub worked : (schema : Declared) (q : Query) (events : List Event) (event : Event) (h : OpenMatches) (c : Option ℤ) (n : Option ℕ) (key : List Value) (bits : List Bool) (now : ℤ) (most before after : ℕ) → QueryStateStands schema q events (query_state_of h c n) → HasKey schema q event key → HasClock schema q.window event (length events) now → has bits ≡ leaves_reading schema q event → MeetAtMost schema q (events ++ event ∷ []) most → (after ≡ before) ⊎ HasWorked bits key h before after → after ≤ before + update_bound most
worked schema q events event h c n key bits now most before after s has_key now_is bits_are few (inl e) = omega arith
worked schema q events event h c n key bits now most before after s has_key now_is bits_are few (inr w) =
    let steps = w.work.bounded in
    let grows = work_grows (length w.work.found.states) most at_most in
    let same = same_bound most in
    omega arith
  where
    mid : QueryStateStands schema q events (query_state_of w.mid c n)
    mid = mid_stands schema q events h w.mid c n key w.takes s

    found : Discovers w.mid.table (0 ∷ map (λ (r : ℕ × List Root). r.0) w.rows) bits w.work.found
    found = subst (λ ss. Discovers w.mid.table ss bits w.work.found) w.states_are w.work.discovers

    met : All (λ (p : StateSets). IsMet schema q (events ++ event ∷ []) (standing_of p)) w.work.found.states
    met = subst (All (λ (p : StateSets). IsMet schema q (events ++ event ∷ []) (standing_of p))) (sym found.states) (All-append (λ (p : StateSets). IsMet schema q (events ++ event ∷ []) (standing_of p)) w.mid.table.states found.more
        (All-weaker (λ (p : StateSets). IsMet schema q events (standing_of p)) (λ (p : StateSets). IsMet schema q (events ++ event ∷ []) (standing_of p)) (λ p. met_more schema q events event (standing_of p)) w.mid.table.states mid.states.met)
        (discovered_met schema q events event (query_state_of w.mid c n) w.number key w.rows bits w.work.found now mid w.numbered w.rows_are has_key now_is bits_are found))

    at_most : length w.work.found.states ≤ most
    at_most = met_at_most schema q (events ++ event ∷ []) w.work.found.cea.size w.work.found.states most w.work.sound.states w.work.distinct met few

-- whatever the events are for which the query state stands
pub worked_within : (schema : Declared) (q : Query) (h : OpenMatches) (n : Option ℕ) (p : Phase) (event : Event) (position : ℕ) (key : List Value) (bits : List Bool) (now : ℤ) (before after : ℕ) → Idle schema q h n p → HasKey schema q event key → HasClock schema q.window event position now → has bits ≡ leaves_reading schema q event → (after ≡ before) ⊎ HasWorked bits key h before after → IsWithin event position p before after
worked_within schema q h n p event position key bits now before after i has_key clock bits_are w events most count time stands few =
    let s = inner_stands schema q h n p i events stands in
    worked schema q events event h s.0 n key bits now most before after s.1 has_key (subst (λ k. HasClock schema q.window event k now) (sym count) clock) bits_are
    (subst (λ z. MeetAtMost z q (events ++ event ∷ []) most) (sym i.schema_is) (subst (λ z. MeetAtMost p.schema z (events ++ event ∷ []) most) (sym i.query_is) few)) w
