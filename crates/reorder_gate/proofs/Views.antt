-- What each call does to a gate as it is seen.
use Rattle.std.proofs.Common.{◌≡◌, ℕ, ℤ, Bool, true, false, cond, List, [], ◌∷◌, ◌++◌, map, refl, sym, ap, ap₂, subst, ◌∙◌, Option, Some, None, slice_get}
use Rattle.std.specs.BTreeMap.{insert_entry}
use Rattle.std.specs.List.{AllByRecursion}
use Rattle.stream_schema.specs.declared.Event.{Event}
use Rattle.reorder_gate.specs.declared.gate.ReleaseKey.{ReleaseKey}
use Rattle.reorder_gate.specs.Releasing.{raised, is_due}
use Rattle.reorder_gate.specs.Gates.{GateState, clock_at, lateness, with_event, may_go, StandsFor, any_due}
use Rattle.reorder_gate.specs.Holding.{IsKept}
use Rattle.reorder_gate.proofs.Entries.{turn_cmp, events_with, first_is_due}
use Rattle.reorder_gate.proofs.Standing.{put_stands, take_stands, none_goes}

-- the gate of these parts
abbrev pub seen : List (Option ℕ) → ℕ → Option ℤ → Bool → List (ReleaseKey × (ℕ × Event)) → GateState
seen places late high finished entries = record { places = places; late = late; high = high; is_finished = finished; events = map (λ x. x.1) entries }

pub due_seen : (places : List (Option ℕ)) (late : ℕ) (high : Option ℤ) (finished : Bool) (arrivals : ℕ) (entries : List (ReleaseKey × (ℕ × Event))) (turn : ReleaseKey) (e : ℕ × Event) (r : Bool) (g : GateState)
    → seen places late high finished entries ≡ g → IsKept places arrivals entries → slice_get entries 0 ≡ Some (turn, e) → finished ≡ false → r ≡ is_due late high turn.clock → r ≡ any_due g
due_seen places late high finished arrivals entries turn e r g is kept first going due = subst (λ (g : GateState). r ≡ any_due g) is
    (due ∙ (ap (λ t. cond t true (is_due late high turn.clock)) (sym going) ∙ sym (first_is_due (seen places late high finished entries) arrivals entries turn e refl kept first)))

pub put_seen : (places : List (Option ℕ)) (late : ℕ) (high : Option ℤ) (finished : Bool) (arrivals : ℕ) (entries new : List (ReleaseKey × (ℕ × Event))) (turn : ReleaseKey) (e : ℕ × Event) (top : ℤ) (g : GateState)
    → seen places late high finished entries ≡ g → IsKept places arrivals entries → turn.clock ≡ clock_at places e → turn.arrival ≡ arrivals → new ≡ insert_entry turn_cmp entries turn e → top ≡ raised high turn.clock
    → seen places late (Some top) finished new ≡ with_event g e
put_seen places late high finished arrivals entries new turn e top g is kept told last inserted raise = subst (λ (g : GateState). seen places late (Some top) finished new ≡ with_event g e) is
    (ap₂ (λ (h : ℤ) (events : List (ℕ × Event)). record { places = places; late = late; high = Some h; is_finished = finished; events = events })
    (raise ∙ ap (raised high) told) (ap (map (λ x. x.1)) inserted ∙ events_with places arrivals entries turn e kept told last))

pub put_keeps : (g next : GateState) (late : ℕ) (high : Option ℤ) (now : ℤ) (e : ℕ × Event) → next ≡ with_event g e → g.is_finished ≡ false → g.late ≡ late → g.high ≡ high → clock_at g.places e ≡ now → None ≡ lateness high late now
    → (put gone : List (ℕ × Event)) → StandsFor g put gone → StandsFor next (put ++ e ∷ []) gone
put_keeps g next late high now e is going same_late same_high same_now in_time put gone stands = subst (λ n. StandsFor n (put ++ e ∷ []) gone) (sym is)
    (put_stands g e going (ap (λ h. lateness h g.late (clock_at g.places e)) same_high ∙ (ap (λ l. lateness high l (clock_at g.places e)) same_late ∙ (ap (lateness high late) same_now ∙ sym in_time))) put gone stands)

-- the first of the gate that may go
may_go_first : (g : GateState) (e : ℕ × Event) (events : List (ℕ × Event)) → g.events ≡ e ∷ events → any_due g ≡ true → may_go g e ≡ true
may_go_first g e events is due = sym (ap (λ l. any_due (record g { events = l })) is) ∙ due

pub take_keeps : (places : List (Option ℕ)) (late : ℕ) (high : Option ℤ) (finished : Bool) (entries new : List (ReleaseKey × (ℕ × Event))) (first : ReleaseKey × (ℕ × Event)) (g : GateState)
    → seen places late high finished entries ≡ g → entries ≡ first ∷ new → any_due g ≡ true → (put gone : List (ℕ × Event)) → StandsFor g put gone → StandsFor (seen places late high finished new) put (gone ++ first.1 ∷ [])
take_keeps places late high finished entries new first g is taken due put gone stands =
    let whole = seen places late high finished entries in
    let events = ap (map (λ (x : ReleaseKey × (ℕ × Event)). x.1)) taken in
    take_stands whole first.1 (map (λ x. x.1) new) put gone events (may_go_first whole first.1 (map (λ x. x.1) new) events (ap any_due is ∙ due)) (subst (λ n. StandsFor n put gone) (sym is) stands)

pub none_seen : (places : List (Option ℕ)) (late : ℕ) (high : Option ℤ) (finished : Bool) (arrivals : ℕ) (entries : List (ReleaseKey × (ℕ × Event))) (g : GateState)
    → seen places late high finished entries ≡ g → IsKept places arrivals entries → any_due g ≡ false → AllByRecursion (λ e. may_go g e ≡ false) g.events
none_seen places late high finished arrivals entries g is kept none = subst (λ (g : GateState). any_due g ≡ false → AllByRecursion (λ e. may_go g e ≡ false) g.events) is
    (none_goes (seen places late high finished entries) kept.ascends) none
