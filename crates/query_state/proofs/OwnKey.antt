-- What an event makes of the lists of its own key.
use Rattle.std.proofs.Common.{◌≡◌, ℕ, ◌+◌, ◌≤◌, ◌⊎◌, inl, inr, ℤ, ◌≤ℤ◌, Bool, true, false, ◌&&◌, List, [], All, refl, sym, ap, subst, ◌∙◌, Option, Some, None, slice_get, slice_index_or, arith}
use Rattle.std.specs.Prelude.{IfSome, IfNone, option_and_then}
use Rattle.std.proofs.lemmas.List.Elements.{All-contains}
use Rattle.cer_base.specs.Bits.{has}
use Rattle.stream_schema.specs.Types.{Declared}
use Rattle.stream_schema.specs.Events.{IsOfSchema}
use Rattle.stream_schema.specs.declared.Event.{Event}
use Rattle.stream_schema.specs.declared.Value.{Value}
use Rattle.cel_terms.specs.declared.Query.{Query}
use Rattle.cel_terms.specs.Answers.{HasClock}
use Rattle.query_leaves.specs.Expand.{tree_of}
use Rattle.cea_determinise.specs.Runs.{LeafSet}
use Rattle.cea_compile.specs.Compiled.{automaton_of}
use Rattle.event_update.specs.declared.Staged.{Staged}
use Rattle.event_update.specs.Dormancy.{HasNoReader, AreDormant}
use Rattle.partition_table.specs.Keys.{are_at}
use Rattle.query_standing.specs.Clocks.{Reads, low_of}
use Rattle.query_standing.specs.Keys.{leaves_reading}
use Rattle.query_standing.specs.Kept.{Rows}
use Rattle.query_standing.proofs.KeyCases.{at_one_place}
use Rattle.query_standing.proofs.Lists.{got}
use Rattle.query_standing.proofs.Nothing.{none_begins}
use Rattle.all_or_none.specs.Phases.{Phase, IsStep, IsWithin, IsNoOpFor}
use Rattle.all_or_none.specs.Dormancy.{here_at, phase_at, HasTimes}
use Rattle.all_or_none.proofs.Dormancy.{passes_step}
use Rattle.query_state.specs.KeyPlaces.{values_there, key_there, AreKeyPlaces}
use Rattle.query_state.specs.Matches.{OpenMatches, HasKeyThere, HasNoneOf, OwnRest, MayPass, Stays, IsOwnReady, HasOwnWorked}
use Rattle.query_state.specs.Own.{HasNumberThere, IsOwn}
use Rattle.query_state.specs.declared.own.Own.{Own}
use Rattle.query_state.specs.declared.own.Own.TheVariants.{NoOp, Passes, At, Unknown}
use Rattle.query_state.specs.QueryStates.{query_state_of, put_in, AreFirst, MayBeSkipInsensitive}
use Rattle.query_state.proofs.Prepare.{Idle, sleeper, key_through, values_are}
use Rattle.query_state.proofs.Cases.{no_key_step, dormant_step, no_op_step, nothing_step, keyed_step}
use Rattle.query_state.proofs.Worked.{worked_within}
use Rattle.query_state.proofs.NoOp.{none_at}
use Rattle.query_state.proofs.AfterNoOps.{unread_bits}

-- what is told of a value, once it is known which of two it is
pub at_none : {T : Type 0} (P : Type 0) (o : Option T) → o ≡ None → IfNone o P → P
at_none P None e h = h
at_none P (Some x) e h = absurd cc

pub at_some : {T : Type 0} (P : T → Type 0) (o : Option T) (x : T) → o ≡ Some x → IfSome o P → P x
at_some P None x e h = absurd cc
at_some P (Some y) x e h = (let same : y ≡ x = cc in subst P same h)

-- the key that the event has, where one of the values at its places is found
pub own_key : (table : List (Option (List ℕ))) (event : Event) (places : List ℕ) (key : List Value) → slice_index_or table event.ty None ≡ Some places → are_at key places event.values ≡ true → key_there table event ≡ Some key
own_key table event places key here at = ap (option_and_then (λ ps. values_there ps event.values)) here ∙ values_are key places event.values at

-- where it may pass, the number is that of lists
pub number_there : (o : Own) (h : OpenMatches) (table : List (Option (List ℕ))) (event : Event) (first bits : List Bool) (skip_insensitive : Bool) → IsOwn o h table event first bits skip_insensitive → HasNumberThere o h
number_there NoOp h table event first bits skip_insensitive is = tt
number_there (Passes number) h table event first bits skip_insensitive is = is.1.there.inside
number_there (At number) h table event first bits skip_insensitive is = tt
number_there Unknown h table event first bits skip_insensitive is = tt

-- where those of its own key are dormant
one_rest : (h : OpenMatches) (own : Option (List Value)) (bits : List Bool) (key : List Value) (number : ℕ) (rows : Rows) → HasNoReader bits → own ≡ Some key → slice_get h.keys number ≡ Some key → slice_get h.rows number ≡ Some rows → AreDormant h.table rows → OwnRest h own bits
one_rest h own bits key number rows quiet is numbered at rest = record {
  quiet = quiet;
  rest = λ distinct other place there is_other numbered_other at_other. (
      let same : key ≡ other = (let both = sym is ∙ is_other in cc) in
      let here : number ≡ place = at_one_place h.keys number place other distinct (subst (λ k. slice_get h.keys number ≡ Some k) same numbered) numbered_other in
      let one : rows ≡ there = (let both = sym at ∙ subst (λ i. slice_get h.rows i ≡ Some there) (sym here) at_other in cc) in
      subst (AreDormant h.table) one rest
      );
}

pub one_stays : (h : OpenMatches) (table : List (Option (List ℕ))) (event : Event) (first bits : List Bool) (skip_insensitive : Bool) (places : List ℕ) (number : ℕ) → slice_index_or table event.ty None ≡ Some places → HasKeyThere h places event.values number → HasNoReader bits → (rows : Rows) × (slice_get h.rows number ≡ Some rows) × AreDormant h.table rows → Stays h (key_there table event) first bits skip_insensitive
one_stays h table event first bits skip_insensitive places number here k quiet r = inr (inl (one_rest h (key_there table event) bits k.key number r.0 quiet (own_key table event places k.key here k.has) k.numbered r.1 r.2))

-- where those of each key do, or the automaton is skip-insensitive
pub all_stay : (h : OpenMatches) (own : Option (List Value)) (first bits : List Bool) (skip_insensitive : Bool) → HasNoReader bits → (skip_insensitive ≡ true) ⊎ All (AreDormant h.table) h.rows → Stays h own first bits skip_insensitive
all_stay h own first bits skip_insensitive quiet (inl is) = inr (inr (inl (quiet, is)))
all_stay h own first bits skip_insensitive quiet (inr all) = inr (inl (record { quiet = quiet; rest = λ distinct key number rows is numbered at. All-contains (AreDormant h.table) h.rows rows all (got h.rows number rows at) }))

-- where it is a no-op for those of its own key
pub one_passes : (h : OpenMatches) (table : List (Option (List ℕ))) (event : Event) (first bits : List Bool) (skip_insensitive : Bool) (places : List ℕ) (number : ℕ) → slice_index_or table event.ty None ≡ Some places → HasKeyThere h places event.values number → MayPass h number bits → Stays h (key_there table event) first bits skip_insensitive
one_passes h table event first bits skip_insensitive places number here k pass = inr (inr (inr (inl (record { key = k.key; own_is = own_key table event places k.key here k.has; number = number; numbered = k.numbered; pass = pass }))))

-- where it begins no match, and none is open of its own key
pub one_begins_none : (h : OpenMatches) (table : List (Option (List ℕ))) (event : Event) (first bits : List Bool) (skip_insensitive : Bool) (places : List ℕ) (number : ℕ) → slice_index_or table event.ty None ≡ Some places → HasKeyThere h places event.values number → ((k : ℕ) → has first k && has bits k ≡ false) → slice_get h.rows number ≡ Some [] → Stays h (key_there table event) first bits skip_insensitive
one_begins_none h table event first bits skip_insensitive places number here k begins none = inr (inr (inr (inr (record {
  begins = begins;
  empty = λ key is. (
      let same : k.key ≡ key = (let both = sym (own_key table event places k.key here k.has) ∙ is in cc) in
      subst (HasNoneOf h) same (none_at h k.key number k.numbered none)
      );
}))))

-- An event that changes no list is taken by moving on the clock.
pub stays_step : (schema : Declared) (q : Query) (table : List (Option (List ℕ))) (first bits : List Bool) (skip_insensitive : Bool) (event : Event) (position : ℕ) (h : OpenMatches) (n : Option ℕ) (now : ℤ) → AreKeyPlaces schema q table → IsOfSchema schema event → Reads schema q event → HasClock schema q.window event position now → has bits ≡ leaves_reading schema q event → MayBeSkipInsensitive q skip_insensitive → AreFirst q first → Stays h (key_there table event) first bits skip_insensitive → IsStep schema q event position (query_state_of h None n) (query_state_of h None None)
stays_step schema q table first bits skip_insensitive event position h n now are of reads clock bits_are may begin (inl none) =
    let no = sym (key_through schema q table event are of) ∙ none in
    no_key_step schema q event position h n now reads clock (λ key k. let two = sym no ∙ k.1 in absurd cc)
stays_step schema q table first bits skip_insensitive event position h n now are of reads clock bits_are may begin (inr (inl own)) =
    dormant_step schema q event position h n now reads clock
    (unread_bits bits (leaves_reading schema q event) bits_are own.quiet)
    (inr (λ distinct key number rows k numbered at. own.rest distinct key number rows (key_through schema q table event are of ∙ k.1) numbered at))
stays_step schema q table first bits skip_insensitive event position h n now are of reads clock bits_are may begin (inr (inr (inl passes))) =
    dormant_step schema q event position h n now reads clock
    (unread_bits bits (leaves_reading schema q event) bits_are passes.0)
    (inl (may passes.1))
stays_step schema q table first bits skip_insensitive event position h n now are of reads clock bits_are may begin (inr (inr (inr (inl own)))) =
    no_op_step schema q event position bits own.key own.number h n now reads clock (reads, sym (key_through schema q table event are of) ∙ own.own_is) bits_are own.numbered own.pass
stays_step schema q table first bits skip_insensitive event position h n now are of reads clock bits_are may begin (inr (inr (inr (inr own)))) =
    nothing_step schema q event position h n now reads clock
    (none_begins (automaton_of (tree_of q)) q.strict (leaves_reading schema q event) (λ k.
    subst (λ (f : LeafSet). ((automaton_of (tree_of q)).first k && f k) ≡ false) bits_are (ap (λ b. b && has bits k) (begin.are k) ∙ own.begins k)))
    (λ key k. own.empty key (key_through schema q table event are of ∙ k.1))

-- So it is a no-op.
pub stays_pass : (schema : Declared) (q : Query) (table : List (Option (List ℕ))) (first bits : List Bool) (skip_insensitive : Bool) (event : Event) (position : ℕ) (h : OpenMatches) (n : Option ℕ) (upto : ℕ) → HasTimes schema q → upto ≤ position → AreKeyPlaces schema q table → IsOfSchema schema event → Reads schema q event → has bits ≡ leaves_reading schema q event → MayBeSkipInsensitive q skip_insensitive → AreFirst q first → Stays h (key_there table event) first bits skip_insensitive → IsNoOpFor event position (phase_at position (sleeper schema q h n upto)) (phase_at (position + 1) (sleeper schema q h n upto))
stays_pass schema q table first bits skip_insensitive event position h n upto times le are of reads bits_are may begin stays =
    let now = times event position of reads in
    passes_step (sleeper schema q h n upto) event position refl le
    (stays_step schema q table first bits skip_insensitive event position h (here_at upto position n) now.0 are of reads now.1 bits_are may begin stays)

-- Where its lists are worked out, they are those of its key.
pub ready_step : (schema : Declared) (q : Query) (table : List (Option (List ℕ))) (low : ℤ) (bits : List Bool) (event : Event) (position : ℕ) (number : ℕ) (staged : Staged) (old new : OpenMatches) (n : Option ℕ) (now : ℤ) → AreKeyPlaces schema q table → IsOfSchema schema event → Reads schema q event → HasClock schema q.window event position now → has bits ≡ leaves_reading schema q event → low ≤ℤ low_of q.window now → IsOwnReady (record { pos = position; clock = now }) low bits (key_there table event) number staged old new → IsStep schema q event position (query_state_of old None n) (query_state_of (put_in number staged new) None (Some number))
ready_step schema q table low bits event position number staged old new n now are of reads clock bits_are recent r =
    keyed_step schema q event position low bits r.0 number staged old new n now reads clock (reads, sym (key_through schema q table event are of) ∙ r.1) bits_are recent r.2

-- and the steps are within the bound
pub own_within : (schema : Declared) (q : Query) (table : List (Option (List ℕ))) (bits : List Bool) (event : Event) (position : ℕ) (h : OpenMatches) (n : Option ℕ) (p : Phase) (now : ℤ) (before after : ℕ) → Idle schema q h n p → AreKeyPlaces schema q table → IsOfSchema schema event → Reads schema q event → HasClock schema q.window event position now → has bits ≡ leaves_reading schema q event → (after ≡ before) ⊎ HasOwnWorked bits (key_there table event) h before after → IsWithin event position p before after
own_within schema q table bits event position h n p now before after i are of reads clock bits_are (inl e) = λ events most count time stands few. omega arith
own_within schema q table bits event position h n p now before after i are of reads clock bits_are (inr w) =
    worked_within schema q h n p event position w.0 bits now before after i (reads, sym (key_through schema q table event are of) ∙ w.1) clock bits_are (inr w.2)
