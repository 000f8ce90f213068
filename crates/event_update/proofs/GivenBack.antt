-- A table that has grown is cut back to what it was.
use Rattle.std.proofs.Common.{◌≡◌, ℕ, ◌≤◌, Bool, List, [], length, take, refl, sym, ap, subst, ◌∙◌, All, arith, length-append}
use Rattle.std.proofs.Math.Seq.{take-append_seam}
use Rattle.std.proofs.lemmas.List.{append-nil}
use Rattle.std.proofs.lemmas.List.Elements.{All-nil, All-weaker}
use Rattle.cea_determinise.specs.declared.table.TransitionKey.{TransitionKey}
use Rattle.cea_determinise.specs.declared.table.Successors.{Successors}
use Rattle.cea_determinise.specs.LazyDfa.{Table, AreSuccessors, IsSound, StaysWithin}
use Rattle.event_update.specs.Update.{Discovers}

-- no state is new where none is looked up
pub discovers_none : (t : Table) (ns : List ℕ) (bits : List Bool) → Discovers t ns bits t
discovers_none t ns bits = record {
  cea = refl;
  more = [];
  states = sym (append-nil t.states);
  reached = All-nil _;
  more_event_classes = [];
  event_classes = sym (append-nil t.event_classes);
  more_transitions = [];
  transitions = sym (append-nil t.transitions);
}

-- what a table of so many states, pairs and classes is cut back to
abbrev pub cut : Table → ℕ → ℕ → ℕ → Table
cut t states pairs event_classes = record { cea = t.cea; states = take states t.states; event_classes = take event_classes t.event_classes; transitions = take pairs t.transitions }

module _ (old new : Table) (ns : List ℕ) (bits : List Bool) (d : Discovers old ns bits new) where
  pub states_more : length old.states ≤ length new.states
  states_more = let e = ap length d.states in omega (arith, simp length-append at e)

  pub pairs_more : length old.transitions ≤ length new.transitions
  pairs_more = let e = ap length d.transitions in omega (arith, simp length-append at e)

  pub event_classes_more : length old.event_classes ≤ length new.event_classes
  event_classes_more = let e = ap length d.event_classes in omega (arith, simp length-append at e)

  pairs_back : take (length old.transitions) new.transitions ≡ old.transitions
  pairs_back = ap (take (length old.transitions)) d.transitions ∙ take-append_seam old.transitions d.more_transitions

  states_back : take (length old.states) new.states ≡ old.states
  states_back = ap (take (length old.states)) d.states ∙ take-append_seam old.states d.more

  event_classes_back : take (length old.event_classes) new.event_classes ≡ old.event_classes
  event_classes_back = ap (take (length old.event_classes)) d.event_classes ∙ take-append_seam old.event_classes d.more_event_classes

  stays : All (λ (e : TransitionKey × Successors). AreSuccessors old.cea old.states old.event_classes e.0 e.1) old.transitions → All (StaysWithin (length old.states) (length old.event_classes)) old.transitions
  stays h = All-weaker (λ (e : TransitionKey × Successors). AreSuccessors old.cea old.states old.event_classes e.0 e.1) (StaysWithin (length old.states) (length old.event_classes)) (λ e a. record { state = a.state; event_class = a.event_class; marked = a.marked.cached; unmarked = a.unmarked.cached }) old.transitions h

  given_back : cut new (length old.states) (length old.transitions) (length old.event_classes) ≡ old
  given_back = λ i. record { cea = d.cea i; states = states_back i; event_classes = event_classes_back i; transitions = pairs_back i }

  -- with the numbers that were told before the table grew
  pub stay_so : (states pairs event_classes : ℕ) → states ≡ length old.states → pairs ≡ length old.transitions → event_classes ≡ length old.event_classes → IsSound old → All (StaysWithin states event_classes) (take pairs new.transitions)
  stay_so states pairs event_classes e f h sound =
      subst (λ (n : ℕ). All (StaysWithin n event_classes) (take pairs new.transitions)) (sym e)
      (subst (λ (n : ℕ). All (StaysWithin (length old.states) n) (take pairs new.transitions)) (sym h)
      (subst (λ (ts : List (TransitionKey × Successors)). All (StaysWithin (length old.states) (length old.event_classes)) ts) (sym (ap (λ (n : ℕ). take n new.transitions) f ∙ pairs_back)) (stays sound.transitions)))

  pub back_so : (states pairs event_classes : ℕ) → states ≡ length old.states → pairs ≡ length old.transitions → event_classes ≡ length old.event_classes → (t : Table) → t ≡ cut new states pairs event_classes → t ≡ old
  back_so states pairs event_classes e f h t is =
      is ∙ ap (λ (n : ℕ). cut new n pairs event_classes) e ∙ ap (λ (n : ℕ). cut new (length old.states) n event_classes) f ∙ ap (λ (n : ℕ). cut new (length old.states) (length old.transitions) n) h ∙ given_back
