-- The turns that are made of a query's leaves are those of its automaton.
use Rattle.std.proofs.Common.{◌≡◌, sym, ap, subst, ◌∙◌, ℕ, zero, suc, ◌<◌, false, ◌&&◌, List, [], ◌∷◌, length, map, slice_get, get_or, Some, All, arith}
use Rattle.std.specs.Prelude.{Result, Ok, Err, Option, None, IfOk, IfSome, IfNone}
use Rattle.std.specs.List.{AllZip}
use Rattle.std.proofs.lemmas.Option.{slice_get-get_or}
use Rattle.stream_schema.specs.Types.{Declared}
use Rattle.stream_schema.specs.declared.Event.{Event}
use Rattle.cel_terms.specs.declared.Query.{Query}
use Rattle.query_leaves.specs.declared.Leaf.{Leaf}
use Rattle.query_leaves.specs.declared.Leaves.{Leaves}
use Rattle.query_leaves.specs.Expand.{tree_of}
use Rattle.query_leaves.specs.Leaves.{occurrences, numbered}
use Rattle.query_leaves.specs.Shapes.{tree_of_shape, AreLeavesOf}
use Rattle.query_leaves.specs.Conditions.{leaf_conditions}
use Rattle.cer_base.specs.Bits.{has}
use Rattle.cea_determinise.specs.declared.cea.Cea.{Cea}
use Rattle.cea_determinise.specs.Runs.{LeafSet, Automaton, agrees, has_mark}
use Rattle.cea_determinise.specs.Cea.{automaton_of_cea, IsSet}
use Rattle.cea_compile.specs.Compiled.{automaton_of}
use Rattle.cea_compile.specs.DeterminisedRuns.{entry_at}
use Rattle.cea_compile.specs.LeafAutomaton.{automaton_of_leaves, TellQuery}
use Rattle.cea_compile.proofs.LeafAutomaton.{leaves_tell}
use Rattle.cea_compile.specs.Paths.{Step}
use Rattle.match_explain.specs.declared.turns.Turn.{Turn}
use Rattle.match_explain.specs.declared.moves.Last.TheVariants.{Start}
use Rattle.match_explain.specs.Searching.{IsTurnAt, IsTurnOf, AreTurnsOf, Goes, can_finish, IsRun, HasNoRun}

pub sets_at : (leaves : List Leaf) (marked : LeafSet) (size : ℕ) (events : List Event) (marks span : List ℕ) (turns : List Turn) → AllZip (IsTurnAt leaves marked size events marks) span turns → (k : ℕ) (d : Turn) → k < length turns → IsSet size (get_or turns k d).readers
sets_at leaves marked size events marks [] [] h k d less = absurd (omega arith)
sets_at leaves marked size events marks [] (t ∷ ts) h k d less = absurd h
sets_at leaves marked size events marks (p ∷ ps) [] h k d less = absurd h
sets_at leaves marked size events marks (p ∷ ps) (t ∷ ts) h zero d less = h.0.set
sets_at leaves marked size events marks (p ∷ ps) (t ∷ ts) h (suc k) d less = sets_at leaves marked size events marks ps ts h.1 k d (omega arith)

all_there : (n p : ℕ) (ps : List ℕ) → All (λ x. x < n) (p ∷ ps) → (p < n) × All (λ x. x < n) ps
all_there n p ps h = (h 0 p (omega arith), λ k d less. h (suc k) d (omega arith))

there : (events : List Event) (p : ℕ) → p < length events → (event : Event) × (slice_get events p ≡ Some event)
there [] p less = absurd (omega arith)
there (e ∷ es) p less = (get_or (e ∷ es) p e, slice_get-get_or (e ∷ es) p e less)

turn_told : (schema : Declared) (q : Query) (events : List Event) (marks : List ℕ) (leaves : List Leaf) (a : Automaton) (size p : ℕ) (t : Turn) → ((p : ℕ) (event : Event) → slice_get events p ≡ Some event → leaf_conditions leaves event ≡ (entry_at schema q events p).bits) → p < length events → IsTurnAt leaves a.marked size events marks p t → IsTurnOf a (has_mark marks) (entry_at schema q events p) t
turn_told schema q events marks leaves a size p t bits less h =
    let e = there events p less in record {
      position = h.position;
      marked = h.marked;
      readers = λ k. h.readers e.0 e.1 k ∙ ap (λ (s : LeafSet). s k && agrees t.marked (a.marked k)) (bits p e.0 e.1);
    }

turns_told : (schema : Declared) (q : Query) (events : List Event) (marks : List ℕ) (leaves : List Leaf) (a : Automaton) (size : ℕ) (span : List ℕ) (turns : List Turn) → ((p : ℕ) (event : Event) → slice_get events p ≡ Some event → leaf_conditions leaves event ≡ (entry_at schema q events p).bits) → All (λ p. p < length events) span → AllZip (IsTurnAt leaves a.marked size events marks) span turns → AreTurnsOf a (has_mark marks) (map (entry_at schema q events) span) turns
turns_told schema q events marks leaves a size [] [] bits all h = tt
turns_told schema q events marks leaves a size [] (t ∷ ts) bits all h = absurd h
turns_told schema q events marks leaves a size (p ∷ ps) [] bits all h = absurd h
turns_told schema q events marks leaves a size (p ∷ ps) (t ∷ ts) bits all h =
    let both = all_there (length events) p ps all in
    (turn_told schema q events marks leaves a size p t bits both.0 h.0, turns_told schema q events marks leaves a size ps ts bits both.1 h.1)

-- What is made of a query's leaves: their list, their automaton and the turns of a span.
pub record IsMadeOf (schema : Declared) (q : Query) (events : List Event) (span marks : List ℕ) (l : Leaves) (cea : Cea) (list : List Leaf) (turns : List Turn) : Type 0 where
  pub shape : tree_of_shape l.shape ≡ numbered 0 (tree_of q)
  pub leaves : AreLeavesOf schema (occurrences (tree_of q)) l.list
  pub automaton : automaton_of_cea cea ≡ automaton_of_leaves l
  pub listed : list ≡ l.list
  pub there : All (λ p. p < length events) span
  pub zipped : AllZip (IsTurnAt list (has cea.marked) (length list) events marks) span turns

module _ (schema : Declared) (q : Query) (events : List Event) (span marks : List ℕ) (l : Leaves) (cea : Cea) (list : List Leaf) (turns : List Turn) (m : IsMadeOf schema q events span marks l cea list turns) where
  tells : TellQuery schema q l
  tells = leaves_tell schema q l m.shape m.leaves

  same : automaton_of_cea cea ≡ automaton_of (tree_of q)
  same = m.automaton ∙ tells.automaton

  told_here : AreTurnsOf (automaton_of_cea cea) (has_mark marks) (map (entry_at schema q events) span) turns
  told_here = turns_told schema q events marks list (automaton_of_cea cea) (length list) span turns
      (λ p event h. ap (λ (ls : List Leaf). leaf_conditions ls event) m.listed ∙ tells.bits events p event h)
      m.there m.zipped

  told : AreTurnsOf (automaton_of (tree_of q)) (has_mark marks) (map (entry_at schema q events) span) turns
  told = subst (λ (a : Automaton). AreTurnsOf a (has_mark marks) (map (entry_at schema q events) span) turns) same told_here

  pub size_is : cea.size ≡ length list
  size_is = ap (λ (a : Automaton). a.size) m.automaton ∙ sym (ap length m.listed)

  pub run_is : (steps : List Step) → Goes (automaton_of_cea cea) Start turns steps → IsRun schema q events span marks steps
  run_is steps g = record { turns = turns; told = told; goes = subst (λ (a : Automaton). Goes a Start turns steps) same g }

  pub no_run_is : can_finish (automaton_of_cea cea) Start turns ≡ false → HasNoRun schema q events span marks
  no_run_is h = record { turns = turns; told = told; stuck = subst (λ (a : Automaton). can_finish a Start turns ≡ false) same h }

pub if_some : {X E : Type 0} (P Q : X → Type 0) (r : Result (Option X) E) → ((x : X) → P x → Q x) → IfOk r (λ o. IfSome o P) → IfOk r (λ o. IfSome o Q)
if_some P Q (Err e) f h = h
if_some P Q (Ok None) f h = h
if_some P Q (Ok (Some x)) f h = f x h

pub if_none : {X E : Type 0} (P Q : Type 0) (r : Result (Option X) E) → (P → Q) → IfOk r (λ o. IfNone o P) → IfOk r (λ o. IfNone o Q)
if_none P Q (Err e) f h = h
if_none P Q (Ok None) f h = f h
if_none P Q (Ok (Some x)) f h = h
