-- The tables of a query before any event.
use Rattle.std.proofs.Common.{◌≡◌, ℕ, ◌<◌, ◌+◌, Bool, false, true, List, [], ◌∷◌, ◌++◌, length, refl, sym, ap, subst, ◌∙◌, None, slice_index_or, arith, inl, inr}
use Rattle.std.specs.Prelude.{Result, Ok, Err, IfOk}
use Rattle.std.specs.List.{IsDistinct}
use Rattle.std.proofs.lemmas.Bool.{cases_lt}
use Rattle.std.proofs.lemmas.List.{get_or_push, get_or_append_left}
use Rattle.std.proofs.lemmas.List.Elements.{All-nil}
use Rattle.cer_base.specs.Nodes.{WellFormed}
use Rattle.cer_base.specs.Bits.{has, room_for}
use Rattle.cer_base.specs.declared.node.Node.TheVariants.{Bottom}
use Rattle.stream_schema.specs.Types.{Declared}
use Rattle.cel_terms.specs.declared.Query.{Query}
use Rattle.query_leaves.specs.declared.Leaves.{Leaves}
use Rattle.query_leaves.specs.Expand.{tree_of}
use Rattle.query_leaves.specs.Leaves.{occurrences, numbered}
use Rattle.query_leaves.specs.Shapes.{tree_of_shape, AreLeavesOf}
use Rattle.cea_determinise.specs.declared.cea.Cea.{Cea}
use Rattle.cea_determinise.specs.declared.cea.StateSets.{StateSets}
use Rattle.cea_determinise.specs.Runs.{Automaton}
use Rattle.cea_determinise.specs.Cea.{automaton_of_cea, standing_of, HasLeavesBelow}
use Rattle.cea_compile.specs.Compiled.{automaton_of}
use Rattle.cea_compile.specs.LeafAutomaton.{automaton_of_leaves}
use Rattle.cea_compile.proofs.LeafAutomaton.{leaves_tell}
use Rattle.query_standing.specs.Bounds.{IsMet}
use Rattle.query_standing.specs.Kept.{low_at, HasStates, QueryStateStands}
use Rattle.query_standing.proofs.Lists.{none_in_nil}
use Rattle.query_standing.proofs.Growing.{seen_none}
use Rattle.event_update.specs.Dormancy.{IsSkipInsensitive}
use Rattle.event_update.proofs.Before.{none_stand}
use Rattle.query_state.specs.declared.matcher.Matcher.{Matcher}
use Rattle.query_state.specs.Matches.{OpenMatches, none_open}
use Rattle.query_state.specs.QueryStates.{query_state_of, HasAutomaton, IsMatcherOf, AreFirst, MayBeSkipInsensitive}

-- what the leaves of a query tell is the query's
pub matcher_is : (schema : Declared) (q : Query) (l : Leaves) (bits : List Bool) (h : OpenMatches) → tree_of_shape l.shape ≡ numbered 0 (tree_of q) → AreLeavesOf schema (occurrences (tree_of q)) l.list → l.strict ≡ q.strict → ((k : ℕ) → has bits k ≡ false) → length bits ≡ room_for (length l.list) → HasAutomaton (automaton_of_leaves l) l.strict h → IsMatcherOf q bits h
matcher_is schema q l bits h shape list strict empty room m =
    let told = leaves_tell schema q l shape list in
    let size : length l.list ≡ h.table.cea.size = ap (λ (a : Automaton). a.size) (sym m.automaton) in
    record {
      size = ap (λ (a : Automaton). a.size) (m.automaton ∙ told.automaton);
      empty = empty;
      room = room ∙ ap room_for size;
      matches = record { automaton = m.automaton ∙ told.automaton; strict = m.strict ∙ strict; none = m.none };
    }

no_states : (schema : Declared) (q : Query) (cea : Cea) → automaton_of_cea cea ≡ automaton_of (tree_of q) → cea.strict ≡ q.strict → HasStates schema q [] (none_open cea).table
unfolding IsDistinct
no_states schema q cea automaton strict = record {
  automaton = automaton;
  strict = strict;
  sets = All-nil (HasLeavesBelow cea.size);
  distinct = tt;
  met = All-nil (λ (p : StateSets). IsMet schema q [] (standing_of p));
}

no_nodes : WellFormed []
no_nodes = record {
  true_fields = λ id node e. absurd cc;
  well_formed_tree = λ id l. absurd (omega arith);
  in_step = λ s t h k le. absurd (none_in_nil (Bottom s) h);
}

-- before any event nothing is kept
pub none_stands : (schema : Declared) (q : Query) (h : OpenMatches) → HasAutomaton (automaton_of (tree_of q)) q.strict h → QueryStateStands schema q [] (query_state_of h None None)
none_stands schema q h m = subst (λ (k : OpenMatches). QueryStateStands schema q [] (query_state_of k None None)) (sym m.none) (record {
  states = no_states schema q h.table.cea m.automaton m.strict;
  nodes = no_nodes;
  starts = λ s has. absurd (none_in_nil (Bottom s) has);
  never_falls = λ i j before now le a b. (let e = a.at in absurd cc);
  clock = tt;
  unread = λ p event e r. absurd cc;
  keys = record { distinct = tt; others = λ key fresh. record { seen = []; are_seen = seen_none schema q key; stands = none_stand (none_open h.table.cea).table (low_at q None) [] }; lists = refl };
  here = λ end answer ends is. absurd (omega arith);
  each = λ n key rows e f. absurd cc;
  last = λ n key rows is e f. absurd cc;
})

-- one type more in a table
pub table_next : {X : Type 0} (told : ℕ → X) (d : X) (table : List X) (k : ℕ) → length table ≡ k → ((ty : ℕ) → ty < k → slice_index_or table ty d ≡ told ty) → (ty : ℕ) → ty < k + 1 → slice_index_or (table ++ told k ∷ []) ty d ≡ told ty
table_next told d table k len is ty less = elim (cases_lt ty k) [
  | inl below ↦ get_or_append_left table (told k ∷ []) d ty (omega arith) ∙ is ty below
  | inr above ↦ (
      let here : k ≡ ty = omega arith in
      subst (λ i. slice_index_or (table ++ told k ∷ []) i d ≡ told i) here (get_or_push table (told k) d k len)
      )
]

-- the same of what was made, where memory lasted
pub matcher_made : {E : Type 0} (schema : Declared) (q : Query) (l : Leaves) (r : Result Matcher E) → tree_of_shape l.shape ≡ numbered 0 (tree_of q) → AreLeavesOf schema (occurrences (tree_of q)) l.list → l.strict ≡ q.strict → IfOk r (λ m. (k : ℕ) → has m.no_leaves k ≡ false) → IfOk r (λ m. length m.no_leaves ≡ room_for (length l.list)) → IfOk r (λ m. HasAutomaton (automaton_of_leaves l) l.strict m.matches) → IfOk r (λ m. IsMatcherOf q m.no_leaves m.matches)
matcher_made schema q l (Err e) shape list strict a b c = tt
matcher_made schema q l (Ok m) shape list strict a b c = matcher_is schema q l m.no_leaves m.matches shape list strict a b c

-- likewise whether it is skip-insensitive
pub skip_insensitive_made : {E : Type 0} (schema : Declared) (q : Query) (l : Leaves) (r : Result Matcher E) → tree_of_shape l.shape ≡ numbered 0 (tree_of q) → AreLeavesOf schema (occurrences (tree_of q)) l.list → l.strict ≡ q.strict → IfOk r (λ m. m.skip_insensitive ≡ true → IsSkipInsensitive (automaton_of_leaves l) l.strict) → IfOk r (λ m. MayBeSkipInsensitive q m.skip_insensitive)
skip_insensitive_made schema q l (Err e) shape list strict p = tt
skip_insensitive_made schema q l (Ok m) shape list strict p = λ is. subst (λ a. IsSkipInsensitive a q.strict) (leaves_tell schema q l shape list).automaton (subst (IsSkipInsensitive (automaton_of_leaves l)) strict (p is))

-- and which leaves may read the first event of a match
pub first_made : {E : Type 0} (schema : Declared) (q : Query) (l : Leaves) (r : Result Matcher E) → tree_of_shape l.shape ≡ numbered 0 (tree_of q) → AreLeavesOf schema (occurrences (tree_of q)) l.list → IfOk r (λ m. (k : ℕ) → (automaton_of_leaves l).first k ≡ has m.first k) → IfOk r (λ m. length m.first ≡ room_for (length l.list)) → IfOk r (λ m. AreFirst q m.first)
first_made schema q l (Err e) shape list are room = tt
first_made schema q l (Ok m) shape list are room =
    let told = (leaves_tell schema q l shape list).automaton in
    record {
      are = λ k. (ap (λ (a : Automaton). a.first k) (sym told) ∙ are k);
      room = room ∙ ap (λ (a : Automaton). room_for a.size) told;
    }
