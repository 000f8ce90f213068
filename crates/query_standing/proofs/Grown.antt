-- What stands for a key still does in more nodes and with more states.
use Rattle.std.proofs.Common.{◌≡◌, ℕ, Bool, zero, suc, ◌<◌, ◌≤◌, inl, inr, ℤ, List, [], ◌∷◌, ◌++◌, length, refl, sym, ap, subst, ◌∙◌, All, Some, slice_get, arith}
use Rattle.std.specs.List.{flat_map}
use Rattle.std.proofs.lemmas.List.Elements.{All-head, All-tail, All-weaker}
use Rattle.cer_base.specs.declared.node.Root.{Root}
use Rattle.cer_base.specs.declared.node.Node.{Node}
use Rattle.cer_base.specs.Repeats.{HasNoRepeats}
use Rattle.cer_base.specs.Members.{Member, members, newest, need}
use Rattle.cer_base.specs.Nodes.{tree, IsRoot}
use Rattle.cer_base.proofs.Trees.{tree-append}
use Rattle.cea_determinise.specs.declared.cea.StateSets.{StateSets}
use Rattle.cea_determinise.specs.declared.cea.Cea.{Cea}
use Rattle.cea_determinise.specs.declared.table.TransitionKey.{TransitionKey}
use Rattle.cea_determinise.specs.declared.table.Successors.{Successors}
use Rattle.cea_determinise.specs.Cea.{standing, automaton_of_cea}
use Rattle.cea_determinise.specs.LazyDfa.{standing_at}
use Rattle.union_lists.specs.Lists.{IsUnionList, IsList, trees, members_of}
use Rattle.event_update.specs.Reach.{Seen, Reaches, Has, all_of}
use Rattle.event_update.specs.Stands.{IsState, Stands, member_rows}
use Rattle.query_standing.specs.Kept.{Rows}
use Rattle.query_standing.proofs.Growing.{get_front}

pub some_at : {X : Type 0} (xs : List X) (i : ℕ) → i < length xs → (x : X) × (slice_get xs i ≡ Some x)
some_at [] i l = absurd (omega arith)
some_at (x ∷ xs) zero l = (x, refl)
some_at (x ∷ xs) (suc i) l = some_at xs i (omega arith)

-- older states keep their numbers
pub standing_more : (states more : List StateSets) (n : ℕ) → n ≤ length states → standing_at (states ++ more) n ≡ standing_at states n
standing_more states more zero le = refl
standing_more states more (suc n) le =
    let s = some_at states n (omega arith) in
    ap standing (get_front states more n s.0 s.1 ∙ sym s.1)

trees_same : (old more : List Node) (entries : List Root) → All (IsRoot old) entries → trees (old ++ more) entries ≡ trees old entries
trees_same old more [] h = refl
trees_same old more (e ∷ es) h =
    let r = All-head (IsRoot old) e es h in
    ap (λ t. t ∷ trees (old ++ more) es) (tree-append old more e.id r.inside) ∙ ap (λ ts. tree old e.id ∷ ts) (trees_same old more es (All-tail (IsRoot old) e es h))

length_front : {X : Type 0} (old more : List X) → length old ≤ length (old ++ more)
length_front [] more = omega arith
length_front (x ∷ old) more = let l = length_front old more in omega arith

root_more : (old more : List Node) (r : Root) → IsRoot old r → IsRoot (old ++ more) r
root_more old more r h =
    let same = tree-append old more r.id h.inside in
    let l = length_front old more in
    let i = h.inside in
    record { inside = omega arith; is_max = h.is_max ∙ ap newest (sym same); is_need = h.is_need ∙ ap need (sym same) }

pub list_more : (old more : List Node) (entries : List Root) → IsUnionList old entries → IsUnionList (old ++ more) entries
list_more old more entries h = record {
  roots = All-weaker (IsRoot old) (IsRoot (old ++ more)) (root_more old more) entries h.roots;
  list = subst IsList (sym (trees_same old more entries h.roots)) h.list;
}

rows_same : (old more : List Node) (rows : Rows) → All (λ (r : ℕ × List Root). IsUnionList old r.1) rows → member_rows (old ++ more) rows ≡ member_rows old rows
rows_same old more [] h = refl
rows_same old more (r ∷ rows) h =
    let l = All-head (λ (r : ℕ × List Root). IsUnionList old r.1) r rows h in
    let one : members_of (old ++ more) r.1 ≡ members_of old r.1 = ap (flat_map members) (trees_same old more r.1 l.roots) in
    ap (λ ms. (r.0, ms) ∷ member_rows (old ++ more) rows) one ∙ ap (λ rs. (r.0, members_of old r.1) ∷ rs) (rows_same old more rows (All-tail (λ (r : ℕ × List Root). IsUnionList old r.1) r rows h))

-- a number that has a member is one of the rows'
pub number_known : (bound : ℕ) (nodes : List Node) (rows : Rows) (n : ℕ) (m : Member) → All (λ (r : ℕ × List Root). r.0 ≤ bound) rows → Has (member_rows nodes rows) n m → n ≤ bound
number_known bound nodes [] n m known h = absurd h
number_known bound nodes (r ∷ rows) n m known (inl h) = subst (λ k. k ≤ bound) h.0 (All-head (λ (r : ℕ × List Root). r.0 ≤ bound) r rows known)
number_known bound nodes (r ∷ rows) n m known (inr h) = number_known bound nodes rows n m (All-tail (λ (r : ℕ × List Root). r.0 ≤ bound) r rows known) h

pub stands_grown : (cea : Cea) (states more_states : List StateSets) (event_classes later_event_classes : List (List Bool)) (transitions later_transitions : List (TransitionKey × Successors)) (low : ℤ) (xs : List Seen) (nodes more_nodes : List Node) (rows : Rows) → Stands (record { cea = cea; states = states; event_classes = event_classes; transitions = transitions }) low xs nodes rows → Stands (record { cea = cea; states = states ++ more_states; event_classes = later_event_classes; transitions = later_transitions }) low xs (nodes ++ more_nodes) rows
stands_grown cea states more_states event_classes later_event_classes transitions later_transitions low xs nodes more_nodes rows s = record {
  sound = λ n m h. (let old = subst (λ rs. Has rs n m) same h in subst (λ t. Reaches (automaton_of_cea cea) cea.strict xs t m) (sym (standing_more states more_states n (number_known (length states) nodes rows n m known old))) (s.sound n m old));
  complete = λ t m r keeps. (let c = s.complete t m r keeps in (c.0, standing_more states more_states c.0 (number_known (length states) nodes rows c.0 m known c.2) ∙ c.1, subst (λ rs. Has rs c.0 m) (sym same) c.2));
  distinct = subst (λ rs. HasNoRepeats (all_of rs)) (sym same) s.distinct;
  lists = All-weaker (λ (r : ℕ × List Root). IsUnionList nodes r.1) (λ (r : ℕ × List Root). IsUnionList (nodes ++ more_nodes) r.1) (λ r. list_more nodes more_nodes r.1) rows s.lists;
  states = All-weaker (λ (r : ℕ × List Root). IsState (record { cea = cea; states = states; event_classes = event_classes; transitions = transitions }) r.0) (λ (r : ℕ × List Root). IsState (record { cea = cea; states = states ++ more_states; event_classes = later_event_classes; transitions = later_transitions }) r.0) (λ r h. (h.0, (let le = h.1 in let more = longer in omega arith))) rows s.states;
  ordered = s.ordered;
  narrow = record { values = s.narrow.values; few = λ m. (let f = s.narrow.few m in let more = longer in omega arith); fits = s.narrow.fits };
} where
  longer : length states ≤ length (states ++ more_states)
  longer = length_front states more_states

  same : member_rows (nodes ++ more_nodes) rows ≡ member_rows nodes rows
  same = rows_same nodes more_nodes rows s.lists

  known : All (λ (r : ℕ × List Root). r.0 ≤ length states) rows
  known = All-weaker (λ (r : ℕ × List Root). IsState (record { cea = cea; states = states; event_classes = event_classes; transitions = transitions }) r.0) (λ (r : ℕ × List Root). r.0 ≤ length states) (λ r h. h.1) rows s.states
