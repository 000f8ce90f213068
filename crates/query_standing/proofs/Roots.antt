-- A cursor on the entries of accepting states' lists gives the answers.
use Rattle.std.proofs.Common.{◌≡◌, ℕ, ℤ, Bool, true, false, List, [], ◌∷◌, ◌++◌, map, refl, sym, ap, subst, ◌∙◌}
use Rattle.std.specs.Prelude.{int_le, cond, if◌then◌else◌}
use Rattle.std.specs.List.{flat_map}
use Rattle.std.proofs.lemmas.Grind.{flat_map-append}
use Rattle.std.proofs.lemmas.List.Elements.{filter-append}
use Rattle.cer_base.specs.declared.node.Root.{Root}
use Rattle.cer_base.specs.declared.node.Node.{Node}
use Rattle.cer_base.specs.Members.{Member, members, recent}
use Rattle.cer_base.specs.Nodes.{tree}
use Rattle.stream_schema.specs.Types.{Declared}
use Rattle.stream_schema.specs.declared.Event.{Event}
use Rattle.stream_schema.specs.declared.Value.{Value}
use Rattle.cel_terms.specs.declared.Query.{Query}
use Rattle.query_leaves.specs.Expand.{tree_of}
use Rattle.cea_determinise.specs.Runs.{Automaton, accepts}
use Rattle.cea_determinise.specs.Strict.{Standing}
use Rattle.cea_determinise.specs.Cea as stored
use Rattle.cea_determinise.specs.LazyDfa.{Table, standing_at}
use Rattle.cea_compile.specs.Compiled.{automaton_of}
use Rattle.cel_terms.specs.Answers.{AreAnswersAt}
use Rattle.tecs_enumerate.specs.Remaining.{recent_of}
use Rattle.union_lists.specs.Lists.{members_of}
use Rattle.event_update.specs.Reach.{Seen, all_of}
use Rattle.event_update.specs.Stands.{Stands, member_rows}
use Rattle.event_update.specs.Update.{accepted_entries}
use Rattle.query_standing.specs.Clocks.{low_of}
use Rattle.query_standing.specs.Holding.{Holds, accepting, answer_of}
use Rattle.query_standing.specs.Kept.{Rows, roots_of}
use Rattle.query_standing.specs.Keys.{IsGiven}
use Rattle.query_standing.proofs.Link.{are_answers}

-- the entries of the accepting states, gathered in either way
pub entries_same : (t : Table) (rows : Rows) → accepted_entries t rows ≡ roots_of (stored.automaton_of_cea t.cea) (standing_at t.states) rows
entries_same t [] = refl
entries_same t (r ∷ rows) = go (accepts (stored.automaton_of_cea t.cea) (standing_at t.states r.0).sets) (entries_same t rows)
  where
    others : Rows
    others = accepting (stored.automaton_of_cea t.cea) (standing_at t.states) rows

    go : (b : Bool) → accepted_entries t rows ≡ flat_map (λ (r : ℕ × List Root). r.1) others → (if b then r.1 else []) ++ accepted_entries t rows ≡ flat_map (λ (r : ℕ × List Root). r.1) (cond b (r ∷ others) others)
    go true same = ap (λ z. r.1 ++ z) same
    go false same = same

abbrev recent_at : ℤ → List Node → Root → List Member
recent_at low nodes r = recent low (members (tree nodes r.id))

-- the recent members of a list are those of its entries
list_recent : (low : ℤ) (nodes : List Node) (entries : List Root) → recent low (members_of nodes entries) ≡ recent_of low nodes entries
list_recent low nodes [] = refl
list_recent low nodes (e ∷ es) =
    filter-append (λ (m : Member). int_le low m.start.clock) (members (tree nodes e.id)) (members_of nodes es)
    ∙ ap (λ ms. recent_at low nodes e ++ ms) (list_recent low nodes es)

rows_recent : (low : ℤ) (nodes : List Node) (a : Automaton) (standing : ℕ → Standing) (rows : Rows) → recent low (all_of (accepting a standing (member_rows nodes rows))) ≡ recent_of low nodes (roots_of a standing rows)
rows_recent low nodes a standing [] = refl
rows_recent low nodes a standing (r ∷ rows) = go (accepts a (standing r.0).sets) refl (rows_recent low nodes a standing rows)
  where
    go : (b : Bool) → accepts a (standing r.0).sets ≡ b → recent low (all_of (accepting a standing (member_rows nodes rows))) ≡ recent_of low nodes (roots_of a standing rows) → recent low (all_of (accepting a standing (member_rows nodes (r ∷ rows)))) ≡ recent_of low nodes (roots_of a standing (r ∷ rows))
    go true e same =
        rw e (
        filter-append (λ (m : Member). int_le low m.start.clock) (members_of nodes r.1) (all_of (accepting a standing (member_rows nodes rows)))
        ∙ (ap (λ ms. ms ++ recent low (all_of (accepting a standing (member_rows nodes rows)))) (list_recent low nodes r.1)
        ∙ (ap (λ ms. recent_of low nodes r.1 ++ ms) same
        ∙ sym (flat_map-append (recent_at low nodes) r.1 (roots_of a standing rows)))))
    go false e same = rw e same

-- what the update says of a key's lists, over members
pub holds_of : (a : Automaton) (strict : Bool) (table : Table) (low : ℤ) (xs : List Seen) (nodes : List Node) (rows : Rows) → stored.automaton_of_cea table.cea ≡ a → table.cea.strict ≡ strict → Stands table low xs nodes rows → Holds a strict (standing_at table.states) low xs (member_rows nodes rows)
holds_of a strict table low xs nodes rows automaton is_strict s =
    subst (λ b. Holds b strict (standing_at table.states) low xs (member_rows nodes rows)) automaton
    (subst (λ b. Holds (stored.automaton_of_cea table.cea) b (standing_at table.states) low xs (member_rows nodes rows)) is_strict
    (record { sound = s.sound; complete = s.complete; distinct = s.distinct }))

-- The recent members of the entries of accepting states' lists are the answers at the key's last event, each once.
pub roots_give_answers : (schema : Declared) (q : Query) (events : List Event) (end : ℕ) (key : List Value) (now : ℤ) (xs : List Seen) → IsGiven schema q events end key now xs → (table : Table) (low : ℤ) (nodes : List Node) (rows : Rows) → low ≡ low_of q.window now → stored.automaton_of_cea table.cea ≡ automaton_of (tree_of q) → table.cea.strict ≡ q.strict → Stands table low xs nodes rows → AreAnswersAt schema q events end (map answer_of (recent_of low nodes (roots_of (automaton_of (tree_of q)) (standing_at table.states) rows)))
roots_give_answers schema q events end key now xs given table low nodes rows low_is automaton is_strict s =
    subst (λ ms. AreAnswersAt schema q events end (map answer_of ms)) (rows_recent low nodes (automaton_of (tree_of q)) (standing_at table.states) rows)
    (are_answers schema q events end key now xs given (standing_at table.states) low low_is (member_rows nodes rows) (holds_of (automaton_of (tree_of q)) q.strict table low xs nodes rows automaton is_strict s))
