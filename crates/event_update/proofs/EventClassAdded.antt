-- A table that knows one class more is as it was in all else.
use Rattle.std.proofs.Common.{ℕ, Bool, List, [], ◌++◌, refl, sym, subst, ◌∙◌, append_assoc}
use Rattle.std.specs.Prelude.{ℤ}
use Rattle.std.proofs.lemmas.List.{append-nil}
use Rattle.std.proofs.lemmas.List.Elements.{All-nil}
use Rattle.cer_base.specs.declared.node.Stamp.{Stamp}
use Rattle.cer_base.specs.declared.node.Root.{Root}
use Rattle.cer_base.specs.declared.node.Node.{Node}
use Rattle.cea_determinise.specs.LazyDfa.{Table, AddsEventClass}
use Rattle.event_update.specs.Reach.{Seen}
use Rattle.event_update.specs.Stands.{Stands, CanAdvance}
use Rattle.event_update.specs.Update.{Discovers}

-- the table with more classes
abbrev pub wider : Table → List (List Bool) → Table
wider t more = record t { event_classes = t.event_classes ++ more }

stands_wider : (t : Table) (more : List (List Bool)) (low : ℤ) (xs : List Seen) (nodes : List Node) (rows : List (ℕ × List Root)) → Stands t low xs nodes rows → Stands (wider t more) low xs nodes rows
stands_wider t more low xs nodes rows s = record { sound = s.sound; complete = s.complete; distinct = s.distinct; lists = s.lists; states = s.states; ordered = s.ordered; narrow = s.narrow }

can_wider : (t : Table) (more : List (List Bool)) (stamp : Stamp) (nodes : List Node) (rows : List (ℕ × List Root)) → CanAdvance t stamp nodes rows → CanAdvance (wider t more) stamp nodes rows
can_wider t more stamp nodes rows s = record { before = s.before; distinct = s.distinct; lists = s.lists; states = s.states; ordered = s.ordered; narrow = s.narrow }

discovers_wider : (t : Table) (more : List (List Bool)) (ns : List ℕ) (bits : List Bool) (u : Table) → Discovers (wider t more) ns bits u → Discovers t ns bits u
discovers_wider t more ns bits u d = record {
  cea = d.cea;
  more = d.more;
  states = d.states;
  reached = d.reached;
  more_event_classes = more ++ d.more_event_classes;
  event_classes = d.event_classes ∙ append_assoc t.event_classes more d.more_event_classes;
  more_transitions = d.more_transitions;
  transitions = d.transitions;
}

module _ (leaves : List Bool) (old one : Table) (a : AddsEventClass leaves old one) where
  pub stands_added : (low : ℤ) (xs : List Seen) (nodes : List Node) (rows : List (ℕ × List Root)) → Stands old low xs nodes rows → Stands one low xs nodes rows
  stands_added low xs nodes rows s = subst (λ (t : Table). Stands t low xs nodes rows) (sym a.grown) (stands_wider old a.more low xs nodes rows s)

  pub can_added : (stamp : Stamp) (nodes : List Node) (rows : List (ℕ × List Root)) → CanAdvance old stamp nodes rows → CanAdvance one stamp nodes rows
  can_added stamp nodes rows s = subst (λ (t : Table). CanAdvance t stamp nodes rows) (sym a.grown) (can_wider old a.more stamp nodes rows s)

  pub discovers_added : (ns : List ℕ) (bits : List Bool) (u : Table) → Discovers one ns bits u → Discovers old ns bits u
  discovers_added ns bits u d = discovers_wider old a.more ns bits u (subst (λ (t : Table). Discovers t ns bits u) a.grown d)

  none_wider : (ns : List ℕ) (bits : List Bool) → Discovers old ns bits (wider old a.more)
  none_wider ns bits = record {
    cea = refl;
    more = [];
    states = sym (append-nil old.states);
    reached = All-nil _;
    more_event_classes = a.more;
    event_classes = refl;
    more_transitions = [];
    transitions = sym (append-nil old.transitions);
  }

  pub discovers_event_class : (ns : List ℕ) (bits : List Bool) → Discovers old ns bits one
  discovers_event_class ns bits = subst (λ (t : Table). Discovers old ns bits t) (sym a.grown) (none_wider ns bits)
