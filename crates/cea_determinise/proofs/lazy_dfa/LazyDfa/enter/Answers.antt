use Rattle.std.proofs.Common.{ap, sym, ◌∙◌, ◌≡◌, ◌<◌, ◌≤◌, subst, length, None, true}
use Rattle.std.specs.Map.{lookup}
use Rattle.indexmap.proofs.CallerLemmas.{insert_entry-new}
use Rattle.cea_determinise.specs.Keys.{is_same_key}
use Rattle.cea_determinise.specs.LazyDfa.{Table, event_class_at, AreBoth, Reached}
use Rattle.cea_determinise.proofs.Growth.{sound_one, sound_two, sound_pair, reached_two, successors_two}
use Rattle.cea_determinise.proofs.Listed.{rows_stay}
use Rattle.cea_determinise.proofs.Accepting.{tells_later}
use Rattle.cea_determinise.proofs.lazy_dfa.LazyDfa.enter.Goals as goal

pub invariant_of-self : goal.invariant_of-self
invariant_of-self g c =
    let t : Table = record { cea = c.self.inside.cea; states = c.self.inside.states.keys; event_classes = c.self.inside.event_classes.keys; transitions = c.self.inside.transitions.entries } in
    let s = c.args.key.state in
    let b = event_class_at c.args.self.now.event_classes c.args.key.event_class in
    let are = subst (λ (o : Table). AreBoth o s b c.args.both) (sym c.self.view_is) c.requires.both in (
      sound_one t s b true c.args.both.marked c.number.new.states.keys are.marked c.number.ensures.added c.self.invariant.0,
      c.self.invariant.1,
      tells_later t.cea t.states c.number.new.states.keys c.self.inside.accepting.items c.args.both.marked c.number.ensures.added c.self.invariant.2,
      record { states = c.number.ensures.counted; pairs = c.self.invariant.3.pairs; event_classes = c.self.invariant.3.event_classes },
    )

pub invariant_of-self-in_err-unmarked : goal.invariant_of-self-in_err-unmarked
invariant_of-self-in_err-unmarked g c =
    let t : Table = record { cea = c.self.inside.cea; states = c.self.inside.states.keys; event_classes = c.self.inside.event_classes.keys; transitions = c.self.inside.transitions.entries } in
    let s = c.args.key.state in
    let b = event_class_at c.args.self.now.event_classes c.args.key.event_class in
    let are = subst (λ (o : Table). AreBoth o s b c.args.both) (sym c.self.view_is) c.requires.both in (
      sound_two t s b c.args.both c.number.new.states.keys c.number-2.new.states.keys are c.number.ensures.added c.number-2.ensures.added c.self.invariant.0,
      c.self.invariant.1,
      tells_later t.cea c.number.new.states.keys c.number-2.new.states.keys c.self.inside.accepting.items c.args.both.unmarked c.number-2.ensures.added
          (tells_later t.cea t.states c.number.new.states.keys c.self.inside.accepting.items c.args.both.marked c.number.ensures.added c.self.invariant.2),
      record { states = c.number-2.ensures.counted; pairs = c.self.invariant.3.pairs; event_classes = c.self.invariant.3.event_classes },
    )

pub returns-in_err-unmarked-clause-states : goal.returns-in_err-unmarked-clause-states
returns-in_err-unmarked-clause-states g c =
    let t : Table = record { cea = c.self.inside.cea; states = c.self.inside.states.keys; event_classes = c.self.inside.event_classes.keys; transitions = c.self.inside.transitions.entries } in
    let s = c.args.key.state in
    let b = event_class_at c.args.self.now.event_classes c.args.key.event_class in
    let are = subst (λ (o : Table). AreBoth o s b c.args.both) (sym c.self.view_is) c.requires.both in
    subst (λ (o : Table). Reached o s b (record { cea = t.cea; event_classes = t.event_classes; states = c.number-2.new.states.keys; transitions = t.transitions })) c.self.view_is
    (reached_two t s b c.args.both c.number.new.states.keys c.number-2.new.states.keys t.transitions are c.number.ensures.added c.number-2.ensures.added)

pub tell_accepting-told-requires-clause-states : goal.tell_accepting-told-requires-clause-states
tell_accepting-told-requires-clause-states g c =
    let t : Table = record { cea = c.self.inside.cea; states = c.self.inside.states.keys; event_classes = c.self.inside.event_classes.keys; transitions = c.self.inside.transitions.entries } in
    let s = c.args.key.state in
    let b = event_class_at c.args.self.now.event_classes c.args.key.event_class in
    let are = subst (λ (o : Table). AreBoth o s b c.args.both) (sym c.self.view_is) c.requires.both in
    record { well_formed = c.self.invariant.0.well_formed; sets = (sound_two t s b c.args.both c.number.new.states.keys c.number-2.new.states.keys are c.number.ensures.added c.number-2.ensures.added c.self.invariant.0).states }

pub tell_accepting-told-requires-clause-told : goal.tell_accepting-told-requires-clause-told
tell_accepting-told-requires-clause-told g c =
    let t : Table = record { cea = c.self.inside.cea; states = c.self.inside.states.keys; event_classes = c.self.inside.event_classes.keys; transitions = c.self.inside.transitions.entries } in
    tells_later t.cea c.number.new.states.keys c.number-2.new.states.keys c.self.inside.accepting.items c.args.both.unmarked c.number-2.ensures.added
    (tells_later t.cea t.states c.number.new.states.keys c.self.inside.accepting.items c.args.both.marked c.number.ensures.added c.self.invariant.2)

pub invariant_of-self-in_err-insert : goal.invariant_of-self-in_err-insert
invariant_of-self-in_err-insert g c =
    let t : Table = record { cea = c.self.inside.cea; states = c.self.inside.states.keys; event_classes = c.self.inside.event_classes.keys; transitions = c.self.inside.transitions.entries } in
    let s = c.args.key.state in
    let b = event_class_at c.args.self.now.event_classes c.args.key.event_class in
    let are = subst (λ (o : Table). AreBoth o s b c.args.both) (sym c.self.view_is) c.requires.both in (
      rw c.in_err-insert.ensures.err (sound_two t s b c.args.both c.number.new.states.keys c.number-2.new.states.keys are c.number.ensures.added c.number-2.ensures.added c.self.invariant.0),
      rw c.in_err-insert.ensures.err c.self.invariant.1,
      c.tell_accepting-told.ensures,
      record { states = c.number-2.ensures.counted; pairs = rw c.in_err-insert.ensures.err c.self.invariant.3.pairs; event_classes = c.self.invariant.3.event_classes },
    )

pub returns-in_err-insert-clause-states : goal.returns-in_err-insert-clause-states
returns-in_err-insert-clause-states g c =
    let t : Table = record { cea = c.self.inside.cea; states = c.self.inside.states.keys; event_classes = c.self.inside.event_classes.keys; transitions = c.self.inside.transitions.entries } in
    let s = c.args.key.state in
    let b = event_class_at c.args.self.now.event_classes c.args.key.event_class in
    let are = subst (λ (o : Table). AreBoth o s b c.args.both) (sym c.self.view_is) c.requires.both in
    subst (λ (o : Table). Reached o s b (record { cea = t.cea; event_classes = t.event_classes; states = c.number-2.new.states.keys; transitions = c.insert.new.self.entries })) c.self.view_is
    (reached_two t s b c.args.both c.number.new.states.keys c.number-2.new.states.keys c.insert.new.self.entries are c.number.ensures.added c.number-2.ensures.added)

pub invariant_of-self-2 : goal.invariant_of-self-2
invariant_of-self-2 g c =
    let t : Table = record { cea = c.self.inside.cea; states = c.self.inside.states.keys; event_classes = c.self.inside.event_classes.keys; transitions = c.self.inside.transitions.entries } in
    let s = c.args.key.state in
    let b = event_class_at c.args.self.now.event_classes c.args.key.event_class in
    let are = subst (λ (o : Table). AreBoth o s b c.args.both) (sym c.self.view_is) c.requires.both in
    let state = subst (λ (o : Table). s ≤ length o.states) (sym c.self.view_is) c.requires.state in
    let new = subst (λ (o : Table). lookup (is_same_key c.args.key) o.transitions ≡ None) (sym c.self.view_is) c.requires.new in
    let is_event_class : b ≡ event_class_at t.event_classes c.args.key.event_class = ap (λ (o : Table). event_class_at o.event_classes c.args.key.event_class) (sym c.self.view_is) in
    let cached = subst (λ (o : Table). c.args.key.event_class < length o.event_classes) (sym c.self.view_is) c.requires.event_class in
    let right = successors_two t s b c.args.key.event_class is_event_class cached c.args.both c.number.new.states.keys c.number-2.new.states.keys c.in_ok-marked.marked c.in_ok-unmarked.unmarked are c.number.ensures.added c.number-2.ensures.added c.in_ok-marked.ensures.numbered c.in_ok-unmarked.ensures.numbered state in
    let entered = c.in_ok-insert.ensures.entries ∙ insert_entry-new is_same_key c.self.inside.transitions c.args.key _ new in (
      sound_pair t.cea c.number-2.new.states.keys t.event_classes t.transitions c.args.key _ c.insert.new.self.entries entered right
          (sound_two t s b c.args.both c.number.new.states.keys c.number-2.new.states.keys are c.number.ensures.added c.number-2.ensures.added c.self.invariant.0),
      rows_stay _ _ _ _ entered c.self.invariant.1,
      c.tell_accepting-told.ensures,
      record { states = c.number-2.ensures.counted; pairs = c.len-2.ensures.len; event_classes = c.self.invariant.3.event_classes },
    )

pub returns-clause-successors : goal.returns-clause-successors
returns-clause-successors g c =
    let t : Table = record { cea = c.self.inside.cea; states = c.self.inside.states.keys; event_classes = c.self.inside.event_classes.keys; transitions = c.self.inside.transitions.entries } in
    let s = c.args.key.state in
    let b = event_class_at c.args.self.now.event_classes c.args.key.event_class in
    let are = subst (λ (o : Table). AreBoth o s b c.args.both) (sym c.self.view_is) c.requires.both in
    let state = subst (λ (o : Table). s ≤ length o.states) (sym c.self.view_is) c.requires.state in
    let is_event_class : b ≡ event_class_at t.event_classes c.args.key.event_class = ap (λ (o : Table). event_class_at o.event_classes c.args.key.event_class) (sym c.self.view_is) in
    let cached = subst (λ (o : Table). c.args.key.event_class < length o.event_classes) (sym c.self.view_is) c.requires.event_class in
    successors_two t s b c.args.key.event_class is_event_class cached c.args.both c.number.new.states.keys c.number-2.new.states.keys c.in_ok-marked.marked c.in_ok-unmarked.unmarked are c.number.ensures.added c.number-2.ensures.added c.in_ok-marked.ensures.numbered c.in_ok-unmarked.ensures.numbered state

pub returns-clause-states : goal.returns-clause-states
returns-clause-states g c =
    let t : Table = record { cea = c.self.inside.cea; states = c.self.inside.states.keys; event_classes = c.self.inside.event_classes.keys; transitions = c.self.inside.transitions.entries } in
    let s = c.args.key.state in
    let b = event_class_at c.args.self.now.event_classes c.args.key.event_class in
    let are = subst (λ (o : Table). AreBoth o s b c.args.both) (sym c.self.view_is) c.requires.both in
    subst (λ (o : Table). Reached o s b (record { cea = t.cea; event_classes = t.event_classes; states = c.number-2.new.states.keys; transitions = c.insert.new.self.entries })) c.self.view_is
    (reached_two t s b c.args.both c.number.new.states.keys c.number-2.new.states.keys c.insert.new.self.entries are c.number.ensures.added c.number-2.ensures.added)

pub returns-clause-entered : goal.returns-clause-entered
returns-clause-entered g c =
    let new = subst (λ (o : Table). lookup (is_same_key c.args.key) o.transitions ≡ None) (sym c.self.view_is) c.requires.new in
    rw (← c.self.view_is) (c.in_ok-insert.ensures.entries ∙ insert_entry-new is_same_key c.self.inside.transitions c.args.key _ new)
