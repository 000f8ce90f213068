use Rattle.std.proofs.Common.{◌≡◌, refl, sym, ◌∙◌, ap, subst, ◌++◌, ◌∷◌, [], List, Bool, true, false, length}
use Rattle.std.specs.List.{list_any}
use Rattle.std.proofs.lemmas.List.Elements.{All-nil, All-cons}
use Rattle.indexmap.specs.IndexSet.{insert_key}
use Rattle.cer_base.specs.Bits.{room_for}
use Rattle.cea_determinise.specs.Keys.{is_same_set}
use Rattle.cea_determinise.specs.LazyDfa.{Table, IsSound}
use Rattle.cea_determinise.proofs.Growth.{sound_event_class}
use Rattle.cea_determinise.proofs.EventClasses.{event_class_absent, event_class_last, event_class_stored}
use Rattle.cea_determinise.proofs.lazy_dfa.LazyDfa.event_class.Goals as goal

pub returns-in_err-copy-clause-cached : goal.returns-in_err-copy-clause-cached
returns-in_err-copy-clause-cached g c h = absurd (event_class_absent c.args.bits.now c.args.self.now.event_classes c.in_default.ensures.absent h)

pub returns-in_err-event_class-clause-cached : goal.returns-in_err-event_class-clause-cached
returns-in_err-event_class-clause-cached g c h = absurd (event_class_absent c.args.bits.now c.args.self.now.event_classes c.in_default.ensures.absent h)

pub returns-clause-cached : goal.returns-clause-cached
returns-clause-cached g c h = absurd (event_class_absent c.args.bits.now c.args.self.now.event_classes c.in_default.ensures.absent h)

pub invariant_of-self-2 : goal.invariant_of-self-2
invariant_of-self-2 g c =
    let t : Table = record { cea = c.self.inside.cea; states = c.self.inside.states.keys; event_classes = c.self.inside.event_classes.keys; transitions = c.self.inside.transitions.entries } in
    let b = c.args.bits.now in
    let absent = subst (λ (o : Table). list_any (is_same_set b) o.event_classes ≡ false) (sym c.self.view_is) c.in_default.ensures.absent in
    let last : c.insert_full.new.self.keys ≡ t.event_classes ++ b ∷ [] = c.in_ok-event_class.ensures.keys ∙ ap (insert_key is_same_set t.event_classes) c.in_ok-copy.ensures ∙ event_class_last b t.event_classes absent in
    let room : length b ≡ room_for t.cea.size = subst (λ (o : Table). length b ≡ room_for o.cea.size) (sym c.self.view_is) c.requires in
    let R : List Bool → Type 0 = λ k. length k ≡ room_for t.cea.size in
    (subst (λ (cs : List (List Bool)). IsSound (record t { event_classes = cs })) (sym last) (sound_event_class t (b ∷ []) (All-cons R b [] room (All-nil R)) c.self.invariant.0), c.self.invariant.1, c.self.invariant.2, record { states = c.self.invariant.3.states; pairs = c.self.invariant.3.pairs; event_classes = c.len.ensures.len })

pub returns-clause-event_class : goal.returns-clause-event_class
returns-clause-event_class g c =
    let s = c.in_ok-event_class.ensures.stored in
    event_class_stored c.args.bits.now s.0 c.insert_full.new.self.keys c.in_ok-event_class.event_class s.1 (subst (λ k. is_same_set k s.0 ≡ true) c.in_ok-copy.ensures s.2)

pub returns-clause-added : goal.returns-clause-added
returns-clause-added g c =
    let t : Table = record { cea = c.self.inside.cea; states = c.self.inside.states.keys; event_classes = c.self.inside.event_classes.keys; transitions = c.self.inside.transitions.entries } in
    let b = c.args.bits.now in
    let absent = subst (λ (o : Table). list_any (is_same_set b) o.event_classes ≡ false) (sym c.self.view_is) c.in_default.ensures.absent in
    let last : c.insert_full.new.self.keys ≡ t.event_classes ++ b ∷ [] = c.in_ok-event_class.ensures.keys ∙ ap (insert_key is_same_set t.event_classes) c.in_ok-copy.ensures ∙ event_class_last b t.event_classes absent in
    record {
      more = b ∷ [];
      only = All-cons (λ (k : List Bool). k ≡ b) b [] refl (All-nil (λ (k : List Bool). k ≡ b));
      grown = ap (λ (cs : List (List Bool)). record t { event_classes = cs }) last ∙ ap (λ (o : Table). record o { event_classes = o.event_classes ++ b ∷ [] }) c.self.view_is;
    }
