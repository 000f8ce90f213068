use Rattle.std.proofs.Common.{◌≡◌, subst, sym, take, All, length, ◌≤◌, arith}
use Rattle.std.proofs.lemmas.List.{length-take}
use Rattle.cea_determinise.specs.LazyDfa.{Table, IsSound, StaysWithin}
use Rattle.cea_determinise.proofs.Growth.{sound_cut}
use Rattle.cea_determinise.proofs.Listed.{no_rows}
use Rattle.cea_determinise.proofs.Accepting.{tells_cut}
use Rattle.cea_determinise.proofs.lazy_dfa.LazyDfa.back.Goals as goal

pub invariant_of-self : goal.invariant_of-self
invariant_of-self c =
    let m = c.args.sizes in
    let t : Table = record { cea = c.self.inside.cea; states = c.self.inside.states.keys; event_classes = c.self.inside.event_classes.keys; transitions = c.self.inside.transitions.entries } in
    let few = subst (λ (o : Table). m.states ≤ length o.states) (sym c.self.view_is) c.requires.states in
    let pairs = subst (λ (o : Table). m.pairs ≤ length o.transitions) (sym c.self.view_is) c.requires.pairs in
    let cached = subst (λ (o : Table). m.event_classes ≤ length o.event_classes) (sym c.self.view_is) c.requires.event_classes in
    let within = subst (λ (o : Table). All (StaysWithin m.states m.event_classes) (take m.pairs o.transitions)) (sym c.self.view_is) c.requires.within in
    let states = sym c.truncate.ensures.keys in
    let event_classes = sym c.truncate-3.ensures.keys in
    let transitions = sym c.truncate-2.ensures.entries in
    let cut : Table = record { cea = t.cea; states = take m.states t.states; event_classes = take m.event_classes t.event_classes; transitions = take m.pairs t.transitions } in
    let after : Table = record { cea = t.cea; states = c.truncate.new.self.keys; event_classes = c.truncate-3.new.self.keys; transitions = c.truncate-2.new.self.entries } in
    let same : cut ≡ after = λ i. record { cea = t.cea; states = states i; event_classes = event_classes i; transitions = transitions i } in
    let told = tells_cut t.cea t.states c.self.inside.accepting.items m.states c.self.invariant.2 in (
      subst IsSound same (sound_cut t m.states m.pairs m.event_classes few cached within c.self.invariant.0),
      no_rows _ _ c.clear.ensures,
      rw (c.truncate.ensures.keys, c.truncate-4.ensures.items) told,
      rw (c.truncate.ensures.keys, c.truncate-2.ensures.entries, c.truncate-3.ensures.keys) (record {
        states = omega (arith, few, length-take m.states t.states);
        pairs = omega (arith, pairs, length-take m.pairs t.transitions);
        event_classes = omega (arith, cached, length-take m.event_classes t.event_classes);
      }),
    )
