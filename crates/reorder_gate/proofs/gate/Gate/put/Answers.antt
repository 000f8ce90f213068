use Rattle.std.proofs.Common.{rules, ◌≡◌, refl, sym, ap, ◌∙◌}
use Rattle.std.specs.Int.{w64}
use mir.Val.{SFits}
use Rattle.std.proofs.lemmas.Int.{to_z-of_z}
use Rattle.reorder_gate.specs.AttributeClock.{clock_in}
use Rattle.reorder_gate.specs.Gates.{clock_at}
use Rattle.reorder_gate.proofs.Entries.{kept_with}
use Rattle.reorder_gate.proofs.Views.{put_seen, put_keeps}
use Rattle.reorder_gate.proofs.gate.Gate.put.Goals as goal

pub invariant_of-self-2 : goal.invariant_of-self-2
invariant_of-self-2 c =
    let fits : SFits w64 c.clock_in-now.result = search rules in
    let inserted = simp to_z-of_z at c.in_ok-insert.ensures.entries in
    let told : c.clock_in-now.result ≡ clock_at c.self.inside.places.items (c.args.line, c.args.event) = c.clock_in-now.ensures ∙ ap (λ ps. clock_in ps c.args.event) c.as_slice.ensures.value in
    kept_with c.self.inside.places.items c.self.inside.arrivals c.in-Some-checked_add.arrivals c.self.inside.waiting.entries c.insert.new.self.entries (record { clock = c.clock_in-now.result; arrival = c.self.inside.arrivals }) (c.args.line, c.args.event) c.self.invariant told refl c.in-Some-checked_add.ensures.1 inserted

pub returns-clause-put : goal.returns-clause-put
returns-clause-put c =
    let fits : SFits w64 c.clock_in-now.result = search rules in
    let wide : SFits w64 c.raised.result = search rules in
    let inserted = simp to_z-of_z at c.in_ok-insert.ensures.entries in
    let raise = simp to_z-of_z at c.raised.ensures in
    let told : c.clock_in-now.result ≡ clock_at c.self.inside.places.items (c.args.line, c.args.event) = c.clock_in-now.ensures ∙ ap (λ ps. clock_in ps c.args.event) c.as_slice.ensures.value in
    simp to_z-of_z (put_seen c.self.inside.places.items c.self.inside.late c.self.inside.high c.self.inside.is_finished c.self.inside.arrivals c.self.inside.waiting.entries c.insert.new.self.entries (record { clock = c.clock_in-now.result; arrival = c.self.inside.arrivals }) (c.args.line, c.args.event) c.raised.result c.args.self.now c.self.view_is c.self.invariant told refl inserted raise)

pub returns-clause-history : goal.returns-clause-history
returns-clause-history c = λ put gone stands.
    let fits : SFits w64 c.clock_in-now.result = search rules in
    let in_time = simp to_z-of_z at c.in_default.ensures in
    let told : c.clock_in-now.result ≡ clock_at c.self.inside.places.items (c.args.line, c.args.event) = c.clock_in-now.ensures ∙ ap (λ ps. clock_in ps c.args.event) c.as_slice.ensures.value in
    put_keeps c.args.self.now _ c.self.inside.late c.self.inside.high c.clock_in-now.result (c.args.line, c.args.event) (returns-clause-put c) c.requires (ap (λ g. g.late) (sym c.self.view_is)) (ap (λ g. g.high) (sym c.self.view_is)) (ap (λ g. clock_at g.places (c.args.line, c.args.event)) (sym c.self.view_is) ∙ sym told) in_time put gone stands
