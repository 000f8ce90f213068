use Rattle.std.proofs.Common.{◌≡◌, [], true, false, None, refl}
use Rattle.stream_answers.specs.Windows.{is_due_after}
use Rattle.stream_answers.proofs.Windows.{never_due, compaction_follows, windows_stay, windows_looked, on_ok}
use Rattle.stream_answers.proofs.schedule.Schedule.keep_up.Goals as goal

pub returns-then-is_due_after-clause-windows : goal.returns-then-is_due_after-clause-windows
returns-then-is_due_after-clause-windows g c = rw (← c.self.view_is) (
    let due : is_due_after c.self.inside.every c.self.inside.first c.events.result ≡ true = (let e = c.is_due_after.ensures in let f = c.if-is_due_after.true in cc) in
    let did = c.compact.ensures in
    compaction_follows c.compact.result (is_due_after c.self.inside.every c.self.inside.first) c.args.engine.now c.compact.new.engine [] c.events.result c.events.ensures.length due refl did.same did.found did.peak did.stands did.dense did.window did.keys)

pub returns-else-is_due_after-clause-windows : goal.returns-else-is_due_after-clause-windows
returns-else-is_due_after-clause-windows g c = rw (← c.self.view_is) (
    let none : is_due_after c.self.inside.every c.self.inside.first c.events.result ≡ false = (let e = c.is_due_after.ensures in let f = c.if-is_due_after.false in cc) in
    windows_stay (is_due_after c.self.inside.every c.self.inside.first) c.args.engine.now c.events.result c.events.ensures.length none)

pub returns-then-events-self-clause-windows : goal.returns-then-events-self-clause-windows
returns-then-events-self-clause-windows g c = rw (← c.self.view_is, c.in-None.is) (
    windows_stay (is_due_after None c.self.inside.first) c.args.engine.now c.events-in-None.result c.events-in-None.ensures.length (never_due c.self.inside.first c.events-in-None.result))

pub returns-else-events-self-clause-windows : goal.returns-else-events-self-clause-windows
returns-else-events-self-clause-windows g c = rw (← c.self.view_is, c.in-None.is) (
    on_ok c.look.result _ _ (λ kept. windows_looked c.self.inside.first c.args.engine.now c.look.new.engine kept) c.look.ensures.windows)
