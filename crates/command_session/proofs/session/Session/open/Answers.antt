-- A cursor comes, or why not.
use Rattle.std.proofs.Common.{◌≡◌, ◌+◌, ◌-◌, ◌==◌, ◌≤◌, ◌<◌, ◌∙◌, length, ap, subst, sym, position, None, ℕ, arith}
use Rattle.query_engine.specs.Bounds.{update_bound}
use Rattle.query_engine.specs.Engine.{count_of, found_of}
use Rattle.command_session.specs.declared.opened.CursorNumber.{CursorNumber}
use Rattle.command_session.specs.declared.command.ScriptCommand.TheVariants as command
use Rattle.command_session.specs.Sessions.{Session}
use Rattle.command_session.specs.CommandSteps.{CostsAtMost}
use Rattle.command_session.proofs.Stepping.{session, went_open, kept_open, kept_same, is_open, none_found, unchanged, same_lists}
use Rattle.command_session.proofs.Costs.{costs_open}
use Rattle.command_session.proofs.session.Session.open.Goals as goal
use Rattle.command_session.proofs.session.Session.open.Goals.{in-Ok-add, in-Err-add}

pub returns-then-is_some-clause-ended : goal.returns-then-is_some-clause-ended
returns-then-is_some-clause-ended g c = λ machine taken stands.
    let one : 1 ≤ c.args.query = omega (arith, c.if-query-eq0.false) in
    let most : c.args.query ≤ length c.self.inside.engine.queries = omega (arith, c.if-query-queries.false, c.queries.ensures) in
    let some : 0 < count_of c.self.inside.engine = omega (arith, c.if-events-eq0.false, c.events.ensures.count) in
    let found = c.place_among.ensures ∙ ap (position (λ (o : CursorNumber). o.number == c.args.number)) c.as_slice.ensures.value in
    is_open c.self.inside.engine c.self.inside.opened.items c.self.inside.cursors.items c.self.inside.closed c.self.inside.schedule.bases c.args.self.now machine c.args.query c.args.number c.place_among.result taken
    c.self.view_is c.self.invariant.0 one most some found (sym c.if-is_some.true ∙ c.is_some.ensures) stands

pub invariant_of-self : goal.invariant_of-self
invariant_of-self g c =
    let e = c.self.inside.engine in
    let os = c.self.inside.opened.items in
    let cs = c.self.inside.cursors.items in
    elim c.match-add.branch [
      | in-Ok-add w ↦ (kept_open e os c.add.new.opened.items cs c.add.new.cursors.items (record { number = c.args.number; position = c.events-position.result - 1 }) c.in-Ok.cursor c.self.invariant.0 c.in-Ok.ensures.fits w.in-Ok-add.ensures.opened w.in-Ok-add.ensures.cursors, c.self.invariant.1)
      | in-Err-add w ↦ (kept_same e os c.add.new.opened.items cs c.add.new.cursors.items c.self.invariant.0 w.in-Err-add.ensures.unchanged.0 w.in-Err-add.ensures.unchanged.1, c.self.invariant.1)
    ]

pub returns-after-add-clause-ended : goal.returns-after-add-clause-ended
returns-after-add-clause-ended g c = λ machine taken stands.
    let e = c.self.inside.engine in
    let os = c.self.inside.opened.items in
    let cs = c.self.inside.cursors.items in
    let d = c.self.inside.closed in
    let bs = c.self.inside.schedule.bases in
    let one : 1 ≤ c.args.query = omega (arith, c.if-query-eq0.false) in
    let most : c.args.query ≤ length e.queries = omega (arith, c.if-query-queries.false, c.queries.ensures) in
    let some : 0 < count_of e = omega (arith, c.if-events-eq0.false, c.events.ensures.count) in
    let found = c.place_among.ensures ∙ ap (position (λ (o : CursorNumber). o.number == c.args.number)) c.as_slice.ensures.value in
    let free : position (λ (o : CursorNumber). o.number == c.args.number) os ≡ None = sym found ∙ none_found c.place_among.result (sym c.is_some.ensures ∙ c.if-is_some.false) in
    let last : c.events-position.result - 1 ≡ count_of e - 1 = ap (λ (n : ℕ). n - 1) c.events-position.ensures.count in
    elim c.match-add.branch [
      | in-Ok-add w ↦ rw w.result-is (went_open e os c.add.new.opened.items cs c.add.new.cursors.items d bs c.args.self.now machine c.args.query c.args.number (c.events-position.result - 1) c.in-Ok.cursor taken
          c.self.view_is c.self.invariant.0 c.requires.going one most some free c.in-Ok.ensures.query last c.in-Ok.ensures.answers w.in-Ok-add.ensures.opened w.in-Ok-add.ensures.cursors stands)
      | in-Err-add w ↦ rw w.result-is (unchanged c.args.self.now (session e c.add.new.opened.items c.add.new.cursors.items d bs) taken
          (same_lists e os c.add.new.opened.items cs c.add.new.cursors.items d bs c.args.self.now c.self.view_is w.in-Err-add.ensures.unchanged.0 w.in-Err-add.ensures.unchanged.1))
    ]

pub returns-after-add-clause-costs : goal.returns-after-add-clause-costs
returns-after-add-clause-costs g c = λ machine stands.
    let one : 1 ≤ c.args.query = omega (arith, c.if-query-eq0.false) in
    let most : c.args.query ≤ length c.self.inside.engine.queries = omega (arith, c.if-query-queries.false, c.queries.ensures) in
    costs_open c.self.inside.engine c.self.inside.opened.items c.self.inside.cursors.items c.self.inside.closed c.self.inside.schedule.bases c.args.self.now machine c.args.query c.args.number c.args.steps.now c.cursor.new.steps c.self.view_is one most c.cursor.ensures.steps stands

pub returns-in-Err-clause-costs : goal.returns-in-Err-clause-costs
returns-in-Err-clause-costs g c = λ machine stands.
    let one : 1 ≤ c.args.query = omega (arith, c.if-query-eq0.false) in
    let most : c.args.query ≤ length c.self.inside.engine.queries = omega (arith, c.if-query-queries.false, c.queries.ensures) in
    let P : Session → Type 0 = λ t. CostsAtMost (command.OpenAt c.args.query c.args.number) c.args.self.now machine t c.args.steps.now c.cursor.new.steps in
    subst P c.self.view_is (costs_open c.self.inside.engine c.self.inside.opened.items c.self.inside.cursors.items c.self.inside.closed c.self.inside.schedule.bases c.args.self.now machine c.args.query c.args.number c.args.steps.now c.cursor.new.steps c.self.view_is one most c.cursor.ensures.steps stands)

pub returns-after-add-clause-steps : goal.returns-after-add-clause-steps
returns-after-add-clause-steps g c =
    let P : Session → Type 0 = λ t. c.cursor.new.steps ≤ c.args.steps.now + update_bound (found_of t.engine c.args.query) in
    let within = subst P c.self.view_is c.cursor.ensures.steps in
    elim c.match-add.branch [
      | in-Ok-add w ↦ rw w.result-is within
      | in-Err-add w ↦ rw w.result-is within
    ]

pub returns-after-add-clause-engine : goal.returns-after-add-clause-engine
returns-after-add-clause-engine g c = ap (λ (s : Session). s.engine) c.self.view_is
