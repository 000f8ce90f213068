-- The cursors are carried over, or nothing has changed.
use Rattle.std.proofs.Common.{◌≡◌, ◌≤◌, ◌∙◌, length, ap, arith}
use Rattle.std.specs.Vec.{with_items}
use Rattle.std.proofs.lemmas.List.{with_items_is}
use Rattle.query_engine.specs.Engine.{EngineState}
use Rattle.query_engine.specs.Sizes.{put_by}
use Rattle.query_engine.proofs.SmallSizes.{nothing_is_put_by}
use Rattle.command_session.specs.Sessions.{Session}
use Rattle.command_session.proofs.Stepping.{session, went_compact, carried, compacted, unchanged, same_parts}
use Rattle.command_session.proofs.Costs.{costs_compact}
use Rattle.command_session.proofs.session.Session.compact.Goals as goal

pub returns-in-Ok-clause-ended : goal.returns-in-Ok-clause-ended
returns-in-Ok-clause-ended g c = λ machine taken stands.
    let e = c.self.inside.engine in
    let f = c.compact.new.self in
    let cs = c.self.inside.cursors.items in
    let now = (with_items c.self.inside.cursors c.compact.new.held).items in
    let long : length c.compact.new.held ≡ c.self.inside.cursors.len = (let x = c.as_mut_slice.ensures.len in let y = c.compact.auto.held in omega arith) in
    let is = with_items_is c.self.inside.cursors c.compact.new.held long in
    let k = carried e f cs c.as_mut_slice.result.now c.compact.new.held now c.as_mut_slice.ensures.value is (c.compact.ensures.held, c.in-Ok.ensures.cursors) in
    went_compact e f c.self.inside.opened.items cs now c.self.inside.closed c.self.inside.schedule.bases c.note.new.self.bases c.args.self.now machine taken c.self.view_is c.requires.going c.in-Ok.ensures.stands k.0 k.1 stands

pub returns-in-Err-clause-ended : goal.returns-in-Err-clause-ended
returns-in-Err-clause-ended g c = λ machine taken stands.
    let e = c.self.inside.engine in
    let f = c.compact.new.self in
    let os = c.self.inside.opened.items in
    let cs = c.self.inside.cursors.items in
    let d = c.self.inside.closed in
    let bs = c.self.inside.schedule.bases in
    let now = (with_items c.self.inside.cursors c.compact.new.held).items in
    let long : length c.compact.new.held ≡ c.self.inside.cursors.len = (let x = c.as_mut_slice.ensures.len in let y = c.compact.auto.held in omega arith) in
    let is = with_items_is c.self.inside.cursors c.compact.new.held long in
    let u = c.in-Err.ensures.unchanged in
    unchanged c.args.self.now (session f os now d bs) taken (same_parts e f os cs now d bs c.args.self.now c.self.view_is u.0 (is ∙ (u.1 ∙ c.as_mut_slice.ensures.value)))

pub returns-in-Ok-clause-engine : goal.returns-in-Ok-clause-engine
returns-in-Ok-clause-engine g c =
    let long : length c.compact.new.held ≡ c.self.inside.cursors.len = (let x = c.as_mut_slice.ensures.len in let y = c.compact.auto.held in omega arith) in
    let is = with_items_is c.self.inside.cursors c.compact.new.held long in
    compacted c.self.inside.engine c.compact.new.self c.self.inside.opened.items c.self.inside.cursors.items c.compact.new.held (with_items c.self.inside.cursors c.compact.new.held).items c.self.inside.closed c.self.inside.schedule.bases c.args.self.now c.self.view_is is (record {
      left = c.in-Ok.ensures.left;
      dense = c.in-Ok.ensures.dense;
      window = c.in-Ok.ensures.window;
      keys = c.in-Ok.ensures.keys;
      found = c.compact.ensures.found;
      fewer = c.compact.ensures.fewer;
      peak = c.compact.ensures.peak;
    })

pub returns-in-Err-clause-engine : goal.returns-in-Err-clause-engine
returns-in-Err-clause-engine g c = c.in-Err.ensures.unchanged.0 ∙ ap (λ (s : Session). s.engine) c.self.view_is

pub returns-in-Ok-clause-costs : goal.returns-in-Ok-clause-costs
returns-in-Ok-clause-costs g c = λ machine stands.
    let e = c.self.inside.engine in
    let f = c.compact.new.self in
    let bs = c.self.inside.schedule.bases in
    let now = c.note.new.self.bases in
    let less : put_by f now ≤ put_by e bs = (let none = nothing_is_put_by f now c.note.ensures.sizes in omega (arith, none)) in
    costs_compact e f c.self.inside.opened.items c.self.inside.opened.items c.self.inside.cursors.items c.self.inside.cursors.items c.self.inside.closed c.self.inside.closed bs now c.args.self.now machine c.args.steps.now c.compact.new.steps c.self.view_is less c.compact.ensures.bounded stands

pub returns-in-Err-clause-costs : goal.returns-in-Err-clause-costs
returns-in-Err-clause-costs g c = λ machine stands.
    let e = c.self.inside.engine in
    let f = c.compact.new.self in
    let bs = c.self.inside.schedule.bases in
    let less : put_by f bs ≤ put_by e bs = (let same = ap (λ (x : EngineState). put_by x bs) c.in-Err.ensures.unchanged.0 in omega (arith, same)) in
    costs_compact e f c.self.inside.opened.items c.self.inside.opened.items c.self.inside.cursors.items c.self.inside.cursors.items c.self.inside.closed c.self.inside.closed bs bs c.args.self.now machine c.args.steps.now c.compact.new.steps c.self.view_is less c.compact.ensures.bounded stands
