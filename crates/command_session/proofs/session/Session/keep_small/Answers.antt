-- The cursors are carried over.
use Rattle.std.proofs.Common.{◌≡◌, ◌∙◌, length, sym, ap, arith, List}
use Rattle.std.specs.Vec.{with_items}
use Rattle.std.proofs.lemmas.List.{with_items_is}
use Rattle.cel_terms.specs.declared.Query.{Query}
use Rattle.command_session.proofs.Stepping.{still_stands, kept_compact, carried, tended, paid}
use Rattle.command_session.proofs.session.Session.keep_small.Goals as goal

pub invariant_of-self : goal.invariant_of-self
invariant_of-self g c =
    let e = c.self.inside.engine in
    let f = c.keep_small.new.engine in
    let cs = c.self.inside.cursors.items in
    let now = (with_items c.self.inside.cursors c.keep_small.new.held).items in
    let long : length c.keep_small.new.held ≡ c.self.inside.cursors.len = (let x = c.as_mut_slice-held.ensures.len in let y = c.keep_small.auto.held in omega arith) in
    let is = with_items_is c.self.inside.cursors c.keep_small.new.held long in
    let k = carried e f cs c.as_mut_slice-held.result.now c.keep_small.new.held now c.as_mut_slice-held.ensures.value is (c.keep_small.ensures.held, c.keep_small.ensures.cursors) in
    (kept_compact e f c.self.inside.opened.items cs now c.self.invariant.0 k.0 k.1, c.keep_small.ensures.bases ∙ (c.self.invariant.1 ∙ sym (ap (λ (qs : List Query). length qs) c.keep_small.ensures.same.1)))

pub returns-clause-stands : goal.returns-clause-stands
returns-clause-stands g c = λ machine stands.
    let e = c.self.inside.engine in
    let f = c.keep_small.new.engine in
    let cs = c.self.inside.cursors.items in
    let now = (with_items c.self.inside.cursors c.keep_small.new.held).items in
    let long : length c.keep_small.new.held ≡ c.self.inside.cursors.len = (let x = c.as_mut_slice-held.ensures.len in let y = c.keep_small.auto.held in omega arith) in
    let is = with_items_is c.self.inside.cursors c.keep_small.new.held long in
    let k = carried e f cs c.as_mut_slice-held.result.now c.keep_small.new.held now c.as_mut_slice-held.ensures.value is (c.keep_small.ensures.held, c.keep_small.ensures.cursors) in
    still_stands e f c.self.inside.opened.items cs now c.self.inside.closed c.self.inside.schedule.bases c.keep_small.new.self.bases c.args.self.now machine c.self.view_is c.keep_small.ensures.stands k.0 k.1 stands

pub returns-clause-tended : goal.returns-clause-tended
returns-clause-tended g c =
    tended c.self.inside.engine c.keep_small.new.engine c.self.inside.opened.items c.self.inside.cursors.items c.self.inside.closed c.self.inside.schedule.bases c.args.self.now c.self.view_is (record {
      dense = c.keep_small.ensures.dense;
      found = c.keep_small.ensures.found;
      fewer = c.keep_small.ensures.fewer;
      peak = c.keep_small.ensures.peak;
    })

pub returns-clause-paid : goal.returns-clause-paid
returns-clause-paid g c = λ machine stands.
    paid c.self.inside.engine c.keep_small.new.engine c.self.inside.opened.items c.self.inside.cursors.items c.self.inside.closed c.self.inside.schedule.bases c.keep_small.new.self.bases c.args.self.now machine c.args.steps.now c.keep_small.new.steps
    c.self.view_is c.keep_small.ensures.steps stands
