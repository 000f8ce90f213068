use Rattle.std.proofs.Common.{◌≡◌, ◌≤◌, ◌+◌, inl, refl, length, sym, ap, subst, arith}
use Rattle.std.proofs.lemmas.Option.{slice_get_within}
use Rattle.event_update.specs.Update.{work_bound}
use Rattle.query_standing.proofs.Lists.{got}
use Rattle.query_state.specs.Matches.{OpenMatches, HasBegun, IsReady, cut, CanCut}
use Rattle.query_state.proofs.matches.Matches.advance_at.Goals as goal

pub work-requires-clause-begun : goal.work-requires-clause-begun
work-requires-clause-begun g c =
    let k = c.requires.there in
    record { before = c.args.self.now; key = k.0; are = c.sizes.ensures.are; sound = c.sizes.ensures.sound; takes = inl (got c.args.self.now.keys c.args.number k.0 k.1, refl); numbered = k.1 }

pub learn-requires-clause-inside : goal.learn-requires-clause-inside
learn-requires-clause-inside g c =
    let k = c.requires.there in
    let b : HasBegun c.sizes.result c.args.number c.args.self.now = record { before = c.args.self.now; key = k.0; are = c.sizes.ensures.are; sound = c.sizes.ensures.sound; takes = inl (got c.args.self.now.keys c.args.number k.0 k.1, refl); numbered = k.1 } in
    let r = c.in-Ok.ensures.ready b in
    let same = ap length r.rows in
    let within = slice_get_within r.mid.rows c.in-Ok.ready.number r.before r.before_is in
    omega arith

pub returns-in-Ok-clause-ready : goal.returns-in-Ok-clause-ready
returns-in-Ok-clause-ready g c = λ key at. subst (λ (h : OpenMatches). IsReady c.args.stamp c.args.low c.args.bits.now key c.in-Ok.ready.number c.in-Ok.ready.staged c.args.self.now h) (sym c.learn.ensures) (c.in-Ok.ensures.ready (record { before = c.args.self.now; key = key; are = c.sizes.ensures.are; sound = c.sizes.ensures.sound; takes = inl (got c.args.self.now.keys c.args.number key at, refl); numbered = at }))

pub returns-in-Ok-clause-advanced : goal.returns-in-Ok-clause-advanced
returns-in-Ok-clause-advanced g c =
    let k = c.requires.there in
    let b : HasBegun c.sizes.result c.args.number c.args.self.now = record { before = c.args.self.now; key = k.0; are = c.sizes.ensures.are; sound = c.sizes.ensures.sound; takes = inl (got c.args.self.now.keys c.args.number k.0 k.1, refl); numbered = k.1 } in
    record {
      sizes = subst (λ (h : OpenMatches). (cut c.sizes.result h ≡ c.args.self.now) × CanCut c.sizes.result h) (sym c.learn.ensures) (c.in-Ok.ensures.sizes.0 b, c.in-Ok.ensures.sizes.1);
      refused = tt;
      steps = subst (λ (h : OpenMatches). c.work.new.steps ≤ c.args.steps.now + work_bound (length h.table.states)) (sym c.learn.ensures) c.in-Ok.ensures.steps;
    }

pub returns-in-Ok-clause-worked : goal.returns-in-Ok-clause-worked
returns-in-Ok-clause-worked g c = λ key at. c.work.ensures.worked (record { before = c.args.self.now; key = key; are = c.sizes.ensures.are; sound = c.sizes.ensures.sound; takes = inl (got c.args.self.now.keys c.args.number key at, refl); numbered = at })

pub returns-in-Err-clause-advanced : goal.returns-in-Err-clause-advanced
returns-in-Err-clause-advanced g c =
    let k = c.requires.there in
    let b : HasBegun c.sizes.result c.args.number c.args.self.now = record { before = c.args.self.now; key = k.0; are = c.sizes.ensures.are; sound = c.sizes.ensures.sound; takes = inl (got c.args.self.now.keys c.args.number k.0 k.1, refl); numbered = k.1 } in
    record { sizes = tt; refused = c.in-Err.ensures.refused b; steps = tt }

pub returns-in-Err-clause-worked : goal.returns-in-Err-clause-worked
returns-in-Err-clause-worked g c = λ key at. c.work.ensures.worked (record { before = c.args.self.now; key = key; are = c.sizes.ensures.are; sound = c.sizes.ensures.sound; takes = inl (got c.args.self.now.keys c.args.number key at, refl); numbered = at })
