use Rattle.std.proofs.Common.{inr, subst}
use Rattle.query_state.specs.declared.own.Own.{Own}
use Rattle.query_state.specs.Own.{HasOwnNumber, IsOwn}
use Rattle.query_state.proofs.OwnKey.{own_key, number_there}
use Rattle.query_state.proofs.own.advance_own.Goals as goal

pub returns-in_err-ready-in-At-clause-worked : goal.returns-in_err-ready-in-At-clause-worked
returns-in_err-ready-in-At-clause-worked g c =
    let k : HasOwnNumber c.args.matches.now c.args.table.now c.args.event.now c.in-At.number = subst (λ (o : Own). IsOwn o c.args.matches.now c.args.table.now c.args.event.now c.args.first.now c.args.bits.now c.args.skip_insensitive) c.in-At.is (c.settled.ensures c.args.table.now c.args.event.now c.args.first.now c.args.bits.now c.args.skip_insensitive c.requires.own) in
    inr (k.there.key, own_key c.args.table.now c.args.event.now k.places k.there.key k.places_are k.there.has, c.advance_at.ensures.worked k.there.key k.there.numbered)

pub returns-in_ok-ready-in-At-clause-ready : goal.returns-in_ok-ready-in-At-clause-ready
returns-in_ok-ready-in-At-clause-ready g c =
    let k : HasOwnNumber c.args.matches.now c.args.table.now c.args.event.now c.in-At.number = subst (λ (o : Own). IsOwn o c.args.matches.now c.args.table.now c.args.event.now c.args.first.now c.args.bits.now c.args.skip_insensitive) c.in-At.is (c.settled.ensures c.args.table.now c.args.event.now c.args.first.now c.args.bits.now c.args.skip_insensitive c.requires.own) in
    (k.there.key, own_key c.args.table.now c.args.event.now k.places k.there.key k.places_are k.there.has, c.in_ok-ready-in-At.ensures.ready k.there.key k.there.numbered)

pub returns-in_ok-ready-in-At-clause-worked : goal.returns-in_ok-ready-in-At-clause-worked
returns-in_ok-ready-in-At-clause-worked g c =
    let k : HasOwnNumber c.args.matches.now c.args.table.now c.args.event.now c.in-At.number = subst (λ (o : Own). IsOwn o c.args.matches.now c.args.table.now c.args.event.now c.args.first.now c.args.bits.now c.args.skip_insensitive) c.in-At.is (c.settled.ensures c.args.table.now c.args.event.now c.args.first.now c.args.bits.now c.args.skip_insensitive c.requires.own) in
    inr (k.there.key, own_key c.args.table.now c.args.event.now k.places k.there.key k.places_are k.there.has, c.advance_at.ensures.worked k.there.key k.there.numbered)

pub settled-requires : goal.settled-requires
settled-requires g c = number_there c.args.own c.args.matches.now c.args.table.now c.args.event.now c.args.first.now c.args.bits.now c.args.skip_insensitive c.requires.own

pub advance_at-requires-clause-there : goal.advance_at-requires-clause-there
advance_at-requires-clause-there g c =
    let k : HasOwnNumber c.args.matches.now c.args.table.now c.args.event.now c.in-At.number = subst (λ (o : Own). IsOwn o c.args.matches.now c.args.table.now c.args.event.now c.args.first.now c.args.bits.now c.args.skip_insensitive) c.in-At.is (c.settled.ensures c.args.table.now c.args.event.now c.args.first.now c.args.bits.now c.args.skip_insensitive c.requires.own) in
    (k.there.key, k.there.numbered)
