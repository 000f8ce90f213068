use Rattle.std.proofs.Common.{◌≡◌, true, rules}
use Rattle.query_state.proofs.OwnKey.{one_stays, one_passes, one_begins_none}
use Rattle.query_state.proofs.own.look.Goals as goal

pub returns-then-dormant : goal.returns-then-dormant
returns-then-dormant c =
    let k = c.in-Some.ensures in
    let known : c.dormant.result ≡ true = search rules in
    one_stays c.args.matches.now c.args.table.now c.args.event.now c.args.first.now c.args.bits.now c.args.skip_insensitive k.0 c.in-Some.number k.1 k.2 (c.dormant.ensures.quiet known) (c.dormant.ensures.rest known)

pub returns-then-lets_own_pass : goal.returns-then-lets_own_pass
returns-then-lets_own_pass c =
    let k = c.in-Some.ensures in
    let known : c.lets_own_pass.result ≡ true = search rules in
    (one_passes c.args.matches.now c.args.table.now c.args.event.now c.args.first.now c.args.bits.now c.args.skip_insensitive k.0 c.in-Some.number k.1 k.2 (c.lets_own_pass.ensures known), record { places = k.0; places_are = k.1; there = k.2 })

pub returns-then-is_nothing_at : goal.returns-then-is_nothing_at
returns-then-is_nothing_at c =
    let k = c.in-Some.ensures in
    let known : c.is_nothing_at.result ≡ true = search rules in
    one_begins_none c.args.matches.now c.args.table.now c.args.event.now c.args.first.now c.args.bits.now c.args.skip_insensitive k.0 c.in-Some.number k.1 k.2 (c.is_nothing_at.ensures.begins known) (c.is_nothing_at.ensures.none known)

pub returns-then-is_nothing_unfound : goal.returns-then-is_nothing_unfound
returns-then-is_nothing_unfound c = c.is_nothing_unfound.ensures c.if-is_nothing_unfound.true c.args.skip_insensitive
