-- An event more is taken, and its answers are added.
use Rattle.command_sample.proofs.Rounds.{round}
use Rattle.command_sample.proofs.counting.round.Goals as goal

pub returns : goal.returns
returns g c = λ seed n at.
    let one = c.in_ok-one.one in
    let two = c.in_ok-two.two in
    round seed n c.args.engine.now c.take.new.engine c.in_ok-next.event c.args.x c.in_ok-next.next
    c.args.first.answers c.args.first.total c.args.second.answers c.args.second.total one.answers one.total two.answers two.total
    c.joined.result.answers c.joined.result.total c.joined-2.result.answers c.joined-2.result.total
    at c.in_ok-next.ensures.0 c.in_ok-next.ensures.1 c.in_ok-take.ensures.stands c.in_ok-take.ensures.count
    c.in_ok-take.ensures.same.0 c.in_ok-take.ensures.same.1
    (record { tells = c.in_ok-one.ensures }) (record { tells = c.in_ok-two.ensures })
    c.joined.ensures.answers c.joined.ensures.total c.joined-2.ensures.answers c.joined-2.ensures.total
