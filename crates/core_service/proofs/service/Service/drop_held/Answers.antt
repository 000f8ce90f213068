-- The cursor goes.
use Rattle.core_service.proofs.HeldServices.{lets_go}
use Rattle.core_service.proofs.service.Service.drop_held.Goals as goal

pub returns-in-Some : goal.returns-in-Some
returns-in-Some c =
    let s = c.self.inside in
    lets_go s.engine s.lines s.answers s.held c.args.self.now c.self.view_is c.args.cursor c.remove.new.self (c.remove.ensures.gone s.engine c.args.cursor c.in-Some.ensures.found)
