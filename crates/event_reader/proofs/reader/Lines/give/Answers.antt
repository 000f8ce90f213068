use Rattle.event_reader.proofs.NextLines.{given_reader}
use Rattle.event_reader.proofs.reader.Lines.give.Goals as goal

pub returns : goal.returns
returns c =
    given_reader c.args.self.now c.self.inside.buffer c.give.new.self _ _ _ _ _ c.start_of-start.result c.args.len c.args.end c.self.view_is c.give.ensures c.start_of-start.ensures.text
