use Rattle.std.proofs.Common.{ap, refl, ◌∙◌, length, true}
use Rattle.event_reader.specs.LineReaders.{LineReader}
use Rattle.event_reader.proofs.NextLines.{whole_reader}
use Rattle.event_reader.proofs.reader.Lines.last.Goals as goal

pub returns-clause-some : goal.returns-clause-some
returns-clause-some c = λ some. (
  refl,
  ap (λ (r : LineReader). let s : LineReader = record r { ended = true } in s) (c.self-2.view_is ∙ c.give.ensures)
      ∙ whole_reader c.args.self.now c.len-len.result (c.len-len.ensures ∙ ap (λ (r : LineReader). length r.pending) c.self.view_is),
)
