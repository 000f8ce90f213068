use Rattle.std.proofs.Common.{[]}
use Rattle.event_reader.specs.Lines.{file_lines}
use Rattle.event_run.proofs.ForCallers.{some_run}
use Rattle.event_run.proofs.laws.some_run_is.Goals as goal

pub returns : goal.returns
returns c = λ schema queries most_bytes bytes.
    let run = some_run schema queries 1 [] (file_lines most_bytes bytes).texts (file_lines most_bytes bytes).fault in
    (run.more, run.stop, run.runs)
