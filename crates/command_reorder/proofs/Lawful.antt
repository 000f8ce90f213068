-- What holds of a run over late events as a task. For `core_top`.
use Rattle.std.proofs.Common.{ℕ, List, Option, Some, None}
use Rattle.stream_schema.specs.declared.Event.{Event}
use Rattle.command_words.specs.declared.ReorderWords.{ReorderWords}
use Rattle.command_base.specs.SourceBytes.{IsRest}
use Rattle.command_base.proofs.Answering.{GivesEvents}
use Rattle.command_reorder.specs.Late.{LateRequest}
use Rattle.command_reorder.specs.LateOutput.{AreReleasedRead}
use Rattle.command_reorder.specs.Reordered.{answers_of, feed_of}
use Rattle.command_reorder.proofs.ForCallers.{one_late_run_of_trees}

-- what is left after the lines that were read
left_behind : (a : LateRequest) (left : Option (List ℕ)) (lines : List ℕ) (events : List Event) → AreReleasedRead a left lines events → IsRest (Some lines) left
left_behind a None lines events read = read
left_behind a (Some rest) lines events read = (read.cut.taken, read.cut.whole)

pub reorder_gives : (w : ReorderWords) → GivesEvents (answers_of w)
reorder_gives w = record {
  one = λ schema p q lines events others halt other same one two. (one_late_run_of_trees w.order schema w.clock w.late w.most_bytes p q lines events others halt other same one two).1;
  rest = λ schema queries left lines events read. left_behind (feed_of w schema queries) left lines events read;
}
