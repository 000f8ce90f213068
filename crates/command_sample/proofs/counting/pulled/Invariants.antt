-- The members that were given are counted and added up, and with those still to be given they are all.
use Rattle.std.proofs.Common.{◌≡◌, ◌%◌, ◌^◌, ◌++◌, List, length, map, sum_by}
use Rattle.cer_base.specs.Members.{Member}
use Rattle.query_engine.specs.Engine.{Fits, rest}
use Rattle.query_engine.specs.Holding.{answer_of}
use Rattle.command_sample.specs.Tallies.{weight_of}
use Rattle.command_sample.proofs.counting.pulled.Given as goal

abbrev pub invariant-loop-start : goal.invariant-loop-start
invariant-loop-start g l = record {
  fits : Fits l.engine l.cursor;
  given : (members : List Member) × (rest l.engine l.fn.cursor ≡ members ++ rest l.engine l.cursor)
      × (l.tally.answers ≡ length members % 2 ^ 64)
      × (l.tally.total ≡ sum_by (weight_of l.end) (map answer_of members) % 2 ^ 64);
}

abbrev pub decreases-loop-start : goal.decreases-loop-start
decreases-loop-start g l = length (rest l.engine l.cursor)
