use Rattle.std.proofs.Common.{◌≡◌, ◌-◌, ◌<◌, ◌≤◌, [], vec_len}
use Rattle.cer_outside.specs.Bytes.{ReadsOn}
use Rattle.command_base.proofs.files.read_whole.Given as goal

-- the bytes so far and what is left are what there was
abbrev pub invariant-loop-source : goal.invariant-loop-source
invariant-loop-source g l = record {
  read : ReadsOn (g.S.Source.left l.fn.source) (g.S.Source.left l.source) [] l.bytes.items;
  limit : vec_len l.bytes ≤ 1048577;
  piece : 0 < vec_len l.buffer;
  counted : g.S.Source.faults l.source ≡ g.S.Source.faults l.fn.source;
}

abbrev pub decreases-loop-source : goal.decreases-loop-source
decreases-loop-source g l = 1048577 - vec_len l.bytes
