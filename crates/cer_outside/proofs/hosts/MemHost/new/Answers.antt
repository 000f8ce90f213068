use Rattle.std.proofs.Common.{arith}
use Rattle.cer_outside.proofs.Named.{fresh_more}
use Rattle.cer_outside.proofs.hosts.MemHost.new.Goals as goal

pub loop-file-preserved : goal.loop-file-preserved
loop-file-preserved c =
    fresh_more c.args.files.items _ _ c.file-item.result _ c.loop-file.invariant (omega (arith, c.deref_mut-file-items.ensures)) c.forget_faults.ensures
