-- What is wrong with a line of a checkpoint, in words.
use Rattle.std.specs.Prelude.{ℕ, List, codes}
use Rattle.checkpoint_text.specs.declared.CheckpointFault.{CheckpointFault}
use Rattle.checkpoint_text.specs.declared.CheckpointFault.TheVariants as fault

abbrev pub fault_words : CheckpointFault → List ℕ
fault_words fault.LongLine = codes "line too long"
fault_words fault.BadHeader = codes "bad header"
fault_words fault.BadCount = codes "bad count"
fault_words fault.BadPosition = codes "bad position"
fault_words fault.BadEvent = codes "bad event"
fault_words fault.Short = codes "missing line"
fault_words fault.Extra = codes "extra line"
fault_words fault.TooLong = codes "too long"
