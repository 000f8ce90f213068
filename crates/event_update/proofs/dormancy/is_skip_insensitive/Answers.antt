use Rattle.std.proofs.Common.{subst, ℕ, [], slice_index_or, false, ◌≡◌}
use Rattle.cer_base.specs.Bits.{has}
use Rattle.event_update.proofs.SkipInsensitive.{cea_skip_insensitive}
use Rattle.event_update.proofs.dormancy.is_skip_insensitive.Goals as goal

pub returns : goal.returns
returns c = λ empty. cea_skip_insensitive c.args.cea.now c.requires c.if-cea.false
    (subst (λ sets. (j k : ℕ) → has (slice_index_or sets j []) k ≡ false) c.as_slice.ensures.value (c.are_empty.ensures empty))
