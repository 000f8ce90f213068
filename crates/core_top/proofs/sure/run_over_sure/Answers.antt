use Rattle.std.proofs.Common.{refl, sym, ◌∙◌}
use Rattle.command_base.specs.Tasks.{name_in}
use Rattle.command_base.proofs.Ends.{rose_same}
use Rattle.core_top.specs.Jobs.{task_of}
use Rattle.core_top.proofs.SureRuns.{no_faults, never_open, never_read, fine_or_memory}
use Rattle.core_top.proofs.sure.run_over_sure.Goals as goal

pub returns : goal.returns
returns g c job text kept lines is first middle second stops sure =
    let ends = c.core_main.ensures in
    fine_or_memory _ (ends.complete job text kept lines is first middle second stops)
    (λ opened before after same. never_open _ _ _ _ job opened before after is
    (no_faults c.core_main.new.host.files c.core_main.new.host.others (task_of job).queries text (ends.kept (task_of job).queries ∙ first))
    (λ has. no_faults c.core_main.new.host.files c.core_main.new.host.others (name_in (task_of job).checkpoint) kept (ends.kept (name_in (task_of job).checkpoint) ∙ middle has))
    (no_faults c.core_main.new.host.files c.core_main.new.host.others (task_of job).events lines (ends.kept (task_of job).events ∙ second))
    (ends.open_fault opened before after same))
    (λ read after same. never_read _ _ _ read after _ _ (λ source. refl) (ends.read_fault read after same))
    (λ before after same. let wrote = ends.write_fault before after same in sure (rose_same _ _ _ _ (sym wrote.from) (sym wrote.to) wrote.rose))
