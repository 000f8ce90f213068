-- The count of the file at the place, or of the names without a file, is one more.
use Rattle.std.proofs.Common.{◌≡◌, Some, None, sym}
use Rattle.std.specs.List.{position}
use Rattle.cer_outside.specs.Files.{is_named}
use Rattle.cer_outside.proofs.Named.{file_fault, other_fault}
use Rattle.cer_outside.proofs.hosts.MemHost.count_fault.Goals as goal

pub returns-in-Some : goal.returns-in-Some
returns-in-Some c =
    let found : position (is_named c.args.name.now) c.self.inside.files.items ≡ Some c.in-Some.index = cc in
    rw (sym c.self.view_is) (file_fault c.self.inside.files.items c.self.inside.others c.self.inside.calls c.args.name.now c.in-Some.index c.index_mut.result.now c.count_fault.new.self found
    c.index_mut.ensures.value c.count_fault.ensures)

pub returns-in-None : goal.returns-in-None
returns-in-None c =
    let missing : position (is_named c.args.name.now) c.self.inside.files.items ≡ None = cc in
    rw (sym c.self.view_is, c.one_more-self-inside.ensures) (other_fault c.self.inside.files.items c.self.inside.others c.self.inside.calls c.args.name.now missing)
