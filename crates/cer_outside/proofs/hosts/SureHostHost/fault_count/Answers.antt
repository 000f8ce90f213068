use Rattle.std.proofs.Common.{◌≡◌, [], Some, None, Option, ap, sym, cond, is_some}
use Rattle.std.specs.List.{position}
use Rattle.cer_outside.specs.States.{FileState}
use Rattle.cer_outside.specs.Files.{is_named}
use Rattle.cer_outside.proofs.Named.{found_file, no_file}
use Rattle.cer_outside.proofs.hosts.SureHostHost.fault_count.Goals as goal

pub returns-in-Some : goal.returns-in-Some
returns-in-Some c =
    let found : position (is_named c.args.name.now) c.self.inside.files.items ≡ Some c.in-Some.field-0 = cc in
    let file = found_file c.self.inside.files.items c.args.name.now c.in-Some.field-0 (record { name = []; bytes = []; piece = 0; fails = []; faults = 0 }) found in
    rw (sym c.self.view_is) (sym (ap (λ (u : Option FileState). cond (is_some u) 0 c.self.inside.others) file))

pub returns-in-None : goal.returns-in-None
returns-in-None c =
    let missing : position (is_named c.args.name.now) c.self.inside.files.items ≡ None = cc in
    rw (sym c.self.view_is) (sym (ap (λ (u : Option FileState). cond (is_some u) 0 c.self.inside.others) (no_file c.self.inside.files.items c.args.name.now missing)))
