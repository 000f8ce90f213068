use Rattle.std.proofs.Common.{◌≡◌, Some, None, ap, sym}
use Rattle.std.specs.List.{position}
use Rattle.cer_outside.specs.Files.{is_named, faults_of}
use Rattle.cer_outside.proofs.Named.{found_file, no_file}
use Rattle.cer_outside.proofs.hosts.MemHostHost.fault_count.Goals as goal

pub returns-in-Some : goal.returns-in-Some
returns-in-Some c =
    let found : position (is_named c.args.name.now) c.self.inside.files.items ≡ Some c.in-Some.index = cc in
    let file = found_file c.self.inside.files.items c.args.name.now c.in-Some.index c.index.result.now found in
    let here = ap (faults_of c.self.inside.others) file in
    rw (sym c.self.view_is) (cc (here, c.faults.ensures, c.index.ensures))

pub returns-in-None : goal.returns-in-None
returns-in-None c =
    let missing : position (is_named c.args.name.now) c.self.inside.files.items ≡ None = cc in
    rw (sym c.self.view_is) (sym (ap (faults_of c.self.inside.others) (no_file c.self.inside.files.items c.args.name.now missing)))
