-- The place of the name tells its file.
use Rattle.std.proofs.Common.{◌≡◌, Some, None, Err, ap, sym, ◌∙◌, refl, cond, is_some, Option}
use Rattle.std.specs.List.{position}
use Rattle.std.proofs.lemmas.Result.{err_from_is_err_and}
use Rattle.cer_outside.specs.declared.OpenError.TheVariants as wanted
use Rattle.cer_outside.specs.Causes.{one_more}
use Rattle.cer_outside.specs.States.{FileState, SureHostState}
use Rattle.cer_outside.specs.Files.{is_named}
use Rattle.cer_outside.proofs.Named.{found_file, no_file, bytes_found, sure_found, sure_stays, sure_missed}
use Rattle.cer_outside.proofs.hosts.SureHostHost.take_file.Goals as goal

pub returns-in_err-open-in-Some-clause-opened : goal.returns-in_err-open-in-Some-clause-opened
returns-in_err-open-in-Some-clause-opened c =
    let found : position (is_named c.args.name.now) c.self.inside.files.items ≡ Some c.in-Some.index = cc in
    let file = found_file c.self.inside.files.items c.args.name.now c.in-Some.index c.index.result.now found in
    rw (sym c.self.view_is) (sym (sure_stays (record { files = c.self.inside.files.items; others = c.self.inside.others }) c.args.name.now _ file))

pub returns-in_err-open-in-Some-clause-fails : goal.returns-in_err-open-in-Some-clause-fails
returns-in_err-open-in-Some-clause-fails c =
    let found : position (is_named c.args.name.now) c.self.inside.files.items ≡ Some c.in-Some.index = cc in
    let file = found_file c.self.inside.files.items c.args.name.now c.in-Some.index c.index.result.now found in
    let p = err_from_is_err_and c.from_residual.result c.from_residual.ensures.1 in
    let memory : c.from_residual.result ≡ Err wanted.Memory = p.1 ∙ ap Err p.2 in
    rw (sym c.self.view_is) (λ failed. absurd cc, λ fails. absurd cc)

pub returns-in_ok-open-in-Some-clause-fails : goal.returns-in_ok-open-in-Some-clause-fails
returns-in_ok-open-in-Some-clause-fails c =
    let found : position (is_named c.args.name.now) c.self.inside.files.items ≡ Some c.in-Some.index = cc in
    let file = found_file c.self.inside.files.items c.args.name.now c.in-Some.index c.index.result.now found in
    rw (sym c.self.view_is) (λ failed. absurd cc, λ fails. absurd cc)

pub returns-in_ok-open-in-Some-clause-opened : goal.returns-in_ok-open-in-Some-clause-opened
returns-in_ok-open-in-Some-clause-opened c =
    let found : position (is_named c.args.name.now) c.self.inside.files.items ≡ Some c.in-Some.index = cc in
    let file = found_file c.self.inside.files.items c.args.name.now c.in-Some.index c.index.result.now found in
    rw (sym c.self.view_is) (sym (sure_stays (record { files = c.self.inside.files.items; others = c.self.inside.others }) c.args.name.now _ file))

pub returns-in_ok-open-in-Some-clause-bytes : goal.returns-in_ok-open-in-Some-clause-bytes
returns-in_ok-open-in-Some-clause-bytes c =
    let found : position (is_named c.args.name.now) c.self.inside.files.items ≡ Some c.in-Some.index = cc in
    let file = found_file c.self.inside.files.items c.args.name.now c.in-Some.index c.index.result.now found in
    rw (sym c.self.view_is) (bytes_found c.self.inside.files.items c.args.name.now _ _ file (cc (c.in_ok-open-in-Some.ensures, c.index.ensures)))

pub returns-in_ok-open-in-Some-clause-source : goal.returns-in_ok-open-in-Some-clause-source
returns-in_ok-open-in-Some-clause-source c =
    let found : position (is_named c.args.name.now) c.self.inside.files.items ≡ Some c.in-Some.index = cc in
    let file = found_file c.self.inside.files.items c.args.name.now c.in-Some.index c.index.result.now found in
    rw (sym c.self.view_is) (sure_found c.self.inside.files.items c.args.name.now _ _ file (cc (c.in_ok-open-in-Some.ensures, c.index.ensures)))

pub returns-in-None-clause-cause : goal.returns-in-None-clause-cause
returns-in-None-clause-cause c =
    let missing : position (is_named c.args.name.now) c.self.inside.files.items ≡ None = cc in
    let none = no_file c.self.inside.files.items c.args.name.now missing in
    let host : SureHostState = record { files = c.self.inside.files.items; others = c.self.inside.others } in
    rw (sym c.self.view_is, c.one_more-self-inside.ensures) (sure_missed host c.args.name.now none)

pub returns-in-None-clause-opened : goal.returns-in-None-clause-opened
returns-in-None-clause-opened c =
    let missing : position (is_named c.args.name.now) c.self.inside.files.items ≡ None = cc in
    let none = no_file c.self.inside.files.items c.args.name.now missing in
    rw (sym c.self.view_is, c.one_more-self-inside.ensures)
    (ap (λ (u : Option FileState). record { files = c.self.inside.files.items; others = cond (is_some u) c.self.inside.others (one_more c.self.inside.others) }) (sym none))

pub returns-in-None-clause-fails : goal.returns-in-None-clause-fails
returns-in-None-clause-fails c =
    let missing : position (is_named c.args.name.now) c.self.inside.files.items ≡ None = cc in
    let none = no_file c.self.inside.files.items c.args.name.now missing in
    rw (sym c.self.view_is) (λ failed. none, λ fails. refl)
