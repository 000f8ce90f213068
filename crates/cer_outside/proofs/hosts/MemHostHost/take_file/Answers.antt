-- The place of the name tells its file, and each way out is that of a call that fails or does not.
use Rattle.std.proofs.Common.{◌≡◌, Some, None, Err, ap, sym, ◌∙◌, inl, inr, refl}
use Rattle.std.specs.List.{position}
use Rattle.std.proofs.lemmas.Result.{err_from_is_err_and}
use Rattle.cer_outside.specs.declared.OpenError.TheVariants as wanted
use Rattle.cer_outside.specs.States.{HostState}
use Rattle.cer_outside.specs.Calls.{FailsNext, OpenFails}
use Rattle.cer_outside.specs.Files.{is_named}
use Rattle.cer_outside.proofs.Named.{found_file, no_file, may_open, bytes_found, source_found, content_stays, rose_at}
use Rattle.cer_outside.proofs.hosts.MemHostHost.take_file.Goals as goal
use Rattle.cer_outside.proofs.hosts.MemHostHost.take_file.Goals.{in_default-via-in-Some+else-not-fails, in_default-via-in_default}

pub returns-in_err-open-in-Some-clause-fails : goal.returns-in_err-open-in-Some-clause-fails
returns-in_err-open-in-Some-clause-fails c =
    let host = sym c.self.view_is in
    let found : position (is_named c.args.name.now) c.self.inside.files.items ≡ Some c.in-Some.index = cc in
    let file = found_file c.self.inside.files.items c.args.name.now c.in-Some.index c.index.result.now found in
    let sound = λ (listed : FailsNext c.self.inside.calls). let wrong = c.next_fails-fails.ensures.listed.1 listed in absurd (cc (wrong, c.if-not-fails.true)) in
    let p = err_from_is_err_and c.from_residual.result c.from_residual.ensures.1 in
    let memory : c.from_residual.result ≡ Err wanted.Memory = p.1 ∙ ap Err p.2 in (
      λ failed. absurd cc,
      λ fails. absurd (may_open (record { files = c.self.inside.files.items; others = c.self.inside.others; calls = c.self.inside.calls }) c.args.name.now _ sound file (rw host at fails)),
    )

pub returns-in_ok-open-in-Some-clause-fails : goal.returns-in_ok-open-in-Some-clause-fails
returns-in_ok-open-in-Some-clause-fails c =
    let host = sym c.self.view_is in
    let found : position (is_named c.args.name.now) c.self.inside.files.items ≡ Some c.in-Some.index = cc in
    let file = found_file c.self.inside.files.items c.args.name.now c.in-Some.index c.index.result.now found in
    let sound = λ (listed : FailsNext c.self.inside.calls). let wrong = c.next_fails-fails.ensures.listed.1 listed in absurd (cc (wrong, c.if-not-fails.true)) in (
      λ failed. absurd cc,
      λ fails. absurd (may_open (record { files = c.self.inside.files.items; others = c.self.inside.others; calls = c.self.inside.calls }) c.args.name.now _ sound file (rw host at fails)),
    )

pub returns-in_ok-open-in-Some-clause-bytes : goal.returns-in_ok-open-in-Some-clause-bytes
returns-in_ok-open-in-Some-clause-bytes c =
    let found : position (is_named c.args.name.now) c.self.inside.files.items ≡ Some c.in-Some.index = cc in
    let file = found_file c.self.inside.files.items c.args.name.now c.in-Some.index c.index.result.now found in
    rw (sym c.self.view_is) (bytes_found c.self.inside.files.items c.args.name.now _ _ file (cc (c.in_ok-open-in-Some.ensures, c.index.ensures)))

pub returns-in_ok-open-in-Some-clause-source : goal.returns-in_ok-open-in-Some-clause-source
returns-in_ok-open-in-Some-clause-source c =
    let found : position (is_named c.args.name.now) c.self.inside.files.items ≡ Some c.in-Some.index = cc in
    let file = found_file c.self.inside.files.items c.args.name.now c.in-Some.index c.index.result.now found in
    rw (sym c.self.view_is) (source_found c.self.inside.files.items c.args.name.now _ _ file (cc (c.in_ok-open-in-Some.ensures, c.index.ensures)))

pub returns-in_default-clause-fails : goal.returns-in_default-clause-fails
returns-in_default-clause-fails c =
    let host : HostState = record { files = c.self.inside.files.items; others = c.self.inside.others; calls = c.self.inside.calls } in
    let fails : OpenFails host c.args.name.now =
    elim c.in_default.branch [
      | in_default-via-in-Some+else-not-fails w ↦ inl (c.next_fails-fails.ensures.listed.0 w.if-not-fails.false)
      | in_default-via-in_default w ↦
          let missing : position (is_named c.args.name.now) c.self.inside.files.items ≡ None = cc (c.place_of.ensures, c.as_slice.ensures.value, w.in_default.is) in
          inr (no_file c.self.inside.files.items c.args.name.now missing)
    ] in
    (λ failed. rw (sym c.self.view_is) fails, λ fails. refl)

pub returns-in_default-clause-kept : goal.returns-in_default-clause-kept
returns-in_default-clause-kept c =
    let counted = c.count_fault.ensures in
    let host = sym c.self.view_is in
    λ any. rw (counted, host) (content_stays c.self.inside.files.items c.args.name.now any)

pub returns-in_default-clause-cause : goal.returns-in_default-clause-cause
returns-in_default-clause-cause c =
    let counted = c.count_fault.ensures in
    let host = sym c.self.view_is in
    rw (counted, host) (rose_at (record { files = c.self.inside.files.items; others = c.self.inside.others; calls = c.self.inside.calls }) c.args.name.now)
