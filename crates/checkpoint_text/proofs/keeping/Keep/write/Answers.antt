use Rattle.std.proofs.Common.{List, ℕ, ◌∙◌, subst}
use Rattle.cer_outside.specs.Bytes.{TookPart}
use Rattle.checkpoint_text.proofs.keeping.Keep.write.Goals as goal

pub returns-clause-part : goal.returns-clause-part
returns-clause-part g c =
    subst (λ (bytes : List ℕ). TookPart (g.K.Sink.taken c.args.sink.now) (g.K.Sink.taken c.put_all.new.sink) bytes) (c.as_slice.ensures.value ∙ c.in_ok-text.ensures) c.in-Err.ensures.part
