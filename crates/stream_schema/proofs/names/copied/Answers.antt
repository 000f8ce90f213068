use Rattle.stream_schema.proofs.Indexed.{copies_are}
use Rattle.stream_schema.proofs.names.copied.Goals as goal

pub returns : goal.returns
returns c = copies_are _ (λ x y h. h) c.args.set.now.keys c.in_ok-clone.field-0.keys c.in_ok-clone.ensures.cases
