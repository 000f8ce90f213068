use Rattle.std.proofs.Common.{◌∙◌, ap, map, Vec, Global, ℕ}
use Rattle.stream_schema.proofs.Indexed.{added_is}
use Rattle.stream_schema.proofs.names.add.Goals as goal

pub returns-clause-added : goal.returns-clause-added
returns-clause-added c =
    ap (map (λ (n : Vec ℕ Global). n.items)) c.in_ok-insert.ensures.keys
    ∙ added_is c.args.set.now.keys c.in_ok-from_slice.field-0 c.args.name.now c.in_ok-from_slice.ensures.items c.requires
