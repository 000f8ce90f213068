use Rattle.std.proofs.Common.{◌∙◌, ap, ℕ, [], ◌∷◌, ◌++◌, Vec, Global}
use Rattle.predicate_bits.proofs.Collected.{pushed}
use Rattle.predicate_bits.proofs.groups.add.Goals as goal

pub returns : goal.returns
returns c =
    pushed c.args.groups.now.items c.args.ty c.args.number c.index_mut.result.now c.push.new.self c.requires
    (c.in_ok-push.ensures.items ∙ ap (λ (u : Vec ℕ Global). u.items ++ c.args.number ∷ []) c.index_mut.ensures.value)
