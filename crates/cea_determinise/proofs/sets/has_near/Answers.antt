use Rattle.std.proofs.Common.{arith, [], ap, ◌∙◌, ◌<◌, length}
use Rattle.std.proofs.lemmas.List.{get_or_read}
use Rattle.cer_base.specs.Bits.{has}
use Rattle.cea_determinise.specs.Runs.{some_below}
use Rattle.cea_determinise.proofs.sets.has_near.Goals as goal

pub some_leaf-requires : goal.some_leaf-requires
some_leaf-requires c =
    let near = c.requires.well_formed.near in
    let within : c.args.leaf < length c.args.cea.now.near.items = omega (arith, near.count, c.requires.inside) in
    rw (get_or_read c.args.cea.now.near.items c.args.leaf c.index.result.now within c.index.ensures []) (near.sets c.args.leaf [] within)

pub returns : goal.returns
returns c =
    let near = c.requires.well_formed.near in
    let within : c.args.leaf < length c.args.cea.now.near.items = omega (arith, near.count, c.requires.inside) in
    let is = get_or_read c.args.cea.now.near.items c.args.leaf c.index.result.now within c.index.ensures [] in
    c.some_leaf.ensures ∙ ap (λ s. some_below c.args.cea.now.size (has s)) is
