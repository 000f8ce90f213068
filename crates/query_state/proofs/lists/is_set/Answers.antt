use Rattle.std.proofs.Common.{Some, arith, sym, ap, ◌∙◌}
use Rattle.std.proofs.lemmas.Option.{slice_get-get_or}
use Rattle.cea_determinise.specs.Keys.{Decides-set}
use Rattle.query_state.proofs.lists.is_set.Goals as goal

pub returns-in-Some : goal.returns-in-Some
returns-in-Some c told =
    let within = c.in-Some.ensures.lookup.0 in
    let same = (Decides-set c.in-Some.known.now c.args.bits.now).0 (sym c.eq.ensures ∙ told) in
    slice_get-get_or c.args.sets.now c.args.number c.in-Some.known.now (grind (arith, within)) ∙ ap Some (sym c.in-Some.ensures.lookup.1 ∙ same)
