use Rattle.std.proofs.Common.{◌≡◌, ◌∙◌, sym, Some, ap, length, ◌<◌, arith}
use Rattle.std.proofs.lemmas.Option.{slice_get-get_or}
use Rattle.cea_determinise.specs.Keys.{Decides-set}
use Rattle.cea_determinise.proofs.lazy_dfa.first_place.Goals as goal

pub returns-then-eq : goal.returns-then-eq
returns-then-eq c =
    let event_classes = c.args.event_classes.now in
    let found = c.index-event_classes-k.result in
    let within : c.loop-k.k < length event_classes = omega (arith, c.loop-k-test.true, c.min-k-end.ensures) in
    let same : found ≡ c.args.bits.now = (Decides-set found c.args.bits.now).0 (sym c.eq.ensures ∙ c.if-eq.true) in
    slice_get-get_or event_classes c.loop-k.k found within ∙ ap Some (sym c.index-event_classes-k.is ∙ same)
