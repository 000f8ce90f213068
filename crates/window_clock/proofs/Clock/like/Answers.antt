use Rattle.std.proofs.Common.{◌≡◌, rules, sym, subst}
use Rattle.std.specs.Int.{w128}
use mir.Val.{SFits}
use Rattle.std.proofs.lemmas.Int.{to_z-of_z}
use Rattle.window_clock.specs.declared.Source.{Source}
use Rattle.window_clock.specs.Places.{IsOf, Seen}
use Rattle.window_clock.proofs.Tables.{same_attribute_tells}
use Rattle.window_clock.proofs.Clock.like.Goals as goal

pub returns-in_ok-clone-in-Attribute-Clock-clause-source : goal.returns-in_ok-clone-in-Attribute-Clock-clause-source
returns-in_ok-clone-in-Attribute-Clock-clause-source c schema other same of =
    let fits : SFits w128 c.in-Attribute-Clock.n = search rules in
    let read = subst (λ (s : Source). IsOf schema other s) c.in-Attribute-Clock.is-0 (subst (λ (s : Seen). IsOf schema other s.source) (sym c.self.view_is) of) in
    simp to_z-of_z (same_attribute_tells schema other c.args.window.now c.in-Attribute-Clock.field-0-1 c.in-Attribute-Clock.n c.in-Attribute-Clock.field-1-0 c.in-Attribute-Clock.places c.in_ok-clone-in-Attribute-Clock.field-0 c.in_ok-clone-in-Attribute-Clock.ensures.cases c.in-Attribute-Clock.is-1 same read)
