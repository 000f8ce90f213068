use Rattle.std.proofs.Common.{◌∙◌, sym, ap, length, subst}
use Rattle.query_engine.specs.Times.{clocks_in}
use Rattle.query_engine.specs.Choosing.{AreNotedAll}
use Rattle.query_engine.proofs.Tending.{query_states_long, are_sizes}
use Rattle.query_engine.proofs.engine.Engine.note_all.Goals as goal

pub note_all-requires-clause-count : goal.note_all-requires-clause-count
note_all-requires-clause-count c = c.requires.bases ∙ (query_states_long c.self.inside.schema c.self.inside.count (clocks_in c.self.inside.times) c.self.inside.query_states.items c.self.inside.peaks.items c.args.self.now c.self.view_is ∙ ap length (sym c.as_slice.ensures.value))

pub returns : goal.returns
returns c =
    are_sizes c.self.inside.schema c.self.inside.count (clocks_in c.self.inside.times) c.self.inside.query_states.items c.self.inside.peaks.items c.args.self.now c.self.view_is c.note_all.new.bases (c.note_all.ensures.count ∙ c.requires.bases)
    (subst (λ ps. AreNotedAll (length ps) ps c.note_all.new.bases) c.as_slice.ensures.value c.note_all.ensures.noted)
