use Rattle.std.proofs.Common.{◌≡◌, subst, IfSome, Some, slice_get}
use Rattle.cea_determinise.specs.LazyDfa.{Table}
use Rattle.cea_determinise.proofs.EventClasses.{event_class_if_found}
use Rattle.cea_determinise.proofs.lazy_dfa.LazyDfa.cached_event_class.Goals as goal

pub returns-in-None-clause-found : goal.returns-in-None-clause-found
returns-in-None-clause-found c =
    subst (λ (t : Table). IfSome c.get_index_of.result (λ n. slice_get t.event_classes n ≡ Some c.args.bits.now)) c.self.view_is (event_class_if_found c.args.bits.now c.self.inside.event_classes.keys c.get_index_of.result c.get_index_of.ensures.index)
