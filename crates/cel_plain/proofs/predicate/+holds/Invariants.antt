use Rattle.std.proofs.Common.{◌≡◌, true, false, take}
use Rattle.std.specs.List.{list_all, list_any}
use Rattle.cel_terms.specs.Predicate.{holds}
use Rattle.cel_plain.proofs.predicate.+holds.Given as goal

abbrev pub invariant-all_hold-loop-pred : goal.invariant-all_hold-loop-pred
invariant-all_hold-loop-pred l = list_all (λ p. holds l.schema p l.event) (take l.pred-index l.preds) ≡ true

abbrev pub invariant-any_holds-loop-pred : goal.invariant-any_holds-loop-pred
invariant-any_holds-loop-pred l = list_any (λ p. holds l.schema p l.event) (take l.pred-index l.preds) ≡ false
