use Rattle.std.proofs.Common.{◌≡◌, ℕ, List, [], refl}
use Rattle.std.proofs.lemmas.List.Elements.{All-nil}
use Rattle.cer_base.specs.declared.node.Root.{Root}
use Rattle.event_update.proofs.Finding.{distinct_none, distinct_more}
use Rattle.set_tests.proofs.compactions.of_state_one.Goals as goal

pub of-requires : goal.of-requires
of-requires c = rw (c.in_ok-push.ensures.items, c.new-rows.ensures.items) (distinct_more 1 c.args.list [] (distinct_none [] refl) (All-nil (λ (r : ℕ × List Root). (r.0 ≡ 1) → ⊥)))
