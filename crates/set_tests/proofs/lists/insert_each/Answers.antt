use Rattle.std.proofs.Common.{arith, suc, ◌≡◌, ◌+◌, subst, sym, drop, ◌∷◌, get_or}
use Rattle.cer_base.proofs.Trees.{Grows-refl, Grows-trans}
use Rattle.set_tests.specs.Rows.{CanInsertAll}
use Rattle.set_tests.proofs.Taken.{can_insert_first, can_insert_rest, drop_here}
use Rattle.set_tests.proofs.lists.insert_each.Goals as goal

pub loop-k-init : goal.loop-k-init
loop-k-init g c = (Grows-refl _ c.requires.well_formed, c.requires.can)

pub insert-requires-clause-can : goal.insert-requires-clause-can
insert-requires-clause-can g c =
    can_insert_first _ _ _ _ (subst (CanInsertAll (g.S.NodeStore.nodes c.loop-k.store) c.loop-k.list) (drop_here c.loop-k.k c.args.ids.now _ (omega arith)) c.loop-k.invariant.1)

pub loop-k-preserved : goal.loop-k-preserved
loop-k-preserved g c =
    let can : CanInsertAll (g.S.NodeStore.nodes c.loop-k.store) c.loop-k.list (get_or c.args.ids.now c.loop-k.k _ ∷ drop (suc c.loop-k.k) c.args.ids.now) = subst (CanInsertAll (g.S.NodeStore.nodes c.loop-k.store) c.loop-k.list) (drop_here c.loop-k.k c.args.ids.now _ (omega arith)) c.loop-k.invariant.1 in
    let step : c.loop-k.k + 1 ≡ suc c.loop-k.k = omega arith in (
      Grows-trans _ _ _ c.loop-k.invariant.0 c.insert.ensures.grows,
      subst (λ j. CanInsertAll (g.S.NodeStore.nodes c.insert.new.store) c.insert.new.self (drop j c.args.ids.now)) (sym step) (can_insert_rest _ _ c.insert.ensures.grows _ _ _ _ can c.in_ok-insert.ensures.list c.in_ok-insert.ensures.inserted),
    )
