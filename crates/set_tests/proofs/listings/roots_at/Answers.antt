use Rattle.set_tests.proofs.Made.{roots_more}
use Rattle.set_tests.proofs.listings.roots_at.Goals.{in-Some+in_ok-push, in_default}
use Rattle.set_tests.proofs.listings.roots_at.Goals as goal

pub loop-place-preserved : goal.loop-place-preserved
loop-place-preserved g c = elim c.match-get.branch [
  | in-Some+in_ok-push w ↦ rw w.roots-is (roots_more _ _ _ _ w.in_ok-push.ensures.items c.loop-place.invariant w.root_of.ensures.root)
  | in_default w ↦ rw w.roots-is c.loop-place.invariant
]
