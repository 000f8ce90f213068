use Rattle.std.proofs.Common.{sym, subst, ◌+◌}
use Rattle.cea_compile.proofs.Sets.{AreLinked, linked_here, linked_past}
use Rattle.cea_compile.proofs.followers.link.Goals.{then-contains, else-contains}
use Rattle.cea_compile.proofs.followers.link.Goals as goal

pub loop-j-preserved : goal.loop-j-preserved
loop-j-preserved c = elim c.if-contains.branch [
  | then-contains w ↦ linked_here c.args.size c.args.rows.now c.loop-j.rows c.if-contains.rows c.args.from.now c.args.to.now w.unite.new.self w.index-rows-j.result c.loop-j.j c.loop-j.invariant c.loop-j-test.true (sym w.if-contains.ensures) w.unite.ensures.members w.unite.ensures.room w.rows-is
  | else-contains w ↦ subst (λ rows. AreLinked c.args.size c.args.rows.now rows c.args.from.now c.args.to.now (c.loop-j.j + 1)) (sym w.rows-is) (linked_past c.args.size c.args.rows.now c.loop-j.rows c.args.from.now c.args.to.now c.loop-j.j c.loop-j.invariant (sym w.if-contains.ensures))
]
