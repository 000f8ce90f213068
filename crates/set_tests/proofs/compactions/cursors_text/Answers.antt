use Rattle.std.proofs.Common.{arith, ◌∙◌}
use Rattle.std.proofs.lemmas.List.{get_or-set_other}
use Rattle.set_tests.proofs.compactions.cursors_text.Goals as goal

pub write_all-requires-clause-fits : goal.write_all-requires-clause-fits
write_all-requires-clause-fits g c =
    let same = c.loop-k.invariant c.loop-k.k c.index-cursors-k.result (omega arith) in
    rw same (c.requires.fits c.loop-k.k c.index-cursors-k.result (omega arith))

pub loop-k-preserved : goal.loop-k-preserved
loop-k-preserved g c = λ j d le. get_or-set_other c.loop-k.cursors c.loop-k.k j c.write_all.new.cursor d (omega arith) ∙ c.loop-k.invariant j d (omega arith)
