use Rattle.partition_table.proofs.Marked.{with_new}
use Rattle.partition_table.proofs.marks.mark_new.Goals as goal

pub returns : goal.returns
returns c keys long all = with_new c.args.marks.now.items c.begin.new.marks.items c.mark.new.marks.items c.args.count keys c.args.values.now c.begin.ensures c.mark.ensures.kept c.mark.ensures.marked long all
