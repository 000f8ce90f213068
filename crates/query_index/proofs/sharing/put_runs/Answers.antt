use Rattle.std.proofs.Common.{◌-◌, ◌++◌, subst, length, length-drop, drop, arith}
use Rattle.std.proofs.lemmas.List.{take_all}
use Rattle.query_index.specs.Index.{HaveSame, gathered}
use Rattle.query_index.proofs.Indexed.{taken_further, same_through}
use Rattle.query_index.proofs.sharing.put_runs.Goals as goal

pub loop-from-preserved : goal.loop-from-preserved
loop-from-preserved c =
    let both = taken_further c.args.leaves.now c.args.rows.now _ c.loop-from.from c.in_ok-from.field-0 c.args.indexes.now.items c.loop-from.indexes.items c.put_first.new.indexes.items c.loop-from.plain.items c.put_first.new.plain.items (take_all (length c.args.rows.now - c.loop-from.from) (drop c.loop-from.from c.args.rows.now) (let l = length-drop c.loop-from.from c.args.rows.now in omega arith)) c.loop-from.invariant.inside c.in_ok-from.ensures c.loop-from.invariant.same in
    record {
      inside = both.0;
      same = both.1;
      each = λ all. c.in_ok-from.ensures.each (c.loop-from.invariant.each all);
    }

pub returns-clause-rows : goal.returns-clause-rows
returns-clause-rows c = λ list h. same_through list (gathered c.loop-from.indexes.items ++ c.loop-from.plain.items) (gathered c.args.indexes.now.items ++ c.args.rows.now) (subst (λ xs. HaveSame (gathered c.args.indexes.now.items ++ xs) (gathered c.loop-from.indexes.items ++ c.loop-from.plain.items)) (take_all c.loop-from.from c.args.rows.now c.loop-from-test.false) c.loop-from.invariant.same) h
