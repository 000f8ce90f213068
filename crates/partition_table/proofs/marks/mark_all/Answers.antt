use Rattle.std.proofs.Common.{◌<◌, ◌≤◌, List, All, length, subst, take_all, arith}
use Rattle.stream_schema.specs.declared.Value.{Value}
use Rattle.partition_table.specs.Digests.{IsMarked}
use Rattle.partition_table.proofs.Marked.{next_marked}
use Rattle.partition_table.proofs.marks.mark_all.Goals as goal

pub loop-k-preserved : goal.loop-k-preserved
loop-k-preserved c =
    let inside : c.loop-k.k < length c.args.keys.now.keys = (let count = c.len-k-end.ensures.len in let less = c.loop-k-test.true in omega arith) in
    next_marked c.loop-k.marks.items c.mark_key.new.marks.items c.args.keys.now.keys c.loop-k.k inside c.mark_key.ensures.kept c.mark_key.ensures.marked c.loop-k.invariant

pub returns : goal.returns
returns c =
    let all : length c.args.keys.now.keys ≤ c.loop-k.k = (let count = c.len-k-end.ensures.len in let more = c.loop-k-test.false in omega arith) in
    subst (λ (keys : List (List Value)). All (IsMarked c.loop-k.marks.items) keys) (take_all c.loop-k.k c.args.keys.now.keys all) c.loop-k.invariant
