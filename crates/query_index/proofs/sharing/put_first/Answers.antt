use Rattle.std.proofs.Common.{◌≡◌, sym, subst, length, take, arith}
use Rattle.query_index.specs.SharedTests.{AreSharing}
use Rattle.query_index.proofs.Indexed.{run_taken, plain_taken}
use Rattle.query_index.proofs.sharing.put_first.Goals as goal

pub returns-then-is_worth_it : goal.returns-then-is_worth_it
returns-then-is_worth_it c =
    let count : c.len-count.result ≡ length c.in_ok-shared.shared.rows.items = omega (arith, c.len-count.ensures) in
    run_taken c.args.leaves.now c.args.rows.now c.len-count.result c.args.indexes.now.items c.put_run.new.indexes.items c.args.plain.now.items c.in_ok-shared.shared (let some = c.is_worth_it.ensures c.if-is_worth_it.true in omega (arith, c.len-count.ensures)) (let inside = c.in_ok-shared.ensures.count in omega (arith, c.len-count.ensures)) c.in_ok-put_run.ensures.rows (c.in_ok-put_run.ensures.each c.args.leaves.now) (subst (λ n. AreSharing c.args.leaves.now (take n c.args.rows.now) c.in_ok-shared.shared) (sym count) c.in_ok-shared.ensures.rows)

pub returns : goal.returns
returns c = plain_taken c.args.leaves.now c.args.rows.now c.max-count.result c.args.indexes.now.items c.args.plain.now.items c.put_rows.new.plain.items (omega (arith, c.max-count.ensures)) (let inside = c.in_ok-shared.ensures.count in let some = c.requires in omega (arith, c.len-count.ensures, c.max-count.ensures)) c.in_ok-put_rows.ensures
