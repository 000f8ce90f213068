use Rattle.std.proofs.Common.{refl, subst, IfSome}
use Rattle.query_index.specs.SharedTests.{IsMask}
use Rattle.query_index.proofs.TestWords.{sharing_past, sharing_put}
use Rattle.query_index.proofs.shared_tests.put_sharing.Goals as goal

pub returns-in_ok-push-in-Some-clause-put : goal.returns-in_ok-push-in-Some-clause-put
returns-in_ok-push-in-Some-clause-put c = λ yes leaves rows at are.
    let mask = subst (λ o. IfSome o (λ m. IsMask c.mask_of.new.shared.items m c.args.leaf.now.tests)) c.in-Some.is c.in_ok-mask.ensures.mask in
    sharing_put leaves rows c.args.row.now c.args.shared.now (record { tests = c.mask_of.new.shared; rows = c.push.new.self }) _ c.in_ok-push-in-Some.ensures.items c.in_ok-mask.ensures.grown (record { leaf = c.args.leaf.now; at = at; mask = mask; waits = refl; query = refl; number = refl }) are

pub returns-in-None-clause-past : goal.returns-in-None-clause-past
returns-in-None-clause-past c = λ no_more leaves rows are. sharing_past leaves rows c.args.shared.now (record { tests = c.mask_of.new.shared; rows = c.args.shared.now.rows }) refl c.in_ok-mask.ensures.grown are
