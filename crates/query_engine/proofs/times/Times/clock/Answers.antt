use Rattle.std.proofs.Common.{◌≡◌, ◌-◌, ◌<◌, Some, length, sym, subst, slice_get, slice_index_or, arith, rules}
use Rattle.std.proofs.lemmas.List.{get_or_read}
use Rattle.query_engine.proofs.GroupClocks.{clock_of_query}
use Rattle.query_engine.proofs.GroupLoops.{at_here}
use Rattle.query_engine.proofs.times.Times.clock.Goals as goal

pub overflow_sub-index : goal.overflow_sub-index
overflow_sub-index c =
    let is : c.index.result.now ≡ slice_index_or c.args.self.now.numbers.items c.args.k 0 = get_or_read c.args.self.now.numbers.items c.args.k c.index.result.now c.requires.there c.index.ensures 0 in
    let low = (c.requires.inside c.args.k c.requires.there).0 in
    omega arith

pub index-requires-2 : goal.index-requires-2
index-requires-2 c =
    let is : c.index.result.now ≡ slice_index_or c.args.self.now.numbers.items c.args.k 0 = get_or_read c.args.self.now.numbers.items c.args.k c.index.result.now c.requires.there c.index.ensures 0 in
    let w = c.requires.inside c.args.k c.requires.there in
    let inside : c.index.result.now - 1 < length c.args.self.now.groups.items = (let low = w.0 in let high = w.1 in omega arith) in
    search rules

pub returns : goal.returns
returns c =
    let is : c.index.result.now ≡ slice_index_or c.args.self.now.numbers.items c.args.k 0 = get_or_read c.args.self.now.numbers.items c.args.k c.index.result.now c.requires.there c.index.ensures 0 in
    let w = c.requires.inside c.args.k c.requires.there in
    let inside : c.index.result.now - 1 < length c.args.self.now.groups.items = (let low = w.0 in let high = w.1 in omega arith) in
    let at = subst (λ n. slice_get c.args.self.now.groups.items (n - 1) ≡ Some c.index-2.result.now) is (at_here c.args.self.now.groups.items (c.index.result.now - 1) c.index-2.result.now inside c.index-2.ensures) in
    sym (clock_of_query c.args.self.now.groups.items c.args.self.now.numbers.items c.args.k c.index-2.result.now c.requires.there at)
