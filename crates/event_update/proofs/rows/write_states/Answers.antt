use Rattle.std.proofs.Common.{arith, ◌≡◌, ◌<◌, ◌≤◌, length, sym, subst, ◌∙◌, ℕ, List, take, ◌+◌, set, get_or, slice_get, Some}
use Rattle.std.proofs.lemmas.Grind.{common_steps}
use Rattle.std.proofs.lemmas.Option.{slice_get-get_or}
use Rattle.cer_base.specs.declared.node.Root.{Root}
use Rattle.event_update.proofs.Finding.{row_read}
use Rattle.event_update.proofs.Moving.{moved_first, moved_next, moved_whole, moved_upto, few_numbers, few_rows, moved_inside}
use Rattle.event_update.proofs.rows.write_states.Goals as goal

pub loop-k-init : goal.loop-k-init
loop-k-init c = c.truncate.ensures.items ∙ sym (moved_first c.args.states.now (take (length c.args.states.now) c.args.rows.now.items))

pub loop-k-preserved : goal.loop-k-preserved
loop-k-preserved c =
    let ns = c.args.states.now in
    let rows = take (length ns) c.args.rows.now.items in
    let few : length c.truncate.new.self.items ≤ length ns = few_numbers ns c.args.rows.now.items c.truncate.new.self.items c.truncate.ensures.items in
    let long : c.len-k-end.result ≡ length c.truncate.new.self.items = grind (arith, common_steps, c.len-k-end.ensures) in
    let k : c.loop-k.k < length c.truncate.new.self.items = omega (arith, c.loop-k-test.true, long) in
    let inside : c.loop-k.k < length (moved_upto c.loop-k.k ns rows) = moved_inside c.loop-k.k ns rows c.truncate.new.self.items c.truncate.ensures.items k in
    let row = row_read c.loop-k.rows.items (moved_upto c.loop-k.k ns rows) c.loop-k.k c.index_mut.result.now c.loop-k.invariant c.index_mut.ensures.value inside in
    let there = subst (λ (rs : List (ℕ × List Root)). set rs c.loop-k.k (get_or ns c.loop-k.k 0, c.index_mut.result.now.1) ≡ moved_upto (c.loop-k.k + 1) ns rows) (sym c.loop-k.invariant) (moved_next ns rows c.loop-k.k (c.loop-k.k + 1) (get_or ns c.loop-k.k 0) c.index_mut.result.now (omega arith) (slice_get-get_or ns c.loop-k.k 0 (omega (arith, k, few))) (subst (λ (rs : List (ℕ × List Root)). slice_get rs c.loop-k.k ≡ Some c.index_mut.result.now) c.loop-k.invariant row)) in
    there

pub returns : goal.returns
returns c =
    let ns = c.args.states.now in
    let long : c.len-k-end.result ≡ length c.truncate.new.self.items = grind (arith, common_steps, c.len-k-end.ensures) in
    let all = few_rows c.truncate.new.self.items (take (length ns) c.args.rows.now.items) c.loop-k.k c.truncate.ensures.items (omega (arith, c.loop-k-test.false, long)) in
    c.loop-k.invariant ∙ moved_whole ns c.args.rows.now.items c.loop-k.k all
