use Rattle.std.proofs.Common.{◌≡◌, ◌++◌, ◌<◌, ℕ, List, All, length, take, ◌∙◌, arith}
use Rattle.std.proofs.lemmas.List.{take_all}
use Rattle.cer_base.specs.declared.node.Root.{Root}
use Rattle.cer_base.specs.Nodes.{IsRoot}
use Rattle.arena_compact.specs.Roots.{list_roots, row_roots}
use Rattle.arena_compact.proofs.Readings.{row_at, all_read, roots_more, entries_more}
use Rattle.arena_compact.proofs.rows.keep_rows.Goals as goal

pub keep_list-requires : goal.keep_list-requires
keep_list-requires g c =
    let at = row_at c.args.active.now.entries c.loop-k.k c.list.result.now c.list.ensures in
    let here = all_read (λ (s : ℕ × List Root). All (λ (e : Root). e.id < length c.args.table.now) s.1) c.args.active.now.entries c.loop-k.k at.row at.inside at.is c.requires.inside in
    let long = c.loop-k.invariant.long in let wide = c.loop-k.invariant.wide in let even = c.requires.even in
    record { inside = rw (← at.list, c.loop-k.invariant.long) here; even = omega arith }

pub loop-k-preserved : goal.loop-k-preserved
loop-k-preserved g c =
    let at = row_at c.args.active.now.entries c.loop-k.k c.list.result.now c.list.ensures in
    let long = c.loop-k.invariant.long in let paid = c.loop-k.invariant.paid in let step = rw (← at.list) at c.keep_list.ensures.steps in
    let more = entries_more c.args.active.now.entries c.loop-k.k at.row at.inside at.is in
    record {
      marks = λ nodes roots le r h.
          let marked = rw (← at.list) at c.keep_list.ensures.kept.marks in
          rw (roots_more (λ (s : ℕ × List Root). list_roots c.args.low s.1) roots c.args.active.now.entries c.loop-k.k at.row at.inside at.is)
          (marked nodes (roots ++ row_roots c.args.low (take c.loop-k.k c.args.active.now.entries)) (omega arith)
          (all_read (λ (s : ℕ × List Root). All (IsRoot nodes) s.1) c.args.active.now.entries c.loop-k.k at.row at.inside at.is r)
          (c.loop-k.invariant.marks nodes roots le r h));
      long = c.keep_list.ensures.kept.long.0 ∙ long;
      wide = c.keep_list.ensures.kept.long.1 ∙ c.loop-k.invariant.wide;
      few = (let lt = at.inside in omega arith);
      paid = omega arith;
    }

pub returns-clause-kept : goal.returns-clause-kept
returns-clause-kept g c = record {
  marks = λ nodes roots le r h.
      let few = c.loop-k.invariant.few in
      let all : take c.loop-k.k c.args.active.now.entries ≡ c.args.active.now.entries = take_all c.loop-k.k c.args.active.now.entries (omega arith) in
      rw all at (c.loop-k.invariant.marks nodes roots le r h);
  long = (c.loop-k.invariant.long, c.loop-k.invariant.wide);
}
