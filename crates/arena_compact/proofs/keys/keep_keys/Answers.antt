use Rattle.std.proofs.Common.{◌≡◌, ◌++◌, ◌<◌, ℕ, List, All, length, map, take, ◌∙◌, arith}
use Rattle.std.proofs.lemmas.List.{take_all, length-map}
use Rattle.cer_base.specs.declared.node.Root.{Root}
use Rattle.cer_base.specs.Nodes.{IsRoot}
use Rattle.arena_compact.specs.Roots.{key_roots, row_roots}
use Rattle.arena_compact.proofs.Readings.{mapped_read, all_read, roots_more, places_more}
use Rattle.arena_compact.proofs.keys.keep_keys.Goals as goal

pub keep_rows-requires : goal.keep_rows-requires
keep_rows-requires g c =
    let f = g.K.HasLists.rows in
    let at = mapped_read f c.args.keys.now c.loop-k.k c.index-keys-k.result c.loop-k-test.true c.index-keys-k.is in
    let n = length-map c.args.keys.now f in
    let here = all_read (λ (rs : List (ℕ × List Root)). All (λ (s : ℕ × List Root). All (λ (e : Root). e.id < length c.args.table.now) s.1) rs) (map f c.args.keys.now) c.loop-k.k (f c.index-keys-k.result) (omega arith) at c.requires.inside in
    let long = c.loop-k.invariant.long in let wide = c.loop-k.invariant.wide in let even = c.requires.even in
    record { inside = rw (c.lists.ensures, c.loop-k.invariant.long) here; even = omega arith }

pub loop-k-preserved : goal.loop-k-preserved
loop-k-preserved g c =
    let f = g.K.HasLists.rows in let keys = map f c.args.keys.now in let rows = f c.index-keys-k.result in
    let n = length-map c.args.keys.now f in
    let at = mapped_read f c.args.keys.now c.loop-k.k c.index-keys-k.result c.loop-k-test.true c.index-keys-k.is in
    let lt : c.loop-k.k < length keys = omega arith in
    let long = c.loop-k.invariant.long in let paid = c.loop-k.invariant.paid in let step = rw (c.lists.ensures) at c.keep_rows.ensures.steps in
    let more = places_more keys c.loop-k.k rows lt at in
    record {
      marks = λ nodes roots le r h.
          let marked = rw (c.lists.ensures) at c.keep_rows.ensures.kept.marks in
          rw (roots_more (row_roots c.args.low) roots keys c.loop-k.k rows lt at)
          (marked nodes (roots ++ key_roots c.args.low (take c.loop-k.k keys)) (omega arith)
          (all_read (λ (rs : List (ℕ × List Root)). All (λ (s : ℕ × List Root). All (IsRoot nodes) s.1) rs) keys c.loop-k.k rows lt at r)
          (c.loop-k.invariant.marks nodes roots le r h));
      long = c.keep_rows.ensures.kept.long.0 ∙ long;
      wide = c.keep_rows.ensures.kept.long.1 ∙ c.loop-k.invariant.wide;
      few = omega arith;
      paid = omega arith;
    }

pub returns-clause-kept : goal.returns-clause-kept
returns-clause-kept g c = record {
  marks = λ nodes roots le r h.
      let keys = map g.K.HasLists.rows c.args.keys.now in
      let few = c.loop-k.invariant.few in let n = length-map c.args.keys.now g.K.HasLists.rows in
      let all : take c.loop-k.k keys ≡ keys = take_all c.loop-k.k keys (omega arith) in
      rw all at (c.loop-k.invariant.marks nodes roots le r h);
  long = (c.loop-k.invariant.long, c.loop-k.invariant.wide);
}
