use Rattle.std.proofs.Common.{◌≡◌, ◌<◌, ◌++◌, All, length, take, ◌∙◌, arith}
use Rattle.std.proofs.lemmas.List.{take_all, length-map}
use Rattle.tecs_enumerate.specs.Remaining.{CursorState, Fits, id_of}
use Rattle.std.specs.Prelude.{◌==◌, cond, map, []}
use Rattle.arena_compact.specs.Roots.{stack_roots, cursor_roots}
use Rattle.arena_compact.proofs.Readings.{mapped_read, all_read, roots_next}
use Rattle.arena_compact.proofs.cursors.keep_cursors.Goals as goal

pub keep_if-requires : goal.keep_if-requires
keep_if-requires g c =
    let f = g.C.HasCursor.walk in
    let at = mapped_read f c.args.cursors.now c.loop-k.k c.index-cursors-k.result c.loop-k-test.true c.index-cursors-k.is in
    let n = length-map c.args.cursors.now f in
    let lt : c.loop-k.k < length (map f c.args.cursors.now) = omega arith in
    let long = c.loop-k.invariant.long in let wide = c.loop-k.invariant.wide in let even = c.requires.even in
    record { inside = rw (c.cursor.ensures, c.loop-k.invariant.long) (all_read (λ (w : CursorState). w.query ≡ c.args.query → All (λ id. id < length c.args.table.now) (map id_of w.stack)) (map f c.args.cursors.now) c.loop-k.k (f c.index-cursors-k.result) lt at c.requires.inside); even = omega arith }

pub loop-k-preserved : goal.loop-k-preserved
loop-k-preserved g c =
    let long = c.loop-k.invariant.long in
    let f = g.C.HasCursor.walk in let ws = map f c.args.cursors.now in
    let at = mapped_read f c.args.cursors.now c.loop-k.k c.index-cursors-k.result c.loop-k-test.true c.index-cursors-k.is in
    let n = length-map c.args.cursors.now f in
    let lt : c.loop-k.k < length ws = omega arith in
    let marks = rw (c.cursor.ensures) at c.keep_if.ensures.marks in
    record {
      marks = λ nodes roots le fits h.
          rw (roots_next (λ (w : CursorState). cond (w.query == c.args.query) (stack_roots w) []) roots ws c.loop-k.k (f c.index-cursors-k.result) lt at)
          (marks nodes (roots ++ cursor_roots c.args.query (take c.loop-k.k ws)) (omega arith)
          (all_read (λ (w : CursorState). w.query ≡ c.args.query → Fits w nodes) ws c.loop-k.k (f c.index-cursors-k.result) lt at fits)
          (c.loop-k.invariant.marks nodes roots le fits h));
      long = c.keep_if.ensures.long.0 ∙ long;
      wide = c.keep_if.ensures.long.1 ∙ c.loop-k.invariant.wide;
      few = omega arith;
    }

pub returns : goal.returns
returns g c = record {
  marks = λ nodes roots le fits h.
      let ws = map g.C.HasCursor.walk c.args.cursors.now in
      let few = c.loop-k.invariant.few in let n = length-map c.args.cursors.now g.C.HasCursor.walk in
      let all : take c.loop-k.k ws ≡ ws = take_all c.loop-k.k ws (omega arith) in
      rw all at (c.loop-k.invariant.marks nodes roots le fits h);
  long = (c.loop-k.invariant.long, c.loop-k.invariant.wide);
}
