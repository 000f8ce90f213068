use Rattle.std.proofs.Common.{sym, subst, rules}
use Rattle.std.specs.Int.{w64}
use mir.Val.{SFits, to_z, of_z}
use Rattle.std.proofs.lemmas.Int.{to_z-of_z}
use Rattle.query_index.specs.Index.{AreRowsOver}
use Rattle.query_index.proofs.Covered.{part_rows}
use Rattle.query_index.proofs.buckets.bucket_of.Goals as goal

pub returns : goal.returns
returns c = λ rows leaves place h.
    let low : SFits w64 c.part_of-span.result.low = search rules in
    let high : SFits w64 c.part_of-span.result.high = search rules in
    subst (λ z. AreRowsOver rows leaves place (record { kind = c.args.wide.now.kind; low = z; high = to_z w64 (of_z w64 c.part_of-span.result.high) }) c.in_ok-rows.rows.items) (sym (to_z-of_z w64 c.part_of-span.result.low low))
    (subst (λ z. AreRowsOver rows leaves place (record { kind = c.args.wide.now.kind; low = c.part_of-span.result.low; high = z }) c.in_ok-rows.rows.items) (sym (to_z-of_z w64 c.part_of-span.result.high high))
    (part_rows rows leaves place c.args.wide.now c.part_of-span.result c.args.some.now c.in_ok-rows.rows.items c.part_of-span.ensures c.in_ok-rows.ensures h))
