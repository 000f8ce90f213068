use Rattle.std.proofs.Common.{sym, subst}
use Rattle.query_index.specs.Index.{IsBucket}
use Rattle.query_index.specs.Runs.{ArePieces}
use Rattle.query_index.proofs.Covered.{part_pieces}
use Rattle.query_index.proofs.Indexed.{buckets_next}
use Rattle.query_index.proofs.buckets.put_group.Goals as goal

pub loop-number-preserved : goal.loop-number-preserved
loop-number-preserved c = λ rows leaves place h was.
    let some = part_pieces rows leaves place c.args.whole.now c.part_of-wide.result c.args.pieces.now c.in_ok-some.some.items c.part_of-wide.ensures c.in_ok-some.ensures h in
    buckets_next rows leaves place c.args.whole.now.kind c.args.buckets.now.items c.loop-number.buckets.items c.push.new.self.items c.in_ok-bucket_of.field-0 c.in_ok-push.ensures.items (c.loop-number.invariant rows leaves place h) (subst (λ k. IsBucket rows leaves place k c.in_ok-bucket_of.field-0) c.part_of-wide.ensures.kinded (c.in_ok-bucket_of.ensures rows leaves place (subst (ArePieces rows leaves place c.part_of-wide.result) (sym c.as_slice.ensures.value) some))) was
