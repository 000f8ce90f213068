use Rattle.std.proofs.Common.{[], ◌∙◌, List, Vec, Global, length, slice_index_or, refl, ap, rules, arith}
use Rattle.std.proofs.lemmas.List.{length_push}
use Rattle.query_index.specs.declared.rows.LeafRow.{LeafRow}
use Rattle.query_index.specs.Rows.{rows_of}
use Rattle.query_index.proofs.Listed.{same_more}
use Rattle.query_index.proofs.rows.grow.Goals as goal

pub loop-n-init : goal.loop-n-init
loop-n-init c = record { room = search rules; same = λ t. refl }

pub loop-n-preserved : goal.loop-n-preserved
loop-n-preserved c = record {
  room = (let was = c.loop-n.invariant.room in let long = ap (λ (vs : List (Vec LeafRow Global)). length vs) c.in_ok-push.ensures.items in let more = length_push c.loop-n.rows.items c.new.result in omega arith);
  same = λ t. ap (λ (vs : List (Vec LeafRow Global)). slice_index_or (rows_of vs) t []) c.in_ok-push.ensures.items ∙ (same_more c.loop-n.rows.items c.new.result c.new.ensures.items t ∙ c.loop-n.invariant.same t);
}

pub returns-clause-room : goal.returns-clause-room
returns-clause-room c =
    let was = c.loop-n.invariant.room in
    let end = c.in_ok-_n-end.ensures in
    let past = c.loop-n-test.false in
    omega arith
