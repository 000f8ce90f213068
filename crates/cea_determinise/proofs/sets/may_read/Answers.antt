use Rattle.std.proofs.Common.{rules}
use Rattle.cer_base.specs.Bits.{has}
use Rattle.cea_determinise.specs.Cea.{row}
use Rattle.cea_determinise.proofs.Below.{three_unions, rows_are}
use Rattle.cea_determinise.proofs.sets.may_read.Goals as goal

pub returns : goal.returns
returns c =
    let cea = c.args.cea.now in
    let wf = c.requires in
    let near = cea.near.items in
    let far = cea.far.items in
    let fresh = has c.args.state_sets.now.fresh in
    let waiting = has c.args.state_sets.now.waiting in
    record {
      room = search rules;
      members = λ k. three_unions cea.size fresh waiting (λ j. row near j k) (λ j. row far j k) _ _ _ _ (c.in_ok-leaves.ensures.empty k)
          (rows_are cea.size k fresh c.as_slice.result.now near _ _ c.as_slice.ensures.value wf.near.count (c.unite_rows.ensures.members k))
          (rows_are cea.size k fresh c.as_slice-2.result.now far _ _ c.as_slice-2.ensures.value wf.far.count (c.unite_rows-2.ensures.members k))
          (rows_are cea.size k waiting c.as_slice-3.result.now far _ _ c.as_slice-3.ensures.value wf.far.count (c.unite_rows-3.ensures.members k));
    }
