use Rattle.std.proofs.Common.{◌≡◌, List, length, sym, subst, arith}
use Rattle.std.proofs.lemmas.List.{with_items_is}
use Rattle.query_engine.specs.declared.sizes.Size.{Size}
use Rattle.query_engine.specs.Sizes.{AreKeptSmall}
use Rattle.query_engine.specs.Windows.{FollowsWindow}
use Rattle.query_engine.proofs.SmallSizes.{compacted_are_small}
use Rattle.stream_answers.specs.declared.schedule.TheConstants.{LEAST_SIZE}
use Rattle.stream_answers.proofs.Windows.{nothing_held, follows_kept}
use Rattle.stream_answers.proofs.schedule.begin.Goals as goal

pub returns-clause-follows : goal.returns-clause-follows
returns-clause-follows g c = λ peaks events f.
    let did = c.in_ok-compact.ensures in
    follows_kept peaks c.args.engine.now c.compact.new.self events did.same did.found did.peak (did.stands events f.stands) (did.dense events f.dense) f

pub returns-clause-small : goal.returns-clause-small
returns-clause-small g c = λ events stands dense.
    let did = c.in_ok-compact.ensures in
    let held = nothing_held c.compact.new.held did.held in
    let long : length c.note_all.new.bases ≡ c.in_ok-bases.bases.len = (let x = c.as_mut_slice.ensures.len in let y = c.note_all.auto.bases in omega arith) in
    let is = with_items_is c.in_ok-bases.bases c.note_all.new.bases long in
    let nodes = subst (FollowsWindow c.compact.new.self events) held (did.window events stands dense) in
    let keys = did.keys events stands in
    subst (λ (bs : List Size). AreKeptSmall LEAST_SIZE (length events) c.compact.new.self bs events) (sym is) (compacted_are_small c.compact.new.self c.note_all.new.bases events LEAST_SIZE nodes keys c.note_all.ensures)
