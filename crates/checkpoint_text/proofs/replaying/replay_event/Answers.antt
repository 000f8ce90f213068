use Rattle.std.proofs.Common.{[], ◌∷◌, ◌++◌}
use Rattle.query_engine.proofs.DenseNodes.{peaks_on, peaks_skip}
use Rattle.query_engine.proofs.Skipped.{skipping_keeps_dense}
use Rattle.query_engine.proofs.Windows.{event_keeps_dense}
use Rattle.checkpoint_text.proofs.Replayed.{no_time_back, blanks_to, event_pays, want_pays}
use Rattle.checkpoint_text.proofs.replaying.replay_event.Goals as goal

pub unreachable-requires : goal.unreachable-requires
unreachable-requires g c =
    let t = c.requires.in_time in
    let are = blanks_to c.args.engine.now.schema _ _ _ c.args.at.now.position t.blanks c.skip_to.ensures.count c.requires.ahead t.are in
    let falls = (rw c.in-Err-TimeBack.field-0-is at c.in-Err-TimeBack.ensures.time_back) (t.events ++ t.blanks) (c.skip_to.ensures.stands t.events t.blanks t.stands are) in
    no_time_back c.args.engine.now c.skip_to.new.self (t.events ++ t.blanks) c.args.at.now.event _ _ _ c.skip_to.ensures.same t.time falls

pub returns-in-Ok-clause-dense : goal.returns-in-Ok-clause-dense
returns-in-Ok-clause-dense g c = λ events blanks stands dense are.
    let there = c.skip_to.ensures.stands events blanks stands (blanks_to c.args.engine.now.schema _ _ _ c.args.at.now.position blanks c.skip_to.ensures.count c.requires.ahead are) in
    let before = skipping_keeps_dense c.args.engine.now c.skip_to.new.self events blanks c.skip_to.ensures.same c.skip_to.ensures.kept dense in
    event_keeps_dense c.skip_to.new.self c.see.new.self (events ++ blanks) c.args.at.now.event c.in-Ok.ensures.same (c.in-Ok.ensures.stands (events ++ blanks) there) c.in-Ok.ensures.added before

pub returns-in-Ok-clause-peaks : goal.returns-in-Ok-clause-peaks
returns-in-Ok-clause-peaks g c = λ before events blanks stands dense peaks are.
    let there = c.skip_to.ensures.stands events blanks stands (blanks_to c.args.engine.now.schema _ _ _ c.args.at.now.position blanks c.skip_to.ensures.count c.requires.ahead are) in
    let mid = skipping_keeps_dense c.args.engine.now c.skip_to.new.self events blanks c.skip_to.ensures.same c.skip_to.ensures.kept dense in
    let after = event_keeps_dense c.skip_to.new.self c.see.new.self (events ++ blanks) c.args.at.now.event c.in-Ok.ensures.same (c.in-Ok.ensures.stands (events ++ blanks) there) c.in-Ok.ensures.added mid in
    peaks_on before c.skip_to.new.self c.see.new.self (events ++ blanks) (c.args.at.now.event ∷ []) c.in-Ok.ensures.same c.args.at.now.event c.in-Ok.ensures.added after
    (peaks_skip before c.args.engine.now c.skip_to.new.self events blanks c.skip_to.ensures.same c.skip_to.ensures.kept peaks)

pub returns-in-Ok-clause-steps : goal.returns-in-Ok-clause-steps
returns-in-Ok-clause-steps g c = λ events blanks most stands are meet.
    let there = c.skip_to.ensures.stands events blanks stands (blanks_to c.args.engine.now.schema _ _ _ c.args.at.now.position blanks c.skip_to.ensures.count c.requires.ahead are) in
    event_pays c.args.engine.now c.skip_to.new.self c.see.new.self (events ++ blanks ++ c.args.at.now.event ∷ []) most _ _ c.skip_to.ensures.same c.in-Ok.ensures.same (c.in-Ok.ensures.stands (events ++ blanks) there) meet c.in-Ok.ensures.steps

pub returns-in-Err-Memory-clause-steps : goal.returns-in-Err-Memory-clause-steps
returns-in-Err-Memory-clause-steps g c = λ events blanks most stands are meet.
    let there = c.skip_to.ensures.stands events blanks stands (blanks_to c.args.engine.now.schema _ _ _ c.args.at.now.position blanks c.skip_to.ensures.count c.requires.ahead are) in
    want_pays c.args.engine.now c.skip_to.new.self (events ++ blanks ++ c.args.at.now.event ∷ []) most _ _ c.skip_to.ensures.same meet
    (λ met. (rw c.in-Err-Memory.field-0-is at c.in-Err-Memory.ensures.wanting_steps) (events ++ blanks) most there met)
