use Rattle.std.proofs.Common.{◌+◌, ◌∙◌, length, map, subst, sym, arith}
use Rattle.all_or_none.specs.Phases.{AreSet, MayAnswer, AreUnchanged, AreOfMarked}
use Rattle.all_or_none.proofs.BothPhases.{stands_after, idle_after, quiet_after, grown_after, bounds_after}
use Rattle.all_or_none.proofs.Marked.{has_within, known_after, left_after, left_again, no_ops_there, unchanged_after}
use Rattle.all_or_none.proofs.see.Goals as goal

pub returns-in-Ok-clause-stands : goal.returns-in-Ok-clause-stands
returns-in-Ok-clause-stands g c events len time stands = stands_after (g.P.Participant.phase c.args.position) (g.P.Participant.phase (c.args.position + 1)) events c.args.event.now c.args.position c.args.query_states.now c.prepare_all.new.query_states c.commit_all.new.query_states len c.in-Ok.ensures.kept c.commit_all.ensures.taken time stands

pub returns-in-Ok-clause-idle : goal.returns-in-Ok-clause-idle
returns-in-Ok-clause-idle g c = idle_after (g.P.Participant.phase c.args.position) (g.P.Participant.phase (c.args.position + 1)) c.args.event.now c.args.position c.prepare_all.new.query_states c.commit_all.new.query_states c.commit_all.ensures.taken

pub returns-in-Ok-clause-quiet : goal.returns-in-Ok-clause-quiet
returns-in-Ok-clause-quiet g c = quiet_after (g.P.Participant.phase c.args.position) (g.P.Participant.phase (c.args.position + 1)) c.args.event.now c.args.position c.prepare_all.new.query_states c.commit_all.new.query_states c.commit_all.ensures.taken

pub returns-in-Err-clause-unchanged : goal.returns-in-Err-clause-unchanged
returns-in-Err-clause-unchanged g c = unchanged_after g.P.Participant.phase c.args.position c.args.marked.now c.args.query_states.now c.prepare_all.new.query_states c.take_back_all.new.query_states c.requires.idle c.prepare_all.ensures.kept c.prepare_all.ensures.others c.take_back_all.ensures

pub returns-in-Ok-clause-grown : goal.returns-in-Ok-clause-grown
returns-in-Ok-clause-grown g c = grown_after (g.P.Participant.phase c.args.position) (g.P.Participant.phase (c.args.position + 1)) c.args.event.now c.args.position c.args.query_states.now c.prepare_all.new.query_states c.commit_all.new.query_states c.in-Ok.ensures.kept c.commit_all.ensures.taken

pub returns-in-Ok-clause-steps : goal.returns-in-Ok-clause-steps
returns-in-Ok-clause-steps g c =
    let own = c.in-Ok.ensures.steps in
    let same = bounds_after (g.P.Participant.phase c.args.position) (g.P.Participant.phase (c.args.position + 1)) c.args.event.now c.args.position c.prepare_all.new.query_states c.commit_all.new.query_states c.commit_all.ensures.taken in
    omega arith

pub returns-in-Ok-clause-answering : goal.returns-in-Ok-clause-answering
returns-in-Ok-clause-answering g c = subst (λ ns. MayAnswer ns (map (g.P.Participant.phase (c.args.position + 1)) c.commit_all.new.query_states)) c.as_slice.ensures.value c.commit_all.ensures.answering

pub commit_all-requires-clause-set : goal.commit_all-requires-clause-set
commit_all-requires-clause-set g c = subst (λ ns. AreSet (g.P.Participant.phase c.args.position) (g.P.Participant.phase (c.args.position + 1)) c.args.event.now c.args.position (length c.prepare_all.new.query_states) ns c.prepare_all.new.query_states) (sym c.as_slice.ensures.value) c.in-Ok.ensures.set

pub commit_all-requires-clause-inside : goal.commit_all-requires-clause-inside
commit_all-requires-clause-inside g c k among =
    let marked = subst (AreOfMarked c.args.marked.now) (sym c.as_slice.ensures.value) c.in-Ok.ensures.marked k among in
    let less = has_within c.args.marked.now k marked in
    let active = c.requires.sets.0 in
    let open_ones = c.requires.sets.1 in
    (omega arith, omega arith)

pub prepare_all-requires-clause-no_ops : goal.prepare_all-requires-clause-no_ops
prepare_all-requires-clause-no_ops g c = no_ops_there g.P.Participant.phase c.args.event.now c.args.position c.args.activity.now c.args.marked.now c.args.query_states.now c.requires.idle c.requires.can c.requires.left c.requires.active c.requires.spared

pub returns-in-Ok-clause-left : goal.returns-in-Ok-clause-left
returns-in-Ok-clause-left g c =
    left_after g.P.Participant.phase c.args.position c.args.activity.now c.commit_all.new.activity c.as_slice.result.now c.args.query_states.now c.prepare_all.new.query_states c.commit_all.new.query_states c.prepare_all.auto.query_states
    (known_after g.P.Participant.phase c.args.event.now c.args.position c.args.query_states.now c.prepare_all.new.query_states c.commit_all.new.query_states c.in-Ok.ensures.kept c.commit_all.ensures.taken c.requires.left.known)
    c.requires.left
    (subst (λ ns. AreUnchanged g.P.Participant.phase ns c.args.query_states.now c.prepare_all.new.query_states) (sym c.as_slice.ensures.value) c.in-Ok.ensures.left)
    c.commit_all.ensures.others c.commit_all.ensures.looked

pub returns-in-Err-clause-still_left : goal.returns-in-Err-clause-still_left
returns-in-Err-clause-still_left g c =
    let same = unchanged_after g.P.Participant.phase c.args.position c.args.marked.now c.args.query_states.now c.prepare_all.new.query_states c.take_back_all.new.query_states c.requires.idle c.prepare_all.ensures.kept c.prepare_all.ensures.others c.take_back_all.ensures in
    left_again g.P.Participant.phase c.args.position c.args.marked.now c.args.activity.now (record { active_queries = c.unite.new.self; open_queries = c.unite-in-Err.new.self }) c.args.query_states.now c.take_back_all.new.query_states same (λ k unmarked. c.take_back_all.ensures.others k unmarked ∙ c.prepare_all.ensures.others k unmarked) c.requires.left c.unite.ensures.members c.unite-in-Err.ensures.members
