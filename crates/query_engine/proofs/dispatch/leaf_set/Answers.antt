use Rattle.std.proofs.Common.{◌≡◌, ◌∙◌, Bool, List, length, ap, subst}
use Rattle.std.specs.Prelude.{IfOk}
use Rattle.cer_base.specs.Bits.{room_for}
use Rattle.cea_determinise.specs.Runs.{Automaton}
use Rattle.cea_compile.proofs.LeafAutomaton.{leaves_tell}
use Rattle.query_engine.proofs.dispatch.leaf_set.Goals as goal

pub returns : goal.returns
returns c = subst (λ n. IfOk c.blank.result (λ (b : List Bool). length b ≡ room_for n)) (ap length c.as_slice.ensures ∙ ap (λ (a : Automaton). a.size) (leaves_tell c.args.schema.now c.args.query.now c.in_ok-found.found c.in_ok-found.ensures.shape c.in_ok-found.ensures.list).automaton) c.blank.ensures.room
