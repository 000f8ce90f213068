-- What holds of a session as a task. For `core_top`.
use Rattle.std.proofs.Common.{ℕ, inl, inr, List, Option}
use Rattle.cer_outside.specs.Content.{Content}
use Rattle.cer_outside.specs.Bytes.{TookAll}
use Rattle.answer_blocks.specs.SinkBytes.{TookPrefix}
use Rattle.event_run.specs.Runs.{RunStop, Event, InputTooLong}
use Rattle.stream_answers.proofs.Portions.{prefix_of_all}
use Rattle.command_words.specs.declared.SessionWords.{SessionWords}
use Rattle.command_base.proofs.Lawful.{IsLawful}
use Rattle.command_base.proofs.StepClauses.{Forgets}
use Rattle.cer_base.specs.declared.limits.TheConstants.{MOST_BYTES}
use Rattle.command_session.specs.Played.{ScriptWrites, ScriptBegins, WroteSteps, session_task}
use Rattle.command_session.specs.StepCounts.{script_asked, session_steps}
use Rattle.command_session.proofs.StopsOnce.{stops_once, whole_begins}
use Rattle.command_session.proofs.TurnsCounted.{forget_took}

-- all steps are a first part of them
some_steps : (content : List ℕ → Content) (s : SessionWords) (halt : RunStop) (before after : Option (List ℕ)) → WroteSteps content s (ScriptWrites halt) (TookAll before after) → WroteSteps content s ScriptBegins (TookPrefix before after)
some_steps content s halt before after wrote = record {
  has_queries = wrote.has_queries;
  has_script = wrote.has_script;
  bytes = wrote.bytes;
  took = prefix_of_all before after wrote.bytes wrote.took;
  are = λ text script first second.
      let all = wrote.are text script first second in record {
        schema = all.schema;
        queries = all.queries;
        accepted = all.accepted;
        says = whole_begins all.schema all.queries MOST_BYTES script wrote.bytes halt all.says;
      };
}

pub session_is_lawful : (s : SessionWords) → IsLawful (session_task s)
session_is_lawful s = record {
  one = λ schema p q kept script halt other same one two. stops_once schema p q MOST_BYTES script one.0 two.0 halt other same one.1 two.1;
  refused = λ content before after line fault wrote. inr (some_steps content s (Event line fault) before after wrote);
  too_long = λ content before after taken wrote. inr (some_steps content s (InputTooLong taken) before after wrote);
  nothing = λ content before after none. inl none;
}

pub session_forgets : (s : SessionWords) (content : List ℕ → Content) → Forgets (session_steps s content)
session_forgets s content = record {
  all = λ Stops Took old now h text script first second.
      let w = h text script first second in
      record { schema = w.schema; queries = w.queries; accepted = w.accepted; says = forget_took (script_asked w.schema w.queries) script Took Took old now w.says };
}
