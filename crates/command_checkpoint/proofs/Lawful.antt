-- What holds of a run that goes on from a checkpoint as a task. For `core_top`.
use Rattle.std.proofs.Common.{◌≡◌, ℕ, inl, inr, List, map, Option, Ok, sym, ◌∙◌, subst}
use Rattle.cer_outside.specs.Content.{Content}
use Rattle.answer_blocks.specs.SinkBytes.{TookPrefix}
use Rattle.stream_schema.specs.Types.{Declared}
use Rattle.stream_schema.specs.declared.Event.{Event as StreamEvent}
use Rattle.cel_terms.specs.declared.Query.{Query}
use Rattle.ceql_parser.specs.QueryTrees.{query_tree}
use Rattle.event_run.specs.Runs.{RunStop, Event, InputTooLong, RunsAfter}
use Rattle.checkpoint_text.specs.declared.history.History.{History}
use Rattle.stream_answers.proofs.Portions.{prefix_of_all}
use Rattle.command_words.specs.declared.ResumeWords.{ResumeWords}
use Rattle.command_base.proofs.Lawful.{IsLawful}
use Rattle.command_base.proofs.SameCheckpoint.{checkpoint_alike}
use Rattle.command_base.proofs.StepClauses.{Forgets}
use Rattle.command_checkpoint.specs.Resumed.{AfterEach}
use Rattle.command_checkpoint.specs.GoingOn.{WroteAllResumed, WrotePartResumed, resume_task}
use Rattle.command_checkpoint.specs.StepCounts.{resume_steps}
use Rattle.command_checkpoint.proofs.OneStream.{one_stop_after}

-- all answers are a first part of them
some_part : (content : List ℕ → Content) (r : ResumeWords) (halt : RunStop) (before after : Option (List ℕ)) → WroteAllResumed content r halt before after → WrotePartResumed content r (TookPrefix before after)
some_part content r halt before after wrote = record {
  has_queries = wrote.has_queries;
  has_checkpoint = wrote.has_checkpoint;
  has_events = wrote.has_events;
  over = λ text kept first second.
      let w = wrote.over text kept first second in record {
        schema = w.schema;
        queries = w.queries;
        history = w.history;
        accepted = w.accepted;
        told = w.told;
        says = λ earlier is.
            let all = w.says earlier is in record {
              bytes = all.bytes;
              took = prefix_of_all before after all.bytes all.took;
              are = λ lines file. record { events = all.events; stop = halt; runs = all.are lines file; output = all.output };
            };
      };
}

-- what a checkpoint tells is one history, and the events after it stop in one way
one_stop : (r : ResumeWords) (schema : Declared) (p q : List Query) (kept lines : List ℕ) (halt other : RunStop) → map query_tree p ≡ map query_tree q → (resume_task r).stops schema p kept lines halt → (resume_task r).stops schema q kept lines other → halt ≡ other
one_stop r schema p q kept lines halt other same one two =
    let answers : Ok one.0 ≡ Ok two.0 = sym one.1 ∙ checkpoint_alike schema p q same kept ∙ two.1 in
    let histories : one.0 ≡ two.0 = cc in
    let Q : History → Type 0 = λ h. AfterEach schema h (λ earlier. (events : List StreamEvent) × RunsAfter earlier schema q r.most_bytes lines events other) in
    one_stop_after schema p q one.0 r.most_bytes kept lines halt other same one.1 one.2 (subst Q (sym histories) two.2)

pub resume_is_lawful : (r : ResumeWords) → IsLawful (resume_task r)
resume_is_lawful r = record {
  one = one_stop r;
  refused = λ content before after line fault wrote. inr (some_part content r (Event line fault) before after wrote);
  too_long = λ content before after taken wrote. inr (some_part content r (InputTooLong taken) before after wrote);
  nothing = λ content before after none. inl none;
}

pub resume_forgets : (r : ResumeWords) (content : List ℕ → Content) → Forgets (resume_steps r content)
resume_forgets r content = record {
  all = λ Stops Took old now h text kept lines first second third.
      let w = h text kept lines first second third in record {
        schema = w.schema;
        queries = w.queries;
        history = w.history;
        accepted = w.accepted;
        told = w.told;
        says = λ earlier is.
            let c = w.says earlier is in record { events = c.events; stop = c.stop; runs = c.runs; stops = tt; rows = c.rows; are_rows = c.are_rows; took = tt; bounded = c.bounded };
      };
}
