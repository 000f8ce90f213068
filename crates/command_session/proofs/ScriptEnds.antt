-- The session after each line, and how the script ends.
use Rattle.std.proofs.Common.{◌≡◌, ℕ, inl, inr, List, [], ◌∷◌, ◌++◌, Option, Some, None, Ok, Err, sym, ◌∙◌, subst}
use Rattle.std.proofs.lemmas.List.{append-nil}
use Rattle.cer_base.specs.declared.OrMemory.{OrMemory}
use Rattle.cer_base.specs.declared.OrMemory.TheVariants.{Fault, Memory}
use Rattle.cer_outside.specs.Bytes.{TookAll, TookPart}
use Rattle.stream_schema.specs.Types.{Declared}
use Rattle.cel_terms.specs.declared.Query.{Query}
use Rattle.answer_blocks.specs.SinkBytes.{TookPrefix}
use Rattle.answer_blocks.proofs.Writing.{prefix_none, prefix_after}
use Rattle.stream_answers.proofs.Portions.{took_none, took_both, took_then_part, prefix_of_all}
use Rattle.stream_answers.specs.declared.StreamFault.{StreamFault}
use Rattle.stream_answers.specs.declared.StreamFault.TheVariants as fault
use Rattle.stream_answers.specs.RunEnds.{HasReadCause, HasWriteCause}
use Rattle.event_reader.specs.declared.LineFault.{LineFault}
use Rattle.event_reader.specs.declared.LineFault.TheVariants as line
use Rattle.event_reader.specs.LineReaders as reading
use Rattle.event_reader.specs.LineReaders.{LineReader, HasGiven, HasTold}
use Rattle.event_run.specs.Runs as stop
use Rattle.command_session.specs.SessionModel.{SessionModel, at_first}
use Rattle.command_session.specs.Sessions.{Session, Stands}
use Rattle.stream_answers.specs.Streams.{EventsRequest}
use Rattle.command_session.specs.Scripts.{WrotePart, WrotePlay, PlaysTo, BeginsPlay, WritesRead}
use Rattle.command_session.specs.Playing.{IsGood, IsBad, WentOn, BrokeOff, LineEnded, HasLineCause, HasPlayed, Goes, line_stop}
use Rattle.command_session.proofs.GoodLines.{one_more, at_end, at_read_fault, at_line, begins, nothing_played, begins_empty}

-- a first part of bytes after others
prefix_then : (before middle after : Option (List ℕ)) (x y : List ℕ) → TookAll before middle x → TookPrefix middle after y → TookPrefix before after (x ++ y)
prefix_then before middle after x y first second = prefix_after before middle after x y [] (x ++ y) (sym (append-nil (x ++ y))) first second

-- AT FIRST

abbrev pub begun : (schema : Declared) (queries : List Query) (reader : LineReader) (source taken : Option (List ℕ)) (session : Session) → Stands session at_first →
    ((script : List ℕ) → HasGiven reader script (Some script) []) → Goes schema queries source reader source taken taken session
begun schema queries reader source taken session stands given = record {
  machine = at_first;
  stands = stands;
  bytes = [];
  took = took_none taken;
  played = λ script same. let P : Option (List ℕ) → Type 0 = λ l. HasPlayed schema queries reader script l at_first [] in
      subst P (sym same) (nothing_played schema queries reader script (given script));
}

-- nothing was written, and memory ran out
pub wrote_none : (a : EventsRequest) (source taken : Option (List ℕ)) → WrotePart a source (TookPrefix taken taken)
wrote_none a source taken = record { bytes = []; took = prefix_none taken []; are = λ script same. begins_empty a.schema a.queries a.most_bytes script }

-- ONE LINE MORE

-- the lines with the one that was given last
pub line_played : (schema : Declared) (queries : List Query) (old new : LineReader) (script : List ℕ) (had left : Option (List ℕ)) (machine next : SessionModel) (bytes own : List ℕ) →
    ((texts : List (List ℕ)) → HasGiven old script had texts → HasGiven new script left (texts ++ new.text ∷ [])) → IsGood schema queries new.text machine next own →
    HasPlayed schema queries old script had machine bytes → HasPlayed schema queries new script left next (bytes ++ own)
line_played schema queries old new script had left machine next bytes own gives good played = record {
  texts = played.texts ++ new.text ∷ [];
  given = gives played.texts played.given;
  played = one_more schema queries at_first [] played.texts machine bytes new.text next own good played.played;
}

abbrev pub goes_further : (schema : Declared) (queries : List Query) (source : Option (List ℕ)) (old new : LineReader) (had left before middle after : Option (List ℕ)) (session now : Session) (text : List ℕ) → text ≡ new.text →
    ((script : List ℕ) (texts : List (List ℕ)) → HasGiven old script had texts → HasGiven new script left (texts ++ new.text ∷ [])) → (g : Goes schema queries source old had before middle session) →
    WentOn schema queries text g.machine now middle after → Goes schema queries source new left before after now
goes_further schema queries source old new had left before middle after session now text read gives g went = record {
  machine = went.next;
  stands = went.stands;
  bytes = g.bytes ++ went.own;
  took = took_both before middle after g.bytes went.own g.took went.took;
  played = λ script same.
      let good = subst (λ (t : List ℕ). IsGood schema queries t g.machine went.next went.own) read went.good in
      line_played schema queries old new script had left g.machine went.next g.bytes went.own (gives script) good (g.played script same);
}

-- the same over the session's own schema and queries
pub went_as : (schema now : Declared) (queries has : List Query) (text : List ℕ) (machine : SessionModel) (new : Session) (before after : Option (List ℕ)) → now ≡ schema → has ≡ queries →
    WentOn now has text machine new before after → WentOn schema queries text machine new before after
went_as schema now queries has text machine new before after one other went =
    let D : Declared → Type 0 = λ d. WentOn d has text machine new before after in
    let Q : List Query → Type 0 = λ qs. WentOn schema qs text machine new before after in
    subst Q other (subst D one went)

pub line_as : (schema now : Declared) (queries has : List Query) (number : ℕ) (text : List ℕ) (machine : SessionModel) (new : Session) (before after : Option (List ℕ)) (why : OrMemory StreamFault) → now ≡ schema → has ≡ queries →
    LineEnded now has number text machine new before after (Err why) → LineEnded schema queries number text machine new before after (Err why)
line_as schema now queries has number text machine new before after why one other ended =
    let D : Declared → Type 0 = λ d. LineEnded d has number text machine new before after (Err why) in
    let Q : List Query → Type 0 = λ qs. LineEnded schema qs number text machine new before after (Err why) in
    subst Q other (subst D one ended)

-- THE SCRIPT ENDS

pub ends_at_end : {T : Type 0} (a : EventsRequest) (source : Option (List ℕ)) (old new : LineReader) (had left before after : Option (List ℕ)) (session : Session) (done : T) → new.budget ≡ a.most_bytes →
    ((script : List ℕ) (texts : List (List ℕ)) → HasGiven old script had texts → HasTold new.budget script left texts None) →
    Goes a.schema a.queries source old had before after session → WrotePlay a source left before after {T = T} (Ok done)
ends_at_end a source old new had left before after session done budget told g = record {
  bytes = g.bytes;
  took = g.took;
  are = λ script same.
      let p = g.played script same in
      subst (λ n. PlaysTo a.schema a.queries n script g.bytes stop.End) budget (at_end a.schema a.queries new.budget script p.texts None g.machine g.bytes (told script p.texts p.given) p.played);
}

pub ends_for_line : (a : EventsRequest) (source : Option (List ℕ)) (old new : LineReader) (had left before after : Option (List ℕ)) (session : Session) (why : LineFault) → new.budget ≡ a.most_bytes →
    ((script : List ℕ) (texts : List (List ℕ)) → HasGiven old script had texts → HasTold new.budget script left texts (Some why)) →
    Goes a.schema a.queries source old had before after session → WrotePlay a source left before after {T = Unit {0}} (Err (Fault (line_stop why)))
ends_for_line a source old new had left before after session line.ReadFault budget told g = record {
  bytes = g.bytes;
  took = g.took;
  are = λ script same.
      let p = g.played script same in
      subst (λ n. WritesRead a.schema a.queries n script left g.bytes) budget
      (at_read_fault a.schema a.queries new.budget script left p.texts g.machine g.bytes (told script p.texts p.given) p.played);
}
ends_for_line a source old new had left before after session (line.LineTooLong number) budget told g = record {
  bytes = g.bytes;
  took = g.took;
  are = λ script same.
      let p = g.played script same in
      subst (λ n. PlaysTo a.schema a.queries n script g.bytes (stop.stop_of (Some (line.LineTooLong number)))) budget
      (at_end a.schema a.queries new.budget script p.texts (Some (line.LineTooLong number)) g.machine g.bytes (told script p.texts p.given) p.played);
}
ends_for_line a source old new had left before after session (line.InputTooLong most) budget told g = record {
  bytes = g.bytes;
  took = g.took;
  are = λ script same.
      let p = g.played script same in
      subst (λ n. PlaysTo a.schema a.queries n script g.bytes (stop.InputTooLong most)) budget
      (at_end a.schema a.queries new.budget script p.texts (Some (line.InputTooLong most)) g.machine g.bytes (told script p.texts p.given) p.played);
}

-- the bytes of the line that was given last were cut off
cut_off : (a : EventsRequest) (source : Option (List ℕ)) (old new : LineReader) (had left before middle : Option (List ℕ)) (session : Session) (Took Whole : List ℕ → Type 0) → new.budget ≡ a.most_bytes →
    ((script : List ℕ) (texts : List (List ℕ)) → HasGiven old script had texts → HasGiven new script left (texts ++ new.text ∷ [])) → (g : Goes a.schema a.queries source old had before middle session) →
    ((own : List ℕ) → Took own → Whole (g.bytes ++ own)) → BrokeOff a.schema a.queries new.text g.machine Took → WrotePart a source Whole
cut_off a source old new had left before middle session Took Whole budget gives g more broke = record {
  bytes = g.bytes ++ broke.own;
  took = more broke.own broke.took;
  are = λ script same.
      subst (λ n. BeginsPlay a.schema a.queries n script (g.bytes ++ broke.own)) budget
      (begins a.schema a.queries new script left broke.next (g.bytes ++ broke.own) (line_played a.schema a.queries old new script had left g.machine broke.next g.bytes broke.own (gives script) broke.good (g.played script same)));
}

-- the line that was given last ended the script
pub ends_in_line : (a : EventsRequest) (source : Option (List ℕ)) (old new : LineReader) (had left before middle after : Option (List ℕ)) (session now : Session) (why : OrMemory StreamFault) (number : ℕ) (text : List ℕ) →
    new.budget ≡ a.most_bytes → old.budget ≡ a.most_bytes → number ≡ new.number → text ≡ new.text →
    ((script : List ℕ) (texts : List (List ℕ)) → HasGiven old script had texts → HasGiven new script left (texts ++ new.text ∷ [])) → (g : Goes a.schema a.queries source old had before middle session) →
    LineEnded a.schema a.queries number text g.machine now middle after (Err why) → WrotePlay a source left before after {T = Unit {0}} (Err why)
ends_in_line a source old new had left before middle after session now (Fault (fault.Event at refused)) number text budget same numbered read gives g ended =
    let B : List ℕ → Type 0 = λ t. IsBad a.schema a.queries t g.machine refused in
    let bad = subst B read ended.2 in
    let P : ℕ → List ℕ → ℕ → Type 0 = λ n script k. PlaysTo a.schema a.queries n script g.bytes (stop.Event k refused) in
    let here : new.number ≡ at = sym numbered ∙ sym ended.0 in
    record {
      bytes = g.bytes;
      took = subst (λ w. TookAll before w g.bytes) (sym ended.1) g.took;
      are = λ script told.
          let p = g.played script told in
          subst (λ k. P a.most_bytes script k) here (subst (λ n. P n script new.number) budget
          (at_line a.schema a.queries new script left p.texts new.text g.machine g.bytes refused (gives script p.texts p.given) p.played bad));
    }
ends_in_line a source old new had left before middle after session now (Fault fault.WriteFault) number text budget same numbered read gives g ended =
    let B : List ℕ → Type 0 = λ t. BrokeOff a.schema a.queries t g.machine (TookPart middle after) in
    cut_off a source old new had left before middle session (TookPart middle after) (TookPart before after) budget gives g (λ own part. took_then_part before middle after g.bytes own g.took part) (subst B read ended)
ends_in_line a source old new had left before middle after session now (Fault (fault.InputTooLong taken)) number text budget same numbered read gives g ended = absurd ended
ends_in_line a source old new had left before middle after session now (Fault fault.ReadFault) number text budget same numbered read gives g ended = absurd ended
ends_in_line a source old new had left before middle after session now Memory number text budget same numbered read gives g ended = elim ended [
  | inl nothing ↦ record {
    bytes = g.bytes;
    took = subst (λ w. TookPrefix before w g.bytes) (sym nothing) (prefix_of_all before middle g.bytes g.took);
    are = λ script told. subst (λ n. BeginsPlay a.schema a.queries n script g.bytes) same (begins a.schema a.queries old script had g.machine g.bytes (g.played script told));
  }
  | inr broke ↦
      let B : List ℕ → Type 0 = λ t. BrokeOff a.schema a.queries t g.machine (TookPrefix middle after) in
      cut_off a source old new had left before middle session (TookPrefix middle after) (TookPrefix before after) budget gives g (λ own part. prefix_then before middle after g.bytes own g.took part) (subst B read broke)
]

-- THE COUNTS OF FAULTS

-- there is no further line
pub read_cause : (first before now : ℕ) (why : LineFault) → before ≡ first → reading.HasReadCause before now (Err why) → HasReadCause {T = Unit {0}} first now (Err (Fault (line_stop why)))
read_cause first before now line.ReadFault same cause = subst (λ (n : ℕ). HasReadCause {T = Unit {0}} n now (Err (Fault fault.ReadFault))) same cause
read_cause first before now (line.LineTooLong number) same cause = cause ∙ same
read_cause first before now (line.InputTooLong taken) same cause = cause ∙ same

pub no_write : (before now : ℕ) (why : LineFault) → now ≡ before → HasWriteCause {T = Unit {0}} before now (Err (Fault (line_stop why)))
no_write before now line.ReadFault same = same
no_write before now (line.LineTooLong number) same = same
no_write before now (line.InputTooLong taken) same = same

-- the line that was given last ended the script
pub line_read_cause : (before now first last : ℕ) (why : OrMemory StreamFault) → now ≡ before → HasLineCause first last (Err why) → HasReadCause {T = Unit {0}} before now (Err why)
line_read_cause before now first last (Fault (fault.Event at refused)) same cause = same
line_read_cause before now first last (Fault fault.WriteFault) same cause = inl same
line_read_cause before now first last (Fault (fault.InputTooLong taken)) same cause = absurd cause
line_read_cause before now first last (Fault fault.ReadFault) same cause = absurd cause
line_read_cause before now first last Memory same cause = same

pub line_write_cause : (first before now : ℕ) (why : OrMemory StreamFault) → before ≡ first → HasLineCause before now (Err why) → HasWriteCause {T = Unit {0}} first now (Err why)
line_write_cause first before now (Fault (fault.Event at refused)) same cause = cause ∙ same
line_write_cause first before now (Fault fault.WriteFault) same cause = subst (λ (n : ℕ). HasWriteCause {T = Unit {0}} n now (Err (Fault fault.WriteFault))) same cause
line_write_cause first before now (Fault (fault.InputTooLong taken)) same cause = absurd cause
line_write_cause first before now (Fault fault.ReadFault) same cause = absurd cause
line_write_cause first before now Memory same cause = cause ∙ same
