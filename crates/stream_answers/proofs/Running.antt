-- A run from event to event.
use Rattle.std.proofs.Common.{◌≡◌, ℕ, ◌-◌, ◌≤◌, List, [], ◌∷◌, ◌++◌, length, Option, Some, Ok, refl, sym, ◌∙◌, ap, subst, append_assoc, length-append, arith}
use Rattle.std.proofs.lemmas.List.{append-nil}
use Rattle.stream_schema.specs.Types.{Declared}
use Rattle.stream_schema.specs.declared.Event.{Event}
use Rattle.cel_terms.specs.declared.Query.{Query}
use Rattle.cer_outside.specs.Bytes.{TookAll}
use Rattle.answer_text.specs.declared.Order.{Order}
use Rattle.answer_text.specs.Output.{AreBlocks}
use Rattle.query_engine.specs.Engine.{EngineState, StandsFor}
use Rattle.event_run.specs.Runs.{RunStop}
use Rattle.output_laws.specs.After.{IsOutputAfter}
use Rattle.output_laws.proofs.After.{after_none, after_grows_at_last}
use Rattle.stream_answers.specs.declared.events.Step.TheVariants as step
use Rattle.stream_answers.specs.Events.{Begins, Lasts, AfterStep}
use Rattle.stream_answers.specs.Gathering.{PassesOn, Running}
use Rattle.stream_answers.specs.Streams.{RunRequest}
use Rattle.stream_answers.proofs.Portions.{took_none, took_both}

-- a fact in the words of another schema and other queries, which are the same
pub in_words : (P : Declared → List Query → Type 0) (s t : Declared) (qs rs : List Query) → s ≡ t → qs ≡ rs → P s qs → P t rs
in_words P s t qs rs same alike p = subst (λ l. P t l) alike (subst (λ d. P d qs) same p)

-- the run begins as that which was there at first does
pub begins_first : (First Takes : List ℕ → List Event → RunStop → Type 0) (lines : List ℕ) (events : List Event) → Lasts First Takes → Begins Takes lines events → Begins First lines events
begins_first First Takes lines events lasts b = (b.0, b.1, lasts lines (events ++ b.0) b.1 b.2)

-- at the beginning
abbrev pub starts : (Takes : List ℕ → List Event → RunStop → Type 0) (Has : List ℕ → List Event → Type 0) (earlier : List Event) (a : RunRequest) (source before : Option (List ℕ)) (buffer : List ℕ) (engine : EngineState) →
    StandsFor engine earlier → ((lines : List ℕ) → source ≡ Some lines → Has lines earlier) → ((lines : List ℕ) → Begins Takes lines earlier) → buffer ≡ [] → Running Takes Has earlier a source before before buffer engine
starts Takes Has earlier a source before buffer engine stands given begins empty = record {
  events = earlier;
  stands = stands;
  written = [];
  took = took_none before;
  behind = omega arith;
  output = subst (IsOutputAfter (length earlier) a.order a.schema a.queries earlier) (sym empty) (after_none (length earlier) a.order a.schema a.queries earlier refl);
  given = given;
  begins = λ lines same. begins lines;
}

-- The engine took one event more, whose answers are not put yet.
pub record Owing (Takes : List ℕ → List Event → RunStop → Type 0) (Has : List ℕ → List Event → Type 0) (earlier : List Event) (a : RunRequest) (source before after : Option (List ℕ)) (buffer : List ℕ) (engine : EngineState) : Type 0 where
  pub events : List Event
  pub next : Event
  pub stands : StandsFor engine (events ++ next ∷ [])
  pub written : List ℕ
  pub took : TookAll before after written
  pub behind : length earlier ≤ length events
  pub output : IsOutputAfter (length earlier) a.order a.schema a.queries events (written ++ buffer)
  pub given : (lines : List ℕ) → source ≡ Some lines → Has lines (events ++ next ∷ [])
  pub begins : (lines : List ℕ) → source ≡ Some lines → Begins Takes lines (events ++ next ∷ [])

-- a step gave the event
abbrev pub owes : (First Takes : List ℕ → List Event → RunStop → Type 0) (Had Has Reads : List ℕ → List Event → Type 0) (earlier : List Event) (a : RunRequest) (source before after : Option (List ℕ)) (buffer : List ℕ) (engine now : EngineState) → Lasts First Takes →
    (r : Running First Had earlier a source before after buffer engine) → AfterStep Had Has Takes Reads engine now r.events (Ok step.Event) → Owing First Has earlier a source before after buffer now
owes First Takes Had Has Reads earlier a source before after buffer engine now lasts r took = record {
  events = r.events;
  next = took.0;
  stands = took.1;
  written = r.written;
  took = r.took;
  behind = r.behind;
  output = r.output;
  given = λ lines same. (took.2 lines (r.given lines same)).0;
  begins = λ lines same. begins_first First Takes lines (r.events ++ took.0 ∷ []) lasts (took.2 lines (r.given lines same)).1;
}

-- The engine stands for the same, whatever was done with it.
abbrev pub owes_still : (Takes : List ℕ → List Event → RunStop → Type 0) (Has : List ℕ → List Event → Type 0) (earlier : List Event) (a : RunRequest) (source before after : Option (List ℕ)) (buffer : List ℕ) (engine now : EngineState) → (o : Owing Takes Has earlier a source before after buffer engine) →
    StandsFor now (o.events ++ o.next ∷ []) → Owing Takes Has earlier a source before after buffer now
owes_still Takes Has earlier a source before after buffer engine now o stands = record {
  events = o.events;
  next = o.next;
  stands = stands;
  written = o.written;
  took = o.took;
  behind = o.behind;
  output = o.output;
  given = o.given;
  begins = o.begins;
}

-- Its answers came.
pub record Came (a : RunRequest) (events : List Event) (blocks : List ℕ) : Type 0 where
  pub blocks_are : AreBlocks a.order a.schema 1 a.queries events (length events - 1) blocks

pub came_as : (a : RunRequest) (order : Order) (schema : Declared) (queries : List Query) (events : List Event) (blocks : List ℕ) → order ≡ a.order → schema ≡ a.schema → queries ≡ a.queries →
    AreBlocks order schema 1 queries events (length events - 1) blocks → Came a events blocks
came_as a order schema queries events blocks o s q are =
    let O : Order → Type 0 = λ x. AreBlocks x schema 1 queries events (length events - 1) blocks in
    let S : Declared → Type 0 = λ x. AreBlocks a.order x 1 queries events (length events - 1) blocks in
    let Q : List Query → Type 0 = λ x. AreBlocks a.order a.schema 1 x events (length events - 1) blocks in
    record { blocks_are = subst Q q (subst S s (subst O o are)) }

-- the output with them
pub output_with : (earlier : List Event) (a : RunRequest) (events : List Event) (next : Event) (written buffer blocks : List ℕ) → length earlier ≤ length events → IsOutputAfter (length earlier) a.order a.schema a.queries events (written ++ buffer) → Came a (events ++ next ∷ []) blocks →
    IsOutputAfter (length earlier) a.order a.schema a.queries (events ++ next ∷ []) (written ++ (buffer ++ blocks))
output_with earlier a events next written buffer blocks behind output came =
    let P : List ℕ → Type 0 = IsOutputAfter (length earlier) a.order a.schema a.queries (events ++ next ∷ []) in
    subst P (append_assoc written buffer blocks) (after_grows_at_last (length earlier) a.order a.schema a.queries events next (written ++ buffer) blocks behind output came.blocks_are)

-- bytes that were written or held in turn
pub in_turn : (written buffer blocks more now rest : List ℕ) → buffer ++ blocks ≡ more ++ (now ++ rest) → written ++ (buffer ++ blocks) ≡ (written ++ more) ++ now ++ rest
in_turn written buffer blocks more now rest whole =
    ap (λ w. written ++ w) whole ∙ sym (append_assoc written more (now ++ rest)) ∙ sym (append_assoc (written ++ more) now rest)

-- the answers were put
abbrev pub runs_on : (Takes : List ℕ → List Event → RunStop → Type 0) (Has : List ℕ → List Event → Type 0) (earlier : List Event) (a : RunRequest) (source before middle after : Option (List ℕ)) (buffer blocks now : List ℕ) (engine : EngineState) → (o : Owing Takes Has earlier a source before middle buffer engine) →
    Came a (o.events ++ o.next ∷ []) blocks → PassesOn middle after buffer blocks now [] → Running Takes Has earlier a source before after now engine
runs_on Takes Has earlier a source before middle after buffer blocks now engine o came passed =
    let P : List ℕ → Type 0 = IsOutputAfter (length earlier) a.order a.schema a.queries (o.events ++ o.next ∷ []) in
    record {
      events = o.events ++ o.next ∷ [];
      stands = o.stands;
      written = o.written ++ passed.written;
      took = took_both before middle after o.written passed.written o.took passed.took;
      behind = (let long = length-append o.events (o.next ∷ []) in let b = o.behind in omega (arith, long, b));
      output = subst P (in_turn o.written buffer blocks passed.written now [] passed.whole ∙ append-nil ((o.written ++ passed.written) ++ now)) (output_with earlier a o.events o.next o.written buffer blocks o.behind o.output came);
      given = o.given;
      begins = o.begins;
    }

-- what was written and held, where some of what was held was written
pub passed_lines : (written buffer more now : List ℕ) → buffer ++ [] ≡ more ++ (now ++ []) → written ++ buffer ≡ (written ++ more) ++ now
passed_lines written buffer more now whole =
    ap (λ w. written ++ w) (sym (append-nil buffer)) ∙ (in_turn written buffer [] more now [] whole ∙ append-nil ((written ++ more) ++ now))

-- nothing was held, so nothing is
last_empty : (xs ys : List ℕ) → xs ++ ys ≡ [] → ys ≡ []
last_empty [] ys none = none
last_empty (x ∷ xs) ys none = absurd cc

pub still_none : (before after : Option (List ℕ)) (buffer now : List ℕ) → PassesOn before after buffer [] now [] → buffer ≡ [] → now ≡ []
still_none before after buffer now passed none =
    let all : passed.written ++ (now ++ []) ≡ [] = sym passed.whole ∙ (append-nil buffer ∙ none) in
    sym (append-nil now) ∙ last_empty passed.written (now ++ []) all

-- A step gave no event, and what was held was written, or waits on.
abbrev pub waits_on : (Takes : List ℕ → List Event → RunStop → Type 0) (Had Has : List ℕ → List Event → Type 0) (earlier : List Event) (a : RunRequest) (source before middle after : Option (List ℕ)) (buffer now : List ℕ) (engine last : EngineState) → last ≡ engine →
    (r : Running Takes Had earlier a source before middle buffer engine) → ((bytes : List ℕ) → Had bytes r.events → Has bytes r.events) → PassesOn middle after buffer [] now [] → Running Takes Has earlier a source before after now last
waits_on Takes Had Has earlier a source before middle after buffer now engine last kept r gives passed =
    let P : List ℕ → Type 0 = IsOutputAfter (length earlier) a.order a.schema a.queries r.events in
    record {
      events = r.events;
      stands = subst (λ (e : EngineState). StandsFor e r.events) (sym kept) r.stands;
      written = r.written ++ passed.written;
      took = took_both before middle after r.written passed.written r.took passed.took;
      behind = r.behind;
      output = subst P (passed_lines r.written buffer passed.written now passed.whole) r.output;
      given = λ lines same. gives lines (r.given lines same);
      begins = r.begins;
    }
