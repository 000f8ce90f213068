-- For callers: a script stops in one way, whatever the order in which its cursors give their answers; and what a whole script writes is what its first lines write, up to the one that stops it.
use Rattle.std.proofs.Common.{◌≡◌, ℕ, ◌+◌, inl, inr, List, [], ◌∷◌, ◌++◌, map, Option, Some, None, Result, Ok, Err, refl, sym, ◌∙◌, ap, subst}
use Rattle.stream_schema.specs.Types.{Declared}
use Rattle.cel_terms.specs.declared.Query.{Query}
use Rattle.ceql_parser.specs.QueryTrees.{query_tree}
use Rattle.event_reader.specs.declared.EventFault.{EventFault}
use Rattle.event_reader.specs.declared.LineFault.{LineFault}
use Rattle.event_reader.specs.Lines.{file_lines}
use Rattle.event_run.specs.Runs.{RunStop}
use Rattle.event_run.specs.Runs as stop
use Rattle.command_session.specs.declared.command.ScriptCommand.{ScriptCommand}
use Rattle.command_session.specs.SessionModel.{SessionModel, at_first}
use Rattle.command_session.specs.Scripts.{asked_by, AfterCommand, PlaysOn, PlaysTo, AfterGoodCommand, ArePlayed, BeginsPlay}
use Rattle.command_session.proofs.SameCursors.{AreAlike, turned, step_alike}
use Rattle.command_session.proofs.SameRefusals.{step_or_refused, one_reason}

-- a script over a line with this command, none or a refusal, and those after it
abbrev PlaysOver : Declared → List Query → ℕ → SessionModel → List ℕ → List (List ℕ) → Option LineFault → List ℕ → RunStop → Result (Option ScriptCommand) EventFault → Type 0
PlaysOver schema queries number old before texts why bytes halt line =
    AfterCommand schema queries number old before bytes halt (PlaysOn schema queries (number + 1) old before texts why bytes halt)
    (λ next own. PlaysOn schema queries (number + 1) next (before ++ own) texts why bytes halt) line

one_end : (schema : Declared) (ps qs : List Query) → map query_tree ps ≡ map query_tree qs → (number : ℕ) (a b : SessionModel) (x y : List ℕ) (texts : List (List ℕ)) (why : Option LineFault) (bytes again : List ℕ) (halt end : RunStop) →
    AreAlike a b → PlaysOn schema ps number a x texts why bytes halt → PlaysOn schema qs number b y texts why again end → halt ≡ end
one_end schema ps qs same number a b x y [] why bytes again halt end alike one other = one.1 ∙ sym other.1
one_end schema ps qs same number a b x y (text ∷ texts) why bytes again halt end alike one other =
    over (asked_by schema text) one other (one_end schema ps qs same (number + 1) a b x y texts why bytes again halt end alike)
    (λ m n v w. one_end schema ps qs same (number + 1) m n (x ++ v) (y ++ w) texts why bytes again halt end)
  where
    over : (line : Result (Option ScriptCommand) EventFault) → PlaysOver schema ps number a x texts why bytes halt line → PlaysOver schema qs number b y texts why again end line →
        (PlaysOn schema ps (number + 1) a x texts why bytes halt → PlaysOn schema qs (number + 1) b y texts why again end → halt ≡ end) →
        ((m n : SessionModel) (v w : List ℕ) → AreAlike m n → PlaysOn schema ps (number + 1) m (x ++ v) texts why bytes halt → PlaysOn schema qs (number + 1) n (y ++ w) texts why again end → halt ≡ end) →
        halt ≡ end
    over (Ok None) one other skip go = skip one other
    over (Ok (Some asked)) (inl s) (inl t) skip go =
        go s.next t.next s.own t.own (step_alike schema ps qs asked a b s.next t.next s.own t.own alike s.step t.step) s.follows t.follows
    over (Ok (Some asked)) (inl s) (inr t) skip go = absurd (step_or_refused schema ps qs asked a b s.next s.own t.1.why same alike s.step t.1.refused)
    over (Ok (Some asked)) (inr s) (inl t) skip go = absurd (step_or_refused schema qs ps asked b a t.next t.own s.1.why (sym same) (turned a b alike) t.step s.1.refused)
    over (Ok (Some asked)) (inr s) (inr t) skip go =
        s.1.stops ∙ ap (λ (f : EventFault). stop.Event number f) (one_reason schema ps qs asked a b s.1.why t.1.why same alike s.1.refused t.1.refused) ∙ sym t.1.stops
    over (Err refused) one other skip go = one.1 ∙ sym other.1

-- A script stops in one way.
pub stops_once : (schema : Declared) (ps qs : List Query) (most : ℕ) (script bytes again : List ℕ) (halt end : RunStop) → map query_tree ps ≡ map query_tree qs →
    PlaysTo schema ps most script bytes halt → PlaysTo schema qs most script again end → halt ≡ end
stops_once schema ps qs most script bytes again halt end same one other =
    one_end schema ps qs same 1 at_first at_first [] [] (file_lines most script).texts (file_lines most script).fault bytes again halt end (record { events = refl; numbers = refl }) one other

-- good lines, the first of which has this command or none
abbrev ArePlayedOver : Declared → List Query → SessionModel → List ℕ → List (List ℕ) → SessionModel → List ℕ → Result (Option ScriptCommand) EventFault → Type 0
ArePlayedOver schema queries old before texts new bytes line =
    AfterGoodCommand schema queries old (ArePlayed schema queries old before texts new bytes) (λ next own. ArePlayed schema queries next (before ++ own) texts new bytes) line

-- The first of the lines are good, and write these bytes in all.
record HasGoodFront (schema : Declared) (queries : List Query) (old : SessionModel) (before : List ℕ) (texts : List (List ℕ)) (bytes : List ℕ) : Type 0 where
  done : List (List ℕ)
  later : List (List ℕ)
  split : texts ≡ done ++ later
  new : SessionModel
  good : ArePlayed schema queries old before done new bytes

good_front : (schema : Declared) (queries : List Query) (number : ℕ) (old : SessionModel) (before : List ℕ) (texts : List (List ℕ)) (why : Option LineFault) (bytes : List ℕ) (halt : RunStop) →
    PlaysOn schema queries number old before texts why bytes halt → HasGoodFront schema queries old before texts bytes
good_front schema queries number old before [] why bytes halt play = record { done = []; later = []; split = refl; new = old; good = (refl, play.0) }
good_front schema queries number old before (text ∷ texts) why bytes halt play =
    over (asked_by schema text) refl play (good_front schema queries (number + 1) old before texts why bytes halt) (λ m own. good_front schema queries (number + 1) m (before ++ own) texts why bytes halt)
  where
    along : (done : List (List ℕ)) (new : SessionModel) (line : Result (Option ScriptCommand) EventFault) → asked_by schema text ≡ line → ArePlayedOver schema queries old before done new bytes line → ArePlayed schema queries old before (text ∷ done) new bytes
    along done new line is good = let P : Result (Option ScriptCommand) EventFault → Type 0 = ArePlayedOver schema queries old before done new bytes in subst P (sym is) good

    none_here : bytes ≡ before → HasGoodFront schema queries old before (text ∷ texts) bytes
    none_here same = record { done = []; later = text ∷ texts; split = refl; new = old; good = (refl, same) }

    over : (line : Result (Option ScriptCommand) EventFault) → asked_by schema text ≡ line → PlaysOver schema queries number old before texts why bytes halt line →
        (PlaysOn schema queries (number + 1) old before texts why bytes halt → HasGoodFront schema queries old before texts bytes) →
        ((m : SessionModel) (own : List ℕ) → PlaysOn schema queries (number + 1) m (before ++ own) texts why bytes halt → HasGoodFront schema queries m (before ++ own) texts bytes) →
        HasGoodFront schema queries old before (text ∷ texts) bytes
    over (Ok None) is play skip go =
        let rest = skip play in
        record { done = text ∷ rest.done; later = rest.later; split = ap (λ (t : List (List ℕ)). text ∷ t) rest.split; new = rest.new; good = along rest.done rest.new (Ok None) is rest.good }
    over (Ok (Some asked)) is (inl s) skip go =
        let rest = go s.next s.own s.follows in
        record {
          done = text ∷ rest.done;
          later = rest.later;
          split = ap (λ (t : List (List ℕ)). text ∷ t) rest.split;
          new = rest.new;
          good = along rest.done rest.new (Ok (Some asked)) is (record { next = s.next; own = s.own; step = s.step; follows = rest.good });
        }
    over (Ok (Some asked)) is (inr s) skip go = none_here s.0
    over (Err refused) is play skip go = none_here play.0

-- What a whole script writes is what its first lines write.
pub whole_begins : (schema : Declared) (queries : List Query) (most : ℕ) (script bytes : List ℕ) (halt : RunStop) → PlaysTo schema queries most script bytes halt → BeginsPlay schema queries most script bytes
whole_begins schema queries most script bytes halt play =
    let front = good_front schema queries 1 at_first [] (file_lines most script).texts (file_lines most script).fault bytes halt play in
    record { texts = front.done; later = front.later; first = front.split; writes = record { machine = front.new; played = front.good } }
