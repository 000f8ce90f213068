-- Two such models carry the same command out or refuse it both, and for one reason.
use Rattle.std.proofs.Common.{◌≡◌, ℕ, zero, suc, ◌-◌, ◌<◌, ℤ, List, [], ◌∷◌, length, map, slice_get, Some, None, refl, sym, ◌∙◌, ap, subst, arith}
use Rattle.std.proofs.lemmas.List.{length-map}
use Rattle.stream_schema.specs.Types.{Declared}
use Rattle.stream_schema.specs.declared.Event.{Event}
use Rattle.cel_terms.specs.declared.Query.{Query}
use Rattle.ceql_parser.specs.QueryTrees.{query_tree}
use Rattle.event_reader.specs.declared.EventFault.TheVariants as event
use Rattle.query_engine.specs.Clocks.{NoneFallsBack, IsFirstToFall}
use Rattle.event_run.proofs.Alike.{none_as, first_as}
use Rattle.event_run.proofs.FirstFalls.{not_both, one_first}
use Rattle.command_session.specs.declared.command.ScriptCommand.{ScriptCommand}
use Rattle.command_session.specs.declared.command.ScriptCommand.TheVariants as command
use Rattle.command_session.specs.declared.session.Refusal.{Refusal}
use Rattle.command_session.specs.declared.session.Refusal.TheVariants as refusal
use Rattle.command_session.specs.SessionModel.{SessionModel, IsStep, OpenStep, IsRefused, OpenRefused, CursorRefused, EventRefused, cursor_place}
use Rattle.command_session.specs.Scripts.{refusal_fault}
use Rattle.command_session.proofs.SameCursors.{AreAlike, same_place}

-- queries that say the same are as many
same_count : (ps qs : List Query) → map query_tree ps ≡ map query_tree qs → length ps ≡ length qs
same_count ps qs same = sym (length-map ps query_tree) ∙ ap length same ∙ length-map qs query_tree

within_get : (qs : List Query) (k : ℕ) (q : Query) → slice_get qs k ≡ Some q → k < length qs
within_get [] k q at = absurd (let clash : None ≡ Some q = at in cc)
within_get (x ∷ qs) zero q at = omega arith
within_get (x ∷ qs) (suc k) q at = let rest = within_get qs k q at in omega (arith, rest)

-- A CURSOR IS OPENED OR NOT

opened_or_not : (schema : Declared) (ps qs : List Query) (query cursor : ℕ) (a b next : SessionModel) (own : List ℕ) (why : Refusal) → length ps ≡ length qs → AreAlike a b →
    OpenStep schema ps query cursor a next own → OpenRefused qs query cursor b why → ⊥
opened_or_not schema ps qs query cursor a b next own (refusal.NoQuery q) count alike step refused =
    let within = within_get ps (query - 1) step.q step.numbered in
    let one = step.one in
    refused.1 (one, omega (arith, one, within, count))
opened_or_not schema ps qs query cursor a b next own refusal.NoEventYet count alike step refused =
    let none = ap length (alike.events ∙ refused.2) in
    let some = step.seen in
    absurd (omega (arith, none, some))
opened_or_not schema ps qs query cursor a b next own (refusal.CursorOpen c) count alike step refused = refused.4 (sym (same_place cursor a b alike) ∙ step.free)
opened_or_not schema ps qs query cursor a b next own (refusal.CursorNotOpen c) count alike step refused = refused
opened_or_not schema ps qs query cursor a b next own (refusal.TimeBack q before now) count alike step refused = refused

-- why it is not opened, of the other model
not_opened_as : (ps qs : List Query) (query cursor : ℕ) (a b : SessionModel) (why : Refusal) → length ps ≡ length qs → AreAlike a b → OpenRefused ps query cursor a why → OpenRefused qs query cursor b why
not_opened_as ps qs query cursor a b (refusal.NoQuery q) count alike refused = (refused.0, λ inside. refused.1 (inside.0, (let i = inside.1 in omega (arith, i, count))))
not_opened_as ps qs query cursor a b refusal.NoEventYet count alike refused = (refused.0, (let i = refused.1 in omega (arith, i, count)), sym alike.events ∙ refused.2)
not_opened_as ps qs query cursor a b (refusal.CursorOpen c) count alike refused = (
  refused.0,
  refused.1,
  (let i = refused.2 in omega (arith, i, count)),
  subst (λ (es : List Event). 0 < length es) alike.events refused.3,
  λ none. refused.4 (same_place cursor a b alike ∙ none),
)
not_opened_as ps qs query cursor a b (refusal.CursorNotOpen c) count alike refused = refused
not_opened_as ps qs query cursor a b (refusal.TimeBack q before now) count alike refused = refused

some_event : (es : List Event) → es ≡ [] → 0 < length es → ⊥
some_event es none some = let n = ap length none in absurd (omega (arith, n, some))

one_open : (qs : List Query) (query cursor : ℕ) (b : SessionModel) (why other : Refusal) → OpenRefused qs query cursor b why → OpenRefused qs query cursor b other → why ≡ other
one_open qs query cursor b (refusal.NoQuery p) (refusal.NoQuery q) one two = ap (λ (n : ℕ). refusal.NoQuery n) (one.0 ∙ sym two.0)
one_open qs query cursor b (refusal.NoQuery p) refusal.NoEventYet one two = absurd (one.1 (two.0, two.1))
one_open qs query cursor b (refusal.NoQuery p) (refusal.CursorOpen c) one two = absurd (one.1 (two.1, two.2))
one_open qs query cursor b (refusal.NoQuery p) (refusal.CursorNotOpen c) one two = absurd two
one_open qs query cursor b (refusal.NoQuery p) (refusal.TimeBack q before now) one two = absurd two
one_open qs query cursor b refusal.NoEventYet (refusal.NoQuery q) one two = absurd (two.1 (one.0, one.1))
one_open qs query cursor b refusal.NoEventYet refusal.NoEventYet one two = refl
one_open qs query cursor b refusal.NoEventYet (refusal.CursorOpen c) one two = absurd (some_event b.events one.2 two.3)
one_open qs query cursor b refusal.NoEventYet (refusal.CursorNotOpen c) one two = absurd two
one_open qs query cursor b refusal.NoEventYet (refusal.TimeBack q before now) one two = absurd two
one_open qs query cursor b (refusal.CursorOpen d) (refusal.NoQuery q) one two = absurd (two.1 (one.1, one.2))
one_open qs query cursor b (refusal.CursorOpen d) refusal.NoEventYet one two = absurd (some_event b.events two.2 one.3)
one_open qs query cursor b (refusal.CursorOpen d) (refusal.CursorOpen c) one two = ap (λ (n : ℕ). refusal.CursorOpen n) (one.0 ∙ sym two.0)
one_open qs query cursor b (refusal.CursorOpen d) (refusal.CursorNotOpen c) one two = absurd two
one_open qs query cursor b (refusal.CursorOpen d) (refusal.TimeBack q before now) one two = absurd two
one_open qs query cursor b (refusal.CursorNotOpen d) why one two = absurd one
one_open qs query cursor b (refusal.TimeBack p from to) why one two = absurd one

-- A CURSOR IS ASKED FOR THAT IS NOT OPEN

cursor_or_not : (cursor place : ℕ) (a b : SessionModel) (why : Refusal) → AreAlike a b → cursor_place cursor a ≡ Some place → CursorRefused cursor b why → ⊥
cursor_or_not cursor place a b (refusal.CursorNotOpen c) alike here refused = let clash : Some place ≡ None = sym here ∙ same_place cursor a b alike ∙ refused.1 in cc
cursor_or_not cursor place a b (refusal.NoQuery q) alike here refused = refused
cursor_or_not cursor place a b refusal.NoEventYet alike here refused = refused
cursor_or_not cursor place a b (refusal.CursorOpen c) alike here refused = refused
cursor_or_not cursor place a b (refusal.TimeBack q before now) alike here refused = refused

cursor_why : (cursor : ℕ) (b : SessionModel) (why : Refusal) → CursorRefused cursor b why → why ≡ refusal.CursorNotOpen cursor
cursor_why cursor b (refusal.CursorNotOpen c) refused = ap (λ (n : ℕ). refusal.CursorNotOpen n) refused.0
cursor_why cursor b (refusal.NoQuery q) refused = absurd refused
cursor_why cursor b refusal.NoEventYet refused = absurd refused
cursor_why cursor b (refusal.CursorOpen c) refused = absurd refused
cursor_why cursor b (refusal.TimeBack q before now) refused = absurd refused

-- AN EVENT COMES OR TIME FALLS

event_or_not : (schema : Declared) (ps qs : List Query) (event : Event) (a b : SessionModel) (why : Refusal) → map query_tree ps ≡ map query_tree qs → AreAlike a b →
    NoneFallsBack schema ps a.events event → EventRefused schema qs event b why → ⊥
event_or_not schema ps qs event a b (refusal.TimeBack query before now) same alike none refused =
    let N : List Event → Type 0 = λ es. NoneFallsBack schema qs es event in
    not_both schema qs b.events event query before now (subst N alike.events (none_as schema ps qs a.events event same none)) refused
event_or_not schema ps qs event a b (refusal.NoQuery q) same alike none refused = refused
event_or_not schema ps qs event a b refusal.NoEventYet same alike none refused = refused
event_or_not schema ps qs event a b (refusal.CursorOpen c) same alike none refused = refused
event_or_not schema ps qs event a b (refusal.CursorNotOpen c) same alike none refused = refused

event_as : (schema : Declared) (ps qs : List Query) (event : Event) (a b : SessionModel) (why : Refusal) → map query_tree ps ≡ map query_tree qs → AreAlike a b →
    EventRefused schema ps event a why → EventRefused schema qs event b why
event_as schema ps qs event a b (refusal.TimeBack query before now) same alike refused =
    subst (λ (es : List Event). IsFirstToFall schema qs es event query before now) alike.events (first_as schema ps qs a.events event query before now same refused)
event_as schema ps qs event a b (refusal.NoQuery q) same alike refused = refused
event_as schema ps qs event a b refusal.NoEventYet same alike refused = refused
event_as schema ps qs event a b (refusal.CursorOpen c) same alike refused = refused
event_as schema ps qs event a b (refusal.CursorNotOpen c) same alike refused = refused

one_event : (schema : Declared) (qs : List Query) (e : Event) (b : SessionModel) (why other : Refusal) → EventRefused schema qs e b why → EventRefused schema qs e b other → refusal_fault why ≡ refusal_fault other
one_event schema qs e b (refusal.TimeBack p from to) (refusal.TimeBack q before now) one two =
    let same = one_first schema qs b.events e p q from before to now one two in
    ap (λ (k : ℕ). event.TimeBack k from to) same.query_is ∙ ap (λ (k : ℤ). event.TimeBack q k to) same.before_is ∙ ap (λ (k : ℤ). event.TimeBack q before k) same.now_is
one_event schema qs e b (refusal.TimeBack p from to) (refusal.NoQuery q) one two = absurd two
one_event schema qs e b (refusal.TimeBack p from to) refusal.NoEventYet one two = absurd two
one_event schema qs e b (refusal.TimeBack p from to) (refusal.CursorOpen c) one two = absurd two
one_event schema qs e b (refusal.TimeBack p from to) (refusal.CursorNotOpen c) one two = absurd two
one_event schema qs e b (refusal.NoQuery q) why one two = absurd one
one_event schema qs e b refusal.NoEventYet why one two = absurd one
one_event schema qs e b (refusal.CursorOpen c) why one two = absurd one
one_event schema qs e b (refusal.CursorNotOpen c) why one two = absurd one

-- ANY COMMAND

-- It is not carried out by one and refused by the other,
pub step_or_refused : (schema : Declared) (ps qs : List Query) (asked : ScriptCommand) (a b next : SessionModel) (own : List ℕ) (why : Refusal) → map query_tree ps ≡ map query_tree qs → AreAlike a b →
    IsStep schema ps asked a next own → IsRefused schema qs asked b why → ⊥
step_or_refused schema ps qs (command.Event e) a b next own why same alike step refused = event_or_not schema ps qs e a b why same alike step.in_time refused
step_or_refused schema ps qs (command.OpenAt query cursor) a b next own why same alike step refused = opened_or_not schema ps qs query cursor a b next own why (same_count ps qs same) alike step refused
step_or_refused schema ps qs (command.Pull cursor n) a b next own why same alike step refused = cursor_or_not cursor step.place a b why alike step.here refused
step_or_refused schema ps qs (command.Drop cursor) a b next own why same alike step refused = cursor_or_not cursor step.place a b why alike step.here refused
step_or_refused schema ps qs command.Compact a b next own why same alike step refused = refused

-- nor refused by both for two reasons.
pub one_reason : (schema : Declared) (ps qs : List Query) (asked : ScriptCommand) (a b : SessionModel) (why other : Refusal) → map query_tree ps ≡ map query_tree qs → AreAlike a b →
    IsRefused schema ps asked a why → IsRefused schema qs asked b other → refusal_fault why ≡ refusal_fault other
one_reason schema ps qs (command.Event e) a b why other same alike one two = one_event schema qs e b why other (event_as schema ps qs e a b why same alike one) two
one_reason schema ps qs (command.OpenAt query cursor) a b why other same alike one two =
    ap refusal_fault (one_open qs query cursor b why other (not_opened_as ps qs query cursor a b why (same_count ps qs same) alike one) two)
one_reason schema ps qs (command.Pull cursor n) a b why other same alike one two = ap refusal_fault (cursor_why cursor a why one ∙ sym (cursor_why cursor b other two))
one_reason schema ps qs (command.Drop cursor) a b why other same alike one two = ap refusal_fault (cursor_why cursor a why one ∙ sym (cursor_why cursor b other two))
one_reason schema ps qs command.Compact a b why other same alike one two = absurd one
