-- The answers after all events that came are those after what the windows still need of them.
use Rattle.std.proofs.Common.{◌≡◌, ℕ, zero, suc, ◌+◌, ◌-◌, ◌<◌, ◌≤◌, ◌⊎◌, inl, inr, ℤ, pos, ◌+ℤ◌, ◌≤ℤ◌, ◌||◌, Bool, true, false, not, cond, List, [], ◌∷◌, ◌++◌, filter, length, refl, sym, ap, subst, ◌∙◌, All, Option, Some, None, slice_get, slice_index_or, arith, length-append}
use Rattle.std.specs.Prelude.{◌↔◌, fold, int_lt, if◌then◌else◌}
use Rattle.std.specs.List.{list_any}
use Rattle.std.proofs.lemmas.Int.{ints}
use Rattle.std.proofs.lemmas.Bool.{cases_lt}
use Rattle.std.proofs.lemmas.Option.{slice_get_within, slice_get-get_or}
use Rattle.stream_schema.specs.Types.{Declared, IsWellDeclared}
use Rattle.stream_schema.specs.Events.{IsOfSchema}
use Rattle.stream_schema.specs.declared.Event.{Event}
use Rattle.stream_schema.specs.declared.Value.{Value}
use Rattle.stream_schema.specs.declared.Value.TheVariants as value
use Rattle.cel_terms.specs.declared.Query.{Query}
use Rattle.cel_terms.specs.declared.Window.{Window}
use Rattle.cel_terms.specs.declared.Window.TheVariants.{Free, Events, Clock}
use Rattle.cel_terms.specs.Checked.{IsChecked}
use Rattle.cel_terms.specs.Predicate.{attr_value}
use Rattle.cel_terms.specs.Answers.{Answer, IsAnswer, HasClock, WithinWidth}
use Rattle.cel_terms.specs.EventsRead.{query_reads}
use Rattle.window_clock.specs.Clocks.{int_of, clock_of}
use Rattle.output_laws.specs.AnswerLaws.{IsSameFor, AreSameWithin}
use Rattle.output_laws.proofs.EarlierAnswers.{spans, look_within, within_turned}
use Rattle.query_standing.proofs.Reading.{reads_is, is_read}
use Rattle.query_state.proofs.Clocks.{each_has_clock}
use Rattle.query_engine.specs.Clocks.{Reads, HasClockAt, NeverFalls}
use Rattle.query_engine.specs.Skipping.{IsBlank}
use Rattle.query_engine.proofs.Skipped.{blank_unread}
use Rattle.checkpoint_text.specs.declared.history.EventAt.{EventAt}
use Rattle.checkpoint_text.specs.declared.keeping.KeptLine.{KeptLine}
use Rattle.checkpoint_text.specs.QueryClocks.{clock_at, later_clock, last_clock}
use Rattle.checkpoint_text.specs.Keeping.{is_within, are_within, needs, is_needed}
use Rattle.checkpoint_text.specs.KeepLaws.{placed_lines_from, placed_lines, events_of, kept_lines, told_stream}
use Rattle.checkpoint_text.specs.Streams.{AreEventsFrom, IsStreamOf, stream_of}

pub from_zero : (n : ℕ) → 0 + n ≡ n
from_zero n = omega arith

-- PLACES IN LISTS

pub get_left : {A : Type 0} (xs ys : List A) (k : ℕ) → k < length xs → slice_get (xs ++ ys) k ≡ slice_get xs k
get_left [] ys k less = absurd (omega arith)
get_left (x ∷ xs) ys zero less = refl
get_left (x ∷ xs) ys (suc k) less = get_left xs ys k (omega arith)

pub get_right : {A : Type 0} (xs ys : List A) (k : ℕ) → slice_get (xs ++ ys) (length xs + k) ≡ slice_get ys k
get_right [] ys k = ap (slice_get ys) (from_zero k)
get_right (x ∷ xs) ys k = let more : suc (length xs) + k ≡ suc (length xs + k) = omega arith in ap (slice_get (x ∷ (xs ++ ys))) more ∙ get_right xs ys k

-- after lists that are as long as each other the same stands
get_behind : {A : Type 0} (xs zs ys : List A) (k : ℕ) → length xs ≡ length zs → length xs ≤ k → slice_get (xs ++ ys) k ≡ slice_get (zs ++ ys) k
get_behind xs zs ys k same past =
    let at : k ≡ length xs + (k - length xs) = omega arith in
    let too : k ≡ length zs + (k - length xs) = omega arith in
    ap (slice_get (xs ++ ys)) at ∙ get_right xs ys (k - length xs) ∙ sym (get_right zs ys (k - length xs)) ∙ ap (slice_get (zs ++ ys)) (sym too)

one_some : {A : Type 0} (x y : A) → Some x ≡ Some y → x ≡ y
one_some x y e = cc

pub all_there : {A : Type 0} (P : A → Type 0) (xs : List A) (k : ℕ) (x : A) → All P xs → slice_get xs k ≡ Some x → P x
all_there P xs k x all at =
    let inside = slice_get_within xs k x at in
    let is : slice_index_or xs k x ≡ x = (let both = sym (slice_get-get_or xs k x inside) ∙ at in cc) in
    subst P is (all k x inside)

-- THE EVENTS OF A HISTORY

-- it is one of the events
abbrev Among : List EventAt → EventAt → Type 0
Among [] e = ⊥
Among (x ∷ xs) e = (x ≡ e) ⊎ Among xs e

-- the event stands at its position, and is among those of the history
record IsHere (es : List EventAt) (position : ℕ) (event : Event) : Type 0 where
  at : EventAt
  among : Among es at
  position_is : at.position ≡ position
  event_is : at.event ≡ event

module _ (schema : Declared) where
  pub events_long : (from to : ℕ) (es : List EventAt) (events : List Event) → AreEventsFrom schema from to es events → from + length events ≡ to
  events_long from to [] events are = are.count
  events_long from to (e ∷ later) events (blanks, rest, is, before, behind) =
      let whole = ap length is ∙ length-append blanks (e.event ∷ rest) in
      let first = before.count in
      let second = events_long (e.position + 1) to later rest behind in
      omega (arith, whole, first, second)

  -- each event of the stream is blank or the history's
  each_event : (from to : ℕ) (es : List EventAt) (events : List Event) (k : ℕ) (event : Event) → AreEventsFrom schema from to es events → slice_get events k ≡ Some event → IsBlank schema event ⊎ IsHere es (from + k) event
  each_event from to [] events k event are at = inl (all_there (IsBlank schema) events k event are.blank at)
  each_event from to (e ∷ later) events k event (blanks, rest, is, before, behind) at = elim (cases_lt k (length blanks)) [
    | inl less ↦ inl (all_there (IsBlank schema) blanks k event before.blank (sym (get_left blanks (e.event ∷ rest) k less) ∙ (ap (λ es. slice_get es k) (sym is) ∙ at)))
    | inr past ↦ behind_blanks (λ j here. each_event (e.position + 1) to later rest j event behind here) (k - length blanks) (omega (arith, past)) (
        let place : length blanks + (k - length blanks) ≡ k = omega (arith, past) in
        sym (get_right blanks (e.event ∷ rest) (k - length blanks)) ∙ (ap (slice_get (blanks ++ e.event ∷ rest)) place ∙ (ap (λ es. slice_get es k) (sym is) ∙ at)))
  ]
    where
      behind_blanks : ((j : ℕ) → slice_get rest j ≡ Some event → IsBlank schema event ⊎ IsHere later (e.position + 1 + j) event) → (j : ℕ) → length blanks + j ≡ k → slice_get (e.event ∷ rest) j ≡ Some event → IsBlank schema event ⊎ IsHere (e ∷ later) (from + k) event
      behind_blanks further zero place here = inr (record { at = e; among = inl refl; position_is = (let c = before.count in omega (arith, c, place)); event_is = one_some e.event event here })
      behind_blanks further (suc j) place here = elim (further j here) [
        | inl blank ↦ inl blank
        | inr h ↦ inr (record { at = h.at; among = inr h.among; position_is = (let c = before.count in let p = h.position_is in omega (arith, c, p, place)); event_is = h.event_is })
      ]

  -- each event of the history stands in the stream
  each_stands : (from to : ℕ) (es : List EventAt) (events : List Event) (e : EventAt) → AreEventsFrom schema from to es events → Among es e → (k : ℕ) × (e.position ≡ from + k) × (slice_get events k ≡ Some e.event)
  each_stands from to [] events e are among = absurd among
  each_stands from to (x ∷ later) events e (blanks, rest, is, before, behind) (inl same) =
      let c = before.count in
      let place : e.position ≡ from + length blanks = ap (λ (y : EventAt). y.position) (sym same) ∙ sym c in
      let seam : length blanks + 0 ≡ length blanks = omega arith in
      (length blanks, place, ap (λ es. slice_get es (length blanks)) is ∙ (ap (slice_get (blanks ++ x.event ∷ rest)) (sym seam) ∙ (get_right blanks (x.event ∷ rest) 0 ∙ ap (λ (y : EventAt). Some y.event) same)))
  each_stands from to (x ∷ later) events e (blanks, rest, is, before, behind) (inr among) =
      let there = each_stands (x.position + 1) to later rest e behind among in
      let c = before.count in
      let p = there.1 in
      (length blanks + suc there.0, omega (arith, c, p), ap (λ es. slice_get es (length blanks + suc there.0)) is ∙ (get_right blanks (x.event ∷ rest) (suc there.0) ∙ there.2))

-- WHAT CAME

-- the line of the event at this place
abbrev line_at : ℕ → Event × List ℕ → KeptLine
line_at p x = record { at = record { position = p; event = x.0 }; text = x.1 }

module _ (test : KeptLine → Bool) where
  -- an event that passes is among those that are kept
  kept_among : (n : ℕ) (came : List (Event × List ℕ)) (p : ℕ) (x : Event × List ℕ) → slice_get came p ≡ Some x → test (line_at (n + p) x) ≡ true → Among (events_of (filter test (placed_lines_from n came))) (line_at (n + p) x).at
  kept_among n [] p x at passes = absurd cc
  kept_among n (y ∷ came) zero x at passes =
      let here : n ≡ n + 0 = omega arith in
      let same : y ≡ x = one_some y x at in
      let line : line_at n y ≡ line_at (n + 0) x = ap (line_at n) same ∙ ap (λ p. line_at p x) here in
      by_test (test (line_at n y)) (ap test line ∙ passes) line
    where
      by_test : (t : Bool) → t ≡ true → line_at n y ≡ line_at (n + 0) x → Among (events_of (cond t (line_at n y ∷ filter test (placed_lines_from (n + 1) came)) (filter test (placed_lines_from (n + 1) came)))) (line_at (n + 0) x).at
      by_test true e line = inl (ap (λ (l : KeptLine). l.at) line)
      by_test false e line = absurd cc
  kept_among n (y ∷ came) (suc p) x at passes =
      let place : n + suc p ≡ n + 1 + p = omega arith in
      by_test (test (line_at n y)) (subst (λ m. Among (events_of (filter test (placed_lines_from (n + 1) came))) (line_at m x).at) (sym place) (kept_among (n + 1) came p x at (ap (λ m. test (line_at m x)) (sym place) ∙ passes)))
    where
      by_test : (t : Bool) → Among (events_of (filter test (placed_lines_from (n + 1) came))) (line_at (n + suc p) x).at → Among (events_of (cond t (line_at n y ∷ filter test (placed_lines_from (n + 1) came)) (filter test (placed_lines_from (n + 1) came)))) (line_at (n + suc p) x).at
      by_test true h = inr h
      by_test false h = h

  -- and each of these came
  among_came : (n : ℕ) (came : List (Event × List ℕ)) (e : EventAt) → Among (events_of (filter test (placed_lines_from n came))) e → (p : ℕ) × (x : Event × List ℕ) × (e.position ≡ n + p) × (slice_get came p ≡ Some x) × (e.event ≡ x.0)
  among_came n [] e h = absurd h
  among_came n (y ∷ came) e h = by_test (λ h. (let there = among_came (n + 1) came e h in let p = there.2 in (suc there.0, there.1, omega (arith, p), there.3, there.4))) (test (line_at n y)) h
    where
      by_test : (Among (events_of (filter test (placed_lines_from (n + 1) came))) e → (p : ℕ) × (x : Event × List ℕ) × (e.position ≡ n + p) × (slice_get (y ∷ came) p ≡ Some x) × (e.event ≡ x.0)) → (t : Bool) → Among (events_of (cond t (line_at n y ∷ filter test (placed_lines_from (n + 1) came)) (filter test (placed_lines_from (n + 1) came)))) e → (p : ℕ) × (x : Event × List ℕ) × (e.position ≡ n + p) × (slice_get (y ∷ came) p ≡ Some x) × (e.event ≡ x.0)
      by_test further true (inl same) = (0, y, ap (λ (z : EventAt). z.position) (sym same) ∙ (let z : n ≡ n + 0 = omega arith in z), refl, ap (λ (z : EventAt). z.event) (sym same))
      by_test further true (inr h) = further h
      by_test further false h = further h

pub stream_at : (came : List (Event × List ℕ)) (p : ℕ) (x : Event × List ℕ) → slice_get came p ≡ Some x → slice_get (stream_of came) p ≡ Some x.0
stream_at [] p x at = absurd cc
stream_at (y ∷ came) zero x at = ap (λ (z : Event × List ℕ). Some z.0) (one_some y x at)
stream_at (y ∷ came) (suc p) x at = stream_at came p x at

pub came_at : (came : List (Event × List ℕ)) (p : ℕ) (event : Event) → slice_get (stream_of came) p ≡ Some event → (x : Event × List ℕ) × (slice_get came p ≡ Some x) × (x.0 ≡ event)
came_at [] p event at = absurd cc
came_at (y ∷ came) zero event at = (y, refl, one_some y.0 event at)
came_at (y ∷ came) (suc p) event at = came_at came p event at

pub stream_long : (came : List (Event × List ℕ)) → length (stream_of came) ≡ length came
stream_long [] = refl
stream_long (x ∷ came) = ap suc (stream_long came)

-- CLOCKS

int_is : (v : Option Value) (c : ℤ) → int_of v ≡ Some c → v ≡ Some (value.Int c)
int_is (Some (value.Int n)) c e = (let same : n ≡ c = cc in ap (λ z. Some (value.Int z)) same)
int_is (Some (value.Text t)) c e = absurd cc
int_is (Some (value.Flag b)) c e = absurd cc
int_is (Some (value.Dec n p)) c e = absurd cc
int_is None c e = absurd cc

pub clock_is : (schema : Declared) (w : Window) (event : Event) (p : ℕ) (c : ℤ) → clock_of schema w event p ≡ Some c → HasClock schema w event p c
clock_is schema Free event p c e = (let f = sym e in cc)
clock_is schema (Events n) event p c e = (let f = sym e in cc)
clock_is schema (Clock name n) event p c e = int_is (attr_value schema event name.text) c e

pub has_clock : (schema : Declared) (w : Window) (event : Event) (p : ℕ) (c : ℤ) → HasClock schema w event p c → clock_of schema w event p ≡ Some c
has_clock schema Free event p c e = ap Some (sym e)
has_clock schema (Events n) event p c e = ap Some (sym e)
has_clock schema (Clock name n) event p c e = ap int_of e

-- the clock is one of an event that the query reads
pub read_clock : (schema : Declared) (q : Query) (e : EventAt) (c : ℤ) → clock_at schema q e ≡ Some c → Reads schema q e.event × HasClock schema q.window e.event e.position c
read_clock schema q e c told = by_test (query_reads schema q e.event) refl told
  where
    by_test : (t : Bool) → query_reads schema q e.event ≡ t → (if t then clock_of schema q.window e.event e.position else None) ≡ Some c → Reads schema q e.event × HasClock schema q.window e.event e.position c
    by_test true reads f = (reads_is schema q e.event reads, clock_is schema q.window e.event e.position c f)
    by_test false reads f = absurd cc

-- the last clock is that of an event that came
last_came : (schema : Declared) (q : Query) (n : ℕ) (came : List (Event × List ℕ)) (acc : Option ℤ) (c : ℤ) → fold (λ last e. later_clock last (clock_at schema q e)) acc (events_of (placed_lines_from n came)) ≡ Some c →
    (acc ≡ Some c) ⊎ ((p : ℕ) × (x : Event × List ℕ) × (slice_get came p ≡ Some x) × Reads schema q x.0 × HasClock schema q.window x.0 (n + p) c)
last_came schema q n [] acc c e = inl e
last_came schema q n (y ∷ came) acc c e = by_rest (last_came schema q (n + 1) came (later_clock acc (clock_at schema q (line_at n y).at)) c e)
  where
    by_clock : (o : Option ℤ) → clock_at schema q (line_at n y).at ≡ o → later_clock acc o ≡ Some c → (acc ≡ Some c) ⊎ ((p : ℕ) × (x : Event × List ℕ) × (slice_get (y ∷ came) p ≡ Some x) × Reads schema q x.0 × HasClock schema q.window x.0 (n + p) c)
    by_clock None is f = inl f
    by_clock (Some d) is f =
        let read = read_clock schema q (line_at n y).at c (is ∙ f) in
        let here : n ≡ n + 0 = omega arith in
        inr (0, y, refl, read.0, subst (λ p. HasClock schema q.window y.0 p c) here read.1)

    by_rest : (later_clock acc (clock_at schema q (line_at n y).at) ≡ Some c) ⊎ ((p : ℕ) × (x : Event × List ℕ) × (slice_get came p ≡ Some x) × Reads schema q x.0 × HasClock schema q.window x.0 (n + 1 + p) c) →
        (acc ≡ Some c) ⊎ ((p : ℕ) × (x : Event × List ℕ) × (slice_get (y ∷ came) p ≡ Some x) × Reads schema q x.0 × HasClock schema q.window x.0 (n + p) c)
    by_rest (inl f) = by_clock (clock_at schema q (line_at n y).at) refl f
    by_rest (inr (p, x, at, reads, clock)) = let place : n + 1 + p ≡ n + suc p = omega arith in inr (suc p, x, at, reads, subst (λ m. HasClock schema q.window x.0 m c) place clock)

-- a start with a clock in between is in the window of an event with a clock in between
near : (w : Window) (from here last to : ℤ) → WithinWidth w from to → from ≤ℤ here → last ≤ℤ to → is_within w here last ≡ true
near Free from here last to width low high = refl
near (Events n) from here last to width low high = ap not (not_less (here +ℤ pos n) last (grind (arith, ints)))
  where
    not_less : (a b : ℤ) → b ≤ℤ a → int_lt a b ≡ false
    not_less a b le = grind (arith, ints)
near (Clock name n) from here last to width low high = ap not (not_less (here +ℤ n) last (grind (arith, ints)))
  where
    not_less : (a b : ℤ) → b ≤ℤ a → int_lt a b ≡ false
    not_less a b le = grind (arith, ints)

pub any_from : (test : Query → Bool) (queries : List Query) (k : ℕ) (q : Query) → slice_get queries k ≡ Some q → test q ≡ true → list_any test queries ≡ true
any_from test [] k q at passes = absurd cc
any_from test (x ∷ queries) zero q at passes = rw (ap test (one_some x q at) ∙ passes) refl
any_from test (x ∷ queries) (suc k) q at passes = either (test x) (any_from test queries k q at passes)
  where
    either : (t : Bool) → list_any test queries ≡ true → (t || list_any test queries) ≡ true
    either true e = refl
    either false e = e

-- THE LAW

module _ (schema : Declared) (queries : List Query) (came : List (Event × List ℕ)) (kept more : List Event) (k : ℕ) (q : Query) (well : IsWellDeclared schema) (query : slice_get queries k ≡ Some q) (checked : IsChecked schema q)
    (of : All (IsOfSchema schema) (stream_of came)) (level : NeverFalls schema q (stream_of came ++ more)) (stream : IsStreamOf schema (told_stream (length came) (kept_lines schema queries (placed_lines came))) kept) where
  abbrev whole : List Event
  whole = stream_of came ++ more

  abbrev short : List Event
  short = kept ++ more

  abbrev test : KeptLine → Bool
  test line = is_needed schema queries (events_of (placed_lines came)) line.at

  kept_long : length kept ≡ length came
  kept_long = sym (from_zero (length kept)) ∙ events_long schema 0 (length came) (events_of (kept_lines schema queries (placed_lines came))) kept stream

  same_long : length (stream_of came) ≡ length kept
  same_long = stream_long came ∙ sym kept_long

  -- an event that came stands in the whole stream
  whole_at : (p : ℕ) (x : Event × List ℕ) → slice_get came p ≡ Some x → slice_get whole p ≡ Some x.0
  whole_at p x at = get_left (stream_of came) more p (slice_get_within (stream_of came) p x.0 (stream_at came p x at)) ∙ stream_at came p x at

  kept_at : (p : ℕ) (x : Event × List ℕ) → slice_get came p ≡ Some x → test (line_at p x) ≡ true → slice_get kept p ≡ Some x.0
  kept_at p x at passes =
      let among = subst (λ n. Among (events_of (kept_lines schema queries (placed_lines came))) (line_at n x).at) (from_zero p) (kept_among test 0 came p x at (ap (λ n. test (line_at n x)) (from_zero p) ∙ passes)) in
      let there = each_stands schema 0 (length came) (events_of (kept_lines schema queries (placed_lines came))) kept (line_at p x).at stream among in
      ap (slice_get kept) (there.1 ∙ from_zero there.0) ∙ there.2

  -- an event that is kept is the one that came
  came_kept : (p : ℕ) (event : Event) → slice_get kept p ≡ Some event → IsBlank schema event ⊎ ((x : Event × List ℕ) × (slice_get came p ≡ Some x) × (x.0 ≡ event))
  came_kept p event at = elim (each_event schema 0 (length came) (events_of (kept_lines schema queries (placed_lines came))) kept p event stream at) [
    | inl blank ↦ inl blank
    | inr h ↦
        let there = among_came test 0 came h.at h.among in
        let place : there.0 ≡ p = sym (from_zero there.0) ∙ (sym there.2 ∙ (h.position_is ∙ from_zero p)) in
        inr (there.1, ap (slice_get came) (sym place) ∙ there.3, sym there.4 ∙ h.event_is)
  ]

  -- A window that reaches from a position to one after all that came needs each event between that the query reads.
  module _ (start end : ℕ) (from to : ℤ) (begins : HasClockAt schema q whole start from) (ends : HasClockAt schema q whole end to) (width : WithinWidth q.window from to) (behind : length came ≤ end) where
    needed_between : (p : ℕ) (x : Event × List ℕ) → start ≤ p → slice_get came p ≡ Some x → Reads schema q x.0 → test (line_at p x) ≡ true
    needed_between p x low at reads =
        let inside = slice_get_within came p x at in
        any_from (needs schema (events_of (placed_lines came)) (line_at p x).at) queries k q query (by_clock inside (clock_of schema q.window x.0 p) refl)
      where
        by_last : (c : ℤ) → from ≤ℤ c → (o : Option ℤ) → last_clock schema q (events_of (placed_lines came)) ≡ o → are_within q.window (Some c) o ≡ true
        by_last c above None is = refl
        by_last c above (Some last) is = elim (last_came schema q 0 came None last is) [
          | inl none ↦ absurd cc
          | inr (m, y, y_at, y_reads, y_clock) ↦
              let y_in = slice_get_within came m y y_at in
              near q.window from c last to width above (level m end last to (omega (arith, y_in, behind)) (record { event = y.0; at = whole_at m y y_at; read = y_reads; clock_is = subst (λ n. HasClock schema q.window y.0 n last) (from_zero m) y_clock }) ends)
        ]

        by_clock : p < length came → (o : Option ℤ) → clock_of schema q.window x.0 p ≡ o → are_within q.window (clock_at schema q (line_at p x).at) (last_clock schema q (events_of (placed_lines came))) ≡ true
        by_clock inside None is = absurd (each_has_clock schema q well checked x.0 p (all_there (IsOfSchema schema) (stream_of came) p x.0 of (stream_at came p x at)) reads is)
        by_clock inside (Some c) is =
            let told : clock_at schema q (line_at p x).at ≡ Some c = rw (is_read schema q x.0 reads) is in
            ap (λ o. are_within q.window o (last_clock schema q (events_of (placed_lines came)))) told
            ∙ by_last c (level start p from c low begins (record { event = x.0; at = whole_at p x at; read = reads; clock_is = clock_is schema q.window x.0 p c is })) (last_clock schema q (events_of (placed_lines came))) refl

    same_between : AreSameWithin schema q start end whole short
    same_between p low upto = elim (cases_lt p (length came)) [
      | inr past ↦ let long = stream_long came in inl (get_behind (stream_of came) kept more p same_long (omega (arith, past, long)))
      | inl less ↦ before less (slice_get kept p) refl
    ]
      where
        before : p < length came → (o : Option Event) → slice_get kept p ≡ o → IsSameFor schema q (slice_get whole p) (slice_get short p)
        before less None at = absurd (let l = kept_long in none_inside kept p (omega (arith, less, l)) at)
          where
            none_inside : {A : Type 0} (xs : List A) (p : ℕ) → p < length xs → slice_get xs p ≡ None → ⊥
            none_inside [] p l e = absurd (omega arith)
            none_inside (x ∷ xs) zero l e = absurd cc
            none_inside (x ∷ xs) (suc p) l e = none_inside xs p (omega arith) e
        before less (Some event) at =
            let l = kept_long in
            let here : slice_get short p ≡ Some event = get_left kept more p (omega (arith, less, l)) ∙ at in
            elim (came_kept p event at) [
              | inr (x, x_at, is) ↦ inl (whole_at p x x_at ∙ (ap (λ (e : Event). Some e) is ∙ sym here))
              | inl blank ↦ inr (
                λ other other_at reads. (
                    let s = stream_long came in
                    let came_is = came_at came p other (sym (get_left (stream_of came) more p (omega (arith, less, s))) ∙ other_at) in
                    let x_reads = subst (Reads schema q) (sym came_is.2) reads in
                    let still = kept_at p came_is.0 came_is.1 (needed_between p came_is.0 low came_is.1 x_reads) in
                    let same : event ≡ came_is.0.0 = one_some event came_is.0.0 (sym at ∙ still) in
                    blank_unread schema q event well blank (subst (Reads schema q) (sym same) x_reads)),
                λ other other_at reads. (let same : event ≡ other = one_some event other (sym here ∙ other_at) in blank_unread schema q event well blank (subst (Reads schema q) (sym same) reads)),
              )
            ]

  -- a clock of the short stream is one of the whole
  clock_over : (p : ℕ) (c : ℤ) → HasClockAt schema q short p c → HasClockAt schema q whole p c
  clock_over p c h = elim (cases_lt p (length came)) [
    | inr past ↦ let long = stream_long came in record { event = h.event; at = get_behind (stream_of came) kept more p same_long (omega (arith, past, long)) ∙ h.at; read = h.read; clock_is = h.clock_is }
    | inl less ↦
        let l = kept_long in
        elim (came_kept p h.event (sym (get_left kept more p (omega (arith, less, l))) ∙ h.at)) [
          | inl blank ↦ absurd (blank_unread schema q h.event well blank h.read)
          | inr (x, x_at, is) ↦ record { event = h.event; at = whole_at p x x_at ∙ ap (λ (e : Event). Some e) is; read = h.read; clock_is = h.clock_is }
        ]
  ]

  -- the clocks of an answer's ends
  ends_clocks : (events : List Event) (end : ℕ) (answer : Answer) → (h : IsAnswer schema q events end answer) → HasClockAt schema q events answer.start h.window.from × HasClockAt schema q events end h.window.to
  ends_clocks events end answer h =
      let span = spans schema q events end answer h in
      let begins = span.begins in
      let ends = span.ends in
      let first : begins.here ≡ h.window.first = one_some begins.here h.window.first (sym begins.here_is ∙ h.window.first_is) in
      let last : ends.here ≡ h.window.last = one_some ends.here h.window.last (sym ends.here_is ∙ h.window.last_is) in (
        record { event = h.window.first; at = h.window.first_is; read = subst (Reads schema q) first begins.here_has.0; clock_is = h.window.from_is },
        record { event = h.window.last; at = h.window.last_is; read = subst (Reads schema q) last ends.here_has.0; clock_is = h.window.to_is },
      )

  pub restarting : (end : ℕ) (answer : Answer) → length came ≤ end → (IsAnswer schema q whole end answer) ↔ (IsAnswer schema q short end answer)
  restarting end answer behind = (
    λ h. (let clocks = ends_clocks whole end answer h in
        look_within schema q whole short end answer (same_between answer.start end h.window.from h.window.to clocks.0 clocks.1 h.window.close behind) h),
    λ h. (let clocks = ends_clocks short end answer h in
        look_within schema q short whole end answer (within_turned schema q answer.start end whole short (same_between answer.start end h.window.from h.window.to (clock_over answer.start h.window.from clocks.0) (clock_over end h.window.to clocks.1) h.window.close behind)) h),
  )
