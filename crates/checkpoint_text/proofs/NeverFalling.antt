-- Along a stream no clock falls where none falls with each of its events. For callers.
use Rattle.std.proofs.Common.{◌≡◌, ℕ, ◌+◌, ◌≤◌, ◌<◌, ◌⊎◌, inl, inr, ℤ, ◌≤ℤ◌, true, false, List, [], ◌∷◌, ◌++◌, length, refl, sym, subst, Option, Some, None, slice_get, arith, length-append}
use Rattle.std.specs.Prelude.{int_lt, ◌<ℤ◌}
use Rattle.std.proofs.lemmas.Bool.{cases_lt, cases_Bool}
use Rattle.std.proofs.lemmas.Int.{ints}
use Rattle.std.proofs.lemmas.Option.{slice_get_within}
use Rattle.stream_schema.specs.Types.{Declared, IsWellDeclared}
use Rattle.stream_schema.specs.Events.{IsOfSchema}
use Rattle.stream_schema.specs.declared.Event.{Event}
use Rattle.cel_terms.specs.declared.Query.{Query}
use Rattle.cel_terms.specs.Answers.{HasClock}
use Rattle.cel_terms.specs.Checked.{IsChecked}
use Rattle.cel_terms.specs.EventsRead.{query_reads}
use Rattle.window_clock.specs.Clocks.{clock_of}
use Rattle.query_standing.proofs.Growing.{get_cases, get_last}
use Rattle.query_standing.proofs.QueryStates.{clock_cases, clock_front}
use Rattle.query_standing.proofs.Reading.{reads_is, is_read}
use Rattle.query_standing.proofs.Windows.{clock_is_one}
use Rattle.query_state.proofs.Clocks.{each_has_clock}
use Rattle.query_engine.specs.Clocks.{Reads, HasClockAt, NeverFalls, IsLastClock, FallsBack}
use Rattle.checkpoint_text.proofs.Restarting.{clock_is}

less_test : (a b : ℤ) → int_lt a b ≡ true → a <ℤ b
less_test a b less = grind (arith, ints)

not_less_test : (a b : ℤ) → int_lt a b ≡ false → b ≤ℤ a
not_less_test a b not = grind (arith, ints)

-- the query reads none of the events
abbrev ReadsNone : Declared → Query → List Event → Type 0
ReadsNone schema q events = (p : ℕ) (event : Event) → slice_get events p ≡ Some event → Reads schema q event → ⊥

-- The query's clock falls along none of the events, and has its last value, if it has one.
pub record IsLevel (schema : Declared) (q : Query) (events : List Event) : Type 0 where
  pub never : NeverFalls schema q events
  pub last : ReadsNone schema q events ⊎ ((clock : ℤ) × IsLastClock schema q events clock)

pub none_level : (schema : Declared) (q : Query) → IsLevel schema q []
none_level schema q = record {
  never = λ i j before now less one other. absurd (let at = one.at in cc);
  last = inl (λ p event at reads. absurd cc);
}

module _ (schema : Declared) (q : Query) (events : List Event) (event : Event) (level : IsLevel schema q events) where
  abbrev more : List Event
  more = events ++ event ∷ []

  one_longer : length more ≡ length events + 1
  one_longer = length-append events (event ∷ [])

  -- an event that is not read
  unread : (Reads schema q event → ⊥) → IsLevel schema q more
  unread none = record { never = still; last = elim level.last [ inl none_before ↦ inl (none_in none_before) | inr l ↦ inr (l.0, as_before l.0 l.1) ] }
    where
      before : (p : ℕ) (c : ℤ) → HasClockAt schema q more p c → HasClockAt schema q events p c
      before p c h = elim (clock_cases schema q events event p c h) [ inl x ↦ x | inr y ↦ absurd (none y.1) ]

      still : NeverFalls schema q more
      still i j b n less one other = level.never i j b n less (before i b one) (before j n other)

      none_in : ReadsNone schema q events → ReadsNone schema q more
      none_in none_before p other at reads = elim (get_cases events event p other at) [ inl x ↦ none_before p other x reads | inr y ↦ none (subst (Reads schema q) (sym y.1) reads) ]

      as_before : (c : ℤ) → IsLastClock schema q events c → IsLastClock schema q more c
      as_before c l = record {
        position = l.position;
        has = clock_front schema q events event l.position c l.has;
        last = λ p other less at reads. elim (get_cases events event p other at) [ inl x ↦ l.last p other less x reads | inr y ↦ none (subst (Reads schema q) (sym y.1) reads) ];
      }

  -- an event that is read, with which the clock does not fall
  read : (now : ℤ) → Reads schema q event → HasClock schema q.window event (length events) now → ((before : ℤ) → IsLastClock schema q events before → before ≤ℤ now) → IsLevel schema q more
  read now reads clock in_time = record { never = still; last = inr (now, at_last) }
    where
      earlier : (i : ℕ) (b : ℤ) → HasClockAt schema q events i b → b ≤ℤ now
      earlier i b h = elim level.last [
        | inl none ↦ absurd (none i h.event h.at h.read)
        | inr l ↦
            let le = in_time l.0 l.1 in
            elim (cases_lt l.1.position i) [
              | inl less ↦ absurd (l.1.last i h.event less h.at h.read)
              | inr past ↦ let below = level.never i l.1.position b l.0 past h l.1.has in omega (arith, ints)
            ]
      ]

      is_now : (p : ℕ) (c : ℤ) → p ≡ length events → HasClock schema q.window event p c → c ≡ now
      is_now p c at h = clock_is_one schema q.window event (length events) c now (subst (λ k. HasClock schema q.window event k c) at h) clock

      still : NeverFalls schema q more
      still i j b n less one other = by_cases (clock_cases schema q events event i b one) (clock_cases schema q events event j n other)
        where
          by_cases : HasClockAt schema q events i b ⊎ ((i ≡ length events) × Reads schema q event × HasClock schema q.window event i b) → HasClockAt schema q events j n ⊎ ((j ≡ length events) × Reads schema q event × HasClock schema q.window event j n) → b ≤ℤ n
          by_cases (inl x) (inl y) = level.never i j b n less x y
          by_cases (inl x) (inr y) = subst (λ z. b ≤ℤ z) (sym (is_now j n y.0 y.2)) (earlier i b x)
          by_cases (inr x) (inl y) = let inside = slice_get_within events j y.event y.at in let e = x.0 in absurd (omega arith)
          by_cases (inr x) (inr y) = let e = is_now i b x.0 x.2 in let f = is_now j n y.0 y.2 in omega (arith, ints)

      at_last : IsLastClock schema q more now
      at_last = record {
        position = length events;
        has = record { event = event; at = get_last events event; read = reads; clock_is = clock };
        last = λ p other less at r. (let inside = slice_get_within more p other at in let l = one_longer in absurd (omega arith));
      }

  -- a stream with an event more, with which the query's clock does not fall
  pub grown_level : IsWellDeclared schema → IsChecked schema q → IsOfSchema schema event → ((before now : ℤ) → FallsBack schema q events event before now → ⊥) → IsLevel schema q more
  grown_level well checked of none = elim (cases_Bool (query_reads schema q event)) [
    | inl reads ↦ by_clock (reads_is schema q event reads) (clock_of schema q.window event (length events)) refl
    | inr not ↦ unread (λ reads. (let is = is_read schema q event reads in cc))
  ]
    where
      by_clock : Reads schema q event → (o : Option ℤ) → clock_of schema q.window event (length events) ≡ o → IsLevel schema q more
      by_clock reads None is = absurd (each_has_clock schema q well checked event (length events) of reads is)
      by_clock reads (Some now) is = read now reads clock in_time
        where
          clock : HasClock schema q.window event (length events) now
          clock = clock_is schema q.window event (length events) now is

          in_time : (before : ℤ) → IsLastClock schema q events before → before ≤ℤ now
          in_time before l = elim (cases_Bool (int_lt now before)) [
            | inl falls ↦ absurd (none before now (record { reads = reads; last = l; now_is = clock; falls = less_test now before falls }))
            | inr not ↦ not_less_test now before not
          ]
