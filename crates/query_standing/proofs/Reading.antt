-- Whether a query reads an event, computed. For callers.
use Rattle.std.proofs.Common.{◌≡◌, ℕ, true, List, [], ◌∷◌, subst, Contains, eq-eqb, inl, inr}
use Rattle.std.specs.Prelude.{◌==◌}
use Rattle.std.specs.List.{list_any}
use Rattle.std.proofs.lemmas.Bool.{false≢true, or_cases, or_left, or_right, eqb-true}
use Rattle.stream_schema.specs.Types.{Declared}
use Rattle.stream_schema.specs.declared.Event.{Event}
use Rattle.cel_terms.specs.declared.Query.{Query}
use Rattle.cel_terms.specs.Answers.{query_types}
use Rattle.cel_terms.specs.EventsRead.{query_reads as reads}
use Rattle.query_standing.specs.Clocks.{Reads}
use Rattle.query_standing.proofs.Lists.{here, there, cons_cases, none_in_nil}

pub any_contains : (types : List ℕ) (n : ℕ) → list_any (λ t. t == n) types ≡ true → Contains types n
any_contains [] n h = absurd (false≢true h)
any_contains (t ∷ ts) n h = elim (or_cases (t == n) (list_any (λ t. t == n) ts) h) [ inl e ↦ subst (λ z. Contains (t ∷ ts) z) (eqb-true t n e) (here t ts) | inr l ↦ there t n ts (any_contains ts n l) ]

pub contains_any : (types : List ℕ) (n : ℕ) → Contains types n → list_any (λ t. t == n) types ≡ true
contains_any [] n h = absurd (none_in_nil n h)
contains_any (t ∷ ts) n h = elim (cons_cases t n ts h) [ inl e ↦ or_left (t == n) (list_any (λ t. t == n) ts) (eq-eqb t n e) | inr l ↦ or_right (t == n) (list_any (λ t. t == n) ts) (contains_any ts n l) ]

pub reads_is : (schema : Declared) (q : Query) (event : Event) → reads schema q event ≡ true → Reads schema q event
reads_is schema q event h = any_contains (query_types schema q.streams) event.ty h

pub is_read : (schema : Declared) (q : Query) (event : Event) → Reads schema q event → reads schema q event ≡ true
is_read schema q event h = contains_any (query_types schema q.streams) event.ty h
