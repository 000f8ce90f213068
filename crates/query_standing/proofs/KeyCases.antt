-- Whether an event has a key, and whether a key is among those that are kept.
use Rattle.std.proofs.Common.{◌≡◌, ℕ, zero, suc, ◌⊎◌, inl, inr, Bool, true, false, List, [], ◌∷◌, refl, sym, ap, subst, ◌∙◌, Contains, Option, Some, None, slice_get}
use Rattle.std.proofs.lemmas.Bool.{false≢true}
use Rattle.std.specs.Cmp.Lexicographic.{pointwise, pointwise_decides}
use Rattle.cer_base.specs.Repeats.{HasNoRepeats}
use Rattle.stream_schema.specs.Types.{Declared}
use Rattle.stream_schema.specs.Equality.{same_value, Decides-value}
use Rattle.stream_schema.specs.declared.Event.{Event}
use Rattle.stream_schema.specs.declared.Value.{Value}
use Rattle.cel_terms.specs.declared.Query.{Query}
use Rattle.cel_terms.specs.Answers.{HasKey, values_at}
use Rattle.query_standing.specs.Clocks.{Reads}
use Rattle.query_standing.proofs.Lists.{none_in_nil, got, cons_cases}

-- two keys are one, or they are not
same_key : (a b : List Value) → (a ≡ b) ⊎ (a ≡ b → ⊥)
same_key a b = go (pointwise same_value a b) refl
  where
    go : (r : Bool) → pointwise same_value a b ≡ r → (a ≡ b) ⊎ (a ≡ b → ⊥)
    go true e = inl ((pointwise_decides Decides-value a b).0 e)
    go false e = inr (λ same. false≢true (sym e ∙ (pointwise_decides Decides-value a b).1 same))

-- an event that is read has the key, or it has another one or none
pub has_key : (schema : Declared) (q : Query) (event : Event) (key : List Value) → Reads schema q event → HasKey schema q event key ⊎ (HasKey schema q event key → ⊥)
has_key schema q event key reads = go (values_at schema q.partition event) refl
  where
    go : (o : Option (List Value)) → values_at schema q.partition event ≡ o → HasKey schema q event key ⊎ (HasKey schema q event key → ⊥)
    go None e = inr (λ has. (let both = sym e ∙ has.1 in absurd cc))
    go (Some own) e = elim (same_key own key) [
      | inl same ↦ inl (reads, e ∙ ap (λ k. Some k) same)
      | inr apart ↦ inr (λ has. apart (let both = sym e ∙ has.1 in cc))
    ]

-- a key is one of these, or it is not
pub kept_key : (key : List Value) (keys : List (List Value)) → ((n : ℕ) × (slice_get keys n ≡ Some key)) ⊎ (Contains keys key → ⊥)
kept_key key [] = inr (none_in_nil key)
kept_key key (k ∷ keys) = elim (same_key k key) [
  | inl same ↦ inl (0, ap (λ x. Some x) same)
  | inr apart ↦ elim (kept_key key keys) [
    | inl there ↦ inl (suc there.0, there.1)
    | inr none ↦ inr (λ c. elim (cons_cases k key keys c) [ inl e ↦ apart e | inr l ↦ none l ])
  ]
]

-- among keys of which none is kept twice, a key stands at one place
pub at_one_place : (ks : List (List Value)) (i j : ℕ) (k : List Value) → HasNoRepeats ks → slice_get ks i ≡ Some k → slice_get ks j ≡ Some k → i ≡ j
at_one_place [] i j k d e f = absurd cc
at_one_place (x ∷ xs) zero zero k d e f = refl
at_one_place (x ∷ xs) zero (suc j) k d e f = let same : x ≡ k = cc in absurd (d.0 (subst (Contains xs) (sym same) (got xs j k f)))
at_one_place (x ∷ xs) (suc i) zero k d e f = let same : x ≡ k = cc in absurd (d.0 (subst (Contains xs) (sym same) (got xs i k e)))
at_one_place (x ∷ xs) (suc i) (suc j) k d e f = ap suc (at_one_place xs i j k d.1 e f)
