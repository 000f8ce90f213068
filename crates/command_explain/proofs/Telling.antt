-- What is told of a complex event, name by name, and when there is nothing to tell.
use Rattle.std.proofs.Common.{◌≡◌, ℕ, ◌+◌, ◌<◌, inl, inr, List, [], ◌∷◌, ◌++◌, length, take, slice_index_or, Some, sym, ◌∙◌, ap, subst, add-one, append_assoc}
use Rattle.std.specs.Prelude.{flat_map}
use Rattle.std.proofs.Math.Seq.{take-suc}
use Rattle.std.proofs.lemmas.Grind.{flat_map-append}
use Rattle.std.proofs.lemmas.List.{append-nil}
use Rattle.stream_schema.specs.Types.{Declared}
use Rattle.stream_schema.specs.declared.Event.{Event}
use Rattle.cel_terms.specs.declared.Query.{Query}
use Rattle.cel_terms.specs.Answers.{IsAnswer}
use Rattle.answer_text.specs.Output.{line}
use Rattle.answer_text.specs.Explanations.{binding_line, none_line}
use Rattle.match_explain.specs.declared.Binding.{Binding}
use Rattle.match_explain.specs.Explains.{Explains}
use Rattle.command_words.specs.declared.Question.{Question}
use Rattle.command_explain.specs.Explanations.{query_at, told, Tells}

-- the line of one name more
pub told_more : (a : Question) (marks : List ℕ) (bindings : List Binding) (i : ℕ) (b : Binding) → i < length bindings → b ≡ slice_index_or bindings i b →
    told a marks (take (i + 1) bindings) ≡ told a marks (take i bindings) ++ binding_line b.name b.positions
told_more a marks bindings i b within is =
    let f : Binding → List ℕ = λ x. binding_line x.name x.positions in
    let head : List ℕ = line a.query a.end (record { start = a.start; marks = marks }) in
    let cut : take (i + 1) bindings ≡ take i bindings ++ b ∷ [] = ap (λ n. take n bindings) (add-one i) ∙ take-suc bindings i b within ∙ ap (λ x. take i bindings ++ x ∷ []) (sym is) in
    ap (told a marks) cut ∙ ap (λ w. head ++ w) (flat_map-append f (take i bindings) (b ∷ []) ∙ ap (λ w. flat_map f (take i bindings) ++ w) (append-nil (f b)))
    ∙ sym (append_assoc head (flat_map f (take i bindings)) (f b))

-- the complex event is an answer, and this explains it
pub tells_answer : (schema : Declared) (queries : List Query) (events : List Event) (a : Question) (marks : List ℕ) (q : Query) (bindings lent : List Binding) (bytes : List ℕ) → query_at queries a.query ≡ Some q →
    IsAnswer schema q events a.end (record { start = a.start; marks = marks }) → Explains schema q events a.start a.end marks bindings → lent ≡ bindings → bytes ≡ told a marks lent → Tells schema queries events a marks bytes
tells_answer schema queries events a marks q bindings lent bytes at answer explains same is =
    inl (record { query = q; at = at; answer = answer; bindings = bindings; explains = explains; written = is ∙ ap (told a marks) same })

-- it is none
pub tells_none : (schema : Declared) (queries : List Query) (events : List Event) (a : Question) (marks : List ℕ) (q : Query) (bytes : List ℕ) → query_at queries a.query ≡ Some q →
    (IsAnswer schema q events a.end (record { start = a.start; marks = marks }) → ⊥) → bytes ≡ none_line → Tells schema queries events a marks bytes
tells_none schema queries events a marks q bytes at none is = inr (
  λ sought.
      let both = sym sought.1 ∙ at in
      let same : sought.0 ≡ q = cc in
      none (subst (λ (p : Query). IsAnswer schema p events a.end (record { start = a.start; marks = marks })) same sought.2),
  is,
)
