-- The closure answers by the order of what the spans stand for.
use Rattle.std.proofs.Common.{◌≡◌, ◌↔◌, rules, refl, subst, sym, map, List, ℕ}
use Rattle.std.specs.declared.cmp.Ordering.TheVariants.{Less}
use Rattle.std.proofs.lemmas.List.Sorted.{All-permutation, IsPermutation-map}
use Rattle.cer_base.specs.Repeats.{HasNoRepeats}
use Rattle.std.specs.List.Sorted.{IsPermutation}
use Rattle.cel_terms.specs.Answers.{Answer}
use Rattle.cer_base.proofs.Repeats.{HasNoRepeats-permutation}
use Rattle.answer_text.specs.Output.{ComesBefore, EachBeforeNext}
use Rattle.answer_text.specs.AnswerSpans.{answer_in, IsWithin}
use Rattle.answer_text.proofs.SortedSpans.{sorted_by_order}
use Rattle.answer_text.proofs.answers.Answers.sort.Goals as goal

pub invariant_of-self : goal.invariant_of-self
invariant_of-self c = All-permutation (IsWithin c.self.inside.positions.items) c.self.inside.spans.items c.sort_unstable_by.new.self.items c.sort_unstable_by.ensures.permutation c.self.invariant

pub returns-clause-moved : goal.returns-clause-moved
returns-clause-moved c =
    subst (λ (xs : List Answer). IsPermutation xs (map (answer_in c.self.inside.positions.items) c.sort_unstable_by.new.self.items)) c.self.view_is
    (IsPermutation-map (answer_in c.self.inside.positions.items) c.self.inside.spans.items c.sort_unstable_by.new.self.items c.sort_unstable_by.ensures.permutation)

pub returns-clause-ordered : goal.returns-clause-ordered
returns-clause-ordered c =
    subst (λ (ps : List ℕ). HasNoRepeats c.args.self.now → EachBeforeNext (map (answer_in ps) c.sort_unstable_by.new.self.items)) c.as_slice-positions.ensures.value (λ h.
    let moved = IsPermutation-map (answer_in c.as_slice-positions.result.now) c.self.inside.spans.items c.sort_unstable_by.new.self.items c.sort_unstable_by.ensures.permutation in
    sorted_by_order (answer_in c.as_slice-positions.result.now) (λ f. f.0.now ≡ c.as_slice-positions.result.now) c.sort_unstable_by.new.self.items c.sort_unstable_by.ensures.sorted
    (λ f a r g called kept. (
      subst (λ (ps : List ℕ). (r ≡ Less) ↔ ComesBefore (answer_in ps a.0.now) (answer_in ps a.1.0.now)) kept (search rules),
      search (rules, kept),
    ))
    refl
    (HasNoRepeats-permutation _ _ moved (subst (λ (ps : List ℕ). HasNoRepeats (map (answer_in ps) c.self.inside.spans.items)) (sym c.as_slice-positions.ensures.value) (subst HasNoRepeats (sym c.self.view_is) h))))
