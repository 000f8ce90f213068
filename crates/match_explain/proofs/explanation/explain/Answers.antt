use Rattle.std.proofs.Common.{◌≡◌, ◌∙◌, refl, ap, ap₂, sym, subst, ℕ, ◌<◌, List, length, All, Bool, true, false}
use Rattle.std.proofs.lemmas.Bool.{false≢true}
use Rattle.cel_terms.specs.Answers.{IsAscending}
use Rattle.cea_compile.specs.DeterminisedRuns.{from_to}
use Rattle.match_explain.specs.Bindings.{bindings_of}
use Rattle.match_explain.specs.LeafNames.{leaf_names}
use Rattle.match_explain.specs.Spans.{MayBe}
use Rattle.match_explain.specs.Searching.{IsRun, HasNoRun}
use Rattle.match_explain.specs.Explains.{Explains}
use Rattle.match_explain.proofs.Explained.{explained, no_answer, is_answer}
use Rattle.match_explain.proofs.Spanned.{span_of, span_ascends, span_there, may_be_answer}
use Rattle.match_explain.proofs.explanation.explain.Goals as goal

never : (b : Bool) → b ≡ false → b ≡ true → false ≡ true
never b e f = sym e ∙ f

pub may_be-requires : goal.may_be-requires
may_be-requires c =
    let at : c.as_slice-2.result.now ≡ (span_of c.args.schema.now c.args.query.now c.args.events.now c.args.start c.args.end) = c.as_slice-2.ensures.value ∙ (c.in_ok-span.ensures ∙ ap (from_to c.args.start c.args.end) (c.as_slice.ensures.value ∙ c.in_ok-substream.ensures)) in
    subst IsAscending (sym at) (span_ascends c.args.schema.now c.args.query.now c.args.events.now c.args.start c.args.end)

pub returns-then-not-may_be-clause-exactly : goal.returns-then-not-may_be-clause-exactly
returns-then-not-may_be-clause-exactly c =
    let at : c.as_slice-2.result.now ≡ (span_of c.args.schema.now c.args.query.now c.args.events.now c.args.start c.args.end) = c.as_slice-2.ensures.value ∙ (c.in_ok-span.ensures ∙ ap (from_to c.args.start c.args.end) (c.as_slice.ensures.value ∙ c.in_ok-substream.ensures)) in (
      λ h. absurd (false≢true h),
      λ a. never c.may_be.result c.if-not-may_be.true (c.may_be.ensures.no (subst (λ (s : List ℕ). MayBe c.args.schema.now c.args.query.now c.args.events.now c.args.start c.args.end s c.args.marks.now) (sym at) (may_be_answer c.args.schema.now c.args.query.now c.args.events.now c.args.start c.args.end c.args.marks.now a))),
    )

pub run-requires-clause-there : goal.run-requires-clause-there
run-requires-clause-there c =
    let at : c.as_slice-3.result.now ≡ (span_of c.args.schema.now c.args.query.now c.args.events.now c.args.start c.args.end) = c.as_slice-3.ensures.value ∙ (c.in_ok-span.ensures ∙ ap (from_to c.args.start c.args.end) (c.as_slice.ensures.value ∙ c.in_ok-substream.ensures)) in
    subst (λ (s : List ℕ). All (λ p. p < length c.args.events.now) s) (sym at) (span_there c.args.schema.now c.args.query.now c.args.events.now c.args.start c.args.end)

pub returns-in-Some-clause-explains : goal.returns-in-Some-clause-explains
returns-in-Some-clause-explains c =
    let at_may : c.as_slice-2.result.now ≡ (span_of c.args.schema.now c.args.query.now c.args.events.now c.args.start c.args.end) = c.as_slice-2.ensures.value ∙ (c.in_ok-span.ensures ∙ ap (from_to c.args.start c.args.end) (c.as_slice.ensures.value ∙ c.in_ok-substream.ensures)) in
    let at_run : c.as_slice-3.result.now ≡ (span_of c.args.schema.now c.args.query.now c.args.events.now c.args.start c.args.end) = c.as_slice-3.ensures.value ∙ (c.in_ok-span.ensures ∙ ap (from_to c.args.start c.args.end) (c.as_slice.ensures.value ∙ c.in_ok-substream.ensures)) in
    let may = subst (λ (s : List ℕ). MayBe c.args.schema.now c.args.query.now c.args.events.now c.args.start c.args.end s c.args.marks.now) at_may (c.may_be.ensures.yes c.if-not-may_be.false) in
    let run = subst (λ (s : List ℕ). IsRun c.args.schema.now c.args.query.now c.args.events.now s c.args.marks.now c.in-Some.steps.items) at_run (rw c.in-Some.is at c.in_ok-steps.ensures.found) in
    let made : c.of.result ≡ bindings_of (leaf_names c.args.query.now.formula) c.in-Some.steps.items = c.of.ensures ∙ (c.in_ok-bindings-in-Some.ensures ∙ ap₂ bindings_of (c.as_slice-in-Some.ensures.value ∙ c.in_ok-leaves-in-Some.ensures) c.as_slice-in-Some-2.ensures.value) in
    let explains = subst (Explains c.args.schema.now c.args.query.now c.args.events.now c.args.start c.args.end c.args.marks.now) (sym made) (explained c.args.schema.now c.args.query.now c.args.events.now c.args.start c.args.end c.args.marks.now may c.in-Some.steps.items run) in
    explains

pub returns-in-Some-clause-exactly : goal.returns-in-Some-clause-exactly
returns-in-Some-clause-exactly c =
    let at_may : c.as_slice-2.result.now ≡ (span_of c.args.schema.now c.args.query.now c.args.events.now c.args.start c.args.end) = c.as_slice-2.ensures.value ∙ (c.in_ok-span.ensures ∙ ap (from_to c.args.start c.args.end) (c.as_slice.ensures.value ∙ c.in_ok-substream.ensures)) in
    let at_run : c.as_slice-3.result.now ≡ (span_of c.args.schema.now c.args.query.now c.args.events.now c.args.start c.args.end) = c.as_slice-3.ensures.value ∙ (c.in_ok-span.ensures ∙ ap (from_to c.args.start c.args.end) (c.as_slice.ensures.value ∙ c.in_ok-substream.ensures)) in
    let may = subst (λ (s : List ℕ). MayBe c.args.schema.now c.args.query.now c.args.events.now c.args.start c.args.end s c.args.marks.now) at_may (c.may_be.ensures.yes c.if-not-may_be.false) in
    let run = subst (λ (s : List ℕ). IsRun c.args.schema.now c.args.query.now c.args.events.now s c.args.marks.now c.in-Some.steps.items) at_run (rw c.in-Some.is at c.in_ok-steps.ensures.found) in
    let made : c.of.result ≡ bindings_of (leaf_names c.args.query.now.formula) c.in-Some.steps.items = c.of.ensures ∙ (c.in_ok-bindings-in-Some.ensures ∙ ap₂ bindings_of (c.as_slice-in-Some.ensures.value ∙ c.in_ok-leaves-in-Some.ensures) c.as_slice-in-Some-2.ensures.value) in
    let explains = subst (Explains c.args.schema.now c.args.query.now c.args.events.now c.args.start c.args.end c.args.marks.now) (sym made) (explained c.args.schema.now c.args.query.now c.args.events.now c.args.start c.args.end c.args.marks.now may c.in-Some.steps.items run) in
    (λ t. is_answer c.args.schema.now c.args.query.now c.args.events.now c.args.start c.args.end c.args.marks.now c.of.result may.ascending explains, λ a. refl)

pub returns : goal.returns
returns c =
    let at_may : c.as_slice-2.result.now ≡ (span_of c.args.schema.now c.args.query.now c.args.events.now c.args.start c.args.end) = c.as_slice-2.ensures.value ∙ (c.in_ok-span.ensures ∙ ap (from_to c.args.start c.args.end) (c.as_slice.ensures.value ∙ c.in_ok-substream.ensures)) in
    let at_run : c.as_slice-3.result.now ≡ (span_of c.args.schema.now c.args.query.now c.args.events.now c.args.start c.args.end) = c.as_slice-3.ensures.value ∙ (c.in_ok-span.ensures ∙ ap (from_to c.args.start c.args.end) (c.as_slice.ensures.value ∙ c.in_ok-substream.ensures)) in
    let may = subst (λ (s : List ℕ). MayBe c.args.schema.now c.args.query.now c.args.events.now c.args.start c.args.end s c.args.marks.now) at_may (c.may_be.ensures.yes c.if-not-may_be.false) in
    let none = subst (λ (s : List ℕ). HasNoRun c.args.schema.now c.args.query.now c.args.events.now s c.args.marks.now) at_run (rw c.in-None.is at c.in_ok-steps.ensures.none) in
    record { explains = tt; exactly = (λ h. absurd (false≢true h), λ a. absurd (no_answer c.args.schema.now c.args.query.now c.args.events.now c.args.start c.args.end c.args.marks.now may none a)) }
