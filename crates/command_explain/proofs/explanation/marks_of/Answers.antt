use Rattle.std.proofs.Common.{ℕ, List, Contains, sym, subst}
use Rattle.std.proofs.lemmas.List.Filters.{dedup_is}
use Rattle.std.proofs.lemmas.List.Kept.{Contains-dedup_nat, Contains-from_dedup}
use Rattle.std.proofs.lemmas.List.Sorted.{Contains-permutation, IsPermutation-sym}
use Rattle.std.proofs.lemmas.Map.Keys.{IsStrictlyIncreasing-dedup}
use Rattle.cel_terms.specs.Answers.{IsAscending}
use Rattle.match_explain.proofs.Ascending.{ascending_from}
use Rattle.command_explain.proofs.explanation.marks_of.Goals as goal

pub returns : goal.returns
returns c =
    let is = dedup_is _ _ _ c.dedup.ensures.filtered in
    let moved = c.sort_unstable.ensures.permutation in
    let given = c.in_ok-marks.ensures.items in
    record {
      ascending = subst IsAscending (sym is) (ascending_from _ (IsStrictlyIncreasing-dedup _ c.sort_unstable.ensures.sorted));
      same = λ p. (
        λ h. subst (λ (xs : List ℕ). Contains xs p) (sym is) (Contains-dedup_nat _ p (Contains-permutation _ _ p moved (subst (λ (xs : List ℕ). Contains xs p) (sym given) h))),
        λ h. subst (λ (xs : List ℕ). Contains xs p) given (Contains-permutation _ _ p (IsPermutation-sym _ _ moved) (Contains-from_dedup _ _ p (subst (λ (xs : List ℕ). Contains xs p) is h))),
      );
    }
