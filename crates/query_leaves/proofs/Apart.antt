-- An occurrence with a name of its own that nothing above it reads.
use Rattle.std.proofs.Common.{◌≡◌, refl, sym, ap, subst, ◌∙◌, ℕ, not, ◌&&◌, ◌||◌, cond, Bool, true, false, List, [], ◌∷◌, map, bytes_eq}
use Rattle.std.specs.Prelude.{Result, Ok, Err, IfOk}
use Rattle.std.specs.List.{list_all}
use Rattle.stream_schema.specs.Types.{Declared}
use Rattle.cel_terms.specs.declared.Pred.{Pred}
use Rattle.cel_terms.specs.Meaning.{lists_name, only_names}
use Rattle.cel_terms.specs.Answers.{is_bound}
use Rattle.query_leaves.specs.declared.Leaf.{Leaf}
use Rattle.query_leaves.specs.declared.occurrence.Change.{Change}
use Rattle.query_leaves.specs.declared.occurrence.Change.TheVariants as change
use Rattle.query_leaves.specs.Expand.{Occurrence}
use Rattle.query_leaves.specs.Leaves.{occurrence_reads}
use Rattle.query_leaves.specs.Changes.{change_all, occurrence_of, named_occurrence, passes_by}
use Rattle.query_leaves.specs.Tests.{IsMadeOf, OccurrenceHasFewPlaces}
use Rattle.query_leaves.specs.Numbering.{occurrence_under, AreAlike, IsLike}

-- an occurrence, and it with one name more in front
abbrev plain : List ℕ → List Pred → List (List ℕ) → Occurrence
plain type tests names = record { type = type; tests = tests; names = names }

same_alike : (above : List Change) (a b : Occurrence) → a ≡ b → AreAlike (change_all above a) (change_all above b)
same_alike above a b e = record {
  type = ap (λ o. (change_all above o).type) e;
  tests = ap (λ o. (change_all above o).tests) e;
  bound = ap (λ o. is_bound (change_all above o).names) e;
}

not_true : (b : Bool) → not b ≡ true → b ≡ false
not_true true e = absurd cc
not_true false e = refl

both_pass : (a b : Bool) → (a && b) ≡ true → (a ≡ true) × (b ≡ true)
both_pass true b e = (refl, e)
both_pass false b e = absurd cc

pub passed_by : (own : List ℕ) (above : List Change) (type : List ℕ) (tests : List Pred) (names : List (List ℕ)) → is_bound names ≡ true → list_all (λ c. passes_by own c) above ≡ true → AreAlike (change_all above (plain type tests names)) (change_all above (plain type tests (own ∷ names)))
passed_by own [] type tests names bound pass = record { type = refl; tests = refl; bound = bound }
passed_by own (change.Named name ∷ cs) type tests names bound pass = absurd cc
passed_by own (change.Keep listed ∷ cs) type tests names bound pass =
    let kept = lists_name (map (λ n. n.text) listed.now) in
    let out : kept own ≡ false = not_true (kept own) (both_pass (not (kept own)) _ pass).0 in
    same_alike cs (plain type tests (only_names listed.now names)) (plain type tests (only_names listed.now (own ∷ names)))
    (ap (λ ns. plain type tests ns) (sym (ap (λ b. cond b (own ∷ only_names listed.now names) (only_names listed.now names)) out)))
passed_by own (change.Test name pred ∷ cs) type tests names bound pass =
    let p = both_pass (not (bytes_eq own name.now.text)) _ pass in
    let out : bytes_eq own name.now.text ≡ false = not_true (bytes_eq own name.now.text) p.0 in
    let asked : List Pred = cond (lists_name names name.now.text) (pred.now ∷ tests) tests in
    subst (λ b. AreAlike (change_all cs (plain type asked names)) (change_all cs (plain type (cond (b || lists_name names name.now.text) (pred.now ∷ tests) tests) (own ∷ names))))
    (sym out)
    (passed_by own cs type asked names bound p.1)

-- a leaf of the one is a leaf of the other
alike_made : (schema : Declared) (a b : Occurrence) (l : Leaf) → AreAlike a b → IsMadeOf schema a l → IsMadeOf schema b l
alike_made schema a b l alike is = record {
  leaf = record {
    marked = is.leaf.marked ∙ alike.bound;
    reads = λ event. is.leaf.reads event ∙ subst (λ type. occurrence_reads schema a event ≡ occurrence_reads schema (plain type b.tests b.names) event) alike.type (ap (λ ts. occurrence_reads schema (plain a.type ts b.names) event) alike.tests);
  };
  places = λ few. is.places (subst (λ ts. OccurrenceHasFewPlaces (plain a.type ts a.names)) (sym alike.tests) few);
}

-- what holds of an occurrence with one name more that nothing above it reads
pub is_like : (above : List Change) (o : Occurrence) (own : List ℕ) → o ≡ named_occurrence own o.type → list_all (λ c. passes_by own c) above ≡ true → IsLike above o
is_like above o own is pass = subst (λ p. AreAlike (change_all above (occurrence_of o.type)) (change_all above p)) (sym is) (passed_by own above o.type [] (o.type ∷ []) refl pass)

pub plain_is_like : (above : List Change) (o : Occurrence) → o ≡ occurrence_of o.type → IsLike above o
plain_is_like above o is = same_alike above (occurrence_of o.type) o (sym is)

-- the leaf of the type is the occurrence's
pub like_made : {E : Type 0} (schema : Declared) (above : List Change) (o : Occurrence) (ty : List ℕ) (r : Result Leaf E) → IsLike above o → ty ≡ o.type → IfOk r (IsMadeOf schema (occurrence_under above ty)) → IfOk r (IsMadeOf schema (change_all above o))
like_made schema above o ty (Ok l) like named is = alike_made schema (change_all above (occurrence_of o.type)) (change_all above o) l like (subst (λ n. IsMadeOf schema (occurrence_under above n) l) named is)
like_made schema above o ty (Err e) like named is = is
