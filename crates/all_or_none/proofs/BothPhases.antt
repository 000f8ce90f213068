-- What both phases do together.
use Rattle.std.proofs.Common.{◌≡◌, ℕ, ◌+◌, ◌≤◌, inl, inr, arith, List, [], ◌∷◌, ◌++◌, map, length, refl, sym, ap, subst, ◌∙◌, All, Option, Some, None}
use Rattle.std.specs.Prelude.{IsSomeAnd, sum_by}
use Rattle.std.specs.List.{AllZip}
use Rattle.std.proofs.lemmas.List.Elements.{All-nil, All-cons, All-head, All-tail, All-map}
use Rattle.stream_schema.specs.declared.Event.{Event}
use Rattle.query_standing.specs.Kept.{QueryState}
use Rattle.query_standing.specs.Dormancy.{StandsWithClock}
use Rattle.std.proofs.lemmas.List.Sums.{sum_by-cons}
use Rattle.all_or_none.specs.Phases.{Phase, Grows, IsStep, IsIdle, HasNoAnswer, back, IsTaken, StandsAt, InTime, HasGrown, bound_of, ready_bound, kept_bound}
use Rattle.all_or_none.proofs.LoopTurn.{all_mapped}

step_of : (o : Option QueryState) (p : QueryState) (S : QueryState → Type 0) → o ≡ Some p → IsSomeAnd o S → S p
step_of (Some x) p S e h = let same : x ≡ p = cc in subst S same h
step_of None p S e h = absurd cc

-- What the event made of a query state, however it was taken.
record Moved (event : Event) (position : ℕ) (old new : Phase) : Type 0 where
  pub schema : new.schema ≡ old.schema
  pub query : new.query ≡ old.query
  pub idle : IsIdle new
  pub quiet : HasNoAnswer (position + 1) new
  pub step : IsStep old.schema old.query event position old.kept new.kept

moved : (event : Event) (position : ℕ) (old new : Phase) → IsTaken event position old new → Moved event position old new
moved event position old new (inl done) = record {
  schema = done.1.schema;
  query = done.1.query;
  idle = done.1.idle;
  quiet = λ stale. absurd (stale done.1.upto);
  step = step_of old.ready new.kept (IsStep old.schema old.query event position old.kept) done.1.kept done.0;
}
moved event position old new (inr p) = record { schema = p.schema; query = p.query; idle = p.idle; quiet = λ stale. p.quiet; step = p.step }

one : (events : List Event) (event : Event) (position : ℕ) (at_first prepared new : Phase) → length events ≡ position → back prepared ≡ back at_first → IsTaken event position prepared new → InTime events event at_first → StandsAt events at_first → StandsAt (events ++ event ∷ []) new
one events event position at_first prepared new len kept taken time stands =
    let m = moved event position prepared new taken in
    let schema : at_first.schema ≡ prepared.schema = ap (λ (p : Phase). p.schema) (sym kept) in
    let query : at_first.query ≡ prepared.query = ap (λ (p : Phase). p.query) (sym kept) in
    let query_state : at_first.kept ≡ prepared.kept = ap (λ (p : Phase). p.kept) (sym kept) in
    let time' = subst (λ s. InTime events event (record prepared { schema = s })) schema (subst (λ q. InTime events event (record prepared { schema = at_first.schema; query = q })) query time) in
    let stands' = subst (λ k. StandsWithClock prepared.schema prepared.query events k) query_state (subst (λ q. StandsWithClock prepared.schema q events at_first.kept) query (subst (λ s. StandsWithClock s at_first.query events at_first.kept) schema stands)) in
    let after = m.step.stands events len time' stands' in
    subst (λ q. StandsWithClock new.schema q (events ++ event ∷ []) new.kept) (sym m.query) (subst (λ s. StandsWithClock s prepared.query (events ++ event ∷ []) new.kept) (sym m.schema) after)

all_after : (events : List Event) (event : Event) (position : ℕ) (at_first prepared new : List Phase) → length events ≡ position → map back prepared ≡ map back at_first → AllZip (IsTaken event position) prepared new → All (InTime events event) at_first → All (StandsAt events) at_first → All (StandsAt (events ++ event ∷ [])) new
all_after events event position [] [] [] len kept done time stands = All-nil (StandsAt (events ++ event ∷ []))
all_after events event position [] [] (n ∷ ns) len kept done time stands = absurd done
all_after events event position [] (p ∷ ps) ns len kept done time stands = absurd cc
all_after events event position (a ∷ as') [] ns len kept done time stands = absurd cc
all_after events event position (a ∷ as') (p ∷ ps) [] len kept done time stands = absurd done
all_after events event position (a ∷ as') (p ∷ ps) (n ∷ ns) len kept done time stands =
    let head : back p ≡ back a = cc in
    let rest : map back ps ≡ map back as' = cc in
    All-cons (StandsAt (events ++ event ∷ [])) n ns
    (one events event position a p n len head done.0 (All-head (InTime events event) a as' time) (All-head (StandsAt events) a as' stands))
    (all_after events event position as' ps ns len rest done.1 (All-tail (InTime events event) a as' time) (All-tail (StandsAt events) a as' stands))

pub map_map : {A B C : Type 0} (f : B → C) (g : A → B) (xs : List A) → map (λ x. f (g x)) xs ≡ map f (map g xs)
map_map f g [] = refl
map_map f g (x ∷ xs) = ap (λ zs. f (g x) ∷ zs) (map_map f g xs)

pub stands_after : {A : Type 0} (before after : A → Phase) (events : List Event) (event : Event) (position : ℕ) (at_first prepared new : List A) → length events ≡ position → map (λ p. back (before p)) prepared ≡ map (λ p. back (before p)) at_first → AllZip (IsTaken event position) (map before prepared) (map after new) → All (λ p. InTime events event (before p)) at_first → All (λ p. StandsAt events (before p)) at_first → All (λ p. StandsAt (events ++ event ∷ []) (after p)) new
stands_after before after events event position at_first prepared new len kept done time stands =
    all_mapped (StandsAt (events ++ event ∷ [])) after new (all_after events event position (map before at_first) (map before prepared) (map after new) len
    (sym (map_map back before prepared) ∙ (kept ∙ map_map back before at_first))
    done (All-map (InTime events event) before at_first time) (All-map (StandsAt events) before at_first stands))

-- what each query state is after the event, however it was taken
all_moved : (P : Phase → Type 0) (event : Event) (position : ℕ) (old new : List Phase) → ((o n : Phase) → Moved event position o n → P n) → AllZip (IsTaken event position) old new → All P new
all_moved P event position [] [] f z = All-nil P
all_moved P event position [] (n ∷ ns) f z = absurd z
all_moved P event position (o ∷ os) [] f z = absurd z
all_moved P event position (o ∷ os) (n ∷ ns) f z = All-cons P n ns (f o n (moved event position o n z.0)) (all_moved P event position os ns f z.1)

pub idle_after : {A : Type 0} (before after : A → Phase) (event : Event) (position : ℕ) (prepared new : List A) → AllZip (IsTaken event position) (map before prepared) (map after new) → All (λ p. IsIdle (after p)) new
idle_after before after event position prepared new z = all_mapped IsIdle after new (all_moved IsIdle event position (map before prepared) (map after new) (λ o n m. m.idle) z)

pub quiet_after : {A : Type 0} (before after : A → Phase) (event : Event) (position : ℕ) (prepared new : List A) → AllZip (IsTaken event position) (map before prepared) (map after new) → All (λ p. HasNoAnswer (position + 1) (after p)) new
quiet_after before after event position prepared new z = all_mapped (HasNoAnswer (position + 1)) after new (all_moved (HasNoAnswer (position + 1)) event position (map before prepared) (map after new) (λ o n m. m.quiet) z)

grown_one : (event : Event) (position : ℕ) (at_first prepared new : Phase) → back prepared ≡ back at_first → IsTaken event position prepared new → HasGrown event at_first new
grown_one event position at_first prepared new kept taken =
    let m = moved event position prepared new taken in
    let schema : at_first.schema ≡ prepared.schema = ap (λ (p : Phase). p.schema) (sym kept) in
    let query : at_first.query ≡ prepared.query = ap (λ (p : Phase). p.query) (sym kept) in
    let query_state : at_first.kept ≡ prepared.kept = ap (λ (p : Phase). p.kept) (sym kept) in
    record {
      schema = m.schema ∙ sym schema;
      query = m.query ∙ sym query;
      grows =
          subst (λ s. Grows s at_first.query event at_first.kept new.kept) (sym schema)
          (subst (λ q. Grows prepared.schema q event at_first.kept new.kept) (sym query) (subst (λ k. Grows prepared.schema prepared.query event k new.kept) (sym query_state) m.step.grows));
    }

grown_all : (event : Event) (position : ℕ) (at_first prepared new : List Phase) → map back prepared ≡ map back at_first → AllZip (IsTaken event position) prepared new → AllZip (HasGrown event) at_first new
grown_all event position [] [] [] kept done = tt
grown_all event position [] [] (n ∷ ns) kept done = absurd done
grown_all event position [] (p ∷ ps) ns kept done = absurd cc
grown_all event position (a ∷ as') [] ns kept done = absurd cc
grown_all event position (a ∷ as') (p ∷ ps) [] kept done = absurd done
grown_all event position (a ∷ as') (p ∷ ps) (n ∷ ns) kept done =
    let head : back p ≡ back a = cc in
    let rest : map back ps ≡ map back as' = cc in
    (grown_one event position a p n head done.0, grown_all event position as' ps ns rest done.1)

-- each query state has grown by the event
pub grown_after : {A : Type 0} (before after : A → Phase) (event : Event) (position : ℕ) (at_first prepared new : List A) → map (λ p. back (before p)) prepared ≡ map (λ p. back (before p)) at_first → AllZip (IsTaken event position) (map before prepared) (map after new) → AllZip (HasGrown event) (map before at_first) (map after new)
grown_after before after event position at_first prepared new kept done =
    grown_all event position (map before at_first) (map before prepared) (map after new) (sym (map_map back before prepared) ∙ (kept ∙ map_map back before at_first)) done

bound_one : (event : Event) (position : ℕ) (p n : Phase) → IsTaken event position p n → ready_bound p ≤ kept_bound n
bound_one event position p n (inl done) = let e = ap bound_of done.1.kept in omega arith
bound_one event position p n (inr h) = let e = ap bound_of h.was_idle in omega arith

same_bounds : (event : Event) (position : ℕ) (prepared new : List Phase) → AllZip (IsTaken event position) prepared new → sum_by ready_bound prepared ≤ sum_by kept_bound new
same_bounds event position [] [] z = omega arith
same_bounds event position [] (n ∷ ns) z = absurd z
same_bounds event position (p ∷ ps) [] z = absurd z
same_bounds event position (p ∷ ps) (n ∷ ns) z =
    let head = bound_one event position p n z.0 in
    let rest = same_bounds event position ps ns z.1 in
    let a = sum_by-cons ready_bound p ps in
    let b = sum_by-cons kept_bound n ns in
    omega arith

sum_map : {A B : Type 0} (f : B → ℕ) (g : A → B) (xs : List A) → sum_by f (map g xs) ≡ sum_by (λ x. f (g x)) xs
sum_map f g [] = refl
sum_map f g (x ∷ xs) =
    let rest = sum_map f g xs in
    let a = sum_by-cons f (g x) (map g xs) in
    let b = sum_by-cons (λ x. f (g x)) x xs in
    omega arith

-- what is ready bounds the steps, and so does what is kept after the commit
pub bounds_after : {A : Type 0} (before after : A → Phase) (event : Event) (position : ℕ) (prepared new : List A) → AllZip (IsTaken event position) (map before prepared) (map after new) → sum_by (λ p. ready_bound (before p)) prepared ≤ sum_by (λ p. kept_bound (after p)) new
bounds_after before after event position prepared new z =
    let a = sum_map ready_bound before prepared in
    let b = same_bounds event position (map before prepared) (map after new) z in
    let c = sum_map kept_bound after new in
    omega arith
