-- Each call of an engine is a step of the model. For callers of the crate too.
use Rattle.std.proofs.Common.{◌≡◌, ℕ, zero, suc, ◌-◌, ◌<◌, ◌≤◌, ℤ, List, [], ◌∷◌, ◌++◌, map, length, get_or, refl, sym, ap, subst, ◌∙◌, Some, slice_get, slice_set, arith}
use Rattle.std.specs.Prelude.{remove}
use Rattle.std.specs.List.{AllZip}
use Rattle.std.specs.List.Sorted.{IsPermutation}
use Rattle.std.proofs.lemmas.List.Sorted.{IsPermutation-refl}
use Rattle.stream_schema.specs.declared.Event.{Event}
use Rattle.cel_terms.specs.declared.Query.{Query}
use Rattle.cel_terms.specs.Answers.{AreAnswersAt}
use Rattle.cer_base.specs.declared.node.Stamp.{Stamp}
use Rattle.cer_base.specs.Members.{Member}
use Rattle.query_engine.specs.Clocks.{NoneFallsBack, IsFirstToFall}
use Rattle.query_engine.specs.Holding.{answer_of}
use Rattle.query_engine.specs.Engine.{EngineState, Open, StandsFor, count_of, Fits, rest, KeepsCursors, IsKept}
use Rattle.query_engine.specs.EngineModel.{OpenCursor, EngineModel, Command, Take, Begin, Pull, Drop, Compact, Done, Falls, Gives, NoneLeft, Wants, with_event, with_cursor, with_left, without_cursor, IsStep, Taken, Refused, Begun, Given, Ended, Dropped, Compacted, Wanted, IsCursor, IsEngineModel}

-- TWO LISTS SIDE BY SIDE

module _ {A B : Type 0} (R : A → B → Type 0) where
  pub zip_weaker : (S : A → B → Type 0) → ((x : A) (y : B) → R x y → S x y) → (xs : List A) (ys : List B) → AllZip R xs ys → AllZip S xs ys
  zip_weaker S f [] [] z = tt
  zip_weaker S f [] (y ∷ ys) z = absurd z
  zip_weaker S f (x ∷ xs) [] z = absurd z
  zip_weaker S f (x ∷ xs) (y ∷ ys) z = (f x y z.0, zip_weaker S f xs ys z.1)

  zip_push : (xs : List A) (ys : List B) (x : A) (y : B) → AllZip R xs ys → R x y → AllZip R (xs ++ x ∷ []) (ys ++ y ∷ [])
  zip_push [] [] x y z r = (r, tt)
  zip_push [] (b ∷ ys) x y z r = absurd z
  zip_push (a ∷ xs) [] x y z r = absurd z
  zip_push (a ∷ xs) (b ∷ ys) x y z r = (z.0, zip_push xs ys x y z.1 r)

  zip_count : (xs : List A) (ys : List B) → AllZip R xs ys → length ys ≡ length xs
  zip_count [] [] z = refl
  zip_count [] (y ∷ ys) z = absurd z
  zip_count (x ∷ xs) [] z = absurd z
  zip_count (x ∷ xs) (y ∷ ys) z = ap suc (zip_count xs ys z.1)

  zip_at : (xs : List A) (ys : List B) (k : ℕ) (x : A) → AllZip R xs ys → slice_get xs k ≡ Some x → (y : B) × (slice_get ys k ≡ Some y) × R x y
  zip_at [] [] k x z at = absurd cc
  zip_at [] (b ∷ ys) k x z at = absurd z
  zip_at (a ∷ xs) [] k x z at = absurd z
  zip_at (a ∷ xs) (b ∷ ys) zero x z at = let same : a ≡ x = cc in (b, refl, subst (λ (v : A). R v b) same z.0)
  zip_at (a ∷ xs) (b ∷ ys) (suc k) x z at = zip_at xs ys k x z.1 at

  zip_set : (xs : List A) (ys : List B) (k : ℕ) (x : A) (y : B) → AllZip R xs ys → R x y → AllZip R (slice_set xs k x) (slice_set ys k y)
  zip_set [] [] k x y z r = tt
  zip_set [] (b ∷ ys) k x y z r = absurd z
  zip_set (a ∷ xs) [] k x y z r = absurd z
  zip_set (a ∷ xs) (b ∷ ys) zero x y z r = (r, z.1)
  zip_set (a ∷ xs) (b ∷ ys) (suc k) x y z r = (z.0, zip_set xs ys k x y z.1 r)

  zip_set_first : (xs : List A) (ys : List B) (k : ℕ) (x : A) (y : B) → AllZip R xs ys → slice_get ys k ≡ Some y → R x y → AllZip R (slice_set xs k x) ys
  zip_set_first [] [] k x y z at r = tt
  zip_set_first [] (b ∷ ys) k x y z at r = absurd z
  zip_set_first (a ∷ xs) [] k x y z at r = absurd z
  zip_set_first (a ∷ xs) (b ∷ ys) zero x y z at r = let same : b ≡ y = cc in (subst (R x) (sym same) r, z.1)
  zip_set_first (a ∷ xs) (b ∷ ys) (suc k) x y z at r = (z.0, zip_set_first xs ys k x y z.1 at r)

  zip_remove : (xs : List A) (ys : List B) (k : ℕ) → AllZip R xs ys → AllZip R (remove xs k) (remove ys k)
  zip_remove [] [] zero z = tt
  zip_remove [] [] (suc k) z = tt
  zip_remove [] (b ∷ ys) k z = absurd z
  zip_remove (a ∷ xs) [] k z = absurd z
  zip_remove (a ∷ xs) (b ∷ ys) zero z = z.1
  zip_remove (a ∷ xs) (b ∷ ys) (suc k) z = (z.0, zip_remove xs ys k z.1)

-- STEPS

pub first_is_machine : (engine : EngineState) → StandsFor engine [] → IsEngineModel engine [] (record { events = []; cursors = [] })
first_is_machine engine stands = record { stands = stands; cursors = tt }

pub cursor_on : (old new : EngineState) → KeepsCursors old new → (c : Open) (d : OpenCursor) → IsCursor old c d → IsCursor new c d
cursor_on old new keeps c d i =
    let k = keeps c i.fits in
    record { fits = k.0; query = i.query; left = i.left ∙ ap (map answer_of) (sym k.1) }

pub event_is_step : (old new : EngineState) (held : List Open) (m : EngineModel) (event : Event) → IsEngineModel old held m → StandsFor new (m.events ++ event ∷ []) → KeepsCursors old new → NoneFallsBack old.schema old.queries m.events event →
    IsStep old.schema old.queries m (Take event) Done (with_event m event) × IsEngineModel new held (with_event m event)
event_is_step old new held m event is stands keeps none = (
  Taken m event none,
  record { stands = stands; cursors = zip_weaker (IsCursor old) (IsCursor new) (cursor_on old new keeps) held m.cursors is.cursors },
)

pub refusal_is_step : (old new : EngineState) (held : List Open) (m : EngineModel) (event : Event) (query : ℕ) (before now : ℤ) → IsEngineModel old held m → new ≡ old → IsFirstToFall old.schema old.queries m.events event query before now →
    IsStep old.schema old.queries m (Take event) (Falls query before now) m × IsEngineModel new held m
refusal_is_step old new held m event query before now is same first = (
  Refused m event query before now first,
  subst (λ (e : EngineState). IsEngineModel e held m) (sym same) is,
)

pub want_is_step : (old new : EngineState) (before after : List Open) (m : EngineModel) (command : Command) → IsEngineModel old before m → new ≡ old → after ≡ before →
    IsStep old.schema old.queries m command Wants m × IsEngineModel new after m
want_is_step old new before after m command is same alike = (
  Wanted m command,
  subst (λ (e : EngineState). IsEngineModel e after m) (sym same) (subst (λ (held : List Open). IsEngineModel old held m) (sym alike) is),
)

-- an engine that took an event stands for some
some_event : (engine : EngineState) (events : List Event) → StandsFor engine events → 0 < count_of engine → 0 < length events
unfolding StandsFor count_of
some_event engine events stands seen = omega (arith, stands.count)

-- the number of a cursor that fits is from 1
from_one : (engine : EngineState) (cursor : Open) (query : ℕ) → Fits engine cursor → cursor.query ≡ query → 1 ≤ query
unfolding Fits
from_one engine cursor query fits of = omega (arith, fits.0)

pub cursor_is_step : (engine : EngineState) (held : List Open) (m : EngineModel) (query : ℕ) (q : Query) (cursor : Open) → IsEngineModel engine held m →
    0 < count_of engine → slice_get engine.queries (query - 1) ≡ Some q → cursor.query ≡ query → Fits engine cursor → AreAnswersAt engine.schema q m.events (length m.events - 1) (map answer_of (rest engine cursor)) →
    (next : EngineModel) × IsStep engine.schema engine.queries m (Begin query) Done next × IsEngineModel engine (held ++ cursor ∷ []) next
cursor_is_step engine held m query q cursor is seen at of fits answers =
    let given = map answer_of (rest engine cursor) in
    let new : OpenCursor = record { query = query; position = length m.events - 1; left = given } in
    let one : IsCursor engine cursor new = record { fits = fits; query = sym of; left = refl } in (
      with_cursor m query given,
      Begun m query q given (from_one engine cursor query fits of) at (some_event engine m.events is.stands seen) answers,
      record { stands = is.stands; cursors = zip_push (IsCursor engine) held m.cursors cursor new is.cursors one },
    )

pub pull_is_step : (engine : EngineState) (held : List Open) (m : EngineModel) (k : ℕ) (before after : Open) (start : Stamp) → IsEngineModel engine held m →
    slice_get held k ≡ Some before → Fits engine after → after.query ≡ before.query → rest engine before ≡ record { start = start; positions = after.path } ∷ rest engine after →
    (next : EngineModel) × IsStep engine.schema engine.queries m (Pull k) (Gives (answer_of (record { start = start; positions = after.path }))) next × IsEngineModel engine (slice_set held k after) next
pull_is_step engine held m k before after start is at fits of gives =
    let there = zip_at (IsCursor engine) held m.cursors k before is.cursors at in
    let cursor = there.0 in
    let was = there.2 in
    let one : Member = record { start = start; positions = after.path } in
    let others = map answer_of (rest engine after) in
    let left : cursor.left ≡ answer_of one ∷ others = was.left ∙ ap (map answer_of) gives in
    let now : OpenCursor = record cursor { left = others } in
    let is_now : IsCursor engine after now = record { fits = fits; query = was.query ∙ sym of; left = refl } in (
      with_left m k cursor others,
      Given m k cursor (answer_of one) others there.1 (subst (IsPermutation cursor.left) left (IsPermutation-refl cursor.left)),
      record { stands = is.stands; cursors = zip_set (IsCursor engine) held m.cursors k after now is.cursors is_now },
    )

pub last_pull_is_step : (engine : EngineState) (held : List Open) (m : EngineModel) (k : ℕ) (before after : Open) → IsEngineModel engine held m →
    slice_get held k ≡ Some before → Fits engine after → after.query ≡ before.query → rest engine before ≡ [] → rest engine after ≡ [] →
    IsStep engine.schema engine.queries m (Pull k) NoneLeft m × IsEngineModel engine (slice_set held k after) m
last_pull_is_step engine held m k before after is at fits of none still =
    let there = zip_at (IsCursor engine) held m.cursors k before is.cursors at in
    let was = there.2 in
    let left : there.0.left ≡ [] = was.left ∙ ap (map answer_of) none in
    let is_now : IsCursor engine after there.0 = record { fits = fits; query = was.query ∙ sym of; left = left ∙ ap (map answer_of) (sym still) } in (
      Ended m k there.0 there.1 left,
      record { stands = is.stands; cursors = zip_set_first (IsCursor engine) held m.cursors k after there.0 is.cursors there.1 is_now },
    )

pub drop_is_step : (engine : EngineState) (held : List Open) (m : EngineModel) (k : ℕ) → IsEngineModel engine held m → k < length held →
    IsStep engine.schema engine.queries m (Drop k) Done (without_cursor m k) × IsEngineModel engine (remove held k) (without_cursor m k)
drop_is_step engine held m k is inside =
    let many = zip_count (IsCursor engine) held m.cursors is.cursors in (
      Dropped m k (omega arith),
      record { stands = is.stands; cursors = zip_remove (IsCursor engine) held m.cursors k is.cursors },
    )

kept_on : (old new : EngineState) (before after : List Open) (cursors : List OpenCursor) → AllZip (IsCursor old) before cursors → length after ≡ length before → ((k : ℕ) (d : Open) → k < length before → IsKept old new (get_or before k d) (get_or after k d)) →
    AllZip (IsCursor new) after cursors
kept_on old new [] [] [] z count kept = tt
kept_on old new [] [] (d ∷ cursors) z count kept = absurd z
kept_on old new [] (v ∷ after) cursors z count kept = absurd (omega arith)
kept_on old new (w ∷ before) [] cursors z count kept = absurd (omega arith)
kept_on old new (w ∷ before) (v ∷ after) [] z count kept = absurd z
kept_on old new (w ∷ before) (v ∷ after) (d ∷ cursors) z count kept =
    let one = kept 0 w (omega arith) in
    let was = z.0 in (
      record { fits = one.fits; query = was.query ∙ sym one.query; left = was.left ∙ ap (map answer_of) (sym one.rest) },
      kept_on old new before after cursors z.1 (omega arith) (λ k x less. kept (suc k) x (omega arith)),
    )

pub compaction_is_step : (old new : EngineState) (before after : List Open) (m : EngineModel) → IsEngineModel old before m → StandsFor new m.events → length after ≡ length before →
    ((k : ℕ) (d : Open) → k < length before → IsKept old new (get_or before k d) (get_or after k d)) → IsStep old.schema old.queries m Compact Done m × IsEngineModel new after m
compaction_is_step old new before after m is stands count kept = (
  Compacted m,
  record { stands = stands; cursors = kept_on old new before after m.cursors is.cursors count kept },
)
