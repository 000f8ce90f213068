-- What fell out of the windows stays out of them.
use Rattle.std.proofs.Common.{◌≡◌, ℕ, suc, ◌+◌, ℤ, ◌≤ℤ◌, ◌<ℤ◌, ◌||◌, Bool, true, false, not, cond, List, [], ◌∷◌, ◌++◌, filter, length, drop, slice_get, Option, Some, None, refl, sym, ap, ap₂, subst, ◌∙◌, add-one, arith}
use Rattle.std.specs.Prelude.{int_lt, pos, ◌+ℤ◌}
use Rattle.std.proofs.lemmas.Int.{ints}
use Rattle.std.proofs.lemmas.List.{append-nil}
use Rattle.stream_schema.specs.Types.{Declared}
use Rattle.stream_schema.specs.declared.Event.{Event}
use Rattle.cel_terms.specs.declared.Query.{Query}
use Rattle.cel_terms.specs.declared.Window.{Window}
use Rattle.cel_terms.specs.declared.Window.TheVariants.{Free, Events, Clock}
use Rattle.checkpoint_text.specs.declared.history.EventAt.{EventAt}
use Rattle.checkpoint_text.specs.QueryClocks.{clock_at, later_clock, is_back}
use Rattle.checkpoint_text.specs.LastClocks.{last_clocks, any_back, next_clocks}
use Rattle.checkpoint_text.specs.declared.keeping.KeptLine.{KeptLine}
use Rattle.checkpoint_text.specs.Keeping.{are_within, needs, is_needed, any_needs, Keeper, needed, next_event, with_event}
use Rattle.checkpoint_text.proofs.Falling.{from_place}

less_test : (a b : ℤ) → int_lt a b ≡ true → a <ℤ b
less_test a b e = grind (arith, ints)

not_less_test : (a b : ℤ) → int_lt a b ≡ false → b ≤ℤ a
not_less_test a b e = grind (arith, ints)

-- below a bound there is no greater one below the other
no_less : (bound b n : ℤ) → int_lt n b ≡ false → not (int_lt bound n) ≡ true → not (int_lt bound b) ≡ true
no_less bound b n level e = by_tests (int_lt bound n) (int_lt bound b) refl refl e
  where
    by_tests : (s t : Bool) → int_lt bound n ≡ s → int_lt bound b ≡ t → not s ≡ true → not t ≡ true
    by_tests true t is this f = absurd cc
    by_tests false false is this f = refl
    by_tests false true is this f =
        let low : b ≤ℤ n = not_less_test n b level in
        let high : n ≤ℤ bound = not_less_test bound n is in
        let over : bound <ℤ b = less_test bound b this in
        absurd (omega (arith, ints))

within_before : (w : Window) (from last now : Option ℤ) → is_back last now ≡ false → are_within w from (later_clock last now) ≡ true → are_within w from last ≡ true
within_before w None last None level e = e
within_before w None last (Some n) level e = absurd cc
within_before w (Some c) last None level e = e
within_before w (Some c) None (Some n) level e = refl
within_before Free (Some c) (Some b) (Some n) level e = refl
within_before (Events k) (Some c) (Some b) (Some n) level e = no_less (c +ℤ pos k) b n level e
within_before (Clock name k) (Some c) (Some b) (Some n) level e = no_less (c +ℤ k) b n level e

either : (s t u v : Bool) → (s ≡ true → t ≡ true) → (u ≡ true → v ≡ true) → (s || u) ≡ true → (t || v) ≡ true
either true t u v f g e = rw (f refl) refl
either false true u v f g e = refl
either false false u v f g e = g e

neither : (s t : Bool) → (s || t) ≡ false → (s ≡ false) × (t ≡ false)
neither false t e = (refl, e)
neither true t e = absurd cc

-- what is needed with one event more was needed before
pub needed_before : (schema : Declared) (queries : List Query) (lasts : List (Option ℤ)) (e x : EventAt) → any_back schema queries lasts e ≡ false → any_needs schema queries (next_clocks schema queries lasts e) x ≡ true → any_needs schema queries lasts x ≡ true
needed_before schema [] lasts e x level n = n
needed_before schema (q ∷ queries) [] e x level n = n
needed_before schema (q ∷ queries) (last ∷ lasts) e x level n =
    let both = neither (is_back last (clock_at schema q e)) (any_back schema queries lasts e) level in
    either _ _ _ _ (within_before q.window (clock_at schema q x) last (clock_at schema q e) both.0) (needed_before schema queries lasts e x both.1) n

-- what one test passes another passed
pub filter_again : {A : Type 0} (p r : A → Bool) → ((x : A) → r x ≡ true → p x ≡ true) → (xs ys : List A) → filter r (filter p xs ++ ys) ≡ filter r (xs ++ ys)
filter_again p r passes [] ys = refl
filter_again p r passes (x ∷ xs) ys = by_tests (p x) (r x) refl refl (filter_again p r passes xs ys)
  where
    by_tests : (s t : Bool) → p x ≡ s → r x ≡ t → filter r (filter p xs ++ ys) ≡ filter r (xs ++ ys) → filter r (cond s (x ∷ filter p xs) (filter p xs) ++ ys) ≡ cond t (x ∷ filter r (xs ++ ys)) (filter r (xs ++ ys))
    by_tests true true is this e = ap (λ b. cond b (x ∷ filter r (filter p xs ++ ys)) (filter r (filter p xs ++ ys))) this ∙ ap (λ l. x ∷ l) e
    by_tests true false is this e = ap (λ b. cond b (x ∷ filter r (filter p xs ++ ys)) (filter r (filter p xs ++ ys))) this ∙ e
    by_tests false false is this e = e
    by_tests false true is this e =
        let clash : false ≡ true = sym is ∙ passes x this in
        absurd cc

-- one query more
pub needs_step : (schema : Declared) (queries : List Query) (lasts : List (Option ℤ)) (e : EventAt) (k : ℕ) (q : Query) (last : Option ℤ) → slice_get queries k ≡ Some q → slice_get lasts k ≡ Some last →
    any_needs schema (drop k queries) (drop k lasts) e ≡ (are_within q.window (clock_at schema q e) last || any_needs schema (drop (k + 1) queries) (drop (k + 1) lasts) e)
needs_step schema queries lasts e k q last at here =
    rw (add-one k) (ap (λ qs. any_needs schema qs (drop k lasts) e) (from_place queries k q at) ∙ ap (λ ls. any_needs schema (q ∷ drop (suc k) queries) ls e) (from_place lasts k last here))

pub any_needs_is : (schema : Declared) (queries : List Query) (events : List EventAt) (e : EventAt) → any_needs schema queries (last_clocks schema queries events) e ≡ is_needed schema queries events e
any_needs_is schema [] events e = refl
any_needs_is schema (q ∷ queries) events e = ap (λ b. needs schema events e q || b) (any_needs_is schema queries events e)

-- lines that are needed are needed again
pub needed_twice : (schema : Declared) (queries : List Query) (lasts : List (Option ℤ)) (lines : List KeptLine) → needed schema queries lasts (needed schema queries lasts lines) ≡ needed schema queries lasts lines
needed_twice schema queries lasts lines =
    let test : KeptLine → Bool = λ line. any_needs schema queries lasts line.at in
    ap (filter test) (sym (append-nil (filter test lines))) ∙ filter_again test test (λ line e. e) lines [] ∙ ap (filter test) (append-nil lines)

-- of the lines with one more those that are needed, of which others were given up before
pub needed_on : (schema : Declared) (queries : List Query) (lasts : List (Option ℤ)) (e : EventAt) (lines more : List KeptLine) → any_back schema queries lasts e ≡ false →
    needed schema queries (next_clocks schema queries lasts e) (needed schema queries lasts lines ++ more) ≡ needed schema queries (next_clocks schema queries lasts e) (lines ++ more)
needed_on schema queries lasts e lines more level =
    filter_again (λ line. any_needs schema queries lasts line.at) (λ line. any_needs schema queries (next_clocks schema queries lasts e) line.at) (λ line n. needed_before schema queries lasts e line.at level n) lines more

pub next_long : (schema : Declared) (queries : List Query) (lasts : List (Option ℤ)) (e : EventAt) → length lasts ≡ length queries → length (next_clocks schema queries lasts e) ≡ length queries
next_long schema [] lasts e same = refl
next_long schema (q ∷ queries) [] e same = same
next_long schema (q ∷ queries) (last ∷ lasts) e same = ap suc (next_long schema queries lasts e (omega (arith, same)))

-- a keeper with one event more, from its parts
pub added : (schema : Declared) (queries : List Query) (positions : ℕ) (stored : List KeptLine) (lasts : List (Option ℤ)) (event : Event) (text : List ℕ) (after : List KeptLine) (clocks : List (Option ℤ)) (self : Keeper) →
    self ≡ record { schema = schema; queries = queries; positions = positions; lines = needed schema queries lasts stored; lasts = lasts } → any_back self.schema self.queries self.lasts (next_event self event) ≡ false →
    clocks ≡ next_clocks schema queries lasts (record { position = positions; event = event }) → after ≡ stored ++ record { at = record { position = positions; event = event }; text = text } ∷ [] →
    (let k : Keeper = record { schema = schema; queries = queries; positions = positions + 1; lines = needed schema queries clocks after; lasts = clocks } in k) ≡ with_event self event text
added schema queries positions stored lasts event text after clocks self is level clocks_are after_is =
    let e : EventAt = record { position = positions; event = event } in
    let line : KeptLine = record { at = e; text = text } in
    let of : List (Option ℤ) → List KeptLine → Keeper = λ cs ls. record { schema = schema; queries = queries; positions = positions + 1; lines = ls; lasts = cs } in
    let P : Keeper → Type 0 = λ k. any_back k.schema k.queries k.lasts (next_event k event) ≡ false → of clocks (needed schema queries clocks after) ≡ with_event k event text in
    subst P (sym is) (λ low.
    ap₂ (λ cs ls. of cs (needed schema queries cs ls)) clocks_are after_is
    ∙ ap (of (next_clocks schema queries lasts e)) (sym (needed_on schema queries lasts e stored (line ∷ []) low))) level
