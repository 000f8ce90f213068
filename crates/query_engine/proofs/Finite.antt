-- The runs of a query meet no more than so many states, whatever the events.
use Rattle.std.proofs.Common.{◌≡◌, ℕ, zero, suc, ◌+◌, ◌<◌, ◌≤◌, ◌⊎◌, inl, inr, Bool, true, false, not, ◌&&◌, ◌||◌, List, [], ◌∷◌, ◌++◌, map, length, Option, Some, None, slice_get, refl, sym, ◌∙◌, ap, subst, arith}
use Rattle.std.specs.Prelude.{Contains, option_and_then, option_map, cond, if◌then◌else◌}
use Rattle.std.specs.List.{list_all}
use Rattle.std.proofs.Math.Path.{fun_ext}
use Rattle.std.proofs.lemmas.List.Elements.{All-contains, Contains-append_left, Contains-append_right}
use Rattle.std.proofs.lemmas.Option.{slice_get_within}
use Rattle.cer_base.specs.Repeats.{HasNoRepeats}
use Rattle.stream_schema.specs.Types.{Declared}
use Rattle.stream_schema.specs.declared.Event.{Event}
use Rattle.cel_terms.specs.declared.Query.{Query}
use Rattle.query_leaves.specs.Expand.{Occurrence, tree_of}
use Rattle.query_leaves.specs.Leaves.{occurrences}
use Rattle.cea_determinise.specs.declared.cea.Phase.{Phase}
use Rattle.cea_determinise.specs.declared.cea.Phase.TheVariants.{Before, Within, After}
use Rattle.cea_determinise.specs.Runs.{LeafSet, Automaton, RunState, start, pair, some_below, candidates, skip_insensitive, agrees, readers, minds_next, waits_at_once, successor, has_leaf, next, has_mark}
use Rattle.cea_determinise.specs.Strict.{Standing, begin, phase_after, next_standing, run_standing}
use Rattle.cea_compile.specs.Compiled.{automaton_of}
use Rattle.cea_compile.specs.DeterminisedRuns.{from_to, reads_at, entry_at}
use Rattle.query_standing.specs.Bounds.{IsMet, MeetAtMost}

-- LISTS WITHOUT REPEATS

-- what is in a list is its first or after it
first_or_behind : {A : Type 0} (x y : A) (xs : List A) → Contains (x ∷ xs) y → (x ≡ y) ⊎ Contains xs y
first_or_behind x y xs (zero, within, at) = inl at
first_or_behind x y xs (suc k, within, at) = inr (k, omega arith, at)

-- The list with one element fewer.
record Without {A : Type 0} (ys : List A) (x : A) : Type 0 where
  rest : List A
  shorter : length ys ≡ length rest + 1
  others : (y : A) → Contains ys y → (y ≡ x) ⊎ Contains rest y

without : {A : Type 0} (ys : List A) (x : A) → Contains ys x → Without ys x
without [] x (k, within, at) = absurd (omega arith)
without (z ∷ ys) x (zero, within, at) = record {
  rest = ys;
  shorter = omega arith;
  others = λ y has. elim (first_or_behind z y ys has) [ inl e ↦ inl (sym e ∙ at) | inr r ↦ inr r ];
}
without (z ∷ ys) x (suc k, within, at) =
    let w = without ys x (k, omega arith, at) in record {
      rest = z ∷ w.rest;
      shorter = let l = w.shorter in omega arith;
      others = λ y has. elim (first_or_behind z y ys has) [
        | inl e ↦ inr (0, omega arith, e)
        | inr r ↦ elim (w.others y r) [ inl e ↦ inl e | inr s ↦ inr (Contains-append_right (z ∷ []) w.rest y s) ]
      ];
    }

-- No more different ones than there are in another list that has them all.
pub few : {A : Type 0} (xs ys : List A) → HasNoRepeats xs → ((x : A) → Contains xs x → Contains ys x) → length xs ≤ length ys
few [] ys h all = omega arith
few (x ∷ xs) ys h all =
    let w = without ys x (all x (0, omega arith, refl)) in
    let rest = few xs w.rest h.1 (λ y has. elim (w.others y (all y (Contains-append_right (x ∷ []) xs y has))) [
      | inl e ↦ absurd (h.0 (subst (Contains xs) e has))
      | inr r ↦ r
    ]) in
    let l = w.shorter in
    omega arith

contains_map : {X Y : Type 0} (f : X → Y) (x : X) (xs : List X) → Contains xs x → Contains (map f xs) (f x)
contains_map f x [] h = absurd (let within = h.1 in omega arith)
contains_map f x (z ∷ xs) (zero, within, at) = (0, omega arith, ap f at)
contains_map f x (z ∷ xs) (suc k, within, at) = Contains-append_right (f z ∷ []) (map f xs) (f x) (contains_map f x xs (k, omega arith, at))

-- each of these with each of those
abbrev each_with : {A B C : Type 0} → (A → B → C) → List A → List B → List C
each_with f [] ys = []
each_with f (x ∷ xs) ys = map (f x) ys ++ each_with f xs ys

with_each : {A B C : Type 0} (f : A → B → C) (xs : List A) (ys : List B) (x : A) (y : B) → Contains xs x → Contains ys y → Contains (each_with f xs ys) (f x y)
with_each f [] ys x y h k = absurd (let within = h.1 in omega arith)
with_each {A} {B} {C} f (z ∷ xs) ys x y h k = elim (first_or_behind z x xs h) [
  | inl e ↦ Contains-append_left (map (f z) ys) (each_with f xs ys) (f x y) (subst (λ (w : A). Contains (map (f z) ys) (f w y)) e (contains_map (f z) y ys k))
  | inr r ↦ Contains-append_right (map (f z) ys) (each_with f xs ys) (f x y) (with_each f xs ys x y r k)
]

-- SETS OF LEAVES BELOW A NUMBER

abbrev with_first : Bool → LeafSet → LeafSet
with_first b f zero = b
with_first b f (suc k) = f k

abbrev sets_below : ℕ → List LeafSet
sets_below zero = (λ k. false) ∷ []
sets_below (suc m) = each_with with_first (false ∷ true ∷ []) (sets_below m)

abbrev AllBelow : ℕ → LeafSet → Type 0
AllBelow m f = (k : ℕ) → f k ≡ true → k < m

known : (b : Bool) → Contains (false ∷ true ∷ []) b
known false = (0, omega arith, refl)
known true = (1, omega arith, refl)

is_false : (b : Bool) → (b ≡ true → ⊥) → false ≡ b
is_false false h = refl
is_false true h = absurd (h refl)

split : (f : LeafSet) (k : ℕ) → with_first (f 0) (λ j. f (suc j)) k ≡ f k
split f zero = refl
split f (suc k) = refl

set_there : (m : ℕ) (f : LeafSet) → AllBelow m f → Contains (sets_below m) f
set_there zero f below = (0, omega arith, fun_ext (λ k. is_false (f k) (λ is. let less = below k is in omega arith)))
set_there (suc m) f below =
    let rest = set_there m (λ j. f (suc j)) (λ k is. let less = below (suc k) is in omega arith) in
    subst (Contains (sets_below (suc m))) (fun_ext (split f)) (with_each with_first (false ∷ true ∷ []) (sets_below m) (f 0) (λ j. f (suc j)) (known (f 0)) rest)

-- STATES OF SUCH SETS

abbrev IsBelow : ℕ → RunState → Type 0
IsBelow m start = Unit {0}
IsBelow m (pair fresh waiting) = AllBelow m fresh × AllBelow m waiting

abbrev states_below : ℕ → List RunState
states_below m = start ∷ each_with pair (sets_below m) (sets_below m)

abbrev phases : List Phase
phases = Before ∷ Within ∷ After ∷ []

abbrev stand : RunState → Phase → Standing
stand s p = record { sets = s; phase = p }

abbrev standings_below : ℕ → List Standing
standings_below m = each_with stand (states_below m) phases

phase_there : (p : Phase) → Contains phases p
phase_there Before = (0, omega arith, refl)
phase_there Within = (1, omega arith, refl)
phase_there After = (2, omega arith, refl)

state_there : (m : ℕ) (s : RunState) → IsBelow m s → Contains (states_below m) s
state_there m start below = (0, omega arith, refl)
state_there m (pair f w) below =
    Contains-append_right (start ∷ []) (each_with pair (sets_below m) (sets_below m)) (pair f w) (with_each pair (sets_below m) (sets_below m) f w (set_there m f below.0) (set_there m w below.1))

standing_there : (m : ℕ) (s : Standing) → IsBelow m s.sets → Contains (standings_below m) s
standing_there m s below = with_each stand (states_below m) phases s.sets s.phase (state_there m s.sets below) (phase_there s.phase)

-- RUNS

and_middle : (x y z : Bool) → (x && (y && z)) ≡ true → y ≡ true
and_middle true true z e = refl
and_middle true false z e = e
and_middle false true z e = refl
and_middle false false z e = e

and_last : (x y : Bool) → (x && y) ≡ true → y ≡ true
and_last true y e = e
and_last false true e = refl
and_last false false e = e

and_front : (x y : Bool) → (x && y) ≡ true → x ≡ true
and_front true y e = refl
and_front false y e = e

one_of : (x y : Bool) → (x || y) ≡ true → (x ≡ true) ⊎ (y ≡ true)
one_of true y e = inl refl
one_of false y e = inr e

either : (x y z : Bool) → ((x || y) && z) ≡ true → (x ≡ true) ⊎ (y ≡ true)
either true y z e = inl refl
either false true z e = inr refl
either false false z e = inl e

skip_insensitive_below : (a : Automaton) (m : ℕ) (s : RunState) (k : ℕ) → IsBelow m s → skip_insensitive a s k ≡ true → k < m
skip_insensitive_below a m start k below is = absurd (let no : false ≡ true = is in cc)
skip_insensitive_below a m (pair f w) k below is = elim (either (f k) (w k) (some_below a.size (a.far k)) is) [ inl e ↦ below.0 k e | inr e ↦ below.1 k e ]

successor_below : (a : Automaton) (m : ℕ) (s : RunState) (bits : LeafSet) (mark : Bool) → IsBelow m s → AllBelow m bits → IsBelow m (successor a s bits mark)
successor_below a m s bits mark below read = (
  λ k is. reader k (and_front (readers a s bits mark k) (minds_next a k) is),
  λ k is. elim (one_of (not mark && skip_insensitive a s k) (readers a s bits mark k && waits_at_once a k) is) [
    | inl past ↦ skip_insensitive_below a m s k below (and_last (not mark) (skip_insensitive a s k) past)
    | inr now ↦ reader k (and_front (readers a s bits mark k) (waits_at_once a k) now)
  ],
)
  where
    reader : (k : ℕ) → readers a s bits mark k ≡ true → k < m
    reader k is = read k (and_middle (candidates a s k) (bits k) (agrees mark (a.marked k)) is)

from_cond : {A : Type 0} (b : Bool) (x y : A) → (cond b (Some x) None) ≡ Some y → x ≡ y
from_cond true x y e = cc
from_cond false x y e = absurd (cc)

next_below : (a : Automaton) (m : ℕ) (s t : RunState) (bits : LeafSet) (mark : Bool) → IsBelow m s → AllBelow m bits → next a s bits mark ≡ Some t → IsBelow m t
next_below a m s t bits mark below read is =
    subst (IsBelow m) (from_cond (has_leaf a (successor a s bits mark)) (successor a s bits mark) t is) (successor_below a m s bits mark below read)

next_with : (a : Automaton) (m : ℕ) (s : RunState) (t : Standing) (bits : LeafSet) (mark : Bool) (p : Option Phase) (o : Option RunState) → o ≡ next a s bits mark → IsBelow m s → AllBelow m bits →
    option_and_then (λ p. option_map (λ u. record { sets = u; phase = p }) o) p ≡ Some t → IsBelow m t.sets
next_with a m s t bits mark None o from below read is = absurd (cc)
next_with a m s t bits mark (Some p) None from below read is = absurd (cc)
next_with a m s t bits mark (Some p) (Some u) from below read is =
    let same : u ≡ t.sets = ap (λ (o : Option Standing). sets_or u o) is in
    subst (IsBelow m) same (next_below a m s u bits mark below read (sym from))
  where
    sets_or : RunState → Option Standing → RunState
    sets_or v None = v
    sets_or v (Some w) = w.sets

reads_below : (schema : Declared) (occurs : List Occurrence) (event : Option Event) (k : ℕ) → reads_at schema (slice_get occurs k) event ≡ true → k < length occurs
reads_below schema occurs event k is = go (slice_get occurs k) refl is
  where
    go : (o : Option Occurrence) → slice_get occurs k ≡ o → reads_at schema o event ≡ true → k < length occurs
    go None at reads = absurd (let no : false ≡ true = reads in cc)
    go (Some o) at reads = slice_get_within occurs k o at

run_below : (schema : Declared) (q : Query) (events : List Event) (a : Automaton) (strict : Bool) (marks : ℕ → Bool) (span : List ℕ) (s t : Standing) → IsBelow (length (occurrences (tree_of q))) s.sets →
    run_standing a strict marks s (map (entry_at schema q events) span) ≡ Some t → IsBelow (length (occurrences (tree_of q))) t.sets
run_below schema q events a strict marks [] s t below is = let same : s ≡ t = cc in subst (λ (u : Standing). IsBelow (length (occurrences (tree_of q))) u.sets) same below
run_below schema q events a strict marks (p ∷ span) s t below is =
    go (next_standing a strict s (entry_at schema q events p).bits (marks p)) refl (λ u under leads. run_below schema q events a strict marks span u t under leads) is
  where
    go : (o : Option Standing) → next_standing a strict s (entry_at schema q events p).bits (marks p) ≡ o →
        ((u : Standing) → IsBelow (length (occurrences (tree_of q))) u.sets → run_standing a strict marks u (map (entry_at schema q events) span) ≡ Some t → IsBelow (length (occurrences (tree_of q))) t.sets) →
        option_and_then (λ u. run_standing a strict marks u (map (entry_at schema q events) span)) o ≡ Some t → IsBelow (length (occurrences (tree_of q))) t.sets
    go None at rest next_is = absurd (cc)
    go (Some u) at rest next_is =
        rest u (next_with a (length (occurrences (tree_of q))) s.sets u (entry_at schema q events p).bits (marks p) (phase_after strict s.phase (marks p)) (next a s.sets (entry_at schema q events p).bits (marks p)) refl below
        (λ k is. reads_below schema (occurrences (tree_of q)) (slice_get events p) k is) at) next_is

from_if : {A : Type 0} (b : Bool) (o : Option A) (x : A) → (if b then o else None) ≡ Some x → o ≡ Some x
from_if true o x e = e
from_if false o x e = absurd (cc)

met_below : (schema : Declared) (q : Query) (events : List Event) (s : Standing) → IsMet schema q events s → IsBelow (length (occurrences (tree_of q))) s.sets
met_below schema q events s h =
    let span = from_to h.start h.end h.positions in
    run_below schema q h.first (automaton_of (tree_of q)) q.strict (has_mark h.marks) span begin s tt
    (from_if (has_mark span h.start && (has_mark span h.end && list_all (has_mark span) h.marks)) (run_standing (automaton_of (tree_of q)) q.strict (has_mark h.marks) begin (map (entry_at schema q h.first) span)) s h.leads)

-- The runs of a query meet no more than so many states, whatever the events.
pub some_number_is_most : (schema : Declared) (q : Query) → (n : ℕ) × ((events : List Event) → MeetAtMost schema q events n)
some_number_is_most schema q =
    let m = length (occurrences (tree_of q)) in
    (length (standings_below m), λ events states once met. few states (standings_below m) once (λ s has. standing_there m s (met_below schema q events s (All-contains (IsMet schema q events) states s met has))))
