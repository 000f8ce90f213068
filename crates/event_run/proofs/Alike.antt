-- Whether a clock falls depends on what the queries say: on their streams and windows.
use Rattle.std.proofs.Common.{◌≡◌, ℕ, suc, zero, ◌-◌, ℤ, List, [], ◌∷◌, map, Contains, Some, slice_get, refl, sym, ◌∙◌, ap, subst}
use Rattle.stream_schema.specs.Types.{Declared}
use Rattle.stream_schema.specs.declared.Event.{Event}
use Rattle.cel_terms.specs.declared.Query.{Query}
use Rattle.cel_terms.specs.Answers.{query_types, HasClock}
use Rattle.ceql_parser.specs.QueryTrees.{QueryTree, query_tree}
use Rattle.query_engine.specs.Clocks.{Reads, HasClockAt, IsLastClock, FallsBack, NoneFallsBack, IsFirstToFall}

-- The queries read the same types and have the same window.
pub record AreAlike (p q : Query) : Type 0 where
  pub streams : p.streams ≡ q.streams
  pub window : p.window ≡ q.window

alike : (p q : Query) → query_tree p ≡ query_tree q → AreAlike p q
alike p q same = record { streams = ap (λ (t : QueryTree). t.streams) same; window = ap (λ (t : QueryTree). t.window) same }

back : (p q : Query) → AreAlike p q → AreAlike q p
back p q a = record { streams = sym a.streams; window = sym a.window }

reads_as : (schema : Declared) (p q : Query) (event : Event) → AreAlike p q → Reads schema p event → Reads schema q event
reads_as schema p q event a r = subst (λ s. Contains (query_types schema s) event.ty) a.streams r

clock_as : (schema : Declared) (p q : Query) (event : Event) (position : ℕ) (clock : ℤ) → AreAlike p q → HasClock schema p.window event position clock → HasClock schema q.window event position clock
clock_as schema p q event position clock a h = subst (λ w. HasClock schema w event position clock) a.window h

clock_at_as : (schema : Declared) (p q : Query) (events : List Event) (position : ℕ) (clock : ℤ) → AreAlike p q → HasClockAt schema p events position clock → HasClockAt schema q events position clock
clock_at_as schema p q events position clock a h = record {
  event = h.event;
  at = h.at;
  read = reads_as schema p q h.event a h.read;
  clock_is = clock_as schema p q h.event position clock a h.clock_is;
}

last_as : (schema : Declared) (p q : Query) (events : List Event) (clock : ℤ) → AreAlike p q → IsLastClock schema p events clock → IsLastClock schema q events clock
last_as schema p q events clock a l = record {
  position = l.position;
  has = clock_at_as schema p q events l.position clock a l.has;
  last = λ n event later at reads. l.last n event later at (reads_as schema q p event (back p q a) reads);
}

falls_as : (schema : Declared) (p q : Query) (events : List Event) (event : Event) (before now : ℤ) → AreAlike p q → FallsBack schema p events event before now → FallsBack schema q events event before now
falls_as schema p q events event before now a f = record {
  reads = reads_as schema p q event a f.reads;
  last = last_as schema p q events before a f.last;
  now_is = clock_as schema p q event _ now a f.now_is;
  falls = f.falls;
}

-- the query at the same place of a list that says the same
pub record HasAlike (ps : List Query) (k : ℕ) (q : Query) : Type 0 where
  pub other : Query
  pub at : slice_get ps k ≡ Some other
  pub alike_is : AreAlike other q

alike_at : (ps qs : List Query) → map query_tree ps ≡ map query_tree qs → (k : ℕ) (q : Query) → slice_get qs k ≡ Some q → HasAlike ps k q
alike_at [] [] same k q at = absurd cc
alike_at [] (q ∷ qs) same k r at = absurd cc
alike_at (p ∷ ps) [] same k r at = absurd cc
alike_at (p ∷ ps) (q ∷ qs) same zero r at =
    let tree : query_tree p ≡ query_tree q = cc in
    let is : q ≡ r = cc in
    record { other = p; at = refl; alike_is = alike p r (tree ∙ ap query_tree is) }
alike_at (p ∷ ps) (q ∷ qs) same (suc k) r at =
    let rest : map query_tree ps ≡ map query_tree qs = cc in
    let found = alike_at ps qs rest k r at in
    record { other = found.other; at = found.at; alike_is = found.alike_is }

pub none_as : (schema : Declared) (ps qs : List Query) (events : List Event) (event : Event) → map query_tree ps ≡ map query_tree qs → NoneFallsBack schema ps events event → NoneFallsBack schema qs events event
none_as schema ps qs events event same none k q before now at falls =
    let found = alike_at ps qs same k q at in
    none k found.other before now found.at (falls_as schema q found.other events event before now (back found.other q found.alike_is) falls)

pub first_as : (schema : Declared) (ps qs : List Query) (events : List Event) (event : Event) (query : ℕ) (before now : ℤ) → map query_tree ps ≡ map query_tree qs →
    IsFirstToFall schema ps events event query before now → IsFirstToFall schema qs events event query before now
first_as schema ps qs events event query before now same first =
    let found = alike_at qs ps (sym same) (query - 1) first.falling first.at in
    record {
      falling = found.other;
      numbered = first.numbered;
      at = found.at;
      falls = falls_as schema first.falling found.other events event before now (back found.other first.falling found.alike_is) first.falls;
      first = λ k q b n less at falls.
          let other = alike_at ps qs same k q at in
          first.first k other.other b n less other.at (falls_as schema q other.other events event b n (back other.other q other.alike_is) falls);
    }
