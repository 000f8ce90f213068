-- How many entries the lists of all keys have: each key that has any has an event, and its states are few and their lists short.
use Rattle.std.proofs.Common.{◌≡◌, ℕ, zero, suc, ◌+◌, ◌*◌, ◌<◌, ◌≤◌, ◌⊎◌, inl, inr, List, [], ◌∷◌, ◌++◌, length, refl, sym, ap, subst, ◌∙◌, All, Contains, Some, slice_get, arith}
use Rattle.std.proofs.Math.Nat.{mul-le-mul_left, mul-le-mul_right}
use Rattle.std.proofs.lemmas.Bool.{cases_eq}
use Rattle.std.proofs.lemmas.Option.{slice_get_within}
use Rattle.std.proofs.lemmas.List.Elements.{All-head, All-tail, Contains-append_right}
use Rattle.std.proofs.lemmas.List.Sums.{sum_by-cons}
use Rattle.stream_schema.specs.Types.{Declared}
use Rattle.stream_schema.specs.declared.Event.{Event}
use Rattle.stream_schema.specs.declared.Value.{Value}
use Rattle.cel_terms.specs.declared.Query.{Query}
use Rattle.cel_terms.specs.Answers.{HasKey}
use Rattle.cer_base.specs.Repeats.{HasNoRepeats}
use Rattle.cer_base.specs.declared.node.Root.{Root}
use Rattle.cer_base.specs.Members.{Member}
use Rattle.union_lists.specs.Lists.{IsUnionList, members_of}
use Rattle.event_update.specs.Narrow.{Tops}
use Rattle.cea_determinise.specs.Strict.{Standing}
use Rattle.cea_determinise.specs.Cea.{automaton_of_cea}
use Rattle.event_update.specs.Reach.{Seen, Reaches}
use Rattle.event_update.specs.Stands.{tops_of, tops_rows}
use Rattle.event_update.specs.Update.{AreUpto, entries_in}
use Rattle.event_update.proofs.Bounds.{entries_upto}
use Rattle.event_update.proofs.Before.{within_bound}
use Rattle.event_update.proofs.Stays.{few_states}
use Rattle.event_update.proofs.Dormant.{list_member}
use Rattle.arena_compact.specs.Roots.{places}
use Rattle.query_standing.specs.Keys.{AreSeen, HasKeyAt}
use Rattle.query_standing.specs.Kept.{Rows, QueryState, KeyIsKept, QueryStateStands}
use Rattle.query_state.specs.Matches.{HasStatesOnce}
use Rattle.query_engine.proofs.Standing.{all_at}
use Rattle.query_engine.proofs.Finite.{few}

-- THE LISTS OF A KEY

-- short lists have few entries
entries_few : (x : ℕ) (rows : Rows) → AreUpto x (tops_rows rows) → entries_in rows ≤ x * length rows
entries_few x [] short = omega arith
entries_few x (r ∷ rows) short =
    let here = entries_upto x r.1 (All-head (λ (s : ℕ × Tops). length s.1.rest + 1 ≤ x) (r.0, tops_of r.1) (tops_rows rows) short) in
    let rest = entries_few x rows (All-tail (λ (s : ℕ × Tops). length s.1.rest + 1 ≤ x) (r.0, tops_of r.1) (tops_rows rows) short) in
    let product : x * length (r ∷ rows) ≡ x + x * length rows = omega arith in
    omega (arith, here, rest, product)

key_entries : (schema : Declared) (q : Query) (events : List Event) (p : QueryState) (key : List Value) (rows : Rows) → KeyIsKept schema q events p key rows → HasStatesOnce rows →
    entries_in rows ≤ length p.table.states * (length p.table.states + 2)
key_entries schema q events p key rows s once =
    let n = length p.table.states in
    let short = (within_bound p.table _ s.taken p.nodes rows s.stands once).0 in
    let few_rows = few_states p.table rows once s.stands.states in
    let product : (n + 2) * length rows ≤ (n + 2) * n = mul-le-mul_left (n + 2) few_rows in
    omega (arith, entries_few (n + 2) rows short, product)

-- a key that has lists has an event
key_cases : (schema : Declared) (q : Query) (events : List Event) (p : QueryState) (key : List Value) (rows : Rows) → KeyIsKept schema q events p key rows → (rows ≡ []) ⊎ ((at : ℕ) × HasKeyAt schema q events key at)
key_cases schema q events p key [] s = inl refl
key_cases schema q events p key (r ∷ rows) s =
    let list = All-head (λ (o : ℕ × List Root). IsUnionList p.nodes o.1) r rows s.stands.lists in
    let m = list_member p.nodes r.1 list.list in
    let has : Contains (members_of p.nodes r.1) m.0 = subst (λ (ms : List Member). Contains ms m.0) (sym m.2) (0, omega arith, refl) in
    inr (go s.taken s.no_op _ _ s.are_seen (s.stands.sound r.0 m.0 (inl (refl, has))))
  where
    go : (xs ys : List Seen) (s : Standing) (m : Member) → AreSeen schema q events key (xs ++ ys) → Reaches (automaton_of_cea p.table.cea) p.table.cea.strict xs s m → (at : ℕ) × HasKeyAt schema q events key at
    go [] ys s m are some = absurd some
    go (x ∷ xs) ys s m are some = (x.stamp.pos, (are.exact x.stamp.pos).0 (0, omega arith, refl))

-- ALL KEYS

pub one_key : (schema : Declared) (q : Query) (events : List Event) (at : ℕ) (k l : List Value) → HasKeyAt schema q events k at → HasKeyAt schema q events l at → k ≡ l
one_key schema q events at k l a b =
    let same : a.event ≡ b.event = (let both = sym a.at ∙ b.at in cc) in
    let one = a.has.1 in
    let two = subst (λ (e : Event). HasKey schema q e l) (sym same) b.has in
    let other = two.1 in
    cc

-- one position more, of one key more
at_more : (schema : Declared) (q : Query) (events : List Event) (key : List Value) (keys : List (List Value)) (first : ℕ) (ats : List ℕ) → HasKeyAt schema q events key first →
    ((at : ℕ) → Contains ats at → (k : List Value) × Contains keys k × HasKeyAt schema q events k at) → (at : ℕ) → Contains (first ∷ ats) at → (k : List Value) × Contains (key ∷ keys) k × HasKeyAt schema q events k at
at_more schema q events key keys first ats of each at (zero, within, is) = (key, (0, omega arith, refl), subst (HasKeyAt schema q events key) is of)
at_more schema q events key keys first ats of each at (suc n, within, is) =
    let e = each at (n, omega arith, is) in
    (e.0, Contains-append_right (key ∷ []) keys e.0 e.1, e.2)

-- Different positions, each of an event with one of the keys, for all keys that have lists.
record Spread (schema : Declared) (q : Query) (events : List Event) (b : ℕ) (keys : List (List Value)) (rows : List Rows) : Type 0 where
  ats : List ℕ
  apart : HasNoRepeats ats
  each : (at : ℕ) → Contains ats at → (key : List Value) × Contains keys key × HasKeyAt schema q events key at
  many : places rows ≤ length ats * b

spread : (schema : Declared) (q : Query) (events : List Event) (b : ℕ) (keys : List (List Value)) (rows : List Rows) → HasNoRepeats keys → length rows ≡ length keys →
    ((n : ℕ) (key : List Value) (lists : Rows) → slice_get keys n ≡ Some key → slice_get rows n ≡ Some lists → (entries_in lists ≤ b) × ((lists ≡ []) ⊎ ((at : ℕ) × HasKeyAt schema q events key at))) →
    Spread schema q events b keys rows
spread schema q events b [] [] apart same each = record { ats = []; apart = tt; each = λ at has. absurd (let within = has.1 in omega arith); many = omega arith }
spread schema q events b [] (r ∷ rows) apart same each = absurd (omega arith)
spread schema q events b (key ∷ keys) [] apart same each = absurd (omega arith)
spread schema q events b (key ∷ keys) (r ∷ rows) apart same each =
    let rest = spread schema q events b keys rows apart.1 (omega arith) (λ n k lists at lists_at. each (suc n) k lists at lists_at) in
    let here = each 0 key r refl refl in
    let sums = sum_by-cons entries_in r rows in
    let behind : (k : List Value) → Contains keys k → Contains (key ∷ keys) k = λ k has. Contains-append_right (key ∷ []) keys k has in
    elim here.1 [
      | inl none ↦
          let no_entry : entries_in r ≡ 0 = ap entries_in none in
          record {
            ats = rest.ats;
            apart = rest.apart;
            each = λ at has. (let e = rest.each at has in (e.0, behind e.0 e.1, e.2));
            many = let m = rest.many in omega arith;
          }
      | inr some ↦
          record {
            ats = some.0 ∷ rest.ats;
            apart = (λ has. (let e = rest.each some.0 has in apart.0 (subst (Contains keys) (one_key schema q events some.0 e.0 key e.2 some.1) e.1)), rest.apart);
            each = λ at has. at_more schema q events key keys some.0 rest.ats some.1 rest.each at has;
            many = let m = rest.many in let le = here.0 in let product : length (some.0 ∷ rest.ats) * b ≡ b + length rest.ats * b = omega arith in omega (arith, m, le, product, sums);
          }
    ]

-- the numbers below one
pub below : ℕ → List ℕ
below zero = []
below (suc n) = n ∷ below n

pub below_length : (n : ℕ) → length (below n) ≡ n
unfolding below
below_length zero = refl
below_length (suc n) = ap suc (below_length n)

pub is_below : (n k : ℕ) → k < n → Contains (below n) k
unfolding below
is_below zero k less = absurd (omega arith)
is_below (suc n) k less = elim (cases_eq k n) [
  | inl is ↦ (0, omega arith, sym is)
  | inr other ↦ Contains-append_right (n ∷ []) (below n) k (is_below n k (omega arith))
]

-- the entries of a query's lists, after so many events
pub places_few : (schema : Declared) (q : Query) (events : List Event) (p : QueryState) → QueryStateStands schema q events p → All HasStatesOnce p.rows → places p.rows ≤ length events * (length p.table.states * (length p.table.states + 2))
places_few schema q events p s once =
    let b = length p.table.states * (length p.table.states + 2) in
    let all = spread schema q events b p.keys p.rows s.keys.distinct s.keys.lists
    (λ n key lists at lists_at. (
    let stands = s.each n key lists at lists_at in
    (key_entries schema q events p key lists stands (all_at HasStatesOnce p.rows n lists once lists_at), key_cases schema q events p key lists stands)
    )) in
    let few_ats : length all.ats ≤ length (below (length events)) = few all.ats (below (length events)) all.apart
    (λ at has. is_below (length events) at (let e = all.each at has in slice_get_within events at e.2.event e.2.at)) in
    let count = below_length (length events) in
    let product : length all.ats * b ≤ length events * b = mul-le-mul_right b (omega arith) in
    omega (arith, all.many, product)
