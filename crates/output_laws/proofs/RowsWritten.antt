-- The output as the lines of rows. For callers of the crate too.
use Rattle.std.proofs.Common.{◌≡◌, refl, sym, ap, ap₂, subst, ◌∙◌, ℕ, zero, suc, ◌+◌, ◌<◌, ◌⊎◌, inl, inr, List, [], ◌∷◌, ◌++◌, length, map, Some, None, slice_get, arith}
use Rattle.std.specs.Prelude.{All, Contains, flat_map}
use Rattle.std.proofs.lemmas.Grind.{flat_map-append}
use Rattle.std.proofs.lemmas.List.Folds.{flat_map-map}
use Rattle.std.proofs.lemmas.List.Elements.{All-head, All-tail, Contains-append_left, Contains-append_right, Contains-append_cases}
use Rattle.std.proofs.lemmas.Option.{slice_get_within}
use Rattle.cer_base.specs.Repeats.{HasNoRepeats}
use Rattle.stream_schema.specs.Types.{Declared}
use Rattle.stream_schema.specs.declared.Event.{Event}
use Rattle.cel_terms.specs.declared.Query.{Query}
use Rattle.cel_terms.specs.Answers.{Answer, IsAnswer}
use Rattle.answer_text.specs.declared.Order.{Order}
use Rattle.answer_text.specs.Output.{IsBlock, AreBlocks, IsOutputOf, IsOutput}
use Rattle.output_laws.proofs.Unique.{all_there}
use Rattle.output_laws.specs.RowLaws.{Row, IsRow, AreLinesOf, HaveSameRows, row_line}

-- LISTS WITHOUT REPEATS

nothing_in : {X : Type 0} (x : X) → Contains [] x → ⊥
nothing_in x c = let less = c.1 in omega arith

-- two such lists with no common element
no_repeats_joined : {X : Type 0} (xs ys : List X) → HasNoRepeats xs → HasNoRepeats ys → ((x : X) → Contains xs x → Contains ys x → ⊥) → HasNoRepeats (xs ++ ys)
no_repeats_joined [] ys h k apart = k
no_repeats_joined (x ∷ xs) ys h k apart = (
  λ has. elim (Contains-append_cases xs ys x has) [
    | inl mine ↦ h.0 mine
    | inr other ↦ apart x (0, omega arith, refl) other
  ],
  no_repeats_joined xs ys h.1 k (λ y mine other. apart y (Contains-append_right (x ∷ []) xs y mine) other),
)

map_contains : {X Y : Type 0} (f : X → Y) (y : Y) (xs : List X) → Contains (map f xs) y → (x : X) × Contains xs x × (f x ≡ y)
map_contains f y [] h = absurd (nothing_in y h)
map_contains f y (x ∷ xs) (zero, within, at) = (x, (0, omega arith, refl), at)
map_contains f y (x ∷ xs) (suc k, within, at) =
    let r = map_contains f y xs (k, omega arith, at) in
    (r.0, Contains-append_right (x ∷ []) xs r.0 r.1, r.2)

contains_map : {X Y : Type 0} (f : X → Y) (x : X) (xs : List X) → Contains xs x → Contains (map f xs) (f x)
contains_map f x [] h = absurd (nothing_in x h)
contains_map f x (z ∷ xs) (zero, within, at) = (0, omega arith, ap f at)
contains_map f x (z ∷ xs) (suc k, within, at) = Contains-append_right (f z ∷ []) (map f xs) (f x) (contains_map f x xs (k, omega arith, at))

-- different elements become different ones
no_repeats_map : {X Y : Type 0} (f : X → Y) → ((x z : X) → f x ≡ f z → x ≡ z) → (xs : List X) → HasNoRepeats xs → HasNoRepeats (map f xs)
no_repeats_map f one [] h = tt
no_repeats_map f one (x ∷ xs) h = (
  λ has. let r = map_contains f (f x) xs has in h.0 (subst (Contains xs) (one r.0 x r.2) r.1),
  no_repeats_map f one xs h.1,
)

-- ROWS OF A PART OF THE OUTPUT

-- The bytes are the lines of these rows, of which none stands twice; they are all of them where the condition holds.
pub record AreRows (Complete : Type 0) (Is : Row → Type 0) (bytes : List ℕ) (rows : List Row) : Type 0 where
  pub distinct : HasNoRepeats rows
  pub right : (row : Row) → Contains rows row → Is row
  pub all : Complete → (row : Row) → Is row → Contains rows row
  pub written : bytes ≡ flat_map row_line rows

-- some rows with no common one, after one another
rows_joined : (A B C : Type 0) (P Q R : Row → Type 0) (front rest bytes : List ℕ) (xs ys : List Row) →
    (C → A) → (C → B) → ((row : Row) → P row → Q row → ⊥) →
    ((row : Row) → P row → R row) → ((row : Row) → Q row → R row) → ((row : Row) → R row → P row ⊎ Q row) →
    AreRows A P front xs → AreRows B Q rest ys → bytes ≡ front ++ rest → AreRows C R bytes (xs ++ ys)
rows_joined A B C P Q R front rest bytes xs ys a b apart left right cases h k is = record {
  distinct = no_repeats_joined xs ys h.distinct k.distinct (λ row mine other. apart row (h.right row mine) (k.right row other));
  right = λ row has. elim (Contains-append_cases xs ys row has) [
    | inl mine ↦ left row (h.right row mine)
    | inr other ↦ right row (k.right row other)
  ];
  all = λ c row r. elim (cases row r) [
    | inl p ↦ Contains-append_left xs ys row (h.all (a c) row p)
    | inr q ↦ Contains-append_right xs ys row (k.all (b c) row q)
  ];
  written = is ∙ ap₂ (λ (x y : List ℕ). x ++ y) h.written k.written ∙ sym (flat_map-append row_line xs ys);
}

-- A BLOCK

-- a row of this query at this position
pub record IsRowOf (schema : Declared) (number : ℕ) (q : Query) (events : List Event) (end : ℕ) (row : Row) : Type 0 where
  pub numbered : row.number ≡ number
  pub here : row.end ≡ end
  pub answers : IsAnswer schema q events end row.answer

abbrev row_at : ℕ → ℕ → Answer → Row
row_at number end a = record { number = number; end = end; answer = a }

row_is : (number end : ℕ) (row : Row) → row.number ≡ number → row.end ≡ end → row_at number end row.answer ≡ row
row_is number end row n e = ap₂ (λ (m k : ℕ). row_at m k row.answer) (sym n) (sym e)

pub block_rows : (order : Order) (schema : Declared) (number : ℕ) (q : Query) (events : List Event) (end : ℕ) (bytes : List ℕ) → (h : IsBlock order schema number q events end bytes) → AreRows (q.any ≡ None) (IsRowOf schema number q events end) bytes (map (row_at number end) h.answers)
block_rows order schema number q events end bytes h = record {
  distinct = no_repeats_map (row_at number end) (λ a b same. ap (λ (row : Row). row.answer) same) h.answers h.distinct;
  right = λ row has.
      let r = map_contains (row_at number end) row h.answers has in
      subst (IsRowOf schema number q events end) r.2 record { numbered = refl; here = refl; answers = h.right r.0 r.1 };
  all = λ none row is.
      let has = all_there q.any (IsAnswer schema q events end) h.answers none h.enough row.answer is.answers in
      subst (Contains (map (row_at number end) h.answers)) (row_is number end row is.numbered is.here) (contains_map (row_at number end) row.answer h.answers has);
  written = h.written ∙ sym (flat_map-map row_line (row_at number end) h.answers);
}

-- THE BLOCKS AT A POSITION

-- no query has ANY
abbrev pub HaveNoAny : List Query → Type 0
HaveNoAny queries = All (λ q. q.any ≡ None) queries

-- a row of some query at this position, where the first query has this number
pub record IsRowFrom (schema : Declared) (number : ℕ) (queries : List Query) (events : List Event) (end : ℕ) (row : Row) : Type 0 where
  pub place : ℕ
  pub query : Query
  pub numbered : row.number ≡ place + number
  pub here : row.end ≡ end
  pub asked : slice_get queries place ≡ Some query
  pub answers : IsAnswer schema query events end row.answer

first_row : (schema : Declared) (number : ℕ) (q : Query) (qs : List Query) (events : List Event) (end : ℕ) (row : Row) → IsRowOf schema number q events end row → IsRowFrom schema number (q ∷ qs) events end row
first_row schema number q qs events end row h = record {
  place = 0;
  query = q;
  numbered = h.numbered ∙ omega arith;
  here = h.here;
  asked = refl;
  answers = h.answers;
}

later_row : (schema : Declared) (number : ℕ) (q : Query) (qs : List Query) (events : List Event) (end : ℕ) (row : Row) → IsRowFrom schema (number + 1) qs events end row → IsRowFrom schema number (q ∷ qs) events end row
later_row schema number q qs events end row h = record {
  place = suc h.place;
  query = h.query;
  numbered = let is = h.numbered in omega arith;
  here = h.here;
  asked = h.asked;
  answers = h.answers;
}

same_query : (q r : Query) → Some q ≡ Some r → q ≡ r
same_query q r same = cc

rows_at : (schema : Declared) (number : ℕ) (q : Query) (qs : List Query) (events : List Event) (end : ℕ) (row : Row) (place : ℕ) (query : Query) → row.number ≡ place + number → row.end ≡ end → slice_get (q ∷ qs) place ≡ Some query → IsAnswer schema query events end row.answer → IsRowOf schema number q events end row ⊎ IsRowFrom schema (number + 1) qs events end row
rows_at schema number q qs events end row zero query numbered here asked answers = inl record {
  numbered = omega arith;
  here = here;
  answers = subst (λ (r : Query). IsAnswer schema r events end row.answer) (sym (same_query q query asked)) answers;
}
rows_at schema number q qs events end row (suc place) query numbered here asked answers = inr record {
  place = place;
  query = query;
  numbered = omega arith;
  here = here;
  asked = asked;
  answers = answers;
}

apart_rows : (schema : Declared) (number : ℕ) (q : Query) (qs : List Query) (events : List Event) (end : ℕ) (row : Row) → IsRowOf schema number q events end row → IsRowFrom schema (number + 1) qs events end row → ⊥
apart_rows schema number q qs events end row h k =
    let mine = h.numbered in
    let other = k.numbered in
    omega arith

pub blocks_rows : (order : Order) (schema : Declared) (number : ℕ) (queries : List Query) (events : List Event) (end : ℕ) (bytes : List ℕ) → AreBlocks order schema number queries events end bytes → (rows : List Row) × AreRows (HaveNoAny queries) (IsRowFrom schema number queries events end) bytes rows
blocks_rows order schema number [] events end bytes h = (
  [],
  record {
    distinct = tt;
    right = λ row has. absurd (nothing_in row has);
    all = λ none row is. absurd (let within = slice_get_within [] is.place is.query is.asked in omega arith);
    written = h;
  },
)
blocks_rows order schema number (q ∷ qs) events end bytes h =
    let front = block_rows order schema number q events end h.0 h.2 in
    let rest = blocks_rows order schema (number + 1) qs events end h.1 h.3 in
    let rows = map (row_at number end) h.2.answers in (
      rows ++ rest.0,
      rows_joined (q.any ≡ None) (HaveNoAny qs) (HaveNoAny (q ∷ qs))
          (IsRowOf schema number q events end) (IsRowFrom schema (number + 1) qs events end) (IsRowFrom schema number (q ∷ qs) events end)
          h.0 h.1 bytes rows rest.0
          (λ none. All-head (λ (p : Query). p.any ≡ None) q qs none) (λ none. All-tail (λ (p : Query). p.any ≡ None) q qs none)
          (apart_rows schema number q qs events end)
          (first_row schema number q qs events end) (later_row schema number q qs events end)
          (λ row is. rows_at schema number q qs events end row is.place is.query is.numbered is.here is.asked is.answers)
          front rest.1 h.4,
    )

-- THE OUTPUT

-- a row of the first n positions
pub record IsRowBefore (n : ℕ) (schema : Declared) (queries : List Query) (events : List Event) (row : Row) : Type 0 where
  pub before : row.end < n
  pub is : IsRow schema queries events row

earlier_row : (n : ℕ) (schema : Declared) (queries : List Query) (events : List Event) (row : Row) → IsRowBefore n schema queries events row → IsRowBefore (suc n) schema queries events row
earlier_row n schema queries events row h = record { before = let less = h.before in omega arith; is = h.is }

last_row : (n : ℕ) (schema : Declared) (queries : List Query) (events : List Event) (row : Row) → IsRowFrom schema 1 queries events n row → IsRowBefore (suc n) schema queries events row
last_row n schema queries events row h = record {
  before = let here = h.here in omega arith;
  is = record {
    place = h.place;
    query = h.query;
    numbered = h.numbered;
    asked = h.asked;
    answers = subst (λ (end : ℕ). IsAnswer schema h.query events end row.answer) (sym h.here) h.answers;
  };
}

rows_up_to : (n : ℕ) (schema : Declared) (queries : List Query) (events : List Event) (row : Row) → (row.end < n) ⊎ (row.end ≡ n) → IsRow schema queries events row → IsRowBefore n schema queries events row ⊎ IsRowFrom schema 1 queries events n row
rows_up_to n schema queries events row (inl less) h = inl record { before = less; is = h }
rows_up_to n schema queries events row (inr here) h = inr record {
  place = h.place;
  query = h.query;
  numbered = h.numbered;
  here = here;
  asked = h.asked;
  answers = subst (λ (end : ℕ). IsAnswer schema h.query events end row.answer) here h.answers;
}

less_or_same : (m n : ℕ) → m < suc n → (m < n) ⊎ (m ≡ n)
less_or_same zero zero less = inr refl
less_or_same zero (suc n) less = inl (omega arith)
less_or_same (suc m) zero less = absurd (omega arith)
less_or_same (suc m) (suc n) less = elim (less_or_same m n (omega arith)) [ inl l ↦ inl (omega arith) | inr e ↦ inr (ap suc e) ]

apart_before : (n : ℕ) (schema : Declared) (queries : List Query) (events : List Event) (row : Row) → IsRowBefore n schema queries events row → IsRowFrom schema 1 queries events n row → ⊥
apart_before n schema queries events row h k =
    let mine = h.before in
    let other = k.here in
    omega arith

pub output_of_rows : (n : ℕ) (order : Order) (schema : Declared) (queries : List Query) (events : List Event) (bytes : List ℕ) → IsOutputOf n order schema queries events bytes → (rows : List Row) × AreRows (HaveNoAny queries) (IsRowBefore n schema queries events) bytes rows
output_of_rows zero order schema queries events bytes h = (
  [],
  record {
    distinct = tt;
    right = λ row has. absurd (nothing_in row has);
    all = λ none row is. absurd (let less = is.before in omega arith);
    written = h;
  },
)
output_of_rows (suc n) order schema queries events bytes h =
    let front = output_of_rows n order schema queries events h.0 h.2 in
    let rest = blocks_rows order schema 1 queries events n h.1 h.3 in (
      front.0 ++ rest.0,
      rows_joined (HaveNoAny queries) (HaveNoAny queries) (HaveNoAny queries)
          (IsRowBefore n schema queries events) (IsRowFrom schema 1 queries events n) (IsRowBefore (suc n) schema queries events)
          h.0 h.1 bytes front.0 rest.0
          (λ none. none) (λ none. none)
          (apart_before n schema queries events)
          (earlier_row n schema queries events) (last_row n schema queries events)
          (λ row is. rows_up_to n schema queries events row (less_or_same row.end n is.before) is.is)
          front.1 rest.1 h.4,
    )

-- Each line of the output is that of a row, and no row has two.
pub output_rows : (order : Order) (schema : Declared) (queries : List Query) (events : List Event) (bytes : List ℕ) → IsOutput order schema queries events bytes → (rows : List Row) × AreLinesOf schema queries events bytes rows
output_rows order schema queries events bytes h =
    let r = output_of_rows (length events) order schema queries events bytes h in (
      r.0,
      record {
        distinct = r.1.distinct;
        right = λ row has. (r.1.right row has).is;
        all = λ none row is. r.1.all none row record { before = slice_get_within events row.end is.answers.window.last is.answers.window.last_is; is = is };
        written = r.1.written;
      },
    )

-- Where no query has ANY, the same lines are written in every order.
pub same_lines : (order other : Order) (schema : Declared) (queries : List Query) (events : List Event) (bytes more : List ℕ) → HaveNoAny queries → IsOutput order schema queries events bytes → IsOutput other schema queries events more → (rows : List Row) × (others : List Row) × AreLinesOf schema queries events bytes rows × AreLinesOf schema queries events more others × HaveSameRows rows others
same_lines order other schema queries events bytes more none h k =
    let a = output_rows order schema queries events bytes h in
    let b = output_rows other schema queries events more k in (
      a.0,
      b.0,
      a.1,
      b.1,
      λ row. (λ has. b.1.all none row (a.1.right row has), λ has. a.1.all none row (b.1.right row has)),
    )
