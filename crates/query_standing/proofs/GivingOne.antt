-- Keys are removed one after the other: the last key takes the number of one that is.
use Rattle.std.proofs.Common.{◌≡◌, ◌≢◌, ℕ, zero, suc, ◌+◌, ◌-◌, ◌<◌, ◌≤◌, ◌⊎◌, inl, inr, Bool, true, false, List, [], ◌∷◌, length, take, refl, sym, ap, subst, ◌∙◌, Contains, Option, Some, None, slice_get, get_or, arith}
use Rattle.std.specs.Prelude.{cond, ◌==◌, swap_remove, slice_set, slice_index_or}
use Rattle.std.proofs.lemmas.Bool.{cases_eq, eqb-true, eqb-false}
use Rattle.std.proofs.lemmas.Option.{slice_get_within, slice_get-get_or, get_or_from_slice_get}
use Rattle.std.proofs.lemmas.List.{get_or-take, get_or-set_same, get_or-set_other, length-set, length-take-le}
use Rattle.stream_schema.specs.declared.Value.{Value}
use Rattle.cer_base.specs.Repeats.{HasNoRepeats}
use Rattle.query_standing.specs.Kept.{Rows}
use Rattle.query_standing.specs.Giving.{IsHereMoved, AreRemoved, renumbered}
use Rattle.query_standing.proofs.Lists.{got, at, none_in_nil}
use Rattle.query_standing.proofs.KeyCases.{at_one_place}

-- no key is removed
same_here : (keys : List (List Value)) (o : Option ℕ) → IsHereMoved keys o keys o
same_here keys None = tt
same_here keys (Some n) = λ key is. is

pub given_none : (keys : List (List Value)) (rows : List Rows) (here : Option ℕ) → AreRemoved keys rows here keys rows here
given_none keys rows here = record {
  distinct = λ d. d;
  lists = λ l. l;
  stays = λ n key lists is has. (n, is, has);
  gone = λ d m key is. inl (got keys m key is);
  here = same_here keys here;
}

-- some keys are removed, and then more
here_more : (a b c : List (List Value)) (ha hb hc : Option ℕ) → IsHereMoved a ha b hb → IsHereMoved b hb c hc → IsHereMoved a ha c hc
here_more a b c None None None x y = tt
here_more a b c None None (Some k) x y = absurd y
here_more a b c None (Some n) hc x y = absurd x
here_more a b c (Some m) None hc x y = absurd x
here_more a b c (Some m) (Some n) None x y = absurd y
here_more a b c (Some m) (Some n) (Some k) x y = λ key is. y key (x key is)

pub given_more : (a b c : List (List Value)) (ra rb rc : List Rows) (ha hb hc : Option ℕ) → AreRemoved a ra ha b rb hb → AreRemoved b rb hb c rc hc → AreRemoved a ra ha c rc hc
given_more a b c ra rb rc ha hb hc x y = record {
  distinct = λ d. y.distinct (x.distinct d);
  lists = λ l. y.lists (x.lists l);
  stays = λ n key lists is has. (let m = y.stays n key lists is has in x.stays m.0 key lists m.1 m.2);
  gone = λ d m key is. elim (x.gone d m key is) [
    | inl there ↦ later d m key is (at b key there)
    | inr none ↦ inr none
  ];
  here = here_more a b c ha hb hc x.here y.here;
} where
  later : HasNoRepeats a → (m : ℕ) (key : List Value) → slice_get a m ≡ Some key → (i : ℕ) × (slice_get b i ≡ Some key) → Contains c key ⊎ (slice_get ra m ≡ Some [])
  later d m key is i = elim (y.gone (x.distinct d) i.0 key i.1) [
    | inl stays ↦ inl stays
    | inr none ↦ (
        let was = x.stays i.0 key [] i.1 none in
        let same : was.0 ≡ m = at_one_place a was.0 m key d was.1 is in
        inr (subst (λ k. slice_get ra k ≡ Some []) same was.2)
        )
  ]

-- THE LAST TAKES A PLACE

module _ {X : Type 0} (xs : List X) (i : ℕ) (d : X) where
  pub shorter : i < length xs → length (swap_remove xs i d) ≡ length xs - 1
  shorter inside =
      let n = length xs - 1 in let moved = slice_set xs i (slice_index_or xs n d) in
      let long : length moved ≡ length xs = length-set xs i (slice_index_or xs n d) in
      length-take-le n moved (omega arith)

  other_at : (j : ℕ) → i < length xs → j ≢ i → j + 1 < length xs → slice_get (swap_remove xs i d) j ≡ slice_get xs j
  other_at j inside apart less =
      let n = length xs - 1 in let last = slice_index_or xs n d in let moved = slice_set xs i last in
      let long = shorter inside in
      let one = slice_get-get_or (take n moved) j d (omega arith) in
      let two = get_or-take n moved j d (omega arith) in
      let three = get_or-set_other xs i j last d apart in
      let four = slice_get-get_or xs j d (omega arith) in
      one ∙ (ap (λ x. Some x) (two ∙ three) ∙ sym four)

  last_at : i + 1 < length xs → slice_get (swap_remove xs i d) i ≡ slice_get xs (length xs - 1)
  last_at less =
      let n = length xs - 1 in let last = slice_index_or xs n d in let moved = slice_set xs i last in
      let long = shorter (omega arith) in
      let one = slice_get-get_or (take n moved) i d (omega arith) in
      let two = get_or-take n moved i d (omega arith) in
      let three = get_or-set_same xs i last d (omega arith) in
      let four = slice_get-get_or xs n d (omega arith) in
      one ∙ (ap (λ x. Some x) (two ∙ three) ∙ sym four)

  -- what stands at a place came from there, or it was the last
  pub came : (j : ℕ) (x : X) → i < length xs → slice_get (swap_remove xs i d) j ≡ Some x → (j + 1 < length xs) × (((j ≡ i) × (slice_get xs (length xs - 1) ≡ Some x)) ⊎ ((j ≢ i) × (slice_get xs j ≡ Some x)))
  came j x inside is =
      let within = slice_get_within (swap_remove xs i d) j x is in
      let long = shorter inside in
      let less : j + 1 < length xs = omega arith in (
        less,
        elim (cases_eq j i) [
          | inl same ↦ inl (same, sym (last_at (subst (λ k. k + 1 < length xs) same less)) ∙ subst (λ k. slice_get (swap_remove xs i d) k ≡ Some x) same is)
          | inr apart ↦ inr (apart, sym (other_at j inside apart less) ∙ is)
        ],
      )

-- what stands at one place alone
no_repeats_from : {X : Type 0} (xs : List X) → ((i j : ℕ) (x : X) → slice_get xs i ≡ Some x → slice_get xs j ≡ Some x → i ≡ j) → HasNoRepeats xs
no_repeats_from [] one = tt
no_repeats_from {X} (x ∷ xs) one = (
  λ has. (let i = at xs x has in let both : 0 ≡ suc i.0 = one 0 (suc i.0) x refl i.1 in absurd (omega arith)),
  no_repeats_from xs (λ i j y a b. (let same = one (suc i) (suc j) y a b in omega arith)),
)

swapped_apart : (xs : List (List Value)) (i : ℕ) (d : List Value) → i < length xs → HasNoRepeats xs → HasNoRepeats (swap_remove xs i d)
swapped_apart xs i d inside apart = no_repeats_from (swap_remove xs i d) (λ j k x a b. one j k x (came xs i d j x inside a) (came xs i d k x inside b))
  where
    one : (j k : ℕ) (x : List Value) →
        (j + 1 < length xs) × (((j ≡ i) × (slice_get xs (length xs - 1) ≡ Some x)) ⊎ ((j ≢ i) × (slice_get xs j ≡ Some x))) →
        (k + 1 < length xs) × (((k ≡ i) × (slice_get xs (length xs - 1) ≡ Some x)) ⊎ ((k ≢ i) × (slice_get xs k ≡ Some x))) → j ≡ k
    one j k x (lj, inl a) (lk, inl b) = a.0 ∙ sym b.0
    one j k x (lj, inl a) (lk, inr b) = let same = at_one_place xs (length xs - 1) k x apart a.1 b.1 in absurd (omega arith)
    one j k x (lj, inr a) (lk, inl b) = let same = at_one_place xs j (length xs - 1) x apart a.1 b.1 in absurd (omega arith)
    one j k x (lj, inr a) (lk, inr b) = at_one_place xs j k x apart a.1 b.1

-- ONE KEY IS REMOVED

pub given_one : (keys : List (List Value)) (rows : List Rows) (here : Option ℕ) (number : ℕ) (key : List Value) (lists : Rows) → length rows ≡ length keys → slice_get rows number ≡ Some [] → (here ≡ Some number → ⊥) →
    AreRemoved keys rows here (swap_remove keys number key) (swap_remove rows number lists) (renumbered (length keys - 1) number here)
given_one keys rows here number key lists same none apart = record {
  distinct = swapped_apart keys number key inside;
  lists = λ _. (let a = shorter keys number key inside in let b = shorter rows number lists within in omega arith);
  stays = λ n k ls is has. stays n k ls (came keys number key n k inside is) (came rows number lists n ls within has);
  gone = λ d m k is. gone m k is (cases_eq m number);
  here = here_one here apart;
} where
  within : number < length rows
  within = slice_get_within rows number [] none

  inside : number < length keys
  inside = let w = within in omega arith

  stays : (n : ℕ) (k : List Value) (ls : Rows) →
      (n + 1 < length keys) × (((n ≡ number) × (slice_get keys (length keys - 1) ≡ Some k)) ⊎ ((n ≢ number) × (slice_get keys n ≡ Some k))) →
      (n + 1 < length rows) × (((n ≡ number) × (slice_get rows (length rows - 1) ≡ Some ls)) ⊎ ((n ≢ number) × (slice_get rows n ≡ Some ls))) →
      (m : ℕ) × (slice_get keys m ≡ Some k) × (slice_get rows m ≡ Some ls)
  stays n k ls (lk, inl a) (lr, inl b) = (length keys - 1, a.1, subst (λ c. slice_get rows (c - 1) ≡ Some ls) same b.1)
  stays n k ls (lk, inl a) (lr, inr b) = absurd (b.0 a.0)
  stays n k ls (lk, inr a) (lr, inl b) = absurd (a.0 b.0)
  stays n k ls (lk, inr a) (lr, inr b) = (n, a.1, b.1)

  -- where a key other than that one goes
  goes : (m : ℕ) (k : List Value) → m ≢ number → slice_get keys m ≡ Some k → (m ≡ length keys - 1) ⊎ (m ≡ length keys - 1 → ⊥) → slice_get (swap_remove keys number key) (cond (m == length keys - 1) number m) ≡ Some k
  goes m k other is c =
      let less = slice_get_within keys m k is in
      let last = length keys - 1 in
      go (m == last) refl less
    where
      go : (b : Bool) → (m == length keys - 1) ≡ b → m < length keys → slice_get (swap_remove keys number key) (cond b number m) ≡ Some k
      go true e less =
          let at_last : m ≡ length keys - 1 = eqb-true m (length keys - 1) e in
          let w = inside in
          let before : number + 1 < length keys = omega arith in
          last_at keys number key before ∙ subst (λ j. slice_get keys j ≡ Some k) at_last is
      go false e less =
          let not_last : m ≢ length keys - 1 = λ at. eqb-false m (length keys - 1) e at in
          let before : m + 1 < length keys = omega arith in
          other_at keys number key m inside other before ∙ is

  gone : (m : ℕ) (k : List Value) → slice_get keys m ≡ Some k → (m ≡ number) ⊎ (m ≡ number → ⊥) → Contains (swap_remove keys number key) k ⊎ (slice_get rows m ≡ Some [])
  gone m k is (inl e) = inr (subst (λ j. slice_get rows j ≡ Some []) (sym e) none)
  gone m k is (inr other) = inl (got (swap_remove keys number key) (cond (m == length keys - 1) number m) k (goes m k other is (cases_eq m (length keys - 1))))

  here_one : (o : Option ℕ) → (o ≡ Some number → ⊥) → IsHereMoved keys o (swap_remove keys number key) (renumbered (length keys - 1) number o)
  here_one None a = tt
  here_one (Some m) a = λ k is. goes m k (λ e. a (ap (λ x. Some x) e)) is (cases_eq m (length keys - 1))
