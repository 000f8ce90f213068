-- The answers over a shard that holds a key are those of the key over the whole stream.
use Rattle.std.proofs.Common.{◌≡◌, refl, sym, ap, ap₂, subst, ◌∙◌, ℕ, zero, suc, ◌<◌, inl, inr, Bool, true, false, List, [], ◌∷◌, map, length, Option, Some, None, slice_get, option_map, option_and_then, Contains, arith}
use Rattle.std.specs.Prelude.{ℤ, pos}
use Rattle.std.proofs.lemmas.Bool.{cases_lt}
use Rattle.std.proofs.lemmas.Option.{slice_get_read, slice_get_within, slice_get-map, get_or_from_slice_get, option_and_then_some}
use Rattle.std.proofs.Math.Nat.{eq-or-lt_of_le}
use Rattle.cer_base.specs.Repeats.{HasNoRepeats}
use Rattle.stream_schema.specs.Types.{Declared}
use Rattle.stream_schema.specs.declared.Event.{Event}
use Rattle.stream_schema.specs.declared.Value.{Value}
use Rattle.cel_terms.specs.declared.Query.{Query}
use Rattle.cel_terms.specs.declared.Window.{Window}
use Rattle.cel_terms.specs.declared.Window.TheVariants.{Free, Events, Clock}
use Rattle.cel_terms.specs.Meaning.{Stream, Bound, Valuation, meaning}
use Rattle.cel_terms.specs.Answers.{Answer, IsAnswer, AreMarks, AreContiguous, IsAscending, IsBoundAt, IsInWindow, IsOfSubstream, HasClock, HasKey, WithinWidth, WhereStrict, is_bound, selected, substream, values_at}
use Rattle.scaling_laws.specs.Shards.{IsShard, HoldsKey, CountsNoEvents, place_of, placed, ShardsAnswerForTheirKeys}
use Rattle.scaling_laws.proofs.Embedded.{Embeds, turned, AllAt, AreAt, selected_carries}

-- numbers of which neither is less
neither_less : (m n : ℕ) → (m < n → ⊥) → (n < m → ⊥) → m ≡ n
neither_less m n f k = elim (cases_lt m n) [
  | inl less ↦ absurd (f less)
  | inr not ↦ elim (eq-or-lt_of_le not) [ inl same ↦ sym same | inr less ↦ absurd (k less) ]
]

-- A position has one place.
one_place : (At : ℕ → ℕ → Type 0) (a b : Stream) → Embeds At a b → (p q r : ℕ) → At p q → At p r → q ≡ r
one_place At a b g p q r at there = neither_less q r
    (λ less. let h : p < p = g.falls p q p r at there less in omega arith)
    (λ less. let h : p < p = g.falls p r p q there at less in omega arith)

at_turned : {X Y : Type 0} (R : X → Y → Type 0) (xs : List X) (ys : List Y) → AllAt R xs ys → AllAt (λ y x. R x y) ys xs
at_turned R [] [] h = tt
at_turned R [] (y ∷ ys) h = absurd h
at_turned R (x ∷ xs) [] h = absurd h
at_turned R (x ∷ xs) (y ∷ ys) h = (h.0, at_turned R xs ys h.1)

valuation_turned : (At : ℕ → ℕ → Type 0) (v w : Valuation) → AreAt At v w → AreAt (λ q p. At p q) w v
valuation_turned At [] [] h = tt
valuation_turned At [] (c ∷ w) h = absurd h
valuation_turned At (b ∷ v) [] h = absurd h
valuation_turned At (b ∷ v) (c ∷ w) h = ((h.0.0, sym h.0.1), valuation_turned At v w h.1)

-- at the place of an element of the one list stands one of the other
at_place : {X Y : Type 0} (R : X → Y → Type 0) (xs : List X) (ys : List Y) → AllAt R xs ys → (k : ℕ) (x : X) → slice_get xs k ≡ Some x → (y : Y) × (slice_get ys k ≡ Some y) × R x y
at_place R [] [] h k x at = absurd cc
at_place R [] (y ∷ ys) h k x at = absurd h
at_place R (x' ∷ xs) [] h k x at = absurd h
at_place R (x' ∷ xs) (y ∷ ys) h zero x at = let e : x' ≡ x = cc in (y, refl, subst (λ z. R z y) e h.0)
at_place R (x' ∷ xs) (y ∷ ys) h (suc k) x at = at_place R xs ys h.1 k x at

found_in : {X : Type 0} (xs : List X) (x : X) → Contains xs x → (k : ℕ) × (slice_get xs k ≡ Some x)
found_in xs x c = (c.0, slice_get_read xs (length xs) c.0 x refl c.1 (sym c.2))

stands_in : {X : Type 0} (xs : List X) (k : ℕ) (x : X) → slice_get xs k ≡ Some x → Contains xs x
stands_in xs k x at = (k, slice_get_within xs k x at, get_or_from_slice_get xs k x x at)

-- The place of a mark is a mark there.
mark_there : (At : ℕ → ℕ → Type 0) (ms ns : List ℕ) → AllAt At ms ns → (p : ℕ) → Contains ms p → (q : ℕ) × At p q × Contains ns q
mark_there At ms ns h p c =
    let here = found_in ms p c in
    let there = at_place At ms ns h here.0 p here.1 in
    (there.0, there.2, stands_in ns here.0 there.0 there.1)

mark_back : (At : ℕ → ℕ → Type 0) (ms ns : List ℕ) → AllAt At ms ns → (q : ℕ) → Contains ns q → (p : ℕ) × At p q × Contains ms p
mark_back At ms ns h q c = mark_there (λ q p. At p q) ns ms (at_turned At ms ns h) q c

-- and the place of a position that a name has is one too.
bound_there : (At : ℕ → ℕ → Type 0) (v w : Valuation) → AreAt At v w → (p : ℕ) → IsBoundAt v p → (q : ℕ) × At p q × IsBoundAt w q
bound_there At v w h p c =
    let here = slice_get_read v (length v) c.0 c.1 refl c.2 (sym c.3) in
    let there = at_place (λ (b c : Bound). At b.position c.position × (b.names ≡ c.names)) v w h c.0 c.1 here in
    let named = c.4 in (
      there.0.position,
      subst (λ (x : ℕ). At x there.0.position) named.0 there.2.0,
      (c.0, there.0, slice_get_within w c.0 there.0 there.1, get_or_from_slice_get w c.0 there.0 there.0 there.1, (refl, subst (λ (names : List (List ℕ)). is_bound names ≡ true) there.2.1 named.1)),
    )

bound_back : (At : ℕ → ℕ → Type 0) (v w : Valuation) → AreAt At v w → (q : ℕ) → IsBoundAt w q → (p : ℕ) × At p q × IsBoundAt v p
bound_back At v w h q c = bound_there (λ q p. At p q) w v (valuation_turned At v w h) q c

-- each mark has a place
marks_at : (At : ℕ → ℕ → Type 0) (ms : List ℕ) → ((p : ℕ) → Contains ms p → (q : ℕ) × At p q) → (ns : List ℕ) × AllAt At ms ns
marks_at At [] f = ([], tt)
marks_at At (m ∷ ms) f =
    let one = f m (stands_in (m ∷ ms) 0 m refl) in
    let rest = marks_at At ms (λ p c. let here = found_in ms p c in f p (stands_in (m ∷ ms) (suc here.0) p here.1)) in
    (one.0 ∷ rest.0, (one.1, rest.1))

marks_too : (At : ℕ → ℕ → Type 0) (a b : Stream) → Embeds At a b → (v w : Valuation) (ms ns : List ℕ) → AreAt At v w → AllAt At ms ns → AreMarks v ms → AreMarks w ns
marks_too At a b g v w ms ns same at h = record {
  ascending = λ i j x y less here there. (
      let p = at_place (λ q p. At p q) ns ms (at_turned At ms ns at) i x here in
      let r = at_place (λ q p. At p q) ns ms (at_turned At ms ns at) j y there in
      g.rises p.0 x r.0 y p.2 r.2 (h.ascending i j p.0 r.0 less p.1 r.1));
  bound = λ q. (
    (λ c.
        let p = mark_back At ms ns at q c in
        let r = bound_there At v w same p.0 ((h.bound p.0).0 p.2) in
        subst (IsBoundAt w) (one_place At a b g p.0 r.0 q r.1 p.1) r.2),
    (λ c.
        let p = bound_back At v w same q c in
        let r = mark_there At ms ns at p.0 ((h.bound p.0).1 p.2) in
        subst (Contains ns) (one_place At a b g p.0 r.0 q r.1 p.1) r.2),
  );
}

contiguous_too : (At : ℕ → ℕ → Type 0) (a b : Stream) → Embeds At a b → (ms ns : List ℕ) → AllAt At ms ns → AreContiguous a.Has ms → AreContiguous b.Has ns
contiguous_too At a b g ms ns at h low q high has_low has_high above below has =
    let l = mark_back At ms ns at low has_low in
    let u = mark_back At ms ns at high has_high in
    let p = g.found q has in
    let c = h l.0 p.0 u.0 l.2 u.2 (g.falls l.0 low p.0 q l.1 p.1 above) (g.falls p.0 q u.0 high p.1 u.1 below) (g.back p.0 q p.1 has) in
    let r = mark_there At ms ns at p.0 c in
    subst (Contains ns) (one_place At a b g p.0 r.0 q r.1 p.1) r.2

strict_too : (strict : Bool) (P Q : Type 0) → (P → Q) → WhereStrict strict P → WhereStrict strict Q
strict_too true P Q f h = f h
strict_too false P Q f h = tt

-- where no events are counted, the clocks are those of the events alone
clocks_too : (schema : Declared) (w : Window) → CountsNoEvents w → (first last : Event) (s e s' e' : ℕ) (from to : ℤ) → HasClock schema w first s from → HasClock schema w last e to → WithinWidth w from to
    → (from' : ℤ) × (to' : ℤ) × HasClock schema w first s' from' × HasClock schema w last e' to' × WithinWidth w from' to'
clocks_too schema Free counts first last s e s' e' from to f t close = (pos s', pos e', refl, refl, tt)
clocks_too schema (Events n) counts first last s e s' e' from to f t close = absurd counts
clocks_too schema (Clock name n) counts first last s e s' e' from to f t close = (from, to, f, t, close)

window_too : (schema : Declared) (q : Query) → CountsNoEvents q.window → (xs ys : List Event) (s e s' e' : ℕ) → slice_get xs s ≡ slice_get ys s' → slice_get xs e ≡ slice_get ys e' → IsInWindow schema q xs s e → IsInWindow schema q ys s' e'
window_too schema q counts xs ys s e s' e' first last h =
    let clocks = clocks_too schema q.window counts h.first h.last s e s' e' h.from h.to h.from_is h.to_is h.close in
    record {
      first = h.first;
      last = h.last;
      from = clocks.0;
      to = clocks.1;
      first_is = sym first ∙ h.first_is;
      last_is = sym last ∙ h.last_is;
      from_is = clocks.2;
      to_is = clocks.3;
      close = clocks.4;
    }

-- An answer's positions have places that are an answer there.
record HasAnswerThere (At : ℕ → ℕ → Type 0) (schema : Declared) (q : Query) (events : List Event) (end : ℕ) (answer : Answer) : Type 0 where
  pub other : Answer
  pub is : IsAnswer schema q events end other
  pub start : At answer.start other.start
  pub marks : AllAt At answer.marks other.marks

answer_there : (At : ℕ → ℕ → Type 0) (schema : Declared) (q : Query) (xs ys : List Event) (end place : ℕ) → Embeds At (substream schema q xs end) (substream schema q ys place) → CountsNoEvents q.window → At end place
    → (answer : Answer) → IsAnswer schema q xs end answer → HasAnswerThere At schema q ys place answer
answer_there At schema q xs ys end place g counts ends answer h =
    let a = substream schema q xs end in
    let b = substream schema q ys place in
    let v = h.marks.valuation in
    let c = selected_carries At a b g q.select q.formula answer.start end v h.marks.means in
    let ms = marks_at At answer.marks (λ p has. let r = bound_there At v c.valuation c.same p ((h.marks.are_marks.bound p).0 has) in (r.0, r.1)) in
    let upto = one_place At a b g end c.to place c.ends ends in
    record {
      other = record { start = c.from; marks = ms.0 };
      is = record {
        marks = record {
          valuation = c.valuation;
          means = subst (λ (e : ℕ). selected q.select (meaning b q.formula) c.from e c.valuation) upto c.means;
          are_marks = marks_too At a b g v c.valuation answer.marks ms.0 c.same ms.1 h.marks.are_marks;
        };
        strict = strict_too q.strict (AreContiguous (IsOfSubstream schema q xs end) answer.marks) (AreContiguous (IsOfSubstream schema q ys place) ms.0)
            (contiguous_too At a b g answer.marks ms.0 ms.1) h.strict;
        window = window_too schema q counts xs ys answer.start end c.from place (g.events answer.start c.from c.starts) (g.events end place ends) h.window;
      };
      start = c.starts;
      marks = ms.1;
    }

-- the position of the shard stands at this place of the whole
abbrev Stands : List ℕ → ℕ → ℕ → Type 0
Stands places p q = slice_get places p ≡ Some q

places_fall : (places : List ℕ) → IsAscending places → (p q r s : ℕ) → Stands places p q → Stands places r s → q < s → p < r
places_fall places up p q r s at there less = elim (cases_lt p r) [
  | inl before ↦ before
  | inr not ↦ elim (eq-or-lt_of_le not) [
    | inl same ↦ (let e : q ≡ s = cc in absurd (omega arith))
    | inr after ↦ (let back : s < q = up r p s q after there at in absurd (omega arith))
  ]
]

same_event : (whole shard : List Event) (places : List ℕ) → IsShard whole places shard → (p q : ℕ) → Stands places p q → slice_get shard p ≡ slice_get whole q
same_event whole shard places is p q at = is.events p ∙ ap (option_and_then (slice_get whole)) at

same_key : (schema : Declared) (q : Query) (o : Option Event) (a b : Event) (k l : List Value) → o ≡ Some a → o ≡ Some b → values_at schema q.partition a ≡ Some k → values_at schema q.partition b ≡ Some l → k ≡ l
same_key schema q o a b k l at there first second = let e : a ≡ b = cc in let s : values_at schema q.partition a ≡ values_at schema q.partition b = ap (values_at schema q.partition) e in cc

shard_embeds : (schema : Declared) (q : Query) (whole shard : List Event) (places : List ℕ) (key : List Value) → IsShard whole places shard → HoldsKey schema q whole places key
    → (end place : ℕ) (event : Event) → slice_get places end ≡ Some place → slice_get whole place ≡ Some event → HasKey schema q event key
    → Embeds (Stands places) (substream schema q shard end) (substream schema q whole place)
shard_embeds schema q whole shard places key is holds end place event stands at has = record {
  schema = refl;
  events = same_event whole shard places is;
  forth = λ p r there h. record {
    here = h.here;
    there = h.there;
    key = h.key;
    here_is = sym (same_event whole shard places is p r there) ∙ h.here_is;
    there_is = sym (same_event whole shard places is end place stands) ∙ h.there_is;
    here_has = h.here_has;
    there_has = h.there_has;
  };
  back = λ p r there h. record {
    here = h.here;
    there = h.there;
    key = h.key;
    here_is = same_event whole shard places is p r there ∙ h.here_is;
    there_is = same_event whole shard places is end place stands ∙ h.there_is;
    here_has = h.here_has;
    there_has = h.there_has;
  };
  placed = λ p h. option_and_then_some (slice_get whole) (slice_get places p) h.here (sym (is.events p) ∙ h.here_is) (λ x e there. (x, e));
  found = λ r h. (
      let k = same_key schema q (slice_get whole place) h.there event h.key key h.there_is at h.there_has.1 has.1 in
      let c = holds r h.here h.here_is (h.here_has.0, h.here_has.1 ∙ ap (λ (l : List Value). Some l) k) in
      found_in places r c);
  rises = λ p r s t here there less. is.ascending p s r t less here there;
  falls = places_fall places is.ascending;
}

places_of_marks : (places ms ns : List ℕ) → AllAt (Stands places) ms ns → map (place_of places) ms ≡ ns
places_of_marks places [] [] h = refl
places_of_marks places [] (n ∷ ns) h = absurd h
places_of_marks places (m ∷ ms) [] h = absurd h
places_of_marks places (m ∷ ms) (n ∷ ns) h = ap₂ (λ x xs. x ∷ xs) (get_or_from_slice_get places m n 0 h.0) (places_of_marks places ms ns h.1)

is_placed : (places : List ℕ) (answer other : Answer) → Stands places answer.start other.start → AllAt (Stands places) answer.marks other.marks → placed places answer ≡ other
is_placed places answer other start marks = ap₂ (λ (s : ℕ) (ms : List ℕ). record { start = s; marks = ms }) (get_or_from_slice_get places answer.start other.start 0 start) (places_of_marks places answer.marks other.marks marks)

-- marks with the same places are the same
same_marks : (At : ℕ → ℕ → Type 0) → ((p r q : ℕ) → At p q → At r q → p ≡ r) → (ms ls ns : List ℕ) → AllAt At ms ns → AllAt At ls ns → ms ≡ ls
same_marks At one [] [] [] h k = refl
same_marks At one [] [] (n ∷ ns) h k = refl
same_marks At one [] (l ∷ ls) [] h k = absurd k
same_marks At one [] (l ∷ ls) (n ∷ ns) h k = absurd h
same_marks At one (m ∷ ms) [] [] h k = absurd h
same_marks At one (m ∷ ms) [] (n ∷ ns) h k = absurd k
same_marks At one (m ∷ ms) (l ∷ ls) [] h k = absurd h
same_marks At one (m ∷ ms) (l ∷ ls) (n ∷ ns) h k = ap₂ (λ x xs. x ∷ xs) (one m l n h.0 k.0) (same_marks At one ms ls ns h.1 k.1)

-- what is in the list of the values comes from what is in the list
mapped_from : {X Y : Type 0} (f : X → Y) (o : Option X) (y : Y) → option_map f o ≡ Some y → (x : X) × (o ≡ Some x) × (f x ≡ y)
mapped_from f None y h = absurd cc
mapped_from f (Some x) y h = let e : f x ≡ y = cc in (x, refl, e)

contained_from : {X Y : Type 0} (f : X → Y) (xs : List X) (y : Y) → Contains (map f xs) y → (x : X) × Contains xs x × (f x ≡ y)
contained_from f xs y c =
    let here = found_in (map f xs) y c in
    let from = mapped_from f (slice_get xs here.0) y (sym (slice_get-map f xs here.0) ∙ here.1) in
    (from.0, stands_in xs here.0 from.0 from.1, from.2)

contained_too : {X Y : Type 0} (f : X → Y) (xs : List X) (x : X) → Contains xs x → Contains (map f xs) (f x)
contained_too f xs x c =
    let here = found_in xs x c in
    stands_in (map f xs) here.0 (f x) (slice_get-map f xs here.0 ∙ ap (option_map f) here.1)

no_repeats_mapped : {X Y : Type 0} (f : X → Y) (xs : List X) → ((x y : X) → Contains xs x → Contains xs y → f x ≡ f y → x ≡ y) → HasNoRepeats xs → HasNoRepeats (map f xs)
no_repeats_mapped f [] one h = tt
no_repeats_mapped f (x ∷ xs) one h = (
  (λ c.
      let from = contained_from f xs (f x) c in
      let here = found_in xs from.0 from.1 in
      let e = one from.0 x (stands_in (x ∷ xs) (suc here.0) from.0 here.1) (stands_in (x ∷ xs) 0 x refl) from.2 in
      h.0 (subst (Contains xs) e from.1)),
  no_repeats_mapped f xs (λ y z c d e.
      let here = found_in xs y c in
      let there = found_in xs z d in
      one y z (stands_in (x ∷ xs) (suc here.0) y here.1) (stands_in (x ∷ xs) (suc there.0) z there.1) e) h.1,
)

pub shards_answer : ShardsAnswerForTheirKeys
shards_answer schema q whole shard places key counts is holds end place event stands at has answers h =
    let a = substream schema q shard end in
    let b = substream schema q whole place in
    let g = shard_embeds schema q whole shard places key is holds end place event stands at has in
    let back = turned (Stands places) a b g in
    let there = answer_there (Stands places) schema q shard whole end place g counts stands in
    record {
      each = λ other c. (
          let from = contained_from (placed places) answers other c in
          let t = there from.0 (h.each from.0 from.1) in
          subst (IsAnswer schema q whole place) (sym (is_placed places from.0 t.other t.start t.marks) ∙ from.2) t.is);
      all = λ other c. (
          let t = answer_there (λ r p. Stands places p r) schema q whole shard place end back counts stands other c in
          let e = is_placed places t.other other t.start (at_turned (λ r p. Stands places p r) other.marks t.other.marks t.marks) in
          subst (Contains (map (placed places) answers)) e (contained_too (placed places) answers t.other (h.all t.other t.is)));
      once = no_repeats_mapped (placed places) answers (λ x y c d same.
          let s = there x (h.each x c) in
          let t = there y (h.each y d) in
          let e : s.other ≡ t.other = sym (is_placed places x s.other s.start s.marks) ∙ (same ∙ is_placed places y t.other t.start t.marks) in
          let one = λ (p r q : ℕ) (here : Stands places p q) (there : Stands places r q). one_place (λ r p. Stands places p r) b a back q p r here there in
          ap₂ (λ (s : ℕ) (ms : List ℕ). record { start = s; marks = ms })
          (one x.start y.start t.other.start (subst (λ (o : Answer). Stands places x.start o.start) e s.start) t.start)
          (same_marks (Stands places) one x.marks y.marks t.other.marks (subst (λ (o : Answer). AllAt (Stands places) x.marks o.marks) e s.marks) t.marks)) h.once;
    }
