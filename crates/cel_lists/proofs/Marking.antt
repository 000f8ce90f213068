-- The marks that are computed are those of the valuation, and whether they are contiguous is what the test says.
use Rattle.std.proofs.Common.{◌≡◌, refl, sym, ap, subst, ◌∙◌, ℕ, ◌<◌, inl, inr, Bool, true, false, not, ◌&&◌, ◌||◌, cond, List, [], ◌∷◌, map, length, Option, Some, None}
use Rattle.std.specs.Prelude.{◌==◌, nat_lt, filter, Contains}
use Rattle.std.specs.List.{list_any, list_all}
use Rattle.std.proofs.lemmas.Bool.{ltb-true, lt-ltb}
use Rattle.std.proofs.lemmas.Bool.Decides.{Decides-eqb}
use Rattle.stream_schema.specs.declared.Event.{Event}
use Rattle.cel_terms.specs.declared.Name.{Name}
use Rattle.cel_terms.specs.Meaning.{Bound, Valuation, lists_name, only_names}
use Rattle.cel_terms.specs.Answers.{is_bound, AreMarks, AreContiguous, WhereStrict}
use Rattle.cel_terms.proofs.Induction.{renamed}
use Rattle.cel_terms.proofs.Marked.{Binds, any_from_binds, binds_from_any}
use Rattle.cel_lists.specs.Below.{is_kept, marks_at, is_mark, marks_of, is_inside, is_contiguous, is_strict_enough}
use Rattle.cel_lists.proofs.Members.{Among, contains_from, among_from, any_among, among_any, or_here, or_later, or_cases}
use Rattle.cel_lists.proofs.Sequences.{and_from, and_to}
use Rattle.cel_lists.proofs.Places.{below_to, below_from, below_rises, ascends}

named_if : (b : Bool) (n : List ℕ) (ns : List (List ℕ)) → is_bound (cond b (n ∷ ns) ns) ≡ (b || is_bound ns)
named_if true n ns = refl
named_if false n ns = refl

kept_is : (q : List ℕ → Bool) (names : List (List ℕ)) → is_bound (filter q names) ≡ list_any q names
kept_is q [] = refl
kept_is q (n ∷ ns) = named_if (q n) n (filter q ns) ∙ ap (λ b. q n || b) (kept_is q ns)

-- what SELECT leaves of a valuation
abbrev pub left_by : Option (List Name) → Valuation → Valuation
left_by None v = v
left_by (Some names) v = renamed (only_names names) v

at_from : (b : Bound) (p : ℕ) (k : Bool) → ((b.position == p) && k) ≡ true → (b.position ≡ p) × (k ≡ true)
at_from b p k e = let s = and_from (b.position == p) k e in ((Decides-eqb b.position p).0 s.0, s.1)

marked_from : (select : Option (List Name)) (p : ℕ) (v : Valuation) → is_mark select v p ≡ true → Binds p (left_by select v)
marked_from None p [] e = absurd cc
marked_from (Some names) p [] e = absurd cc
marked_from None p (b ∷ v) e =
    elim (or_cases (marks_at None p b) (is_mark None v p) e) [
      | inl h ↦ inl (at_from b p (is_kept None b.names) h)
      | inr h ↦ inr (marked_from None p v h)
    ]
marked_from (Some names) p (b ∷ v) e =
    elim (or_cases (marks_at (Some names) p b) (is_mark (Some names) v p) e) [
      | inl h ↦ (let a = at_from b p (is_kept (Some names) b.names) h in inl (a.0, kept_is (lists_name (map (λ n. n.text) names)) b.names ∙ a.1))
      | inr h ↦ inr (marked_from (Some names) p v h)
    ]

marked_to : (select : Option (List Name)) (p : ℕ) (v : Valuation) → Binds p (left_by select v) → is_mark select v p ≡ true
marked_to None p [] h = absurd h
marked_to (Some names) p [] h = absurd h
marked_to None p (b ∷ v) (inl h) = or_here (marks_at None p b) (is_mark None v p) (and_to (b.position == p) (is_kept None b.names) ((Decides-eqb b.position p).1 h.0) h.1)
marked_to None p (b ∷ v) (inr h) = or_later (marks_at None p b) (is_mark None v p) (marked_to None p v h)
marked_to (Some names) p (b ∷ v) (inl h) = or_here (marks_at (Some names) p b) (is_mark (Some names) v p) (and_to (b.position == p) (is_kept (Some names) b.names) ((Decides-eqb b.position p).1 h.0) (sym (kept_is (lists_name (map (λ n. n.text) names)) b.names) ∙ h.1))
marked_to (Some names) p (b ∷ v) (inr h) = or_later (marks_at (Some names) p b) (is_mark (Some names) v p) (marked_to (Some names) p v h)

-- The marks are those of what SELECT leaves, where all that it binds are positions of events.
pub are_marks : (select : Option (List Name)) (events : List Event) (v : Valuation) → ((p : ℕ) → Binds p (left_by select v) → p < length events) → AreMarks (left_by select v) (marks_of select events v)
are_marks select events v there = record {
  ascending = ascends (marks_of select events v) (below_rises (is_mark select v) (length events));
  bound = λ p. (
    λ has. any_from_binds p (left_by select v) (marked_from select p v (below_from (is_mark select v) (length events) p (among_from p (marks_of select events v) has)).1),
    λ bound. (let b = binds_from_any p (left_by select v) bound in contains_from p (marks_of select events v) (below_to (is_mark select v) (length events) p (there p b) (marked_to select p v b))),
  );
}

all_from : {X : Type 0} (t : X → Bool) (x : X) (xs : List X) → list_all t xs ≡ true → Among x xs → t x ≡ true
all_from t x [] e h = absurd h
all_from t x (y ∷ ys) e (inl h) = ap t (sym h) ∙ (and_from (t y) (list_all t ys) e).0
all_from t x (y ∷ ys) e (inr h) = all_from t x ys (and_from (t y) (list_all t ys) e).1 h

all_to : {X : Type 0} (t : X → Bool) (xs : List X) → ((x : X) → Among x xs → t x ≡ true) → list_all t xs ≡ true
all_to t [] f = refl
all_to t (x ∷ xs) f = and_to (t x) (list_all t xs) (f x (inl refl)) (all_to t xs (λ y h. f y (inr h)))

implied : (a b : Bool) → (not a || b) ≡ true → a ≡ true → b ≡ true
implied true b e h = e
implied false b e h = absurd cc

implies : (a b : Bool) → (a ≡ true → b ≡ true) → (not a || b) ≡ true
implies true b f = f refl
implies false b f = refl

mark_from : (marks : List ℕ) (p : ℕ) → list_any (λ m. m == p) marks ≡ true → Contains marks p
mark_from marks p e = let s = among_any (λ m. m == p) marks e in contains_from p marks (subst (λ (k : ℕ). Among k marks) ((Decides-eqb s.0 p).0 s.2) s.1)

mark_to : (marks : List ℕ) (p : ℕ) → Contains marks p → list_any (λ m. m == p) marks ≡ true
mark_to marks p h = any_among (λ m. m == p) p marks (among_from p marks h) ((Decides-eqb p p).1 refl)

contiguous_from : (Has : ℕ → Type 0) (positions marks : List ℕ) → ((p : ℕ) → Has p → Contains positions p) → is_contiguous positions marks ≡ true → AreContiguous Has marks
contiguous_from Has positions marks to e low p high l h after before has =
    let a = all_from (λ p. not (is_inside marks p) || list_any (λ m. m == p) marks) p positions e (among_from p positions (to p has)) in
    mark_from marks p (implied (is_inside marks p) (list_any (λ m. m == p) marks) a
    (and_to (list_any (λ m. nat_lt m p) marks) (list_any (λ m. nat_lt p m) marks)
    (any_among (λ m. nat_lt m p) low marks (among_from low marks l) (lt-ltb low p after))
    (any_among (λ m. nat_lt p m) high marks (among_from high marks h) (lt-ltb p high before))))

contiguous_to : (Has : ℕ → Type 0) (positions marks : List ℕ) → ((p : ℕ) → Contains positions p → Has p) → AreContiguous Has marks → is_contiguous positions marks ≡ true
contiguous_to Has positions marks from c =
    all_to (λ p. not (is_inside marks p) || list_any (λ m. m == p) marks) positions (λ p has. implies (is_inside marks p) (list_any (λ m. m == p) marks) (λ e. covered p has e))
  where
    covered : (p : ℕ) → Among p positions → is_inside marks p ≡ true → list_any (λ m. m == p) marks ≡ true
    covered p has e =
        let s = and_from (list_any (λ m. nat_lt m p) marks) (list_any (λ m. nat_lt p m) marks) e in
        let l = among_any (λ m. nat_lt m p) marks s.0 in
        let h = among_any (λ m. nat_lt p m) marks s.1 in
        mark_to marks p (c l.0 p h.0 (contains_from l.0 marks l.1) (contains_from h.0 marks h.1) (ltb-true l.0 p l.2) (ltb-true p h.0 h.2) (from p (contains_from p positions has)))

pub strict_from : (strict : Bool) (Has : ℕ → Type 0) (positions marks : List ℕ) → ((p : ℕ) → Has p → Contains positions p) → is_strict_enough strict positions marks ≡ true → WhereStrict strict (AreContiguous Has marks)
strict_from true Has positions marks to e = contiguous_from Has positions marks to e
strict_from false Has positions marks to e = tt

pub strict_to : (strict : Bool) (Has : ℕ → Type 0) (positions marks : List ℕ) → ((p : ℕ) → Contains positions p → Has p) → WhereStrict strict (AreContiguous Has marks) → is_strict_enough strict positions marks ≡ true
strict_to true Has positions marks from c = contiguous_to Has positions marks from c
strict_to false Has positions marks from c = refl
