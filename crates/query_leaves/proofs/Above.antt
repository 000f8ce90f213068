-- Changes that stand above a tree.
use Rattle.std.proofs.Common.{◌≡◌, refl, sym, ap, ap₂, subst, ◌∙◌, ℕ, ◌+◌, ◌<◌, zero, suc, Bool, List, [], ◌∷◌, ◌++◌, length, map, get_or, arith, length-append}
use Rattle.std.specs.Prelude.{Result, Ok, Err, OnOk, IfOk}
use Rattle.std.specs.List.{AllByRecursion}
use Rattle.std.proofs.lemmas.List.{map-append}
use Rattle.stream_schema.specs.Types.{Declared}
use Rattle.query_leaves.specs.declared.Leaf.{Leaf}
use Rattle.query_leaves.specs.declared.occurrence.Change.{Change}
use Rattle.query_leaves.specs.declared.leaf_under.LeafOfType.{LeafOfType}
use Rattle.query_leaves.specs.LeafTree as tree
use Rattle.query_leaves.specs.LeafTree.{LeafTree, leaf, none, sequence, either, plus}
use Rattle.query_leaves.specs.Expand.{Occurrence, at_leaves, one_or_more}
use Rattle.query_leaves.specs.Leaves.{occurrences, numbered}
use Rattle.query_leaves.specs.Changes.{change_leaf, change_all}
use Rattle.query_leaves.specs.Tests.{IsMadeOf, AreMadeOf}
use Rattle.query_leaves.specs.Numbering.{occurrence_under, AreMadeUnder, HasNumbered}

-- the first ones, and then the others
pub all_changes : (cs ds : List Change) (o : Occurrence) → change_all (cs ++ ds) o ≡ change_all ds (change_all cs o)
all_changes [] ds o = refl
all_changes (c ∷ cs) ds o = all_changes cs ds (change_leaf c o)

-- one more change of each leaf
pub one_more_change : (cs : List Change) (c : Change) (t : LeafTree Occurrence) → at_leaves (change_all (cs ++ c ∷ [])) t ≡ at_leaves (change_leaf c) (at_leaves (change_all cs) t)
one_more_change cs c (leaf o) = ap (λ p. leaf p) (all_changes cs (c ∷ []) o)
one_more_change cs c none = refl
one_more_change cs c (sequence tight a b) = ap₂ (λ x y. sequence tight x y) (one_more_change cs c a) (one_more_change cs c b)
one_more_change cs c (either a b) = ap₂ (λ x y. tree.either x y) (one_more_change cs c a) (one_more_change cs c b)
one_more_change cs c (plus tight a) = ap (λ x. plus tight x) (one_more_change cs c a)

-- what repeats may be changed before or after
pub repeats_changed : (tight : Bool) (change : Occurrence → Occurrence) (t : LeafTree Occurrence) → one_or_more tight (at_leaves change t) ≡ at_leaves change (one_or_more tight t)
repeats_changed tight change (leaf o) = refl
repeats_changed tight change none = refl
repeats_changed tight change (sequence u a b) = refl
repeats_changed tight change (either a b) = refl
repeats_changed tight change (plus u a) = refl

-- the leaves of a tree that is changed: as many, and each changed
changed_size : (change : Occurrence → Occurrence) (t : LeafTree Occurrence) → length (occurrences (at_leaves change t)) ≡ length (occurrences t)
changed_size change (leaf o) = refl
changed_size change none = refl
changed_size change (sequence tight a b) = length-append (occurrences (at_leaves change a)) (occurrences (at_leaves change b)) ∙ ap₂ (λ n m. n + m) (changed_size change a) (changed_size change b) ∙ sym (length-append (occurrences a) (occurrences b))
changed_size change (either a b) = length-append (occurrences (at_leaves change a)) (occurrences (at_leaves change b)) ∙ ap₂ (λ n m. n + m) (changed_size change a) (changed_size change b) ∙ sym (length-append (occurrences a) (occurrences b))
changed_size change (plus tight a) = changed_size change a

pub changed_shape : (change : Occurrence → Occurrence) (base : ℕ) (t : LeafTree Occurrence) → numbered base (at_leaves change t) ≡ numbered base t
changed_shape change base (leaf o) = refl
changed_shape change base none = refl
changed_shape change base (sequence tight a b) =
    ap₂ (λ x y. sequence tight x y) (changed_shape change base a)
    (changed_shape change (base + length (occurrences (at_leaves change a))) b ∙ ap (λ n. numbered (base + n) b) (changed_size change a))
changed_shape change base (either a b) =
    ap₂ (λ x y. tree.either x y) (changed_shape change base a)
    (changed_shape change (base + length (occurrences (at_leaves change a))) b ∙ ap (λ n. numbered (base + n) b) (changed_size change a))
changed_shape change base (plus tight a) = ap (λ x. plus tight x) (changed_shape change base a)

both : (cs above : List Change) (a b : LeafTree Occurrence) → map (change_all above) (occurrences (at_leaves (change_all cs) a)) ≡ map (change_all (cs ++ above)) (occurrences a) → map (change_all above) (occurrences (at_leaves (change_all cs) b)) ≡ map (change_all (cs ++ above)) (occurrences b) → map (change_all above) (occurrences (at_leaves (change_all cs) a) ++ occurrences (at_leaves (change_all cs) b)) ≡ map (change_all (cs ++ above)) (occurrences a ++ occurrences b)
both cs above a b first second =
    map-append (change_all above) (occurrences (at_leaves (change_all cs) a)) (occurrences (at_leaves (change_all cs) b))
    ∙ ap₂ (λ x y. x ++ y) first second
    ∙ sym (map-append (change_all (cs ++ above)) (occurrences a) (occurrences b))

changed_in_turn : (cs above : List Change) (t : LeafTree Occurrence) → map (change_all above) (occurrences (at_leaves (change_all cs) t)) ≡ map (change_all (cs ++ above)) (occurrences t)
changed_in_turn cs above (leaf o) = ap (λ p. p ∷ []) (sym (all_changes cs above o))
changed_in_turn cs above none = refl
changed_in_turn cs above (sequence tight a b) = both cs above a b (changed_in_turn cs above a) (changed_in_turn cs above b)
changed_in_turn cs above (either a b) = both cs above a b (changed_in_turn cs above a) (changed_in_turn cs above b)
changed_in_turn cs above (plus tight a) = changed_in_turn cs above a

-- no leaf is at hand at first
pub none_made : (schema : Declared) (above : List Change) (made : List LeafOfType) → made ≡ [] → AreMadeUnder schema above made
none_made schema above made blank = record { each = subst (λ ms. AllByRecursion (λ m. IsMadeOf schema (occurrence_under above m.name.now) m.leaf) ms) (sym blank) tt }

recursion_more : {A : Type 0} (P : A → Type 0) (xs : List A) (x : A) → AllByRecursion P xs → P x → AllByRecursion P (xs ++ x ∷ [])
recursion_more P [] x h k = (k, tt)
recursion_more P (y ∷ ys) x h k = (h.0, recursion_more P ys x h.1 k)

recursion_at : {A : Type 0} (P : A → Type 0) (xs : List A) (k : ℕ) (d : A) → k < length xs → AllByRecursion P xs → P (get_or xs k d)
recursion_at P [] k d less h = absurd (omega (arith, less))
recursion_at P (x ∷ xs) zero d less h = h.0
recursion_at P (x ∷ xs) (suc k) d less h = recursion_at P xs k d (omega (arith, less)) h.1

pub one_more_made : (schema : Declared) (above : List Change) (made after : List LeafOfType) (m : LeafOfType) → after ≡ made ++ m ∷ [] → IsMadeOf schema (occurrence_under above m.name.now) m.leaf → AreMadeUnder schema above made → AreMadeUnder schema above after
one_more_made schema above made after m put is are =
    let P : LeafOfType → Type 0 = λ m. IsMadeOf schema (occurrence_under above m.name.now) m.leaf in
    record { each = subst (AllByRecursion P) (sym put) (recursion_more P made m are.each is) }

pub made_at : (schema : Declared) (above : List Change) (made : List LeafOfType) (k : ℕ) (m : LeafOfType) (name : List ℕ) → k < length made → m ≡ get_or made k m → m.name.now ≡ name → AreMadeUnder schema above made → IsMadeOf schema (occurrence_under above name) m.leaf
made_at schema above made k m name less at named are =
    let P : LeafOfType → Type 0 = λ m. IsMadeOf schema (occurrence_under above m.name.now) m.leaf in
    subst (λ n. IsMadeOf schema (occurrence_under above n) m.leaf) named
    (subst P (sym at) (recursion_at P made k m less are.each))

-- The leaves of a part under changes are those of the changed part under the changes above it.
pub under_numbered : (schema : Declared) (cs above : List Change) (t : LeafTree Occurrence) (before after : List Leaf) (made : List LeafOfType) → HasNumbered schema (cs ++ above) (occurrences t) before after [] [] → HasNumbered schema above (occurrences (at_leaves (change_all cs) t)) before after made made
under_numbered schema cs above t before after made has = record {
  count = has.count ∙ ap (λ n. length before + n) (sym (changed_size (change_all cs) t));
  list = λ are earlier h. subst (λ os. AreMadeOf schema (earlier ++ os) after) (sym (changed_in_turn cs above t)) (has.list (none_made schema (cs ++ above) [] refl) earlier h);
  kept = λ are. are;
}

-- a context of its own begins with no leaf at hand
pub alone_numbered : (schema : Declared) (above : List Change) (os : List Occurrence) (before after : List Leaf) (old new : List LeafOfType) → old ≡ [] → HasNumbered schema above os before after old new → HasNumbered schema above os before after [] []
alone_numbered schema above os before after old new blank has = record {
  count = has.count;
  list = λ are earlier h. has.list (none_made schema above old blank) earlier h;
  kept = λ are. are;
}

-- under no changes
pub unchanged : (os : List Occurrence) → map (change_all []) os ≡ os
unchanged [] = refl
unchanged (o ∷ os) = ap (λ l. o ∷ l) (unchanged os)

pub whole_numbered : (schema : Declared) (above : List Change) (os : List Occurrence) (before after : List Leaf) (old new : List LeafOfType) → above ≡ [] → before ≡ [] → old ≡ [] → HasNumbered schema above os before after old new → AreMadeOf schema os after
whole_numbered schema above os before after old new nothing first blank has =
    let alone : HasNumbered schema [] os before after old new = subst (λ a. HasNumbered schema a os before after old new) nothing has in
    subst (λ qs. AreMadeOf schema qs after) (unchanged os) (alone.list (none_made schema [] old blank) [] (subst (AreMadeOf schema []) (sym first) tt))

-- what follows where a call does not fail
pub on_ok : {T E : Type 0} (r : Result T E) (P Q : Type 0) → (P → Q) → OnOk r P → OnOk r Q
on_ok (Ok x) P Q f h = f h
on_ok (Err e) P Q f h = h

-- a copy is what it was made of
pub copied : {E : Type 0} (schema : Declared) (o : Occurrence) (r : Result Leaf E) (l : Leaf) → IsMadeOf schema o l → IfOk r (λ copy. copy ≡ l) → IfOk r (IsMadeOf schema o)
copied schema o (Ok x) l is same = subst (IsMadeOf schema o) (sym same) is
copied schema o (Err e) l is same = same
