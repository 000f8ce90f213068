-- The ends of a chain and of a choice, part by part.
use Rattle.std.proofs.Common.{◌≡◌, refl, sym, ap, ap₂, subst, ◌∙◌, ℕ, zero, suc, ◌+◌, ◌<◌, Bool, true, false, ◌&&◌, ◌||◌, List, [], ◌∷◌, ◌++◌, length, take, get_or, map, arith, length-take-le}
use Rattle.std.specs.Prelude.{Vec}
use Rattle.std.specs.declared.alloc.Global.{Global}
use Rattle.std.proofs.Math.Bool.{or_assoc}
use Rattle.std.proofs.lemmas.List.{take_more, map-append, length-map}
use Rattle.cer_base.specs.Bits.{has}
use Rattle.query_leaves.specs.declared.Shape.{Shape, Chain, Either}
use Rattle.query_leaves.specs.declared.ShapePart.{ShapePart, out-ShapePart}
use Rattle.query_leaves.specs.LeafTree.{LeafTree, sequence, linked_to, chain_of, choice_of}
use Rattle.query_leaves.specs.Shapes.{tree_of_shape}
use Rattle.query_leaves.specs.Numbering.{shape_part}
use Rattle.query_leaves.proofs.Shaped.{chain_is, choices_are}
use Rattle.cea_determinise.specs.Runs.{agrees}
use Rattle.cea_compile.specs.declared.followers.Followers.{Followers}
use Rattle.cea_compile.specs.declared.ends.Ends.{Ends}
use Rattle.cea_compile.specs.Compiled.{first_set, last_set, follow_set}
use Rattle.cea_compile.specs.Found.{FollowersHaveRoom, pairs, AreBelow, HasFirst}
use Rattle.cea_compile.specs.Ended.{AreEndsOf}

either_way : (a b : Bool) → agrees a b ≡ agrees b a
either_way true true = refl
either_way true false = refl
either_way false true = refl
either_way false false = refl

or_nothing : (a : Bool) → (a || false) ≡ a
or_nothing true = refl
or_nothing false = refl

-- a chain with one part more
linked_more : {A : Type 0} (t : LeafTree A) (ps : List (Bool × LeafTree A)) (p : Bool × LeafTree A) → linked_to t (ps ++ p ∷ []) ≡ sequence p.0 (linked_to t ps) p.1
linked_more t [] p = refl
linked_more t (q ∷ qs) p = linked_more (sequence q.0 t q.1) qs p

chain_more : {A : Type 0} (ps : List (Bool × LeafTree A)) (p : Bool × LeafTree A) → 0 < length ps → chain_of (ps ++ p ∷ []) ≡ sequence p.0 (chain_of ps) p.1
chain_more [] p some = absurd (omega arith)
chain_more (q ∷ qs) p some = linked_more q.1 qs p

pub next_part : (xs : List ShapePart) (k : ℕ) (d : ShapePart) → 0 < k → k < length xs → chain_of (map shape_part (take (k + 1) xs)) ≡ sequence (shape_part (get_or xs k d)).0 (chain_of (map shape_part (take k xs))) (shape_part (get_or xs k d)).1
next_part xs k d some less =
    let many : length (map shape_part (take k xs)) ≡ k = length-map (take k xs) shape_part ∙ length-take-le k xs (omega arith) in
    ap (λ ys. chain_of (map shape_part ys)) (take_more xs k d less)
    ∙ ap chain_of (map-append shape_part (take k xs) (get_or xs k d ∷ []))
    ∙ chain_more (map shape_part (take k xs)) (shape_part (get_or xs k d)) (omega arith)

pub first_part : (xs : List ShapePart) (d : ShapePart) → 0 < length xs → chain_of (map shape_part (take 1 xs)) ≡ (shape_part (get_or xs 0 d)).1
first_part [] d some = absurd (omega arith)
first_part (x ∷ xs) d some = refl

-- what a chain may begin with, its first part may
first_linked : (t : LeafTree ℕ) (ps : List (Bool × LeafTree ℕ)) (k : ℕ) → first_set (linked_to t ps) k ≡ first_set t k
first_linked t [] k = refl
first_linked t (p ∷ ps) k = first_linked (sequence p.0 t p.1) ps k

pub first_of_chain : (xs : List ShapePart) (d : ShapePart) → d ≡ get_or xs 0 d → 0 < length xs → (k : ℕ) → first_set (tree_of_shape (out-ShapePart d).part) k ≡ first_set (chain_of (map shape_part xs)) k
first_of_chain [] d is some k = absurd (omega arith)
first_of_chain (x ∷ xs) d is some k = ap (λ (p : ShapePart). first_set (shape_part p).1 k) is ∙ sym (first_linked (shape_part x).1 (map shape_part xs) k)

first_then : (pa ft fu l : Bool) → ((pa || ft) || fu) || l ≡ (pa || (ft || (fu || l)))
first_then true ft fu l = refl
first_then false true fu l = refl
first_then false false fu l = refl

-- the ends of one after another
pub joined : (size : ℕ) (tight : Bool) (t u : LeafTree ℕ) (a b c d : Followers) (e f g : Ends) → AreEndsOf size t a b e → AreEndsOf size u b c f → FollowersHaveRoom size d → ((v : Bool) (j k : ℕ) → pairs d v j k ≡ pairs c v j k || (agrees v tight && (has e.last j && has f.first k))) → g.first ≡ e.first → g.last ≡ f.last → AreEndsOf size (sequence tight t u) a d g
joined size tight t u a b c d e f g one two room linked first last = record {
  ends = record { first = ap length first ∙ one.ends.first; last = ap length last ∙ two.ends.last };
  first = λ k. ap (λ s. has s k) first ∙ one.first k;
  last = λ k. ap (λ s. has s k) last ∙ two.last k;
  room = room;
  pairs = λ v j k.
      linked v j k
      ∙ ap₂ (λ x y. x || y) (two.pairs v j k ∙ ap (λ x. x || follow_set u v j k) (one.pairs v j k)) (ap₂ (λ x y. x && y) (either_way v tight) (ap₂ (λ x y. x && y) (one.last j) (two.first k)))
      ∙ first_then (pairs a v j k) (follow_set t v j k) (follow_set u v j k) (agrees tight v && (last_set t j && first_set u k));
}

-- a choice with one more
pub first_more : (ts : List (LeafTree ℕ)) (t : LeafTree ℕ) (k : ℕ) → first_set (choice_of (ts ++ t ∷ [])) k ≡ (first_set (choice_of ts) k || first_set t k)
first_more [] t k = or_nothing (first_set t k)
first_more (u ∷ us) t k = ap (λ b. first_set u k || b) (first_more us t k) ∙ sym (or_assoc (first_set u k) (first_set (choice_of us) k) (first_set t k))

-- where one more is put in
put_more : (a b c : Bool) → b || (a || c) ≡ (a || b) || c
put_more true true c = refl
put_more true false c = refl
put_more false true c = refl
put_more false false c = refl

pub first_with : (xs : List Shape) (i : ℕ) (d : Shape) (old mid new : List Bool) → i < length xs → HasFirst (choice_of (map tree_of_shape (take i xs))) old mid → HasFirst (tree_of_shape (get_or xs i d)) mid new → HasFirst (choice_of (map tree_of_shape (take (i + 1) xs))) old new
first_with xs i d old mid new less before one = record {
  members = λ k.
      one.members k
      ∙ ap (λ b. first_set t k || b) (before.members k)
      ∙ put_more (first_set (choice_of ts) k) (first_set t k) (has old k)
      ∙ ap (λ b. b || has old k) (sym (first_more ts t k))
      ∙ ap (λ us. first_set (choice_of us) k || has old k) (sym (ap (map tree_of_shape) (take_more xs i d less) ∙ map-append tree_of_shape (take i xs) (get_or xs i d ∷ [])));
  room = one.room ∙ before.room;
}
  where
    ts : List (LeafTree ℕ)
    ts = map tree_of_shape (take i xs)

    t : LeafTree ℕ
    t = tree_of_shape (get_or xs i d)

last_more : (ts : List (LeafTree ℕ)) (t : LeafTree ℕ) (k : ℕ) → last_set (choice_of (ts ++ t ∷ [])) k ≡ (last_set (choice_of ts) k || last_set t k)
last_more [] t k = or_nothing (last_set t k)
last_more (u ∷ us) t k = ap (λ b. last_set u k || b) (last_more us t k) ∙ sym (or_assoc (last_set u k) (last_set (choice_of us) k) (last_set t k))

follow_more : (ts : List (LeafTree ℕ)) (t : LeafTree ℕ) (v : Bool) (j k : ℕ) → follow_set (choice_of (ts ++ t ∷ [])) v j k ≡ (follow_set (choice_of ts) v j k || follow_set t v j k)
follow_more [] t v j k = or_nothing (follow_set t v j k)
follow_more (u ∷ us) t v j k = ap (λ b. follow_set u v j k || b) (follow_more us t v j k) ∙ sym (or_assoc (follow_set u v j k) (follow_set (choice_of us) v j k) (follow_set t v j k))

chosen_with : (size : ℕ) (ts : List (LeafTree ℕ)) (t : LeafTree ℕ) (a b c : Followers) (e f g : Ends) → AreEndsOf size (choice_of ts) a b e → AreEndsOf size t b c f → length g.first ≡ length e.first → length g.last ≡ length e.last → ((k : ℕ) → has g.first k ≡ has e.first k || has f.first k) → ((k : ℕ) → has g.last k ≡ has e.last k || has f.last k) → AreEndsOf size (choice_of (ts ++ t ∷ [])) a c g
chosen_with size ts t a b c e f g one two first_room last_room first last = record {
  ends = record { first = first_room ∙ one.ends.first; last = last_room ∙ one.ends.last };
  first = λ k. first k ∙ ap₂ (λ x y. x || y) (one.first k) (two.first k) ∙ sym (first_more ts t k);
  last = λ k. last k ∙ ap₂ (λ x y. x || y) (one.last k) (two.last k) ∙ sym (last_more ts t k);
  room = two.room;
  pairs = λ v j k.
      two.pairs v j k ∙ ap (λ x. x || follow_set t v j k) (one.pairs v j k)
      ∙ or_assoc (pairs a v j k) (follow_set (choice_of ts) v j k) (follow_set t v j k)
      ∙ ap (λ x. pairs a v j k || x) (sym (follow_more ts t v j k));
}

pub chosen : (size : ℕ) (xs : List Shape) (i : ℕ) (d : Shape) (a b c : Followers) (e f g : Ends) → i < length xs → AreEndsOf size (choice_of (map tree_of_shape (take i xs))) a b e → AreEndsOf size (tree_of_shape (get_or xs i d)) b c f → length g.first ≡ length e.first → length g.last ≡ length e.last → ((k : ℕ) → has g.first k ≡ has e.first k || has f.first k) → ((k : ℕ) → has g.last k ≡ has e.last k || has f.last k) → AreEndsOf size (choice_of (map tree_of_shape (take (i + 1) xs))) a c g
chosen size xs i d a b c e f g less one two first_room last_room first last =
    subst (λ ts. AreEndsOf size (choice_of ts) a c g) (sym (ap (map tree_of_shape) (take_more xs i d less) ∙ map-append tree_of_shape (take i xs) (get_or xs i d ∷ [])))
    (chosen_with size (map tree_of_shape (take i xs)) (tree_of_shape (get_or xs i d)) a b c e f g one two first_room last_room first last)

-- the parts of what is below a size are below it too
before_below : (size : ℕ) (t : LeafTree ℕ) (ps : List (Bool × LeafTree ℕ)) → AreBelow size (linked_to t ps) → AreBelow size t
before_below size t [] h = h
before_below size t (p ∷ ps) h = (before_below size (sequence p.0 t p.1) ps h).0

later_below : (size : ℕ) (t : LeafTree ℕ) (xs : List ShapePart) (i : ℕ) (d : ShapePart) → i < length xs → AreBelow size (linked_to t (map shape_part xs)) → AreBelow size (shape_part (get_or xs i d)).1
later_below size t [] i d less h = absurd (omega arith)
later_below size t (x ∷ xs) zero d less h = (before_below size (sequence (shape_part x).0 t (shape_part x).1) (map shape_part xs) h).1
later_below size t (x ∷ xs) (suc i) d less h = later_below size (sequence (shape_part x).0 t (shape_part x).1) xs i d (omega arith) h

earlier_below : (size : ℕ) (t : LeafTree ℕ) (xs : List ShapePart) (i : ℕ) → AreBelow size (linked_to t (map shape_part xs)) → AreBelow size (linked_to t (map shape_part (take i xs)))
earlier_below size t [] zero h = h
earlier_below size t [] (suc i) h = h
earlier_below size t (x ∷ xs) zero h = before_below size t (map shape_part (x ∷ xs)) h
earlier_below size t (x ∷ xs) (suc i) h = earlier_below size (sequence (shape_part x).0 t (shape_part x).1) xs i h

pub part_below : (size : ℕ) (xs : List ShapePart) (k : ℕ) (d : ShapePart) → k < length xs → AreBelow size (chain_of (map shape_part xs)) → AreBelow size (shape_part (get_or xs k d)).1
part_below size [] k d less h = absurd (omega arith)
part_below size (x ∷ xs) zero d less h = before_below size (shape_part x).1 (map shape_part xs) h
part_below size (x ∷ xs) (suc k) d less h = later_below size (shape_part x).1 xs k d (omega arith) h

pub parts_below : (size : ℕ) (xs : List ShapePart) (k : ℕ) → AreBelow size (chain_of (map shape_part xs)) → AreBelow size (chain_of (map shape_part (take k xs)))
parts_below size [] zero h = h
parts_below size [] (suc k) h = h
parts_below size (x ∷ xs) zero h = tt
parts_below size (x ∷ xs) (suc k) h = earlier_below size (shape_part x).1 xs k h

pub choice_below : (size : ℕ) (xs : List Shape) (i : ℕ) (d : Shape) → i < length xs → AreBelow size (choice_of (map tree_of_shape xs)) → AreBelow size (tree_of_shape (get_or xs i d))
choice_below size [] i d less h = absurd (omega arith)
choice_below size (x ∷ xs) zero d less h = h.0
choice_below size (x ∷ xs) (suc i) d less h = choice_below size xs i d (omega arith) h.1

-- what the parts of a shape are below, as they are read
pub chain_read : (size : ℕ) (s : Shape) (parts : Vec ShapePart Global) (ps : List ShapePart) → s ≡ Chain parts → ps ≡ parts.items → AreBelow size (tree_of_shape s) → AreBelow size (chain_of (map shape_part ps))
chain_read size s parts ps is same h = subst (AreBelow size) (ap tree_of_shape is ∙ chain_is parts ∙ ap (λ qs. chain_of (map shape_part qs)) (sym same)) h

pub choices_read : (size : ℕ) (s : Shape) (choices : Vec Shape Global) (ss : List Shape) → s ≡ Either choices → ss ≡ choices.items → AreBelow size (tree_of_shape s) → AreBelow size (choice_of (map tree_of_shape ss))
choices_read size s choices ss is same h = subst (AreBelow size) (ap tree_of_shape is ∙ choices_are choices ∙ ap (λ qs. choice_of (map tree_of_shape qs)) (sym same)) h

pub part_read : (size : ℕ) (xs : List ShapePart) (k : ℕ) (p : ShapePart) → p ≡ get_or xs k p → k < length xs → AreBelow size (chain_of (map shape_part xs)) → AreBelow size (tree_of_shape (out-ShapePart p).part)
part_read size xs k p is less h = subst (λ (q : ShapePart). AreBelow size (tree_of_shape (out-ShapePart q).part)) (sym is) (part_below size xs k p less h)

pub choice_read : (size : ℕ) (xs : List Shape) (i : ℕ) (s : Shape) → s ≡ get_or xs i s → i < length xs → AreBelow size (choice_of (map tree_of_shape xs)) → AreBelow size (tree_of_shape s)
choice_read size xs i s is less h = subst (λ q. AreBelow size (tree_of_shape q)) (sym is) (choice_below size xs i s less h)
