-- What the entries of a cursor's stack tell, and what a change of one leaves.
use Rattle.std.proofs.Common.{◌≡◌, ℕ, suc, ◌-◌, ◌<◌, ℤ, List, [], ◌∷◌, ◌++◌, map, length, reverse, get_or, set, take, refl, sym, ap, ◌∙◌, Bool, true, eq-eqb, inl, inr, Some, arith}
use Rattle.std.specs.Prelude.{slice_get, nat_le, ◌==◌, ◌≤ℤ◌, ◌↔◌, IsTrue}
use Rattle.std.proofs.lemmas.List.{length-reverse, reverse-append, get_or-reverse, map-set, set-append_left}
use Rattle.std.proofs.lemmas.List.Elements.{filter-append}
use Rattle.std.proofs.lemmas.Bool.{cases_lt, cases_Bool, eqb-true}
use Rattle.std.proofs.lemmas.Option.{slice_get-map, slice_get-get_or}
use Rattle.std.proofs.Math.Seq.{set-append_seam, map-set_same}
use Rattle.cer_base.specs.declared.node.Node.{Node}
use Rattle.cer_base.specs.Members.{SetTree, Start, Extended, United, with_position, members, newest, recent}
use Rattle.cer_base.specs.Nodes.{tree}
use Rattle.cer_base.proofs.Walks.{test_passes, recent-with_position}
use Rattle.tecs_enumerate.specs.declared.descent.Pending.{Pending}
use Rattle.tecs_enumerate.specs.Remaining.{with_positions, answers, rest_of, Room, AllHaveRoom, AreNested, id_of, prefix_of}

-- a list is turned round with a change at its place from the end
pub reverse-set : {A : Type 0} (xs : List A) (k : ℕ) (v : A) → k < length xs → reverse (set xs (length xs - 1 - k) v) ≡ set (reverse xs) k v
reverse-set [] k v h = absurd (omega arith)
reverse-set (x ∷ xs) k v h = elim (cases_lt k (length xs)) [
  | inl inner ↦
      let at : length (x ∷ xs) - 1 - k ≡ suc (length xs - 1 - k) = omega arith in
      rw (at, reverse-append (x ∷ []) (set xs (length xs - 1 - k) v), reverse-append (x ∷ []) xs, reverse-set xs k v inner) (sym (set-append_left (reverse xs) (x ∷ []) k v (rw length-reverse inner)))
  | inr last ↦
      let at : length (x ∷ xs) - 1 - k ≡ 0 = omega arith in
      let same : k ≡ length (reverse xs) = let l = length-reverse xs in omega arith in
      rw (at, reverse-append (v ∷ []) xs, reverse-append (x ∷ []) xs, same) (sym (set-append_seam (reverse xs) x [] v))
]

-- entry k from the top
pub entry_at : (stack : List Pending) (k : ℕ) (d : Pending) → k < length stack → slice_get (map id_of (reverse stack)) k ≡ Some (get_or stack (length stack - 1 - k) d).id
entry_at stack k d h =
    let inside : k < length (reverse stack) = rw length-reverse h in
    rw (slice_get-map id_of (reverse stack) k, slice_get-get_or (reverse stack) k d inside, get_or-reverse stack k d h) refl

-- parts of the path are nested by their lengths alone
pub AreNested-same : (front : ℕ) (xs ys : List Pending) → map prefix_of ys ≡ map prefix_of xs → AreNested front xs → AreNested front ys
AreNested-same front [] [] e nested = tt
AreNested-same front [] (y ∷ ys) e nested = absurd (cc)
AreNested-same front (x ∷ xs) [] e nested = absurd (cc)
AreNested-same front (x ∷ xs) (y ∷ ys) e nested =
    let first : y.prefix ≡ x.prefix = cc in
    let others : map prefix_of ys ≡ map prefix_of xs = cc in
    (omega arith, rw first (AreNested-same x.prefix xs ys others nested.1))

-- another node at entry k from the top
pub set_ids : (stack : List Pending) (place k : ℕ) (v : Pending) → place ≡ length stack - 1 - k → k < length stack → map id_of (reverse (set stack place v)) ≡ set (map id_of (reverse stack)) k v.id
set_ids stack place k v at h = ap (λ i. map id_of (reverse (set stack i v))) at ∙ ap (map id_of) (reverse-set stack k v h) ∙ map-set id_of (reverse stack) k v

pub set_prefixes : (stack : List Pending) (place k : ℕ) (v d : Pending) → place ≡ length stack - 1 - k → k < length stack → v.prefix ≡ (get_or stack place d).prefix → map prefix_of (reverse (set stack place v)) ≡ map prefix_of (reverse stack)
set_prefixes stack place k v d at h same =
    ap (λ i. map prefix_of (reverse (set stack i v))) at ∙ ap (map prefix_of) (reverse-set stack k v h)
    ∙ map-set_same prefix_of (reverse stack) k v d (same ∙ ap (λ i. (get_or stack i d).prefix) at ∙ sym (ap prefix_of (get_or-reverse stack k d h)))

none_left : {A : Type 0} (xs ys : List A) → xs ++ ys ≡ [] → xs ≡ []
none_left [] ys e = refl
none_left (x ∷ xs) ys e = absurd (cc)

none_right : {A : Type 0} (xs ys : List A) → xs ++ ys ≡ [] → ys ≡ []
none_right [] ys e = e
none_right (x ∷ xs) ys e = absurd (cc)

none_mapped : {A B : Type 0} (f : A → B) (xs : List A) → map f xs ≡ [] → xs ≡ []
none_mapped f [] e = refl
none_mapped f (x ∷ xs) e = absurd (cc)

-- a tree whose greatest start is recent has a recent member
some_recent : (low : ℤ) (t : SetTree) → low ≤ℤ (newest t).clock → recent low (members t) ≡ [] → ⊥
some_recent low (Start s) h none =
    let one : recent low (members (Start s)) ≡ record { start = s; positions = [] } ∷ [] = rw (test_passes low s.clock h) refl in cc
some_recent low (Extended p t) h none = some_recent low t h (none_mapped (with_position p) (recent low (members t)) (sym (recent-with_position low p (members t)) ∙ none))
some_recent low (United l r) h none =
    let both : recent low (members l) ++ recent low (members r) ≡ [] = sym (filter-append _ (members l) (members r)) ∙ none in
    elim (cases_Bool (nat_le (newest r).pos (newest l).pos)) [
      | inl pass ↦ some_recent low l (rw pass at h) (none_left (recent low (members l)) (recent low (members r)) both)
      | inr fail ↦ some_recent low r (rw fail at h) (none_right (recent low (members l)) (recent low (members r)) both)
    ]

-- a stack with room gives nothing exactly where it is empty
pub rest_none : (low : ℤ) (nodes : List Node) (room : Room) (path : List ℕ) (stack : List Pending) → AllHaveRoom low nodes room stack → rest_of low nodes path stack ≡ [] → stack ≡ []
rest_none low nodes room path [] fits none = refl
rest_none low nodes room path (e ∷ below) fits none =
    absurd (some_recent low (tree nodes e.id) fits.0.recent (none_mapped (with_positions (take e.prefix path)) (recent low (members (tree nodes e.id))) (none_left (answers low (take e.prefix path) (tree nodes e.id)) (rest_of low nodes path below) none)))

no_entry : (stack : List Pending) → length stack ≡ 0 → reverse stack ≡ []
no_entry [] e = refl
no_entry (x ∷ xs) e = absurd (omega arith)

some_length : (stack : List Pending) → reverse stack ≡ [] → length stack ≡ 0
some_length stack e = let l = length-reverse stack in let n : length (reverse stack) ≡ 0 = ap length e in omega arith

-- a test that the stack has no entry tells whether an answer is left
pub done_iff : (low : ℤ) (nodes : List Node) (room : Room) (path : List ℕ) (stack : List Pending) (b : Bool) (n : ℕ) → n ≡ length stack → b ≡ (n == 0) → AllHaveRoom low nodes room (reverse stack) → IsTrue b ↔ (rest_of low nodes path (reverse stack) ≡ [])
done_iff low nodes room path stack b n same test fits = (
  λ done. ap (rest_of low nodes path) (no_entry stack (let t : (n == 0) ≡ true = sym test ∙ done in let z = eqb-true n 0 t in omega arith)),
  λ none. let z = some_length stack (rest_none low nodes room path (reverse stack) fits none) in test ∙ eq-eqb n 0 (omega arith),
)
