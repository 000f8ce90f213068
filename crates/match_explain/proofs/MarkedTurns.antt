-- The steps that finish a search are those of a walk through the automaton, with the marks of the turns.
use Rattle.std.proofs.Common.{◌≡◌, refl, sym, subst, ◌∙◌, ℕ, ◌<◌, ◌⊎◌, inl, inr, Bool, true, false, List, [], ◌∷◌, arith}
use Rattle.std.proofs.lemmas.Bool.{and_parts, or_cases, false≢true}
use Rattle.cer_base.specs.Bits.{has}
use Rattle.query_leaves.specs.LeafTree.{LeafTree}
use Rattle.cea_determinise.specs.Runs.{Automaton, agrees, Entry}
use Rattle.cea_compile.specs.Paths.{Step, Reading, MayComeAfter}
use Rattle.cea_compile.specs.Positions.{Steps, done, step, Walk, walk, IsAutomatonOf}
use Rattle.cea_compile.specs.Covers.{IsEntry, Cover, CoverAfter, MarkedAt}
use Rattle.cea_compile.proofs.Glushkov.{widened}
use Rattle.cea_compile.proofs.Skips.{Follow, agrees_same}
use Rattle.match_explain.specs.declared.turns.Turn.{Turn}
use Rattle.match_explain.specs.declared.moves.Last.{Last}
use Rattle.match_explain.specs.declared.moves.Last.TheVariants.{Start, Leaf as At}
use Rattle.match_explain.specs.declared.moves.Age.TheVariants.{Just, Earlier}
use Rattle.match_explain.specs.Searching.{may_read, passed, has_ended, Goes, finished, reading, passing, IsTurnOf, AreTurnsOf}

-- where what read last has read, as the entries after p come next
abbrev HasReadBefore : Reading → Last → ℕ → ℕ → Type 0
HasReadBefore r Start q p = ⊥
HasReadBefore r (At Just k) q p = q ≡ p
HasReadBefore r (At Earlier k) q p = (q < p) × r.Has p

-- the steps from what read last
abbrev StepsOn : Reading → Automaton → Last → ℕ → List Step → ℕ → ℕ → Type 0
StepsOn r a Start q w l e = ⊥
StepsOn r a (At age k) q w l e = Steps r (Follow a) k q w l e

-- steps from what read last to a last leaf
abbrev Ends : Reading → Automaton → Last → ℕ → List Step → ℕ → Type 0
Ends r a last q w e = (l : ℕ) × StepsOn r a last q w l e × (a.last l ≡ true)

ended : (r : Reading) (a : Automaton) (last : Last) (q p e : ℕ) → has_ended a last ≡ true → HasReadBefore r last q p → p ≡ e → Ends r a last q [] e
ended r a Start q p e h b c = absurd b
ended r a (At Just k) q p e h b c = (k, subst (λ z. Steps r (Follow a) k q [] k z) (b ∙ c) done, h)
ended r a (At Earlier k) q p e h b c = absurd (false≢true h)

near_step : (r : Reading) (a : Automaton) (k j q p x l e : ℕ) (w : List Step) → (a.near k j ≡ true) ⊎ (a.far k j ≡ true) → q ≡ p → MayComeAfter r.Has true p x → r.Reads j x → Steps r (Follow a) j x w l e → Steps r (Follow a) k q (record { leaf = j; position = x } ∷ w) l e
near_step r a k j q p x l e w (inl f) b after y s = step {tight = true} f (subst (λ z. MayComeAfter r.Has true z x) (sym b) after) y s
near_step r a k j q p x l e w (inr f) b after y s = step {tight = false} f (record { later = (let lt = after.later in omega arith); next = λ t. absurd (false≢true t) }) y s

read_next : (r : Reading) (a : Automaton) (last : Last) (j q p x l e : ℕ) (w : List Step) → may_read a last j ≡ true → HasReadBefore r last q p → MayComeAfter r.Has true p x → r.Reads j x → Steps r (Follow a) j x w l e → StepsOn r a last q (record { leaf = j; position = x } ∷ w) l e
read_next r a Start j q p x l e w m b after y s = absurd b
read_next r a (At Just k) j q p x l e w m b after y s = near_step r a k j q p x l e w (or_cases (a.near k j) (a.far k j) m) b after y s
read_next r a (At Earlier k) j q p x l e w m b after y s = step {tight = false} m (record { later = (let less = b.0 in let lt = after.later in omega arith); next = λ t. absurd (false≢true t) }) y s

passed_before : (r : Reading) (last : Last) (q p x : ℕ) → HasReadBefore r last q p → p < x → r.Has x → HasReadBefore r (passed last) q x
passed_before r Start q p x b less has = b
passed_before r (At Just k) q p x b less has = (omega arith, has)
passed_before r (At Earlier k) q p x b less has = (let low = b.0 in omega arith, has)

passed_steps : (r : Reading) (a : Automaton) (last : Last) (q : ℕ) (w : List Step) (e : ℕ) → Ends r a (passed last) q w e → Ends r a last q w e
passed_steps r a Start q w e h = h
passed_steps r a (At age k) q w e h = h

-- a reader of a turn reads its event, and is marked where it is
read_at : (r : Reading) (a : Automaton) (marks : ℕ → Bool) (x : Entry) (t : Turn) (j : ℕ) → IsTurnOf a marks x t → IsEntry r a.size x → j < a.size → has t.readers j ≡ true → r.Reads j x.position × (t.marked ≡ a.marked j)
read_at r a marks x t j is entry b h =
    let p = and_parts (x.bits j) (agrees t.marked (a.marked j)) (sym (is.readers j) ∙ h) in
    ((entry.bits j).1 (b, p.0), agrees_same t.marked (a.marked j) p.1)

abbrev at_position : ℕ → ℕ → List Step → List Step
at_position j p w = record { leaf = j; position = p } ∷ w

steps_of : (r : Reading) (a : Automaton) (marks : ℕ → Bool) (e q p : ℕ) (last : Last) (xs : List Entry) (ts : List Turn) (w : List Step) → AreTurnsOf a marks xs ts → HasReadBefore r last q p → CoverAfter r a.size p xs e → Goes a last ts w → Ends r a last q w e
steps_of r a marks e q p last [] ts w are b c (finished h) = ended r a last q p e h b c
steps_of r a marks e q p last (x ∷ xs) ts w are b c (finished h) = absurd are
steps_of r a marks e q p last [] ts w are b c (reading l m y g) = absurd are
steps_of r a marks e q p last (x ∷ xs) ts w are b c (reading {j = j} {t = t} {ts = ts'} {w = w'} l m y g) =
    let i = steps_of r a marks e x.position x.position (At Just j) xs ts' w' are.1 refl c.2 g in
    let reads = read_at r a marks x t j are.0 c.1 l y in
    (i.0, subst (λ z. StepsOn r a last q (at_position j z w') i.0 e) (sym are.0.position) (read_next r a last j q p x.position i.0 e w' m b c.0 reads.0 i.1), i.2)
steps_of r a marks e q p last [] ts w are b c (passing k m g) = absurd are
steps_of r a marks e q p last (x ∷ xs) ts w are b c (passing {t = t} {ts = ts'} {w = w'} k m g) =
    passed_steps r a last q w e (steps_of r a marks e q x.position (passed last) xs ts' w are.1 (passed_before r last q p x.position b c.0.later c.1.within) c.2 g)

-- The steps that finish a search from its beginning are those of a walk.
pub walk_of : (r : Reading) (t : LeafTree ℕ) (a : Automaton) (marks : ℕ → Bool) (from e : ℕ) (xs : List Entry) (ts : List Turn) (w : List Step) → IsAutomatonOf t a → AreTurnsOf a marks xs ts → Cover r a.size from xs e → Goes a Start ts w → Walk r t from e w
walk_of r tree a marks from e [] ts w is are c g = absurd c
walk_of r tree a marks from e (x ∷ xs) ts w is are c (finished h) = absurd are
walk_of r tree a marks from e (x ∷ xs) ts w is are c (reading {j = j} {t = t} {ts = ts'} {w = w'} l m y g) =
    let i = steps_of r a marks e x.position x.position (At Just j) xs ts' w' are.1 refl c.2 g in
    let reads = read_at r a marks x t j are.0 c.1 l y in
    subst (λ z. Walk r tree from e (at_position j z w')) (sym are.0.position)
    (subst (λ z. Walk r tree z e (at_position j x.position w')) c.0
    (walk ((is.first j).0 m) reads.0 (widened (λ u n k h. (is.follow u n k).0 h) i.1) ((is.last i.0).0 i.2)))
walk_of r tree a marks from e (x ∷ xs) ts w is are c (passing k m g) = absurd (false≢true k)

-- a turn at the position is marked
abbrev pub IsMarkedTurn : List Turn → ℕ → Type 0
IsMarkedTurn [] p = ⊥
IsMarkedTurn (t ∷ ts) p = ((t.position ≡ p) × (t.marked ≡ true)) ⊎ IsMarkedTurn ts p

-- The steps are marked where the turns are.
pub marked_from : (a : Automaton) (marks : ℕ → Bool) (last : Last) (xs : List Entry) (ts : List Turn) (w : List Step) (z : ℕ) → AreTurnsOf a marks xs ts → Goes a last ts w → MarkedAt a.marked w z → IsMarkedTurn ts z
marked_from a marks last xs ts w z are (finished h) m = absurd m
marked_from a marks last [] ts w z are (reading l k y g) m = absurd are
marked_from a marks last (x ∷ xs) ts w z are (reading {j = j} {t = t} {ts = ts'} {w = w'} l k y g) (inl m) =
    let s = and_parts (x.bits j) (agrees t.marked (a.marked j)) (sym (are.0.readers j) ∙ y) in
    inl (m.0, agrees_same t.marked (a.marked j) s.1 ∙ m.1)
marked_from a marks last (x ∷ xs) ts w z are (reading {j = j} {t = t} {ts = ts'} {w = w'} l k y g) (inr m) = inr (marked_from a marks (At Just j) xs ts' w' z are.1 g m)
marked_from a marks last [] ts w z are (passing k u g) m = absurd are
marked_from a marks last (x ∷ xs) ts w z are (passing {t = t} {ts = ts'} {w = w'} k u g) m = inr (marked_from a marks (passed last) xs ts' w' z are.1 g m)

pub marked_to : (a : Automaton) (marks : ℕ → Bool) (last : Last) (xs : List Entry) (ts : List Turn) (w : List Step) (z : ℕ) → AreTurnsOf a marks xs ts → Goes a last ts w → IsMarkedTurn ts z → MarkedAt a.marked w z
marked_to a marks last xs ts w z are (finished h) m = absurd m
marked_to a marks last [] ts w z are (reading l k y g) m = absurd are
marked_to a marks last (x ∷ xs) ts w z are (reading {j = j} {t = t} {ts = ts'} {w = w'} l k y g) (inl m) =
    let s = and_parts (x.bits j) (agrees t.marked (a.marked j)) (sym (are.0.readers j) ∙ y) in
    inl (m.0, sym (agrees_same t.marked (a.marked j) s.1) ∙ m.1)
marked_to a marks last (x ∷ xs) ts w z are (reading {j = j} {t = t} {ts = ts'} {w = w'} l k y g) (inr m) = inr (marked_to a marks (At Just j) xs ts' w' z are.1 g m)
marked_to a marks last [] ts w z are (passing k u g) m = absurd are
marked_to a marks last (x ∷ xs) ts w z are (passing {t = t} {ts = ts'} {w = w'} k u g) (inl m) = absurd (false≢true (sym u ∙ m.1))
marked_to a marks last (x ∷ xs) ts w z are (passing {t = t} {ts = ts'} {w = w'} k u g) (inr m) = marked_to a marks (passed last) xs ts' w' z are.1 g m
