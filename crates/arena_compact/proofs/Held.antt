-- A cursor needs no more nodes than before.
use Rattle.std.proofs.Common.{◌≡◌, ℕ, zero, suc, ◌+◌, ◌<◌, ◌≤◌, ℤ, true, false, List, [], ◌∷◌, length, map, get_or, Option, Some, None, refl, sym, ap, subst, ◌∙◌, inl, inr, arith, All}
use Rattle.std.specs.Prelude.{slice_get, Contains, int_le, pos}
use Rattle.std.proofs.lemmas.Bool.{cases_lt}
use Rattle.std.proofs.lemmas.List.Elements.{All-nil, All-cons, All-head, All-tail, All-weaker, All-contains}
use Rattle.std.proofs.lemmas.Option.{slice_get-get_or}
use Rattle.std.proofs.lemmas.List.{get_or_default}
use Rattle.cer_base.specs.declared.node.Stamp.{Stamp}
use Rattle.cer_base.specs.declared.node.Node.{Node}
use Rattle.cer_base.specs.declared.node.Node.TheVariants.{Bottom, Output, Union}
use Rattle.cer_base.specs.Repeats.{HasNoRepeats}
use Rattle.cer_base.specs.Nodes.{WellFormed}
use Rattle.tecs_enumerate.specs.declared.descent.Pending.{Pending}
use Rattle.tecs_enumerate.specs.Remaining.{CursorState, id_of}
use Rattle.arena_compact.specs.Marks.{Needs, IsKept, low_of, AreNodeMarks}
use Rattle.arena_compact.specs.Moves.{MovesTo, Follows, AtBottom, AtOutput, AtUnion, AtLeft, Moved}
use Rattle.arena_compact.specs.Roots.{AreMoved}
use Rattle.arena_compact.specs.Compacted.{AreNeeded, NeedsNoMore}

-- What stands at a node's place, where it is a node of the same kind.
data Stands (table : List (Option ℕ)) (new : List Node) (f : ℕ) : Node → Type 0 where
  SameBottom : (s : Stamp) → slice_get new f ≡ Some (Bottom s) → Stands table new f (Bottom s)
  SameOutput : (p c k g j : ℕ) (m : Stamp) → MovesTo table c g → slice_get new f ≡ Some (Output p g m j) → Stands table new f (Output p c m k)
  SameUnion : (l r k a b j : ℕ) (m q : Stamp) → MovesTo table l a → MovesTo table r b → slice_get new f ≡ Some (Union a b j m q) → Stands table new f (Union l r k m q)

-- A node that was needed and has this place.
record WasNeeded (low : ℤ) (old : List Node) (table : List (Option ℕ)) (xs : List ℕ) (f : ℕ) : Type 0 where
  id : ℕ
  gives : MovesTo table id f
  needs : Needs low old xs id

-- Of the nodes that were needed and have this place the one of the same kind.
record WasSame (low : ℤ) (old new : List Node) (table : List (Option ℕ)) (xs : List ℕ) (f : ℕ) : Type 0 where
  id : ℕ
  node : Node
  at : slice_get old id ≡ Some node
  needs : Needs low old xs id
  stands : Stands table new f node

gives_one : (table : List (Option ℕ)) (id f g : ℕ) → MovesTo table id f → MovesTo table id g → f ≡ g
gives_one table id f g a b = let e : Some f ≡ Some g = sym a.gives ∙ b.gives in cc

module _ (low : ℤ) (lows : List ℤ) (old new : List Node) (marks table : List (Option ℕ)) (roots : List (ℕ × ℤ)) (w : WellFormed old) (marked : AreNodeMarks old roots 0 marks lows) (h : Moved lows old marks (length old) new table) (xs : List ℕ) where
  -- a node that has a place is one of the old ones
  inside : (id f : ℕ) → MovesTo table id f → id < length old
  inside id f gives = elim (cases_lt id (length old)) [
    | inl less ↦ less
    | inr more ↦ marked.inside id (record { place = f; here = sym (h.ahead id more) ∙ gives.gives })
  ]

  -- below a union whose right child is gone, its left child has its place
  same_kind : (fuel id f : ℕ) → id < fuel → MovesTo table id f → Needs low old xs id → WasSame low old new table xs f
  same_kind zero id f lt gives needs = absurd (omega arith)
  same_kind (suc fuel) id f lt gives needs =
      let within = inside id f gives in
      let n : Node = get_or old id (Bottom (record { pos = 0; clock = pos 0 })) in
      let at : slice_get old id ≡ Some n = slice_get-get_or old id (Bottom (record { pos = 0; clock = pos 0 })) within in
      go n at (h.follows id f n within at gives) (λ l less g needs_l. same_kind fuel l f (omega arith) g needs_l) where
        go : (n : Node) → slice_get old id ≡ Some n → Follows (low_of lows id) table new f n → ((l : ℕ) → l < id → MovesTo table l f → Needs low old xs l → WasSame low old new table xs f) → WasSame low old new table xs f
        go _ at (AtBottom s there) rec = record { id = id; node = Bottom s; at = at; needs = needs; stands = SameBottom s there }
        go _ at (AtOutput p c k g j m t there) rec = record { id = id; node = Output p c m k; at = at; needs = needs; stands = SameOutput p c k g j m t there }
        go _ at (AtUnion l r k a b j m q test s t there) rec = record { id = id; node = Union l r k m q; at = at; needs = needs; stands = SameUnion l r k a b j m q s t there }
        go _ at (AtLeft l r k m q test t) rec = rec l (w.true_fields id (Union l r k m q) at).0 t (Needs.Left id l r k m q at needs)

  was_child : (f p c k : ℕ) (m : Stamp) → slice_get new f ≡ Some (Output p c m k) → WasSame low old new table xs f → WasNeeded low old table xs c
  was_child f p c k m there s = go s.node s.at s.stands where
    go : (n : Node) → slice_get old s.id ≡ Some n → Stands table new f n → WasNeeded low old table xs c
    go _ at (SameBottom t is) = absurd (let e : Some (Output p c m k) ≡ Some (Bottom t) = sym there ∙ is in cc)
    go _ at (SameOutput p' c' k' g j m' t is) =
        let e : Some (Output p c m k) ≡ Some (Output p' g m' j) = sym there ∙ is in let same : g ≡ c = cc in
        record { id = c'; gives = subst (MovesTo table c') same t; needs = Needs.Child s.id p' c' k' m' at s.needs }
    go _ at (SameUnion l r k' a b j m' q t u is) = absurd (let e : Some (Output p c m k) ≡ Some (Union a b j m' q) = sym there ∙ is in cc)

  was_left : (f l r k : ℕ) (m q : Stamp) → slice_get new f ≡ Some (Union l r k m q) → WasSame low old new table xs f → WasNeeded low old table xs l
  was_left f l r k m q there s = go s.node s.at s.stands where
    go : (n : Node) → slice_get old s.id ≡ Some n → Stands table new f n → WasNeeded low old table xs l
    go _ at (SameBottom t is) = absurd (let e : Some (Union l r k m q) ≡ Some (Bottom t) = sym there ∙ is in cc)
    go _ at (SameOutput p' c' k' g j m' t is) = absurd (let e : Some (Union l r k m q) ≡ Some (Output p' g m' j) = sym there ∙ is in cc)
    go _ at (SameUnion l' r' k' a b j m' q' t u is) =
        let e : Some (Union l r k m q) ≡ Some (Union a b j m' q') = sym there ∙ is in let same : a ≡ l = cc in
        record { id = l'; gives = subst (MovesTo table l') same t; needs = Needs.Left s.id l' r' k' m' q' at s.needs }

  was_right : (f l r k : ℕ) (m q : Stamp) → slice_get new f ≡ Some (Union l r k m q) → int_le low q.clock ≡ true → WasSame low old new table xs f → WasNeeded low old table xs r
  was_right f l r k m q there test s = go s.node s.at s.stands where
    go : (n : Node) → slice_get old s.id ≡ Some n → Stands table new f n → WasNeeded low old table xs r
    go _ at (SameBottom t is) = absurd (let e : Some (Union l r k m q) ≡ Some (Bottom t) = sym there ∙ is in cc)
    go _ at (SameOutput p' c' k' g j m' t is) = absurd (let e : Some (Union l r k m q) ≡ Some (Output p' g m' j) = sym there ∙ is in cc)
    go _ at (SameUnion l' r' k' a b j m' q' t u is) =
        let e : Some (Union l r k m q) ≡ Some (Union a b j m' q') = sym there ∙ is in let same : b ≡ r = cc in let stamp : q ≡ q' = cc in
        record { id = r'; gives = subst (MovesTo table r') same u; needs = Needs.Right s.id l' r' k' m' q' at (subst (λ (x : Stamp). int_le low x.clock ≡ true) stamp test) s.needs }

  -- what is needed now was needed before
  was_needed : (ys : List ℕ) → ((y : ℕ) → Contains ys y → (x : ℕ) × Contains xs x × MovesTo table x y) → (f : ℕ) → Needs low new ys f → WasNeeded low old table xs f
  was_needed ys from _ (Needs.Root f has) = let x = from f has in record { id = x.0; gives = x.2; needs = Needs.Root x.0 x.1 }
  was_needed ys from _ (Needs.Child f p c k m there r) =
      let was = was_needed ys from f r in
      was_child f p c k m there (same_kind (suc was.id) was.id f (omega arith) was.gives was.needs)
  was_needed ys from _ (Needs.Left f l r k m q there x) =
      let was = was_needed ys from f x in
      was_left f l r k m q there (same_kind (suc was.id) was.id f (omega arith) was.gives was.needs)
  was_needed ys from _ (Needs.Right f l r k m q there test x) =
      let was = was_needed ys from f x in
      was_right f l r k m q there test (same_kind (suc was.id) was.id f (omega arith) was.gives was.needs)

  -- As many different nodes that were needed, each at the place of one of these.
  record Before (ids : List ℕ) : Type 0 where
    olds : List ℕ
    distinct : HasNoRepeats olds
    needs : All (Needs low old xs) olds
    each : (id : ℕ) → Contains olds id → (f : ℕ) × Contains ids f × MovesTo table id f
    count : length olds ≡ length ids

  before : (ys : List ℕ) → ((y : ℕ) → Contains ys y → (x : ℕ) × Contains xs x × MovesTo table x y) → (ids : List ℕ) → HasNoRepeats ids → All (Needs low new ys) ids → Before ids
  before ys from [] d n = record { olds = []; distinct = tt; needs = All-nil (Needs low old xs); each = λ id has. absurd (let lt = has.1 in omega arith); count = refl }
  before ys from (f ∷ ids) d n =
      let rest = before ys from ids d.1 (All-tail (Needs low new ys) f ids n) in
      let was = was_needed ys from f (All-head (Needs low new ys) f ids n) in
      let count = rest.count in
      record {
        olds = was.id ∷ rest.olds;
        distinct = (λ has. (let e = rest.each was.id has in d.0 (subst (Contains ids) (gives_one table was.id e.0 f e.2 was.gives) e.1)), rest.distinct);
        needs = All-cons (Needs low old xs) was.id rest.olds was.needs rest.needs;
        each = λ id has. (All-contains (λ i. (g : ℕ) × Contains (f ∷ ids) g × MovesTo table i g) (was.id ∷ rest.olds) id
            (All-cons (λ i. (g : ℕ) × Contains (f ∷ ids) g × MovesTo table i g) was.id rest.olds (f, (0, omega arith, refl), was.gives)
            (λ k d' lt. let e = rest.each (get_or rest.olds k d') (k, lt, get_or_default rest.olds k (get_or rest.olds k d') d' lt) in (e.0, (suc e.1.0, (let inside' = e.1.1 in omega arith), e.1.2), e.2)))
            has);
        count = omega arith;
      }

-- each node of a stack that is moved is the place of one that was on it
stack_from : (table : List (Option ℕ)) (es fs : List Pending) → AreMoved table es fs → All (λ y. (x : ℕ) × Contains (map id_of es) x × MovesTo table x y) (map id_of fs)
stack_from table [] [] m = All-nil (λ y. (x : ℕ) × Contains [] x × MovesTo table x y)
stack_from table [] (f ∷ fs) m = absurd m
stack_from table (e ∷ es) [] m = absurd m
stack_from table (e ∷ es) (f ∷ fs) m =
    All-cons (λ y. (x : ℕ) × Contains (map id_of (e ∷ es)) x × MovesTo table x y) f.id (map id_of fs) (e.id, (0, omega arith, refl), m.1)
    (All-weaker (λ y. (x : ℕ) × Contains (map id_of es) x × MovesTo table x y) (λ y. (x : ℕ) × Contains (map id_of (e ∷ es)) x × MovesTo table x y) (λ y one. (one.0, (suc one.1.0, (let lt = one.1.1 in omega arith), one.1.2), one.2)) (map id_of fs) (stack_from table es fs m.2))

-- so a cursor that is moved needs no more nodes
pub needs_no_more : (lows : List ℤ) (old new : List Node) (marks table : List (Option ℕ)) (roots : List (ℕ × ℤ)) (w v : CursorState) → WellFormed old → AreNodeMarks old roots 0 marks lows → Moved lows old marks (length old) new table → AreMoved table w.stack v.stack → v.low ≡ w.low → NeedsNoMore old new w v
needs_no_more lows old new marks table roots w v well marked h moved low ids are =
    let b = before w.low lows old new marks table roots well marked h (map id_of w.stack) (map id_of v.stack)
    (λ y has. All-contains (λ z. (x : ℕ) × Contains (map id_of w.stack) x × MovesTo table x z) (map id_of v.stack) y (stack_from table w.stack v.stack moved) has)
    ids are.distinct (subst (λ (l : ℤ). All (Needs l new (map id_of v.stack)) ids) low are.needs) in
    (b.olds, record { distinct = b.distinct; needs = b.needs }, b.count)
