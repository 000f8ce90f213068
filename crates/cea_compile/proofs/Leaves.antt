-- What a tree means is what the paths of its numbered tree bind.
use Rattle.std.proofs.Common.{◌≡◌, refl, sym, ap, ap₂, subst, ◌∙◌, ℕ, ◌+◌, ◌<◌, ◌≤◌, inl, inr, ◌↔◌, Bool, true, false, List, [], ◌∷◌, ◌++◌, length, Some, slice_get, arith, append_assoc, append-nil, length-append}
use Rattle.std.proofs.lemmas.List.{map-append}
use Rattle.std.proofs.lemmas.Bool.{false≢true}
use Rattle.query_leaves.specs.LeafTree.{LeafTree, leaf, none, sequence, either, plus}
use Rattle.query_leaves.specs.Expand.{Occurrence}
use Rattle.query_leaves.specs.Leaves.{occurrences, numbered, names_in}
use Rattle.cea_compile.specs.Paths.{Step, MayComeAfter, Path, HasLeaf, IsLinear, at, then, left, right, once as once_through, again as again_through, AtLeaf, tree_meaning, reading, valuation, LeafReads}
use Rattle.cel_terms.specs.Meaning.{Stream, Meaning, Valuation, MayFollow, Sequence, Repeated, once, again, OneOf}

-- the list has the tree's leaves from the base on
abbrev pub HasLeaves : List Occurrence → ℕ → LeafTree Occurrence → Type 0
HasLeaves ls base (leaf l) = slice_get ls base ≡ Some l
HasLeaves ls base none = Unit {0}
HasLeaves ls base (sequence u a b) = HasLeaves ls base a × HasLeaves ls (base + length (occurrences a)) b
HasLeaves ls base (either a b) = HasLeaves ls base a × HasLeaves ls (base + length (occurrences a)) b
HasLeaves ls base (plus u a) = HasLeaves ls base a

slice_get-middle : (xs : List Occurrence) (l : Occurrence) (ys : List Occurrence) → slice_get (xs ++ (l ∷ ys)) (length xs) ≡ Some l
slice_get-middle [] l ys = refl
slice_get-middle (x ∷ xs) l ys = slice_get-middle xs l ys

-- every list with the tree's leaves in the middle has them from there on
abbrev pub ArePlaced : LeafTree Occurrence → Type 0
ArePlaced t = (before after : List Occurrence) → HasLeaves (before ++ (occurrences t ++ after)) (length before) t

both_placed : (a b : LeafTree Occurrence) → ArePlaced a → ArePlaced b → (before after : List Occurrence) → HasLeaves (before ++ ((occurrences a ++ occurrences b) ++ after)) (length before) a × HasLeaves (before ++ ((occurrences a ++ occurrences b) ++ after)) (length before + length (occurrences a)) b
both_placed a b ha hb before after =
    let inner : (occurrences a ++ occurrences b) ++ after ≡ occurrences a ++ (occurrences b ++ after) = append_assoc (occurrences a) (occurrences b) after in
    let outer : (before ++ occurrences a) ++ (occurrences b ++ after) ≡ before ++ (occurrences a ++ (occurrences b ++ after)) = append_assoc before (occurrences a) (occurrences b ++ after) in (
      subst (λ xs. HasLeaves (before ++ xs) (length before) a) (sym inner) (ha before (occurrences b ++ after)),
      subst (λ xs. HasLeaves (before ++ xs) (length before + length (occurrences a)) b) (sym inner) (subst (λ xs. HasLeaves xs (length before + length (occurrences a)) b) outer (subst (λ n. HasLeaves ((before ++ occurrences a) ++ (occurrences b ++ after)) n b) (length-append before (occurrences a)) (hb (before ++ occurrences a) after))),
    )

placed : (t : LeafTree Occurrence) → ArePlaced t
placed (leaf l) before after = slice_get-middle before l after
placed none before after = tt
placed (sequence u a b) before after = both_placed a b (placed a) (placed b) before after
placed (either a b) before after = both_placed a b (placed a) (placed b) before after
placed (plus u a) before after = placed a before after

pub has_its_leaves : (t : LeafTree Occurrence) → HasLeaves (occurrences t) 0 t
has_its_leaves t = subst (λ xs. HasLeaves xs 0 t) (append-nil (occurrences t)) (placed t [] [])

-- a leaf's number is from the base on
leaf_within : (t : LeafTree Occurrence) (base k : ℕ) → HasLeaf (numbered base t) k → (base ≤ k) × (k < base + length (occurrences t))
leaf_within (leaf l) base k h = omega arith
leaf_within none base k h = absurd h
leaf_within (sequence u a b) base k (inl h) = let p = leaf_within a base k h in omega (arith, length-append (occurrences a) (occurrences b))
leaf_within (sequence u a b) base k (inr h) = let p = leaf_within b (base + length (occurrences a)) k h in omega (arith, length-append (occurrences a) (occurrences b))
leaf_within (either a b) base k (inl h) = let p = leaf_within a base k h in omega (arith, length-append (occurrences a) (occurrences b))
leaf_within (either a b) base k (inr h) = let p = leaf_within b (base + length (occurrences a)) k h in omega (arith, length-append (occurrences a) (occurrences b))
leaf_within (plus u a) base k h = leaf_within a base k h

apart : (a b : LeafTree Occurrence) (base k : ℕ) → HasLeaf (numbered base a) k → HasLeaf (numbered (base + length (occurrences a)) b) k → ⊥
apart a b base k h i = let p = leaf_within a base k h in let q = leaf_within b (base + length (occurrences a)) k i in omega arith

pub numbered_linear : (t : LeafTree Occurrence) (base : ℕ) → IsLinear (numbered base t)
numbered_linear (leaf l) base = tt
numbered_linear none base = tt
numbered_linear (sequence u a b) base = (numbered_linear a base, numbered_linear b (base + length (occurrences a)), apart a b base)
numbered_linear (either a b) base = (numbered_linear a base, numbered_linear b (base + length (occurrences a)), apart a b base)
numbered_linear (plus u a) base = numbered_linear a base

is_after : (stream : Stream) (tight : Bool) (m n : ℕ) → MayFollow stream tight m n → MayComeAfter stream.Has tight m n
is_after stream true m n h = record { later = h.0; next = λ e. h.1 }
is_after stream false m n h = record { later = h; next = λ e. absurd (false≢true e) }

may_follow : (stream : Stream) (tight : Bool) (m n : ℕ) → MayComeAfter stream.Has tight m n → MayFollow stream tight m n
may_follow stream true m n h = (h.later, h.next refl)
may_follow stream false m n h = h.later

-- a path through the numbered tree that binds the valuation
pub record Binds (stream : Stream) (ls : List Occurrence) (t : LeafTree ℕ) (s e : ℕ) (v : Valuation) : Type 0 where
  pub path : List Step
  pub through : Path (reading stream ls) t s e path
  pub bound : v ≡ valuation ls path

valuation-append : (ls : List Occurrence) (v w : List Step) → valuation ls (v ++ w) ≡ valuation ls v ++ valuation ls w
valuation-append ls v w = map-append (λ (s : Step). record { position = s.position; names = names_in (slice_get ls s.leaf) }) v w

bind_leaf : (stream : Stream) (ls : List Occurrence) (k : ℕ) (l : Occurrence) (s e : ℕ) (v : Valuation) → slice_get ls k ≡ Some l → AtLeaf stream l s e v → Binds stream ls (leaf k) s e v
bind_leaf stream ls k l s e v i h = record {
  path = record { leaf = k; position = s } ∷ [];
  through = subst (λ n. Path (reading stream ls) (leaf k) s n (record { leaf = k; position = s } ∷ [])) (sym h.ends) (at (l, i, h.reads));
  bound = h.bound ∙ ap (λ o. record { position = s; names = names_in o } ∷ []) (sym i);
}

bind_repeated : (stream : Stream) (ls : List Occurrence) (u : Bool) (a : LeafTree ℕ) (part : Meaning) (s e : ℕ) (v : Valuation) → ((s e : ℕ) (v : Valuation) → part s e v → Binds stream ls a s e v) → Repeated stream u part s e v → Binds stream ls (plus u a) s e v
bind_repeated stream ls u a part s e v f (once h) = let p = f s e v h in record { path = p.path; through = once_through p.through; bound = p.bound }
bind_repeated stream ls u a part s e v f (again {middle = m} {next = n} {v = w} {w = w'} h x r) =
    let p = f s m w h in
    let q = bind_repeated stream ls u a part n e w' f r in
    record { path = p.path ++ q.path; through = again_through p.through (is_after stream u m n x) q.through; bound = ap₂ (λ x y. x ++ y) p.bound q.bound ∙ sym (valuation-append ls p.path q.path) }

pub binds : (stream : Stream) (ls : List Occurrence) (t : LeafTree Occurrence) (base : ℕ) → HasLeaves ls base t → (s e : ℕ) (v : Valuation) → tree_meaning stream t s e v → Binds stream ls (numbered base t) s e v
binds stream ls (leaf l) base i s e v h = bind_leaf stream ls base l s e v i h
binds stream ls none base i s e v h = absurd h
binds stream ls (sequence u a b) base i s e v h =
    let p = binds stream ls a base i.0 s h.middle h.before h.first_is in
    let q = binds stream ls b (base + length (occurrences a)) i.1 h.next e h.after h.second_is in
    record { path = p.path ++ q.path; through = then p.through (is_after stream u h.middle h.next h.follows) q.through; bound = h.united ∙ (ap₂ (λ x y. x ++ y) p.bound q.bound ∙ sym (valuation-append ls p.path q.path)) }
binds stream ls (either a b) base i s e v (inl h) = let p = binds stream ls a base i.0 s e v h in record { path = p.path; through = left p.through; bound = p.bound }
binds stream ls (either a b) base i s e v (inr h) = let p = binds stream ls b (base + length (occurrences a)) i.1 s e v h in record { path = p.path; through = right p.through; bound = p.bound }
binds stream ls (plus u a) base i s e v h = bind_repeated stream ls u (numbered base a) (tree_meaning stream a) s e v (binds stream ls a base i) h

unbind_leaf : (stream : Stream) (ls : List Occurrence) (k : ℕ) (l : Occurrence) (s e : ℕ) (w : List Step) → slice_get ls k ≡ Some l → Path (reading stream ls) (leaf k) s e w → AtLeaf stream l s e (valuation ls w)
unbind_leaf stream ls k l s e w i (at h) = record {
  reads = subst (λ x. LeafReads stream x s) (let q = sym h.1 ∙ i in cc) h.2;
  ends = refl;
  bound = ap (λ o. record { position = s; names = names_in o } ∷ []) i;
}

unbind_repeated : (stream : Stream) (ls : List Occurrence) (u : Bool) (a : LeafTree ℕ) (part : Meaning) (s e : ℕ) (w : List Step) → ((s e : ℕ) (w : List Step) → Path (reading stream ls) a s e w → part s e (valuation ls w)) → Path (reading stream ls) (plus u a) s e w → Repeated stream u part s e (valuation ls w)
unbind_repeated stream ls u a part s e w f (once_through p) = once (f s e w p)
unbind_repeated stream ls u a part s e w f (again_through {middle = m} {next = n} {v = v} {w = w'} p x q) = subst (Repeated stream u part s e) (sym (valuation-append ls v w')) (again (f s m v p) (may_follow stream u m n x) (unbind_repeated stream ls u a part n e w' f q))

-- what the paths of the tree with these leaves bind, the tree means
abbrev pub Unbinds : Stream → List Occurrence → ℕ → LeafTree Occurrence → Type 0
Unbinds stream ls base t = (s e : ℕ) (w : List Step) → Path (reading stream ls) (numbered base t) s e w → tree_meaning stream t s e (valuation ls w)

unbind_sequence : (stream : Stream) (ls : List Occurrence) (u : Bool) (a b : LeafTree ℕ) (p q : Meaning) → ((s e : ℕ) (w : List Step) → Path (reading stream ls) a s e w → p s e (valuation ls w)) → ((s e : ℕ) (w : List Step) → Path (reading stream ls) b s e w → q s e (valuation ls w)) → (s e : ℕ) (w : List Step) → Path (reading stream ls) (sequence u a b) s e w → Sequence stream u p q s e (valuation ls w)
unbind_sequence stream ls u a b p q f g s e w (then {middle = m} {next = n} {v = v} {w = w'} x y z) = record {
  middle = m;
  next = n;
  before = valuation ls v;
  after = valuation ls w';
  first_is = f s m v x;
  follows = may_follow stream u m n y;
  second_is = g n e w' z;
  united = valuation-append ls v w';
}

unbind_either : (stream : Stream) (ls : List Occurrence) (a b : LeafTree ℕ) (p q : Meaning) → ((s e : ℕ) (w : List Step) → Path (reading stream ls) a s e w → p s e (valuation ls w)) → ((s e : ℕ) (w : List Step) → Path (reading stream ls) b s e w → q s e (valuation ls w)) → (s e : ℕ) (w : List Step) → Path (reading stream ls) (either a b) s e w → OneOf p q s e (valuation ls w)
unbind_either stream ls a b p q f g s e w (left x) = inl (f s e w x)
unbind_either stream ls a b p q f g s e w (right x) = inr (g s e w x)

unbind_none : (stream : Stream) (ls : List Occurrence) (s e : ℕ) (w : List Step) → Path (reading stream ls) none s e w → ⊥
unbind_none stream ls s e w p = elim p [ ]

pub unbinds : (stream : Stream) (ls : List Occurrence) (t : LeafTree Occurrence) (base : ℕ) → HasLeaves ls base t → Unbinds stream ls base t
unbinds stream ls (leaf l) base i s e w p = unbind_leaf stream ls base l s e w i p
unbinds stream ls none base i s e w p = unbind_none stream ls s e w p
unbinds stream ls (sequence u a b) base i s e w p = unbind_sequence stream ls u (numbered base a) (numbered (base + length (occurrences a)) b) (tree_meaning stream a) (tree_meaning stream b) (unbinds stream ls a base i.0) (unbinds stream ls b (base + length (occurrences a)) i.1) s e w p
unbinds stream ls (either a b) base i s e w p = unbind_either stream ls (numbered base a) (numbered (base + length (occurrences a)) b) (tree_meaning stream a) (tree_meaning stream b) (unbinds stream ls a base i.0) (unbinds stream ls b (base + length (occurrences a)) i.1) s e w p
unbinds stream ls (plus u a) base i s e w p = unbind_repeated stream ls u (numbered base a) (tree_meaning stream a) s e w (unbinds stream ls a base i) p

-- A tree means what the paths of its numbered tree bind.
pub binds_iff : (stream : Stream) (t : LeafTree Occurrence) (s e : ℕ) (v : Valuation) → tree_meaning stream t s e v ↔ Binds stream (occurrences t) (numbered 0 t) s e v
binds_iff stream t s e v = (binds stream (occurrences t) t 0 (has_its_leaves t) s e v, λ b. subst (tree_meaning stream t s e) (sym b.bound) (unbinds stream (occurrences t) t 0 (has_its_leaves t) s e b.path b.through))
