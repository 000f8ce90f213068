-- A tree's paths are the walks of its position automaton.
use Rattle.std.proofs.Common.{refl, sym, subst, ℕ, inl, inr, ◌↔◌, Bool, List, [], ◌∷◌, ◌++◌}
use Rattle.query_leaves.specs.LeafTree.{LeafTree, leaf, none, sequence, either, plus}
use Rattle.cea_compile.specs.Paths.{Step, Reading, MayComeAfter, Path, at, then, left, right, once, again, HasLeaf, AreApart, IsLinear}
use Rattle.cea_compile.specs.Positions.{First, Last, HasFollower, Steps, done, step, Walk, walk}

-- more pairs that follow allow more steps
pub widened : {r : Reading} {F G : Bool → ℕ → ℕ → Type 0} {j p l e : ℕ} {w : List Step} → ((t : Bool) (a b : ℕ) → F t a b → G t a b) → Steps r F j p w l e → Steps r G j p w l e
widened g done = done
widened g (step f a b s) = step (g _ _ _ f) a b (widened g s)

-- steps, then one more, then further steps
joined : {r : Reading} {F : Bool → ℕ → ℕ → Type 0} {j p k q l e m n : ℕ} {tight : Bool} {v w : List Step} → Steps r F j p v l e → F tight l k → MayComeAfter r.Has tight e q → r.Reads k q → Steps r F k q w m n → Steps r F j p (v ++ (record { leaf = k; position = q } ∷ w)) m n
joined done f a b s = step f a b s
joined (step f' a' b' s') f a b s = step f' a' b' (joined s' f a b s)

-- where steps from a set of leaves stay within it
kept : {r : Reading} {F G : Bool → ℕ → ℕ → Type 0} {P : ℕ → Type 0} {j p l e : ℕ} {w : List Step} → ((t : Bool) (a b : ℕ) → P a → F t a b → G t a b × P b) → P j → Steps r F j p w l e → Steps r G j p w l e × P l
kept g h done = (done, h)
kept g h (step f a b s) = let x = g _ _ _ h f in let y = kept g x.1 s in (step x.0 a b y.0, y.1)

pub First-leaf : (t : LeafTree ℕ) (k : ℕ) → First t k → HasLeaf t k
First-leaf (leaf n) k h = h
First-leaf none k h = h
First-leaf (sequence u a b) k h = inl (First-leaf a k h)
First-leaf (either a b) k (inl h) = inl (First-leaf a k h)
First-leaf (either a b) k (inr h) = inr (First-leaf b k h)
First-leaf (plus u a) k h = First-leaf a k h

pub Last-leaf : (t : LeafTree ℕ) (k : ℕ) → Last t k → HasLeaf t k
Last-leaf (leaf n) k h = h
Last-leaf none k h = h
Last-leaf (sequence u a b) k h = inr (Last-leaf b k h)
Last-leaf (either a b) k (inl h) = inl (Last-leaf a k h)
Last-leaf (either a b) k (inr h) = inr (Last-leaf b k h)
Last-leaf (plus u a) k h = Last-leaf a k h

pub HasFollower-occurrences : (t : LeafTree ℕ) (u : Bool) (j k : ℕ) → HasFollower t u j k → HasLeaf t j × HasLeaf t k
HasFollower-occurrences (leaf n) u j k h = absurd h
HasFollower-occurrences none u j k h = absurd h
HasFollower-occurrences (sequence t a b) u j k (inl h) = let x = HasFollower-occurrences a u j k h in (inl x.0, inl x.1)
HasFollower-occurrences (sequence t a b) u j k (inr (inl h)) = let x = HasFollower-occurrences b u j k h in (inr x.0, inr x.1)
HasFollower-occurrences (sequence t a b) u j k (inr (inr h)) = (inl (Last-leaf a j h.1), inr (First-leaf b k h.2))
HasFollower-occurrences (either a b) u j k (inl h) = let x = HasFollower-occurrences a u j k h in (inl x.0, inl x.1)
HasFollower-occurrences (either a b) u j k (inr h) = let x = HasFollower-occurrences b u j k h in (inr x.0, inr x.1)
HasFollower-occurrences (plus t a) u j k (inl h) = HasFollower-occurrences a u j k h
HasFollower-occurrences (plus t a) u j k (inr h) = (Last-leaf a j h.1, First-leaf a k h.2)

-- The walk of a path.
then_walk : {r : Reading} {u : Bool} {a b : LeafTree ℕ} {s m n e : ℕ} {v w : List Step} → Walk r a s m v → MayComeAfter r.Has u m n → Walk r b n e w → Walk r (sequence u a b) s e (v ++ w)
then_walk (walk f x s l) after (walk f' x' s' l') = walk f x (joined (widened (λ t j k h. inl h) s) (inr (inr (refl, l, f'))) after x' (widened (λ t j k h. inr (inl h)) s')) l'

left_walk : {r : Reading} {a b : LeafTree ℕ} {s e : ℕ} {w : List Step} → Walk r a s e w → Walk r (either a b) s e w
left_walk (walk f x s l) = walk (inl f) x (widened (λ t j k h. inl h) s) (inl l)

right_walk : {r : Reading} {a b : LeafTree ℕ} {s e : ℕ} {w : List Step} → Walk r b s e w → Walk r (either a b) s e w
right_walk (walk f x s l) = walk (inr f) x (widened (λ t j k h. inr h) s) (inr l)

once_walk : {r : Reading} {u : Bool} {a : LeafTree ℕ} {s e : ℕ} {w : List Step} → Walk r a s e w → Walk r (plus u a) s e w
once_walk (walk f x s l) = walk f x (widened (λ t j k h. inl h) s) l

again_walk : {r : Reading} {u : Bool} {a : LeafTree ℕ} {s m n e : ℕ} {v w : List Step} → Walk r a s m v → MayComeAfter r.Has u m n → Walk r (plus u a) n e w → Walk r (plus u a) s e (v ++ w)
again_walk (walk f x s l) after (walk f' x' s' l') = walk f x (joined (widened (λ t j k h. inl h) s) (inr (refl, l, f')) after x' s') l'

pub walk_of_path : {r : Reading} {t : LeafTree ℕ} {s e : ℕ} {w : List Step} → Path r t s e w → Walk r t s e w
walk_of_path (at h) = walk refl h done refl
walk_of_path (then p a q) = then_walk (walk_of_path p) a (walk_of_path q)
walk_of_path (left p) = left_walk (walk_of_path p)
walk_of_path (right p) = right_walk (walk_of_path p)
walk_of_path (once p) = once_walk (walk_of_path p)
walk_of_path (again p a q) = again_walk (walk_of_path p) a (walk_of_path q)

-- The path of a walk. A walk of a sequence goes over from the first part to the second once.
data Crossing (r : Reading) (u : Bool) (a b : LeafTree ℕ) : ℕ → ℕ → List Step → ℕ → ℕ → Type 0 where
  crossing : {j p l m k n l' e : ℕ} {v w : List Step} → Steps r (HasFollower a) j p v l m → Last a l → MayComeAfter r.Has u m n → First b k → r.Reads k n → Steps r (HasFollower b) k n w l' e → Crossing r u a b j p (v ++ (record { leaf = k; position = n } ∷ w)) l' e

longer : {r : Reading} {u t : Bool} {a b : LeafTree ℕ} {j p k q l e : ℕ} {w : List Step} → HasFollower a t j k → MayComeAfter r.Has t p q → r.Reads k q → Crossing r u a b k q w l e → Crossing r u a b j p (record { leaf = k; position = q } ∷ w) l e
longer f x y (crossing s l x' f' y' s') = crossing (step f x y s) l x' f' y' s'

within_second : (u : Bool) (a b : LeafTree ℕ) → AreApart a b → (t : Bool) (j k : ℕ) → HasLeaf b j → HasFollower (sequence u a b) t j k → HasFollower b t j k × HasLeaf b k
within_second u a b apart t j k h (inl f) = absurd (apart j (HasFollower-occurrences a t j k f).0 h)
within_second u a b apart t j k h (inr (inl f)) = (f, (HasFollower-occurrences b t j k f).1)
within_second u a b apart t j k h (inr (inr f)) = absurd (apart j (Last-leaf a j f.1) h)

crossed : {r : Reading} {u : Bool} {a b : LeafTree ℕ} {j p l e : ℕ} {w : List Step} → AreApart a b → HasLeaf a j → HasLeaf b l → Steps r (HasFollower (sequence u a b)) j p w l e → Crossing r u a b j p w l e
crossed apart h h' done = absurd (apart _ h h')
crossed {a = a} apart h h' (step {tight = t} {j = j} {k = k} (inl f) x y s) = longer f x y (crossed apart (HasFollower-occurrences a t j k f).1 h' s)
crossed {b = b} apart h h' (step {tight = t} {j = j} {k = k} (inr (inl f)) x y s) = absurd (apart j h (HasFollower-occurrences b t j k f).0)
crossed {r} {u} {a} {b} apart h h' (step {p = p} {k = k} {q = q} (inr (inr f)) x y s) = crossing done f.1 (subst (λ t. MayComeAfter r.Has t p q) f.0 x) f.2 y (kept (within_second u a b apart) (First-leaf b k f.2) s).0

within_left : (a b : LeafTree ℕ) → AreApart a b → (t : Bool) (j k : ℕ) → HasLeaf a j → HasFollower (either a b) t j k → HasFollower a t j k × HasLeaf a k
within_left a b apart t j k h (inl f) = (f, (HasFollower-occurrences a t j k f).1)
within_left a b apart t j k h (inr f) = absurd (apart j h (HasFollower-occurrences b t j k f).0)

within_right : (a b : LeafTree ℕ) → AreApart a b → (t : Bool) (j k : ℕ) → HasLeaf b j → HasFollower (either a b) t j k → HasFollower b t j k × HasLeaf b k
within_right a b apart t j k h (inl f) = absurd (apart j (HasFollower-occurrences a t j k f).0 h)
within_right a b apart t j k h (inr f) = (f, (HasFollower-occurrences b t j k f).1)

-- Steps in a repeated tree stay within one round, or end it and go on with further rounds.
data Rounds (r : Reading) (u : Bool) (a : LeafTree ℕ) : ℕ → ℕ → List Step → ℕ → Type 0 where
  last_round : {j p l e : ℕ} {w : List Step} → Steps r (HasFollower a) j p w l e → Last a l → Rounds r u a j p w e
  next_round : {j p l m n e : ℕ} {v w : List Step} → Steps r (HasFollower a) j p v l m → Last a l → MayComeAfter r.Has u m n → Path r (plus u a) n e w → Rounds r u a j p (v ++ w) e

longer_round : {r : Reading} {u t : Bool} {a : LeafTree ℕ} {j p k q e : ℕ} {w : List Step} → HasFollower a t j k → MayComeAfter r.Has t p q → r.Reads k q → Rounds r u a k q w e → Rounds r u a j p (record { leaf = k; position = q } ∷ w) e
longer_round f x y (last_round s l) = last_round (step f x y s) l
longer_round f x y (next_round s l x' q) = next_round (step f x y s) l x' q

-- a tree whose walks are paths
abbrev pub AllArePaths : Reading → LeafTree ℕ → Type 0
AllArePaths r a = (s e : ℕ) (w : List Step) → Walk r a s e w → Path r a s e w

closed : {r : Reading} {u : Bool} {a : LeafTree ℕ} {k q e : ℕ} {w : List Step} → AllArePaths r a → First a k → r.Reads k q → Rounds r u a k q w e → Path r (plus u a) q e (record { leaf = k; position = q } ∷ w)
closed part f y (last_round s l) = once (part _ _ _ (walk f y s l))
closed part f y (next_round s l x q) = again (part _ _ _ (walk f y s l)) x q

rounds : {r : Reading} {u : Bool} {a : LeafTree ℕ} {j p l e : ℕ} {w : List Step} → AllArePaths r a → Last a l → Steps r (HasFollower (plus u a)) j p w l e → Rounds r u a j p w e
rounds part l done = last_round done l
rounds part l (step (inl f) x y s) = longer_round f x y (rounds part l s)
rounds {r} part l (step {p = p} {q = q} (inr f) x y s) = next_round done f.1 (subst (λ t. MayComeAfter r.Has t p q) f.0 x) (closed part f.2 y (rounds part l s))

sequence_path : (r : Reading) (u : Bool) (a b : LeafTree ℕ) → AreApart a b → AllArePaths r a → AllArePaths r b → AllArePaths r (sequence u a b)
sequence_path r u a b apart pa pb s e w (walk {j = j} {l = l} f x s' l') = go f x (crossed apart (First-leaf a j f) (Last-leaf b l l') s') l'
  where
    go : {j l s e : ℕ} {w : List Step} → First a j → r.Reads j s → Crossing r u a b j s w l e → Last b l → Path r (sequence u a b) s e (record { leaf = j; position = s } ∷ w)
    go f x (crossing s l y f' x' s') l' = then (pa _ _ _ (walk f x s l)) y (pb _ _ _ (walk f' x' s' l'))

-- a last leaf of a choice is a last leaf of the part that has it
last_left : (a b : LeafTree ℕ) → AreApart a b → (k : ℕ) → HasLeaf a k → Last (either a b) k → Last a k
last_left a b apart k h (inl l) = l
last_left a b apart k h (inr l) = absurd (apart k h (Last-leaf b k l))

last_right : (a b : LeafTree ℕ) → AreApart a b → (k : ℕ) → HasLeaf b k → Last (either a b) k → Last b k
last_right a b apart k h (inl l) = absurd (apart k (Last-leaf a k l) h)
last_right a b apart k h (inr l) = l

either_path : (r : Reading) (a b : LeafTree ℕ) → AreApart a b → AllArePaths r a → AllArePaths r b → AllArePaths r (either a b)
either_path r a b apart pa pb s e w (walk {j = j} {l = l} (inl f) x s' l') = let y = kept (within_left a b apart) (First-leaf a j f) s' in left (pa _ _ _ (walk f x y.0 (last_left a b apart l y.1 l')))
either_path r a b apart pa pb s e w (walk {j = j} {l = l} (inr f) x s' l') = let y = kept (within_right a b apart) (First-leaf b j f) s' in right (pb _ _ _ (walk f x y.0 (last_right a b apart l y.1 l')))

plus_path : (r : Reading) (u : Bool) (a : LeafTree ℕ) → AllArePaths r a → AllArePaths r (plus u a)
plus_path r u a pa s e w (walk f x s' l) = closed pa f x (rounds pa l s')

leaf_path : (r : Reading) (n : ℕ) → AllArePaths r (leaf n)
leaf_path r n s e w (walk f x done l) = subst (λ k. Path r (leaf n) s s (record { leaf = k; position = s } ∷ [])) (sym f) (at (subst (λ k. r.Reads k s) f x))
leaf_path r n s e w (walk f x (step h y z s') l) = absurd h

none_path : (r : Reading) → AllArePaths r none
none_path r s e w (walk f x s' l) = absurd f

path_of_walk : (r : Reading) (t : LeafTree ℕ) → IsLinear t → AllArePaths r t
path_of_walk r (leaf n) lin = leaf_path r n
path_of_walk r none lin = none_path r
path_of_walk r (sequence u a b) lin = sequence_path r u a b lin.2 (path_of_walk r a lin.0) (path_of_walk r b lin.1)
path_of_walk r (either a b) lin = either_path r a b lin.2 (path_of_walk r a lin.0) (path_of_walk r b lin.1)
path_of_walk r (plus u a) lin = plus_path r u a (path_of_walk r a lin)

pub path_iff_walk : (r : Reading) (t : LeafTree ℕ) → IsLinear t → (s e : ℕ) (w : List Step) → Path r t s e w ↔ Walk r t s e w
path_iff_walk r t lin s e w = (walk_of_path, path_of_walk r t lin s e w)
