-- A valuation with the marks, or a determinised run that accepts: one exactly where the other. For callers of the crate too.
use Rattle.std.proofs.Common.{◌≡◌, refl, sym, subst, ◌∙◌, ℕ, zero, suc, ◌<◌, ◌≤◌, ◌⊎◌, inl, inr, ◌↔◌, Bool, true, List, [], ◌∷◌, length, Decides, Contains, eqb, slice_get, slice_index_or, arith}
use Rattle.std.specs.List.{list_any}
use Rattle.std.proofs.lemmas.Bool.{eqb-true, eq-eqb, or_cases, or_left, or_right, false≢true}
use Rattle.cel_terms.specs.Answers.{HasMarks, IsBoundAt, is_bound}
use Rattle.query_leaves.specs.LeafTree.{LeafTree}
use Rattle.query_leaves.specs.Expand.{Occurrence}
use Rattle.query_leaves.specs.Leaves.{occurrences, numbered, names_in, leaf_is_marked}
use Rattle.cea_determinise.specs.Runs.{LeafSet, Automaton, start, Entry, run, accepted_run, has_mark}
use Rattle.cea_compile.specs.Paths.{Step, Reading, tree_meaning, reading, valuation}
use Rattle.cea_compile.specs.Positions.{Steps, done, step, Walk, walk, HasFollower, IsAutomatonOf}
use Rattle.cea_compile.specs.Covers.{Cover, MarkedAt, AreWithin}
use Rattle.cel_terms.specs.Meaning.{Stream, Meaning}
use Rattle.cea_compile.proofs.Glushkov.{path_iff_walk}
use Rattle.cea_compile.proofs.Skips.{ReadsWithin, steps_rise}
use Rattle.cea_compile.proofs.Runs.{HasPath, path_iff_run}
use Rattle.cea_compile.proofs.Expand.{Same}
use Rattle.cea_compile.proofs.Leaves.{binds_iff, numbered_linear}

Contains-first : {X : Type 0} (x : X) (xs : List X) → Contains (x ∷ xs) x
Contains-first x xs = (0, omega arith, refl)

Contains-more : {X : Type 0} (y x : X) (xs : List X) → Contains xs x → Contains (y ∷ xs) x
Contains-more y x xs h = (suc h.0, omega (arith, h.1), h.2)

Contains-cases : {X : Type 0} (y x : X) (xs : List X) → Contains (y ∷ xs) x → (y ≡ x) ⊎ Contains xs x
Contains-cases y x xs h = go h.0 h.1 h.2
  where
    go : (k : ℕ) → k < length (y ∷ xs) → slice_index_or (y ∷ xs) k x ≡ x → (y ≡ x) ⊎ Contains xs x
    go zero l e = inl e
    go (suc k) l e = inr (k, omega arith, e)

pub listed_is : (marks : List ℕ) (p : ℕ) → Decides (has_mark marks p) (Contains marks p)
listed_is [] p = (λ h. absurd (false≢true h), λ h. absurd (let l = h.1 in omega arith))
listed_is (m ∷ ms) p = (λ h. to (listed_is ms p) (or_cases (eqb p m) (list_any (eqb p) ms) h), λ h. back (listed_is ms p) (Contains-cases m p ms h))
  where
    to : Decides (has_mark ms p) (Contains ms p) → (eqb p m ≡ true) ⊎ (list_any (eqb p) ms ≡ true) → Contains (m ∷ ms) p
    to rest (inl e) = subst (λ x. Contains (x ∷ ms) p) (eqb-true p m e) (Contains-first p ms)
    to rest (inr h) = Contains-more m p ms (rest.0 h)

    back : Decides (has_mark ms p) (Contains ms p) → (m ≡ p) ⊎ Contains ms p → has_mark (m ∷ ms) p ≡ true
    back rest (inl e) = or_left (eqb p m) (list_any (eqb p) ms) (eq-eqb p m (sym e))
    back rest (inr h) = or_right (eqb p m) (list_any (eqb p) ms) (rest.1 h)

-- a path's marked steps are what its valuation binds
bound_from_marked : (ls : List Occurrence) (w : List Step) (p : ℕ) → MarkedAt (leaf_is_marked ls) w p → IsBoundAt (valuation ls w) p
bound_from_marked ls [] p h = absurd h
bound_from_marked ls (s ∷ w) p (inl h) = (0, record { position = s.position; names = names_in (slice_get ls s.leaf) }, omega arith, refl, h)
bound_from_marked ls (s ∷ w) p (inr h) = let i = bound_from_marked ls w p h in (suc i.0, i.1, omega (arith, i.2), i.3, i.4)

marked_from_bound : (ls : List Occurrence) (w : List Step) (p : ℕ) → IsBoundAt (valuation ls w) p → MarkedAt (leaf_is_marked ls) w p
marked_from_bound ls [] p h = absurd (let l = h.2 in omega arith)
marked_from_bound ls (s ∷ w) p h = go (marked_from_bound ls w p) h.0 h.2 h.3
  where
    go : (IsBoundAt (valuation ls w) p → MarkedAt (leaf_is_marked ls) w p) → (k : ℕ) → k < length (valuation ls (s ∷ w)) → slice_index_or (valuation ls (s ∷ w)) k h.1 ≡ h.1 → MarkedAt (leaf_is_marked ls) (s ∷ w) p
    go rest zero l e = inl (subst (λ b. (b.position ≡ p) × (is_bound b.names ≡ true)) (sym e) h.4)
    go rest (suc k) l e = inr (rest (k, h.1, omega arith, e, h.4))

-- where the steps of a path lie
steps_within : (r : Reading) (F : Bool → ℕ → ℕ → Type 0) (m : LeafSet) (j q l e p : ℕ) (w : List Step) → ReadsWithin r → Steps r F j q w l e → MarkedAt m w p → r.Has p × (q ≤ p) × (p ≤ e)
steps_within r F m j q l e p w within done h = absurd h
steps_within r F m j q l e p w within (step {k = k} {q = q'} f a y s) (inl h) = let eq = h.0 in let le = steps_rise s in let lt = a.later in (subst r.Has h.0 (within k q' y), omega arith, omega arith)
steps_within r F m j q l e p w within (step {k = k} {q = q'} {w = w'} f a y s) (inr h) = let x = steps_within r F m k q' l e p w' within s h in let lt = a.later in (x.0, omega (arith, x.1), x.2)

walk_within : (r : Reading) (t : LeafTree ℕ) (m : LeafSet) (s e p : ℕ) (w : List Step) → ReadsWithin r → Walk r t s e w → MarkedAt m w p → r.Has p × (s ≤ p) × (p ≤ e)
walk_within r t m s e p w within (walk {j = j} f y x l) (inl h) = let eq = h.0 in let le = steps_rise x in (subst r.Has h.0 (within j s y), omega arith, omega arith)
walk_within r t m s e p w within (walk {j = j} {l = l'} {w = w'} f y x l) (inr h) = steps_within r (HasFollower t) m j s l' e p w' within x h

-- It is the automaton of a tree of leaves: over the leaves' numbers, and with their marks.
pub record IsLeafAutomaton (t : LeafTree Occurrence) (a : Automaton) : Type 0 where
  pub pairs : IsAutomatonOf (numbered 0 t) a
  pub marks : (k : ℕ) → a.marked k ≡ leaf_is_marked (occurrences t) k

reads_within : (stream : Stream) (ls : List Occurrence) → ReadsWithin (reading stream ls)
reads_within stream ls k p h = h.2.typed.within

-- paths with marks, under another name for the same set of marked leaves
marked_same : (m n : LeafSet) → ((k : ℕ) → m k ≡ n k) → (w : List Step) (p : ℕ) → MarkedAt m w p → MarkedAt n w p
marked_same m n f [] p h = h
marked_same m n f (s ∷ w) p (inl h) = inl (h.0, sym (f s.leaf) ∙ h.1)
marked_same m n f (s ∷ w) p (inr h) = inr (marked_same m n f w p h)

module _ (stream : Stream) (t : LeafTree Occurrence) (part : Meaning) (means : Same part (tree_meaning stream t)) (a : Automaton) (of_tree : IsLeafAutomaton t a) (from end : ℕ) (marks : List ℕ) where
  path_of_marks : HasMarks part from end marks → HasPath (reading stream (occurrences t)) (numbered 0 t) a.marked (has_mark marks) from end
  path_of_marks h =
      let b = (binds_iff stream t from end h.valuation).0 (means.to from end h.valuation h.means) in
      record {
        path = b.path;
        through = b.through;
        agree = λ x hx lo hi. (
          λ m. marked_same (leaf_is_marked (occurrences t)) a.marked (λ k. sym (of_tree.marks k)) b.path x (marked_from_bound (occurrences t) b.path x (subst (λ v. IsBoundAt v x) b.bound ((h.are_marks.bound x).0 ((listed_is marks x).0 m)))),
          λ m. (listed_is marks x).1 ((h.are_marks.bound x).1 (subst (λ v. IsBoundAt v x) (sym b.bound) (bound_from_marked (occurrences t) b.path x (marked_same a.marked (leaf_is_marked (occurrences t)) of_tree.marks b.path x m)))),
        );
      }

  within_of_marks : HasMarks part from end marks → AreWithin stream from end marks
  within_of_marks h =
      let b = (binds_iff stream t from end h.valuation).0 (means.to from end h.valuation h.means) in
      record {
        ascending = h.are_marks.ascending;
        within = λ p c. walk_within (reading stream (occurrences t)) (numbered 0 t) (leaf_is_marked (occurrences t)) from end p b.path (reads_within stream (occurrences t)) ((path_iff_walk (reading stream (occurrences t)) (numbered 0 t) (numbered_linear t 0) from end b.path).0 b.through) (marked_from_bound (occurrences t) b.path p (subst (λ v. IsBoundAt v p) b.bound ((h.are_marks.bound p).0 c)));
      }

  marks_of_path : AreWithin stream from end marks → HasPath (reading stream (occurrences t)) (numbered 0 t) a.marked (has_mark marks) from end → HasMarks part from end marks
  marks_of_path within p =
      let through = (path_iff_walk (reading stream (occurrences t)) (numbered 0 t) (numbered_linear t 0) from end p.path).0 p.through in
      record {
        valuation = valuation (occurrences t) p.path;
        means = means.back from end (valuation (occurrences t) p.path) ((binds_iff stream t from end (valuation (occurrences t) p.path)).1 (record { path = p.path; through = p.through; bound = refl }));
        are_marks = record {
          ascending = within.ascending;
          bound = λ x. (
            λ c. (let w = within.within x c in bound_from_marked (occurrences t) p.path x (marked_same a.marked (leaf_is_marked (occurrences t)) of_tree.marks p.path x ((p.agree x w.0 w.1 w.2).0 ((listed_is marks x).1 c)))),
            λ b. (
                let m = marked_same (leaf_is_marked (occurrences t)) a.marked (λ k. sym (of_tree.marks k)) p.path x (marked_from_bound (occurrences t) p.path x b) in
                let w = walk_within (reading stream (occurrences t)) (numbered 0 t) a.marked from end x p.path (reads_within stream (occurrences t)) through m in
                (listed_is marks x).0 ((p.agree x w.0 w.1 w.2).1 m)),
          );
        };
      }

  -- Some valuation from the start to the end has exactly these marks where the determinised run that takes them accepts.
  pub marks_iff_run : (xs : List Entry) → Cover (reading stream (occurrences t)) a.size from xs end → HasMarks part from end marks ↔ (AreWithin stream from end marks × (accepted_run a (run a (has_mark marks) start xs) ≡ true))
  marks_iff_run xs cover =
      let iff = path_iff_run (reading stream (occurrences t)) (numbered 0 t) a (numbered_linear t 0) of_tree.pairs (reads_within stream (occurrences t)) (has_mark marks) from end xs cover in
      (λ h. (within_of_marks h, iff.0 (path_of_marks h)), λ h. marks_of_path h.0 (iff.1 h.1))
