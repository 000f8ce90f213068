-- A tree has a path with the marked positions exactly where the determinised run accepts.
use Rattle.std.proofs.Common.{◌≡◌, refl, sym, ap, subst, ◌∙◌, ℕ, ◌<◌, ◌≤◌, ◌⊎◌, inl, inr, ◌↔◌, Bool, true, List, [], ◌∷◌, Decides, arith}
use Rattle.std.proofs.lemmas.Bool.{false≢true, cases_order}
use Rattle.query_leaves.specs.LeafTree.{LeafTree}
use Rattle.cea_determinise.specs.Runs.{LeafSet, Automaton, start, pair, agrees, has_leaf, Entry, run, accepted_run}
use Rattle.cea_compile.specs.Paths.{Step, Reading, Path, IsLinear}
use Rattle.cea_compile.specs.Positions.{HasFollower, Steps, Walk, walk, IsAutomatonOf}
use Rattle.cea_compile.specs.Covers.{IsEntry, Cover, CoverAfter, MarkedAt}
use Rattle.cea_compile.proofs.Glushkov.{path_iff_walk, widened}
use Rattle.cea_compile.proofs.Subsets.{IsLive, Leads, sound, complete, live_has_leaf, kept_accepts, accepts_kept, WasRead, Passed, came, goes, fresh_after, waiting_after, read_parts, read_from}
use Rattle.cea_compile.proofs.Skips.{Follow, HasSteps, ReadsWithin, HaveMarks, steps_of_leads, leads_of_steps, steps_beyond, steps_rise, marked_beyond, agrees_same, agrees_from}

-- A path of the tree from the start to the end has exactly the marks, among the positions of the substream.
pub record HasPath (r : Reading) (t : LeafTree ℕ) (marked : LeafSet) (marks : ℕ → Bool) (from end : ℕ) : Type 0 where
  pub path : List Step
  pub through : Path r t from end path
  pub agree : (x : ℕ) → r.Has x → from ≤ x → x ≤ end → Decides (marks x) (MarkedAt marked path x)

-- from a first leaf that reads the first entry
pub record HasStart (a : Automaton) (marks : ℕ → Bool) (x : Entry) (xs : List Entry) : Type 0 where
  pub leaf : ℕ
  pub below : leaf < a.size
  pub first : a.first leaf ≡ true
  pub bit : x.bits leaf ≡ true
  pub mark : agrees (marks x.position) (a.marked leaf) ≡ true
  pub leads : Leads a marks true leaf xs

start_of_run : (a : Automaton) (marks : ℕ → Bool) (x : Entry) (xs : List Entry) → accepted_run a (run a marks start (x ∷ xs)) ≡ true → HasStart a marks x xs
start_of_run a marks x xs h = go live.leaf live.below (came a marks start x xs live.leaf live.leads)
  where
    f : LeafSet
    f = fresh_after a marks start x

    w : LeafSet
    w = waiting_after a marks start x

    live : IsLive a marks f w xs
    live = sound a marks xs f w (kept_accepts a (λ t. run a marks t xs) (pair f w) (has_leaf a (pair f w)) h)

    go : (k : ℕ) → k < a.size → WasRead a marks start x xs k ⊎ Passed a marks start x xs k → HasStart a marks x xs
    go k b (inl h) = let p = read_parts a marks start x k h.0 in record { leaf = k; below = b; first = p.0; bit = p.1; mark = p.2; leads = h.1 }
    go k b (inr h) = absurd (false≢true h.1)

run_of_start : (a : Automaton) (marks : ℕ → Bool) (x : Entry) (xs : List Entry) → HasStart a marks x xs → accepted_run a (run a marks start (x ∷ xs)) ≡ true
run_of_start a marks x xs s = accepts_kept a (λ t. run a marks t xs) (pair f w) (has_leaf a (pair f w)) (live_has_leaf a marks xs f w live) (complete a marks xs f w live)
  where
    f : LeafSet
    f = fresh_after a marks start x

    w : LeafSet
    w = waiting_after a marks start x

    live : IsLive a marks f w xs
    live = record { leaf = s.leaf; below = s.below; leads = goes a marks start x xs s.leaf (read_from a marks start x s.leaf s.first s.bit s.mark) s.leads }

-- the follow pairs of a tree are its automaton's
steps_to : {r : Reading} (t : LeafTree ℕ) (a : Automaton) {j p l e : ℕ} {w : List Step} → IsAutomatonOf t a → Steps r (HasFollower t) j p w l e → Steps r (Follow a) j p w l e
steps_to t a is s = widened (λ u j k h. (is.follow u j k).1 h) s

steps_back : {r : Reading} (t : LeafTree ℕ) (a : Automaton) {j p l e : ℕ} {w : List Step} → IsAutomatonOf t a → Steps r (Follow a) j p w l e → Steps r (HasFollower t) j p w l e
steps_back t a is s = widened (λ u j k h. (is.follow u j k).0 h) s

start_of_walk : (r : Reading) (t : LeafTree ℕ) (a : Automaton) (marks : ℕ → Bool) (from e : ℕ) (x : Entry) (xs : List Entry) (path : List Step) → ReadsWithin r → IsAutomatonOf t a → Cover r a.size from (x ∷ xs) e → Walk r t from e path → ((z : ℕ) → r.Has z → from ≤ z → z ≤ e → Decides (marks z) (MarkedAt a.marked path z)) → HasStart a marks x xs
start_of_walk r t a marks from e x xs path within is c (walk {j = j} {l = l} {w = w} f y s g) agree = record {
  leaf = j;
  below = b.0;
  first = (is.first j).1 f;
  bit = b.1;
  mark = agrees_from (marks x.position) (a.marked j) marked_then (λ m. here.1 (inl (sym c.0, m)));
  leads = leads_of_steps r a marks within e l xs x.position ((is.last l).1 g) c.2 x.position true j w refl s' (steps_beyond s') later;
}
  where
    b : (j < a.size) × (x.bits j ≡ true)
    b = (c.1.bits j).0 (subst (λ n. r.Reads j n) (sym c.0) y)

    s' : Steps r (Follow a) j x.position w l e
    s' = steps_to t a is (subst (λ n. Steps r (HasFollower t) j n w l e) (sym c.0) s)

    here : Decides (marks x.position) (MarkedAt a.marked (record { leaf = j; position = from } ∷ w) x.position)
    here = let eq = c.0 in let le = steps_rise s' in agree x.position c.1.within (omega arith) le

    marked_at : MarkedAt a.marked (record { leaf = j; position = from } ∷ w) x.position → a.marked j ≡ true
    marked_at (inl n) = n.1
    marked_at (inr n) = let gt = marked_beyond a.marked x.position x.position s' (steps_beyond s') n in absurd (omega arith)

    marked_then : marks x.position ≡ true → a.marked j ≡ true
    marked_then h = marked_at (here.0 h)

    tail_of : (z : ℕ) → x.position < z → MarkedAt a.marked (record { leaf = j; position = from } ∷ w) z → MarkedAt a.marked w z
    tail_of z gt (inl n) = let eq = n.0 in let eq' = c.0 in absurd (omega arith)
    tail_of z gt (inr n) = n

    later : HaveMarks r marks a.marked x.position e w
    later z hz lo hi = let eq = c.0 in let d = agree z hz (omega arith) hi in (λ h. tail_of z lo (d.0 h), λ n. d.1 (inr n))

walk_of_start : (r : Reading) (t : LeafTree ℕ) (a : Automaton) (marks : ℕ → Bool) (e : ℕ) (x : Entry) (xs : List Entry) → IsLinear t → IsAutomatonOf t a → IsEntry r a.size x → CoverAfter r a.size x.position xs e → HasStart a marks x xs → HasPath r t a.marked marks x.position e
walk_of_start r t a marks e x xs lin is entry c s = record {
  path = record { leaf = s.leaf; position = x.position } ∷ rest.path;
  through = (path_iff_walk r t lin x.position e (record { leaf = s.leaf; position = x.position } ∷ rest.path)).1 (walk ((is.first s.leaf).0 s.first) ((entry.bits s.leaf).1 (s.below, s.bit)) (steps_back t a is rest.steps) ((is.last rest.to).0 rest.last));
  agree = λ z hz lo hi. go z hz lo hi (cases_order x.position z);
}
  where
    rest : HasSteps r a marks s.leaf x.position x.position e
    rest = steps_of_leads r a marks e x.position x.position true s.leaf xs s.leads refl c

    go : (z : ℕ) → r.Has z → x.position ≤ z → z ≤ e → (x.position ≡ z) ⊎ ((x.position < z) ⊎ (z < x.position)) → Decides (marks z) (MarkedAt a.marked (record { leaf = s.leaf; position = x.position } ∷ rest.path) z)
    go z hz lo hi (inl eq) = (λ h. inl (eq, sym (agrees_same (marks x.position) (a.marked s.leaf) s.mark) ∙ (ap marks eq ∙ h)), back)
      where
        back : MarkedAt a.marked (record { leaf = s.leaf; position = x.position } ∷ rest.path) z → marks z ≡ true
        back (inl n) = sym (ap marks eq) ∙ (agrees_same (marks x.position) (a.marked s.leaf) s.mark ∙ n.1)
        back (inr n) = let lt = marked_beyond a.marked x.position z rest.steps rest.beyond n in absurd (omega arith)
    go z hz lo hi (inr (inl lt)) = (λ h. inr ((rest.agree z hz lt hi).0 h), back)
      where
        back : MarkedAt a.marked (record { leaf = s.leaf; position = x.position } ∷ rest.path) z → marks z ≡ true
        back (inl n) = let eq = n.0 in absurd (omega arith)
        back (inr n) = (rest.agree z hz lt hi).1 n
    go z hz lo hi (inr (inr gt)) = absurd (omega arith)

-- The tree has a path with exactly the marks where the determinised run over the substream's entries ends in an accepting state.
pub path_iff_run : (r : Reading) (t : LeafTree ℕ) (a : Automaton) → IsLinear t → IsAutomatonOf t a → ReadsWithin r → (marks : ℕ → Bool) (from e : ℕ) (xs : List Entry) → Cover r a.size from xs e → HasPath r t a.marked marks from e ↔ (accepted_run a (run a marks start xs) ≡ true)
path_iff_run r t a lin is within marks from e xs c = (to xs c, back xs c)
  where
    to : (xs : List Entry) → Cover r a.size from xs e → HasPath r t a.marked marks from e → accepted_run a (run a marks start xs) ≡ true
    to [] c h = absurd c
    to (x ∷ xs) c h = run_of_start a marks x xs (start_of_walk r t a marks from e x xs h.path within is c ((path_iff_walk r t lin from e h.path).0 h.through) h.agree)

    back : (xs : List Entry) → Cover r a.size from xs e → accepted_run a (run a marks start xs) ≡ true → HasPath r t a.marked marks from e
    back [] c h = absurd c
    back (x ∷ xs) c h = subst (λ n. HasPath r t a.marked marks n e) c.0 (walk_of_start r t a marks e x xs lin is c.1 c.2 (start_of_run a marks x xs h))
