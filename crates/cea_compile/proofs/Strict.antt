-- A run that watches the phase accepts where the plain run does and the marks are contiguous.
use Rattle.std.proofs.Common.{◌≡◌, refl, sym, ap, ◌∙◌, ℕ, suc, ◌<◌, ◌≤◌, ◌⊎◌, inl, inr, ◌↔◌, Bool, true, false, List, [], ◌∷◌, Option, Some, None, option_and_then, option_map, arith}
use Rattle.std.proofs.lemmas.Bool.{false≢true, cases_order}
use Rattle.cel_terms.specs.Answers.{AreContiguous, WhereStrict, HasMarks}
use Rattle.query_leaves.specs.LeafTree.{LeafTree}
use Rattle.query_leaves.specs.Expand.{Occurrence}
use Rattle.query_leaves.specs.Leaves.{occurrences}
use Rattle.cea_determinise.specs.Runs.{Automaton, RunState, start, next, Entry, run, accepted_run, has_mark}
use Rattle.cea_determinise.specs.declared.cea.Phase.{Phase}
use Rattle.cea_determinise.specs.declared.cea.Phase.TheVariants.{Before, Within, After}
use Rattle.cea_determinise.specs.Strict.{phase_after, begin, run_standing, accepted_standing}
use Rattle.cea_compile.specs.Paths.{Reading, MayComeAfter, tree_meaning, reading}
use Rattle.cea_compile.specs.Covers.{IsEntry, Cover, CoverAfter, AreWithin}
use Rattle.cel_terms.specs.Meaning.{Stream, Meaning}
use Rattle.cea_compile.proofs.Expand.{Same}
use Rattle.cea_compile.proofs.Answers.{IsLeafAutomaton, listed_is, marks_iff_run}

-- whether the phase goes on over the entries
abbrev pub alive_after : (Phase → Bool) → Option Phase → Bool
alive_after f None = false
alive_after f (Some p) = f p

abbrev pub alive : Bool → (ℕ → Bool) → List Entry → Phase → Bool
alive strict marks [] p = true
alive strict marks (x ∷ xs) p = alive_after (alive strict marks xs) (phase_after strict p (marks x.position))

-- both components go on, or neither answer counts
product_step : (a : Automaton) (strict : Bool) (marks : ℕ → Bool) (xs : List Entry) → ((s : RunState) (p : Phase) → (accepted_standing a (run_standing a strict marks (record { sets = s; phase = p }) xs) ≡ true) ↔ ((accepted_run a (run a marks s xs) ≡ true) × (alive strict marks xs p ≡ true))) → (o : Option RunState) (q : Option Phase) → (accepted_standing a (option_and_then (λ t. run_standing a strict marks t xs) (option_and_then (λ p. option_map (λ t. record { sets = t; phase = p }) o) q)) ≡ true) ↔ ((accepted_run a (option_and_then (λ t. run a marks t xs) o) ≡ true) × (alive_after (alive strict marks xs) q ≡ true))
product_step a strict marks xs f o None = (λ h. absurd (false≢true h), λ h. absurd (false≢true h.1))
product_step a strict marks xs f None (Some p) = (λ h. absurd (false≢true h), λ h. absurd (false≢true h.0))
product_step a strict marks xs f (Some s) (Some p) = f s p

product : (a : Automaton) (strict : Bool) (marks : ℕ → Bool) (xs : List Entry) (s : RunState) (p : Phase) → (accepted_standing a (run_standing a strict marks (record { sets = s; phase = p }) xs) ≡ true) ↔ ((accepted_run a (run a marks s xs) ≡ true) × (alive strict marks xs p ≡ true))
product a strict marks [] s p = (λ h. (h, refl), λ h. h.0)
product a strict marks (x ∷ xs) s p = product_step a strict marks xs (product a strict marks xs) (next a s x.bits (marks x.position)) (phase_after strict p (marks x.position))

-- what a phase asks of the marks from a position on, up to the end
abbrev pub Asks : (ℕ → Type 0) → (ℕ → Bool) → ℕ → Phase → ℕ → Type 0
Asks Has m e Before low = (x y z : ℕ) → Has x → Has y → Has z → low ≤ x → x < y → y < z → z ≤ e → m x ≡ true → m z ≡ true → m y ≡ true
Asks Has m e Within low = (y z : ℕ) → Has y → Has z → low ≤ y → y < z → z ≤ e → m z ≡ true → m y ≡ true
Asks Has m e After low = (z : ℕ) → Has z → low ≤ z → z ≤ e → m z ≡ true → ⊥

-- the position is the substream's first from the low one on
pub record IsLeast (Has : ℕ → Type 0) (low x : ℕ) : Type 0 where
  pub has : Has x
  pub above : low ≤ x
  pub least : (z : ℕ) → Has z → low ≤ z → x ≤ z

abbrev pub AsksNext : (ℕ → Type 0) → (ℕ → Bool) → ℕ → Option Phase → ℕ → Type 0
AsksNext Has m e None low = ⊥
AsksNext Has m e (Some p) low = Asks Has m e p low

at_or_later : (x z : ℕ) → x ≤ z → (x ≡ z) ⊎ (x < z)
at_or_later x z h = go (cases_order x z)
  where
    go : (x ≡ z) ⊎ ((x < z) ⊎ (z < x)) → (x ≡ z) ⊎ (x < z)
    go (inl e) = inl e
    go (inr (inl l)) = inr l
    go (inr (inr g)) = absurd (omega arith)

-- one entry moves the phase as the marks ask
phase_step : (Has : ℕ → Type 0) (m : ℕ → Bool) (e low x : ℕ) (p : Phase) (b : Bool) → m x ≡ b → x ≤ e → IsLeast Has low x → AsksNext Has m e (phase_after true p b) (suc x) ↔ Asks Has m e p low
phase_step Has m e low x Before true eq le l = (to, λ h y z hy hz a lt le' t. h x y z l.has hy hz l.above a lt le' eq t)
  where
    to : Asks Has m e Within (suc x) → Asks Has m e Before low
    to h u y z hu hy hz a lt lt' le' t t' = let k = l.least u hu a in h y z hy hz (omega arith) lt' le' t'
phase_step Has m e low x Before false eq le l = (to, λ h u y z hu hy hz a. (let k = l.above in h u y z hu hy hz (omega arith)))
  where
    to : Asks Has m e Before (suc x) → Asks Has m e Before low
    to h u y z hu hy hz a lt lt' le' t t' = go (at_or_later x u (l.least u hu a))
      where
        go : (x ≡ u) ⊎ (x < u) → m y ≡ true
        go (inl i) = absurd (false≢true (sym eq ∙ (ap m i ∙ t)))
        go (inr k) = h u y z hu hy hz k lt lt' le' t t'
phase_step Has m e low x Within true eq le l = (to, λ h y z hy hz a. (let k = l.above in h y z hy hz (omega arith)))
  where
    to : Asks Has m e Within (suc x) → Asks Has m e Within low
    to h y z hy hz a lt le' t = go (at_or_later x y (l.least y hy a))
      where
        go : (x ≡ y) ⊎ (x < y) → m y ≡ true
        go (inl i) = sym (ap m i) ∙ eq
        go (inr k) = h y z hy hz k lt le' t
phase_step Has m e low x Within false eq le l = (λ h y z hy hz a lt le' t. absurd (let k = l.least y hy a in h z hz (omega arith) le' t), λ h z hz a le' t. false≢true (sym eq ∙ h x z l.has hz l.above a le' t))
phase_step Has m e low x After true eq le l = (λ h. absurd h, λ h. h x l.has l.above le eq)
phase_step Has m e low x After false eq le l = (to, λ h z hz a. (let k = l.above in h z hz (omega arith)))
  where
    to : Asks Has m e After (suc x) → Asks Has m e After low
    to h z hz a le' t = go (at_or_later x z (l.least z hz a))
      where
        go : (x ≡ z) ⊎ (x < z) → ⊥
        go (inl i) = false≢true (sym eq ∙ (ap m i ∙ t))
        go (inr k) = h z hz k le' t

iff_trans : {P Q R : Type 0} → P ↔ Q → Q ↔ R → P ↔ R
iff_trans p q = (λ h. q.0 (p.0 h), λ h. p.1 (q.1 h))

alive_next : (Has : ℕ → Type 0) (m : ℕ → Bool) (e low : ℕ) (xs : List Entry) → ((p : Phase) → (alive true m xs p ≡ true) ↔ Asks Has m e p low) → (o : Option Phase) → (alive_after (alive true m xs) o ≡ true) ↔ AsksNext Has m e o low
alive_next Has m e low xs f None = (λ h. absurd (false≢true h), λ h. absurd h)
alive_next Has m e low xs f (Some p) = f p

asks_none : (Has : ℕ → Type 0) (m : ℕ → Bool) (e low : ℕ) (p : Phase) → e < low → Asks Has m e p low
asks_none Has m e low Before h = λ x y z hx hy hz a l l' b t t'. absurd (omega arith)
asks_none Has m e low Within h = λ y z hy hz a l b t. absurd (omega arith)
asks_none Has m e low After h = λ z hz a b t. omega arith

least_after : (r : Reading) (size q : ℕ) (x : Entry) → MayComeAfter r.Has true q x.position → IsEntry r size x → IsLeast r.Has (suc q) x.position
least_after r size q x a entry = record { has = entry.within; above = a.later; least = λ z hz lo. go z hz lo (cases_order x.position z) }
  where
    go : (z : ℕ) → r.Has z → suc q ≤ z → (x.position ≡ z) ⊎ ((x.position < z) ⊎ (z < x.position)) → x.position ≤ z
    go z hz lo (inl i) = omega arith
    go z hz lo (inr (inl l)) = omega arith
    go z hz lo (inr (inr g)) = absurd (a.next refl z hz lo g)

last_of_cover : (r : Reading) (size p e : ℕ) (xs : List Entry) → CoverAfter r size p xs e → p ≤ e
last_of_cover r size p e [] c = omega arith
last_of_cover r size p e (x ∷ xs) c = let h = last_of_cover r size x.position e xs c.2 in let k = c.0.later in omega arith

alive_is : (r : Reading) (size e : ℕ) (m : ℕ → Bool) (xs : List Entry) (q : ℕ) → CoverAfter r size q xs e → (p : Phase) → (alive true m xs p ≡ true) ↔ Asks r.Has m e p (suc q)
alive_is r size e m [] q c p = (λ h. asks_none r.Has m e (suc q) p (omega arith), λ h. refl)
alive_is r size e m (x ∷ xs) q c p = iff_trans (alive_next r.Has m e (suc x.position) xs (alive_is r size e m xs x.position c.2) (phase_after true p (m x.position))) (phase_step r.Has m e (suc q) x.position p (m x.position) refl (last_of_cover r size x.position e xs c.2) (least_after r size q x c.0 c.1))

-- over the entries from a start, the phase goes on where the marks are contiguous there
alive_from : (r : Reading) (size from e : ℕ) (m : ℕ → Bool) (xs : List Entry) → Cover r size from xs e → (alive true m xs Before ≡ true) ↔ Asks r.Has m e Before from
alive_from r size from e m [] c = absurd c
alive_from r size from e m (x ∷ xs) c = iff_trans (alive_next r.Has m e (suc x.position) xs (alive_is r size e m xs x.position c.2) (phase_after true Before (m x.position))) (phase_step r.Has m e from x.position Before (m x.position) refl (last_of_cover r size x.position e xs c.2) least)
  where
    least : IsLeast r.Has from x.position
    least = record { has = c.1.within; above = (let i = c.0 in omega arith); least = λ z hz lo. (let i = c.0 in omega arith) }

alive_loose : (m : ℕ → Bool) (xs : List Entry) (p : Phase) → alive false m xs p ≡ true
alive_loose m [] p = refl
alive_loose m (x ∷ xs) p = alive_loose m xs p

contiguous_is : (stream : Stream) (from e : ℕ) (marks : List ℕ) → AreWithin stream from e marks → Asks stream.Has (has_mark marks) e Before from ↔ AreContiguous stream.Has marks
contiguous_is stream from e marks w = (
  λ h x y z hx hz l l' hy. (
      let a = w.within x hx in
      let b = w.within z hz in
      (listed_is marks y).0 (h x y z a.0 hy b.0 a.1 l l' b.2 ((listed_is marks x).1 hx) ((listed_is marks z).1 hz))),
  λ h x y z hx hy hz a l l' b t t'. (listed_is marks y).1 (h x y z ((listed_is marks x).0 t) ((listed_is marks z).0 t') l l' hy),
)

strict_is : (stream : Stream) (ls : List Occurrence) (size from e : ℕ) (strict : Bool) (marks : List ℕ) (xs : List Entry) → Cover (reading stream ls) size from xs e → AreWithin stream from e marks → (alive strict (has_mark marks) xs Before ≡ true) ↔ WhereStrict strict (AreContiguous stream.Has marks)
strict_is stream ls size from e true marks xs c w = iff_trans (alive_from (reading stream ls) size from e (has_mark marks) xs c) (contiguous_is stream from e marks w)
strict_is stream ls size from e false marks xs c w = (λ h. tt, λ h. alive_loose (has_mark marks) xs Before)

-- Some valuation from the start to the end has exactly these marks, and where it is asked they are contiguous: so exactly where the run that watches the phase accepts.
pub marks_iff_standing : (stream : Stream) (t : LeafTree Occurrence) (part : Meaning) (means : Same part (tree_meaning stream t)) (a : Automaton) (of_tree : IsLeafAutomaton t a) (from end : ℕ) (marks : List ℕ) (strict : Bool) (xs : List Entry) → Cover (reading stream (occurrences t)) a.size from xs end → (HasMarks part from end marks × WhereStrict strict (AreContiguous stream.Has marks)) ↔ (AreWithin stream from end marks × (accepted_standing a (run_standing a strict (has_mark marks) begin xs) ≡ true))
marks_iff_standing stream t part means a of_tree from end marks strict xs cover = (to, back)
  where
    plain : HasMarks part from end marks ↔ (AreWithin stream from end marks × (accepted_run a (run a (has_mark marks) start xs) ≡ true))
    plain = marks_iff_run stream t part means a of_tree from end marks xs cover

    both : (accepted_standing a (run_standing a strict (has_mark marks) begin xs) ≡ true) ↔ ((accepted_run a (run a (has_mark marks) start xs) ≡ true) × (alive strict (has_mark marks) xs Before ≡ true))
    both = product a strict (has_mark marks) xs start Before

    to : HasMarks part from end marks × WhereStrict strict (AreContiguous stream.Has marks) → AreWithin stream from end marks × (accepted_standing a (run_standing a strict (has_mark marks) begin xs) ≡ true)
    to h = let p = plain.0 h.0 in (p.0, both.1 (p.1, (strict_is stream (occurrences t) a.size from end strict marks xs cover p.0).1 h.1))

    back : AreWithin stream from end marks × (accepted_standing a (run_standing a strict (has_mark marks) begin xs) ≡ true) → HasMarks part from end marks × WhereStrict strict (AreContiguous stream.Has marks)
    back h = let p = both.0 h.1 in (plain.1 (h.0, p.0), (strict_is stream (occurrences t) a.size from end strict marks xs cover h.0).0 p.1)
