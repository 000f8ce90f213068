-- The subset construction keeps what single leaves can do.
use Rattle.std.proofs.Common.{◌≡◌, refl, sym, ◌∙◌, ℕ, ◌<◌, ◌⊎◌, inl, inr, Bool, true, false, not, ◌&&◌, ◌||◌, cond, List, [], ◌∷◌, Option, Some, None, option_and_then, Decides}
use Rattle.std.proofs.lemmas.Bool.{and_parts, and_from, or_cases, or_left, or_right, not-true, not_from_false, false≢true}
use Rattle.std.proofs.lemmas.Bool.Decides.{Decides-below_or}
use Rattle.cea_determinise.specs.Runs.{LeafSet, some_below, Automaton, follow, RunState, pair, candidates, skip_insensitive, agrees, readers, minds_next, waits_at_once, has_leaf, Entry, run, accepted_run}

some_below_is : (p : LeafSet) (n : ℕ) → Decides (some_below n p) ((k : ℕ) × (k < n) × (p k ≡ true))
some_below_is p = Decides-below_or p (λ k. p k ≡ true) (λ n. some_below n p) (λ k. (λ h. h, λ h. h)) refl (λ n. refl)

-- The second leaf may read after the first, which is fresh or waits.
pub record IsMove (a : Automaton) (fresh : Bool) (j k : ℕ) : Type 0 where
  pub tight : Bool
  pub follows : follow a tight j k ≡ true
  pub free : tight ≡ true → fresh ≡ true

-- What a single leaf can do over the entries: a fresh one has read the event just before.
pub data Leads (a : Automaton) (marks : ℕ → Bool) : Bool → ℕ → List Entry → Type 0 where
  ends : {k : ℕ} → a.last k ≡ true → Leads a marks true k []
  reads : {fresh : Bool} {j k : ℕ} {x : Entry} {xs : List Entry} → IsMove a fresh j k → k < a.size → x.bits k ≡ true → agrees (marks x.position) (a.marked k) ≡ true → Leads a marks true k xs → Leads a marks fresh j (x ∷ xs)
  skips : {fresh : Bool} {j : ℕ} {x : Entry} {xs : List Entry} → marks x.position ≡ false → Leads a marks false j xs → Leads a marks fresh j (x ∷ xs)

-- some leaf of the state leads over the entries
pub record IsLive (a : Automaton) (marks : ℕ → Bool) (fresh waiting : LeafSet) (xs : List Entry) : Type 0 where
  pub leaf : ℕ
  pub below : leaf < a.size
  pub leads : ((fresh leaf ≡ true) × Leads a marks true leaf xs) ⊎ ((waiting leaf ≡ true) × Leads a marks false leaf xs)

-- a leaf that waits moves by far pairs alone
far_move : (a : Automaton) (j k : ℕ) (tight : Bool) → follow a tight j k ≡ true → (tight ≡ true → false ≡ true) → a.far j k ≡ true
far_move a j k true f t = absurd (false≢true (t refl))
far_move a j k false f t = f

near_or_far : (a : Automaton) (j k : ℕ) (tight : Bool) → follow a tight j k ≡ true → (a.near j k || a.far j k) ≡ true
near_or_far a j k true f = or_left (a.near j k) (a.far j k) f
near_or_far a j k false f = or_right (a.near j k) (a.far j k) f

fresh_move : (a : Automaton) (j k : ℕ) → (a.near j k ≡ true) ⊎ (a.far j k ≡ true) → IsMove a true j k
fresh_move a j k (inl h) = record { tight = true; follows = h; free = λ e. refl }
fresh_move a j k (inr h) = record { tight = false; follows = h; free = λ e. refl }

waiting_move : (a : Automaton) (j k : ℕ) → a.far j k ≡ true → IsMove a false j k
waiting_move a j k h = record { tight = false; follows = h; free = λ e. e }

-- a leaf that waits and gets on has a far follower
far_follower : (a : Automaton) {marks : ℕ → Bool} {fresh : Bool} {j : ℕ} {xs : List Entry} → Leads a marks fresh j xs → fresh ≡ false → some_below a.size (a.far j) ≡ true
far_follower a (ends l) e = absurd (false≢true (sym e))
far_follower a (reads {j = j} {k = k} m b y h s) e = (some_below_is (a.far j) a.size).1 (k, b, far_move a j k m.tight m.follows (λ t. sym e ∙ m.free t))
far_follower a (skips m s) e = far_follower a s refl

-- a leaf that waits can do no more than one that has read the event just before
fresher : (a : Automaton) {marks : ℕ → Bool} {fresh : Bool} {j : ℕ} {xs : List Entry} → Leads a marks fresh j xs → fresh ≡ false → Leads a marks true j xs
fresher a (ends l) e = absurd (false≢true (sym e))
fresher a (reads m b y g s) e = reads (record { tight = m.tight; follows = m.follows; free = λ t. refl }) b y g s
fresher a (skips m s) e = skips m s

no_near : (a : Automaton) (j k : ℕ) → k < a.size → minds_next a j ≡ false → a.near j k ≡ true → ⊥
no_near a j k b none near = false≢true (sym none ∙ or_right (a.last j) (some_below a.size (a.near j)) ((some_below_is (a.near j) a.size).1 (k, b, near)))

-- and no less, where it does not mind the next event
as_waiting : (a : Automaton) {marks : ℕ → Bool} {fresh : Bool} {j : ℕ} {xs : List Entry} → minds_next a j ≡ false → Leads a marks fresh j xs → Leads a marks false j xs
as_waiting a {j = j} none (ends l) = absurd (false≢true (sym none ∙ or_left (a.last j) (some_below a.size (a.near j)) l))
as_waiting a {j = j} none (reads {k = k} m b y g s) = reads (record { tight = m.tight; follows = m.follows; free = λ t. absurd (no_near a j k b none (tight_is m.tight t m.follows)) }) b y g s
  where
    tight_is : (tight : Bool) → tight ≡ true → follow a tight j k ≡ true → a.near j k ≡ true
    tight_is true e f = f
    tight_is false e f = absurd (false≢true e)
as_waiting a none (skips m s) = skips m s

-- a leaf of a state, fresh or waiting, that may be followed by k
abbrev pub HasMove : Automaton → LeafSet → LeafSet → ℕ → ℕ → Type 0
HasMove a fresh waiting k j = ((fresh j ≡ true) × IsMove a true j k) ⊎ ((waiting j ≡ true) × IsMove a false j k)

candidate_is : (a : Automaton) (fresh waiting : LeafSet) (k : ℕ) → Decides (candidates a (pair fresh waiting) k) ((j : ℕ) × (j < a.size) × HasMove a fresh waiting k j)
candidate_is a fresh waiting k = (λ h. from ((some_below_is test a.size).0 h), λ h. (some_below_is test a.size).1 (to h))
  where
    test : LeafSet
    test j = fresh j && (a.near j k || a.far j k) || waiting j && a.far j k

    from_fresh : (j : ℕ) → (fresh j && (a.near j k || a.far j k)) ≡ true → HasMove a fresh waiting k j
    from_fresh j h = let p = and_parts (fresh j) (a.near j k || a.far j k) h in inl (p.0, fresh_move a j k (or_cases (a.near j k) (a.far j k) p.1))

    from_waiting : (j : ℕ) → (waiting j && a.far j k) ≡ true → HasMove a fresh waiting k j
    from_waiting j h = let p = and_parts (waiting j) (a.far j k) h in inr (p.0, waiting_move a j k p.1)

    either_of : (j : ℕ) → ((fresh j && (a.near j k || a.far j k)) ≡ true) ⊎ ((waiting j && a.far j k) ≡ true) → HasMove a fresh waiting k j
    either_of j (inl h) = from_fresh j h
    either_of j (inr h) = from_waiting j h

    from : (j : ℕ) × (j < a.size) × (test j ≡ true) → (j : ℕ) × (j < a.size) × HasMove a fresh waiting k j
    from h = (h.0, h.1, either_of h.0 (or_cases (fresh h.0 && (a.near h.0 k || a.far h.0 k)) (waiting h.0 && a.far h.0 k) h.2))

    back : (j : ℕ) → HasMove a fresh waiting k j → test j ≡ true
    back j (inl h) = or_left (fresh j && (a.near j k || a.far j k)) (waiting j && a.far j k) (and_from (fresh j) (a.near j k || a.far j k) h.0 (near_or_far a j k h.1.tight h.1.follows))
    back j (inr h) = or_right (fresh j && (a.near j k || a.far j k)) (waiting j && a.far j k) (and_from (waiting j) (a.far j k) h.0 (far_move a j k h.1.tight h.1.follows h.1.free))

    to : (j : ℕ) × (j < a.size) × HasMove a fresh waiting k j → (j : ℕ) × (j < a.size) × (test j ≡ true)
    to h = (h.0, h.1, back h.0 h.2)

pub kept_accepts : (a : Automaton) (g : RunState → Option RunState) (t : RunState) (b : Bool) → accepted_run a (option_and_then g (cond b (Some t) None)) ≡ true → accepted_run a (g t) ≡ true
kept_accepts a g t true h = h
kept_accepts a g t false h = absurd (false≢true h)

pub accepts_kept : (a : Automaton) (g : RunState → Option RunState) (t : RunState) (b : Bool) → b ≡ true → accepted_run a (g t) ≡ true → accepted_run a (option_and_then g (cond b (Some t) None)) ≡ true
accepts_kept a g t true e h = h
accepts_kept a g t false e h = absurd (false≢true e)

-- the leaves that read one more entry, and the sets after it
abbrev pub read_at : Automaton → (ℕ → Bool) → RunState → Entry → LeafSet
read_at a marks s x k = readers a s x.bits (marks x.position) k

abbrev pub fresh_after : Automaton → (ℕ → Bool) → RunState → Entry → LeafSet
fresh_after a marks s x k = read_at a marks s x k && minds_next a k

abbrev pub waiting_after : Automaton → (ℕ → Bool) → RunState → Entry → LeafSet
waiting_after a marks s x k = not (marks x.position) && skip_insensitive a s k || read_at a marks s x k && waits_at_once a k

pub read_parts : (a : Automaton) (marks : ℕ → Bool) (s : RunState) (x : Entry) (k : ℕ) → read_at a marks s x k ≡ true → (candidates a s k ≡ true) × (x.bits k ≡ true) × (agrees (marks x.position) (a.marked k) ≡ true)
read_parts a marks s x k h =
    let p = and_parts (candidates a s k) (x.bits k && agrees (marks x.position) (a.marked k)) h in
    let q = and_parts (x.bits k) (agrees (marks x.position) (a.marked k)) p.1 in
    (p.0, q.0, q.1)

pub read_from : (a : Automaton) (marks : ℕ → Bool) (s : RunState) (x : Entry) (k : ℕ) → candidates a s k ≡ true → x.bits k ≡ true → agrees (marks x.position) (a.marked k) ≡ true → read_at a marks s x k ≡ true
read_from a marks s x k c b g = and_from (candidates a s k) (x.bits k && agrees (marks x.position) (a.marked k)) c (and_from (x.bits k) (agrees (marks x.position) (a.marked k)) b g)

-- a leaf of the sets after the entry leads on: one that read it, or that let it pass
abbrev pub WasRead : Automaton → (ℕ → Bool) → RunState → Entry → List Entry → ℕ → Type 0
WasRead a marks s x xs k = (read_at a marks s x k ≡ true) × Leads a marks true k xs

abbrev pub Passed : Automaton → (ℕ → Bool) → RunState → Entry → List Entry → ℕ → Type 0
Passed a marks s x xs k = (marks x.position ≡ false) × (skip_insensitive a s k ≡ true) × Leads a marks false k xs

abbrev pub LeadsFrom : Automaton → (ℕ → Bool) → LeafSet → LeafSet → List Entry → ℕ → Type 0
LeadsFrom a marks fresh waiting xs k = ((fresh k ≡ true) × Leads a marks true k xs) ⊎ ((waiting k ≡ true) × Leads a marks false k xs)

pub came : (a : Automaton) (marks : ℕ → Bool) (s : RunState) (x : Entry) (xs : List Entry) (k : ℕ) →
    LeadsFrom a marks (fresh_after a marks s x) (waiting_after a marks s x) xs k → WasRead a marks s x xs k ⊎ Passed a marks s x xs k
came a marks s x xs k (inl h) = inl ((and_parts (read_at a marks s x k) (minds_next a k) h.0).0, h.1)
came a marks s x xs k (inr h) = elim (or_cases (not (marks x.position) && skip_insensitive a s k) (read_at a marks s x k && waits_at_once a k) h.0) [
  | inl past ↦ let p = and_parts (not (marks x.position)) (skip_insensitive a s k) past in inr (not-true (marks x.position) p.0, p.1, h.1)
  | inr now ↦ inl ((and_parts (read_at a marks s x k) (waits_at_once a k) now).0, fresher a h.1 refl)
]

pub goes : (a : Automaton) (marks : ℕ → Bool) (s : RunState) (x : Entry) (xs : List Entry) (k : ℕ) → read_at a marks s x k ≡ true → Leads a marks true k xs →
    LeadsFrom a marks (fresh_after a marks s x) (waiting_after a marks s x) xs k
goes a marks s x xs k read leads = by (minds_next a k) refl
  where
    by : (b : Bool) → minds_next a k ≡ b → LeadsFrom a marks (fresh_after a marks s x) (waiting_after a marks s x) xs k
    by true e = inl (and_from (read_at a marks s x k) (minds_next a k) read e, leads)
    by false e =
        let waits = as_waiting a e leads in
        let far = far_follower a waits refl in
        let at_once = and_from (not (minds_next a k)) (some_below a.size (a.far k)) (not_from_false (minds_next a k) e) far in
        inr (or_right (not (marks x.position) && skip_insensitive a s k) (read_at a marks s x k && waits_at_once a k) (and_from (read_at a marks s x k) (waits_at_once a k) read at_once), waits)

passes : (a : Automaton) (marks : ℕ → Bool) (fresh waiting : LeafSet) (x : Entry) (xs : List Entry) (k : ℕ) → marks x.position ≡ false → (fresh k || waiting k) ≡ true → Leads a marks false k xs →
    LeadsFrom a marks (fresh_after a marks (pair fresh waiting) x) (waiting_after a marks (pair fresh waiting) x) xs k
passes a marks fresh waiting x xs k m h leads =
    let f = far_follower a leads refl in
    let past = and_from (not (marks x.position)) (skip_insensitive a (pair fresh waiting) k) (not_from_false (marks x.position) m) (and_from (fresh k || waiting k) (some_below a.size (a.far k)) h f) in
    inr (or_left (not (marks x.position) && skip_insensitive a (pair fresh waiting) k) (read_at a marks (pair fresh waiting) x k && waits_at_once a k) past, leads)

live_before : (a : Automaton) (marks : ℕ → Bool) (x : Entry) (xs : List Entry) (fresh waiting : LeafSet) → IsLive a marks (fresh_after a marks (pair fresh waiting) x) (waiting_after a marks (pair fresh waiting) x) xs → IsLive a marks fresh waiting (x ∷ xs)
live_before a marks x xs fresh waiting live = go live.leaf live.below (came a marks (pair fresh waiting) x xs live.leaf live.leads)
  where
    moved : (j k : ℕ) → j < a.size → k < a.size → HasMove a fresh waiting k j → x.bits k ≡ true → agrees (marks x.position) (a.marked k) ≡ true → Leads a marks true k xs → IsLive a marks fresh waiting (x ∷ xs)
    moved j k lo b (inl m) y g s = record { leaf = j; below = lo; leads = inl (m.0, reads m.1 b y g s) }
    moved j k lo b (inr m) y g s = record { leaf = j; below = lo; leads = inr (m.0, reads m.1 b y g s) }

    waited : (k : ℕ) → k < a.size → marks x.position ≡ false → (fresh k ≡ true) ⊎ (waiting k ≡ true) → Leads a marks false k xs → IsLive a marks fresh waiting (x ∷ xs)
    waited k b m (inl h) s = record { leaf = k; below = b; leads = inl (h, skips m s) }
    waited k b m (inr h) s = record { leaf = k; below = b; leads = inr (h, skips m s) }

    go : (k : ℕ) → k < a.size → WasRead a marks (pair fresh waiting) x xs k ⊎ Passed a marks (pair fresh waiting) x xs k → IsLive a marks fresh waiting (x ∷ xs)
    go k b (inl h) =
        let p = read_parts a marks (pair fresh waiting) x k h.0 in
        let c = (candidate_is a fresh waiting k).0 p.0 in
        moved c.0 k c.1 b c.2 p.1 p.2 h.1
    go k b (inr h) = waited k b h.0 (or_cases (fresh k) (waiting k) (and_parts (fresh k || waiting k) (some_below a.size (a.far k)) h.1).0) h.2

live_after : (a : Automaton) (marks : ℕ → Bool) (x : Entry) (xs : List Entry) (fresh waiting : LeafSet) → IsLive a marks fresh waiting (x ∷ xs) → IsLive a marks (fresh_after a marks (pair fresh waiting) x) (waiting_after a marks (pair fresh waiting) x) xs
live_after a marks x xs fresh waiting live = go live.leaf live.below live.leads
  where
    go : (j : ℕ) → j < a.size → ((fresh j ≡ true) × Leads a marks true j (x ∷ xs)) ⊎ ((waiting j ≡ true) × Leads a marks false j (x ∷ xs)) → IsLive a marks (fresh_after a marks (pair fresh waiting) x) (waiting_after a marks (pair fresh waiting) x) xs
    go j b (inl h) = from_fresh h.0 h.1
      where
        from_fresh : fresh j ≡ true → Leads a marks true j (x ∷ xs) → IsLive a marks (fresh_after a marks (pair fresh waiting) x) (waiting_after a marks (pair fresh waiting) x) xs
        from_fresh f (reads {k = k} m b' y g s) = record { leaf = k; below = b'; leads = goes a marks (pair fresh waiting) x xs k (read_from a marks (pair fresh waiting) x k ((candidate_is a fresh waiting k).1 (j, b, inl (f, m))) y g) s }
        from_fresh f (skips m s) = record { leaf = j; below = b; leads = passes a marks fresh waiting x xs j m (or_left (fresh j) (waiting j) f) s }
    go j b (inr h) = from_waiting h.0 h.1
      where
        from_waiting : waiting j ≡ true → Leads a marks false j (x ∷ xs) → IsLive a marks (fresh_after a marks (pair fresh waiting) x) (waiting_after a marks (pair fresh waiting) x) xs
        from_waiting f (reads {k = k} m b' y g s) = record { leaf = k; below = b'; leads = goes a marks (pair fresh waiting) x xs k (read_from a marks (pair fresh waiting) x k ((candidate_is a fresh waiting k).1 (j, b, inr (f, m))) y g) s }
        from_waiting f (skips m s) = record { leaf = j; below = b; leads = passes a marks fresh waiting x xs j m (or_right (fresh j) (waiting j) f) s }

pub live_has_leaf : (a : Automaton) (marks : ℕ → Bool) (xs : List Entry) (fresh waiting : LeafSet) → IsLive a marks fresh waiting xs → has_leaf a (pair fresh waiting) ≡ true
live_has_leaf a marks xs fresh waiting live = (some_below_is (λ k. fresh k || waiting k) a.size).1 (live.leaf, live.below, go live.leads)
  where
    go : ((fresh live.leaf ≡ true) × Leads a marks true live.leaf xs) ⊎ ((waiting live.leaf ≡ true) × Leads a marks false live.leaf xs) → (fresh live.leaf || waiting live.leaf) ≡ true
    go (inl h) = or_left (fresh live.leaf) (waiting live.leaf) h.0
    go (inr h) = or_right (fresh live.leaf) (waiting live.leaf) h.0

-- A state accepts after the entries exactly where one of its leaves leads over them.
pub sound : (a : Automaton) (marks : ℕ → Bool) (xs : List Entry) (fresh waiting : LeafSet) → accepted_run a (run a marks (pair fresh waiting) xs) ≡ true → IsLive a marks fresh waiting xs
sound a marks [] fresh waiting h =
    let k = (some_below_is (λ k. fresh k && a.last k) a.size).0 h in
    let p = and_parts (fresh k.0) (a.last k.0) k.2 in
    record { leaf = k.0; below = k.1; leads = inl (p.0, ends p.1) }
sound a marks (x ∷ xs) fresh waiting h =
    let f = fresh_after a marks (pair fresh waiting) x in
    let w = waiting_after a marks (pair fresh waiting) x in
    live_before a marks x xs fresh waiting (sound a marks xs f w (kept_accepts a (λ t. run a marks t xs) (pair f w) (has_leaf a (pair f w)) h))

pub complete : (a : Automaton) (marks : ℕ → Bool) (xs : List Entry) (fresh waiting : LeafSet) → IsLive a marks fresh waiting xs → accepted_run a (run a marks (pair fresh waiting) xs) ≡ true
complete a marks [] fresh waiting live = go live.leaf live.below live.leads
  where
    at_end : (k : ℕ) → k < a.size → fresh k ≡ true → Leads a marks true k [] → some_below a.size (λ k. fresh k && a.last k) ≡ true
    at_end k b f (ends l) = (some_below_is (λ k. fresh k && a.last k) a.size).1 (k, b, and_from (fresh k) (a.last k) f l)

    go : (k : ℕ) → k < a.size → ((fresh k ≡ true) × Leads a marks true k []) ⊎ ((waiting k ≡ true) × Leads a marks false k []) → some_below a.size (λ k. fresh k && a.last k) ≡ true
    go k b (inl h) = at_end k b h.0 h.1
    go k b (inr h) = elim h.1 [ ]
complete a marks (x ∷ xs) fresh waiting live =
    let f = fresh_after a marks (pair fresh waiting) x in
    let w = waiting_after a marks (pair fresh waiting) x in
    let l = live_after a marks x xs fresh waiting live in
    accepts_kept a (λ t. run a marks t xs) (pair f w) (has_leaf a (pair f w)) (live_has_leaf a marks xs f w l) (complete a marks xs f w l)
