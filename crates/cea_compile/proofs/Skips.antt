-- A walk's steps, with the events that it passes over, are what a leaf can do over the substream's entries.
use Rattle.std.proofs.Common.{◌≡◌, refl, sym, ap, subst, ◌∙◌, ℕ, ◌<◌, ◌≤◌, ◌⊎◌, inl, inr, Bool, true, false, List, [], ◌∷◌, Decides, arith}
use Rattle.std.proofs.lemmas.Bool.{not-true, not_from_false, false≢true, false_from_ne_true, cases_order}
use Rattle.cea_determinise.specs.Runs.{LeafSet, Automaton, follow, agrees, Entry}
use Rattle.cea_compile.specs.Paths.{Step, Reading, MayComeAfter}
use Rattle.cea_compile.specs.Positions.{Steps, done, step}
use Rattle.cea_compile.specs.Covers.{IsEntry, CoverAfter, MarkedAt}
use Rattle.cea_compile.proofs.Subsets.{IsMove, Leads, ends, reads, skips}

-- pairs that follow in the automaton
abbrev pub Follow : Automaton → Bool → ℕ → ℕ → Type 0
Follow a tight j k = follow a tight j k ≡ true

-- a fresh leaf has read the position just before, another one an earlier position of the substream
abbrev pub HasRead : Reading → Bool → ℕ → ℕ → Type 0
HasRead r true q p = q ≡ p
HasRead r false q p = (q < p) × r.Has p

-- the path's first step is after the position
abbrev pub IsBeyond : ℕ → List Step → Type 0
IsBeyond p [] = Unit {0}
IsBeyond p (s ∷ w) = p < s.position

-- among the substream's positions after p, up to the end, the marks are the path's
abbrev pub HaveMarks : Reading → (ℕ → Bool) → LeafSet → ℕ → ℕ → List Step → Type 0
HaveMarks r marks marked p end w = (x : ℕ) → r.Has x → p < x → x ≤ end → Decides (marks x) (MarkedAt marked w x)

pub steps_rise : {r : Reading} {F : Bool → ℕ → ℕ → Type 0} {j p l e : ℕ} {w : List Step} → Steps r F j p w l e → p ≤ e
steps_rise done = omega arith
steps_rise (step f a b s) = let h = steps_rise s in let k = a.later in omega arith

pub steps_beyond : {r : Reading} {F : Bool → ℕ → ℕ → Type 0} {j p l e : ℕ} {w : List Step} → Steps r F j p w l e → IsBeyond p w
steps_beyond done = tt
steps_beyond (step f a b s) = a.later

pub marked_beyond : {r : Reading} {F : Bool → ℕ → ℕ → Type 0} {j q l e : ℕ} {w : List Step} → (marked : LeafSet) (p x : ℕ) → Steps r F j q w l e → IsBeyond p w → MarkedAt marked w x → p < x
marked_beyond marked p x done b m = absurd m
marked_beyond marked p x (step f a y s) b (inl m) = let e = m.0 in omega arith
marked_beyond marked p x (step {q = q} f a y s) b (inr m) = let h = marked_beyond marked q x s (steps_beyond s) m in omega arith

pub cover_rises : (r : Reading) (size p e : ℕ) (xs : List Entry) → CoverAfter r size p xs e → p ≤ e
cover_rises r size p e [] c = omega arith
cover_rises r size p e (x ∷ xs) c = let h = cover_rises r size x.position e xs c.2 in let k = c.0.later in omega arith

-- the steps from a leaf that read q, over the entries after p
pub record HasSteps (r : Reading) (a : Automaton) (marks : ℕ → Bool) (j q p end : ℕ) : Type 0 where
  pub path : List Step
  pub to : ℕ
  pub steps : Steps r (Follow a) j q path to end
  pub last : a.last to ≡ true
  pub beyond : IsBeyond p path
  pub agree : HaveMarks r marks a.marked p end path

has_read_before : (r : Reading) (fresh : Bool) (q p : ℕ) → HasRead r fresh q p → q ≤ p
has_read_before r true q p h = omega arith
has_read_before r false q p h = omega arith

has_read_just : (r : Reading) (fresh : Bool) (q p : ℕ) → HasRead r fresh q p → fresh ≡ true → q ≡ p
has_read_just r true q p h e = h
has_read_just r false q p h e = absurd (false≢true e)

pub agrees_same : (b m : Bool) → agrees b m ≡ true → b ≡ m
agrees_same true m h = sym h
agrees_same false m h = sym (not-true m h)

pub agrees_from : (b m : Bool) → (b ≡ true → m ≡ true) → (m ≡ true → b ≡ true) → agrees b m ≡ true
agrees_from true m f g = f refl
agrees_from false m f g = not_from_false m (false_from_ne_true m (λ h. false≢true (g h)))

beyond_before : (p q : ℕ) (w : List Step) → p ≤ q → IsBeyond q w → IsBeyond p w
beyond_before p q [] h b = tt
beyond_before p q (s ∷ w) h b = omega arith

read_one : (r : Reading) (a : Automaton) (marks : ℕ → Bool) (e q p : ℕ) (fresh : Bool) (j k : ℕ) (x : Entry) → IsMove a fresh j k → k < a.size → x.bits k ≡ true → agrees (marks x.position) (a.marked k) ≡ true → HasRead r fresh q p → MayComeAfter r.Has true p x.position → IsEntry r a.size x → HasSteps r a marks k x.position x.position e → HasSteps r a marks j q p e
read_one r a marks e q p fresh j k x m b y g h after entry rest = record {
  path = record { leaf = k; position = x.position } ∷ rest.path;
  to = rest.to;
  steps = step m.follows (record {
    later = (let le = has_read_before r fresh q p h in let lt = after.later in omega arith);
    next = λ t z hz lo hi. (let e : q ≡ p = has_read_just r fresh q p h (m.free t) in after.next refl z hz (omega arith) hi);
  }) ((entry.bits k).1 (b, y)) rest.steps;
  last = rest.last;
  beyond = after.later;
  agree = λ z hz lo hi. go z hz lo hi (cases_order x.position z);
}
  where
    go : (z : ℕ) → r.Has z → p < z → z ≤ e → (x.position ≡ z) ⊎ ((x.position < z) ⊎ (z < x.position)) → Decides (marks z) (MarkedAt a.marked (record { leaf = k; position = x.position } ∷ rest.path) z)
    go z hz lo hi (inl eq) = (λ t. inl (eq, sym (agrees_same (marks x.position) (a.marked k) g) ∙ (ap marks eq ∙ t)), back)
      where
        back : MarkedAt a.marked (record { leaf = k; position = x.position } ∷ rest.path) z → marks z ≡ true
        back (inl n) = sym (ap marks eq) ∙ (agrees_same (marks x.position) (a.marked k) g ∙ n.1)
        back (inr n) = let lt = marked_beyond a.marked x.position z rest.steps rest.beyond n in absurd (omega arith)
    go z hz lo hi (inr (inl lt)) = (λ t. inr ((rest.agree z hz lt hi).0 t), back)
      where
        back : MarkedAt a.marked (record { leaf = k; position = x.position } ∷ rest.path) z → marks z ≡ true
        back (inl n) = let eq = n.0 in absurd (omega arith)
        back (inr n) = (rest.agree z hz lt hi).1 n
    go z hz lo hi (inr (inr gt)) = absurd (after.next refl z hz lo gt)

skip_one : (r : Reading) (a : Automaton) (marks : ℕ → Bool) (e q p : ℕ) (j : ℕ) (x : Entry) → marks x.position ≡ false → MayComeAfter r.Has true p x.position → HasSteps r a marks j q x.position e → HasSteps r a marks j q p e
skip_one r a marks e q p j x m after rest = record {
  path = rest.path;
  to = rest.to;
  steps = rest.steps;
  last = rest.last;
  beyond = (let lt = after.later in beyond_before p x.position rest.path (omega arith) rest.beyond);
  agree = λ z hz lo hi. go z hz lo hi (cases_order x.position z);
}
  where
    go : (z : ℕ) → r.Has z → p < z → z ≤ e → (x.position ≡ z) ⊎ ((x.position < z) ⊎ (z < x.position)) → Decides (marks z) (MarkedAt a.marked rest.path z)
    go z hz lo hi (inl eq) = (λ t. absurd (false≢true (sym m ∙ (ap marks eq ∙ t))), λ n. (let lt = marked_beyond a.marked x.position z rest.steps rest.beyond n in absurd (omega arith)))
    go z hz lo hi (inr (inl lt)) = rest.agree z hz lt hi
    go z hz lo hi (inr (inr gt)) = absurd (after.next refl z hz lo gt)

pub steps_of_leads : (r : Reading) (a : Automaton) (marks : ℕ → Bool) (e q p : ℕ) (fresh : Bool) (j : ℕ) (xs : List Entry) → Leads a marks fresh j xs → HasRead r fresh q p → CoverAfter r a.size p xs e → HasSteps r a marks j q p e
steps_of_leads r a marks e q p fresh j xs (ends l) h c = record {
  path = [];
  to = j;
  steps = subst (λ z. Steps r (Follow a) j q [] j z) (h ∙ c) done;
  last = l;
  beyond = tt;
  agree = λ z hz lo hi. absurd (omega arith);
}
steps_of_leads r a marks e q p fresh j xs (reads {k = k} {x = x} {xs = xs'} m b y g s) h c = read_one r a marks e q p fresh j k x m b y g h c.0 c.1 (steps_of_leads r a marks e x.position x.position true k xs' s refl c.2)
steps_of_leads r a marks e q p fresh j xs (skips {x = x} {xs = xs'} m s) h c = skip_one r a marks e q p j x m c.0 (steps_of_leads r a marks e q x.position false j xs' s ((let le = has_read_before r fresh q p h in let lt = c.0.later in omega arith), c.1.within) c.2)

-- each leaf reads events of the substream alone
abbrev pub ReadsWithin : Reading → Type 0
ReadsWithin r = (k p : ℕ) → r.Reads k p → r.Has p

at_end : (r : Reading) (a : Automaton) (marks : ℕ → Bool) (fresh : Bool) (j q p l e : ℕ) (w : List Step) → p ≡ e → HasRead r fresh q p → Steps r (Follow a) j q w l e → IsBeyond p w → a.last l ≡ true → Leads a marks fresh j []
at_end r a marks true j q p l e w c h done b t = ends t
at_end r a marks false j q p l e w c h done b t = absurd (omega arith)
at_end r a marks fresh j q p l e w c h (step f x y s) b t = let le = steps_rise s in absurd (omega arith)

-- the event is read by the next step of the walk
reads_it : (r : Reading) (a : Automaton) (marks : ℕ → Bool) (fresh tight : Bool) (j k q p l e : ℕ) (x : Entry) (xs : List Entry) (w : List Step) → p < x.position → IsEntry r a.size x → HasRead r fresh q p → Follow a tight j k → MayComeAfter r.Has tight q x.position → r.Reads k x.position → Steps r (Follow a) k x.position w l e → HaveMarks r marks a.marked p e (record { leaf = k; position = x.position } ∷ w) → (HaveMarks r marks a.marked x.position e w → Leads a marks true k xs) → Leads a marks fresh j (x ∷ xs)
reads_it r a marks fresh tight j k q p l e x xs w lt entry h f after y s agree rest =
    reads (record { tight = tight; follows = f; free = free fresh h }) b.0 b.1 (agrees_from (marks x.position) (a.marked k) marked_then (λ m. here.1 (inl (refl, m)))) (rest later)
  where
    b : (k < a.size) × (x.bits k ≡ true)
    b = (entry.bits k).0 y

    here : Decides (marks x.position) (MarkedAt a.marked (record { leaf = k; position = x.position } ∷ w) x.position)
    here = agree x.position entry.within lt (steps_rise s)

    free : (fresh : Bool) → HasRead r fresh q p → tight ≡ true → fresh ≡ true
    free true h t = refl
    free false h t = absurd (after.next t p h.1 h.0 lt)

    marked_at : MarkedAt a.marked (record { leaf = k; position = x.position } ∷ w) x.position → a.marked k ≡ true
    marked_at (inl n) = n.1
    marked_at (inr n) = let gt = marked_beyond a.marked x.position x.position s (steps_beyond s) n in absurd (omega arith)

    marked_then : marks x.position ≡ true → a.marked k ≡ true
    marked_then t = marked_at (here.0 t)

    tail_of : (z : ℕ) → x.position < z → MarkedAt a.marked (record { leaf = k; position = x.position } ∷ w) z → MarkedAt a.marked w z
    tail_of z gt (inl n) = let eq = n.0 in absurd (omega arith)
    tail_of z gt (inr n) = n

    later : HaveMarks r marks a.marked x.position e w
    later z hz lo hi = let d = agree z hz (omega arith) hi in (λ t. tail_of z lo (d.0 t), λ n. d.1 (inr n))

-- the event is passed over
skips_it : (r : Reading) (a : Automaton) (marks : ℕ → Bool) (fresh : Bool) (j q p l e : ℕ) (x : Entry) (xs : List Entry) (w : List Step) → p < x.position → x.position ≤ e → IsEntry r a.size x → Steps r (Follow a) j q w l e → IsBeyond x.position w → HaveMarks r marks a.marked p e w → (HaveMarks r marks a.marked x.position e w → Leads a marks false j xs) → Leads a marks fresh j (x ∷ xs)
skips_it r a marks fresh j q p l e x xs w lt le entry s b agree rest =
    skips (false_from_ne_true (marks x.position) (λ t. unmarked ((agree x.position entry.within lt le).0 t))) (rest (λ z hz lo hi. agree z hz (omega arith) hi))
  where
    unmarked : MarkedAt a.marked w x.position → ⊥
    unmarked n = let gt = marked_beyond a.marked x.position x.position s b n in omega arith

-- what is known of the walk's steps over the entries after the next one
abbrev pub LeadsOn : Reading → Automaton → (ℕ → Bool) → ℕ → ℕ → ℕ → List Entry → Type 0
LeadsOn r a marks e l p xs = (q : ℕ) (fresh : Bool) (j : ℕ) (w : List Step) → HasRead r fresh q p → Steps r (Follow a) j q w l e → IsBeyond p w → HaveMarks r marks a.marked p e w → Leads a marks fresh j xs

one_entry : (r : Reading) (a : Automaton) (marks : ℕ → Bool) → ReadsWithin r → (e p l : ℕ) (x : Entry) (xs : List Entry) → MayComeAfter r.Has true p x.position → IsEntry r a.size x → x.position ≤ e → LeadsOn r a marks e l x.position xs → LeadsOn r a marks e l p (x ∷ xs)
one_entry r a marks within e p l x xs after entry le rest q fresh j w h done b agree = let le' = has_read_before r fresh q p h in let lt = after.later in absurd (omega arith)
one_entry r a marks within e p l x xs after entry le rest q fresh j w h (step {tight = tight} {k = k} {q = q'} {w = w'} f y z s) b agree = go (cases_order x.position q')
  where
    go : (x.position ≡ q') ⊎ ((x.position < q') ⊎ (q' < x.position)) → Leads a marks fresh j (x ∷ xs)
    go (inl eq) = same x eq after.later entry rest
      where
        same : (x : Entry) → x.position ≡ q' → p < x.position → IsEntry r a.size x → LeadsOn r a marks e l x.position xs → Leads a marks fresh j (x ∷ xs)
        same x eq lt entry rest = reads_it r a marks fresh tight j k q p l e x xs w' lt entry h f (subst (λ n. MayComeAfter r.Has tight q n) (sym eq) y) (subst (λ n. r.Reads k n) (sym eq) z) (subst (λ n. Steps r (Follow a) k n w' l e) (sym eq) s) (subst (λ n. HaveMarks r marks a.marked p e (record { leaf = k; position = n } ∷ w')) (sym eq) agree) (λ m. rest x.position true k w' refl (subst (λ n. Steps r (Follow a) k n w' l e) (sym eq) s) (subst (λ n. IsBeyond n w') (sym eq) (steps_beyond s)) m)
    go (inr (inl lt)) = skips_it r a marks fresh j q p l e x xs (record { leaf = k; position = q' } ∷ w') after.later le entry (step f y z s) lt agree (λ m. rest q false j (record { leaf = k; position = q' } ∷ w') ((let le' = has_read_before r fresh q p h in let lt' = after.later in omega arith), entry.within) (step f y z s) lt m)
    go (inr (inr gt)) = absurd (after.next refl q' (within k q' z) b gt)

no_entry : (r : Reading) (a : Automaton) (marks : ℕ → Bool) (e l p : ℕ) → a.last l ≡ true → p ≡ e → LeadsOn r a marks e l p []
no_entry r a marks e l p t c q fresh j w h s b agree = at_end r a marks fresh j q p l e w c h s b t

pub leads_of_steps : (r : Reading) (a : Automaton) (marks : ℕ → Bool) → ReadsWithin r → (e l : ℕ) (xs : List Entry) (p : ℕ) → a.last l ≡ true → CoverAfter r a.size p xs e → LeadsOn r a marks e l p xs
leads_of_steps r a marks within e l [] p t c = no_entry r a marks e l p t c
leads_of_steps r a marks within e l (x ∷ xs) p t c = one_entry r a marks within e p l x xs c.0 c.1 (cover_rises r a.size x.position e xs c.2) (leads_of_steps r a marks within e l xs x.position t c.2)
