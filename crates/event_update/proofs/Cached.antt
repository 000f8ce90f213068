-- What the table tells of the states stays told as it grows.
use Rattle.std.proofs.Common.{◌≡◌, ℕ, zero, suc, ◌+◌, ◌<◌, ◌≤◌, Bool, true, List, [], ◌∷◌, ◌++◌, map, length, take, refl, sym, ap, subst, ◌∙◌, inl, inr, All, Contains, Option, Some, None, Result, Ok, Err, OnErr, IfOk, arith, append_assoc, slice_get, length-append}
use Rattle.std.specs.Map.{lookup}
use Rattle.std.proofs.lemmas.Bool.{cases_Bool}
use Rattle.std.proofs.lemmas.List.{append-nil}
use Rattle.std.proofs.lemmas.List.Elements.{All-nil, All-weaker, All-append}
use Rattle.cer_base.specs.declared.Memory.{Memory}
use Rattle.cer_base.specs.declared.node.Root.{Root}
use Rattle.cea_determinise.specs.declared.cea.StateSets.{StateSets}
use Rattle.cea_determinise.specs.declared.table.TransitionKey.{TransitionKey}
use Rattle.cea_determinise.specs.declared.table.Successors.{Successors}
use Rattle.cea_determinise.specs.Keys.{is_same_key, Decides-key}
use Rattle.cea_determinise.specs.Cea.{standing_of}
use Rattle.cea_determinise.specs.LazyDfa.{Table, event_class_at, standing_after, AreSuccessors, Reached}
use Rattle.cea_determinise.proofs.Growth.{successors_later, successors_with_event_classes, event_class-later, after_later}
use Rattle.event_update.specs.Update.{cached_in, IsCached, AreCached, Discovers}
use Rattle.cea_determinise.specs.Rows.{GoTo}
use Rattle.event_update.proofs.Narrow.{here, there, cons_cases}
use Rattle.event_update.proofs.Finding.{all_at}

lookup_more : (test : TransitionKey → Bool) (xs ys : List (TransitionKey × Successors)) (s : Successors) → lookup test xs ≡ Some s → lookup test (xs ++ ys) ≡ Some s
lookup_more test [] ys s h = absurd cc
lookup_more test (x ∷ xs) ys s h = elim (cases_Bool (test x.0)) [
  | inl hit ↦ rw hit (let g : Some x.1 ≡ Some s = rw hit at h in g)
  | inr miss ↦ rw miss (lookup_more test xs ys s (let g : lookup test xs ≡ Some s = rw miss at h in g))
]

lookup_last : (test : TransitionKey → Bool) (xs : List (TransitionKey × Successors)) (p : TransitionKey) (s : Successors) → test p ≡ true → lookup test xs ≡ None → lookup test (xs ++ (p, s) ∷ []) ≡ Some s
lookup_last test [] p s hit none = rw hit refl
lookup_last test (x ∷ xs) p s hit none = elim (cases_Bool (test x.0)) [
  | inl t ↦ absurd (let g : Some x.1 ≡ None = rw t at none in cc)
  | inr miss ↦ rw miss (lookup_last test xs p s hit (let g : lookup test xs ≡ None = rw miss at none in g))
]

pub cached_later : (t u : Table) (ns : List ℕ) (bits : List Bool) → Discovers t ns bits u → (event_class n : ℕ) (s : Successors) → IsCached t event_class n s → IsCached u event_class n s
cached_later t u ns bits d event_class n s k =
    let key : TransitionKey = record { state = n; event_class = event_class } in
    let right : AreSuccessors t.cea u.states t.event_classes key s = successors_later t.cea t.states u.states d.more t.event_classes key s d.states k.right in
    let more : AreSuccessors t.cea u.states (t.event_classes ++ d.more_event_classes) key s = successors_with_event_classes t.cea u.states t.event_classes d.more_event_classes key s right in
    record {
      told = ap (lookup (is_same_key key)) d.transitions ∙ lookup_more (is_same_key key) t.transitions d.more_transitions s k.told;
      right = subst (λ c. AreSuccessors c u.states u.event_classes key s) (sym d.cea) (subst (λ cs. AreSuccessors t.cea u.states cs key s) (sym d.event_classes) more);
    }

pub all_cached_later : (t u : Table) (ns : List ℕ) (bits : List Bool) → Discovers t ns bits u → (event_class : ℕ) (ms : List ℕ) (ss : List Successors) → AreCached t event_class ms ss → AreCached u event_class ms ss
all_cached_later t u ns bits d event_class [] [] h = tt
all_cached_later t u ns bits d event_class [] (s ∷ ss) h = absurd h
all_cached_later t u ns bits d event_class (m ∷ ms) [] h = absurd h
all_cached_later t u ns bits d event_class (m ∷ ms) (s ∷ ss) h = (cached_later t u ns bits d event_class m s h.0, all_cached_later t u ns bits d event_class ms ss h.1)

pub cached_push : (t : Table) (event_class : ℕ) (ms : List ℕ) (ss : List Successors) (n : ℕ) (s : Successors) → AreCached t event_class ms ss → IsCached t event_class n s → AreCached t event_class (ms ++ n ∷ []) (ss ++ s ∷ [])
cached_push t event_class [] [] n s h k = (k, tt)
cached_push t event_class [] (r ∷ ss) n s h k = absurd h
cached_push t event_class (m ∷ ms) [] n s h k = absurd h
cached_push t event_class (m ∷ ms) (r ∷ ss) n s h k = (h.0, cached_push t event_class ms ss n s h.1 k)

pub cached_length : (t : Table) (event_class : ℕ) (ms : List ℕ) (ss : List Successors) → AreCached t event_class ms ss → length ss ≡ length ms
cached_length t event_class [] [] h = refl
cached_length t event_class [] (r ∷ ss) h = absurd h
cached_length t event_class (m ∷ ms) [] h = absurd h
cached_length t event_class (m ∷ ms) (r ∷ ss) h = ap suc (cached_length t event_class ms ss h.1)

-- a class keeps its leaves
pub same_event_class : (old new : Table) (ns : List ℕ) (bits : List Bool) → Discovers old ns bits new → (event_class : ℕ) → event_class < length old.event_classes → event_class_at new.event_classes event_class ≡ event_class_at old.event_classes event_class
same_event_class old new ns bits d event_class h = ap (λ cs. event_class_at cs event_class) d.event_classes ∙ event_class-later old.event_classes d.more_event_classes event_class h

pub event_class_found_later : (old new : Table) (ns : List ℕ) (bits : List Bool) → Discovers old ns bits new → (event_class : ℕ) (leaves : List Bool) → slice_get old.event_classes event_class ≡ Some leaves → slice_get new.event_classes event_class ≡ Some leaves
event_class_found_later old new ns bits d event_class leaves at = ap (λ cs. slice_get cs event_class) d.event_classes ∙ found old.event_classes event_class at
  where
    found : (cs : List (List Bool)) (k : ℕ) → slice_get cs k ≡ Some leaves → slice_get (cs ++ d.more_event_classes) k ≡ Some leaves
    found [] k e = absurd cc
    found (c ∷ cs) zero e = e
    found (c ∷ cs) (suc k) e = found cs k e

pub event_class_stays : (old new : Table) (ns : List ℕ) (bits : List Bool) → Discovers old ns bits new → (event_class : ℕ) → event_class < length old.event_classes → event_class < length new.event_classes
event_class_stays old new ns bits d event_class h = let e = ap length d.event_classes in omega (arith, simp length-append at e)

-- what one look-up does
pub record IsLookedUp (old : Table) (n event_class : ℕ) (bits : List Bool) (r : Result Successors Memory) (new : Table) : Type 0 where
  pub found : Discovers old (n ∷ []) bits new
  pub cached : IfOk r (IsCached new event_class n)

states_reached : (old : Table) (n : ℕ) (bits : List Bool) (more : List StateSets) → All (λ p. (mark : Bool) × (Some (standing_of p) ≡ standing_after old.cea old.states n bits mark)) more → All (λ p. (m : ℕ) × Contains (n ∷ []) m × (mark : Bool) × (Some (standing_of p) ≡ standing_after old.cea old.states m bits mark)) more
states_reached old n bits more h = All-weaker (λ p. (mark : Bool) × (Some (standing_of p) ≡ standing_after old.cea old.states n bits mark)) (λ p. (m : ℕ) × Contains (n ∷ []) m × (mark : Bool) × (Some (standing_of p) ≡ standing_after old.cea old.states m bits mark)) (λ p w. (n, here n [], w.0, w.1)) more h

pub looked_up : (old new : Table) (n event_class : ℕ) (bits : List Bool) (r : Result Successors Memory) (X : Type 0) → Reached old n bits new → ((s : Successors) → cached_in old event_class n ≡ Some s → (r ≡ Ok s) × (new ≡ old) × X) → OnErr r (new.transitions ≡ old.transitions) → (cached_in old event_class n ≡ None → IfOk r (λ s. new.transitions ≡ old.transitions ++ (record { state = n; event_class = event_class }, s) ∷ [])) → IfOk r (AreSuccessors new.cea new.states new.event_classes (record { state = n; event_class = event_class })) → IsLookedUp old n event_class bits r new
looked_up old new n event_class bits r X reached cached refused added right = by (cached_in old event_class n) refl r cached refused added right
  where
    key : TransitionKey
    key = record { state = n; event_class = event_class }

    told : (more : List (TransitionKey × Successors)) → new.transitions ≡ old.transitions ++ more → Discovers old (n ∷ []) bits new
    told more e = record { cea = reached.cea; more = reached.more; states = reached.states; reached = states_reached old n bits reached.more reached.reached; more_event_classes = []; event_classes = reached.event_classes ∙ sym (append-nil old.event_classes); more_transitions = more; transitions = e }

    by : (o : Option Successors) → cached_in old event_class n ≡ o → (q : Result Successors Memory) → ((s : Successors) → cached_in old event_class n ≡ Some s → (q ≡ Ok s) × (new ≡ old) × X) → OnErr q (new.transitions ≡ old.transitions) → (cached_in old event_class n ≡ None → IfOk q (λ s. new.transitions ≡ old.transitions ++ (record { state = n; event_class = event_class }, s) ∷ [])) → IfOk q (AreSuccessors new.cea new.states new.event_classes (record { state = n; event_class = event_class })) → IsLookedUp old n event_class bits q new
    by (Some s) e (Ok a) was err new_pair is =
        let w = was s e in
        let same : a ≡ s = cc in
        let transitions : new.transitions ≡ old.transitions = ap (λ (t : Table). t.transitions) w.1 in
        let there : cached_in new event_class n ≡ Some a = ap (lookup (is_same_key (record { state = n; event_class = event_class }))) transitions ∙ e ∙ ap (λ x. Some x) (sym same) in
        record { found = told [] (transitions ∙ sym (append-nil old.transitions)); cached = record { told = there; right = is } }
    by (Some s) e (Err m) was err new_pair is = record { found = told [] (err ∙ sym (append-nil old.transitions)); cached = tt }
    by None e (Ok a) was err new_pair is =
        let transitions = new_pair e in
        let there : cached_in new event_class n ≡ Some a = ap (lookup (is_same_key (record { state = n; event_class = event_class }))) transitions ∙ lookup_last (is_same_key (record { state = n; event_class = event_class })) old.transitions (record { state = n; event_class = event_class }) a ((Decides-key (record { state = n; event_class = event_class }) (record { state = n; event_class = event_class })).1 refl) e in
        record { found = told ((record { state = n; event_class = event_class }, a) ∷ []) transitions; cached = record { told = there; right = is } }
    by None e (Err m) was err new_pair is = record { found = told [] (err ∙ sym (append-nil old.transitions)); cached = tt }

-- one state more
pub discovers_next : (a b c : Table) (ns : List ℕ) (n : ℕ) (bits : List Bool) → Discovers a ns bits b → Discovers b (n ∷ []) bits c → Contains ns n → n ≤ length a.states → Discovers a ns bits c
discovers_next a b c ns n bits d e has le = record {
  cea = e.cea ∙ d.cea;
  more = d.more ++ e.more;
  states = e.states ∙ ap (λ (ps : List StateSets). ps ++ e.more) d.states ∙ append_assoc a.states d.more e.more;
  reached = All-append P d.more e.more d.reached (All-weaker Q P (λ p w. (n, has, w.2, w.3 ∙ moved w.0 w.1 w.2)) e.more e.reached);
  more_event_classes = d.more_event_classes ++ e.more_event_classes;
  event_classes = e.event_classes ∙ ap (λ (cs : List (List Bool)). cs ++ e.more_event_classes) d.event_classes ∙ append_assoc a.event_classes d.more_event_classes e.more_event_classes;
  more_transitions = d.more_transitions ++ e.more_transitions;
  transitions = e.transitions ∙ ap (λ (ps : List (TransitionKey × Successors)). ps ++ e.more_transitions) d.transitions ∙ append_assoc a.transitions d.more_transitions e.more_transitions;
} where
  P : StateSets → Type 0
  P p = (m : ℕ) × Contains ns m × (mark : Bool) × (Some (standing_of p) ≡ standing_after a.cea a.states m bits mark)

  Q : StateSets → Type 0
  Q p = (m : ℕ) × Contains (n ∷ []) m × (mark : Bool) × (Some (standing_of p) ≡ standing_after b.cea b.states m bits mark)

  moved : (m : ℕ) → Contains (n ∷ []) m → (mark : Bool) → standing_after b.cea b.states m bits mark ≡ standing_after a.cea a.states n bits mark
  moved m h mark =
      let same : n ≡ m = elim (cons_cases n m [] h) [ inl s ↦ s | inr none ↦ absurd (let k = none.1 in omega arith) ] in
      ap (λ i. standing_after b.cea b.states i bits mark) (sym same) ∙ ap (λ cea. standing_after cea b.states n bits mark) d.cea ∙ after_later a.cea a.states b.states d.more n bits mark d.states le

-- The first turn and the next ones.

pub take_more : {A : Type 0} (xs : List A) (k : ℕ) (x : A) → slice_get xs k ≡ Some x → take (suc k) xs ≡ take k xs ++ x ∷ []
take_more [] k x at = absurd cc
take_more (y ∷ ys) zero x at = let same : y ≡ x = cc in ap (λ z. z ∷ []) same
take_more (y ∷ ys) (suc k) x at = ap (λ zs. y ∷ zs) (take_more ys k x at)

pub take_all : {A : Type 0} (xs : List A) (k : ℕ) → length xs ≤ k → take k xs ≡ xs
take_all [] zero h = refl
take_all [] (suc k) h = refl
take_all (x ∷ xs) zero h = absurd (omega arith)
take_all (x ∷ xs) (suc k) h = ap (λ zs. x ∷ zs) (take_all xs k (omega arith))

-- what has been looked up so far
pub record IsSoFar (old : Table) (ns : List ℕ) (bits : List Bool) (event_class k : ℕ) (new : Table) (moves : List Successors) : Type 0 where
  pub cached : AreCached new event_class (0 ∷ take k ns) moves
  pub found : Discovers old (0 ∷ ns) bits new

pub first_found : (old new : Table) (ns : List ℕ) (bits : List Bool) → Discovers old (0 ∷ []) bits new → Discovers old (0 ∷ ns) bits new
first_found old new ns bits d = discovers_next old old new (0 ∷ ns) 0 bits (record { cea = refl; more = []; states = sym (append-nil old.states); reached = All-nil P; more_event_classes = []; event_classes = sym (append-nil old.event_classes); more_transitions = []; transitions = sym (append-nil old.transitions) }) d (here 0 ns) (omega arith)
  where
    P : StateSets → Type 0
    P p = (m : ℕ) × Contains (0 ∷ ns) m × (mark : Bool) × (Some (standing_of p) ≡ standing_after old.cea old.states m bits mark)

pub so_far_first : (old new : Table) (ns : List ℕ) (bits : List Bool) (event_class : ℕ) (moves moves_new : List Successors) (s : Successors) → moves ≡ [] → Discovers old (0 ∷ []) bits new → IsCached new event_class 0 s → moves_new ≡ moves ++ s ∷ [] → IsSoFar old ns bits event_class 0 new moves_new
so_far_first old new ns bits event_class moves moves_new s empty d k e = record {
  cached = subst (AreCached new event_class (0 ∷ [])) (sym (e ∙ ap (λ ms. ms ++ s ∷ []) empty)) (k, tt);
  found = first_found old new ns bits d;
}

slice_within : (ns : List ℕ) (k n : ℕ) → slice_get ns k ≡ Some n → Contains ns n
slice_within [] k n at = absurd cc
slice_within (m ∷ ns) zero n at = let same : m ≡ n = cc in subst (Contains (m ∷ ns)) same (here m ns)
slice_within (m ∷ ns) (suc k) n at = there m n ns (slice_within ns k n at)

pub so_far_found : (old middle new : Table) (ns : List ℕ) (bits : List Bool) (event_class k n : ℕ) (moves : List Successors) → IsSoFar old ns bits event_class k middle moves → slice_get ns k ≡ Some n → n ≤ length old.states → Discovers middle (n ∷ []) bits new → Discovers old (0 ∷ ns) bits new
so_far_found old middle new ns bits event_class k n moves f at le d = discovers_next old middle new (0 ∷ ns) n bits f.found d (there 0 n ns (slice_within ns k n at)) le

pub so_far_next : (old middle new : Table) (ns : List ℕ) (bits : List Bool) (event_class k j n : ℕ) (s : Successors) (moves moves_new : List Successors) → IsSoFar old ns bits event_class k middle moves → j ≡ suc k → slice_get ns k ≡ Some n → n ≤ length old.states → Discovers middle (n ∷ []) bits new → IsCached new event_class n s → moves_new ≡ moves ++ s ∷ [] → IsSoFar old ns bits event_class j new moves_new
so_far_next old middle new ns bits event_class k j n s moves moves_new f step at le d cached e = record {
  cached =
      let whole : 0 ∷ take j ns ≡ (0 ∷ take k ns) ++ n ∷ [] = ap (λ i. 0 ∷ take i ns) step ∙ ap (λ zs. 0 ∷ zs) (take_more ns k n at) in
      subst (λ ms. AreCached new event_class (0 ∷ take j ns) ms) (sym e) (subst (λ zs. AreCached new event_class zs (moves ++ s ∷ [])) (sym whole) (cached_push new event_class (0 ∷ take k ns) moves n s (all_cached_later middle new (n ∷ []) bits d event_class (0 ∷ take k ns) moves f.cached) cached));
  found = so_far_found old middle new ns bits event_class k n moves f at le d;
}

pub number_later : (old new : Table) (ns : List ℕ) (bits : List Bool) → Discovers old ns bits new → length old.states ≤ length new.states
number_later old new ns bits d = let e = ap length d.states in omega (arith, simp length-append at e)

-- the test whether nothing changes
pub map_push : {A B : Type 0} (f : A → B) (xs : List A) (x : A) → map f (xs ++ x ∷ []) ≡ map f xs ++ f x ∷ []
map_push f [] x = refl
map_push f (y ∷ ys) x = ap (λ zs. f y ∷ zs) (map_push f ys x)

pub stay_next : (ns : List ℕ) (moves : List Successors) (k j n : ℕ) (m : Successors) → j ≡ suc k → GoTo (take k ns) (take (k + 1) moves) → slice_get ns k ≡ Some n → slice_get moves (k + 1) ≡ Some m → m ≡ record { marked = None; unmarked = Some n } → GoTo (take j ns) (take (j + 1) moves)
stay_next ns moves k j n m step h at moved own =
    let f : ℕ → Successors = λ i. record { marked = None; unmarked = Some i } in
    let first : Successors = record { marked = None; unmarked = None } in
    ap (λ i. take i moves) (let e : j + 1 ≡ suc (k + 1) = omega (arith, step) in e)
    ∙ take_more moves (k + 1) m moved
    ∙ ap (λ ms. ms ++ m ∷ []) h
    ∙ ap (λ x. (first ∷ map f (take k ns)) ++ x ∷ []) own
    ∙ ap (λ ms. first ∷ ms) (sym (map_push f (take k ns) n))
    ∙ ap (λ is. first ∷ map f is) (sym (take_more ns k n at))
    ∙ ap (λ i. first ∷ map f (take i ns)) (sym step)

pub stay_all : (ns : List ℕ) (moves : List Successors) (k : ℕ) → length ns ≤ k → length moves ≤ k + 1 → GoTo (take k ns) (take (k + 1) moves) → GoTo ns moves
stay_all ns moves k a b h =
    let f : ℕ → Successors = λ i. record { marked = None; unmarked = Some i } in
    sym (take_all moves (k + 1) b) ∙ h ∙ ap (λ is. record { marked = None; unmarked = None } ∷ map f is) (take_all ns k a)

pub stay_none : (ns : List ℕ) (moves : List Successors) (m : Successors) → slice_get moves 0 ≡ Some m → m ≡ record { marked = None; unmarked = None } → GoTo (take 0 ns) (take 1 moves)
stay_none ns [] m at e = absurd cc
stay_none ns (x ∷ xs) m at e = let same : x ≡ m = cc in ap (λ z. z ∷ []) (same ∙ e)

pub keys_length : (rows : List (ℕ × List Root)) → length (map (λ (r : ℕ × List Root). r.0) rows) ≡ length rows
keys_length [] = refl
keys_length (r ∷ rows) = ap suc (keys_length rows)

pub key_within : (P : ℕ → Type 0) (ns : List ℕ) (k n : ℕ) → slice_get ns k ≡ Some n → All P ns → P n
key_within P ns k n at h = all_at P ns k n at h
