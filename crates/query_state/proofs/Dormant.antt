-- Lists that are known to be dormant.
use Rattle.std.proofs.Common.{◌≡◌, ◌≢◌, ℕ, zero, suc, ◌+◌, ◌-◌, ◌<◌, ◌≤◌, inl, inr, Bool, true, false, List, [], ◌∷◌, ◌++◌, map, take, length, refl, sym, ap, subst, ◌∙◌, All, Option, Some, None, IfSome, slice_get, slice_set, slice_index_or, arith}
use Rattle.std.specs.Prelude.{if◌then◌else◌, replicate}
use Rattle.std.proofs.lemmas.Bool.{cases_eq}
use Rattle.std.proofs.lemmas.List.{take_all}
use Rattle.std.proofs.lemmas.List.Elements.{All-nil, All-cons, All-head, All-tail, All-weaker}
use Rattle.cea_determinise.specs.LazyDfa.{Table}
use Rattle.cer_base.specs.declared.node.Root.{Root}
use Rattle.event_update.specs.Dormancy.{IsDormantState, AreDormant, AreNoOp}
use Rattle.event_update.specs.Update.{Discovers}
use Rattle.event_update.proofs.Dormant.{dormant_stay}
use Rattle.event_update.proofs.Passing.{no_op_stay}
use Rattle.query_state.specs.declared.lists.Lists.{Lists}
use Rattle.query_standing.specs.Kept.{Rows}
use Rattle.query_state.specs.Matches.{IsNoOpSet, MayBeDormant, AreDormantStates, active_keys_in}

still_no_op : {P Q : ℕ → Type 0} (o : Option ℕ) → ((n : ℕ) → P n → Q n) → IfSome o P → IfSome o Q
still_no_op None f h = h
still_no_op (Some n) f h = f n h

-- what is known of lists stays known as the table grows
pub rest_later : (old new : Table) (sets : List (List Bool)) (from : List ℕ) (bits : List Bool) (ls : List Lists) → Discovers old from bits new → All (MayBeDormant old sets) ls → All (MayBeDormant new sets) ls
rest_later old new sets from bits ls d h = All-weaker (MayBeDormant old sets) (MayBeDormant new sets) (λ l is. record {
  once = is.once;
  rest = λ known. dormant_stay old new from bits l.active.entries d (is.rest known);
  no_op = still_no_op l.no_op (λ n (s : IsNoOpSet old sets l.active.entries n). record { leaves = s.leaves; at = s.at; no_op = no_op_stay old new from bits s.leaves l.active.entries d s.no_op }) is.no_op;
}) ls h

-- and as there are more sets
pub more_sets : (t : Table) (old new : List (List Bool)) (ls : List Lists) → ((n : ℕ) (leaves : List Bool) → slice_get old n ≡ Some leaves → slice_get new n ≡ Some leaves) → All (MayBeDormant t old) ls → All (MayBeDormant t new) ls
more_sets t old new ls kept h = All-weaker (MayBeDormant t old) (MayBeDormant t new) (λ l is. record {
  once = is.once;
  rest = is.rest;
  no_op = still_no_op l.no_op (λ n (s : IsNoOpSet t old l.active.entries n). record { leaves = s.leaves; at = kept n s.leaves s.at; no_op = s.no_op }) is.no_op;
}) ls h

-- a set of leaves whose events are no-ops
pub is_no_op_set : (t : Table) (sets : List (List Bool)) (rows : Rows) (leaves : List Bool) (number : Option ℕ) → AreNoOp t leaves rows → IfSome number (λ n. slice_get sets n ≡ Some leaves) → IfSome number (IsNoOpSet t sets rows)
is_no_op_set t sets rows leaves None no_op at = at
is_no_op_set t sets rows leaves (Some n) no_op at = record { leaves = leaves; at = at; no_op = no_op }

-- other lists at a place
pub noted_all : (P : Lists → Type 0) (ls : List Lists) (n : ℕ) (l : Lists) → All P ls → P l → All P (slice_set ls n l)
noted_all P [] n l h one = h
noted_all P (x ∷ ls) zero l h one = All-cons P l ls one (All-tail P x ls h)
noted_all P (x ∷ ls) (suc n) l h one = All-cons P x (slice_set ls n l) (All-head P x ls h) (noted_all P ls n l (All-tail P x ls h) one)

pub row_there : (ls : List Lists) (n : ℕ) (d : Lists) → n < length ls → slice_get (map (λ (l : Lists). l.active.entries) ls) n ≡ Some (slice_index_or ls n d).active.entries
row_there [] n d less = absurd (omega arith)
row_there (x ∷ ls) zero d less = refl
row_there (x ∷ ls) (suc n) d less = row_there ls n d (omega arith)

pub all_there : (P : Lists → Type 0) (ls : List Lists) (n : ℕ) (l : Lists) → n < length ls → l ≡ slice_index_or ls n l → All P ls → P l
all_there P ls n l less e h = subst P (sym e) (h n l less)

pub take_same : {A B : Type 0} (n : ℕ) (xs : List A) (ys : List B) → length xs ≡ length ys → length (take n xs) ≡ length (take n ys)
take_same zero xs ys e = refl
take_same (suc n) [] [] e = refl
take_same (suc n) [] (y ∷ ys) e = absurd (omega arith)
take_same (suc n) (x ∷ xs) [] e = absurd (omega arith)
take_same (suc n) (x ∷ xs) (y ∷ ys) e = ap suc (take_same n xs ys (omega arith))

pub set_long : (ls : List Lists) (n : ℕ) (l : Lists) → length (slice_set ls n l) ≡ length ls
set_long [] n l = refl
set_long (x ∷ ls) zero l = refl
set_long (x ∷ ls) (suc n) l = ap suc (set_long ls n l)

-- one more of the first lists
pub taken_set : (P : Lists → Type 0) (ls : List Lists) (k : ℕ) (l : Lists) → k < length ls → All P (take k ls) → P l → All P (take (suc k) (slice_set ls k l))
taken_set P [] k l less h one = absurd (omega arith)
taken_set P (x ∷ ls) zero l less h one = All-cons P l [] one (All-nil P)
taken_set P (x ∷ ls) (suc k) l less h one = All-cons P x (take (suc k) (slice_set ls k l)) (All-head P x (take k ls) h) (taken_set P ls k l (omega arith) (All-tail P x (take k ls) h) one)

pub one_more : {X : Type 0} (P : X → Type 0) (xs : List X) (k : ℕ) (x : X) → slice_get xs k ≡ Some x → All P (take k xs) → P x → All P (take (suc k) xs)
one_more P [] k x at h one = absurd cc
one_more P (y ∷ xs) zero x at h one = let same : y ≡ x = cc in All-cons P y [] (subst P (sym same) one) (All-nil P)
one_more P (y ∷ xs) (suc k) x at h one = All-cons P y (take (suc k) xs) (All-head P y (take k xs) h) (one_more P xs k x at (All-tail P y (take k xs) h) one)

-- lists at a place that are the same there
pub rows_set : (ls : List Lists) (n : ℕ) (d l : Lists) → n < length ls → l.active.entries ≡ (slice_index_or ls n d).active.entries → map (λ (x : Lists). x.active.entries) (slice_set ls n l) ≡ map (λ (x : Lists). x.active.entries) ls
rows_set [] n d l less e = absurd (omega arith)
rows_set (x ∷ ls) zero d l less e = ap (λ rs. rs ∷ map (λ (y : Lists). y.active.entries) ls) e
rows_set (x ∷ ls) (suc n) d l less e = ap (λ rs. x.active.entries ∷ rs) (rows_set ls n d l (omega arith) e)

-- what is left where the last one is taken away again
pub popped : (ls : List Lists) (l : Lists) (n : ℕ) → length (take n (ls ++ l ∷ [])) ≡ length ls → take n (ls ++ l ∷ []) ≡ ls
popped [] l zero e = refl
popped [] l (suc n) e = absurd (omega arith)
popped (x ∷ ls) l zero e = absurd (omega arith)
popped (x ∷ ls) l (suc n) e = ap (λ zs. x ∷ zs) (popped ls l n (omega arith))

-- a state that is known to be dormant is so as the table grows
pub still_later : (old new : Table) (from : List ℕ) (bits : List Bool) (dormant_states : List Bool) → Discovers old from bits new → AreDormantStates old dormant_states → AreDormantStates new dormant_states
still_later old new from bits dormant_states d h n known = All-head (λ (r : ℕ × List Root). IsDormantState new r.0) (n, []) [] (dormant_stay old new from bits ((n, []) ∷ []) d (All-cons (λ (r : ℕ × List Root). IsDormantState old r.0) (n, []) [] (h n known) (All-nil (λ (r : ℕ × List Root). IsDormantState old r.0))))

-- where none is marked
pub none_still : (t : Table) → AreDormantStates t []
none_still t n known = absurd cc

-- lists of states that are dormant are dormant
pub still_rest : (t : Table) (dormant_states : List Bool) (rows : Rows) → AreDormantStates t dormant_states → All (λ n. slice_index_or dormant_states n false ≡ true) (map (λ (r : ℕ × List Root). r.0) rows) → AreDormant t rows
still_rest t dormant_states [] h known = All-nil (λ (r : ℕ × List Root). IsDormantState t r.0)
still_rest t dormant_states (r ∷ rows) h known =
    All-cons (λ (q : ℕ × List Root). IsDormantState t q.0) r rows
    (h r.0 (All-head (λ n. slice_index_or dormant_states n false ≡ true) r.0 (map (λ (q : ℕ × List Root). q.0) rows) known))
    (still_rest t dormant_states rows h (All-tail (λ n. slice_index_or dormant_states n false ≡ true) r.0 (map (λ (q : ℕ × List Root). q.0) rows) known))

-- the states of dormant lists are dormant
pub rest_states : (t : Table) (rows : Rows) → AreDormant t rows → All (IsDormantState t) (map (λ (r : ℕ × List Root). r.0) rows)
rest_states t [] rest = All-nil (IsDormantState t)
rest_states t (r ∷ rows) rest =
    All-cons (IsDormantState t) r.0 (map (λ (q : ℕ × List Root). q.0) rows)
    (All-head (λ (q : ℕ × List Root). IsDormantState t q.0) r rows rest)
    (rest_states t rows (All-tail (λ (q : ℕ × List Root). IsDormantState t q.0) r rows rest))

-- a place more that is marked
pub marked_still : (t : Table) (dormant_states : List Bool) (place : ℕ) → AreDormantStates t dormant_states → IsDormantState t place → AreDormantStates t (slice_set dormant_states place true)
marked_still t dormant_states place h rest n known = elim (cases_eq n place) [
  | inl same ↦ subst (IsDormantState t) (sym same) rest
  | inr apart ↦ h n (sym (other dormant_states place n apart) ∙ known)
] where
  other : (xs : List Bool) (place n : ℕ) → n ≢ place → slice_index_or (slice_set xs place true) n false ≡ slice_index_or xs n false
  other [] place n apart = refl
  other (x ∷ xs) zero zero apart = absurd (apart refl)
  other (x ∷ xs) zero (suc n) apart = refl
  other (x ∷ xs) (suc place) zero apart = refl
  other (x ∷ xs) (suc place) (suc n) apart = other xs place n (λ e. apart (ap suc e))

-- more places, of which none is marked
pub more_room : (b : Bool) (xs new : List Bool) (size more k : ℕ) → length xs ≤ size → new ≡ (if b then take size xs ++ replicate more false else xs) → slice_index_or new k false ≡ slice_index_or xs k false
more_room false xs new size more k le e = ap (λ zs. slice_index_or zs k false) e
more_room true xs new size more k le e = ap (λ zs. slice_index_or zs k false) e ∙ (ap (λ zs. slice_index_or (zs ++ replicate more false) k false) (take_all size xs le) ∙ behind xs k)
  where
    blank : (more k : ℕ) → slice_index_or (replicate more false) k false ≡ false
    blank zero k = refl
    blank (suc more) zero = refl
    blank (suc more) (suc k) = blank more k

    behind : (xs : List Bool) (k : ℕ) → slice_index_or (xs ++ replicate more false) k false ≡ slice_index_or xs k false
    behind [] k = blank more k
    behind (x ∷ xs) zero = refl
    behind (x ∷ xs) (suc k) = behind xs k

-- how many keys' lists are not known to be dormant

-- it does not matter which of two is counted first
swapped : (a b : Bool) (n : ℕ) → (if a then (if b then n else suc n) else suc (if b then n else suc n)) ≡ (if b then (if a then n else suc n) else suc (if a then n else suc n))
swapped true true n = refl
swapped true false n = refl
swapped false true n = refl
swapped false false n = refl

pub active_keys_most : (ls : List Lists) → active_keys_in ls ≤ length ls
active_keys_most [] = omega arith
active_keys_most (l ∷ ls) = go l.is_dormant (active_keys_most ls)
  where
    go : (b : Bool) → active_keys_in ls ≤ length ls → (if b then active_keys_in ls else suc (active_keys_in ls)) ≤ suc (length ls)
    go true le = omega arith
    go false le = omega arith

pub active_keys_few : (k : ℕ) (ls : List Lists) → active_keys_in (take k ls) ≤ k
active_keys_few zero ls = omega arith
active_keys_few (suc k) [] = omega arith
active_keys_few (suc k) (l ∷ ls) = go l.is_dormant (active_keys_few k ls)
  where
    go : (b : Bool) → active_keys_in (take k ls) ≤ k → (if b then active_keys_in (take k ls) else suc (active_keys_in (take k ls))) ≤ suc k
    go true le = omega arith
    go false le = omega arith

-- one more of the first lists
pub active_keys_next : (ls : List Lists) (k : ℕ) (l : Lists) → k < length ls → active_keys_in (take (suc k) (slice_set ls k l)) ≡ (if l.is_dormant then active_keys_in (take k ls) else suc (active_keys_in (take k ls)))
active_keys_next [] k l less = absurd (omega arith)
active_keys_next (x ∷ ls) zero l less = refl
active_keys_next (x ∷ ls) (suc k) l less = ap (λ n. if x.is_dormant then n else suc n) (active_keys_next ls k l (omega arith)) ∙ swapped x.is_dormant l.is_dormant (active_keys_in (take k ls))

-- where none is active all are known to be dormant
pub none_active_keys : (t : Table) (sets : List (List Bool)) (ls : List Lists) → active_keys_in ls ≡ 0 → All (MayBeDormant t sets) ls → All (AreDormant t) (map (λ (l : Lists). l.active.entries) ls)
none_active_keys t sets [] none may = All-nil (AreDormant t)
none_active_keys t sets (l ∷ ls) none may = go l.is_dormant refl none (λ later. none_active_keys t sets ls later (All-tail (MayBeDormant t sets) l ls may))
  where
    go : (b : Bool) → l.is_dormant ≡ b → (if b then active_keys_in ls else suc (active_keys_in ls)) ≡ 0 → (active_keys_in ls ≡ 0 → All (AreDormant t) (map (λ (x : Lists). x.active.entries) ls)) → All (AreDormant t) (map (λ (x : Lists). x.active.entries) (l ∷ ls))
    go true e none later = All-cons (AreDormant t) l.active.entries (map (λ (x : Lists). x.active.entries) ls) ((All-head (MayBeDormant t sets) l ls may).rest e) (later none)
    go false e none later = absurd (omega arith)

pub active_keys_push : (ls : List Lists) (l : Lists) → active_keys_in (ls ++ l ∷ []) ≡ (if l.is_dormant then active_keys_in ls else suc (active_keys_in ls))
active_keys_push [] l = refl
active_keys_push (x ∷ ls) l = ap (λ n. if x.is_dormant then n else suc n) (active_keys_push ls l) ∙ swapped x.is_dormant l.is_dormant (active_keys_in ls)

-- what one key more or less makes of the count
abbrev pub Recounted : Bool → Bool → ℕ → ℕ → Type 0
Recounted true true old new = new ≡ old
Recounted true false old new = new ≡ old + 1
Recounted false true old new = old ≡ new + 1
Recounted false false old new = new ≡ old

pub recounted : (ls : List Lists) (n : ℕ) (d new : Lists) → n < length ls → Recounted (slice_index_or ls n d).is_dormant new.is_dormant (active_keys_in ls) (active_keys_in (slice_set ls n new))
recounted [] n d new less = absurd (omega arith)
recounted (x ∷ ls) zero d new less = go x.is_dormant new.is_dormant
  where
    go : (a b : Bool) → Recounted a b (if a then active_keys_in ls else suc (active_keys_in ls)) (if b then active_keys_in ls else suc (active_keys_in ls))
    go true true = refl
    go true false = omega arith
    go false true = omega arith
    go false false = refl
recounted (x ∷ ls) (suc n) d new less = go x.is_dormant (slice_index_or ls n d).is_dormant new.is_dormant (recounted ls n d new (omega arith))
  where
    go : (c a b : Bool) → Recounted a b (active_keys_in ls) (active_keys_in (slice_set ls n new)) → Recounted a b (if c then active_keys_in ls else suc (active_keys_in ls)) (if c then active_keys_in (slice_set ls n new) else suc (active_keys_in (slice_set ls n new)))
    go true a b h = h
    go false true true h = ap suc h
    go false true false h = omega arith
    go false false true h = omega arith
    go false false false h = ap suc h

-- the count that is kept stays right
pub count_kept : (ls : List Lists) (n : ℕ) (d new : Lists) (active_keys count result : ℕ) (rested is_dormant : Bool) → n < length ls → active_keys ≡ active_keys_in ls → count ≡ length ls → rested ≡ (slice_index_or ls n d).is_dormant → is_dormant ≡ new.is_dormant → (rested ≡ is_dormant → result ≡ active_keys) → (rested ≡ false → is_dormant ≡ true → result ≡ active_keys - 1) → (rested ≡ true → is_dormant ≡ false → active_keys < count → result ≡ active_keys + 1) → result ≡ active_keys_in (slice_set ls n new)
count_kept ls n d new active_keys count result rested is_dormant less active_keys_is count_is was is same fewer more = go rested is_dormant refl refl moved
  where
    moved : Recounted rested is_dormant (active_keys_in ls) (active_keys_in (slice_set ls n new))
    moved = subst (λ a. Recounted a is_dormant (active_keys_in ls) (active_keys_in (slice_set ls n new))) (sym was) (subst (λ b. Recounted (slice_index_or ls n d).is_dormant b (active_keys_in ls) (active_keys_in (slice_set ls n new))) (sym is) (recounted ls n d new less))

    go : (a b : Bool) → rested ≡ a → is_dormant ≡ b → Recounted a b (active_keys_in ls) (active_keys_in (slice_set ls n new)) → result ≡ active_keys_in (slice_set ls n new)
    go true true e f h = same (e ∙ sym f) ∙ (active_keys_is ∙ sym h)
    go false false e f h = same (e ∙ sym f) ∙ (active_keys_is ∙ sym h)
    go false true e f h = let r = fewer e f in omega arith
    go true false e f h =
        let most = active_keys_most (slice_set ls n new) in
        let long = set_long ls n new in
        let room : active_keys < count = omega arith in
        let r = more e f room in
        omega arith
