-- Where a query has an answer the search can begin.
use Rattle.std.proofs.Common.{◌≡◌, refl, ap, ◌∙◌, ℕ, ◌<◌, ◌⊎◌, inl, inr, Bool, true, false, not, ◌&&◌, ◌||◌, List, [], ◌∷◌}
use Rattle.std.proofs.lemmas.Bool.{and_parts, and_from, or_left, or_right, not_from_false, false≢true}
use Rattle.cer_base.specs.Bits.{has}
use Rattle.cea_determinise.specs.Runs.{LeafSet, Automaton, start, pair, follow, some_below, agrees, has_leaf, Entry, run, accepted_run}
use Rattle.cea_compile.specs.Paths.{Reading}
use Rattle.cea_compile.specs.Covers.{Cover}
use Rattle.cea_compile.proofs.Subsets.{IsMove, IsLive, Leads, ends, reads, skips, sound, kept_accepts, WasRead, Passed, came, fresh_after, waiting_after, read_parts}
use Rattle.cea_compile.proofs.Runs.{HasStart}
use Rattle.match_explain.specs.declared.turns.Turn.{Turn}
use Rattle.match_explain.specs.declared.moves.Last.{Last}
use Rattle.match_explain.specs.declared.moves.Last.TheVariants.{Start, Leaf as At}
use Rattle.match_explain.specs.declared.moves.Age.TheVariants.{Just, Earlier}
use Rattle.match_explain.specs.Searching.{may_read, passed, has_begun, can_finish, IsTurnOf, AreTurnsOf}
use Rattle.match_explain.proofs.Following.{some_below_is}

-- the leaf that has read the event just before, or an earlier one
abbrev pub last_at : Bool → ℕ → Last
last_at true k = At Just k
last_at false k = At Earlier k

far_move : (a : Automaton) (j k : ℕ) (tight : Bool) → follow a tight j k ≡ true → (tight ≡ true → false ≡ true) → a.far j k ≡ true
far_move a j k true f t = absurd (false≢true (t refl))
far_move a j k false f t = f

near_or_far : (a : Automaton) (j k : ℕ) (tight : Bool) → follow a tight j k ≡ true → (a.near j k || a.far j k) ≡ true
near_or_far a j k true f = or_left (a.near j k) (a.far j k) f
near_or_far a j k false f = or_right (a.near j k) (a.far j k) f

moves : (a : Automaton) (fresh : Bool) (j k : ℕ) → IsMove a fresh j k → may_read a (last_at fresh j) k ≡ true
moves a true j k m = near_or_far a j k m.tight m.follows
moves a false j k m = far_move a j k m.tight m.follows m.free

abbrev pub reads_on : Automaton → Last → Turn → List Turn → LeafSet
reads_on a last t ts j = may_read a last j && (has t.readers j && can_finish a (At Just j) ts)

abbrev pub passes_on : Automaton → Last → Turn → List Turn → Bool
passes_on a last t ts = has_begun last && (not t.marked && can_finish a (passed last) ts)

reader : (a : Automaton) (marks : ℕ → Bool) (x : Entry) (t : Turn) (k : ℕ) → IsTurnOf a marks x t → x.bits k ≡ true → agrees (marks x.position) (a.marked k) ≡ true → has t.readers k ≡ true
reader a marks x t k is y g = is.readers k ∙ and_from (x.bits k) (agrees t.marked (a.marked k)) y (ap (λ m. agrees m (a.marked k)) is.marked ∙ g)

read_on : (a : Automaton) (last : Last) (t : Turn) (ts : List Turn) (k : ℕ) → k < a.size → may_read a last k ≡ true → has t.readers k ≡ true → can_finish a (At Just k) ts ≡ true → can_finish a last (t ∷ ts) ≡ true
read_on a last t ts k b m r h =
    or_left (some_below a.size (reads_on a last t ts)) (passes_on a last t ts)
    ((some_below_is (reads_on a last t ts) a.size).1 (k, b, and_from (may_read a last k) (has t.readers k && can_finish a (At Just k) ts) m (and_from (has t.readers k) (can_finish a (At Just k) ts) r h)))

pass_on : (a : Automaton) (fresh : Bool) (j : ℕ) (t : Turn) (ts : List Turn) → t.marked ≡ false → can_finish a (At Earlier j) ts ≡ true → can_finish a (last_at fresh j) (t ∷ ts) ≡ true
pass_on a true j t ts m h =
    or_right (some_below a.size (reads_on a (At Just j) t ts)) (passes_on a (At Just j) t ts) (and_from (not t.marked) (can_finish a (At Earlier j) ts) (not_from_false t.marked m) h)
pass_on a false j t ts m h =
    or_right (some_below a.size (reads_on a (At Earlier j) t ts)) (passes_on a (At Earlier j) t ts) (and_from (not t.marked) (can_finish a (At Earlier j) ts) (not_from_false t.marked m) h)

finish_of_leads : (a : Automaton) (marks : ℕ → Bool) (fresh : Bool) (k : ℕ) (xs : List Entry) (ts : List Turn) → AreTurnsOf a marks xs ts → Leads a marks fresh k xs → can_finish a (last_at fresh k) ts ≡ true
finish_of_leads a marks fresh k xs [] are (ends l) = l
finish_of_leads a marks fresh k xs (t ∷ ts) are (ends l) = absurd are
finish_of_leads a marks fresh k xs [] are (reads m b y g s) = absurd are
finish_of_leads a marks fresh k xs (t ∷ ts) are (reads {fresh = f} {j = j} {k = k'} {x = x} {xs = xs'} m b y g s) =
    read_on a (last_at f j) t ts k' b (moves a f j k' m) (reader a marks x t k' are.0 y g) (finish_of_leads a marks true k' xs' ts are.1 s)
finish_of_leads a marks fresh k xs [] are (skips m s) = absurd are
finish_of_leads a marks fresh k xs (t ∷ ts) are (skips {fresh = f} {j = j} {x = x} {xs = xs'} m s) =
    pass_on a f j t ts (are.0.marked ∙ m) (finish_of_leads a marks false j xs' ts are.1 s)

start_of_run : (a : Automaton) (marks : ℕ → Bool) (x : Entry) (xs : List Entry) → accepted_run a (run a marks start (x ∷ xs)) ≡ true → HasStart a marks x xs
start_of_run a marks x xs h = go live.leaf live.below (came a marks start x xs live.leaf live.leads)
  where
    f : LeafSet
    f = fresh_after a marks start x

    w : LeafSet
    w = waiting_after a marks start x

    live : IsLive a marks f w xs
    live = sound a marks xs f w (kept_accepts a (λ t. run a marks t xs) (pair f w) (has_leaf a (pair f w)) h)

    go : (k : ℕ) → k < a.size → WasRead a marks start x xs k ⊎ Passed a marks start x xs k → HasStart a marks x xs
    go k b (inl h) = let p = read_parts a marks start x k h.0 in record { leaf = k; below = b; first = p.0; bit = p.1; mark = p.2; leads = h.1 }
    go k b (inr h) = absurd (false≢true h.1)

-- Where the determinised run accepts the search can begin.
pub begins : (r : Reading) (a : Automaton) (marks : ℕ → Bool) (from e : ℕ) (xs : List Entry) (ts : List Turn) → Cover r a.size from xs e → AreTurnsOf a marks xs ts → accepted_run a (run a marks start xs) ≡ true → can_finish a Start ts ≡ true
begins r a marks from e [] ts c are h = absurd c
begins r a marks from e (x ∷ xs) [] c are h = absurd are
begins r a marks from e (x ∷ xs) (t ∷ ts) c are h =
    let s = start_of_run a marks x xs h in
    read_on a Start t ts s.leaf s.below s.first (reader a marks x t s.leaf are.0 s.bit s.mark) (finish_of_leads a marks true s.leaf xs ts are.1 s.leads)
