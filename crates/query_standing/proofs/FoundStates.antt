-- The kept states are different ones, and runs lead to each.
use Rattle.std.proofs.Common.{◌≡◌, ℕ, ◌≤◌, false, List, [], ◌∷◌, map, length, refl, sym, ap, ◌∙◌, All, arith}
use Rattle.std.specs.List.{IsDistinct}
use Rattle.std.proofs.lemmas.Bool.{false≢true}
use Rattle.std.proofs.lemmas.List.Elements.{All-map, All-contains, All-from_recursion}
use Rattle.cer_base.specs.Bits.{has}
use Rattle.cer_base.specs.Repeats.{HasNoRepeats}
use Rattle.cer_base.proofs.WordBits.{same_bits}
use Rattle.stream_schema.specs.Types.{Declared}
use Rattle.stream_schema.specs.declared.Event.{Event}
use Rattle.cel_terms.specs.declared.Query.{Query}
use Rattle.cea_determinise.specs.declared.cea.StateSets.{StateSets}
use Rattle.cea_determinise.specs.Runs.{LeafSet, pair}
use Rattle.cea_determinise.specs.Strict.{Standing}
use Rattle.cea_determinise.specs.Cea.{standing_of, HasLeavesBelow}
use Rattle.cea_determinise.specs.Keys.{are_same_sets, Decides-sets}
use Rattle.query_standing.specs.Bounds.{IsMet, MeetAtMost}
use Rattle.query_standing.specs.Kept.{QueryState, QueryStateStands}
use Rattle.query_standing.proofs.Lists.{map_distinct}

same_sets : (f g v w : LeafSet) → pair f v ≡ pair g w → (f ≡ g) × (v ≡ w)
same_sets f g v w e = (cc, cc)

same_state : (size : ℕ) (p r : StateSets) → HasLeavesBelow size p → HasLeavesBelow size r → standing_of p ≡ standing_of r → p ≡ r
same_state size p r a b e =
    let sets = same_sets (has p.fresh) (has r.fresh) (has p.waiting) (has r.waiting) (ap (λ (s : Standing). s.sets) e) in
    let fresh = same_bits p.fresh r.fresh (a.fresh.room ∙ sym b.fresh.room) (λ k. ap (λ (f : LeafSet). f k) sets.0) in
    let waiting = same_bits p.waiting r.waiting (a.waiting.room ∙ sym b.waiting.room) (λ k. ap (λ (f : LeafSet). f k) sets.1) in
    let phase = ap (λ (s : Standing). s.phase) e in
    λ i. record { fresh = fresh i; waiting = waiting i; phase = phase i }

once : (ps : List StateSets) → IsDistinct are_same_sets ps → HasNoRepeats ps
unfolding IsDistinct
once [] d = tt
once (p ∷ ps) d = (
  λ c. (let differ = All-contains (λ (y : StateSets). are_same_sets p y ≡ false) ps p (All-from_recursion (λ (y : StateSets). are_same_sets p y ≡ false) ps d.0) c in false≢true (sym differ ∙ (Decides-sets p p).1 refl)),
  once ps d.1,
)

different : (size : ℕ) (ps : List StateSets) → All (HasLeavesBelow size) ps → IsDistinct are_same_sets ps → HasNoRepeats (map standing_of ps)
different size ps sets d = map_distinct standing_of ps (λ p r cp cr e. same_state size p r (All-contains (HasLeavesBelow size) ps p sets cp) (All-contains (HasLeavesBelow size) ps r sets cr) e) (once ps d)

length_map : {X Y : Type 0} (f : X → Y) (xs : List X) → length (map f xs) ≡ length xs
length_map f [] = refl
length_map f (x ∷ xs) = let rest = length_map f xs in omega arith

-- different states that runs meet are at most as many as runs meet
pub met_at_most : (schema : Declared) (q : Query) (events : List Event) (size : ℕ) (states : List StateSets) (n : ℕ) → All (HasLeavesBelow size) states → IsDistinct are_same_sets states → All (λ p. IsMet schema q events (standing_of p)) states → MeetAtMost schema q events n → length states ≤ n
met_at_most schema q events size states n sets distinct met most =
    let few = most (map standing_of states) (different size states sets distinct) (All-map (IsMet schema q events) standing_of states met) in
    let same = length_map standing_of states in
    omega arith

pub states_are_met : (schema : Declared) (q : Query) (events : List Event) (query_state : QueryState) (n : ℕ) → QueryStateStands schema q events query_state → MeetAtMost schema q events n → length query_state.table.states ≤ n
states_are_met schema q events query_state n s most = met_at_most schema q events query_state.table.cea.size query_state.table.states n s.states.sets s.states.distinct s.states.met most
