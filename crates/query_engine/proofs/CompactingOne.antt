-- One query state more is compacted, with its clock, or is left as it is.
use Rattle.std.proofs.Common.{◌≡◌, ℕ, zero, suc, ◌+◌, ◌*◌, ◌<◌, ◌≤◌, ℤ, Bool, true, false, cond, List, [], ◌∷◌, map, take, drop, add-one, length, refl, sym, ap, subst, ◌∙◌, All, Option, Some, None, inl, inr, slice_get, slice_index_or, slice_set, arith}
use Rattle.std.proofs.lemmas.Bool.{cases_eq, false≢true}
use Rattle.std.proofs.lemmas.Option.{get_or_from_slice_get}
use Rattle.std.specs.List.{AllZip}
use Rattle.tecs_enumerate.specs.Remaining.{CursorState, Fits}
use Rattle.stream_schema.specs.declared.Event.{Event}
use Rattle.query_standing.specs.Kept.{low_at}
use Rattle.arena_compact.specs.Roots.{places}
use Rattle.all_or_none.specs.Phases.{Phase, IsIdle}
use Rattle.all_or_none.proofs.LoopTurn.{zip_next, left_next}
use Rattle.query_state.specs.QueryStates.{StandsWith}
use Rattle.query_state.specs.Compacting.{QueryStateCompacted}
use Rattle.query_state.specs.Matches.{HasStatesOnce}
use Rattle.query_engine.specs.Times.{with_clock, with_clocks}
use Rattle.query_engine.specs.Compacting.{is_chosen, cost_of, IsCompacted, FitsQueryState, AreTrimmed, AreOnce, OthersStay, AreCarried, cost, nodes_of}
use Rattle.query_state.specs.Compacting.{CursorsCompacted}
use Rattle.query_engine.proofs.Carried.{query_state_here, all_fit, all_carried}
use Rattle.query_engine.proofs.Clocked.{clocked_length, clocked_or, clocked_set, clocked_drop}
use Rattle.query_engine.proofs.Trimmed.{all_trimmed}

-- What a compaction of one query state gives, with the last clock of its query.
pub record IsOneCompacted (number : ℕ) (clock : Option ℤ) (old new : Phase) (vs us : List CursorState) : Type 0 where
  pub schema : new.schema ≡ old.schema
  pub query : new.query ≡ old.query
  pub idle : IsIdle new
  pub upto : new.upto ≡ old.upto
  pub stands : (events : List Event) → StandsWith clock events old → StandsWith clock events new
  pub compacted : QueryStateCompacted number (low_at old.query clock) old.kept new.kept (map (λ w. w) vs) (map (λ w. w) us)
  pub fewer : length new.kept.nodes ≤ length old.kept.nodes
  pub once : All HasStatesOnce old.kept.rows

-- so it is with the clock
with_its_clock : (number : ℕ) (clock : Option ℤ) (old new : Phase) (vs us : List CursorState) → IsOneCompacted number clock old new vs us → IsCompacted (with_clock clock old) (with_clock clock new)
with_its_clock number clock old new vs us h = record {
  schema = h.schema;
  query = h.query;
  idle = h.idle;
  upto = h.upto;
  stands = h.stands;
  table = h.compacted.table;
  fewer = h.fewer;
  fewer_later = h.compacted.nodes.fewer_later;
}

query_state_with_clock : (number : ℕ) (clock : Option ℤ) (old new : Phase) (vs us : List CursorState) → IsOneCompacted number clock old new vs us → QueryStateCompacted number (low_at old.query clock) (with_clock clock old).kept (with_clock clock new).kept (map (λ w. w) vs) (map (λ w. w) us)
query_state_with_clock number clock old new vs us h =
    let c = h.compacted in
    record {
      table = c.table;
      clock = refl;
      nodes = c.nodes;
      kept = c.kept;
      lists = c.lists;
      given = c.given;
      recent = c.recent;
      have = c.have;
      cursors = c.cursors;
    }

-- AT A PLACE

set_same : (xs : List Phase) (k : ℕ) (d : Phase) → slice_set xs k (slice_index_or xs k d) ≡ xs
set_same [] k d = refl
set_same (x ∷ xs) zero d = refl
set_same (x ∷ xs) (suc k) d = ap (λ zs. x ∷ zs) (set_same xs k d)

get_other : (xs : List Phase) (k j : ℕ) (v : Phase) → j < k → slice_get (slice_set xs k v) j ≡ slice_get xs j
get_other [] k j v less = refl
get_other (x ∷ xs) zero j v less = absurd (omega arith)
get_other (x ∷ xs) (suc k) zero v less = refl
get_other (x ∷ xs) (suc k) (suc j) v less = get_other xs k j v (omega arith)

get_at : (xs ys : List Phase) (k : ℕ) → k < length xs → length xs ≡ length ys → drop k xs ≡ drop k ys → slice_get xs k ≡ slice_get ys k
get_at [] ys k inside long same = absurd (omega arith)
get_at (x ∷ xs) [] k inside long same = absurd (omega arith)
get_at (x ∷ xs) (y ∷ ys) zero inside long same = ap (λ (zs : List Phase). slice_get zs 0) same
get_at (x ∷ xs) (y ∷ ys) (suc k) inside long same = get_at xs ys k (omega arith) (omega arith) same

-- the steps of one query state more, where it is chosen
cost_suc : (chosen : List Bool) (cur old : List Phase) (k : ℕ) (d : Phase) → k < length cur → length cur ≡ length old → drop k cur ≡ drop k old → cost_of chosen (take (suc k) old) ≡ cost_of chosen (take k old) + cond (is_chosen chosen k) (cost (slice_index_or cur k d)) 0
cost_suc chosen [] old k d less long left = absurd (omega arith)
cost_suc chosen (p ∷ cur) [] k d less long left = absurd (omega arith)
cost_suc [] (p ∷ cur) (q ∷ old) zero d less long left = refl
cost_suc [] (p ∷ cur) (q ∷ old) (suc k) d less long left = refl
cost_suc (flag ∷ chosen) (p ∷ cur) (q ∷ old) zero d less long left = let same : p ≡ q = cc in let f : cond flag (cost p) 0 ≡ cond flag (cost q) 0 = ap (λ (x : Phase). cond flag (cost x) 0) same in omega arith
cost_suc (flag ∷ chosen) (p ∷ cur) (q ∷ old) (suc k) d less long left = let rest = cost_suc chosen cur old k d (omega arith) (omega arith) left in omega arith

cost_more : (chosen : List Bool) (cur old : List Phase) (k : ℕ) (d : Phase) → k < length cur → length cur ≡ length old → drop k cur ≡ drop k old → cost_of chosen (take (k + 1) old) ≡ cost_of chosen (take k old) + cond (is_chosen chosen k) (cost (slice_index_or cur k d)) 0
cost_more chosen cur old k d less long left = rw add-one (cost_suc chosen cur old k d less long left)

-- a query state that is left as it is
same_query_state : (p : Phase) → IsIdle p → IsCompacted p p
same_query_state p idle = record {
  schema = refl;
  query = refl;
  idle = idle;
  upto = refl;
  stands = λ events stands. stands;
  table = refl;
  fewer = omega arith;
  fewer_later = λ position. omega arith;
}

module _ (clocks : List (Option ℤ)) (old cur : List Phase) (k : ℕ) (d : Phase) (inside : k < length cur) (same : length cur ≡ length old) (left : drop k cur ≡ drop k old) where
  abbrev clock : Option ℤ
  clock = slice_index_or clocks k None

  -- the query state at hand
  abbrev here : Phase
  here = slice_index_or cur k d

  is_here : slice_index_or (with_clocks cur clocks) k (with_clock (slice_index_or clocks k None) d) ≡ with_clock (slice_index_or clocks k None) (slice_index_or cur k d)
  is_here = clocked_or cur clocks k d

  within : k < length (with_clocks cur clocks)
  within = let l = clocked_length cur clocks in omega arith

  as_many : length (with_clocks cur clocks) ≡ length (with_clocks old clocks)
  as_many = clocked_length cur clocks ∙ (same ∙ sym (clocked_length old clocks))

  still : drop k (with_clocks cur clocks) ≡ drop k (with_clocks old clocks)
  still = clocked_drop cur clocks k ∙ (ap (λ ps. with_clocks ps (drop k clocks)) left ∙ sym (clocked_drop old clocks k))

  nodes_here : nodes_of (with_clocks old clocks) (k + 1) ≡ (slice_index_or cur k d).kept.nodes
  nodes_here = query_state_here (with_clocks cur clocks) (with_clocks old clocks) k (with_clock (slice_index_or clocks k None) d) within as_many still ∙ ap (λ (p : Phase). p.kept.nodes) is_here

  pub one_fits : (ws vs : List CursorState) → All (FitsQueryState (with_clocks old clocks)) ws → AreCarried k (with_clocks old clocks) (with_clocks cur clocks) ws vs → All (λ v. v.query ≡ k + 1 → Fits v (slice_index_or cur k d).kept.nodes) (map (λ v. v) vs)
  one_fits ws vs fits held = all_fit k (with_clocks old clocks) (with_clocks cur clocks) (with_clock (slice_index_or clocks k None) (slice_index_or cur k d)) within nodes_here ws vs fits held

  module _ (v : Phase) (ws vs us : List CursorState) (h : IsOneCompacted (k + 1) (slice_index_or clocks k None) (slice_index_or cur k d) v vs us) where
    set_is : slice_set (with_clocks cur clocks) k (with_clock (slice_index_or clocks k None) v) ≡ with_clocks (slice_set cur k v) clocks
    set_is = sym (clocked_set cur clocks k v)

    pub one_done : AllZip IsCompacted (map (λ p. p) (take k (with_clocks old clocks))) (map (λ p. p) (take k (with_clocks cur clocks))) → AllZip IsCompacted (map (λ p. p) (take (k + 1) (with_clocks old clocks))) (map (λ p. p) (take (k + 1) (with_clocks (slice_set cur k v) clocks)))
    one_done done =
        subst (λ (ps : List Phase). AllZip IsCompacted (map (λ p. p) (take (k + 1) (with_clocks old clocks))) (map (λ p. p) (take (k + 1) ps))) set_is
        (zip_next IsCompacted (λ p. p) (λ p. p) (with_clocks cur clocks) (with_clocks old clocks) k (with_clock (slice_index_or clocks k None) v) (with_clock (slice_index_or clocks k None) d) within as_many still done
        (subst (λ (p : Phase). IsCompacted p (with_clock (slice_index_or clocks k None) v)) (sym is_here) (with_its_clock (k + 1) (slice_index_or clocks k None) (slice_index_or cur k d) v vs us h)))

    pub one_carried : All (FitsQueryState (with_clocks old clocks)) ws → AreCarried k (with_clocks old clocks) (with_clocks cur clocks) ws vs → AreCarried (k + 1) (with_clocks old clocks) (with_clocks (slice_set cur k v) clocks) ws us
    one_carried fits held =
        subst (λ (ps : List Phase). AreCarried (k + 1) (with_clocks old clocks) ps ws us) set_is
        (all_carried k (with_clocks old clocks) (with_clocks cur clocks) (with_clock (slice_index_or clocks k None) (slice_index_or cur k d)) within nodes_here (with_clock (slice_index_or clocks k None) v) ws vs us fits held h.compacted.cursors)

    pub one_trimmed : (chosen : List Bool) → AreTrimmed chosen k vs (with_clocks cur clocks) → AreTrimmed chosen (k + 1) us (with_clocks (slice_set cur k v) clocks)
    one_trimmed chosen trimmed =
        subst (λ (ps : List Phase). AreTrimmed chosen (k + 1) us ps) set_is
        (all_trimmed chosen k (with_clocks cur clocks) (with_clock (slice_index_or clocks k None) (slice_index_or cur k d)) (with_clock (slice_index_or clocks k None) v) vs us within h.query (query_state_with_clock (k + 1) (slice_index_or clocks k None) (slice_index_or cur k d) v vs us h) trimmed)

    pub one_others : (chosen : List Bool) → is_chosen chosen k ≡ true → OthersStay chosen k (with_clocks old clocks) (with_clocks cur clocks) → OthersStay chosen (k + 1) (with_clocks old clocks) (with_clocks (slice_set cur k v) clocks)
    one_others chosen flag others j p less at other = elim (cases_eq j k) [
      | inl is ↦ absurd (false≢true (sym other ∙ (ap (is_chosen chosen) is ∙ flag)))
      | inr before ↦
          let under : j < k = omega arith in
          subst (λ (ps : List Phase). slice_get ps j ≡ Some p) set_is (get_other (with_clocks cur clocks) k j (with_clock (slice_index_or clocks k None) v) under ∙ others j p under at other)
    ]

    pub one_once : (chosen : List Bool) → AreOnce chosen k (with_clocks old clocks) → AreOnce chosen (k + 1) (with_clocks old clocks)
    one_once chosen once j p less at flag = elim (cases_eq j k) [
      | inl is ↦
          let there : slice_get (with_clocks cur clocks) k ≡ Some p = get_at (with_clocks cur clocks) (with_clocks old clocks) k within as_many still ∙ subst (λ (i : ℕ). slice_get (with_clocks old clocks) i ≡ Some p) is at in
          let here = get_or_from_slice_get (with_clocks cur clocks) k p (with_clock (slice_index_or clocks k None) d) there in
          subst (λ (x : Phase). All HasStatesOnce x.kept.rows) (sym is_here ∙ here) h.once
      | inr before ↦ once j p (omega arith) at flag
    ]

  pub one_cost : (chosen : List Bool) → is_chosen chosen k ≡ true → cost_of chosen (take (k + 1) (with_clocks old clocks)) ≡ cost_of chosen (take k (with_clocks old clocks)) + (8 * length (slice_index_or cur k d).kept.nodes + 4 * places (slice_index_or cur k d).kept.rows)
  one_cost chosen flag =
      let more = (cost_more chosen (with_clocks cur clocks) (with_clocks old clocks) k (with_clock (slice_index_or clocks k None) d) within as_many still) in
      more ∙ (ap (λ (b : Bool). cost_of chosen (take k (with_clocks old clocks)) + cond b (cost (slice_index_or (with_clocks cur clocks) k (with_clock (slice_index_or clocks k None) d))) 0) flag
      ∙ ap (λ n. cost_of chosen (take k (with_clocks old clocks)) + n) (ap cost is_here))

  -- THE PART AT HAND IS NOT CHOSEN

  module _ (chosen : List Bool) (other : is_chosen chosen k ≡ false) where
    same_set : slice_set (with_clocks cur clocks) k (with_clock (slice_index_or clocks k None) (slice_index_or cur k d)) ≡ with_clocks cur clocks
    same_set = ap (slice_set (with_clocks cur clocks) k) (sym is_here) ∙ set_same (with_clocks cur clocks) k (with_clock (slice_index_or clocks k None) d)

    pub left_behind : drop (k + 1) cur ≡ drop (k + 1) old
    left_behind = subst (λ (ps : List Phase). drop (k + 1) ps ≡ drop (k + 1) old) (set_same cur k d) (left_next cur old k (slice_index_or cur k d) inside same left)

    pub left_done : IsIdle (slice_index_or cur k d) → AllZip IsCompacted (map (λ p. p) (take k (with_clocks old clocks))) (map (λ p. p) (take k (with_clocks cur clocks))) → AllZip IsCompacted (map (λ p. p) (take (k + 1) (with_clocks old clocks))) (map (λ p. p) (take (k + 1) (with_clocks cur clocks)))
    left_done idle done =
        subst (λ (ps : List Phase). AllZip IsCompacted (map (λ p. p) (take (k + 1) (with_clocks old clocks))) (map (λ p. p) (take (k + 1) ps))) same_set
        (zip_next IsCompacted (λ p. p) (λ p. p) (with_clocks cur clocks) (with_clocks old clocks) k (with_clock (slice_index_or clocks k None) (slice_index_or cur k d)) (with_clock (slice_index_or clocks k None) d) within as_many still done
        (subst (λ (p : Phase). IsCompacted p (with_clock (slice_index_or clocks k None) (slice_index_or cur k d))) (sym is_here) (same_query_state (with_clock (slice_index_or clocks k None) (slice_index_or cur k d)) idle)))

    pub left_carried : (ws vs : List CursorState) → All (FitsQueryState (with_clocks old clocks)) ws → AreCarried k (with_clocks old clocks) (with_clocks cur clocks) ws vs → AreCarried (k + 1) (with_clocks old clocks) (with_clocks cur clocks) ws vs
    left_carried ws vs fits held =
        let here = slice_index_or cur k d in
        let fit = one_fits ws vs fits held in
        let none : CursorsCompacted (k + 1) here.kept.nodes here.kept.nodes (map (λ v. v) vs) (map (λ v. v) vs) = record {
          count = refl;
          each = λ j e less. record { same_rest = λ is. refl; fits = fit j e less; no_more = λ is ids needed. (ids, needed, refl); same = refl; other = λ no_. refl };
        } in
        subst (λ (ps : List Phase). AreCarried (k + 1) (with_clocks old clocks) ps ws vs) same_set
        (all_carried k (with_clocks old clocks) (with_clocks cur clocks) (with_clock (slice_index_or clocks k None) here) within nodes_here (with_clock (slice_index_or clocks k None) here) ws vs vs fits held none)

    pub left_trimmed : (vs : List CursorState) (query_states : List Phase) → AreTrimmed chosen k vs query_states → AreTrimmed chosen (k + 1) vs query_states
    left_trimmed vs query_states trimmed j p less at flag = elim (cases_eq j k) [
      | inl is ↦ absurd (false≢true (sym other ∙ (sym (ap (is_chosen chosen) is) ∙ flag)))
      | inr before ↦ trimmed j p (omega arith) at flag
    ]

    pub left_once : (query_states : List Phase) → AreOnce chosen k query_states → AreOnce chosen (k + 1) query_states
    left_once query_states once j p less at flag = elim (cases_eq j k) [
      | inl is ↦ absurd (false≢true (sym other ∙ (sym (ap (is_chosen chosen) is) ∙ flag)))
      | inr before ↦ once j p (omega arith) at flag
    ]

    pub left_others : OthersStay chosen k (with_clocks old clocks) (with_clocks cur clocks) → OthersStay chosen (k + 1) (with_clocks old clocks) (with_clocks cur clocks)
    left_others others j p less at flag = elim (cases_eq j k) [
      | inl is ↦ (
          let there : slice_get (with_clocks cur clocks) k ≡ Some p = get_at (with_clocks cur clocks) (with_clocks old clocks) k within as_many still ∙ subst (λ (i : ℕ). slice_get (with_clocks old clocks) i ≡ Some p) is at in
          subst (λ (i : ℕ). slice_get (with_clocks cur clocks) i ≡ Some p) (sym is) there
          )
      | inr before ↦ others j p (omega arith) at flag
    ]

    pub left_cost : cost_of chosen (take (k + 1) (with_clocks old clocks)) ≡ cost_of chosen (take k (with_clocks old clocks))
    left_cost =
        let more = (cost_more chosen (with_clocks cur clocks) (with_clocks old clocks) k (with_clock (slice_index_or clocks k None) d) within as_many still) in
        let none : cond (is_chosen chosen k) (cost (slice_index_or (with_clocks cur clocks) k (with_clock (slice_index_or clocks k None) d))) 0 ≡ 0 = ap (λ (b : Bool). cond b (cost (slice_index_or (with_clocks cur clocks) k (with_clock (slice_index_or clocks k None) d))) 0) other in
        omega arith
