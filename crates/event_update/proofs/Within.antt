-- What the store and the table get stays within bounds, from call to call.
use Rattle.std.proofs.Common.{◌≡◌, ℕ, ◌+◌, ◌*◌, ◌≤◌, Bool, List, ◌∷◌, map, length, take, sym, ap, subst, ◌∙◌, arith}
use Rattle.std.proofs.Math.Seq.{take-append_seam}
use Rattle.cer_base.specs.declared.node.Stamp.{Stamp}
use Rattle.cer_base.specs.declared.node.Root.{Root}
use Rattle.cer_base.specs.declared.node.Node.{Node}
use Rattle.cer_base.specs.Nodes.{WellFormed}
use Rattle.cea_determinise.specs.LazyDfa.{Table}
use Rattle.event_update.specs.Narrow.{IsNarrow}
use Rattle.event_update.specs.Prepared.{FindsWithin}
use Rattle.event_update.specs.Stands.{tops_rows}
use Rattle.event_update.specs.Update.{Discovers, GrowsBy, GrowsWithin}
use Rattle.event_update.proofs.Bounds.{paid_within}
use Rattle.event_update.proofs.Cached.{number_later}
use Rattle.event_update.proofs.RowPlaced.{grows_by_none}
use Rattle.event_update.proofs.Stays.{little, much, nodes_made}

-- only the start's list has gone on
pub begun_within : (stamp : Stamp) (rows : List (ℕ × List Root)) (old new : List Node) (before after : ℕ) → GrowsBy stamp old new → length new ≤ length old + 8 → after ≤ before + 37 → GrowsWithin stamp rows old new before after
begun_within stamp rows old new before after g p s = record {
  grows = g;
  pushes = λ bound more n a b. paid_within (length old + 8) (2 * (more + 1) + 5) 0 (length rows) _ (omega arith) (omega arith);
  steps = λ bound more n a b. paid_within (before + 37) (8 * (more + 1) + 26) 0 (length rows) _ (omega arith) (omega arith);
}

-- nothing was built
pub unchanged_within : (stamp : Stamp) (rows : List (ℕ × List Root)) (nodes : List Node) (before : ℕ) → WellFormed nodes → GrowsWithin stamp rows nodes nodes before before
unchanged_within stamp rows nodes before w = begun_within stamp rows nodes nodes before before (grows_by_none stamp nodes w) (omega arith) (omega arith)

-- what is cut back to its old length is as it was
pub cut_same : (stamp : Stamp) (old new cut : List Node) (n : ℕ) → GrowsBy stamp old new → n ≡ length old → cut ≡ take n new → cut ≡ old
cut_same stamp old new cut n g len is = is ∙ ap (λ k. take k new) len ∙ ap (take (length old)) g.appended ∙ take-append_seam old g.more

-- the store was cut back
pub cut_within : (stamp : Stamp) (rows : List (ℕ × List Root)) (old new cut : List Node) (n before after : ℕ) → WellFormed old → GrowsWithin stamp rows old new before after → n ≡ length old → cut ≡ take n new → GrowsWithin stamp rows old cut before after
cut_within stamp rows old new cut n before after w g len is =
    subst (λ nodes. GrowsWithin stamp rows old nodes before after) (sym (cut_same stamp old new cut n g.grows len is)) (record {
      grows = grows_by_none stamp old w;
      pushes = (unchanged_within stamp rows old before w).pushes;
      steps = g.steps;
    })

module _ (old new : Table) (bits : List Bool) (stamp : Stamp) (rows : List (ℕ × List Root)) (d : Discovers old (0 ∷ map (λ (r : ℕ × List Root). r.0) rows) bits new) where
  -- the table alone was asked, by so many states
  pub found_within : (nodes : List Node) → WellFormed nodes → (n before after : ℕ) → n ≤ length new.states → after ≤ before + 5 + 3 * n → FindsWithin old new bits stamp rows nodes nodes before after
  found_within nodes w n before after few s =
      let b = little n (length new.states) few in
      record { grows = grows_by_none stamp nodes w; lazy_dfa = d; pushes = omega arith; steps = omega arith }

  -- the rows were built
  pub built_within : (nodes nodes_new : List Node) (before middle after last : ℕ) → GrowsWithin stamp rows nodes nodes_new middle after → IsNarrow (length old.states + 1) (tops_rows rows) → length rows ≤ length old.states → middle + last ≤ before + 5 + 3 * length rows + after → FindsWithin old new bits stamp rows nodes nodes_new before last
  built_within nodes nodes_new before middle after last g narrow few spent =
      let found = length new.states in
      let more = number_later old new _ bits d in
      let p = g.pushes (length old.states + 1) (found + 1) narrow (omega arith) (omega arith) in
      let s = g.steps (length old.states + 1) (found + 1) narrow (omega arith) (omega arith) in
      let a = nodes_made (length rows) found (omega arith) in
      let b = much (length rows) found (omega arith) in
      record { grows = g.grows; lazy_dfa = d; pushes = omega arith; steps = omega arith }

-- steps that were counted before
pub since_within : (old new : Table) (bits : List Bool) (stamp : Stamp) (rows : List (ℕ × List Root)) (nodes nodes_new : List Node) (before middle last after : ℕ) → FindsWithin old new bits stamp rows nodes nodes_new middle last → middle + after ≤ before + last → FindsWithin old new bits stamp rows nodes nodes_new before after
since_within old new bits stamp rows nodes nodes_new before middle last after f spent =
    let s = f.steps in
    record { grows = f.grows; lazy_dfa = f.lazy_dfa; pushes = f.pushes; steps = omega arith }
