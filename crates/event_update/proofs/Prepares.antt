-- Rows that are staged by the successors that the table knows are the work of the event.
use Rattle.std.proofs.Common.{◌≡◌, ℕ, ℤ, ◌<◌, ◌≤◌, Bool, List, [], ◌∷◌, map, length, subst}
use Rattle.std.proofs.lemmas.Option.{slice_get-get_or}
use Rattle.cer_base.specs.declared.node.Stamp.{Stamp}
use Rattle.cer_base.specs.declared.node.Root.{Root}
use Rattle.cer_base.specs.declared.node.Node.{Node}
use Rattle.cer_base.specs.Nodes.{WellFormed}
use Rattle.cea_determinise.specs.declared.table.Successors.{Successors}
use Rattle.cea_determinise.specs.LazyDfa.{Table, AddsEventClass, event_class_at}
use Rattle.cea_determinise.specs.Rows.{GoTo}
use Rattle.event_update.specs.declared.Staged.{Staged}
use Rattle.event_update.specs.declared.Staged.TheVariants.{Unchanged}
use Rattle.event_update.specs.Prepared.{IsPrepared, FindsWithin}
use Rattle.event_update.specs.Recent.{going_on}
use Rattle.event_update.specs.Stands.{CanAdvance}
use Rattle.event_update.specs.Dormancy.{AreNoOp}
use Rattle.event_update.specs.Update.{AreCached, Discovers, IsStaged, next_in, rows_after}
use Rattle.event_update.proofs.EventClassAdded.{stands_added, discovers_added}
use Rattle.event_update.proofs.Kept.{cached_told, stands_after_staged}
use Rattle.event_update.proofs.Cached.{same_event_class, event_class_found_later}
use Rattle.event_update.proofs.Passing.{all_no_op}

pub prepared_staged : (t u : Table) (event_class : ℕ) → event_class < length t.event_classes → (stamp : Stamp) (low : ℤ) (old new : List Node) → WellFormed old → (rows : List (ℕ × List Root)) (s : Staged) (moves : List Successors) → Discovers t (0 ∷ map (λ (r : ℕ × List Root). r.0) rows) (event_class_at t.event_classes event_class) u → AreCached u event_class (0 ∷ map (λ (r : ℕ × List Root). r.0) rows) moves → CanAdvance t stamp old rows → length rows ≤ length t.states → IsStaged stamp (0 ∷ map (λ (r : ℕ × List Root). r.0) rows) moves old (going_on low rows s) new (rows_after rows s) → (s ≡ Unchanged → GoTo (map (λ (r : ℕ × List Root). r.0) rows) moves) → IsPrepared t u (event_class_at t.event_classes event_class) stamp low rows old new s
prepared_staged t u event_class within stamp low old new w rows s moves d cached can few staged go =
    let bits = event_class_at t.event_classes event_class in
    let ns = 0 ∷ map (λ (r : ℕ × List Root). r.0) rows in
    let is = staged.made (next_in u event_class) (cached_told u event_class ns moves cached) in
    let same = same_event_class t u ns bits d event_class within in
    record {
      advanced = record { event_class = event_class; of_event_class = event_class_found_later t u ns bits d event_class bits (slice_get-get_or t.event_classes event_class [] within); advanced = is };
      stands = λ from xs le later st. stands_after_staged t u bits event_class same stamp low old new w rows s moves ns d cached can few is from xs le later st;
      no_op = λ e. subst (λ (bs : List Bool). AreNoOp u bs rows) same (all_no_op u event_class rows moves cached (go e));
    }

-- of a table that knew one class less
module _ (leaves : List Bool) (old one : Table) (a : AddsEventClass leaves old one) where
  pub prepared_added : (new : Table) (bits : List Bool) (stamp : Stamp) (low : ℤ) (rows : List (ℕ × List Root)) (nodes nodes_new : List Node) (s : Staged) → IsPrepared one new bits stamp low rows nodes nodes_new s → IsPrepared old new bits stamp low rows nodes nodes_new s
  prepared_added new bits stamp low rows nodes nodes_new s p = record {
    advanced = p.advanced;
    stands = λ from xs le later st. p.stands from xs le later (stands_added leaves old one a from xs nodes rows st);
    no_op = p.no_op;
  }

  pub within_added : (new : Table) (bits : List Bool) (stamp : Stamp) (rows : List (ℕ × List Root)) (nodes nodes_new : List Node) (before after : ℕ) → FindsWithin one new bits stamp rows nodes nodes_new before after → FindsWithin old new bits stamp rows nodes nodes_new before after
  within_added new bits stamp rows nodes nodes_new before after f = record { grows = f.grows; lazy_dfa = discovers_added leaves old one a _ bits new f.lazy_dfa; pushes = f.pushes; steps = f.steps }
