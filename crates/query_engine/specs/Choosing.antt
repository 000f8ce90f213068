-- Which query states have grown enough to be compacted, and the notes of their sizes.
use Rattle.std.specs.Prelude.{◌≡◌, ℕ, ◌+◌, ◌*◌, ◌<◌, Bool, true, false, List, length, Some, slice_get, slice_index_or}
use Rattle.all_or_none.specs.Phases.{Phase}
use Rattle.cel_terms.specs.declared.Window.TheVariants.{Free}
use Rattle.query_engine.specs.declared.sizes.Size.{Size}
use Rattle.query_engine.specs.Compacting.{is_chosen}
use Rattle.query_engine.specs.Sizes.{weight, has_grown}

-- what is kept of the query state
abbrev pub query_state_weight : Phase → ℕ
query_state_weight p = length p.kept.nodes + 8 * length p.kept.keys

-- what was noted of the query state of this number, from 0
abbrev pub noted_at : List Size → ℕ → ℕ
noted_at bases k = weight (slice_index_or bases k (record { nodes = 0; keys = 0 }))

-- the first k query states are chosen where they have grown so
abbrev pub AreGrown : ℕ → List Size → ℕ → List Phase → List Bool → Type 0
AreGrown least bases k query_states chosen = (j : ℕ) (p : Phase) → j < k → slice_get query_states j ≡ Some p → is_chosen chosen j ≡ has_grown least (noted_at bases j) (query_state_weight p)

-- none of the first k query states has
abbrev pub NoneHasGrown : ℕ → List Size → ℕ → List Phase → Type 0
NoneHasGrown least bases k query_states = (j : ℕ) (p : Phase) → j < k → slice_get query_states j ≡ Some p → has_grown least (noted_at bases j) (query_state_weight p) ≡ false

-- Of the first k query states the sizes of those that are chosen are noted, and the other notes are as they were.
pub record AreNoted (chosen : List Bool) (k : ℕ) (query_states : List Phase) (old new : List Size) : Type 0 where
  pub count : length new ≡ length old
  pub chosen_ones : (j : ℕ) (p : Phase) → j < k → slice_get query_states j ≡ Some p → is_chosen chosen j ≡ true → noted_at new j ≡ query_state_weight p
  pub others : (j : ℕ) → is_chosen chosen j ≡ false → noted_at new j ≡ noted_at old j

-- the sizes of the first k query states are noted
abbrev pub AreNotedAll : ℕ → List Phase → List Size → Type 0
AreNotedAll k query_states bases = (j : ℕ) (p : Phase) → j < k → slice_get query_states j ≡ Some p → noted_at bases j ≡ query_state_weight p

-- of the first k query states those that are not chosen are of queries without a window
abbrev pub OthersAreFree : ℕ → List Phase → List Bool → Type 0
OthersAreFree k query_states chosen = (j : ℕ) (p : Phase) → j < k → slice_get query_states j ≡ Some p → is_chosen chosen j ≡ false → p.query.window ≡ Free
