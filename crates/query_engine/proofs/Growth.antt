-- What an event adds to the query states, and what cursors keep.
use Rattle.std.proofs.Common.{◌≡◌, ℕ, zero, suc, ◌+◌, ◌-◌, ◌<◌, ◌≤◌, ℤ, List, [], ◌∷◌, ◌++◌, map, take, drop, slice_set, add-one, length, refl, sym, ap, ap₂, subst, ◌∙◌, All, Some, slice_get, slice_index_or, arith, length-append}
use Rattle.std.specs.Prelude.{max}
use Rattle.std.specs.Option.{option_map_or}
use Rattle.std.specs.List.{AllZip}
use Rattle.std.specs.Prelude.{◌≤ℤ◌}
use Rattle.std.proofs.lemmas.List.Elements.{All-nil, All-cons, All-head, All-tail}
use Rattle.stream_schema.specs.Types.{Declared}
use Rattle.stream_schema.specs.declared.Event.{Event}
use Rattle.cel_terms.specs.declared.Query.{Query}
use Rattle.cer_base.specs.declared.node.Node.{Node}
use Rattle.cer_base.specs.Members.{newest, need}
use Rattle.cer_base.specs.Nodes.{tree}
use Rattle.cer_base.proofs.Trees.{tree-append}
use Rattle.tecs_enumerate.specs.declared.descent.Pending.{Pending}
use Rattle.tecs_enumerate.specs.Remaining.{CursorState, Room, HasRoom, AllHaveRoom, answers, rest_of}
use Rattle.query_standing.specs.Bounds.{update_bound}
use Rattle.query_standing.specs.Clocks.{Reads}
use Rattle.query_standing.specs.Kept.{QueryState, KeptFits, kept_rest, nodes_at}
use Rattle.all_or_none.specs.Phases.{Phase, HasGrown}
use Rattle.query_engine.specs.Engine.{kept_of}
use Rattle.query_engine.specs.Running.{raised}
use Rattle.query_engine.proofs.Standing.{state}

-- a walk goes on as it was, whatever nodes come after
walk_grown : (low : ℤ) (old more : List Node) (room : Room) (path : List ℕ) (stack : List Pending) → AllHaveRoom low old room stack → AllHaveRoom low (old ++ more) room stack × (rest_of low (old ++ more) path stack ≡ rest_of low old path stack)
walk_grown low old more room path [] h = (tt, refl)
walk_grown low old more room path (e ∷ below) h =
    let same : tree (old ++ more) e.id ≡ tree old e.id = tree-append old more e.id h.0.inside in
    let others = walk_grown low old more room path below h.1 in
    let fits : HasRoom low (old ++ more) room (length below) e.prefix e.id = record {
      inside = (let i = h.0.inside in let l = length-append old more in omega arith);
      recent = subst (λ t. low ≤ℤ (newest t).clock) (sym same) h.0.recent;
      stack = subst (λ t. length below + need t ≤ room.stack) (sym same) h.0.stack;
      path = subst (λ t. e.prefix + need t ≤ room.path) (sym same) h.0.path;
    } in
    ((fits, others.0), ap₂ (λ a b. a ++ b) (ap (answers low (take e.prefix path)) same) others.1)

-- how many nodes, and how many states, the query state at a place has
abbrev pub nodes_there : List Phase → ℕ → ℕ
nodes_there query_states k = option_map_or (λ (p : QueryState). length p.nodes) (slice_get (map (λ (p : Phase). p.kept) query_states) k) 0

abbrev pub states_there : List Phase → ℕ → ℕ
states_there query_states k = option_map_or (λ (p : QueryState). length p.table.states) (slice_get (map (λ (p : Phase). p.kept) query_states) k) 0

pub grown_there : (event : Event) (old new : List Phase) (k : ℕ) → AllZip (HasGrown event) old new → nodes_there new k ≤ nodes_there old k + update_bound (states_there new k)
grown_there event [] [] k z = omega arith
grown_there event [] (n ∷ new) k z = absurd z
grown_there event (o ∷ old) [] k z = absurd z
grown_there event (o ∷ old) (n ∷ new) zero z = z.0.grows.growth
grown_there event (o ∷ old) (n ∷ new) (suc k) z = grown_there event old new k z.1

-- no node goes
pub nodes_grow : (event : Event) (old new : List Phase) (k : ℕ) → AllZip (HasGrown event) old new → nodes_there old k ≤ nodes_there new k
nodes_grow event [] [] k z = omega arith
nodes_grow event [] (n ∷ new) k z = absurd z
nodes_grow event (o ∷ old) [] k z = absurd z
nodes_grow event (o ∷ old) (n ∷ new) zero z =
    let same = ap length z.0.grows.extends.nodes in
    let long = length-append o.kept.nodes z.0.grows.extends.more_nodes in
    omega arith
nodes_grow event (o ∷ old) (n ∷ new) (suc k) z = nodes_grow event old new k z.1

pub unread_there : (schema : Declared) (event : Event) (old new : List Phase) (k : ℕ) (q : Query) → AllZip (HasGrown event) old new → All (λ (p : Phase). p.schema ≡ schema) old → slice_get (map (λ (p : Phase). p.query) old) k ≡ Some q → (Reads schema q event → ⊥) → nodes_there new k ≡ nodes_there old k
unread_there schema event [] [] k q z schemas at unread = refl
unread_there schema event [] (n ∷ new) k q z schemas at unread = absurd z
unread_there schema event (o ∷ old) [] k q z schemas at unread = absurd z
unread_there schema event (o ∷ old) (n ∷ new) zero q z schemas at unread =
    let is : o.query ≡ q = cc in
    let schema_is = All-head (λ (p : Phase). p.schema ≡ schema) o old schemas in
    z.0.grows.unread (λ r. unread (subst (λ y. Reads schema y event) is (subst (λ s. Reads s o.query event) schema_is r)))
unread_there schema event (o ∷ old) (n ∷ new) (suc k) q z schemas at unread = unread_there schema event old new k q z.1 (All-tail (λ (p : Phase). p.schema ≡ schema) o old schemas) at unread

-- the nodes at a place stay, and more come after
nodes_at_place : (event : Event) (old new : List Phase) (k : ℕ) → AllZip (HasGrown event) old new → (more : List Node) × (option_map_or (λ (p : QueryState). p.nodes) (slice_get (map (λ (p : Phase). p.kept) new) k) [] ≡ option_map_or (λ (p : QueryState). p.nodes) (slice_get (map (λ (p : Phase). p.kept) old) k) [] ++ more)
nodes_at_place event [] [] k z = ([], refl)
nodes_at_place event [] (n ∷ new) k z = absurd z
nodes_at_place event (o ∷ old) [] k z = absurd z
nodes_at_place event (o ∷ old) (n ∷ new) zero z = (z.0.grows.extends.more_nodes, z.0.grows.extends.nodes)
nodes_at_place event (o ∷ old) (n ∷ new) (suc k) z = nodes_at_place event old new k z.1

zip_length : (event : Event) (old new : List Phase) → AllZip (HasGrown event) old new → length (map (λ (p : Phase). p.kept) new) ≡ length (map (λ (p : Phase). p.kept) old)
zip_length event [] [] z = refl
zip_length event [] (n ∷ new) z = absurd z
zip_length event (o ∷ old) [] z = absurd z
zip_length event (o ∷ old) (n ∷ new) z = let rest = zip_length event old new z.1 in omega arith

-- a cursor fits as before, and is still to give the same
pub keeps_cursors : (schema : Declared) (event : Event) (m n : ℕ) (old new : List Phase) (ps qs : List ℕ) → AllZip (HasGrown event) old new → (c : CursorState) → KeptFits (kept_of (state schema m old ps)) c → KeptFits (kept_of (state schema n new qs)) c × (kept_rest (kept_of (state schema n new qs)) c ≡ kept_rest (kept_of (state schema m old ps)) c)
keeps_cursors schema event m n old new ps qs z c fits =
    let grown = nodes_at_place event old new (c.query - 1) z in
    let count = zip_length event old new z in
    let walk = walk_grown c.low (nodes_at (kept_of (state schema m old ps)) c.query) grown.0 c.room c.path c.stack fits.2 in
    let low = fits.0 in
    let high = fits.1 in (
      (low, omega arith, subst (λ ns. AllHaveRoom c.low ns c.room c.stack) (sym grown.1) walk.0),
      ap (λ ns. rest_of c.low ns c.path c.stack) grown.1 ∙ walk.1,
    )

-- the queries stay
pub same_queries : (event : Event) (old new : List Phase) → AllZip (HasGrown event) old new → map (λ (p : Phase). p.query) new ≡ map (λ (p : Phase). p.query) old
same_queries event [] [] z = refl
same_queries event [] (n ∷ new) z = absurd z
same_queries event (o ∷ old) [] z = absurd z
same_queries event (o ∷ old) (n ∷ new) z = ap₂ (λ a b. a ∷ b) z.0.query (same_queries event old new z.1)

pub same_schemas : (schema : Declared) (event : Event) (old new : List Phase) → AllZip (HasGrown event) old new → All (λ (p : Phase). p.schema ≡ schema) old → All (λ (p : Phase). p.schema ≡ schema) new
same_schemas schema event [] [] z h = All-nil (λ (p : Phase). p.schema ≡ schema)
same_schemas schema event [] (n ∷ new) z h = absurd z
same_schemas schema event (o ∷ old) [] z h = absurd z
same_schemas schema event (o ∷ old) (n ∷ new) z h =
    All-cons (λ (p : Phase). p.schema ≡ schema) n new (z.0.schema ∙ All-head (λ (p : Phase). p.schema ≡ schema) o old h) (same_schemas schema event old new z.1 (All-tail (λ (p : Phase). p.schema ≡ schema) o old h))

pub same_count : (event : Event) (old new : List Phase) → AllZip (HasGrown event) old new → length new ≡ length old
same_count event [] [] z = refl
same_count event [] (n ∷ new) z = absurd z
same_count event (o ∷ old) [] z = absurd z
same_count event (o ∷ old) (n ∷ new) z = let rest = same_count event old new z.1 in omega arith

-- the greater of what it was and how many nodes there are
pub raised_there : (xs : List ℕ) (query_states : List Phase) (k : ℕ) → length xs ≡ length query_states → slice_index_or (raised xs query_states) k 0 ≡ max (slice_index_or xs k 0) (nodes_there query_states k)
raised_there [] [] k e = refl
raised_there [] (p ∷ query_states) k e = absurd (omega arith)
raised_there (x ∷ xs) [] k e = absurd (omega arith)
raised_there (x ∷ xs) (p ∷ query_states) zero e = refl
raised_there (x ∷ xs) (p ∷ query_states) (suc k) e = raised_there xs query_states k (omega arith)

pub raised_count : (xs : List ℕ) (query_states : List Phase) → length (raised xs query_states) ≡ length xs
raised_count [] query_states = refl
raised_count (x ∷ xs) [] = refl
raised_count (x ∷ xs) (p ∷ query_states) = let rest = raised_count xs query_states in omega arith

raise_suc : (xs ys : List ℕ) (query_states : List Phase) (k v : ℕ) → k < length xs → length xs ≡ length ys → length ys ≡ length query_states → drop k xs ≡ drop k ys → take k xs ≡ take k (raised ys query_states) → v ≡ max (slice_index_or xs k 0) (nodes_there query_states k) → take (suc k) (slice_set xs k v) ≡ take (suc k) (raised ys query_states)
raise_suc [] ys query_states k v l e f left done is = absurd (omega arith)
raise_suc (x ∷ xs) [] query_states k v l e f left done is = absurd (omega arith)
raise_suc (x ∷ xs) (y ∷ ys) [] k v l e f left done is = absurd (omega arith)
raise_suc (x ∷ xs) (y ∷ ys) (p ∷ query_states) zero v l e f left done is = let same : x ≡ y = cc in ap (λ z. z ∷ []) (is ∙ ap (λ z. max z (length p.kept.nodes)) same)
raise_suc (x ∷ xs) (y ∷ ys) (p ∷ query_states) (suc k) v l e f left done is =
    let head : x ≡ max y (length p.kept.nodes) = cc in
    let rest : take k xs ≡ take k (raised ys query_states) = cc in
    ap₂ (λ a b. a ∷ b) head (raise_suc xs ys query_states k v (omega arith) (omega arith) (omega arith) left rest is)

-- one peak more is raised
pub raise_next : (xs ys : List ℕ) (query_states : List Phase) (k v : ℕ) → k < length xs → length xs ≡ length ys → length ys ≡ length query_states → drop k xs ≡ drop k ys → take k xs ≡ take k (raised ys query_states) → v ≡ max (slice_index_or xs k 0) (nodes_there query_states k) → take (k + 1) (slice_set xs k v) ≡ take (k + 1) (raised ys query_states)
raise_next xs ys query_states k v l e f left done is = rw add-one (raise_suc xs ys query_states k v l e f left done is)

take_whole : {X : Type 0} (xs : List X) (k : ℕ) → length xs ≤ k → take k xs ≡ xs
take_whole [] zero l = refl
take_whole [] (suc k) l = refl
take_whole (x ∷ xs) zero l = absurd (omega arith)
take_whole (x ∷ xs) (suc k) l = ap (λ zs. x ∷ zs) (take_whole xs k (omega arith))

-- where the walk ends, all are raised
pub all_raised : (xs ys : List ℕ) (query_states : List Phase) (k : ℕ) → length xs ≤ k → length xs ≡ length ys → take k xs ≡ take k (raised ys query_states) → xs ≡ raised ys query_states
all_raised xs ys query_states k l e same = sym (take_whole xs k l) ∙ (same ∙ take_whole (raised ys query_states) k (let c = raised_count ys query_states in omega arith))

-- the query state at a place has so many nodes
pub nodes_are : (query_states : List Phase) (k : ℕ) (d : Phase) → k < length query_states → nodes_there query_states k ≡ length (slice_index_or query_states k d).kept.nodes
nodes_are [] k d l = absurd (omega arith)
nodes_are (p ∷ query_states) zero d l = refl
nodes_are (p ∷ query_states) (suc k) d l = nodes_are query_states k d (omega arith)
