-- What a cut leaves is what there was before.
use Rattle.std.proofs.Common.{◌≡◌, ℕ, zero, suc, ◌+◌, ◌<◌, ◌≤◌, inl, inr, Bool, List, [], ◌∷◌, ◌++◌, map, take, length, refl, sym, ap, subst, ◌∙◌, Some, slice_get, slice_set, slice_index_or, arith}
use Rattle.std.proofs.lemmas.List.Elements.{All-nil}
use Rattle.cer_base.specs.Bits.{room_for}
use Rattle.cer_base.specs.declared.node.Stamp.{Stamp}
use Rattle.cer_base.specs.declared.node.Node.{Node}
use Rattle.stream_schema.specs.declared.Value.{Value}
use Rattle.cea_determinise.specs.LazyDfa.{Table, IsSound}
use Rattle.event_update.specs.Update.{Discovers}
use Rattle.query_state.specs.declared.matches.Sizes.{Sizes}
use Rattle.event_update.specs.Reach.{Seen}
use Rattle.event_update.specs.Stands.{CanAdvance}
use Rattle.event_update.proofs.Before.{can_advance, none_stand}
use Rattle.event_update.proofs.GivenBack.{states_more, pairs_more, event_classes_more, stay_so, back_so}
use Rattle.query_standing.specs.Clocks.{least}
use Rattle.query_standing.proofs.Growing.{get_cases}
use Rattle.query_standing.proofs.QueryStates.{length_more}
use Rattle.query_state.specs.Matches.{OpenMatches, cut, CanCut, AreSizes, TakesKey, CanTake}

take_front : {X : Type 0} (xs ys : List X) (n : ℕ) → n ≡ length xs → take n (xs ++ ys) ≡ xs
take_front [] ys zero e = refl
take_front [] ys (suc n) e = absurd (omega arith)
take_front (x ∷ xs) ys zero e = absurd (omega arith)
take_front (x ∷ xs) ys (suc n) e = ap (λ zs. x ∷ zs) (take_front xs ys n (omega arith))

take_whole : {X : Type 0} (xs : List X) (n : ℕ) → n ≡ length xs → take n xs ≡ xs
take_whole [] zero e = refl
take_whole [] (suc n) e = absurd (omega arith)
take_whole (x ∷ xs) zero e = absurd (omega arith)
take_whole (x ∷ xs) (suc n) e = ap (λ zs. x ∷ zs) (take_whole xs n (omega arith))

length_front : {X : Type 0} (xs ys : List X) → length xs ≤ length (xs ++ ys)
length_front [] ys = omega arith
length_front (x ∷ xs) ys = let l = length_front xs ys in omega arith

pub mid_table : (old mid : OpenMatches) (key : List Value) → TakesKey old key mid → mid.table ≡ old.table
mid_table old mid key (inl h) = ap (λ (x : OpenMatches). x.table) h.1
mid_table old mid key (inr h) = ap (λ (x : OpenMatches). x.table) h.1

pub mid_nodes : (old mid : OpenMatches) (key : List Value) → TakesKey old key mid → mid.nodes ≡ old.nodes
mid_nodes old mid key (inl h) = ap (λ (x : OpenMatches). x.nodes) h.1
mid_nodes old mid key (inr h) = ap (λ (x : OpenMatches). x.nodes) h.1

pub mid_bits : (bits : List Bool) (old mid : OpenMatches) (key : List Value) → TakesKey old key mid → length bits ≡ room_for old.table.cea.size → length bits ≡ room_for mid.table.cea.size
mid_bits bits old mid key (inl h) room = room ∙ ap (λ (x : OpenMatches). room_for x.table.cea.size) (sym h.1)
mid_bits bits old mid key (inr h) room = room ∙ ap (λ (x : OpenMatches). room_for x.table.cea.size) (sym h.1)

mid_keys : (old mid : OpenMatches) (key : List Value) (n : ℕ) → TakesKey old key mid → n ≡ length old.keys → take n mid.keys ≡ old.keys
mid_keys old mid key n (inl h) e = ap (λ (x : OpenMatches). take n x.keys) h.1 ∙ take_whole old.keys n e
mid_keys old mid key n (inr h) e = ap (λ (x : OpenMatches). take n x.keys) h.1 ∙ take_front old.keys (key ∷ []) n e

mid_rows : (old mid : OpenMatches) (key : List Value) (n : ℕ) → TakesKey old key mid → n ≡ length old.rows → take n mid.rows ≡ old.rows
mid_rows old mid key n (inl h) e = ap (λ (x : OpenMatches). take n x.rows) h.1 ∙ take_whole old.rows n e
mid_rows old mid key n (inr h) e = ap (λ (x : OpenMatches). take n x.rows) h.1 ∙ take_front old.rows ([] ∷ []) n e

module _ (m : Sizes) (key : List Value) (old mid : OpenMatches) (are : AreSizes m old) (same : length old.keys ≡ length old.rows) (takes : TakesKey old key mid) (states : List ℕ) (bits : List Bool) (table : Table) (found : Discovers mid.table states bits table) (nodes more_nodes : List Node) (grown : nodes ≡ mid.nodes ++ more_nodes) where
  as_many_states : m.lazy_dfa.states ≡ length mid.table.states
  as_many_states = are.states ∙ ap (λ (x : Table). length x.states) (sym (mid_table old mid key takes))

  as_many_pairs : m.lazy_dfa.pairs ≡ length mid.table.transitions
  as_many_pairs = are.pairs ∙ ap (λ (x : Table). length x.transitions) (sym (mid_table old mid key takes))

  as_many_event_classes : m.lazy_dfa.event_classes ≡ length mid.table.event_classes
  as_many_event_classes = are.event_classes ∙ ap (λ (x : Table). length x.event_classes) (sym (mid_table old mid key takes))

  as_many_nodes : m.nodes ≡ length mid.nodes
  as_many_nodes = are.nodes ∙ ap length (sym (mid_nodes old mid key takes))

  pub cut_back : cut m (record { table = table; nodes = nodes; keys = mid.keys; rows = mid.rows }) ≡ old
  cut_back =
      let t = back_so mid.table table states bits found m.lazy_dfa.states m.lazy_dfa.pairs m.lazy_dfa.event_classes as_many_states as_many_pairs as_many_event_classes _ refl ∙ mid_table old mid key takes in
      let n : take m.nodes nodes ≡ old.nodes = ap (take m.nodes) grown ∙ (take_front mid.nodes more_nodes m.nodes as_many_nodes ∙ mid_nodes old mid key takes) in
      let k = mid_keys old mid key m.keys takes are.keys in
      let r = mid_rows old mid key m.keys takes (are.keys ∙ same) in
      λ i. record { table = t i; nodes = n i; keys = k i; rows = r i }

  more_keys : m.keys ≤ length mid.keys
  more_keys = go takes
    where
      go : TakesKey old key mid → m.keys ≤ length mid.keys
      go (inl h) = let e = ap (λ (x : OpenMatches). length x.keys) h.1 in let a = are.keys in omega arith
      go (inr h) = let e = ap (λ (x : OpenMatches). length x.keys) h.1 in let a = are.keys in let l = length_front old.keys (key ∷ []) in omega arith

  pub can_cut : IsSound mid.table → CanCut m (record { table = table; nodes = nodes; keys = mid.keys; rows = mid.rows })
  can_cut sound = record {
    states = (let l = states_more mid.table table states bits found in let e = as_many_states in omega arith);
    event_classes = (let l = event_classes_more mid.table table states bits found in let e = as_many_event_classes in omega arith);
    pairs = (let l = pairs_more mid.table table states bits found in let e = as_many_pairs in omega arith);
    within = stay_so mid.table table states bits found m.lazy_dfa.states m.lazy_dfa.pairs m.lazy_dfa.event_classes as_many_states as_many_pairs as_many_event_classes sound;
    nodes = subst (λ ns. m.nodes ≤ length ns) (sym grown) (let l = length_front mid.nodes more_nodes in let e = as_many_nodes in omega arith);
    keys = more_keys;
  }

map_set : {A B : Type 0} (f : A → B) (xs : List A) (n : ℕ) (v : A) → map f (slice_set xs n v) ≡ slice_set (map f xs) n (f v)
map_set f [] n v = refl
map_set f (x ∷ xs) zero v = refl
map_set f (x ∷ xs) (suc n) v = ap (λ zs. f x ∷ zs) (map_set f xs n v)

map_index : {A B : Type 0} (f : A → B) (xs : List A) (n : ℕ) (d : A) (e : B) → n < length xs → slice_index_or (map f xs) n e ≡ f (slice_index_or xs n d)
map_index f [] n d e l = absurd (omega arith)
map_index f (x ∷ xs) zero d e l = refl
map_index f (x ∷ xs) (suc n) d e l = map_index f xs n d e (omega arith)

map_take : {A B : Type 0} (f : A → B) (n : ℕ) (xs : List A) → map f (take n xs) ≡ take n (map f xs)
map_take f zero xs = refl
map_take f (suc n) [] = refl
map_take f (suc n) (x ∷ xs) = ap (λ zs. f x ∷ zs) (map_take f n xs)

pub rows_cut : {A B : Type 0} (f : A → B) (n : ℕ) (xs ys : List A) → ys ≡ take n xs → map f ys ≡ take n (map f xs)
rows_cut f n xs ys e = ap (map f) e ∙ map_take f n xs

-- the list at a place is changed
pub row_put : {A B : Type 0} (f : A → B) (g : B → B) (xs : List A) (rows : List B) (n : ℕ) (new d : A) (e : B) → map f xs ≡ rows → n < length xs → f new ≡ g (f (slice_index_or xs n d)) → map f (slice_set xs n new) ≡ slice_set rows n (g (slice_index_or rows n e))
row_put f g xs rows n new d e same l is =
    map_set f xs n new ∙ (ap (slice_set (map f xs) n) (is ∙ ap g (sym (map_index f xs n d e l))) ∙ ap (λ rs. slice_set rs n (g (slice_index_or rs n e))) same)

-- the list at a place, as it is kept
pub row_at : {A B : Type 0} (f : A → B) (xs : List A) (n : ℕ) (a : A) → n < length xs → a ≡ slice_index_or xs n a → slice_get (map f xs) n ≡ Some (f a)
row_at f [] n a l e = absurd (omega arith)
row_at f (x ∷ xs) zero a l e = ap (λ z. Some (f z)) (sym e)
row_at f (x ∷ xs) (suc n) a l e = row_at f xs n a (omega arith) e

pub length_map : {A B : Type 0} (f : A → B) (xs : List A) → length (map f xs) ≡ length xs
length_map f [] = refl
length_map f (x ∷ xs) = let rest = length_map f xs in omega arith

-- as many keys as lists, before too
pub same_before : (old mid : OpenMatches) (key : List Value) → TakesKey old key mid → length mid.keys ≡ length mid.rows → length old.keys ≡ length old.rows
same_before old mid key (inl h) e = ap (λ (x : OpenMatches). length x.keys) (sym h.1) ∙ (e ∙ ap (λ (x : OpenMatches). length x.rows) h.1)
same_before old mid key (inr h) e =
    let k = ap (λ (x : OpenMatches). length x.keys) h.1 in
    let r = ap (λ (x : OpenMatches). length x.rows) h.1 in
    let a = length_more old.keys key in
    let b = length_more old.rows [] in
    omega arith

no_rows : (t : Table) (stamp : Stamp) (nodes : List Node) → CanAdvance t stamp nodes []
no_rows t stamp nodes = can_advance t least [] stamp nodes [] (none_stand t least nodes) (All-nil (λ (x : Seen). x.stamp.pos < stamp.pos))

-- a key that is put in has no list, which can take in any event
pub can_mid : (stamp : Stamp) (old mid : OpenMatches) (key : List Value) → TakesKey old key mid → CanTake stamp old → CanTake stamp mid
can_mid stamp old mid key (inl h) can = subst (CanTake stamp) (sym h.1) can
can_mid stamp old mid key (inr h) can = subst (CanTake stamp) (sym h.1) (λ n rows at. elim (get_cases old.rows [] n rows at) [
  | inl l ↦ can n rows l
  | inr r ↦ subst (CanAdvance old.table stamp old.nodes) r.1 (no_rows old.table stamp old.nodes)
])

pub sound_mid : (old mid : OpenMatches) (key : List Value) → TakesKey old key mid → IsSound old.table → IsSound mid.table
sound_mid old mid key takes sound = subst IsSound (sym (mid_table old mid key takes)) sound

-- as many rows as lists
pub rows_length : {A B : Type 0} (f : A → B) (xs : List A) (rows : List B) → map f xs ≡ rows → length xs ≡ length rows
rows_length f xs rows same = sym (length_map f xs) ∙ ap length same

-- the nodes that are added are counted from those before the key came
pub grown_from : (old mid : OpenMatches) (key : List Value) → TakesKey old key mid → (after more : ℕ) → after ≤ length mid.nodes + more → after ≤ length old.nodes + more
grown_from old mid key takes after more le = let e = ap length (mid_nodes old mid key takes) in omega arith

-- the list at a place is that of what is kept there
pub row_is : {A B : Type 0} (f : A → B) (xs : List A) (rows : List B) (n : ℕ) (a : A) (b : B) → map f xs ≡ rows → n < length xs → a ≡ slice_index_or xs n a → slice_get rows n ≡ Some b → f a ≡ b
row_is f xs rows n a b same l e at = let both = sym (row_at f xs n a l e) ∙ (ap (λ rs. slice_get rs n) same ∙ at) in cc
