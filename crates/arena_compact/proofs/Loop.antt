-- The loop that moves the nodes.
use Rattle.std.proofs.Common.{◌≡◌, ℕ, ◌+◌, ◌<◌, ◌≤◌, ℤ, List, [], ◌∷◌, ◌++◌, length, take, drop, set, get_or, Option, Some, refl, sym, ap, subst, ◌∙◌, max, arith, length-set, length-take, pos}
use Rattle.std.specs.Prelude.{slice_get}
use Rattle.std.proofs.lemmas.List.{take_more_set, drop-set-lt, drop-drop, get_or-take, get_or-drop}
use Rattle.std.proofs.lemmas.Option.{slice_get_within, get_or_from_slice_get, slice_get-get_or}
use Rattle.cer_base.specs.declared.node.Node.{Node}
use Rattle.cer_base.specs.declared.node.Node.TheVariants.{Bottom, Output, Union}
use Rattle.cer_base.specs.Fields.{need_of}
use Rattle.cer_base.specs.Members.{need}
use Rattle.cer_base.specs.Nodes.{tree, WellFormed}
use Rattle.cer_base.proofs.Trees.{need-tree}
use Rattle.cer_base.proofs.Walks.{need-upto}
use Rattle.arena_compact.specs.declared.fate.Fate.TheVariants.{Gone, Stands, Moves}
use Rattle.arena_compact.specs.Marks.{IsKept, low_of, KeepsChildren, AreNodeMarks}
use Rattle.arena_compact.specs.Moves.{MovesTo, Moved}
use Rattle.arena_compact.specs.Fates.{HasPlace, HavePlaces, NeedAt, IsFate, NotKept, KeptLeft, KeptBottom, KeptOutput, KeptUnion}
use Rattle.arena_compact.proofs.Moving.{moved_over, moved_none}
use Rattle.arena_compact.proofs.Steps.{moved_bottom, moved_output, moved_union, moved_first}

-- the place that a child has, and its need
gives_same : (table : List (Option ℕ)) (id f g : ℕ) → MovesTo table id f → MovesTo table id g → f ≡ g
gives_same table id f g a b = let e : Some f ≡ Some g = sym a.gives ∙ b.gives in cc

pub place_within : (nodes : List Node) (table : List (Option ℕ)) (id g : ℕ) → HasPlace nodes table id → MovesTo table id g → g < length nodes
place_within nodes table id g h gives = let e = gives_same table id h.place g h.gives gives in let lt = slice_get_within nodes h.place h.node h.there in omega arith

pub need_small : (nodes : List Node) (table : List (Option ℕ)) (id g n : ℕ) → HasPlace nodes table id → MovesTo table id g → NeedAt nodes g n → n < length nodes
need_small nodes table id g n h gives at =
    let e = gives_same table id h.place g h.gives gives in
    let same : at.node ≡ h.node = let x : Some at.node ≡ Some h.node = sym at.there ∙ ap (slice_get nodes) (sym e) ∙ h.there in cc in
    let small = h.small in let needs : n ≡ need_of h.node = at.is ∙ ap need_of same in omega arith

kept_gives : (table : List (Option ℕ)) (id : ℕ) (k : IsKept table id) → MovesTo table id k.place
kept_gives table id k = record { gives = k.here }

-- The nodes before the one at hand are moved, and the others are as they were.
pub record Moving (lows : List ℤ) (old : List Node) (marks : List (Option ℕ)) (i next : ℕ) (cur : List Node) (table : List (Option ℕ)) : Type 0 where
  pub moved : Moved lows old marks i (take next cur) table
  pub free : next ≤ i
  pub behind : drop i cur ≡ drop i old
  pub long : length cur ≡ length old

module _ (lows : List ℤ) (old : List Node) (marks : List (Option ℕ)) (i next : ℕ) (cur : List Node) (table : List (Option ℕ)) where
  -- the node at hand has not moved
  pub node_here : Moving lows old marks i next cur table → i < length old → (n : Node) → slice_get cur i ≡ Some n → slice_get old i ≡ Some n
  node_here h lt n at =
      let zero_more : (k : ℕ) → k + 0 ≡ k = λ k. omega arith in
      let same : get_or old i n ≡ n = ap (λ k. get_or old k n) (sym (zero_more i)) ∙ sym (get_or-drop i old 0 n) ∙ ap (λ ns. get_or ns 0 n) (sym h.behind) ∙ get_or-drop i cur 0 n ∙ ap (λ k. get_or cur k n) (zero_more i) ∙ get_or_from_slice_get cur i n n at in
      slice_get-get_or old i n lt ∙ ap (λ m. Some m) same

  front_length : Moving lows old marks i next cur table → i ≤ length old → length (take next cur) ≡ next
  front_length h le = let free = h.free in let long = h.long in length-take next cur ∙ omega arith

  -- what stands in front stands in the whole
  front_at : (g : ℕ) (n : Node) → slice_get (take next cur) g ≡ Some n → slice_get cur g ≡ Some n
  front_at g n at =
      let inside = slice_get_within (take next cur) g n at in let l = length-take next cur in
      slice_get-get_or cur g n (omega arith) ∙ ap (λ m. Some m) (sym (get_or-take next cur g n (omega arith)) ∙ get_or_from_slice_get (take next cur) g n n at)

  at_front : (g : ℕ) (n : Node) → g < length (take next cur) → slice_get cur g ≡ Some n → slice_get (take next cur) g ≡ Some n
  at_front g n inside at =
      let l = length-take next cur in
      slice_get-get_or (take next cur) g n inside ∙ ap (λ m. Some m) (get_or-take next cur g n (omega arith) ∙ get_or_from_slice_get cur g n n at)

  need_is : (g n : ℕ) → Moving lows old marks i next cur table → g < length (take next cur) → NeedAt cur g n → n ≡ need (tree (take next cur) g)
  need_is g n h inside at = at.is ∙ need-tree (take next cur) h.moved.well_formed g at.node (at_front g at.node inside at.there)

  has_place : (c : ℕ) → Moving lows old marks i next cur table → i ≤ length old → c < i → IsKept marks c → HasPlace cur table c
  has_place c h le older k =
      let kept = h.moved.kept c older k in let gives = kept_gives table c kept in
      let inside = h.moved.inside c kept.place older gives in
      let d : Node = get_or (take next cur) kept.place (Bottom (record { pos = 0; clock = pos 0 })) in
      let at : slice_get (take next cur) kept.place ≡ Some d = slice_get-get_or (take next cur) kept.place (Bottom (record { pos = 0; clock = pos 0 })) inside in
      let small = need-upto (take next cur) h.moved.well_formed kept.place inside in
      let e = need-tree (take next cur) h.moved.well_formed kept.place d at in
      let l = front_length h le in let free = h.free in let long = h.long in
      record { place = kept.place; gives = gives; node = d; there = front_at kept.place d at; small = omega arith }

  -- the children of the node at hand have their places
  pub have_places : (roots : List (ℕ × ℤ)) → WellFormed old → AreNodeMarks old roots 0 marks lows → Moving lows old marks i next cur table → i < length old → (n : Node) → slice_get cur i ≡ Some n → IsKept table i → HavePlaces (low_of lows i) cur table n
  have_places roots w marked h lt n at k =
      let here = node_here h lt n at in
      let k' : IsKept marks i = record { place = k.place; here = sym (h.moved.ahead i (omega arith)) ∙ k.here } in
      go n here (marked.closed i n (omega arith) here k') where
        go : (n : Node) → slice_get old i ≡ Some n → KeepsChildren (low_of lows i) marks lows n → HavePlaces (low_of lows i) cur table n
        go (Bottom s) at kept = tt
        go (Output p c m k) at kept = let true_fields = w.true_fields i (Output p c m k) at in has_place c h (omega arith) true_fields.0 kept.kept
        go (Union l r k m q) at kept = let true_fields = w.true_fields i (Union l r k m q) at in (has_place l h (omega arith) true_fields.0 kept.0.kept, λ test. has_place r h (omega arith) true_fields.1 (kept.1 test).kept)

  behind_more : Moving lows old marks i next cur table → drop (i + 1) cur ≡ drop (i + 1) old
  behind_more h = sym (drop-drop 1 i cur) ∙ ap (drop 1) h.behind ∙ drop-drop 1 i old

  pub moving_gone : Moving lows old marks i next cur table → i < length old → IsFate (low_of lows i) cur table i Gone → Moving lows old marks (i + 1) next cur table
  moving_gone h lt fate = go fate where
    go : IsFate (low_of lows i) cur table i Gone → Moving lows old marks (i + 1) next cur table
    go (NotKept none) =
        let n : Node = get_or old i (Bottom (record { pos = 0; clock = pos 0 })) in
        record { moved = moved_over lows old marks i (take next cur) table n h.moved (slice_get-get_or old i (Bottom (record { pos = 0; clock = pos 0 })) lt) none; free = (let free = h.free in omega arith); behind = behind_more h; long = h.long }

  marked_here : Moving lows old marks i next cur table → IsKept table i → IsKept marks i
  marked_here h k = record { place = k.place; here = sym (h.moved.ahead i (omega arith)) ∙ k.here }

  pub moving_stands : (f : ℕ) (roots : List (ℕ × ℤ)) → WellFormed old → AreNodeMarks old roots 0 marks lows → Moving lows old marks i next cur table → i < length old → i < length table → IsFate (low_of lows i) cur table i (Stands f) → Moving lows old marks (i + 1) next cur (set table i (Some f))
  moving_stands f roots w all h lt room fate = go f fate where
    go : (f : ℕ) → IsFate (low_of lows i) cur table i (Stands f) → Moving lows old marks (i + 1) next cur (set table i (Some f))
    go _ (KeptLeft l r k f m q kept at test gives) = let here = node_here h lt (Union l r k m q) at in let marked = marked_here h kept in record {
      moved = moved_first lows old marks i (take next cur) table l r k f m q w h.moved here marked room test (all.closed i (Union l r k m q) (omega arith) here marked).0.upto gives;
      free = (let free = h.free in omega arith);
      behind = behind_more h;
      long = h.long;
    }

  -- the first free place takes the node
  moving_put : (n : Node) → Moving lows old marks i next cur table → i < length old → Moved lows old marks (i + 1) (take next cur ++ n ∷ []) (set table i (Some (length (take next cur)))) → Moving lows old marks (i + 1) (next + 1) (set cur next n) (set table i (Some next))
  moving_put n h lt moved =
      let free = h.free in let long = h.long in let l = front_length h (omega arith) in
      let all : take (next + 1) (set cur next n) ≡ take next cur ++ n ∷ [] = take_more_set cur next n (omega arith) in
      record {
        moved = rw all (subst (λ (k : ℕ). Moved lows old marks (i + 1) (take next cur ++ n ∷ []) (set table i (Some k))) l moved);
        free = omega arith;
        behind = drop-set-lt (i + 1) cur next n (omega arith) ∙ behind_more h;
        long = length-set cur next n ∙ h.long;
      }

  pub moving_moves : (n : Node) (roots : List (ℕ × ℤ)) → WellFormed old → AreNodeMarks old roots 0 marks lows → Moving lows old marks i next cur table → i < length old → i < length table → IsFate (low_of lows i) cur table i (Moves n) → Moving lows old marks (i + 1) (next + 1) (set cur next n) (set table i (Some next))
  moving_moves n roots w all h lt room fate = go n fate where
    older_inside : (c g : ℕ) → c < i → MovesTo table c g → g < length (take next cur)
    older_inside c g older gives = h.moved.inside c g older gives

    go : (n : Node) → IsFate (low_of lows i) cur table i (Moves n) → Moving lows old marks (i + 1) (next + 1) (set cur next n) (set table i (Some next))
    go _ (KeptBottom s kept at) = moving_put (Bottom s) h lt (moved_bottom lows old marks i (take next cur) table s w h.moved (node_here h lt (Bottom s) at) (marked_here h kept) room)
    go _ (KeptOutput p c k g n m kept at gives need) =
        let here = node_here h lt (Output p c m k) at in let true_fields = w.true_fields i (Output p c m k) here in
        let is = need_is g n h (older_inside c g true_fields.0 gives) need in
        moving_put (Output p g m (n + 1)) h lt (moved_output lows old marks i (take next cur) table p c k g (n + 1) m w h.moved here (marked_here h kept) room (all.closed i (Output p c m k) (omega arith) here (marked_here h kept)).upto gives (ap (λ j. j + 1) is))
    go _ (KeptUnion l r k a b x y m q kept at test gives_l gives_r need_l need_r) =
        let here = node_here h lt (Union l r k m q) at in let true_fields = w.true_fields i (Union l r k m q) here in
        let children = all.closed i (Union l r k m q) (omega arith) here (marked_here h kept) in
        let is_l = need_is a x h (older_inside l a true_fields.0 gives_l) need_l in
        let is_r = need_is b y h (older_inside r b true_fields.1 gives_r) need_r in
        moving_put (Union a b (max (x + 1) y) m q) h lt (moved_union lows old marks i (take next cur) table l r k a b (max (x + 1) y) m q w h.moved here (marked_here h kept) room test children.0.upto (children.1 test).upto gives_l gives_r (ap (λ j. max (j + 1) y) is_l ∙ ap (λ j. max (need (tree (take next cur) a) + 1) j) is_r))

-- no node is moved yet
pub moving_none : (lows : List ℤ) (old : List Node) (marks : List (Option ℕ)) → Moving lows old marks 0 0 old marks
moving_none lows old marks = record { moved = moved_none lows old marks; free = omega arith; behind = refl; long = refl }
