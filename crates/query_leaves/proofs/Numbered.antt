-- How the leaves of a chain and of a choice are numbered, part by part.
use Rattle.std.proofs.Common.{◌≡◌, refl, sym, ap, ap₂, subst, ◌∙◌, ℕ, ◌+◌, ◌<◌, Bool, List, [], ◌∷◌, ◌++◌, length, map, take, get_or, append-nil, append_assoc, length-append, arith}
use Rattle.std.specs.List.{flat_map}
use Rattle.stream_schema.specs.Types.{Declared}
use Rattle.std.proofs.lemmas.List.{take_more, map-append}
use Rattle.query_leaves.specs.declared.Leaf.{Leaf}
use Rattle.query_leaves.specs.declared.Shape.{Shape}
use Rattle.query_leaves.specs.declared.ShapePart.{ShapePart}
use Rattle.query_leaves.specs.declared.draft.Draft.{Draft}
use Rattle.query_leaves.specs.declared.draft.DraftPart.{DraftPart}
use Rattle.query_leaves.specs.LeafTree as tree
use Rattle.query_leaves.specs.LeafTree.{LeafTree, sequence, linked_to, chain_of, choice_of}
use Rattle.query_leaves.specs.Expand.{Occurrence}
use Rattle.query_leaves.specs.Leaves.{occurrences, numbered}
use Rattle.query_leaves.specs.Shapes.{tree_of_shape}
use Rattle.query_leaves.specs.Changes.{change_all}
use Rattle.query_leaves.specs.Drafts.{tree_of_draft, draft_part}
use Rattle.query_leaves.specs.declared.occurrence.Change.{Change}
use Rattle.query_leaves.specs.declared.leaf_under.LeafOfType.{LeafOfType}
use Rattle.query_leaves.specs.Tests.{IsMadeOf, AreMadeOf}
use Rattle.query_leaves.specs.Numbering.{AreMadeUnder, HasNumbered, shape_part, occurrences_of_part, number_parts, number_each}
use Rattle.query_leaves.proofs.Pairs.{zip_append}

abbrev Part : Type 0
Part = Bool × LeafTree Occurrence

linked_numbered : (base : ℕ) (t : LeafTree Occurrence) (ps : List Part) → numbered base (linked_to t ps) ≡ linked_to (numbered base t) (number_parts (base + length (occurrences t)) ps)
linked_numbered base t [] = refl
linked_numbered base t (p ∷ ps) =
    let further : base + length (occurrences t ++ occurrences p.1) ≡ (base + length (occurrences t)) + length (occurrences p.1) = omega (arith, length-append (occurrences t) (occurrences p.1)) in
    linked_numbered base (sequence p.0 t p.1) ps
    ∙ ap (λ n. linked_to (sequence p.0 (numbered base t) (numbered (base + length (occurrences t)) p.1)) (number_parts n ps)) further

pub chain_numbered : (base : ℕ) (ps : List Part) → numbered base (chain_of ps) ≡ chain_of (number_parts base ps)
chain_numbered base [] = refl
chain_numbered base (p ∷ ps) = linked_numbered base p.1 ps

pub choice_numbered : (base : ℕ) (ts : List (LeafTree Occurrence)) → numbered base (choice_of ts) ≡ choice_of (number_each base ts)
choice_numbered base [] = refl
choice_numbered base (t ∷ ts) = ap (λ u. tree.either (numbered base t) u) (choice_numbered (base + length (occurrences t)) ts)

linked_occurrences : (t : LeafTree Occurrence) (ps : List Part) → occurrences (linked_to t ps) ≡ occurrences t ++ flat_map occurrences_of_part ps
linked_occurrences t [] = sym (append-nil (occurrences t))
linked_occurrences t (p ∷ ps) = linked_occurrences (sequence p.0 t p.1) ps ∙ append_assoc (occurrences t) (occurrences p.1) (flat_map occurrences_of_part ps)

pub chain_occurrences : (ps : List Part) → occurrences (chain_of ps) ≡ flat_map occurrences_of_part ps
chain_occurrences [] = refl
chain_occurrences (p ∷ ps) = linked_occurrences p.1 ps

pub choice_occurrences : (ts : List (LeafTree Occurrence)) → occurrences (choice_of ts) ≡ flat_map occurrences ts
choice_occurrences [] = refl
choice_occurrences (t ∷ ts) = ap (λ os. occurrences t ++ os) (choice_occurrences ts)

-- one more at the end
no_more : (base : ℕ) → base + 0 ≡ base
no_more base = omega arith

pub one_more_part : (base : ℕ) (ps : List Part) (p : Part) → number_parts base (ps ++ p ∷ []) ≡ number_parts base ps ++ (p.0, numbered (base + length (flat_map occurrences_of_part ps)) p.1) ∷ []
one_more_part base [] p = ap (λ n. (p.0, numbered n p.1) ∷ []) (sym (no_more base))
one_more_part base (q ∷ qs) p =
    let further : (base + length (occurrences q.1)) + length (flat_map occurrences_of_part qs) ≡ base + length (occurrences q.1 ++ flat_map occurrences_of_part qs) = omega (arith, length-append (occurrences q.1) (flat_map occurrences_of_part qs)) in
    ap (λ l. (q.0, numbered base q.1) ∷ l) (one_more_part (base + length (occurrences q.1)) qs p
    ∙ ap (λ n. number_parts (base + length (occurrences q.1)) qs ++ (p.0, numbered n p.1) ∷ []) further)

pub one_more_choice : (base : ℕ) (ts : List (LeafTree Occurrence)) (t : LeafTree Occurrence) → number_each base (ts ++ t ∷ []) ≡ number_each base ts ++ numbered (base + length (flat_map occurrences ts)) t ∷ []
one_more_choice base [] t = ap (λ n. numbered n t ∷ []) (sym (no_more base))
one_more_choice base (u ∷ us) t =
    let further : (base + length (occurrences u)) + length (flat_map occurrences us) ≡ base + length (occurrences u ++ flat_map occurrences us) = omega (arith, length-append (occurrences u) (flat_map occurrences us)) in
    ap (λ l. numbered base u ∷ l) (one_more_choice (base + length (occurrences u)) us t
    ∙ ap (λ n. number_each (base + length (occurrences u)) us ++ numbered n t ∷ []) further)

-- leaves put in one after another
pub none_numbered : (schema : Declared) (above : List Change) (ls : List Leaf) (made : List LeafOfType) → HasNumbered schema above [] ls ls made made
none_numbered schema above ls made = record {
  count = omega arith;
  list = λ are earlier h. subst (λ os. AreMadeOf schema os ls) (sym (append-nil earlier)) h;
  kept = λ are. are;
}

pub then_numbered : (schema : Declared) (above : List Change) (os ps : List Occurrence) (a b c : List Leaf) (x y z : List LeafOfType) → HasNumbered schema above os a b x y → HasNumbered schema above ps b c y z → HasNumbered schema above (os ++ ps) a c x z
then_numbered schema above os ps a b c x y z first next = record {
  count = omega (arith, length-append os ps, first.count, next.count);
  list = λ are earlier h.
      subst (λ qs. AreMadeOf schema qs c) (append_assoc earlier (map (change_all above) os) (map (change_all above) ps) ∙ ap (λ qs. earlier ++ qs) (sym (map-append (change_all above) os ps)))
      (next.list (first.kept are) (earlier ++ map (change_all above) os) (first.list are earlier h));
  kept = λ are. next.kept (first.kept are);
}

pub one_numbered : (schema : Declared) (above : List Change) (o : Occurrence) (l : Leaf) (before after : List Leaf) (old new : List LeafOfType) → after ≡ before ++ l ∷ [] → (AreMadeUnder schema above old → IsMadeOf schema (change_all above o) l) → (AreMadeUnder schema above old → AreMadeUnder schema above new) → HasNumbered schema above (o ∷ []) before after old new
one_numbered schema above o l before after old new put is keeps = record {
  count = ap length put ∙ length-append before (l ∷ []);
  list = λ are earlier h. subst (AreMadeOf schema (earlier ++ change_all above o ∷ [])) (sym put) (zip_append (IsMadeOf schema) earlier (change_all above o ∷ []) before (l ∷ []) h (is are, tt));
  kept = keeps;
}

flat_more : {A B : Type 0} (f : A → List B) (xs : List A) (x : A) → flat_map f (xs ++ x ∷ []) ≡ flat_map f xs ++ f x
flat_more f [] x = append-nil (f x)
flat_more f (y ∷ ys) x = ap (λ l. f y ++ l) (flat_more f ys x) ∙ sym (append_assoc (f y) (flat_map f ys) (f x))

mapped_more : {A B : Type 0} (f : A → B) (xs : List A) (i : ℕ) (x : A) → i < length xs → x ≡ get_or xs i x → map f (take (i + 1) xs) ≡ map f (take i xs) ++ f x ∷ []
mapped_more f xs i x less at =
    ap (map f) (take_more xs i x less) ∙ map-append f (take i xs) (get_or xs i x ∷ [])
    ∙ ap (λ y. map f (take i xs) ++ f y ∷ []) (sym at)

-- the parts of a chain, and the choices, up to the next one
pub part_shaped : (xs : List DraftPart) (i : ℕ) (x : DraftPart) (base now : ℕ) (done : List ShapePart) (s : ShapePart) → i < length xs → x ≡ get_or xs i x → map shape_part done ≡ number_parts base (map draft_part (take i xs)) → now ≡ base + length (flat_map occurrences_of_part (map draft_part (take i xs))) → shape_part s ≡ ((draft_part x).0, numbered now (draft_part x).1) → map shape_part (done ++ s ∷ []) ≡ number_parts base (map draft_part (take (i + 1) xs))
part_shaped xs i x base now done s less at so_far count made =
    let ps = map draft_part (take i xs) in
    map-append shape_part done (s ∷ [])
    ∙ ap₂ (λ a b. a ++ b ∷ []) so_far (made ∙ ap (λ n. ((draft_part x).0, numbered n (draft_part x).1)) count)
    ∙ sym (ap (number_parts base) (mapped_more draft_part xs i x less at) ∙ one_more_part base ps (draft_part x))

pub part_numbered : (schema : Declared) (above : List Change) (xs : List DraftPart) (i : ℕ) (d : DraftPart) (before now after : List Leaf) (x y z : List LeafOfType) → i < length xs → d ≡ get_or xs i d → HasNumbered schema above (flat_map occurrences_of_part (map draft_part (take i xs))) before now x y → HasNumbered schema above (occurrences (draft_part d).1) now after y z → HasNumbered schema above (flat_map occurrences_of_part (map draft_part (take (i + 1) xs))) before after x z
part_numbered schema above xs i d before now after x y z less at so_far next =
    let ps = map draft_part (take i xs) in
    subst (λ os. HasNumbered schema above os before after x z)
    (sym (ap (flat_map occurrences_of_part) (mapped_more draft_part xs i d less at) ∙ flat_more occurrences_of_part ps (draft_part d)))
    (then_numbered schema above (flat_map occurrences_of_part ps) (occurrences (draft_part d).1) before now after x y z so_far next)

pub choice_shaped : (xs : List Draft) (i : ℕ) (x : Draft) (base now : ℕ) (done : List Shape) (s : Shape) → i < length xs → x ≡ get_or xs i x → map tree_of_shape done ≡ number_each base (map tree_of_draft (take i xs)) → now ≡ base + length (flat_map occurrences (map tree_of_draft (take i xs))) → tree_of_shape s ≡ numbered now (tree_of_draft x) → map tree_of_shape (done ++ s ∷ []) ≡ number_each base (map tree_of_draft (take (i + 1) xs))
choice_shaped xs i x base now done s less at so_far count made =
    let ts = map tree_of_draft (take i xs) in
    map-append tree_of_shape done (s ∷ [])
    ∙ ap₂ (λ a b. a ++ b ∷ []) so_far (made ∙ ap (λ n. numbered n (tree_of_draft x)) count)
    ∙ sym (ap (number_each base) (mapped_more tree_of_draft xs i x less at) ∙ one_more_choice base ts (tree_of_draft x))

pub each_numbered : (schema : Declared) (above : List Change) (xs : List Draft) (i : ℕ) (d : Draft) (before now after : List Leaf) (x y z : List LeafOfType) → i < length xs → d ≡ get_or xs i d → HasNumbered schema above (flat_map occurrences (map tree_of_draft (take i xs))) before now x y → HasNumbered schema above (occurrences (tree_of_draft d)) now after y z → HasNumbered schema above (flat_map occurrences (map tree_of_draft (take (i + 1) xs))) before after x z
each_numbered schema above xs i d before now after x y z less at so_far next =
    let ts = map tree_of_draft (take i xs) in
    subst (λ os. HasNumbered schema above os before after x z)
    (sym (ap (flat_map occurrences) (mapped_more tree_of_draft xs i d less at) ∙ flat_more occurrences ts (tree_of_draft d)))
    (then_numbered schema above (flat_map occurrences ts) (occurrences (tree_of_draft d)) before now after x y z so_far next)
