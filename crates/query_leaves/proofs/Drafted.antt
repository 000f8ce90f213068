-- The tree of a draft, by the lists in it.
use Rattle.std.proofs.Common.{◌≡◌, ◌≢◌, refl, ap, ◌∙◌, Bool, List, [], ◌∷◌, length, map}
use Rattle.std.specs.Prelude.{Vec}
use Rattle.std.specs.declared.alloc.Global.{Global}
use Rattle.query_leaves.specs.declared.draft.Draft.{Draft, Chain, Chain', Either, Either', Row_of-Draft, end_of-Draft, more_of-Draft, items-the_row-Draft, items_hidden-the_row-Draft-1, Row_of-DraftPart, end_of-DraftPart, more_of-DraftPart, items-the_row-DraftPart, items_hidden-the_row-DraftPart-0}
use Rattle.query_leaves.specs.declared.draft.DraftPart.{DraftPart}
use Rattle.query_leaves.specs.LeafTree as tree
use Rattle.query_leaves.specs.LeafTree.{LeafTree, sequence, plus, linked_to, chain_of, choice_of}
use Rattle.query_leaves.specs.Expand.{Occurrence, one_or_more}
use Rattle.query_leaves.specs.Drafts.{tree_of_draft, chain_of_drafts, linked_drafts, choice_of_drafts, draft_part}

linked_listed : (t : LeafTree Occurrence) (n : _) (row : Row_of-DraftPart n) → linked_drafts t row ≡ linked_to t (map draft_part (items-the_row-DraftPart n row))
linked_listed t n end_of-DraftPart = refl
linked_listed t n (more_of-DraftPart tight part rest) = linked_listed (sequence tight t (tree_of_draft part)) _ rest

chain_listed : (n : _) (row : Row_of-DraftPart n) → chain_of_drafts row ≡ chain_of (map draft_part (items-the_row-DraftPart n row))
chain_listed n end_of-DraftPart = refl
chain_listed n (more_of-DraftPart tight part rest) = linked_listed (tree_of_draft part) _ rest

choices_listed : (n : _) (row : Row_of-Draft n) → choice_of_drafts row ≡ choice_of (map tree_of_draft (items-the_row-Draft n row))
choices_listed n end_of-Draft = refl
choices_listed n (more_of-Draft choice rest) = ap (λ t. tree.either (tree_of_draft choice) t) (choices_listed _ rest)

abbrev parts_in : Draft → (n : _) × Row_of-DraftPart n
parts_in (Chain' _ row) = (_, row)
parts_in _ = (_, end_of-DraftPart)

abbrev choices_in : Draft → (n : _) × Row_of-Draft n
choices_in (Either' _ row) = (_, row)
choices_in _ = (_, end_of-Draft)

pub chain_is : (parts : Vec DraftPart Global) → tree_of_draft (Chain parts) ≡ chain_of (map draft_part parts.items)
chain_is parts =
    let row = parts_in (Chain parts) in
    chain_listed row.0 row.1 ∙ ap (λ ps. chain_of (map draft_part ps)) (items_hidden-the_row-DraftPart-0 parts)

pub choices_are : (choices : Vec Draft Global) → tree_of_draft (Either choices) ≡ choice_of (map tree_of_draft choices.items)
choices_are choices =
    let row = choices_in (Either choices) in
    choices_listed row.0 row.1 ∙ ap (λ ds. choice_of (map tree_of_draft ds)) (items_hidden-the_row-Draft-1 choices)

-- what repeats further: neither a chain of several parts, nor a choice
linked_repeats : (tight u : Bool) (a b : LeafTree Occurrence) (ps : List (Bool × LeafTree Occurrence)) → one_or_more tight (linked_to (sequence u a b) ps) ≡ plus tight (linked_to (sequence u a b) ps)
linked_repeats tight u a b [] = refl
linked_repeats tight u a b (p ∷ ps) = linked_repeats tight p.0 (sequence u a b) p.1 ps

pub chain_repeats : (tight : Bool) (ps : List DraftPart) → length ps ≢ 1 → one_or_more tight (chain_of (map draft_part ps)) ≡ plus tight (chain_of (map draft_part ps))
chain_repeats tight [] many = refl
chain_repeats tight (p ∷ []) many = absurd (many refl)
chain_repeats tight (p ∷ q ∷ ps) many = linked_repeats tight (draft_part q).0 (draft_part p).1 (draft_part q).1 (map draft_part ps)

pub choice_repeats : (tight : Bool) (ts : List (LeafTree Occurrence)) → one_or_more tight (choice_of ts) ≡ plus tight (choice_of ts)
choice_repeats tight [] = refl
choice_repeats tight (t ∷ ts) = refl
