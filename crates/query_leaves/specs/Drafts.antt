-- What is done to the leaves of a tree while a formula is expanded, as computed lists and trees.
-- Nobody needs to believe these; the public contracts speak of the tree of leaves alone.
use Rattle.std.specs.Prelude.{Bool, false}
use Rattle.cel_terms.specs.declared.Formula.{Formula}
use Rattle.cel_terms.specs.declared.Link.{Link, out-Link}
use Rattle.query_leaves.specs.declared.draft.Draft.{Draft, Chain', Either', Plus', Changed', Row_of-Draft, end_of-Draft, more_of-Draft, Row_of-DraftPart, end_of-DraftPart, more_of-DraftPart}
use Rattle.query_leaves.specs.declared.draft.DraftPart.{DraftPart, out-DraftPart}
use Rattle.query_leaves.specs.declared.draft.Draft as draft
use Rattle.query_leaves.specs.LeafTree.{LeafTree, leaf, none, sequence, either, plus}
use Rattle.query_leaves.specs.Expand.{Occurrence, at_leaves, expand}
use Rattle.query_leaves.specs.Changes.{change_all}

-- the tree that a draft is
abbrev mutual
  pub tree_of_draft : Draft → LeafTree Occurrence
  tree_of_draft (draft.Leaf occurrence) = leaf occurrence
  tree_of_draft (Chain' s parts) = chain_of_drafts parts
  tree_of_draft (Either' s choices) = choice_of_drafts choices
  tree_of_draft (Plus' tight p part) = plus tight (tree_of_draft part)
  tree_of_draft (Changed' p part changes) = at_leaves (change_all changes) (tree_of_draft part)

  pub chain_of_drafts : {m : _} → Row_of-DraftPart m → LeafTree Occurrence
  chain_of_drafts end_of-DraftPart = none
  chain_of_drafts (more_of-DraftPart tight part rest) = linked_drafts (tree_of_draft part) rest

  pub linked_drafts : {m : _} → LeafTree Occurrence → Row_of-DraftPart m → LeafTree Occurrence
  linked_drafts before end_of-DraftPart = before
  linked_drafts before (more_of-DraftPart tight part rest) = linked_drafts (sequence tight before (tree_of_draft part)) rest

  pub choice_of_drafts : {m : _} → Row_of-Draft m → LeafTree Occurrence
  choice_of_drafts end_of-Draft = none
  choice_of_drafts (more_of-Draft choice rest) = either (tree_of_draft choice) (choice_of_drafts rest)

-- whether a part of a chain is tight, and its tree
abbrev pub draft_part : DraftPart → Bool × LeafTree Occurrence
draft_part p = ((out-DraftPart p).tight, tree_of_draft (out-DraftPart p).part)

-- a formula as a part that is not tight, and a link as it stands
abbrev pub part_of : Formula → Bool × LeafTree Occurrence
part_of f = (false, expand f)

abbrev pub link_of : Link → Bool × LeafTree Occurrence
link_of l = ((out-Link l).tight, expand (out-Link l).next)
