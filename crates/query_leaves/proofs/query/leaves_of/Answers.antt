use Rattle.std.proofs.Common.{refl, ap, ap₂, sym, subst, ◌∙◌, length}
use Rattle.query_leaves.specs.LeafTree.{LeafTree}
use Rattle.query_leaves.specs.Expand.{Occurrence, tree_of}
use Rattle.query_leaves.specs.Leaves.{occurrences, numbered}
use Rattle.query_leaves.specs.Tests.{AreMadeOf}
use Rattle.query_leaves.specs.Drafts.{tree_of_draft}
use Rattle.query_leaves.proofs.Above.{whole_numbered}
use Rattle.query_leaves.proofs.Lawfulness.{leaves_made, numbered_leaves, lawful}
use Rattle.query_leaves.proofs.query.leaves_of.Goals as goal

pub returns-clause-list : goal.returns-clause-list
returns-clause-list c =
    let schema = c.args.schema.now in
    let whole = whole_numbered schema c.empty-above.result (occurrences (tree_of_draft c.in_ok-draft.draft)) c.new-list.result.items c.numbered.new.list.items c.new-made.result.items c.numbered.new.made.items c.empty-above.ensures c.new-list.ensures.items c.new-made.ensures.items c.in_ok-shape.ensures.leaves in
    leaves_made schema (occurrences (tree_of c.args.query.now)) c.of.result
    (subst (AreMadeOf schema (occurrences (tree_of c.args.query.now))) (sym c.of.ensures)
    (subst (λ (t : LeafTree Occurrence). AreMadeOf schema (occurrences t) c.numbered.new.list.items) c.in_ok-draft.ensures whole))

pub returns-clause-lawful : goal.returns-clause-lawful
returns-clause-lawful c checked =
    let schema = c.args.schema.now in
    let whole = whole_numbered schema c.empty-above.result (occurrences (tree_of_draft c.in_ok-draft.draft)) c.new-list.result.items c.numbered.new.list.items c.new-made.result.items c.numbered.new.made.items c.empty-above.ensures c.new-list.ensures.items c.new-made.ensures.items c.in_ok-shape.ensures.leaves in
    lawful schema c.args.query.now (record { list = c.of.result; shape = c.in_ok-shape.shape; strict = c.args.query.now.strict }) checked
    (c.in_ok-shape.ensures.shape ∙ ap₂ (λ n t. numbered n t) (ap length c.new-list.ensures.items) c.in_ok-draft.ensures)
    (subst (AreMadeOf schema (occurrences (tree_of c.args.query.now))) (sym c.of.ensures)
    (subst (λ (t : LeafTree Occurrence). AreMadeOf schema (occurrences t) c.numbered.new.list.items) c.in_ok-draft.ensures whole))

pub returns-clause-numbered : goal.returns-clause-numbered
returns-clause-numbered c =
    let schema = c.args.schema.now in
    let whole = whole_numbered schema c.empty-above.result (occurrences (tree_of_draft c.in_ok-draft.draft)) c.new-list.result.items c.numbered.new.list.items c.new-made.result.items c.numbered.new.made.items c.empty-above.ensures c.new-list.ensures.items c.new-made.ensures.items c.in_ok-shape.ensures.leaves in
    numbered_leaves schema c.args.query.now (record { list = c.of.result; shape = c.in_ok-shape.shape; strict = c.args.query.now.strict })
    (c.in_ok-shape.ensures.shape ∙ ap₂ (λ n t. numbered n t) (ap length c.new-list.ensures.items) c.in_ok-draft.ensures)
    (subst (AreMadeOf schema (occurrences (tree_of c.args.query.now))) (sym c.of.ensures)
    (subst (λ (t : LeafTree Occurrence). AreMadeOf schema (occurrences t) c.numbered.new.list.items) c.in_ok-draft.ensures whole))
