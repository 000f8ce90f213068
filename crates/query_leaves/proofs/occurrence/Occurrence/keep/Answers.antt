use Rattle.std.proofs.Common.{◌≡◌, ap, ◌∙◌, ℕ, List, map, Bor}
use Rattle.std.specs.Prelude.{reverse}
use Rattle.cel_terms.specs.Meaning.{lists_name, only_names}
use Rattle.query_leaves.specs.Expand.{rename_leaf}
use Rattle.query_leaves.proofs.Changes.{kept_reversed}
use Rattle.query_leaves.proofs.occurrence.Occurrence.keep.Goals as goal

pub returns : goal.returns
returns c =
    let listed = c.args.listed.now in
    let text = λ (n : Bor (List ℕ)). n.now in
    let before = c.self.inside.names.items in
    let kept : map text c.in_ok-kept.kept.items ≡ only_names listed (map text before) =
    c.in_ok-kept.ensures ∙ ap (λ s. only_names listed (map text s)) c.as_slice.ensures.value in
    let names : map text (reverse c.in_ok-kept.kept.items) ≡ only_names listed (map text (reverse before)) =
    kept_reversed (lists_name (map (λ n. n.text) listed)) text before c.in_ok-kept.kept.items kept in
    ap (λ ns. record { type = c.self.inside.ty.now; tests = map (λ p. p.now) (reverse c.self.inside.tests.items); names = ns }) names
    ∙ ap (rename_leaf (only_names listed)) c.self.view_is
