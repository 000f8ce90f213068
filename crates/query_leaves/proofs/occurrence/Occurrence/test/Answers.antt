use Rattle.std.proofs.Common.{◌≡◌, ap, sym, ◌∙◌, ℕ, List, ◌∷◌, map, cond, true, false, Bor}
use Rattle.std.specs.Prelude.{reverse}
use Rattle.cel_terms.specs.declared.Pred.{Pred}
use Rattle.cel_terms.specs.Meaning.{lists_name}
use Rattle.query_leaves.specs.Expand.{test_leaf}
use Rattle.query_leaves.proofs.Changes.{one_more_last, lists_reversed}
use Rattle.query_leaves.proofs.occurrence.Occurrence.test.Goals as goal

pub returns-in_ok-push : goal.returns-in_ok-push
returns-in_ok-push c =
    let text = λ (n : Bor (List ℕ)). n.now in
    let asked = λ (p : Bor Pred). p.now in
    let names = c.self.inside.names.items in
    let before = c.self.inside.tests.items in
    let name = c.args.name.now in
    let pred = c.args.pred in
    let has : lists_name (map text (reverse names)) name ≡ true =
    lists_reversed text names name ∙ ap (λ s. lists_name (map text s) name) (sym c.as_slice.ensures.value) ∙ sym c.has_name.ensures ∙ c.if-has_name.true in
    let more : map asked (reverse c.push.new.self.items) ≡ pred.now ∷ map asked (reverse before) =
    ap (λ l. map asked (reverse l)) c.in_ok-push.ensures.items ∙ one_more_last asked before pred in
    let after = map asked (reverse before) in
    ap (λ ts. record { type = c.self.inside.ty.now; tests = ts; names = map text (reverse names) })
    (more ∙ sym (ap (λ b. cond b (pred.now ∷ after) after) has))
    ∙ ap (test_leaf name pred.now) c.self.view_is

pub returns-else-has_name : goal.returns-else-has_name
returns-else-has_name c =
    let text = λ (n : Bor (List ℕ)). n.now in
    let asked = λ (p : Bor Pred). p.now in
    let names = c.self.inside.names.items in
    let name = c.args.name.now in
    let pred = c.args.pred.now in
    let has : lists_name (map text (reverse names)) name ≡ false =
    lists_reversed text names name ∙ ap (λ s. lists_name (map text s) name) (sym c.as_slice.ensures.value) ∙ sym c.has_name.ensures ∙ c.if-has_name.false in
    let after = map asked (reverse c.self.inside.tests.items) in
    sym c.self.view_is
    ∙ ap (λ ts. record { type = c.self.inside.ty.now; tests = ts; names = map text (reverse names) })
    (sym (ap (λ b. cond b (pred ∷ after) after) has))
    ∙ ap (test_leaf name pred) c.self.view_is
