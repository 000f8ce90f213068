use Rattle.std.proofs.Common.{◌≡◌, ap, sym, subst, ◌∙◌, List}
use Rattle.std.specs.Prelude.{IfOk}
use Rattle.cel_lists.specs.declared.Match.{Match}
use Rattle.cel_lists.specs.Lists.{matches_of, listed_chain, listed_links, listed_choices}
use Rattle.cel_plain.proofs.Rows.{chain_is, choices_are, links_are}
use Rattle.cel_plain.proofs.matches.+matches.Goals as goal

pub matches-returns-in-Chain : goal.matches-returns-in-Chain
matches-returns-in-Chain t c =
    let matches = matches_of c.args.schema.now c.args.events.now c.args.positions.now in
    subst (λ (ms : List Match). IfOk c.chain.result (λ found. found.items ≡ ms))
    (ap (listed_chain c.args.schema.now c.args.events.now c.args.positions.now) c.deref.ensures.value
    ∙ sym (chain_is c.args.schema.now c.args.events.now c.args.positions.now c.in-Chain.parts)
    ∙ sym (ap matches c.in-Chain.is))
    c.chain.ensures

pub matches-returns-in_ok-before-in-Linked : goal.matches-returns-in_ok-before-in-Linked
matches-returns-in_ok-before-in-Linked t c =
    let matches = matches_of c.args.schema.now c.args.events.now c.args.positions.now in
    let links = listed_links c.args.schema.now c.args.events.now c.args.positions.now in
    subst (λ (ms : List Match). IfOk c.linked.result (λ found. found.items ≡ ms))
    (ap (λ before. links before c.deref-in-Linked-2.result.now) (c.in_ok-before-in-Linked.ensures ∙ ap matches c.deref-in-Linked.ensures)
    ∙ ap (links (matches c.in-Linked.first.value)) c.deref-in-Linked-2.ensures.value
    ∙ sym (links_are c.args.schema.now c.args.events.now c.args.positions.now c.in-Linked.first c.in-Linked.links)
    ∙ sym (ap matches c.in-Linked.is))
    c.linked.ensures

pub matches-returns-in-Either : goal.matches-returns-in-Either
matches-returns-in-Either t c =
    let matches = matches_of c.args.schema.now c.args.events.now c.args.positions.now in
    subst (λ (ms : List Match). IfOk c.either.result (λ found. found.items ≡ ms))
    (ap (listed_choices c.args.schema.now c.args.events.now c.args.positions.now) c.deref-in-Either.ensures.value
    ∙ sym (choices_are c.args.schema.now c.args.events.now c.args.positions.now c.in-Either.choices)
    ∙ sym (ap matches c.in-Either.is))
    c.either.ensures
