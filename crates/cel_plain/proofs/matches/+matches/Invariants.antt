use Rattle.std.proofs.Common.{◌≡◌, take}
use Rattle.cel_lists.specs.Lists.{listed_chain, listed_links, listed_choices}
use Rattle.cel_plain.proofs.matches.+matches.Given as goal

abbrev pub invariant-chain-loop-i : goal.invariant-chain-loop-i
invariant-chain-loop-i l = l.found.items ≡ listed_chain l.schema l.events l.positions (take l.i l.parts)

abbrev pub invariant-linked-loop-link : goal.invariant-linked-loop-link
invariant-linked-loop-link l = l.found.items ≡ listed_links l.schema l.events l.positions l.initial.found.items (take l.link-index l.links)

abbrev pub invariant-either-loop-choice : goal.invariant-either-loop-choice
invariant-either-loop-choice l = l.found.items ≡ listed_choices l.schema l.events l.positions (take l.choice-index l.choices)
