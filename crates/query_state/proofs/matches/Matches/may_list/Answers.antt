use Rattle.std.proofs.Common.{◌≡◌, ◌∙◌, rules, sym, ap, true, []}
use Rattle.event_update.proofs.Dormant.{none_accepted, dormant_accept_none}
use Rattle.query_state.specs.Matches.{OpenMatches, MayBeDormant}
use Rattle.query_state.proofs.Giving.{kept_lists, are_states, entries_are, number_within}
use Rattle.query_state.proofs.Dormant.{all_there}
use Rattle.query_state.proofs.matches.Matches.may_list.Goals as goal

pub some_accepts-requires : goal.some_accepts-requires
some_accepts-requires c =
    let lists = kept_lists _ c.self.inside.lists.items c.args.self.now c.args.key c.in-Some.number c.index-lists.result.now (ap (λ (h : OpenMatches). h.rows) c.self.view_is) c.requires.stands c.in-Some.is c.index-lists.ensures in
    record { states = are_states c.args.self.now.table c.self.inside.lazy_dfa c.index-lists.result.now.active.entries (ap (λ (h : OpenMatches). h.table) c.self.view_is) lists.stands.states }

pub returns-then-not-lists : goal.returns-then-not-lists
returns-then-not-lists c =
    let lists = kept_lists _ c.self.inside.lists.items c.args.self.now c.args.key c.in-Some.number c.index-lists.result.now (ap (λ (h : OpenMatches). h.rows) c.self.view_is) c.requires.stands c.in-Some.is c.index-lists.ensures in
    record { none = λ e. sym (entries_are c.args.self.now c.self.inside.lazy_dfa c.args.key c.in-Some.number c.index-lists.result.now.active.entries [] (ap (λ (h : OpenMatches). h.table) c.self.view_is) c.in-Some.is lists.here (sym (none_accepted c.self.inside.lazy_dfa c.index-lists.result.now.active.entries (sym c.some_accepts.ensures ∙ e)))) }

pub returns-else-not-lists : goal.returns-else-not-lists
returns-else-not-lists c =
    let lists = kept_lists _ c.self.inside.lists.items c.args.self.now c.args.key c.in-Some.number c.index-lists.result.now (ap (λ (h : OpenMatches). h.rows) c.self.view_is) c.requires.stands c.in-Some.is c.index-lists.ensures in
    let less = number_within _ c.self.inside.lists.items c.args.self.now c.args.key c.in-Some.number (ap (λ (h : OpenMatches). h.rows) c.self.view_is) c.requires.stands c.in-Some.is in
    let known : c.index-lists.result.now.is_dormant ≡ true = search rules in
    let rest = (all_there (MayBeDormant c.self.inside.lazy_dfa c.self.inside.no_op_sets.items) c.self.inside.lists.items c.in-Some.number c.index-lists.result.now less c.index-lists.ensures c.self.invariant.1).rest known in
    record { none = λ e. sym (entries_are c.args.self.now c.self.inside.lazy_dfa c.args.key c.in-Some.number c.index-lists.result.now.active.entries [] (ap (λ (h : OpenMatches). h.table) c.self.view_is) c.in-Some.is lists.here (sym (dormant_accept_none c.self.inside.lazy_dfa c.index-lists.result.now.active.entries rest))) }
