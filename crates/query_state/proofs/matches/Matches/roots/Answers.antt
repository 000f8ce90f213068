use Rattle.std.proofs.Common.{◌≡◌, sym, ap, subst, length, arith}
use Rattle.cea_determinise.specs.LazyDfa.{Table}
use Rattle.event_update.specs.Stands.{Stands}
use Rattle.event_update.specs.Update.{work_bound}
use Rattle.query_state.specs.Matches.{OpenMatches}
use Rattle.query_state.proofs.Giving.{kept_lists, are_states, entries_are, if_ok}
use Rattle.query_state.proofs.matches.Matches.roots.Goals as goal

pub roots-requires : goal.roots-requires
roots-requires g c =
    let lists = kept_lists _ c.self.inside.lists.items c.args.self.now c.args.key c.in-Some.number c.index.result.now (ap (λ (h : OpenMatches). h.rows) c.self.view_is) c.requires.stands c.in-Some.is c.index.ensures in
    record { states = are_states c.args.self.now.table c.self.inside.lazy_dfa c.index.result.now.active.entries (ap (λ (h : OpenMatches). h.table) c.self.view_is) lists.stands.states }

pub returns-in-Some-clause-entries : goal.returns-in-Some-clause-entries
returns-in-Some-clause-entries g c =
    let lists = kept_lists _ c.self.inside.lists.items c.args.self.now c.args.key c.in-Some.number c.index.result.now (ap (λ (h : OpenMatches). h.rows) c.self.view_is) c.requires.stands c.in-Some.is c.index.ensures in
    if_ok c.roots.result _ _ c.roots.ensures.entries (λ rs is. entries_are c.args.self.now c.self.inside.lazy_dfa c.args.key c.in-Some.number c.index.result.now.active.entries rs.items (ap (λ (h : OpenMatches). h.table) c.self.view_is) c.in-Some.is lists.here is)

pub returns-in-Some-clause-steps : goal.returns-in-Some-clause-steps
returns-in-Some-clause-steps g c =
    let lists = kept_lists _ c.self.inside.lists.items c.args.self.now c.args.key c.in-Some.number c.index.result.now (ap (λ (h : OpenMatches). h.rows) c.self.view_is) c.requires.stands c.in-Some.is c.index.ensures in
    let table : c.self.inside.lazy_dfa ≡ c.args.self.now.table = ap (λ (h : OpenMatches). h.table) c.self.view_is in
    let bounded = c.roots.ensures.bounded lists.low lists.seen c.args.self.now.nodes (subst (λ (t : Table). Stands t lists.low lists.seen c.args.self.now.nodes c.index.result.now.active.entries) (sym table) lists.stands) in
    let same = ap (λ (t : Table). work_bound (length t.states)) table in
    omega arith
