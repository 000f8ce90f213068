use Rattle.std.proofs.Common.{◌≡◌, List, map, length, true, rules, sym, subst}
use Rattle.cel_terms.specs.declared.Query.{Query}
use Rattle.all_or_none.specs.Dormancy.{phase_at}
use Rattle.query_engine.specs.Times.{clocks_in, query_states_at}
use Rattle.query_engine.proofs.Clocked.{clocked_answer}
use Rattle.query_engine.proofs.Keeping.{query_states_queries}
use Rattle.query_engine.specs.Running.{AreNamed, AreAnswering}
use Rattle.query_engine.proofs.Named.{told_answering, all_answering}
use Rattle.query_engine.proofs.engine.Engine.answering.Goals as goal

pub returns-then-self : goal.returns-then-self
returns-then-self c =
    let told : c.self.inside.told ≡ true = search rules in
    subst (AreAnswering c.args.self.now) (sym c.as_slice.ensures.value) (told_answering c.self.inside.schema c.self.inside.count (query_states_at c.self.inside.count c.self.inside.query_states.items (clocks_in c.self.inside.times)) c.self.inside.peaks.items c.args.self.now c.self.inside.touched.items c.self.view_is c.requires.seen (clocked_answer c.self.inside.touched.items (map (phase_at c.self.inside.count) c.self.inside.query_states.items) (clocks_in c.self.inside.times) (c.self.invariant.1.answering told)))

pub returns-else-self : goal.returns-else-self
returns-else-self c =
    subst (AreAnswering c.args.self.now) (sym c.as_slice-else-self.ensures.value) (all_answering c.self.inside.schema c.self.inside.count (query_states_at c.self.inside.count c.self.inside.query_states.items (clocks_in c.self.inside.times)) c.self.inside.peaks.items c.args.self.now c.self.inside.all.items c.self.view_is (subst (λ (qs : List Query). AreNamed (λ (q : Query). ⊥) (length qs) qs c.self.inside.all.items) (sym (query_states_queries c.self.inside.count c.self.inside.query_states.items (clocks_in c.self.inside.times))) c.self.invariant.1.every))
