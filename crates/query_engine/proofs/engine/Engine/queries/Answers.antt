use Rattle.std.proofs.Common.{◌≡◌, ◌∙◌, rules, length, sym, ap}
use Rattle.all_or_none.specs.Phases.{Phase}
use Rattle.query_engine.specs.Engine.{EngineState}
use Rattle.query_engine.specs.Times.{clocks_in, query_states_at}
use Rattle.query_engine.proofs.Standing.{length_map}
use Rattle.query_engine.proofs.Keeping.{seen_length}
use Rattle.query_engine.proofs.engine.Engine.queries.Goals as goal

pub returns : goal.returns
returns c =
    let many : length c.self.inside.query_states.items ≡ length c.args.self.now.queries = sym (seen_length c.self.inside.count c.self.inside.query_states.items (clocks_in c.self.inside.times)) ∙ (sym (length_map (λ (p : Phase). p.query) (query_states_at c.self.inside.count c.self.inside.query_states.items (clocks_in c.self.inside.times))) ∙ ap (λ (s : EngineState). length s.queries) c.self.view_is) in
    search rules
