use Rattle.std.proofs.Common.{◌≡◌, rules, refl, true}
use Rattle.query_state.proofs.Dormant.{still_rest}
use Rattle.query_state.proofs.lists.Lists.look.Goals as goal

pub returns-then-are_dormant_states : goal.returns-then-are_dormant_states
returns-then-are_dormant_states c =
    let told : c.are_dormant_states.result ≡ true = search rules in
    record {
      rows = refl;
      is_dormant = λ t sets was. record { once = was.1.once; rest = λ known. still_rest t c.args.dormant_states.now c.args.self.now.active.entries was.0 (c.are_dormant_states.ensures told); no_op = was.1.no_op };
    }
