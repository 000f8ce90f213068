use Rattle.query_state.proofs.tables.keys_of.Given as goal

abbrev pub invariant-loop-k : goal.invariant-loop-k
invariant-loop-k l = Unit {0}
