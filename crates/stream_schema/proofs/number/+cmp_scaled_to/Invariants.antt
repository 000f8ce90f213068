use Rattle.stream_schema.proofs.number.+cmp_scaled_to.Given as goal

abbrev pub decreases-cmp_scaled_to : goal.decreases-cmp_scaled_to
decreases-cmp_scaled_to l = l.places
