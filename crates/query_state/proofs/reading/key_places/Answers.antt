use Rattle.std.proofs.Common.{◌≡◌, ◌+◌, ◌++◌, ◌∷◌, [], ◌∙◌, ℕ, List, Option, None, ap, sym, subst, length, slice_index_or}
use Rattle.query_standing.proofs.QueryStates.{length_more}
use Rattle.query_state.specs.KeyPlaces.{places_in}
use Rattle.query_state.proofs.AtFirst.{table_next}
use Rattle.query_state.proofs.reading.key_places.Goals as goal

pub loop-ty-preserved : goal.loop-ty-preserved
loop-ty-preserved c =
    let told = places_in c.args.schema.now c.args.query.now.partition in
    let items : c.push.new.self.items ≡ c.loop-ty.table.items ++ told c.loop-ty.ty ∷ [] = c.in_ok-push.ensures.items ∙ ap (λ b. c.loop-ty.table.items ++ b ∷ []) (c.in_ok-key_places_in.ensures ∙ ap (λ names. places_in c.args.schema.now names c.loop-ty.ty) c.as_slice.ensures) in
    record {
      count = ap length items ∙ (length_more c.loop-ty.table.items (told c.loop-ty.ty) ∙ ap (λ n. n + 1) c.loop-ty.invariant.count);
      told = λ ty less. subst (λ (ts : List (Option (List ℕ))). slice_index_or ts ty None ≡ told ty) (sym items) (table_next told None c.loop-ty.table.items c.loop-ty.ty c.loop-ty.invariant.count c.loop-ty.invariant.told ty less);
    }
