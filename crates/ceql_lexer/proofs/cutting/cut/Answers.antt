use Rattle.std.proofs.Common.{sym, subst, get_or, drop, take, List, ℕ}
use Rattle.ceql_lexer.specs.Fronts.{IsTokenText}
use Rattle.ceql_lexer.proofs.Cuts.{cuts_more, nonempty, read_is}
use Rattle.ceql_lexer.proofs.Written.{piece_is_text}
use Rattle.ceql_lexer.proofs.cutting.cut.Goals as goal

pub push_piece-requires : goal.push_piece-requires
push_piece-requires c =
    let rest : List ℕ = c.loop-rest.rest.now in
    let is = read_is rest c.piece_at.result c.in-Ok.piece c.piece_at.ensures.value c.in-Ok.is in
    let written = piece_is_text (get_or rest 0 0) (drop 1 rest) c.in-Ok.piece is in
    rw c.split_at.ensures.front (subst (λ (bytes : List ℕ). IsTokenText c.in-Ok.piece.kind (take c.in-Ok.piece.size bytes)) (sym (nonempty rest c.in-len1-up.len_at_least)) written)

pub loop-rest-preserved : goal.loop-rest-preserved
loop-rest-preserved c =
    cuts_more c.args.text.now c.loop-rest.tokens.items c.loop-rest.place c.loop-rest.rest.now c.in-Ok.piece c.split_at.result.0.now c.split_at.result.1.now c.place_after-place.result c.push_piece.new.tokens.items
    c.loop-rest.invariant c.in-len1-up.len_at_least (read_is c.loop-rest.rest.now c.piece_at.result c.in-Ok.piece c.piece_at.ensures.value c.in-Ok.is) c.in-Ok.ensures.within
    c.split_at.ensures.front c.split_at.ensures.back c.place_after-place.ensures.value c.place_after-place.ensures.lines c.place_after-place.ensures.cols c.in_ok-push_piece-in-Ok.ensures
