use Rattle.std.proofs.Common.{false, ◌++◌, codes, ap}
use Rattle.std.proofs.Output.{has_written_of_eq}
use Rattle.std.proofs.lemmas.Fmt.{hex_byte}
use Rattle.ceql_grammar.proofs.faults.write_bad_byte.Goals as goal

pub returns : goal.returns
returns g c =
    let writes = rw (c.laid_out.ensures, c.in_radix.ensures) at c.write.ensures.writes in
    λ plain ok. has_written_of_eq _ _ _ _ _ (ap (λ t. codes "byte " ++ (t ++ codes " not allowed")) (hex_byte false c.args.byte c.ranges.byte.fits)) (writes plain ok)
