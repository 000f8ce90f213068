use Rattle.std.proofs.Common.{eqb, w8, arith}
use Rattle.std.proofs.lemmas.Simd.{bitmask_splat, length-chunk}
use Rattle.event_reader.proofs.fields.quotes.Goals as goal

pub returns : goal.returns
returns c = bitmask_splat w8 eqb _ 16 34 (length-chunk 0 16 c.args.text.now c.requires) (omega arith)
