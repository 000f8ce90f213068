use Rattle.std.proofs.Common.{eqb, w8, arith}
use Rattle.std.proofs.lemmas.Simd.{bitmask_splat, length-chunk}
use Rattle.event_reader.proofs.line_buffer.line_feeds.Goals as goal

pub returns : goal.returns
returns c = bitmask_splat w8 eqb _ 16 10 (length-chunk 0 16 c.args.bytes.now c.requires) (omega arith)
