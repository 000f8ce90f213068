use Rattle.std.proofs.Common.{◌≡◌, ◌+◌, ◌-◌, ◌≤◌, length, drop}
use Rattle.ceql_lexer.specs.Tokens.{place_after}
use Rattle.ceql_lexer.proofs.cutting.place_after.Given as goal

abbrev pub invariant-loop-byte : goal.invariant-loop-byte
invariant-loop-byte l = record {
  line : l.place.line + (length l.bytes - l.byte-index) ≤ l.fn.place.line + length l.bytes;
  col : l.place.col + (length l.bytes - l.byte-index) ≤ l.fn.place.col + length l.bytes;
  place : place_after l.place (drop l.byte-index l.bytes) ≡ place_after l.fn.place l.bytes;
}
