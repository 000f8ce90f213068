use Rattle.std.proofs.Common.{◌≡◌, map, take}
use Rattle.ceql_parser.specs.ScriptFaults.{attr_declared}
use Rattle.ceql_parser.proofs.declaring.attrs_of.Given as goal

abbrev pub invariant-loop-decl : goal.invariant-loop-decl
invariant-loop-decl l = l.attrs.items ≡ map attr_declared (take l.decl-index l.decls)
