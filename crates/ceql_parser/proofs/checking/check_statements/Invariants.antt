use Rattle.std.proofs.Common.{◌≡◌, None, length, take}
use Rattle.ceql_parser.specs.ScriptFaults.{queries_of, statements_fault, declared_schema, no_declarations}
use Rattle.ceql_parser.proofs.checking.check_statements.Given as goal

abbrev pub invariant-loop-statement : goal.invariant-loop-statement
invariant-loop-statement l = record {
  none : statements_fault no_declarations 0 (take l.statement-index l.statements) ≡ None;
  schema : l.schema ≡ declared_schema (take l.statement-index l.statements);
  count : l.count ≡ length (queries_of (take l.statement-index l.statements));
}
