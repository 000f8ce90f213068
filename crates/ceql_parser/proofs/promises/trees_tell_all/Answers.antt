use Rattle.ceql_parser.proofs.SameTrees.{same_fault, same_schema, same_queries}
use Rattle.ceql_parser.proofs.promises.trees_tell_all.Goals as goal

pub returns-clause-fault : goal.returns-clause-fault
returns-clause-fault c = same_fault

pub returns-clause-schema : goal.returns-clause-schema
returns-clause-schema c = same_schema

pub returns-clause-queries : goal.returns-clause-queries
returns-clause-queries c = same_queries
