-- The faults of tokens, as faults of a query text.
use Rattle.ceql_lexer.specs.declared.LexError.{LexError}
use Rattle.ceql_lexer.specs.declared.LexFault.{LexFault}
use Rattle.ceql_lexer.specs.declared.LexFault.TheVariants as token
use Rattle.ceql_grammar.specs.declared.faults.QueryFault.{QueryFault}
use Rattle.ceql_grammar.specs.declared.faults.QueryFault.TheVariants.{BadByte, OpenString, NumberTooLarge, NotUtf8, TooFine}
use Rattle.ceql_grammar.specs.declared.faults.QueryError.{QueryError}

-- a fault of tokens, as one of a query text
abbrev pub token_fault : LexFault → QueryFault
token_fault (token.BadByte byte) = BadByte byte
token_fault token.OpenString = OpenString
token_fault token.NumberTooLarge = NumberTooLarge
token_fault token.NotUtf8 = NotUtf8
token_fault token.TooFine = TooFine

abbrev pub token_error : LexError → QueryError
token_error error = record { fault = token_fault error.fault; place = error.place }
