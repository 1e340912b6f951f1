-- The fault of a type that a fault of its text makes. This project's own.
use Rattle.tl_lexer.specs.declared.fault.LexFault.{LexFault}
use Rattle.tl_lexer.specs.declared.fault.LexFault.TheVariants as lex
use Rattle.tl_combinators.specs.declared.fault.SyntaxFault.{SyntaxFault}
use Rattle.tl_combinators.specs.declared.fault.SyntaxFault.TheVariants as syntax
use Rattle.tl_schema.specs.declared.fault.TypeFault.{TypeFault}
use Rattle.tl_schema.specs.declared.fault.TypeFault.TheVariants.{Lex, Syntax, Memory}

abbrev pub of_lex : LexFault → TypeFault
of_lex lex.Memory = Memory
of_lex fault = Lex fault

abbrev pub of_syntax : SyntaxFault → TypeFault
of_syntax syntax.Memory = Memory
of_syntax fault = Syntax fault
