-- Out of memory is no fault of a text.
use Rattle.std.proofs.Common.{ℕ, List}
use Rattle.tl_lexer.specs.declared.fault.LexFault.TheVariants as lex
use Rattle.tl_lexer.specs.Tokens.{LexRefused}
use Rattle.tl_lexer.proofs.Faults.{fault_is}

pub no_memory : (text : List ℕ) → LexRefused text lex.Memory → ⊥
no_memory text r = (fault_is text lex.Memory).0 r
