use Rattle.std.proofs.Common.{rules}
use Rattle.tl_lexer.proofs.Steps.{yes, no, fails_here}
use Rattle.tl_combinators.specs.Tokens.{fault_of}
use Rattle.tl_combinators.specs.Names.{vector_hex}
use Rattle.tl_combinators.proofs.numbers.vector_hex_at.Goals as goal

pub returns-then-begins_other_number-clause-read : goal.returns-then-begins_other_number-clause-read
unfolding vector_hex
returns-then-begins_other_number-clause-read c = yes _ _ (c.begins_other_number.ensures.yes c.if-begins_other_number.true) (fails_here fault_of _ (search rules))

pub returns-clause-read : goal.returns-clause-read
unfolding vector_hex
returns-clause-read c = no _ _ (c.begins_other_number.ensures.no c.if-begins_other_number.false) c.hex_at.ensures.read
