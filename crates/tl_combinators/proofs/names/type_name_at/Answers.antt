use Rattle.std.proofs.Common.{rules}
use Rattle.tl_lexer.proofs.Steps.{yes, no, fails_here}
use Rattle.tl_combinators.specs.Tokens.{fault_of}
use Rattle.tl_combinators.specs.Names.{type_name}
use Rattle.tl_combinators.proofs.names.type_name_at.Goals as goal

pub returns-then-begins_object-clause-read : goal.returns-then-begins_object-clause-read
unfolding type_name
returns-then-begins_object-clause-read c = yes _ _ (c.begins_object.ensures.yes c.if-begins_object.true) (fails_here fault_of _ (search rules))

pub returns-clause-read : goal.returns-clause-read
unfolding type_name
returns-clause-read c = no _ _ (c.begins_object.ensures.no c.if-begins_object.false) c.name_at.ensures.read
