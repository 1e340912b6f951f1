use Rattle.std.proofs.Common.{rules}
use Rattle.tl_lexer.proofs.Steps.{yes, no, fails_here}
use Rattle.tl_combinators.specs.Tokens.{fault_of}
use Rattle.tl_combinators.specs.BuiltInLines.{this_type}
use Rattle.tl_combinators.proofs.built_in.this_type_at.Goals as goal

pub returns-then-begins_object-clause-read : goal.returns-then-begins_object-clause-read
unfolding this_type
returns-then-begins_object-clause-read c = yes _ _ (c.begins_object.ensures.yes c.if-begins_object.true) (fails_here fault_of _ (search rules))

pub returns-clause-read : goal.returns-clause-read
unfolding this_type
returns-clause-read c = no _ _ (c.begins_object.ensures.no c.if-begins_object.false) c.take_this.ensures.read
