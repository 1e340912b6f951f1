use Rattle.std.proofs.Common.{rules}
use Rattle.tl_lexer.proofs.Steps.{yes, no, fails_here}
use Rattle.tl_combinators.specs.Tokens.{fault_of}
use Rattle.tl_combinators.specs.Types.{no_level}
use Rattle.tl_combinators.proofs.types.no_level_at.Goals as goal

pub returns-then-begins_object-clause-read : goal.returns-then-begins_object-clause-read
unfolding no_level
returns-then-begins_object-clause-read c = yes _ _ (c.begins_object.ensures.yes c.if-begins_object.true) (fails_here fault_of _ (search rules))

pub returns-then-begins_type-clause-read : goal.returns-then-begins_type-clause-read
unfolding no_level
returns-then-begins_type-clause-read c = no _ _ (c.begins_object.ensures.no c.if-begins_object.false) (yes _ _ (c.begins_type.ensures.yes c.if-begins_type.true) (fails_here fault_of _ (search rules)))

pub returns-clause-read : goal.returns-clause-read
unfolding no_level
returns-clause-read c = no _ _ (c.begins_object.ensures.no c.if-begins_object.false) (no _ _ (c.begins_type.ensures.no c.if-begins_type.false) (fails_here fault_of _ (search rules)))
