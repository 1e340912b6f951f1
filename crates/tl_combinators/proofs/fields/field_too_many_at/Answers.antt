use Rattle.std.proofs.Common.{rules}
use Rattle.tl_lexer.proofs.Steps.{yes, no, fails_here}
use Rattle.tl_combinators.specs.Tokens.{fault_of}
use Rattle.tl_combinators.specs.Fields.{field_too_many, where_field}
use Rattle.tl_combinators.proofs.fields.field_too_many_at.Goals as goal

pub returns-then-begins_multiplicity : goal.returns-then-begins_multiplicity
unfolding field_too_many where_field
returns-then-begins_multiplicity c = yes _ _ (c.begins_multiplicity.ensures.yes c.if-begins_multiplicity.true) (fails_here fault_of _ (search rules))

pub returns-then-begins_unnamed : goal.returns-then-begins_unnamed
unfolding field_too_many where_field
returns-then-begins_unnamed c = no _ _ (c.begins_multiplicity.ensures.no c.if-begins_multiplicity.false) (yes _ _ (c.begins_unnamed.ensures.yes c.if-begins_unnamed.true) (fails_here fault_of _ (search rules)))

pub returns-then-begins_word : goal.returns-then-begins_word
unfolding field_too_many where_field
returns-then-begins_word c = no _ _ (c.begins_multiplicity.ensures.no c.if-begins_multiplicity.false) (no _ _ (c.begins_unnamed.ensures.no c.if-begins_unnamed.false) (yes _ _ (c.begins_word.ensures.yes c.if-begins_word.true) (fails_here fault_of _ (search rules))))

pub returns : goal.returns
unfolding field_too_many where_field
returns c = no _ _ (c.begins_multiplicity.ensures.no c.if-begins_multiplicity.false) (no _ _ (c.begins_unnamed.ensures.no c.if-begins_unnamed.false) (no _ _ (c.begins_word.ensures.no c.if-begins_word.false) (fails_here fault_of _ (search rules))))
