use Rattle.std.proofs.Common.{rules}
use Rattle.tl_lexer.proofs.Steps.{yes, no, fails_here}
use Rattle.tl_combinators.specs.Tokens.{fault_of}
use Rattle.tl_combinators.specs.Declarations.{where_declaration}
use Rattle.tl_combinators.proofs.declarations.where_declaration_at.Goals as goal

pub returns-then-begins_lifecycle-clause-read : goal.returns-then-begins_lifecycle-clause-read
unfolding where_declaration
returns-then-begins_lifecycle-clause-read c = yes _ _ (c.begins_lifecycle.ensures.yes c.if-begins_lifecycle.true) (fails_here fault_of _ (search rules))

pub returns-then-begins_word-clause-read : goal.returns-then-begins_word-clause-read
unfolding where_declaration
returns-then-begins_word-clause-read c = no _ _ (c.begins_lifecycle.ensures.no c.if-begins_lifecycle.false) (yes _ _ (c.begins_word.ensures.yes c.if-begins_word.true) (fails_here fault_of _ (search rules)))

pub returns-then-begins_this-clause-read : goal.returns-then-begins_this-clause-read
unfolding where_declaration
returns-then-begins_this-clause-read c = no _ _ (c.begins_lifecycle.ensures.no c.if-begins_lifecycle.false) (no _ _ (c.begins_word.ensures.no c.if-begins_word.false) (yes _ _ (rw c.as_slice.ensures at (c.begins_this.ensures.yes c.if-begins_this.true)) (fails_here fault_of _ (search rules))))

pub returns-clause-read : goal.returns-clause-read
unfolding where_declaration
returns-clause-read c = no _ _ (c.begins_lifecycle.ensures.no c.if-begins_lifecycle.false) (no _ _ (c.begins_word.ensures.no c.if-begins_word.false) (no _ _ (rw c.as_slice.ensures at (c.begins_this.ensures.no c.if-begins_this.false)) (c.declaration_at.ensures.read)))
