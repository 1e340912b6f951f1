use Rattle.std.proofs.Common.{rules}
use Rattle.tl_lexer.proofs.Steps.{yes, no, fails_here}
use Rattle.tl_combinators.specs.Tokens.{fault_of}
use Rattle.tl_combinators.specs.Declarations.{where_declaration, declaration_too_many}
use Rattle.tl_combinators.proofs.declarations.declaration_too_many_at.Goals as goal

pub returns-then-begins_lifecycle : goal.returns-then-begins_lifecycle
unfolding where_declaration declaration_too_many
returns-then-begins_lifecycle c = yes _ _ (c.begins_lifecycle.ensures.yes c.if-begins_lifecycle.true) (fails_here fault_of _ (search rules))

pub returns-then-begins_word : goal.returns-then-begins_word
unfolding where_declaration declaration_too_many
returns-then-begins_word c = no _ _ (c.begins_lifecycle.ensures.no c.if-begins_lifecycle.false) (yes _ _ (c.begins_word.ensures.yes c.if-begins_word.true) (fails_here fault_of _ (search rules)))

pub returns-then-begins_this : goal.returns-then-begins_this
unfolding where_declaration declaration_too_many
returns-then-begins_this c = no _ _ (c.begins_lifecycle.ensures.no c.if-begins_lifecycle.false) (no _ _ (c.begins_word.ensures.no c.if-begins_word.false) (yes _ _ (rw c.as_slice.ensures at (c.begins_this.ensures.yes c.if-begins_this.true)) (fails_here fault_of _ (search rules))))

pub returns-then-begins_word-2 : goal.returns-then-begins_word-2
unfolding where_declaration declaration_too_many
returns-then-begins_word-2 c = no _ _ (c.begins_lifecycle.ensures.no c.if-begins_lifecycle.false) (no _ _ (c.begins_word.ensures.no c.if-begins_word.false) (no _ _ (rw c.as_slice.ensures at (c.begins_this.ensures.no c.if-begins_this.false)) (yes _ _ (c.begins_word-2.ensures.yes c.if-begins_word-2.true) (fails_here fault_of _ (search rules)))))

pub returns : goal.returns
unfolding where_declaration declaration_too_many
returns c = no _ _ (c.begins_lifecycle.ensures.no c.if-begins_lifecycle.false) (no _ _ (c.begins_word.ensures.no c.if-begins_word.false) (no _ _ (rw c.as_slice.ensures at (c.begins_this.ensures.no c.if-begins_this.false)) (no _ _ (c.begins_word-2.ensures.no c.if-begins_word-2.false) (fails_here fault_of _ (search rules)))))
