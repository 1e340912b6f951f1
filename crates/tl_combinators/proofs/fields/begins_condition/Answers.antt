use Rattle.std.proofs.Common.{sym, drop-drop}
use Rattle.tl_combinators.proofs.Conditions.{condition_is, condition_dot, condition_digit}
use Rattle.tl_combinators.proofs.fields.begins_condition.Goals as goal

pub returns-then-not-begins-clause-no : goal.returns-then-not-begins-clause-no
returns-then-not-begins-clause-no c = λ e h. c.begins.ensures.no c.if-not-begins.true (condition_dot _ _ _ (sym (drop-drop 1 c.args.at c.args.tokens.now)) h)

pub returns-clause-yes : goal.returns-clause-yes
returns-clause-yes c = λ e. condition_is _ _ _ _ (sym (drop-drop 1 c.args.at c.args.tokens.now)) (sym (drop-drop 2 c.args.at c.args.tokens.now)) (c.begins_word.ensures.yes c.if-not-begins_word.false) (c.begins.ensures.yes c.if-not-begins.false) (c.begins_word-2.ensures.yes e)

pub returns-clause-no : goal.returns-clause-no
returns-clause-no c = λ e h. c.begins_word-2.ensures.no e (condition_digit _ _ _ (sym (drop-drop 2 c.args.at c.args.tokens.now)) h)
