use Rattle.std.proofs.Common.{rules, sym, drop-drop}
use Rattle.tl_combinators.proofs.Conditions.{lone_is, lone_not}
use Rattle.tl_combinators.proofs.fields.is_lone.Goals as goal

pub returns-clause-yes : goal.returns-clause-yes
returns-clause-yes c = λ e. lone_is _ _ _ (sym (drop-drop 1 c.args.at c.args.tokens.now)) (c.begins_word.ensures.yes c.if-not-begins_word.false) (c.begins.ensures.no (search rules))

pub returns-clause-no : goal.returns-clause-no
returns-clause-no c = λ e h. lone_not _ _ _ (sym (drop-drop 1 c.args.at c.args.tokens.now)) h (c.begins.ensures.yes (search rules))
