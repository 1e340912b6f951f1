use Rattle.std.proofs.Common.{[], ◌∙◌}
use Rattle.json.specs.Token.{string}
use Rattle.tl_show.proofs.LineTexts.{one_printed, print-string}
use Rattle.tl_show.proofs.quoting.quoted_of.Goals as goal

pub returns : goal.returns
returns c =
    one_printed c.new-out.result c.string.new.self (string c.args.text.now) [] c.into_inner.result.items (c.new-out.ensures.before ∙ c.new.ensures.items) c.new-out.ensures.tokens
    c.in_ok-string.ensures.room.0 c.in_ok-string.ensures.ok c.into_inner.ensures.items
    ∙ print-string c.args.text.now
