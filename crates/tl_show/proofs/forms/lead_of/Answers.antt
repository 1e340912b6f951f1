use Rattle.std.proofs.Common.{[], ◌∷◌, ap, ◌∙◌}
use Rattle.json.specs.Token.{key}
use Rattle.tl_show.proofs.LineTexts.{one_printed, print-key}
use Rattle.tl_show.proofs.forms.lead_of.Goals as goal

pub returns : goal.returns
returns c =
    one_printed c.new-lead.result c.key.new.self (key c.args.name.now) (44 ∷ []) c.into_inner.result.items (c.new-lead.ensures.before ∙ c.in_ok-from_slice.ensures.items) c.new-lead.ensures.tokens
    c.in_ok-key.ensures.room.0 c.in_ok-key.ensures.ok c.into_inner.ensures.items
    ∙ ap (λ l. 44 ∷ l) (print-key c.args.name.now)
