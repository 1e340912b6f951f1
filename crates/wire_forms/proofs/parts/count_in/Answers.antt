use Rattle.std.proofs.Common.{rules, sym, ap, ◌∙◌}
use Rattle.tl_types.specs.Values.{count}
use Rattle.wire_forms.proofs.Lists.{count_seen}
use Rattle.wire_forms.proofs.parts.count_in.Goals as goal

pub returns : goal.returns
returns c = search rules ∙ sym (count_seen _) ∙ ap count c.parts_in.ensures
