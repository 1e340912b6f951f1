use Rattle.std.proofs.Common.{◌≡◌, false, sym, refl, ap, ◌∙◌}
use Rattle.tl_program.specs.Trees.{Tree, view, is_plain}
use Rattle.tl_program.proofs.AppliedNames.{holds_of_applied}
use Rattle.tl_program.proofs.tree.is_plain.Goals as goal

pub returns-else-is_empty : goal.returns-else-is_empty
returns-else-is_empty c = c.if-is_empty.false ∙ sym (ap (λ t. is_plain c.args.name.now (view t)) c.in-Named.is ∙ holds_of_applied (λ (t : Tree). is_plain c.args.name.now t ≡ false) c.in-Named.own (λ t ts. refl) c.in-Named.args c.if-is_empty.ensures)
