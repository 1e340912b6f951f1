use Rattle.std.proofs.Common.{ap, ◌∙◌}
use Rattle.outside.specs.Jobs.{making, of_fault}
use Rattle.outside.proofs.Printed.{refused_at}
use Rattle.outside.proofs.printing.print_made.Goals as goal

pub returns-in-Err-Refused : goal.returns-in-Err-Refused
returns-in-Err-Refused g c = refused_at (making c.args.made) _ c.in-Err-Refused.line.items _ _ _ (ap making c.in-Err-Refused.is ∙ ap of_fault c.in-Err-Refused.field-0-is) c.deref-in-Err-Refused.ensures.value c.tell.ensures
