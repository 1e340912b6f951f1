use Rattle.std.proofs.Common.{◌∙◌, sym, arith}
use Rattle.tl_show.proofs.Declarations.{name_there, name_past}
use Rattle.tl_show.proofs.parts.name_of.Goals as goal

pub returns-then-entry-count : goal.returns-then-entry-count
returns-then-entry-count c = c.as_slice.ensures.value ∙ sym (name_there c.args.schema.now.decls c.args.entry c.entry.result.now c.entry.ensures)

pub returns-else-entry-count : goal.returns-else-entry-count
returns-else-entry-count c = sym (name_past c.args.schema.now.decls c.args.entry (omega arith))
