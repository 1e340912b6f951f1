use Rattle.std.proofs.Common.{sym, ap, ◌∙◌}
use Rattle.std.specs.Ordering.{nat_cmp}
use Rattle.std.specs.Cmp.Lexicographic.{slice_cmp}
use Rattle.std.specs.FinMap.{entries, entries-from_sorted}
use Rattle.pts_machine.specs.Rows.{pairs}
use Rattle.pts_machine.proofs.table.Table.rows.Goals as goal

pub returns : goal.returns
returns c = record { rows = ap pairs c.deref.ensures.value ∙ sym (entries-from_sorted (slice_cmp nat_cmp) (pairs c.self.inside.rows.items) c.self.invariant) ∙ ap (λ t. entries t.values) c.self.view_is }
