use Rattle.std.proofs.Common.{sym, ap, ◌∙◌, length}
use Rattle.std.specs.Ordering.{nat_cmp}
use Rattle.std.specs.Cmp.Lexicographic.{slice_cmp}
use Rattle.std.specs.FinMap.{len, len-entries, entries-from_sorted}
use Rattle.pts_machine.specs.Rows.{pairs, values_of}
use Rattle.pts_machine.proofs.RowSteps.{length-pairs}
use Rattle.pts_machine.proofs.table.Table.len.Goals as goal

pub returns : goal.returns
returns c =
    let rows = c.self.inside.rows.items in
    c.len.ensures ∙ c.self.inside.rows.ok.0 ∙ sym (length-pairs rows) ∙ ap length (sym (entries-from_sorted (slice_cmp nat_cmp) (pairs rows) c.self.invariant)) ∙ sym (len-entries (values_of rows)) ∙ ap (λ t. len t.values) c.self.view_is
