use Rattle.std.proofs.Common.{ap, ◌∙◌}
use Rattle.std.specs.FinMap.{insert}
use Rattle.pts_machine.proofs.RowSteps.{values_after, sorted_after}
use Rattle.pts_machine.proofs.table.Table.put.Goals as goal

pub invariant_of-self : goal.invariant_of-self
invariant_of-self c = sorted_after c.self.inside.rows.items c.put_row.new.rows.items c.args.setting c.put_row.ensures.rows c.self.invariant

pub returns-clause-values : goal.returns-clause-values
returns-clause-values c =
    values_after c.self.inside.rows.items c.put_row.new.rows.items c.args.setting c.put_row.ensures.rows c.self.invariant
    ∙ ap (λ t. insert t.values c.args.setting.key c.args.setting.value) c.self.view_is
