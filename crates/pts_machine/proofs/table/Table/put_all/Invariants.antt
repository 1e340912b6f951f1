use Rattle.std.proofs.Common.{◌≡◌, ◌≤◌, ◌+◌, vec_len}
use Rattle.pts_machine.specs.Packs.{puts}
use Rattle.pts_machine.proofs.table.Table.put_all.Given as goal

abbrev pub invariant-loop-setting : goal.invariant-loop-setting
invariant-loop-setting l = record {
  values : puts l.self.values l.setting-iterator.rest.items ≡ puts l.fn.self.values l.fn.settings.items;
  rest : l.setting-iterator.rest.len ≤ l.self.spare;
  spare : l.fn.self.spare + l.setting-iterator.rest.len ≤ l.self.spare + vec_len l.fn.settings;
}
