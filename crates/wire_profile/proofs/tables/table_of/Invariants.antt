use Rattle.std.proofs.Common.{◌≡◌}
use Rattle.wire_profile.proofs.FormLists.{forms_up}
use Rattle.wire_profile.proofs.tables.table_of.Given as goal

abbrev pub invariant-loop-i : goal.invariant-loop-i
invariant-loop-i l = l.table.items ≡ forms_up l.layout.indexes l.i
