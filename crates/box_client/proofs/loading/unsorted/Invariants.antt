use Rattle.std.proofs.Common.{◌≡◌, ◌≤◌, ◌-◌, drop}
use Rattle.box_client.specs.Saving.{unsorted}
use Rattle.box_client.proofs.Orders.{unsorted_at}
use Rattle.box_client.proofs.loading.unsorted.Given as goal

abbrev pub invariant-loop-i : goal.invariant-loop-i
invariant-loop-i l = (1 ≤ l.i) × (unsorted_at l.i (drop (l.i - 1) l.settings) ≡ unsorted l.settings)
