use Rattle.std.proofs.Common.{◌≡◌, ◌≤◌, take, count_by}
use Rattle.tl_layers.proofs.comparing.count_of.Given as goal

abbrev pub invariant-loop-mark : goal.invariant-loop-mark
invariant-loop-mark l = (l.count ≡ count_by (λ b. b) (take l.mark-index l.marks)) × (l.count ≤ l.mark-index)
