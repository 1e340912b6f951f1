use Rattle.std.proofs.Common.{◌≡◌, ◌≤◌, ◌-◌, ◌++◌, length, take}
use Rattle.tl_decode.specs.inner.Needs.{needs}
use Rattle.tl_decode.proofs.held_items.fill.Given as goal

abbrev pub invariant-loop-used : goal.invariant-loop-used
invariant-loop-used l =
    record {
      within : l.used ≤ length l.next;
      more : l.held.items ≡ l.fn.held.items ++ take l.used l.next;
      most : length l.held.items ≤ needs l.wanted l.held.items;
    }

abbrev pub decreases-loop-used : goal.decreases-loop-used
decreases-loop-used l = length l.next - l.used
