use Rattle.std.proofs.Common.{◌≡◌, ◌+◌, length, take}
use Rattle.box_events.specs.inner.Chains.{joined}
use Rattle.box_events.proofs.paging.whole_pages.Given as goal

abbrev pub invariant-loop-whole : goal.invariant-loop-whole
invariant-loop-whole l = length (joined (take l.whole l.pages)) + l.rest ≡ l.excess
