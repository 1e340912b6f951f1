use Rattle.std.proofs.Common.{◌≡◌}
use Rattle.wire_profile.proofs.Differences.{further_from}
use Rattle.wire_profile.proofs.layout.Layout.check_others.Given as goal

abbrev pub invariant-loop-i : goal.invariant-loop-i
invariant-loop-i l = further_from l.self 0 ≡ further_from l.self l.i
