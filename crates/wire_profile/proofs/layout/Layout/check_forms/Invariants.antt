use Rattle.std.proofs.Common.{◌≡◌}
use Rattle.wire_profile.proofs.Differences.{faults_from}
use Rattle.wire_profile.proofs.layout.Layout.check_forms.Given as goal

abbrev pub invariant-loop-k : goal.invariant-loop-k
invariant-loop-k l = faults_from l.self l.form-items 0 ≡ faults_from l.self l.form-items l.k
