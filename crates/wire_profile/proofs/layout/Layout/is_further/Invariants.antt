use Rattle.std.proofs.Common.{◌≡◌}
use Rattle.wire_profile.specs.Indexes.{form_at}
use Rattle.wire_profile.proofs.Differences.{heads_from}
use Rattle.wire_profile.proofs.layout.Layout.is_further.Given as goal

abbrev pub invariant-loop-h : goal.invariant-loop-h
invariant-loop-h l = heads_from l.self.heads l.head (form_at l.self.indexes l.i) 0 ≡ heads_from l.self.heads l.head (form_at l.self.indexes l.i) l.h
