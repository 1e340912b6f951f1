use Rattle.std.proofs.Common.{map, take}
use Rattle.wire_profile.specs.Profiles.{AreHeads}
use Rattle.wire_profile.proofs.finding.heads_of.Given as goal

abbrev pub invariant-loop-name : goal.invariant-loop-name
invariant-loop-name l = AreHeads l.schema (map (λ s. s.now) (take l.name-index l.name-items)) l.heads.items
