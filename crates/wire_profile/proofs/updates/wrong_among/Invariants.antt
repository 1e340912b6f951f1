use Rattle.std.proofs.Common.{◌≡◌, drop}
use Rattle.tl_types.specs.Seen.{views}
use Rattle.wire_profile.specs.Updates.{wrong_among}
use Rattle.wire_profile.proofs.updates.wrong_among.Given as goal

abbrev pub invariant-loop-index : goal.invariant-loop-index
invariant-loop-index l = wrong_among l.with_settings 0 (views l.updates) ≡ wrong_among l.with_settings l.index (views (drop l.index l.updates))
