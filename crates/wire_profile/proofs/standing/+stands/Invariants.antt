use Rattle.std.proofs.Common.{◌≡◌, drop}
use Rattle.tl_types.specs.Seen.{views}
use Rattle.wire_profile.specs.Rules.{stands_among}
use Rattle.wire_profile.proofs.standing.+stands.Given as goal

abbrev pub invariant-stands_among-loop-value : goal.invariant-stands_among-loop-value
invariant-stands_among-loop-value l = stands_among l.form (views l.values) ≡ stands_among l.form (views (drop l.value-index l.values))
