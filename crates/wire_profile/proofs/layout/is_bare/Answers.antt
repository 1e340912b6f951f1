use Rattle.wire_profile.proofs.Comparing.{same_bare}
use Rattle.wire_profile.proofs.layout.is_bare.Goals as goal

pub returns-then-index-entry : goal.returns-then-index-entry
returns-then-index-entry c = same_bare _ _ _ _ _ c.in-Bare.is c.if-index-entry.true c.is_empty.ensures
