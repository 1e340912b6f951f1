use Rattle.wire_profile.proofs.Comparing.{same_boxed}
use Rattle.wire_profile.proofs.layout.is_boxed.Goals as goal

pub returns-then-number-head : goal.returns-then-number-head
returns-then-number-head c = same_boxed _ _ _ _ _ c.in-Boxed.is c.if-number-head.true c.is_empty.ensures
