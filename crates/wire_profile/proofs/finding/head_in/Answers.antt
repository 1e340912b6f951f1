use Rattle.wire_profile.proofs.Comparing.{no_head}
use Rattle.wire_profile.proofs.finding.head_in.Goals as goal

pub returns-else-is_empty : goal.returns-else-is_empty
returns-else-is_empty c = no_head _ _ _ _ c.in-Boxed.is c.is_empty.ensures c.if-is_empty.false
