use Rattle.wire_profile.proofs.Differences.{few_indexes}
use Rattle.wire_profile.proofs.layout.Layout.is_further.Goals as goal

pub form_at-requires : goal.form_at-requires
form_at-requires c = few_indexes _ c.deref.result.now c.self.invariant c.deref.ensures.value
