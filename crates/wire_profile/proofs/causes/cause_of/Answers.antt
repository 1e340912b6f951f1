use Rattle.std.proofs.Common.{◌∙◌, ap, None}
use Rattle.tl_types.specs.Seen.{view}
use Rattle.wire_profile.specs.inner.Walks.{found}
use Rattle.wire_profile.proofs.Walking.{first_cause}
use Rattle.wire_profile.proofs.causes.cause_of.Goals as goal

pub returns : goal.returns
returns c = c.walk.ensures.cause ∙ ap (λ rules. found rules (view c.args.value.now) None) c.rules_of.ensures ∙ first_cause c.args.root (view c.args.value.now)
