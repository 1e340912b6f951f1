use Rattle.wire_profile.proofs.Passing.{checked}
use Rattle.wire_profile.proofs.layout.Layout.check.Goals as goal

pub returns-clause-profile : goal.returns-clause-profile
returns-clause-profile c = checked c.args.self.now c.check_others.result c.in_ok-check_forms.ensures c.check_others.ensures.sound c.check_others.ensures.found c.check_others.ensures.fault
