use Rattle.std.proofs.Common.{ap, ◌∙◌, map}
use Rattle.tl_schema.specs.Seen.{shape}
use Rattle.wire_profile.proofs.Roots.{never_refused, plan_done, roots_formed}
use Rattle.wire_profile.proofs.planning.plan_of.Goals as goal

pub plan-requires : goal.plan-requires
plan-requires c = roots_formed c.args.layout.now c.requires.profile c.args.schema.now _ c.requires.same (ap (map shape) c.deref.ensures.value ∙ c.in_ok-roots.ensures)

pub returns-in-Ok : goal.returns-in-Ok
returns-in-Ok c = plan_done c.args.layout.now c.args.schema.now _ c.in-Ok.plan c.requires.same (ap (map shape) c.deref.ensures.value ∙ c.in_ok-roots.ensures) c.in-Ok.ensures.answer

pub unreachable-requires : goal.unreachable-requires
unreachable-requires c =
    never_refused c.args.layout.now c.requires.profile c.args.schema.now _ c.in-Err.fault c.requires.same (ap (map shape) c.deref.ensures.value ∙ c.in_ok-roots.ensures) c.in_default.not-Memory c.in-Err.ensures.answer
