use Rattle.std.proofs.Common.{refl, ap, ◌∙◌, map}
use Rattle.tl_schema.specs.Seen.{shape}
use Rattle.tl_schema.specs.declared.schema.TypeRef as ref
use Rattle.tl_types.proofs.Views.{shape-Call}
use Rattle.tl_calls.proofs.Agreed.{one_call_more}
use Rattle.tl_calls.proofs.result.any_calls.Goals as goal

pub loop-preserved : goal.loop-preserved
loop-preserved c = ap (map shape) c.in_ok-push.ensures.items ∙ one_call_more c.loop.all.items c.loop.counter ref.Call c.loop.invariant (shape-Call ref.Call refl)
