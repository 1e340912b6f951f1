use Rattle.std.proofs.Common.{◌≡◌, IfOk, subst}
use Rattle.tl_schema.specs.Seen.{shape}
use Rattle.tl_schema.specs.Types.{Shape}
use Rattle.tl_schema.specs.declared.schema.TypeRef.{TypeRef}
use Rattle.tl_types.proofs.Closings.{closed_none}
use Rattle.tl_show.proofs.copying.copy_type.Goals as goal

pub returns : goal.returns
returns c = subst (λ (T : Shape). IfOk c.close.result (λ (t : TypeRef). shape t ≡ T)) (closed_none (shape c.args.of.now)) c.close.ensures.closed
