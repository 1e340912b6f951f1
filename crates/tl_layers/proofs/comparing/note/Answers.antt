use Rattle.std.proofs.Common.{refl, ap, Some}
use Rattle.tl_layers.specs.inner.Tables.{kept, broken}
use Rattle.tl_layers.proofs.KeptDeclarations.{broken_first}
use Rattle.tl_layers.proofs.comparing.note.Goals as goal

pub returns-in_ok-push-in-Ok : goal.returns-in_ok-push-in-Ok
returns-in_ok-push-in-Ok c = kept c.in-Ok.one c.if-not-is_marked.false c.in-Ok.ensures.0 c.in-Ok.ensures.1 c.in_ok-push-in-Ok.ensures.items refl

pub returns-in_ok-push-in-Err-Broken : goal.returns-in_ok-push-in-Err-Broken
returns-in_ok-push-in-Err-Broken c = broken c.in-Err-Broken.cause c.if-not-is_marked.false (broken_first c.args.pair.now c.args.i _ _ _ c.in-Err-Broken.field-0-is c.in-Err-Broken.ensures) c.in_ok-push-in-Err-Broken.ensures.items (ap Some c.earlier.ensures)
