use Rattle.std.proofs.Common.{codes}
use Rattle.outside.specs.Answer.{done}
use Rattle.outside.proofs.Printed.{can_print}
use Rattle.codec_commands.specs.Check.{listing}
use Rattle.codec_rooms.specs.Check.{lists}
use Rattle.codec_rooms.proofs.Typing.{text_read, text_refused}
use Rattle.codec_rooms.proofs.check.check_text.Goals as goal

pub returns-in-Ok : goal.returns-in-Ok
returns-in-Ok g c = text_read (codes "schema") lists c.args.text.now c.in-Ok.schema _ _ _ c.in-Ok.ensures c.check_listed.ensures

pub returns-in-Err : goal.returns-in-Err
returns-in-Err g c = text_refused (codes "schema") lists (λ S good. can_print (done (listing S.decls))) c.args.text.now c.in-Err.fault _ _ _ c.in-Err.ensures c.print_made.ensures
