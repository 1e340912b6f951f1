use Rattle.std.proofs.Common.{codes}
use Rattle.codec_rooms.proofs.Typing.{text_read, text_refused}
use Rattle.update_commands.specs.MakeWork.{makes_by}
use Rattle.update_commands.specs.Profile.{OfProfile}
use Rattle.update_commands.proofs.RunsMade.{can_make}
use Rattle.update_commands.proofs.make_work.make_text.Goals as goal

pub returns-in-Ok : goal.returns-in-Ok
returns-in-Ok g c = text_read (codes "schema") (OfProfile (makes_by c.args.number c.args.steps)) c.args.text.now c.in-Ok.schema _ _ _ c.in-Ok.ensures c.make_profiled.ensures

pub returns-in-Err : goal.returns-in-Err
returns-in-Err g c = text_refused (codes "schema") (OfProfile (makes_by c.args.number c.args.steps)) (can_make c.args.number c.args.steps) c.args.text.now c.in-Err.fault _ _ _ c.in-Err.ensures c.print_made.ensures

pub make_profiled-requires-clause-good : goal.make_profiled-requires-clause-good
make_profiled-requires-clause-good g c = c.in-Ok.ensures.good
