use Rattle.std.proofs.Common.{codes}
use Rattle.codec_rooms.proofs.Typing.{text_read, text_refused}
use Rattle.update_commands.specs.Profile.{OfProfile}
use Rattle.update_commands.specs.ReplayWork.{replays_by}
use Rattle.update_commands.proofs.Replayed.{can_replay}
use Rattle.update_commands.proofs.replay.replay_schema.Goals as goal

pub returns-in-Ok : goal.returns-in-Ok
returns-in-Ok g c = text_read (codes "schema") (OfProfile (replays_by c.args.journal.now c.args.clients)) c.args.text.now c.in-Ok.schema _ _ _ c.in-Ok.ensures c.replay_profiled.ensures

pub returns-in-Err : goal.returns-in-Err
returns-in-Err g c = text_refused (codes "schema") (OfProfile (replays_by c.args.journal.now c.args.clients)) (can_replay c.args.journal.now c.args.clients) c.args.text.now c.in-Err.fault _ _ _ c.in-Err.ensures c.print_made.ensures

pub replay_profiled-requires-clause-good : goal.replay_profiled-requires-clause-good
replay_profiled-requires-clause-good g c = c.in-Ok.ensures.good
