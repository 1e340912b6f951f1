use Rattle.outside.proofs.Growing.{did_none}
use Rattle.serve_rooms.specs.Telling.{TellsEnd}
use Rattle.serve_rooms.proofs.ToldEnds.{can_tell_end}
use Rattle.serve_rooms.proofs.telling.tell_end.Goals as goal

pub returns : goal.returns
returns g c = did_none (TellsEnd c.args.number c.args.tally c.args.end) _ (can_tell_end c.args.number c.args.tally c.args.end)
