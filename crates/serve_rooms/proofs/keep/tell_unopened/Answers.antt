use Rattle.outside.specs.Runs.{answered}
use Rattle.serve_rooms.proofs.keep.tell_unopened.Goals as goal

pub returns-in-BadEntry : goal.returns-in-BadEntry
returns-in-BadEntry g c = rw c.in-BadEntry.is (answered c.tell_entry.result, c.tell_entry.ensures, c.as_kept.ensures)
