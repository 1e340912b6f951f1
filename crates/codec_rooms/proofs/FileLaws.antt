-- What a command touches, by the events that it keeps to.
use Rattle.std.proofs.Common.{List, sym, subst}
use Rattle.outside.specs.declared.status.Status.{Status}
use Rattle.outside.specs.Events.{Event}
use Rattle.outside.specs.Laws.{Throughout, Keeps}
use Rattle.outside.specs.Runs.{RunsIn, done, out_of_memory}
use Rattle.outside.proofs.Causing.{keeps_begun, keeps_tell, throughout_both}
use Rattle.codec_rooms.specs.Laws.{Command, IsOf}

-- no run does anything but what is of the command, also one that runs out of memory
abbrev pub Touches : Command → Type 0
Touches c = (t : List Event) (status : Status) → RunsIn c.writes c.work t status → Throughout (IsOf c.reads) t

module _ (c : Command) where
  pub touches : Keeps (IsOf c.reads) c.work → Touches c
  touches keeps t status (done h) = keeps t status h
  touches keeps t status (out_of_memory h) =
      let P = IsOf c.reads in
      subst (Throughout P) (sym h.splits) (throughout_both P h.first h.rest (keeps_begun P c.work h.first keeps h.does.0) (keeps_tell P (λ _. tt) tt _ _ h.rest status h.goes))
