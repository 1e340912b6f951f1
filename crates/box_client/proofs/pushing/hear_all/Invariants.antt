use Rattle.box_client.proofs.Hearings.{Hearing}
use Rattle.box_client.proofs.pushing.hear_all.Given as goal

abbrev pub invariant-loop-update : goal.invariant-loop-update
invariant-loop-update l = Hearing l.fn.parts l.fn.updates.items l.fn.pack l.update-iterator.rest.items l.parts l.pack
