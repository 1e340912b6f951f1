use Rattle.std.proofs.Common.{map, drop}
use Rattle.box_server.proofs.RunSteps.{Copying}
use Rattle.box_server.proofs.runs.first_of.Given as goal

abbrev pub invariant-loop-message : goal.invariant-loop-message
invariant-loop-message l = Copying (map (λ b. b.now) l.messages) l.copies.items l.left (map (λ b. b.now) (drop l.message-index l.messages))
