use Rattle.std.proofs.Common.{[]}
use Rattle.tl_decode.proofs.piecewise.Decoder.new.Goals as goal

pub invariant_of-result : goal.invariant_of-result
invariant_of-result c = record { sound = c.root-of.ensures.sound; root = c.requires; taken = ([], rw c.root-of.ensures.root at c.begun-progress.ensures) }

pub returns-clause-taken : goal.returns-clause-taken
returns-clause-taken c = rw c.root-of.ensures.root at c.begun-progress.ensures
