use Rattle.std.proofs.Common.{rules}
use Rattle.update_sessions.proofs.Answered.{sends_push, sends_receipt}
use Rattle.update_sessions.proofs.answering.receipt.Goals as goal

pub returns-in-Some : goal.returns-in-Some
returns-in-Some c = sends_push c.args.number c.args.posted c.in-Some.push (search rules) c.requires

pub returns-in-None : goal.returns-in-None
returns-in-None c = sends_receipt c.args.number c.args.posted (search rules)
