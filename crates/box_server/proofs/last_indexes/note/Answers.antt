use Rattle.std.proofs.Common.{Some}
use Rattle.box_server.proofs.LastKeys.{placed}
use Rattle.box_server.proofs.last_indexes.note.Goals as goal

pub returns : goal.returns
returns c = λ q. placed c.args.key.now q c.args.last.now (c.get_mut.follows.lender (Some c.args.index)) (Some (Some c.args.index)) ((c.get_mut.follows.holds (Some c.args.index)).3 c.requires)
