use Rattle.std.proofs.Common.{arith}
use Rattle.pts_machine.proofs.Maps.{len_some, len_taken}
use Rattle.pts_machine.proofs.takes.VecTakes.take_in.Goals as goal

pub push_reserved-requires : goal.push_reserved-requires
push_reserved-requires g c =
    let held = c.requires.room in
    omega (arith, len_some held.0 held.1 _ held.3, held.4)

pub returns-clause-room : goal.returns-clause-room
returns-clause-room g c = λ m p end is room.
    omega (arith, len_some m p _ is, len_taken m p _ is, room, c.push_reserved.ensures.len, c.push_reserved.ensures.capacity)
