use Rattle.std.proofs.Common.{ap, length, arith}
use Rattle.pts_machine.proofs.Sums.{total_taken}
use Rattle.pts_machine.proofs.store.StoreTakesHeldPack.take_in.Goals as goal

-- the pack is one of those that wait, so at least so many settings wait
pub overflow_sub-self : goal.overflow_sub-self
overflow_sub-self c =
    let held = c.requires.room in
    omega (arith, total_taken held.0 held.1 _ held.3, held.4.0, c.len.ensures, c.open-date.result.1.ok.0, ap length c.open-date.ensures.settings)

pub put_all-requires : goal.put_all-requires
put_all-requires c =
    let held = c.requires.room in
    record { room = omega (arith, total_taken held.0 held.1 _ held.3, held.4.0, held.4.1, c.open-date.result.1.ok.0, ap length c.open-date.ensures.settings) }

pub returns-clause-took : goal.returns-clause-took
returns-clause-took c =
    let held = c.requires.room in
    let number = ap length c.open-date.ensures.settings in
    let less = total_taken held.0 held.1 _ held.3 in (
      rw c.open-date.ensures.settings at c.put_all.ensures.values,
      c.open-date.ensures.date,
      omega (arith, less, held.4.0, c.len.ensures, c.open-date.result.1.ok.0, number),
      omega (arith, c.put_all.ensures.spare, c.open-date.result.1.ok.0, number),
    )

pub returns-clause-room : goal.returns-clause-room
returns-clause-room c = λ m p end is room.
    let number = ap length c.open-date.ensures.settings in
    let less = total_taken m p _ is in (
      omega (arith, less, room.0, c.len.ensures, c.open-date.result.1.ok.0, number),
      omega (arith, less, room.0, room.1, c.len.ensures, c.put_all.ensures.spare, c.open-date.result.1.ok.0, number),
    )
