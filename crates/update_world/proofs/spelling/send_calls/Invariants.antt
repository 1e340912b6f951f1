use Rattle.std.proofs.Common.{◌≡◌, ◌≤◌, length, take}
use Rattle.std.specs.Vec.{vec_capacity, vec_len}
use Rattle.update_world.specs.inner.Sending.{AreAsked}
use Rattle.update_world.proofs.spelling.send_calls.Given as goal

abbrev pub invariant-loop-i : goal.invariant-loop-i
invariant-loop-i l = AreAsked l.profile l.client (take l.i l.asks) l.more.items × (vec_len l.more ≡ l.i) × (length l.asks ≤ vec_capacity l.more)
