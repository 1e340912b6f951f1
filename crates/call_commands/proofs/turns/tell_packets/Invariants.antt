use Rattle.std.proofs.Common.{◌≤◌, ◌+◌, ◌*◌, ◌-◌}
use Rattle.tl_calls.specs.Calling.{AreOpenIn}
use Rattle.call_commands.specs.declared.limits.TheConstants.{MAX_PACKET_END}
use Rattle.call_commands.proofs.Taking.{Reached}
use Rattle.call_commands.proofs.turns.tell_packets.Given as goal

abbrev pub invariant-packets : goal.invariant-packets
invariant-packets g l =
    let h = g.H.Host.state in
    record {
      within : l.at ≤ MAX_PACKET_END;
      few : 8 * l.calls.next ≤ l.at + 8;
      fitting : AreOpenIn l.schema l.calls;
      so : Reached l.schema l.calls l.at (h l.fn.host) (h l.host);
    }

abbrev pub decreases-packets : goal.decreases-packets
decreases-packets g l = MAX_PACKET_END - l.at
