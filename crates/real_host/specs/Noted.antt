-- The event that a call is. This project's own.
use Rattle.std.specs.Prelude.{take, Some, None}
use Rattle.tl_base.specs.declared.host.Slot.{Slot}
use Rattle.outside.specs.Events.{Event, opened, read_failed, created, put, write_failed, listened, connected, accepted, told, given_event}
use Rattle.real_host.specs.declared.log.Call.{Call}
use Rattle.real_host.specs.declared.log.Call.TheVariants as call

abbrev pub event_of : Call → Event
event_of (call.Open slot name ok) = opened slot name.now ok
event_of (call.Read slot into (Some n)) = given_event slot (take n into.now)
event_of (call.Read slot into None) = read_failed slot
event_of (call.Create out name ok) = created out name.now ok
event_of (call.Write out piece (Some n)) = put out (take n piece.now)
event_of (call.Write out piece None) = write_failed out
event_of (call.Listen address ok) = listened address.now ok
event_of (call.Connect address ok) = connected address.now ok
event_of (call.Accept ok) = accepted ok
event_of (call.Now moment) = told moment
