-- The fields of a channel as a channel. This project's own.
use Rattle.channel_box.specs.declared.channel.Channel.TheInside.{Inside}
use Rattle.channel_box.specs.States.{ChannelView}

abbrev pub channel_view : Inside → ChannelView
channel_view a = record { state = record { id = a.id; lane = a.lane.state; flag = a.flag; recent = a.recent }; spare = a.lane.spare }
