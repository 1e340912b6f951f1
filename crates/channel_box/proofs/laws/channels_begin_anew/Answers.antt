use Rattle.channel_box.proofs.Anew.{leaves_no_events}
use Rattle.channel_box.proofs.laws.channels_begin_anew.Goals as goal

pub returns : goal.returns
returns c = leaves_no_events
