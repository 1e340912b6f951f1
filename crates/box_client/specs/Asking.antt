-- When a client asks, and what. This project's own.
use Rattle.std.specs.Prelude.{◌+◌, pos, List, [], ◌∷◌, ◌++◌, Bool, true, false, cond, ◌||◌}
use Rattle.std.specs.FinMap as map_of
use Rattle.box_events.specs.declared.requests.Numbered.{Numbered}
use Rattle.box_events.specs.declared.requests.Request.TheVariants.{Difference}
use Rattle.pts_machine.specs.Steps.{asked, forget}
use Rattle.pts_machine.specs.SeqStates.{asked as settings_asked, forgotten as settings_forgotten}
use Rattle.channel_box.specs.Steps.{is_due, ticked, woken, forgotten}
use Rattle.channel_box.specs.Looks.{is_waiting, any_asks}
use Rattle.box_client.specs.States.{ClientState}

-- the group is due where its flag is set, one of the three holds something, or its last answer was a part
abbrev pub group_is_due : ClientState → Bool
group_is_due c = is_due c.flag (map_of.len c.common.held + map_of.len c.secret.held + map_of.len c.settings.held) c.common.mode

abbrev pub group_asks : ClientState → ClientState
group_asks c = record {
  next = c.next + 1;
  common = asked c.common c.next;
  secret = asked c.secret c.next;
  settings = settings_asked c.settings c.next;
  flag = false;
  channels = c.channels;
}

abbrev pub difference_of : ClientState → Numbered
difference_of c = record { number = c.next; request = Difference (pos c.common.at) (pos c.secret.at) c.settings.date }

-- a client and what it asks
pub record Asked : Type 0 where
  pub client : ClientState
  pub asks : List Numbered

abbrev pub group_ticked : ClientState → Asked
group_ticked c = cond (group_is_due c) (record { client = group_asks c; asks = difference_of c ∷ [] }) (record { client = c; asks = [] })

-- the group asks first, then the channels in order of watching
abbrev pub channels_ticked : Asked → Asked
channels_ticked a =
    let t = ticked a.client.next a.client.channels in
    record { client = record a.client { next = t.next; channels = t.channels }; asks = a.asks ++ t.asks }

abbrev pub ticks : ClientState → Asked
ticks c = channels_ticked (group_ticked c)

-- all is to be asked about
abbrev pub wakes : ClientState → ClientState
wakes c = record c { flag = true; channels = woken c.channels }

-- What is held goes, no answer is waited for, and all is to be asked about. Request numbers go on.
abbrev pub restarted : ClientState → ClientState
restarted c = record {
  next = c.next;
  common = forget c.common;
  secret = forget c.secret;
  settings = settings_forgotten c.settings;
  flag = true;
  channels = woken (forgotten c.channels);
}

-- an answer is waited for
abbrev pub is_one_asking : ClientState → Bool
is_one_asking c = is_waiting c.common.mode || any_asks c.channels
