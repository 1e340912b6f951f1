-- What an answer does to a client.
-- From "Working with Updates" (core.telegram.org/api/updates): updates.difference, its slices and differenceEmpty; the channels' answers. The
-- numbers of requests, and the order of causes, are this project's own.
use Rattle.std.specs.Prelude.{ℕ, List, [], Bool, true, false, ◌&&◌, ltb, cond, is_some, Result, Ok, Err}
use Rattle.box_events.specs.Events.{EventView, count_of}
use Rattle.box_events.specs.declared.replies.Reply.{Reply}
use Rattle.box_events.specs.declared.replies.Reply.TheVariants.{State, Empty, Difference, Channel, Receipt, Error}
use Rattle.pts_machine.specs.Steps.{extend}
use Rattle.pts_machine.specs.SeqStates.{overlaid, asks_again}
use Rattle.box_events.specs.Weaves.{woven_of}
use Rattle.box_events.specs.declared.difference_fault.WeaveFault.{WeaveFault}
use Rattle.channel_box.specs.States.{first}
use Rattle.channel_box.specs.Steps.{is_asking, asks_number, Answered, stale, refused, taken, answered}
use Rattle.box_client.specs.declared.fault.ClientFault.{ClientFault}
use Rattle.box_client.specs.declared.fault.ClientFault.TheVariants.{PeerError, WrongKind, Weave, SeqBack}
use Rattle.box_client.specs.declared.received.Received.{Received}
use Rattle.box_client.specs.States.{ClientState}

-- what comes of an answer: nobody asks its number, it is refused, or it makes a client
pub data Outcome : Type 0 where
  ignored : Outcome
  refuses : ClientFault → Outcome
  becomes : ClientState → Outcome

-- nothing is new since the client's positions
abbrev pub nothing_new : ClientState → ℕ → ℕ → Received
nothing_new c date seq = record {
  news = [];
  secrets = [];
  others = [];
  settings = [];
  state = record { pts = c.common.at; qts = c.secret.at; date = date; seq = seq };
  last = true;
}

-- Both lanes grow. After the last part the settings are laid over the others, with its seq and date; after another all are to ask again.
abbrev pub group_done : Bool → ClientState → Received → List EventView → List EventView → ClientState
group_done true c b xs ys = record c {
  common = extend count_of c.common xs true;
  secret = extend count_of c.secret ys true;
  settings = overlaid c.settings b.settings b.state.seq b.state.date;
}
group_done false c b xs ys = record c {
  common = extend count_of c.common xs false;
  secret = extend count_of c.secret ys false;
  settings = asks_again c.settings;
}

-- the last part's seq may not be below the client's
abbrev pub group_taken : Bool → ClientState → Received → List EventView → List EventView → Outcome
group_taken true c b xs ys = refuses (SeqBack c.settings.at b.state.seq)
group_taken false c b xs ys = becomes (group_done b.last c b xs ys)

abbrev pub group_woven : ClientState → Received → Result (List EventView) WeaveFault → Result (List EventView) WeaveFault → Outcome
group_woven c b (Err cause) o = refuses (Weave cause)
group_woven c b (Ok xs) (Err cause) = refuses (Weave cause)
group_woven c b (Ok xs) (Ok ys) = group_taken (b.last && ltb b.state.seq c.settings.at) c b xs ys

-- the common lane's events are woven of messages and other events, the secret lane's are messages alone
abbrev pub brings : ClientState → Received → Outcome
brings c b = group_woven c b (woven_of c.common.at b.state.pts b.news b.others) (woven_of c.secret.at b.state.qts b.secrets [])

abbrev pub group_replied : ClientState → Reply → Outcome
group_replied c (State state) = refuses WrongKind
group_replied c (Empty date seq) = brings c (nothing_new c date seq)
group_replied c (Difference news secrets others settings state last) =
    brings c (record { news = news; secrets = secrets; others = others; settings = settings; state = state; last = last })
group_replied c (Channel reply) = refuses WrongKind
group_replied c (Receipt receipt) = refuses WrongKind
group_replied c (Error code text) = refuses (PeerError code)

abbrev pub by_channels : ClientState → Answered → Outcome
by_channels c stale = ignored
by_channels c (refused cause) = refuses (Weave cause)
by_channels c (taken channels) = becomes (record c { channels = channels })

abbrev pub channel_replied : ClientState → ℕ → Reply → Outcome
channel_replied c n (State state) = refuses WrongKind
channel_replied c n (Empty date seq) = refuses WrongKind
channel_replied c n (Difference news secrets others settings state last) = refuses WrongKind
channel_replied c n (Channel reply) = by_channels c (answered c.channels n reply)
channel_replied c n (Receipt receipt) = refuses WrongKind
channel_replied c n (Error code text) = refuses (PeerError code)

-- A client after the answer to a number: the group that asks it takes the answer, or else the channel that does.
abbrev pub replied : ClientState → ℕ → Reply → Outcome
replied c n r = cond (is_asking n c.common.mode) (group_replied c r) (cond (is_some (first (asks_number n) c.channels)) (channel_replied c n r) ignored)
