-- What `client` promises. This project's own.
use Rattle.std.specs.Prelude.{◌≡◌, ◌≤◌, ℕ, ℤ, List, ◌++◌, length, Some}
use Rattle.tl_base.specs.Outside.{View, HasFile}
use Rattle.box_events.specs.declared.replies.Frame.{Frame}
use Rattle.wire_profile.specs.Indexes.{ProfileView}
use Rattle.channel_box.specs.States.{ids_of}
use Rattle.box_client.specs.States.{ClientState}
use Rattle.box_world.specs.Streams.{Doing, Honest, begun}
use Rattle.update_sessions.specs.Honest.{told_all}
use Rattle.outside.specs.declared.status.Status.TheVariants.{Done}
use Rattle.fault_lines.specs.Profiled.{IsProfileText}
use Rattle.session_commands.specs.Client.{client_line}
use Rattle.session_commands.specs.Linked.{next_link}
use Rattle.commands.specs.Requests.{AsksFor, client}
use Rattle.outside.specs.Events.{Event, Outside}
use Rattle.run_laws.specs.Runs.{RunsOver}
use Rattle.headline.specs.Recovered.{IsRecovered, Recovers, StateAgrees}

-- State has a client that was recovered, with the channels that it watched; and where the state that was there agreed with a server, and the frames are that server's, it is recovered by it.
pub record ClientEnds (schema state_name : List ℕ) (channels : List ℤ) (state : List ℕ) (v w : View) : Type 0 where
  pub p : ProfileView
  pub profile : IsProfileText schema p
  pub frames : List Frame
  pub c : ClientState
  pub d : ClientState
  pub recovers : Recovers p channels state (next_link v) w.written.state frames c d
  pub ids : ids_of d.channels ≡ ids_of c.channels
  pub name : w.state_name ≡ Some state_name
  pub told : w.written.output ≡ v.written.output ++ client_line d
  pub honest : (h : List Doing) (m : ℕ) → m ≤ length h → StateAgrees p h m state → Honest h (begun c) m (told_all frames) → IsRecovered p h m w.written.state frames c d

-- Whatever `run` admits by its clause, over an outside that shows what it holds, where the words are `client SCHEMA ADDRESS STATE [CHANNEL ..]`, and the
-- status is 0.
abbrev pub ClientHeadline : Type 0
ClientHeadline =
    (words : List (List ℕ)) (schema_name address state_name : List ℕ) (channels : List ℤ) (t : List Event) (before after : Outside) (schema state : List ℕ) → AsksFor words (client schema_name address state_name channels)
    → HasFile before.view.files schema_name schema → HasFile before.view.files state_name state → RunsOver words t Done before after → ClientEnds schema state_name channels state before.view after.view
