-- `client` against `serve`: what each hears is what the other sent. This project's own.
use Rattle.std.specs.Prelude.{◌≡◌, ℕ, List, [], ◌∷◌, ◌++◌, length, false, Result, Ok}
use Rattle.tl_numbers.specs.Bytes.{AreBytes}
use Rattle.box_events.specs.declared.replies.Frame.{Frame}
use Rattle.box_events.specs.declared.requests.Numbered.{Numbered}
use Rattle.box_client.specs.Asking.{is_one_asking}
use Rattle.box_client.specs.States.{ClientState}
use Rattle.box_server.specs.Servers.{ServerState, dated_at}
use Rattle.box_server.specs.Sound.{IsSound}
use Rattle.box_world.specs.Agreeing.{Agrees}
use Rattle.box_world.specs.Streams.{Doing, Honest, begun, dates, past_of}
use Rattle.wire_profile.specs.Indexes.{ProfileView}
use Rattle.wire_profile.specs.Profiles.{IsProfile}
use Rattle.update_sessions.specs.Heard.{Hears}
use Rattle.update_sessions.specs.Honest.{told_all}
use Rattle.update_sessions.specs.Served.{Serves}
use Rattle.update_sessions.specs.declared.fault.SessionFault.{SessionFault}
use Rattle.headline.specs.Answering.{IsUpToDate}

-- A client and a server whose clock shows `now` over one link: the server hears what the client asks, and the client what the server answers. The client
-- comes to its end without a fault, the server to any end. Then they are d and t.
pub record Converse (p : ProfileView) (s : ServerState) (now : ℕ) (c : ClientState) (t : ServerState) (d : ClientState) : Type 0 where
  pub asked : List ℕ
  pub answered : List ℕ
  pub bytes : AreBytes asked × AreBytes answered
  pub calls : List Numbered
  pub ended : Result ℕ SessionFault
  pub serves : Serves p (dated_at s now) asked answered t ended calls
  pub frames : List Frame
  pub many : ℕ
  pub hears : Hears p c answered asked d (Ok many) frames []

-- The client agreed with the server, and asked for nothing. Then the frames that it heard were honest, the server is as it was but for its date, and the
-- client is up to date with it.
abbrev pub TwoProgramsMeet : Type 0
TwoProgramsMeet =
    (p : ProfileView) → IsProfile p → (h : List Doing) (now : ℕ) (c d : ClientState) (t : ServerState) → IsSound (dated_at (past_of h (length h)).server now) → Agrees (past_of h (length h)).server (past_of h (length h)).boxes c → is_one_asking c ≡ false
    → (m : Converse p (past_of h (length h)).server now c t d)
    → (t ≡ dated_at (past_of h (length h)).server now) × Honest (h ++ dates now ∷ []) (begun c) (length (h ++ dates now ∷ [])) (told_all m.frames) × IsUpToDate (h ++ dates now ∷ []) d
