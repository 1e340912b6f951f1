-- How a run of `keep` ends over an outside and a keeper. This project's own.
use Rattle.std.specs.Prelude.{◌≡◌, ℕ, List, codes, Option, Some}
use Rattle.tl_base.specs.Outside.{View}
use Rattle.box_server.specs.Servers.{ServerState}
use Rattle.box_server.specs.declared.entry.Entry.{Entry}
use Rattle.box_server.specs.Keeping.{KeeperState, Keeps}
use Rattle.outside.specs.Answer.{memory_line}
use Rattle.outside.specs.Jobs.{Job}
use Rattle.outside.specs.Telling.{TellsLine}
use Rattle.outside.specs.Sound.{IsFault}
use Rattle.outside.specs.Sound as sound
use Rattle.outside.specs.declared.status.Status.{Status}
use Rattle.outside.specs.declared.status.Status.TheVariants.{Done, Refused, Usage, ReadFault, WriteFault, Memory, LinkFault, PeerFault}
use Rattle.fault_lines.specs.Profiled.{HasProfile}
use Rattle.session_commands.specs.Keep.{KeepsFirst, KeepsSessions, RoomForRun, RoomOver, Starts, keep_job, told_job}
use Rattle.session_commands.specs.Serve.{ServeKeeps}
use Rattle.outside.specs.Events.{Event, Outside}
use Rattle.outside.specs.Fits.{Fits}
use Rattle.outside.specs.Reliable.{IsReliable}
use Rattle.serve_rooms.specs.Acts.{Act, KeeperGrew, events_in}
use Rattle.serve_rooms.specs.Doing.{RunsKept}
use Rattle.serve_rooms.specs.Serve.{keeps}
use Rattle.serve_rooms.specs.declared.status.KeptStatus.{KeptStatus}
use Rattle.serve_rooms.specs.declared.status.KeptStatus.TheVariants.{Run, KeepFault}
use Rattle.run_laws.specs.Ended.{Ended, ErrorsFailed, IsShown, LinkFailed, Stops, StopsIn}

-- "tlbox: keep fault"
abbrev pub keep_fault_line : List ℕ
keep_fault_line = codes "tlbox: keep fault\n"

-- how a run ends: all its sessions were served, with this status of their first fault; it was stopped with this status; a call to the keeper failed; or memory ran out
-- as that was told
pub data KeptEnd : Type 0 where
  served : Status → KeptEnd
  stopped : Status → KeptEnd
  keeper_failed : KeptEnd
  keeper_untold : KeptEnd

-- the status that it ends with
abbrev pub kept_status : KeptEnd → KeptStatus
kept_status (served status) = Run status
kept_status (stopped status) = Run status
kept_status keeper_failed = KeepFault
kept_status keeper_untold = Run Memory

abbrev pub IsKeeperEnd : KeptEnd → Type 0
IsKeeperEnd (served status) = ⊥
IsKeeperEnd (stopped status) = ⊥
IsKeeperEnd keeper_failed = Unit {0}
IsKeeperEnd keeper_untold = Unit {0}

-- the host's part: as the run of its job, where the keeper failed as one that was stopped, by the keeper's line, or by a prefix of it and that of memory
abbrev pub HostEnds : Job → List Event → KeptEnd → View → View → Type 0
HostEnds job t (served status) v w = Ended job t status v w
HostEnds job t (stopped status) v w = Ended job t status v w
HostEnds job t keeper_failed v w = StopsIn job t keep_fault_line v w
HostEnds job t keeper_untold v w = (u : View) × Stops job (Unit {0}) (LinkFailed t) keep_fault_line v u × TellsLine (ErrorsFailed t) memory_line u w

-- a fault of the outside stopped it
abbrev pub IsOutsideFault : KeptEnd → Type 0
IsOutsideFault (served status) = IsFault status
IsOutsideFault (stopped status) = IsFault status
IsOutsideFault keeper_failed = ⊥
IsOutsideFault keeper_untold = ⊥

-- What a run that was stopped has kept: that of its first sessions where nobody could be listened to or taken, or Output failed; that of no session where something
-- was refused or unread.
abbrev pub StopKeeps : Type 0 → Type 0 → Status → Type 0
StopKeeps Few Same LinkFault = Few
StopKeeps Few Same WriteFault = Few
StopKeeps Few Same Refused = Same
StopKeeps Few Same ReadFault = Same
StopKeeps Few Same Memory = Unit {0}
StopKeeps Few Same Done = ⊥
StopKeeps Few Same Usage = ⊥
StopKeeps Few Same PeerFault = ⊥

-- What a run has kept, by how it ended. The keeper is asked only where the schema is the protocol's.
abbrev pub KeptByFile : Type 0 → List ℕ → List ℕ → ℕ → Option (List Entry) → Option (List Entry) → KeptEnd → View → View → Type 0
KeptByFile L schema address n entries now_entries (served status) v w = (h : HasProfile v.files schema) × (s : ServerState) × Starts entries s × KeepsSessions L h.p address s n entries now_entries v w
KeptByFile L schema address n entries now_entries (stopped status) v w =
    StopKeeps ((h : HasProfile v.files schema) × (s : ServerState) × Starts entries s × KeepsFirst L h.p address s n entries now_entries v w) (now_entries ≡ entries) status
KeptByFile L schema address n entries now_entries keeper_failed v w = HasProfile v.files schema
KeptByFile L schema address n entries now_entries keeper_untold v w = HasProfile v.files schema

-- A run of `keep SCHEMA ADDRESS SESSIONS FILE` over a keeper: how it ended, what it left of the outside, and what of the keeper.
pub record KeptEnds (schema address : List ℕ) (sessions : ℕ) (t : List Event) (v w : View) (reliable : Type 0) (old new : KeeperState) (status : KeptStatus) : Type 0 where
  pub end : KeptEnd
  pub status_is : status ≡ kept_status end
  pub ends : HostEnds (keep_job old.entries schema address sessions) t end v w
  pub kept : ServeKeeps schema v w
  pub sound : reliable → sound.Fits (told_job old.entries schema address sessions) v → IsOutsideFault end → ⊥
  pub entries : KeptByFile (LinkFailed t) schema address sessions old.entries new.entries end v w
  pub used : Keeps old new (IsKeeperEnd end) (RoomOver (Some v) (RoomForRun schema sessions old.room))

-- each run of `keep` ends so
abbrev pub KeepEnds : Type 0
KeepEnds = (schema address : List ℕ) (sessions : ℕ) (t : List Act) (status : KeptStatus) (s n : Outside) (old new : KeeperState) → IsShown s.view → RunsKept (keeps schema address sessions) t status → Fits (events_in t) s n → KeeperGrew old t new
    → KeptEnds schema address sessions (events_in t) s.view n.view (IsReliable s) old new status
