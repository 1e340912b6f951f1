-- What the parts of `client` do. This project's own.
use Rattle.std.specs.Prelude.{◌≡◌, ℕ, ℤ, List, codes, Option, Some, None, Result, Ok, Err}
use Rattle.tl_base.specs.Outside.{View, IsThere}
use Rattle.box_events.specs.declared.saved.Saved.{Saved}
use Rattle.box_client.specs.declared.fault.LoadFault.{LoadFault}
use Rattle.box_client.specs.Loads.{IsCauseOf, IsLoadedAs}
use Rattle.box_client.specs.Saving.{saved_of}
use Rattle.box_client.specs.States.{ClientState}
use Rattle.wire_profile.specs.declared.wire_fault.WireFault.{WireFault}
use Rattle.wire_profile.specs.Indexes.{ProfileView}
use Rattle.wire_values.specs.Carried.{IsSaved}
use Rattle.wire_values.specs.SavedClients.{saved_tree}
use Rattle.box_wire.specs.Kinds.{saved_clients}
use Rattle.box_wire.specs.Framing.{Framed, Means, WireRefused}
use Rattle.outside.specs.Loading.{Refuses}
use Rattle.outside.specs.declared.stop.LoadError.{LoadError}
use Rattle.fault_lines.specs.Messages.{wire_line}
use Rattle.fault_lines.specs.SavedClients.{load_line}
use Rattle.session_commands.specs.declared.saving.SavedState.{SavedState}
use Rattle.session_commands.specs.Client.{OfStateFile, client_line, many_channels_line}
use Rattle.session_commands.specs.Linked.{next_link, KeepsFiles, LeavesLinks, LeavesState}

-- ---- the state file

-- the line says why the bytes are no saved client
abbrev pub TellsNoSaved : ProfileView → List ℕ → List ℕ → Type 0
TellsNoSaved p bytes line = (fault : WireFault) × WireRefused p saved_clients bytes fault × (line ≡ wire_line (codes "state") fault)

-- what is saved is read of the bytes
abbrev pub ReadsSaved : ProfileView → List ℕ → Result Saved LoadError → Type 0
ReadsSaved p bytes (Ok s) = IsSaved s × Means p saved_clients (saved_tree s) bytes
ReadsSaved p bytes (Err e) = Refuses (TellsNoSaved p bytes) e

-- the line says why no client is loaded of what was saved
abbrev pub TellsNotLoaded : Saved → List ℕ → Type 0
TellsNotLoaded s line = (fault : LoadFault) × IsCauseOf s fault × (load_line fault ≡ Some line)

-- a client is loaded of it
abbrev pub LoadsClient : Saved → Result ClientState LoadError → Type 0
LoadsClient s (Ok c) = IsLoadedAs s c
LoadsClient s (Err e) = Refuses (TellsNotLoaded s) e

-- ---- channels

-- these are watched; or there is no place for one
abbrev pub Watches : Option ClientState → Result (Unit {0}) LoadError → ClientState → Type 0
Watches o (Ok u) d = o ≡ Some d
Watches o (Err e) d = Refuses (λ line. (o ≡ None) × (line ≡ many_channels_line)) e

-- ---- what is left of a client

-- its spelling and its line
pub record LeavesOf (p : ProfileView) (c : ClientState) (l : SavedState) : Type 0 where
  pub state : Framed p saved_clients (saved_tree (saved_of c)) l.state
  pub line : l.line.items ≡ client_line c

-- ---- what is left as it was

-- files, moments and Input are as before, and State too, unless an answer creates it; links, where there is no file of this name
pub record KeepsStateFile (p : ProfileView) (address name : List ℕ) (channels : List ℤ) (v w : View) : Type 0 where
  pub rest : KeepsFiles v w
  pub input : w.left.input ≡ v.left.input
  pub state : LeavesState (OfStateFile address name channels v.files (next_link v) p) v w
  pub links : LeavesLinks (IsThere name v) v w
