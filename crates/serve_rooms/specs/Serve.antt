-- What `serve` and `keep` do. This project's own.
use Rattle.std.specs.Prelude.{◌≡◌, ℕ, List, [], codes, Option, Some, None, Ok, Err}
use Rattle.tl_base.specs.declared.host.Slot.TheVariants as slots
use Rattle.tl_schema.specs.Schemas.{Declared}
use Rattle.box_server.specs.Servers.{new_server}
use Rattle.wire_profile.specs.Faults.{FaultView, IsAnswer}
use Rattle.wire_profile.specs.Indexes.{ProfileView}
use Rattle.outside.specs.Answer.{refused}
use Rattle.outside.specs.declared.status.Status.{Status}
use Rattle.outside.specs.declared.status.Status.TheVariants.{Refused}
use Rattle.fault_lines.specs.Profiled.{form_line}
use Rattle.schema_files.specs.Causes.{SchemaCause}
use Rattle.schema_files.specs.Lines.{schema_line}
use Rattle.schema_files.specs.Loaded.{IsSchemaText, SchemaRefused}
use Rattle.schema_files.specs.declared.schema_text.TheConstants.{SCHEMA_BYTES}
use Rattle.outside.specs.Events.{Event}
use Rattle.outside.specs.Pieces.{ReadsFile, Tells}
use Rattle.outside.specs.Printing.{Prints, Unread}
use Rattle.outside.specs.Steps.{Step, StepOf, Calls, Ends, Then}
use Rattle.session_commands.specs.Keep.{bad_entry_line}
use Rattle.serve_rooms.specs.Acts.{Act, Loading, rebuilds, unaccepted, unread, loaded}
use Rattle.serve_rooms.specs.Doing.{Hosted, Last, Spares}
use Rattle.serve_rooms.specs.Sessions.{ServesAll, TellsKeepFault}
use Rattle.serve_rooms.specs.declared.loading.Loaded.{Loaded}
use Rattle.serve_rooms.specs.declared.loading.Loaded.TheVariants as schema
use Rattle.serve_rooms.specs.declared.status.KeptStatus.{KeptStatus}
use Rattle.serve_rooms.specs.declared.status.KeptStatus.TheVariants.{Run}

-- ---- the schema

abbrev pub EndsBy : Step Status → Step Loaded
EndsBy S = Then S (λ status. Ends (schema.Ended status))

-- the text is no schema's, and that is told; or it is this one's
pub data OfText (text : List ℕ) (t : List Event) (r : Loaded) : Type 0 where
  no_schema : (cause : SchemaCause) → SchemaRefused text cause → EndsBy (Prints (refused (schema_line (codes "schema") cause))) t r → OfText text t r
  schema_of : (S : Declared) → IsSchemaText text S → t ≡ [] → r ≡ schema.Schema S → OfText text t r

abbrev pub after_reading : Option (List ℕ) → Step Loaded
after_reading (Some text) = OfText text
after_reading None = EndsBy Unread

-- the schema's file is read
abbrev pub LoadsSchema : List ℕ → Step Loaded
LoadsSchema name = Then (ReadsFile slots.Schema name SCHEMA_BYTES) after_reading

-- what follows of a profile of the protocol
abbrev pub OfProfile : Type 1
OfProfile = ProfileView → StepOf Act KeptStatus

-- a form of the protocol is missing from the schema or differs there, and that is told; or it is a profile, and then the rest
pub data OfSchema (Rest : OfProfile) (S : Declared) (t : List Act) (status : KeptStatus) : Type 0 where
  no_profile : (fault : FaultView) → IsAnswer S (Err fault) → Last (Prints (refused (form_line fault))) t status → OfSchema Rest S t status
  profiled : (p : ProfileView) → IsAnswer S (Ok p) → Rest p t status → OfSchema Rest S t status

abbrev pub after_loading : OfProfile → Loaded → StepOf Act KeptStatus
after_loading Rest (schema.Schema S) = OfSchema Rest S
after_loading Rest (schema.Ended status) = Ends (Run status)

-- a command of one schema, which has the protocol
abbrev pub OfProfiled : OfProfile → List ℕ → StepOf Act KeptStatus
OfProfiled Rest name = Then (Hosted (LoadsSchema name)) (after_loading Rest)

-- ---- the commands

-- The keeper's entries rebuild a server, and its sessions follow; or one of them isn't accepted, and that is told; or a call to the keeper failed.
abbrev pub after_opening : List ℕ → ℕ → ProfileView → Loading → StepOf Act KeptStatus
after_opening address sessions p (rebuilds s) = ServesAll address sessions s p
after_opening address sessions p (unaccepted n) = Last (Tells (bad_entry_line n) Refused)
after_opening address sessions p unread = TellsKeepFault

-- the keeper's entries are read before anything listens
abbrev pub OpensAndServes : List ℕ → ℕ → OfProfile
OpensAndServes address sessions p = Then (Calls loaded) (after_opening address sessions p)

-- `keep SCHEMA ADDRESS SESSIONS FILE`
abbrev pub keeps : List ℕ → List ℕ → ℕ → StepOf Act KeptStatus
keeps schema address sessions = OfProfiled (OpensAndServes address sessions) schema

-- `serve SCHEMA ADDRESS SESSIONS`: from a new server, whose posts nobody keeps
abbrev pub serves : List ℕ → List ℕ → ℕ → Step Status
serves schema address sessions = Spares (OfProfiled (ServesAll address sessions new_server) schema)
