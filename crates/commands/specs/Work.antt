-- What a run does: what its words ask for, in order. This project's own.
use Rattle.std.specs.Prelude.{ℕ, List, []}
use Rattle.tl_base.specs.declared.host.Out.{Out}
use Rattle.outside.specs.Answer.{memory_line}
use Rattle.outside.specs.declared.status.Status.{Status}
use Rattle.outside.specs.declared.status.Status.TheVariants.{Usage, Memory}
use Rattle.outside.specs.Begun.{to_link, to_output}
use Rattle.outside.specs.Events.{Event, HostState}
use Rattle.outside.specs.Pieces.{Tells}
use Rattle.outside.specs.Runs.{RunsIn}
use Rattle.outside.specs.Steps.{Step, Grows}
use Rattle.codec_rooms.specs.Check.{checks}
use Rattle.codec_rooms.specs.Decode.{decodes}
use Rattle.codec_rooms.specs.Encode.{encodes}
use Rattle.codec_rooms.specs.Layers.{compares}
use Rattle.call_commands.specs.CallsWork.{tells_calls}
use Rattle.update_commands.specs.MakeWork.{makes}
use Rattle.update_commands.specs.ReplayWork.{replays}
use Rattle.session_rooms.specs.Client.{recovers}
use Rattle.session_rooms.specs.Post.{posts}
use Rattle.serve_rooms.specs.Acts.{Act, KeptGrew, KeptState}
use Rattle.serve_rooms.specs.Doing.{Last, RunsKept, to_serve}
use Rattle.serve_rooms.specs.Serve.{keeps, serves}
use Rattle.serve_rooms.specs.declared.status.KeptStatus.{KeptStatus}
use Rattle.commands.specs.KeepWords.{AsksNoKeep, AsksToKeep, KeepText}
use Rattle.commands.specs.Requests.{RequestText, AsksFor, AsksNothing, check, decode, encode, replay, make, serve, post, client, layers, calls}
use Rattle.commands.specs.Usage.{usage_line}

-- what a request does
abbrev pub work_of : RequestText → Step Status
work_of (check schema) = checks schema
work_of (decode schema type input) = decodes schema type input
work_of (encode schema type input) = encodes schema type input
work_of (replay schema journal clients) = replays schema journal clients
work_of (make schema number steps) = makes schema number steps
work_of (serve schema address sessions) = serves schema address sessions
work_of (post schema address input) = posts schema address input
work_of (client schema address state channels) = recovers schema address state channels
work_of (layers old new type) = compares old new type
work_of (calls schema input) = tells_calls schema input

-- the outs that may have been written to where memory runs out
abbrev pub outs_of : RequestText → List Out
outs_of (check schema) = []
outs_of (decode schema type input) = []
outs_of (encode schema type input) = []
outs_of (replay schema journal clients) = to_output
outs_of (make schema number steps) = []
outs_of (serve schema address sessions) = to_serve
outs_of (post schema address input) = to_link
outs_of (client schema address state channels) = to_link
outs_of (layers old new type) = []
outs_of (calls schema input) = to_output

-- what a run of a request does
abbrev pub RunsRequest : RequestText → Step Status
RunsRequest r = RunsIn (outs_of r) (work_of r)

-- The words are those of no request, and the usage line is told, and nothing else is done; they are a request's, and its work is done; or there was no
-- memory to read them, and that is told.
pub data RunsWords (words : List (List ℕ)) (t : List Event) (status : Status) : Type 0 where
  no_request : AsksNothing words → Tells usage_line Usage t status → RunsWords words t status
  requested : (r : RequestText) → AsksFor words r → RunsRequest r t status → RunsWords words t status
  no_memory : Tells memory_line Memory t status → RunsWords words t status

-- a run of these words
abbrev pub RanWords : List (List ℕ) → HostState → HostState → Status → Type 0
RanWords words old new status = Grows old new (λ t. RunsWords words t status)

-- ---- over a keeper

-- The words ask to keep nothing, and the usage line is told, and nothing else is done; or they are `keep SCHEMA ADDRESS SESSIONS FILE`, and its work is done.
pub data RunsStored (words : List (List ℕ)) (t : List Act) (status : KeptStatus) : Type 0 where
  no_keep : AsksNoKeep words → Last (Tells usage_line Usage) t status → RunsStored words t status
  kept : (k : KeepText) → AsksToKeep words k → RunsKept (keeps k.schema k.address k.sessions) t status → RunsStored words t status

-- a run of these words over a host and a keeper
pub record RanStored (words : List (List ℕ)) (old new : KeptState) (status : KeptStatus) : Type 0 where
  pub trace : List Act
  pub grew : KeptGrew old trace new
  pub holds : RunsStored words trace status
