-- What can be said of a run of words over any host: what it touches, and why it ends by a fault. This project's own.
use Rattle.std.specs.Prelude.{◌≡◌, ◌≢◌, ◌<◌, ◌^◌, ℕ, List}
use Rattle.tl_base.specs.Causes.{Rose}
use Rattle.tl_base.specs.Kinds.{count_of}
use Rattle.tl_base.specs.declared.counts.Counts.{Counts}
use Rattle.tl_base.specs.declared.counts.Kind.{Kind}
use Rattle.tl_base.specs.declared.host.Out.TheVariants as outs
use Rattle.tl_base.specs.declared.host.Slot.TheVariants as slots
use Rattle.outside.specs.declared.status.Status.{Status}
use Rattle.outside.specs.declared.status.Status.TheVariants.{Usage, ReadFault, WriteFault, LinkFault, PeerFault}
use Rattle.outside.specs.Events.{Event, counted_all, opened, took, ended, read_failed, created, put, write_failed, listened, connected, accepted, told}
use Rattle.outside.specs.Laws.{Explains, Happened, IsFailure, IsFromLink, Throughout}
use Rattle.codec_rooms.specs.Commands as codec
use Rattle.codec_rooms.specs.Laws.{IsOf}
use Rattle.call_commands.specs.Commands as calling
use Rattle.update_commands.specs.Commands as updating
use Rattle.session_rooms.specs.ClientLaws.{IsOfClient}
use Rattle.session_rooms.specs.PostLaws.{IsOfPost}
use Rattle.serve_rooms.specs.ServeLaws.{IsOfServe}
use Rattle.commands.specs.Requests.{RequestText, AsksFor, AsksNothing, AskForOne, check, decode, encode, replay, make, serve, post, client, layers, calls}
use Rattle.commands.specs.Work.{RunsRequest, RunsWords}
use Rattle.run_laws.specs.Ended.{LinkFailed, ReadFailed, WriteFailed}
use Rattle.run_laws.specs.Requests.{job_of}

-- ---- what is touched

-- Errors is written to
abbrev pub IsTelling : Event → Type 0
IsTelling (opened slot name ok) = ⊥
IsTelling (took slot bytes) = ⊥
IsTelling (ended slot) = ⊥
IsTelling (read_failed slot) = ⊥
IsTelling (created out name ok) = ⊥
IsTelling (put out bytes) = out ≡ outs.Errors
IsTelling (write_failed out) = out ≡ outs.Errors
IsTelling (listened address ok) = ⊥
IsTelling (connected address ok) = ⊥
IsTelling (accepted ok) = ⊥
IsTelling (told moment) = ⊥

-- what a request's run may do: each file by its slot, its one address, and the outs that it writes to
abbrev pub IsOfRequest : RequestText → Event → Type 0
IsOfRequest (check schema) = IsOf (codec.check schema).reads
IsOfRequest (decode schema type input) = IsOf (codec.decode schema type input).reads
IsOfRequest (encode schema type input) = IsOf (codec.encode schema type input).reads
IsOfRequest (replay schema journal clients) = IsOf (updating.replay schema journal clients).reads
IsOfRequest (make schema number steps) = IsOf (updating.make schema number steps).reads
IsOfRequest (serve schema address sessions) = IsOfServe schema address
IsOfRequest (post schema address input) = IsOfPost schema address input
IsOfRequest (client schema address state channels) = IsOfClient schema address state
IsOfRequest (layers old new type) = IsOf (codec.layers old new type).reads
IsOfRequest (calls schema input) = IsOf (calling.calls schema input).reads

-- words of no request: nothing happens but that a line is told; words of a request: nothing but what is of it
pub record TouchesOnly (words : List (List ℕ)) (t : List Event) : Type 0 where
  pub of_none : AsksNothing words → Throughout IsTelling t
  pub of_request : (r : RequestText) → AsksFor words r → Throughout (IsOfRequest r) t

-- no run does anything else, also one that runs out of memory
abbrev pub WordsTouch : Type 0
WordsTouch = (words : List (List ℕ)) (t : List Event) (status : Status) → RunsWords words t status → TouchesOnly words t

-- ---- links

-- no link is made, taken, read or written to
abbrev pub IsUnlinked : Event → Type 0
IsUnlinked (opened slot name ok) = slot ≢ slots.Link
IsUnlinked (took slot bytes) = slot ≢ slots.Link
IsUnlinked (ended slot) = slot ≢ slots.Link
IsUnlinked (read_failed slot) = slot ≢ slots.Link
IsUnlinked (created out name ok) = out ≢ outs.Link
IsUnlinked (put out bytes) = out ≢ outs.Link
IsUnlinked (write_failed out) = out ≢ outs.Link
IsUnlinked (listened address ok) = ⊥
IsUnlinked (connected address ok) = ⊥
IsUnlinked (accepted ok) = ⊥
IsUnlinked (told moment) = Unit {0}

-- words that ask for no request whose job uses links touch none, and end neither by a link's fault nor by the other end's
abbrev pub WordsLeaveLinks : Type 0
WordsLeaveLinks =
    (words : List (List ℕ)) (t : List Event) (status : Status) → RunsWords words t status → ((r : RequestText) → AsksFor words r → (job_of r).linked → ⊥)
    → Throughout IsUnlinked t × (status ≢ LinkFault) × (status ≢ PeerFault)

-- ---- causes

-- A fault's status comes only of a request, and only where a call of that kind failed; that of the other end's fault only where something came from there; and the
-- usage only of words of no request.
pub record Explained (words : List (List ℕ)) (t : List Event) (status : Status) : Type 0 where
  pub read : status ≡ ReadFault → AskForOne words × ReadFailed t
  pub write : status ≡ WriteFault → AskForOne words × WriteFailed t
  pub link : status ≡ LinkFault → AskForOne words × LinkFailed t
  pub peer : status ≡ PeerFault → AskForOne words × Happened IsFromLink t
  pub usage : status ≡ Usage → AsksNothing words

abbrev pub WordsHaveCause : Type 0
WordsHaveCause = (words : List (List ℕ)) (t : List Event) (status : Status) → RunsWords words t status → Explained words t status

-- ---- of a request's run, whichever operands it has: also such as no words have

-- nothing happens but what is of it
abbrev pub RequestsTouch : Type 0
RequestsTouch = (r : RequestText) (t : List Event) (status : Status) → RunsRequest r t status → Throughout (IsOfRequest r) t

-- a fault's status comes only where a call of that kind failed, that of the other end's fault only where something came from there, and the usage never
abbrev pub RequestsHaveCause : Type 0
RequestsHaveCause = (r : RequestText) (t : List Event) (status : Status) → RunsRequest r t status → Explains status t

-- ---- counts

-- counts of 64 bits, as those of each host
abbrev pub AreCounts : Counts → Type 0
AreCounts c = (kind : Kind) → count_of kind c < 2 ^ 64

-- where a call of a kind failed, the count of that kind rose: so a host that tells nothing but its counts shows that it did
abbrev pub FailuresAreCounted : Type 0
FailuresAreCounted = (kind : Kind) (t : List Event) (c : Counts) → AreCounts c → Happened (IsFailure kind) t → Rose (count_of kind c) (count_of kind (counted_all t c))
