-- How a run of words ends over an outside that shows what it holds. This project's own.
use Rattle.std.specs.Prelude.{◌≡◌, ◌≢◌, ◌⊎◌, ℕ, List, ◌++◌}
use Rattle.tl_base.specs.Outside.{View, IsThere}
use Rattle.outside.specs.Answer.{Answer, read_fault_line, write_fault_line, link_fault_line, memory_line}
use Rattle.outside.specs.Kept.{Leaves, OnlyErrors}
use Rattle.outside.specs.Sound.{HasRoomFor, IsFault}
use Rattle.outside.specs.Telling.{Tells, TellsLine}
use Rattle.outside.specs.declared.status.Status.{Status}
use Rattle.outside.specs.declared.status.Status.TheVariants.{ReadFault, WriteFault, Memory, LinkFault}
use Rattle.outside.specs.Events.{Event, Outside}
use Rattle.outside.specs.Fits.{Fits}
use Rattle.outside.specs.Reliable.{IsReliable}
use Rattle.box_server.specs.Keeping.{KeeperState}
use Rattle.serve_rooms.specs.Acts.{Act, KeeperGrew, events_in}
use Rattle.serve_rooms.specs.declared.status.KeptStatus.{KeptStatus}
use Rattle.serve_rooms.specs.declared.status.KeptStatus.TheVariants.{Run}
use Rattle.commands.specs.KeepWords.{AsksToKeep, KeepText}
use Rattle.commands.specs.Requests.{RequestText, AsksFor, AsksNothing, AskForOne}
use Rattle.commands.specs.Work.{RunsRequest, RunsStored, RunsWords, outs_of, work_of}
use Rattle.run_laws.specs.Answers.{Answers}
use Rattle.run_laws.specs.Ended.{ErrorsFailed, IsShown, LinesStand, LinkFailed, ReadFailed, RunsJob, StopsIn, ToldBefore, WriteFailed}
use Rattle.run_laws.specs.Kept.{KeptEnds}
use Rattle.run_laws.specs.Requests.{HasFilesOf, ReadsBytesFor, ShowsBytesFor, job_of}

-- what a run may answer: the answer to its words, or, where a link failed, one of the request's job that this broke
abbrev pub MayAnswer : List (List ℕ) → Type 0 → View → Answer → Type 0
MayAnswer words link_failed v a = Answers words v a ⊎ (link_failed × (r : RequestText) × AsksFor words r × (job_of r).broken v a)

-- the request's job was stopped: a prefix of what it gives was written, and then the line was told
pub record StopsAfter (words : List (List ℕ)) (t : List Event) (line : List ℕ) (v w : View) : Type 0 where
  pub request : RequestText
  pub asked : AsksFor words request
  pub stops : StopsIn (job_of request) t line v w

-- A run that did this ends with its answer; or, where the words ask for a request, with a fault, where a call of that kind failed; or out of memory. What it wrote
-- until then is none of its Output, or a prefix: out of memory only in a job that writes in pieces, after a failed read only in one that reads on between these. Where a
-- job tells lines as it goes, memory may run out after a fault was told. A line is told whole, or a prefix of it where a write to Errors failed.
pub data Ends (words : List (List ℕ)) (t : List Event) (status : Status) (v w : View) : Type 0 where
  answered : (a : Answer) → MayAnswer words (LinkFailed t) v a → status ≡ a.status → w.written.output ≡ v.written.output ++ a.output → Leaves a v w → Tells (ErrorsFailed t) a.errors v w → Ends words t status v w
  read_failed : AskForOne words → ReadFailed t → status ≡ ReadFault → w.written.output ≡ v.written.output → Tells (ErrorsFailed t) read_fault_line v w → Ends words t status v w
  read_failed_later : ReadFailed t → status ≡ ReadFault → (s : StopsAfter words t read_fault_line v w) → (job_of s.request).reads_on → Ends words t status v w
  write_failed : WriteFailed t → status ≡ WriteFault → StopsAfter words t write_fault_line v w → Ends words t status v w
  link_failed : LinkFailed t → status ≡ LinkFault → StopsAfter words t link_fault_line v w → Ends words t status v w
  out_of_memory : status ≡ Memory → w.written.output ≡ v.written.output → Tells (ErrorsFailed t) memory_line v w → Ends words t status v w
  out_of_memory_later : status ≡ Memory → (s : StopsAfter words t memory_line v w) → (job_of s.request).in_pieces → Ends words t status v w
  out_of_memory_told : status ≡ Memory → (r : RequestText) → AsksFor words r → (job_of r).tells → (u : View) → ToldBefore (job_of r) t v u → TellsLine (ErrorsFailed t) memory_line u w → Ends words t status v w

-- Where the words ask for nothing, all is as before but what was written to Errors. Where they ask for a request, what its job keeps is kept.
pub record Keeps (words : List (List ℕ)) (v w : View) : Type 0 where
  pub of_none : AsksNothing words → OnlyErrors v w
  pub of_request : (r : RequestText) → AsksFor words r → (job_of r).keeps v w

-- the words have an answer over the outside, and there is room for it
abbrev pub AnswerFits : List (List ℕ) → View → Type 0
AnswerFits words v = (a : Answer) × Answers words v a × HasRoomFor a v

-- A run of words over an outside that shows what it holds, before and after.
pub record RunsOver (words : List (List ℕ)) (t : List Event) (status : Status) (s n : Outside) : Type 0 where
  pub runs : RunsWords words t status
  pub fits : Fits t s n
  pub shown : IsShown s.view

-- it ends with its answer, or as a fault or memory lets it
abbrev pub WordsEnd : Type 0
WordsEnd = (words : List (List ℕ)) (t : List Event) (status : Status) (s n : Outside) → RunsOver words t status s n → Ends words t status s.view n.view

-- what isn't its own is as before
abbrev pub WordsKeep : Type 0
WordsKeep = (words : List (List ℕ)) (t : List Event) (status : Status) (s n : Outside) → RunsOver words t status s n → Keeps words s.view n.view

-- where no call was told to fail, and words have an answer with room for it, no fault's status comes
abbrev pub WordsAreSound : Type 0
WordsAreSound = (words : List (List ℕ)) (t : List Event) (status : Status) (s n : Outside) → RunsOver words t status s n → IsReliable s → AnswerFits words s.view → IsFault status → ⊥

-- whatever room there is, no read fault comes where no call was told to fail, and the files that the words name are there
abbrev pub WordsReadFiles : Type 0
WordsReadFiles =
    (words : List (List ℕ)) (t : List Event) (status : Status) (s n : Outside) → RunsWords words t status → Fits t s n → IsReliable s → (r : RequestText) → AsksFor words r → HasFilesOf s.view.files r → status ≢ ReadFault

-- and a line for which Errors has room stands there whole
abbrev pub WordsAreTold : Type 0
WordsAreTold = (words : List (List ℕ)) (t : List Event) (status : Status) (s n : Outside) → RunsWords words t status → Fits t s n → LinesStand t s n

-- ---- of a request, whichever operands it has: also such as no words have

-- what its run comes to is its job
abbrev pub RequestsEnd : Type 0
RequestsEnd = (r : RequestText) → RunsJob (λ v. ReadsBytesFor v r) (λ v. ShowsBytesFor v r) (job_of r) (outs_of r) (work_of r)

abbrev pub RequestsReadFiles : Type 0
RequestsReadFiles = (r : RequestText) (t : List Event) (status : Status) (s n : Outside) → RunsRequest r t status → Fits t s n → IsReliable s → HasFilesOf s.view.files r → status ≢ ReadFault

abbrev pub RequestsAreTold : Type 0
RequestsAreTold = (r : RequestText) (t : List Event) (status : Status) (s n : Outside) → RunsRequest r t status → Fits t s n → LinesStand t s n

-- ---- over a keeper

-- A run of words over an outside that shows what it holds, and a keeper, before and after.
pub record StoresOver (words : List (List ℕ)) (t : List Act) (status : KeptStatus) (s n : Outside) (old new : KeeperState) : Type 0 where
  pub runs : RunsStored words t status
  pub fits : Fits (events_in t) s n
  pub kept : KeeperGrew old t new
  pub shown : IsShown s.view

-- so is every line of a run of `keep`
abbrev pub StoredAreTold : Type 0
StoredAreTold = (words : List (List ℕ)) (t : List Act) (status : KeptStatus) (s n : Outside) → RunsStored words t status → Fits (events_in t) s n → LinesStand (events_in t) s n

-- whatever room there is, no read fault ends it where no call was told to fail, and the schema's file is there
abbrev pub StoredReadFiles : Type 0
StoredReadFiles =
    (words : List (List ℕ)) (k : KeepText) (t : List Act) (status : KeptStatus) (s n : Outside) → AsksToKeep words k → RunsStored words t status → Fits (events_in t) s n → IsReliable s → IsThere k.schema s.view → status ≢ Run ReadFault

-- a run of `keep` ends as its job over the entries that were there, or is stopped, and adds entries by how it ended
abbrev pub StoredEnds : Type 0
StoredEnds =
    (words : List (List ℕ)) (k : KeepText) (t : List Act) (status : KeptStatus) (s n : Outside) (old new : KeeperState) → AsksToKeep words k → StoresOver words t status s n old new
    → KeptEnds k.schema k.address k.sessions (events_in t) s.view n.view (IsReliable s) old new status
