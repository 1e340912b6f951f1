-- How a run of a job ends over an outside that shows what it holds. This project's own.
use Rattle.std.specs.Prelude.{◌≡◌, ◌<◌, ◌≤◌, ◌^◌, ◌⊎◌, ℕ, ◌+◌, List, ◌++◌, length}
use Rattle.std.specs.List.{AllByRecursion}
use Rattle.tl_base.specs.Contents.{HoldBytes}
use Rattle.tl_base.specs.Outside.{View, ShowsBytes}
use Rattle.tl_base.specs.declared.counts.Kind.TheVariants as kinds
use Rattle.tl_base.specs.declared.host.Out.{Out}
use Rattle.tl_base.specs.declared.host.Out.TheVariants.{Errors}
use Rattle.outside.specs.Answer.{Answer, read_fault_line, write_fault_line, link_fault_line, memory_line}
use Rattle.outside.specs.Jobs.{Job, MayAnswer, WritesSomeOf}
use Rattle.outside.specs.Kept.{Leaves, WritesNothing}
use Rattle.outside.specs.Sound.{IsFault}
use Rattle.outside.specs.Sound as sound
use Rattle.outside.specs.Telling.{Tells, TellsLine}
use Rattle.outside.specs.declared.status.Status.{Status}
use Rattle.outside.specs.declared.status.Status.TheVariants.{ReadFault, WriteFault, Memory, LinkFault}
use Rattle.outside.specs.Events.{Event, Outside}
use Rattle.outside.specs.Events as events
use Rattle.outside.specs.Laws.{Happened, IsFailure}
use Rattle.outside.specs.Runs.{RunsIn}
use Rattle.outside.specs.Steps.{Step}
use Rattle.outside.specs.Fits.{Fits}
use Rattle.outside.specs.Reliable.{IsReliable}

-- ---- what failed

-- a call of the kind failed
abbrev pub ReadFailed : List Event → Type 0
ReadFailed t = Happened (IsFailure kinds.Reads) t

abbrev pub WriteFailed : List Event → Type 0
WriteFailed t = Happened (IsFailure kinds.Writes) t

abbrev pub LinkFailed : List Event → Type 0
LinkFailed t = Happened (IsFailure kinds.Links) t

-- a write to Errors failed
abbrev pub IsUntold : Event → Type 0
IsUntold e = e ≡ events.write_failed Errors

abbrev pub ErrorsFailed : List Event → Type 0
ErrorsFailed t = Happened IsUntold t

-- ---- how a run ends

-- The work was stopped: a prefix of what the job gives was written, and then a fault's line was told. `stopped` is what the outside shows between these.
pub record Stops (job : Job) (errors_failed link_failed : Type 0) (line : List ℕ) (v w : View) : Type 0 where
  pub stopped : View
  pub given : WritesSomeOf job link_failed v stopped
  pub told : TellsLine errors_failed line stopped w

-- the work of a run that did this was stopped
abbrev pub StopsIn : Job → List Event → List ℕ → View → View → Type 0
StopsIn job t = Stops job (ErrorsFailed t) (LinkFailed t)

-- the line of a fault of such a kind
abbrev pub IsFaultLine : List Event → List ℕ → Type 0
IsFaultLine t line = (ReadFailed t × (line ≡ read_fault_line)) ⊎ (WriteFailed t × (line ≡ write_fault_line)) ⊎ (LinkFailed t × (line ≡ link_fault_line))

-- A fault stopped the work, and its line was told, or a prefix of it.
pub record ToldBefore (job : Job) (t : List Event) (v w : View) : Type 0 where
  pub line : List ℕ
  pub fault : IsFaultLine t line
  pub stopped : View
  pub given : WritesNothing v stopped ⊎ WritesSomeOf job (LinkFailed t) v stopped
  pub told : TellsLine (Unit {0}) line stopped w

-- A run that did this ends with its answer; or with a fault, where a call of that kind failed; or out of memory. What it wrote until then is none of its Output,
-- or a prefix: out of memory only in a job that writes in pieces, after a failed read only in one that reads on between these. Where a job tells lines as it goes,
-- memory may run out after a fault was told. A line is told whole, or a prefix of it where a write to Errors failed.
pub data Ended (job : Job) (t : List Event) (status : Status) (v w : View) : Type 0 where
  answered : (a : Answer) → MayAnswer job (LinkFailed t) v a → status ≡ a.status → w.written.output ≡ v.written.output ++ a.output → Leaves a v w → Tells (ErrorsFailed t) a.errors v w → Ended job t status v w
  read_failed : ReadFailed t → status ≡ ReadFault → w.written.output ≡ v.written.output → Tells (ErrorsFailed t) read_fault_line v w → Ended job t status v w
  read_failed_later : ReadFailed t → status ≡ ReadFault → StopsIn job t read_fault_line v w → job.reads_on → Ended job t status v w
  write_failed : WriteFailed t → status ≡ WriteFault → StopsIn job t write_fault_line v w → Ended job t status v w
  link_failed : LinkFailed t → status ≡ LinkFault → StopsIn job t link_fault_line v w → Ended job t status v w
  out_of_memory : status ≡ Memory → w.written.output ≡ v.written.output → Tells (ErrorsFailed t) memory_line v w → Ended job t status v w
  out_of_memory_later : status ≡ Memory → StopsIn job t memory_line v w → job.in_pieces → Ended job t status v w
  out_of_memory_told : status ≡ Memory → (u : View) → ToldBefore job t v u → TellsLine (ErrorsFailed t) memory_line u w → job.tells → Ended job t status v w

-- what each host in memory shows: files, slots and links hold bytes, and moments have 31 bits
pub record IsShown (v : View) : Type 0 where
  pub bytes : ShowsBytes v
  pub moments : AllByRecursion (λ m. m < 2 ^ 31) v.moments

-- whatever an outside shows
abbrev pub Anything : View → Type 0
Anything v = Unit {0}

-- its files hold bytes
abbrev pub FileBytes : View → Type 0
FileBytes v = HoldBytes v.files

-- a run of the work ends so, over an outside that shows this
abbrev pub RunEnds : (View → Type 0) → Job → List Out → Step Status → Type 0
RunEnds Shows job outs work = (t : List Event) (status : Status) (s n : Outside) → Shows s.view → RunsIn outs work t status → Fits t s n → Ended job t status s.view n.view

-- it keeps what the job keeps
abbrev pub RunKeeps : Job → List Out → Step Status → Type 0
RunKeeps job outs work = (t : List Event) (status : Status) (s n : Outside) → RunsIn outs work t status → Fits t s n → job.keeps s.view n.view

-- where no call was told to fail, and the job has an answer with room for it, no fault's status comes
abbrev pub RunIsSound : (View → Type 0) → Job → List Out → Step Status → Type 0
RunIsSound Shows job outs work = (t : List Event) (status : Status) (s n : Outside) → Shows s.view → RunsIn outs work t status → Fits t s n → IsReliable s → sound.Fits job s.view → IsFault status → ⊥

-- the three together, over outsides that show what each needs
pub record RunsJob (Shows ShowsSound : View → Type 0) (job : Job) (outs : List Out) (work : Step Status) : Type 0 where
  pub ends : RunEnds Shows job outs work
  pub keeps : RunKeeps job outs work
  pub sound : RunIsSound ShowsSound job outs work

-- ---- lines

-- Where no call was told to fail, a line for which Errors has room stands there whole, also where Output was full. `u` is what the outside showed until it was told.
abbrev pub LinesStand : List Event → Outside → Outside → Type 0
LinesStand t s n = IsReliable s → (u : View) (line : List ℕ) → length u.written.errors + length line ≤ s.view.room → Tells (ErrorsFailed t) line u n.view → n.view.written.errors ≡ u.written.errors ++ line
