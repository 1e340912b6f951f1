-- What a job is, and what its work does. This project's own.
use Rattle.std.specs.Prelude.{◌≡◌, ◌⊎◌, ℕ, List, ◌++◌, Result, Ok, Err, Vec}
use Rattle.std.specs.declared.alloc.Global.{Global}
use Rattle.std.specs.declared.alloc.AllocError.{AllocError}
use Rattle.tl_base.specs.Outside.{View}
use Rattle.outside.specs.declared.stop.Stop.{Stop}
use Rattle.outside.specs.declared.stop.Stop.TheVariants as stop
use Rattle.outside.specs.declared.stop.LoadError.{LoadError}
use Rattle.outside.specs.declared.stop.LoadError.TheVariants as load_error
use Rattle.outside.specs.Answer.{Answer}
use Rattle.outside.specs.Kept.{AddsPrefix, Leaves}

-- A job: what is answered over an outside; what may be answered there where a link failed that others follow; what its first parts gave, where its
-- work may stop between them, before there is an answer; whether its work writes its Output in pieces and may stop between them, reads on between these
-- pieces, tells lines on Errors as it goes, and uses links; and what it leaves as it was.
pub record Job : Type 1 where
  pub answers : View → Answer → Type 0
  pub broken : View → Answer → Type 0
  pub partial : View → Answer → Type 0
  pub in_pieces : Type 0
  pub reads_on : Type 0
  pub tells : Type 0
  pub linked : Type 0
  pub keeps : View → View → Type 0

-- a job that reads, and then writes its Output or is refused; whether it writes in pieces
abbrev pub unlinked_job : (View → Answer → Type 0) → Type 0 → (View → View → Type 0) → Job
unlinked_job answers in_pieces keeps = record { answers = answers; broken = λ v a. ⊥; partial = λ v a. ⊥; in_pieces = in_pieces; reads_on = ⊥; tells = ⊥; linked = ⊥; keeps = keeps }

-- ---- work

-- Output and all that an answer leaves are the answer's
pub record GivesOutput (a : Answer) (v w : View) : Type 0 where
  pub output : w.written.output ≡ v.written.output ++ a.output
  pub leaves : Leaves a v w

-- what a job may answer: its answer, or, where a link failed, one that this broke
abbrev pub MayAnswer : Job → Type 0 → View → Answer → Type 0
MayAnswer job link_rose v a = job.answers v a ⊎ (link_rose × job.broken v a)

-- Errors is as before; or the job tells lines as it goes, and a prefix of its answer's was told
abbrev pub ToldSome : Job → Answer → View → View → Type 0
ToldSome job a v w = (w.written.errors ≡ v.written.errors) ⊎ (job.tells × AddsPrefix v.written.errors w.written.errors a.errors)

-- what a job that stops was about to give: what it may answer, or what its first parts give
abbrev pub MayGive : Job → Type 0 → View → Answer → Type 0
MayGive job link_rose v a = MayAnswer job link_rose v a ⊎ job.partial v a

-- Output has a prefix of what that writes, and Errors what was told until then
abbrev pub WritesSomeOf : Job → Type 0 → View → View → Type 0
WritesSomeOf job link_rose v w = (a : Answer) × MayGive job link_rose v a × AddsPrefix v.written.output w.written.output a.output × ToldSome job a v w

-- ---- a text that is made, and then written

-- how the making of a text ends
pub data Making : Type 0 where
  made : (text : List ℕ) → Making
  refused_by : (line : List ℕ) → Making
  unread : Making
  no_memory : Making

abbrev pub of_fault : LoadError → Making
of_fault (load_error.Refused line) = refused_by line.items
of_fault load_error.ReadFault = unread
of_fault load_error.Memory = no_memory

abbrev pub making : Result (Vec ℕ Global) LoadError → Making
making (Ok text) = made text.items
making (Err fault) = of_fault fault

-- the refusal with this line, or out of memory where there is no line
abbrev pub RefusedBy : Result (Vec ℕ Global) AllocError → LoadError → Type 0
RefusedBy (Ok line) fault = fault ≡ load_error.Refused line
RefusedBy (Err e) fault = fault ≡ load_error.Memory

abbrev pub of_load_error : LoadError → Stop
of_load_error (load_error.Refused line) = stop.Refused line
of_load_error load_error.ReadFault = stop.ReadFault
of_load_error load_error.Memory = stop.Memory
