-- What `replay` promises. This project's own.
use Rattle.std.specs.Prelude.{◌≡◌, ℕ, List, ◌++◌, codes, Some, Err}
use Rattle.tl_base.specs.Outside.{View, HasFile}
use Rattle.tl_schema.specs.Schemas.{Declared}
use Rattle.box_events.specs.declared.steps.Step.{Step}
use Rattle.wire_profile.specs.Faults.{FaultView, IsAnswer}
use Rattle.wire_profile.specs.Indexes.{ProfileView}
use Rattle.update_replay.specs.Endings.{Ending, whole}
use Rattle.update_replay.specs.Replays.{Replayed}
use Rattle.outside.specs.Answer.{Answer, refused}
use Rattle.outside.specs.Telling.{Tells}
use Rattle.outside.specs.declared.status.Status.{Status}
use Rattle.outside.specs.declared.status.Status.TheVariants.{Done, Refused, ReadFault, WriteFault, LinkFault, Memory}
use Rattle.schema_files.specs.Causes.{SchemaCause}
use Rattle.schema_files.specs.Lines.{schema_line}
use Rattle.schema_files.specs.Loaded.{IsSchemaText, SchemaRefused}
use Rattle.fault_lines.specs.Profiled.{IsProfileText, form_line}
use Rattle.update_commands.specs.Replay.{ending_answer}
use Rattle.commands.specs.Requests.{AsksFor, replay}
use Rattle.outside.specs.Events.{Event, Outside}
use Rattle.run_laws.specs.Ended.{ErrorsFailed, LinkFailed, ReadFailed, WriteFailed}
use Rattle.run_laws.specs.Runs.{RunsOver}
use Rattle.headline.specs.Reports.{Reports}

abbrev pub IsRefusal : Ending → Type 0
IsRefusal (whole k) = ⊥
IsRefusal ending = Unit {0}

-- The place and the cause are told: of a text that is no schema's, of a schema without the protocol's forms, or of a journal, after the lines of the steps before.
pub data Refuses (schema journal : List ℕ) (n : ℕ) (a : Answer) : Type 0 where
  no_schema : (cause : SchemaCause) → SchemaRefused schema cause → a ≡ refused (schema_line (codes "schema") cause) → Refuses schema journal n a
  no_profile : (S : Declared) (fault : FaultView) → IsSchemaText schema S → IsAnswer S (Err fault) → a ≡ refused (form_line fault) → Refuses schema journal n a
  no_journal : (p : ProfileView) (steps : List Step) (lines : List ℕ) (ending : Ending) → IsProfileText schema p → Replayed p n journal steps lines ending → IsRefusal ending → ending_answer lines ending ≡ Some a → Refuses schema journal n a

-- A run of `replay` that did this, from what the outside shows to what it shows then: a report was written; or a refusal was told; or a fault ended it, or memory.
pub data ReplayEnds (schema journal : List ℕ) (n : ℕ) (t : List Event) (status : Status) (v w : View) : Type 0 where
  reports : (p : ProfileView) (text : List ℕ) → IsProfileText schema p → Reports p n journal text → status ≡ Done → w.written.output ≡ v.written.output ++ text → w.written.errors ≡ v.written.errors → ReplayEnds schema journal n t status v w
  refuses : (a : Answer) → Refuses schema journal n a → status ≡ Refused → w.written.output ≡ v.written.output ++ a.output → Tells (ErrorsFailed t) a.errors v w → ReplayEnds schema journal n t status v w
  read_failed : ReadFailed t → status ≡ ReadFault → ReplayEnds schema journal n t status v w
  write_failed : WriteFailed t → status ≡ WriteFault → ReplayEnds schema journal n t status v w
  link_failed : LinkFailed t → status ≡ LinkFault → ReplayEnds schema journal n t status v w
  out_of_memory : status ≡ Memory → ReplayEnds schema journal n t status v w

-- Whatever `run` admits by its clause, over an outside that shows what it holds, where the words are `replay SCHEMA JOURNAL N`.
abbrev pub ReplayHeadline : Type 0
ReplayHeadline =
    (words : List (List ℕ)) (schema_name journal_name : List ℕ) (n : ℕ) (t : List Event) (status : Status) (before after : Outside) (schema journal : List ℕ) → AsksFor words (replay schema_name journal_name n)
    → HasFile before.view.files schema_name schema → HasFile before.view.files journal_name journal → RunsOver words t status before after
    → ReplayEnds schema journal n t status before.view after.view
