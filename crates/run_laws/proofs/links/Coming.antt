-- What a run comes to over an outside, whatever stops it.
use Rattle.std.proofs.Common.{◌≡◌, ℕ, ◌+◌, List, [], ◌++◌, take, Option, Some, None, codes, refl, ap, ◌∙◌, subst}
use Rattle.tl_base.specs.Contents.{Files}
use Rattle.tl_base.specs.Outside.{View, HasFile, written_of}
use Rattle.tl_base.specs.declared.host.Out.TheVariants as outs
use Rattle.tl_base.specs.declared.host.Slot.{Slot}
use Rattle.tl_base.specs.declared.host.Slot.TheVariants as slots
use Rattle.tl_schema.specs.CheckedPrograms.{IsSchema}
use Rattle.tl_schema.specs.Schemas.{Declared}
use Rattle.wire_profile.specs.Indexes.{ProfileView}
use Rattle.wire_profile.specs.Profiles.{IsProfile}
use Rattle.outside.specs.Answer.{Answer, link_fault_line, memory_line, read_fault_line, refused, write_fault_line}
use Rattle.outside.specs.Jobs.{GivesOutput}
use Rattle.outside.specs.Kept.{AddsPrefix}
use Rattle.outside.specs.Telling.{Tells as TellsOn}
use Rattle.outside.specs.declared.status.Status.{Status}
use Rattle.outside.specs.declared.status.Status.TheVariants as status
use Rattle.outside.specs.Events.{Event, Outside}
use Rattle.outside.specs.Pieces.{ReadsFile}
use Rattle.outside.specs.Printing.{Prints, Unread}
use Rattle.outside.specs.Steps.{Step, Then}
use Rattle.outside.proofs.Causing.{keeps_file}
use Rattle.outside.specs.Fits.{Fits}
use Rattle.outside.proofs.Fitting.{files_are_read, fits_both}
use Rattle.outside.proofs.Sparing.{IsReading}
use Rattle.schema_files.specs.Answering.{OfSchemaText}
use Rattle.schema_files.specs.Answering as answering
use Rattle.schema_files.specs.Lines.{schema_line}
use Rattle.schema_files.specs.declared.schema_text.TheConstants.{SCHEMA_BYTES}
use Rattle.fault_lines.specs.Profiled.{OfProfileFile, form_line}
use Rattle.fault_lines.specs.Profiled as profiling
use Rattle.fault_lines.proofs.Profiled.{are_profiles}
use Rattle.codec_rooms.specs.Typed.{OfCommand}
use Rattle.codec_rooms.specs.Typed as typed
use Rattle.codec_rooms.proofs.TypedFiles.{text_stays}
use Rattle.update_commands.specs.Profile.{OfProfile, no_profile, profiled}
use Rattle.session_commands.specs.Linked.{next_link}
use Rattle.session_rooms.proofs.LeftViews.{beside, leaves_later, plain_leaves}
use Rattle.session_rooms.proofs.PostFiles.{output_of}
use Rattle.session_rooms.proofs.Spared.{OnlySlots, reading_spares}
use Rattle.run_laws.proofs.links.ToldLines.{Causes, Printed, all_printed, part_printed, cause_last, print_comes, tell_alone, tells_later}

-- An answer of this kind is given; a file can't be read; the link failed; a prefix of an answer's Output was written, and a write failed; or memory ran out.
pub data Came (Is : Answer → Type 0) (W : Type 0) (r : Status) (s n : Outside) : Type 0 where
  gave : (a : Answer) → Is a → r ≡ a.status → GivesOutput a s.view n.view → TellsOn W a.errors s.view n.view → Came Is W r s n
  unread : r ≡ status.ReadFault → output_of n ≡ output_of s → TellsOn W read_fault_line s.view n.view → Came Is W r s n
  cut : r ≡ status.LinkFault → output_of n ≡ output_of s → TellsOn W link_fault_line s.view n.view → Came Is W r s n
  unfinished : (a : Answer) → Is a → r ≡ status.WriteFault → AddsPrefix (output_of s) (output_of n) a.output → TellsOn W write_fault_line s.view n.view → Came Is W r s n
  out_of_memory : r ≡ status.Memory → output_of n ≡ output_of s → TellsOn W memory_line s.view n.view → Came Is W r s n

pub came_as : (W : Type 0) (Is J : Answer → Type 0) (r : Status) (s n : Outside) → ((a : Answer) → Is a → J a) → Came Is W r s n → Came J W r s n
came_as W Is J r s n into (gave a is e gives tells) = gave a (into a is) e gives tells
came_as W Is J r s n into (unread e output tells) = unread e output tells
came_as W Is J r s n into (cut e output tells) = cut e output tells
came_as W Is J r s n into (unfinished a is e output tells) = unfinished a (into a is) e output tells
came_as W Is J r s n into (out_of_memory e output tells) = out_of_memory e output tells

gives_later : (a : Answer) (s m n : Outside) → OnlySlots s m → GivesOutput a m.view n.view → GivesOutput a s.view n.view
gives_later a s m n same g = record {
  output = g.output ∙ ap (λ (v : View). written_of outs.Output v ++ a.output) same;
  leaves = leaves_later a s.view m.view n.view (ap beside same) g.leaves;
}

-- slots were read until then
module _ (W : Type 0) (Is : Answer → Type 0) (r : Status) (s m n : Outside) (same : OnlySlots s m) where
  line_later : (line : List ℕ) → TellsOn W line m.view n.view → TellsOn W line s.view n.view
  line_later line = tells_later W line s m n (ap (written_of outs.Errors) same)

  output_later : output_of n ≡ output_of m → output_of n ≡ output_of s
  output_later e = e ∙ ap (written_of outs.Output) same

  pub came_later : Came Is W r m n → Came Is W r s n
  came_later (gave a is e gives tells) = gave a is e (gives_later a s m n same gives) (line_later a.errors tells)
  came_later (unread e output tells) = unread e (output_later output) (line_later read_fault_line tells)
  came_later (cut e output tells) = cut e (output_later output) (line_later link_fault_line tells)
  came_later (unfinished a is e p tells) = unfinished a is e (p.0, p.1, p.2, p.3 ∙ ap (λ (v : View). written_of outs.Output v ++ p.0) same) (line_later write_fault_line tells)
  came_later (out_of_memory e output tells) = out_of_memory e (output_later output) (line_later memory_line tells)

-- ---- a refusal, and a file that can't be read

refusal_came : (W : Type 0) (Is : Answer → Type 0) (line : List ℕ) (r : Status) (s n : Outside) → Is (refused line) → Printed W status.Refused [] line r s n → Came Is W r s n
refusal_came W Is line r s n is (all_printed e output tells rest) = gave (refused line) is e (record { output = output; leaves = plain_leaves status.Refused [] line s.view n.view rest }) tells
refusal_came W Is line r s n is (part_printed e output tells rest) = unfinished (refused line) is e output tells

pub refusal_comes : (W : Type 0) (Is : Answer → Type 0) (line : List ℕ) (t : List Event) (r : Status) (s n : Outside) → Is (refused line) → Prints (refused line) t r → Fits t s n → Causes W t → Came Is W r s n
refusal_comes W Is line t r s n is h f c = refusal_came W Is line r s n is (print_comes W (refused line) t r s n h f c)

pub missing_comes : (W : Type 0) (Is : Answer → Type 0) (t : List Event) (r : Status) (s n : Outside) → Unread t r → Fits t s n → Causes W t → Came Is W r s n
missing_comes W Is t r s n h f c =
    let e = tell_alone W read_fault_line status.ReadFault r t s n h f c in
    unread h.goes.1 e.output e.line_is

-- ---- files

-- each step that is so comes to such an end, by what is answered to files and to what the next link gives
abbrev pub Comes : Type 0 → ((Answer → Type 0) → Status → Outside → Outside → Type 0) → (Files → List ℕ → Answer → Type 0) → Step Status → Type 0
Comes W End Of S = (t : List Event) (r : Status) (s n : Outside) → S t r → Fits t s n → Causes W t → End (Of s.view.files (next_link s.view)) r s n

-- End: what a run comes to, by what an answer is
module _ (W : Type 0) (End : (Answer → Type 0) → Status → Outside → Outside → Type 0)
    (carry : (Is J : Answer → Type 0) (r : Status) (s n : Outside) → ((a : Answer) → Is a → J a) → End Is r s n → End J r s n)
    (later : (Is : Answer → Type 0) (r : Status) (s m n : Outside) → OnlySlots s m → End Is r m n → End Is r s n)
    (refusal : (Is : Answer → Type 0) (line : List ℕ) (t : List Event) (r : Status) (s n : Outside) → Is (refused line) → Prints (refused line) t r → Fits t s n → Causes W t → End Is r s n)
    (missing : (Is : Answer → Type 0) (t : List Event) (r : Status) (s n : Outside) → Unread t r → Fits t s n → Causes W t → End Is r s n) where
  -- what is answered to a file's bytes, up to one past the limit, is answered to the file
  module _ (slot : Slot) (name : List ℕ) (limit : ℕ) (S : Option (List ℕ) → Step Status) (Of : List ℕ → Files → List ℕ → Answer → Type 0)
      (stays : (file : List ℕ) (files : Files) (given : List ℕ) (a : Answer) → Of (take (limit + 1) file) files given a → Of file files given a)
      (each : (text : List ℕ) → Comes W End (Of text) (S (Some text))) (none : (t : List Event) (r : Status) → S None t r → Unread t r) where
    abbrev OfNamed : Files → List ℕ → Answer → Type 0
    OfNamed files given a = (file : List ℕ) × HasFile files name file × Of file files given a

    read_comes : (text : Option (List ℕ)) (t u : List Event) (r : Status) (s m n : Outside) → ReadsFile slot name limit t text → S text u r → Fits t s m → Fits u m n → Causes W u → End (OfNamed s.view.files (next_link s.view)) r s n
    read_comes (Some text) t u r s m n read h f g c =
        let file = files_are_read slot name limit t text s m read f in
        let same = reading_spares t s m f (keeps_file IsReading slot name limit (λ _. tt) (λ _. tt) tt tt t (Some text) read) in
        let named : (a : Answer) → Of text m.view.files (next_link m.view) a → OfNamed s.view.files (next_link s.view) a =
        λ a of. (file.0, file.1, stays file.0 s.view.files (next_link s.view) a (subst (λ (l : List ℕ). Of l s.view.files (next_link s.view) a) file.2 (subst (λ (v : View). Of text v.files (next_link v) a) same of))) in
        carry (Of text m.view.files (next_link m.view)) (OfNamed s.view.files (next_link s.view)) r s n named (later (Of text m.view.files (next_link m.view)) r s m n same (each text u r m n h g c))
    read_comes None t u r s m n read h f g c =
        let same = reading_spares t s m f (keeps_file IsReading slot name limit (λ _. tt) (λ _. tt) tt tt t None read) in
        later (OfNamed s.view.files (next_link s.view)) r s m n same (missing (OfNamed s.view.files (next_link s.view)) u r m n (none u r h) g c)

    pub file_comes : Comes W End OfNamed (Then (ReadsFile slot name limit) S)
    file_comes t r s n h f c =
        let parts = fits_both h.first h.rest s n (subst (λ (l : List Event). Fits l s n) h.splits f) in
        read_comes h.between h.first h.rest r s parts.0 n h.does h.goes parts.1 parts.2 (cause_last W t h.first h.rest h.splits c)

  -- what follows of a profile
  module _ (Rest : ProfileView → Step Status) (Of : Files → List ℕ → ProfileView → Answer → Type 0) (each : (p : ProfileView) → IsProfile p → Comes W End (λ files given. Of files given p) (Rest p)) where
    profile_comes : (S : Declared) → IsSchema S → Comes W End (λ files given. profiling.OfProfile (Of files given) S) (OfProfile Rest S)
    profile_comes S good t r s n (no_profile fault lacks h) f c =
        refusal (profiling.OfProfile (Of s.view.files (next_link s.view)) S) (form_line fault) t r s n (profiling.no_profile fault lacks refl) h f c
    profile_comes S good t r s n (profiled p is h) f c =
        carry (Of s.view.files (next_link s.view) p) (profiling.OfProfile (Of s.view.files (next_link s.view)) S) r s n (λ a of. profiling.profiled p is of) (each p (are_profiles S p good is).0 t r s n h f c)

    text_comes : (text : List ℕ) → Comes W End (λ files given. OfSchemaText (codes "schema") (profiling.OfProfile (Of files given)) text) (typed.OfText (codes "schema") (OfProfile Rest) text)
    text_comes text t r s n (typed.no_schema cause refuses h) f c =
        refusal (OfSchemaText (codes "schema") (profiling.OfProfile (Of s.view.files (next_link s.view))) text) (schema_line (codes "schema") cause) t r s n (answering.no_schema cause refuses refl) h f c
    text_comes text t r s n (typed.schema_of S is h) f c =
        carry (profiling.OfProfile (Of s.view.files (next_link s.view)) S) (OfSchemaText (codes "schema") (profiling.OfProfile (Of s.view.files (next_link s.view))) text) r s n
        (λ a of. answering.schema_of S is of) (profile_comes S is.good t r s n h f c)

    pub command_comes : (schema : List ℕ) → Comes W End (λ files given. OfProfileFile (Of files given) files schema) (OfCommand (OfProfile Rest) schema)
    command_comes schema =
        file_comes slots.Schema schema SCHEMA_BYTES (typed.after_schema (codes "schema") (OfProfile Rest))
        (λ text files given. OfSchemaText (codes "schema") (profiling.OfProfile (Of files given)) text) (λ file files given. text_stays (codes "schema") (profiling.OfProfile (Of files given)) file) text_comes
        (λ t r h. h)
