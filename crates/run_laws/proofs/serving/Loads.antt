-- A run over the profile of a schema, or its first part: what was read and told, until there is a profile.
use Rattle.std.proofs.Common.{◌≡◌, inl, inr, codes, ℕ, ◌+◌, ◌<◌, List, [], ◌++◌, append-nil, length, length-append, map, take, Bool, true, false, Option, Some, None, refl, sym, ap, ◌∙◌, subst, arith}
use Rattle.std.proofs.lemmas.Bool.{cases_lt}
use Rattle.std.proofs.lemmas.List.{take_all, length-take}
use Rattle.tl_base.specs.Contents.{Files}
use Rattle.tl_base.specs.Outside.{HasFile, IsThere, Written}
use Rattle.tl_base.specs.declared.host.Out.TheVariants as outs
use Rattle.tl_base.specs.declared.host.Slot.TheVariants as slots
use Rattle.tl_schema.specs.Schemas.{Declared}
use Rattle.box_server.specs.declared.entry.Entry.{Entry}
use Rattle.wire_profile.specs.Indexes.{ProfileView}
use Rattle.outside.specs.Answer.{Answer, read_fault_line, refused}
use Rattle.outside.specs.Kept.{AddsPrefix}
use Rattle.outside.specs.Telling.{Tells}
use Rattle.outside.specs.declared.status.Status.{Status}
use Rattle.outside.specs.declared.status.Status.TheVariants as statuses
use Rattle.fault_lines.specs.Profiled.{HasProfile, OfProfileFile, form_line}
use Rattle.fault_lines.specs.Profiled as profiles
use Rattle.outside.specs.Events.{Event, Outside}
use Rattle.outside.specs.Pieces.{ReadsFile, Writes}
use Rattle.outside.specs.Pieces as pieces
use Rattle.outside.specs.Printing.{Prints, Unread, after_output}
use Rattle.outside.proofs.Causing.{happened_first, happened_last, keeps_file, throughout_first, told_status, unread_file}
use Rattle.outside.specs.Fits.{Fits}
use Rattle.outside.specs.Reliable.{IsReliable}
use Rattle.outside.proofs.Fitting.{files_are_read, files_can_be_read, fits_both}
use Rattle.outside.proofs.Sparing.{IsReading, reading_leaves}
use Rattle.schema_files.specs.Answering.{OfSchemaFile, OfSchemaText}
use Rattle.schema_files.specs.Answering as answering
use Rattle.schema_files.specs.Lines.{schema_line}
use Rattle.schema_files.specs.Loaded.{IsSchemaText}
use Rattle.schema_files.specs.declared.schema_text.TheConstants.{SCHEMA_BYTES}
use Rattle.codec_rooms.proofs.TypedFiles.{text_stays}
use Rattle.session_rooms.proofs.LeftViews.{SparesRest, beside, spares_rest}
use Rattle.serve_rooms.specs.Acts.{Act, hosted, events_in}
use Rattle.serve_rooms.specs.Doing.{Hosted}
use Rattle.serve_rooms.specs.Serve.{EndsBy, LoadsSchema, OfProfile, OfProfiled, OfSchema, OfText, after_loading, after_reading, no_profile, no_schema, profiled, schema_of}
use Rattle.serve_rooms.specs.ServedBytes.{added_in}
use Rattle.serve_rooms.specs.declared.loading.Loaded.{Loaded}
use Rattle.serve_rooms.specs.declared.loading.Loaded.TheVariants as schema
use Rattle.serve_rooms.specs.declared.status.KeptStatus.{KeptStatus}
use Rattle.serve_rooms.specs.declared.status.KeptStatus.TheVariants.{Run}
use Rattle.serve_rooms.proofs.Acting.{events_more}
use Rattle.serve_rooms.proofs.AnsweredBytes.{added_more, fits_none, fits_parts, nothing_added}
use Rattle.run_laws.specs.Ended.{ErrorsFailed, ReadFailed}
use Rattle.run_laws.proofs.serving.Beginnings.{Seam, within, past, seam, hosted_both, hosted_events, nothing_follows, some_more}
use Rattle.run_laws.proofs.serving.Lines.{errors_of, lined, on_output, output_of, so_prefix, writes_begun}

-- ---- what is left as it was

-- nothing was written, and nothing changed but what is left of slots
pub record Untouched (a b : Outside) : Type 0 where
  pub rest : beside b.view ≡ beside a.view
  pub output : output_of b ≡ output_of a
  pub errors : errors_of b ≡ errors_of a

pub untouched_none : (a b : Outside) → b ≡ a → Untouched a b
untouched_none a b is = record { rest = ap (λ (o : Outside). beside o.view) is; output = ap output_of is; errors = ap errors_of is }

pub untouched_then : (a m b : Outside) → Untouched a m → Untouched m b → Untouched a b
untouched_then a m b h g = record { rest = g.rest ∙ h.rest; output = g.output ∙ h.output; errors = g.errors ∙ h.errors }

-- a line on Errors, as far as it was written; told, where all was done
pub record LineSaid (line : List ℕ) (W All : Type 0) (a b : Outside) : Type 0 where
  pub rest : beside b.view ≡ beside a.view
  pub output : output_of b ≡ output_of a
  pub errors : AddsPrefix (errors_of a) (errors_of b) line
  pub tells : All → Tells W line a.view b.view

tells_after : (W V : Type 0) → (W → V) → (line : List ℕ) (a m b : Outside) → errors_of m ≡ errors_of a → Tells W line m.view b.view → Tells V line a.view b.view
tells_after W V into line a m b same (inl whole) = inl (whole ∙ ap (λ (l : List ℕ). l ++ line) same)
tells_after W V into line a m b same (inr (failed, part)) = inr (into failed, subst (λ (l : List ℕ). AddsPrefix l (errors_of b) line) same part)

pub said_after : (line : List ℕ) (W V Whole All : Type 0) → (W → V) → (All → Whole) → (a m b : Outside) → Untouched a m → LineSaid line W Whole m b → LineSaid line V All a b
said_after line W V Whole All into all a m b same h = record {
  rest = h.rest ∙ same.rest;
  output = h.output ∙ same.output;
  errors = subst (λ (l : List ℕ). AddsPrefix l (errors_of b) line) same.errors h.errors;
  tells = λ whole. tells_after W V into line a m b same.errors (h.tells (all whole));
}

-- nothing of it was written yet
unsaid : (line : List ℕ) (W Whole : Type 0) (a b : Outside) → ¬ Whole → Untouched a b → LineSaid line W Whole a b
unsaid line W Whole a b never same =
    record { rest = same.rest; output = same.output; errors = ([], line, refl, same.errors ∙ sym (append-nil (errors_of a))); tells = λ whole. absurd (never whole) }

-- ---- lines

pub tells_said : {A : Type 0} (line : List ℕ) (status : A) (x : A) (t u : List Event) (a b : Outside) → pieces.Tells line status (t ++ u) x → Fits t a b → LineSaid line (ErrorsFailed t) (u ≡ []) a b
tells_said line status x t u a b h f =
    let l = lined line status t u x a b h f in
    record {
      rest = l.on.rest;
      output = l.on.output;
      errors = so_prefix (u ≡ []) (0 < length u) (ErrorsFailed t) line a b l.line_is;
      tells = λ none. elim l.line_is as (λ z. Tells (ErrorsFailed t) line a.view b.view) [ inl (last, whole) ↦ whole | inr (some, part) ↦ absurd (omega (arith, some, ap length none)) ];
    }

-- ---- nothing on Output

prefix_of_none : (x y : List ℕ) → AddsPrefix x y [] → y ≡ x
prefix_of_none x y (part, rest, is, wrote) = wrote ∙ ap (λ (l : List ℕ). x ++ l) (nothing_follows part rest is) ∙ append-nil x

nothing_written : (ok : Bool) (t u : List Event) (a b : Outside) → Writes outs.Output [] (t ++ u) ok → Fits t a b → Untouched a b
nothing_written ok t u a b h f =
    let on = on_output [] t u ok a b h f in
    record { rest = on.rest; output = prefix_of_none (output_of a) (output_of b) (writes_begun outs.Output [] t u ok a b h f); errors = on.errors }

pub refusal_said : (line : List ℕ) (t u : List Event) (r : Status) (a b : Outside) → Prints (refused line) (t ++ u) r → Fits t a b → (r ≡ statuses.Refused) × LineSaid line (ErrorsFailed t) (u ≡ []) a b
refusal_said line t u r a b h f = by_output h.between h.first h.rest h.splits h.does h.goes
  where
    by_seam : (first rest : List Event) (r : Status) → Writes outs.Output [] first true → pieces.Tells line statuses.Refused rest r → Seam t u first rest → LineSaid line (ErrorsFailed t) (u ≡ []) a b
    by_seam first rest r w g (within more is at some) =
        unsaid line (ErrorsFailed t) (u ≡ []) a b (λ none. absurd (omega (arith, some_more u more rest at some, ap length none))) (nothing_written true t more a b (subst (λ (l : List Event). Writes outs.Output [] l true) is w) f)
    by_seam first rest r w g (past more is at) =
        let parts = fits_both first more a b (subst (λ (l : List Event). Fits l a b) is f) in
        let so : LineSaid line (ErrorsFailed more) (u ≡ []) parts.0 b = tells_said line statuses.Refused r more u parts.0 b (subst (λ (l : List Event). pieces.Tells line statuses.Refused l r) at g) parts.2 in
        said_after line (ErrorsFailed more) (ErrorsFailed t) (u ≡ []) (u ≡ []) (λ x. subst ErrorsFailed (sym is) (happened_last _ first more x)) (λ e. e) a parts.0 b
        (nothing_written true first [] a parts.0 (subst (λ (l : List Event). Writes outs.Output [] l true) (sym (append-nil first)) w) parts.1) so

    by_output : (ok : Bool) (first rest : List Event) → t ++ u ≡ first ++ rest → Writes outs.Output [] first ok → after_output (refused line) ok rest r → (r ≡ statuses.Refused) × LineSaid line (ErrorsFailed t) (u ≡ []) a b
    by_output true first rest splits w g = (told_status line statuses.Refused rest r g, by_seam first rest r w g (seam t u first rest splits))
    by_output false first rest splits w g = absurd (omega (arith, w.4, ap length w.3, length-append w.0 w.1))

-- ---- the schema's file

abbrev what : List ℕ
what = codes "schema"

file_untouched : (name : List ℕ) (o : Option (List ℕ)) (t u : List Event) (a b : Outside) → ReadsFile slots.Schema name SCHEMA_BYTES (t ++ u) o → Fits t a b → Untouched a b
file_untouched name o t u a b h f =
    let same = reading_leaves t a b f (throughout_first IsReading t u (keeps_file IsReading slots.Schema name SCHEMA_BYTES (λ _. tt) (λ _. tt) tt tt (t ++ u) o h)) in
    record {
      rest = spares_rest t a b (throughout_first SparesRest t u (keeps_file SparesRest slots.Schema name SCHEMA_BYTES (λ _. tt) (λ _. tt) tt tt (t ++ u) o h)) f;
      output = ap (λ (w : Written). w.output) same;
      errors = ap (λ (w : Written). w.errors) same;
    }

-- the text of a schema is all of its file
schema_whole : (file : List ℕ) (S : Declared) → IsSchemaText (take (4194304 + 1) file) S → IsSchemaText file S
schema_whole file S is =
    elim (cases_lt 4194304 (length file)) as (λ z. IsSchemaText file S) [
      | inl long ↦ absurd (omega (arith, long, length-take (4194304 + 1) file, is.lexed.0))
      | inr few ↦ subst (λ (l : List ℕ). IsSchemaText l S) (take_all (4194304 + 1) file (omega (arith, few))) is
    ]

-- what loading a schema came to, or its first part
pub data LoadCame (name : List ℕ) (t u : List Event) (r : Loaded) (a b : Outside) : Type 0 where
  loading : 0 < length u → Untouched a b → LoadCame name t u r a b
  no_file : ReadFailed t → (IsReliable a → IsThere name a.view → ⊥) → r ≡ schema.Ended statuses.ReadFault → LineSaid read_fault_line (ErrorsFailed t) (u ≡ []) a b → LoadCame name t u r a b
  no_text : (line : List ℕ) → OfSchemaFile what (λ S x. ⊥) a.view.files name (refused line) → r ≡ schema.Ended statuses.Refused → LineSaid line (ErrorsFailed t) (u ≡ []) a b → LoadCame name t u r a b
  read_as : (S : Declared) (text : List ℕ) → HasFile a.view.files name text → IsSchemaText text S → r ≡ schema.Schema S → Untouched a b → LoadCame name t u r a b

-- what ends a step, and nothing more
by_end : (S : (List Event → Status → Type 0)) (t : List Event) (r : Loaded) → EndsBy S t r → (status : Status) × S t status × (r ≡ schema.Ended status)
by_end S t r h =
    let all : t ≡ h.first = h.splits ∙ ap (λ (l : List Event). h.first ++ l) h.goes.0 ∙ append-nil h.first in
    (h.between, subst (λ (l : List Event). S l h.between) (sym all) h.does, h.goes.1)

module _ (name : List ℕ) (t u : List Event) (r : Loaded) (a b : Outside) where
  -- the file was read
  module _ (first more : List Event) (is : t ≡ first ++ more) (m : Outside) (f : Fits first a m) (g : Fits more m b) where
    wrote_later : ErrorsFailed more → ErrorsFailed t
    wrote_later x = subst ErrorsFailed (sym is) (happened_last _ first more x)

    text_came : (text : List ℕ) → ReadsFile slots.Schema name SCHEMA_BYTES first (Some text) → OfText text (more ++ u) r → LoadCame name t u r a b
    text_came text reads (no_schema cause refuses h) =
        let e = by_end (Prints (refused (schema_line what cause))) (more ++ u) r h in
        let line = schema_line what cause in
        let so = refusal_said line more u e.0 m b e.1 g in
        let file = files_are_read slots.Schema name SCHEMA_BYTES first text a m reads f in
        let answers : OfSchemaFile what (λ S x. ⊥) a.view.files name (refused line) =
        (file.0, file.1, text_stays what (λ S x. ⊥) file.0 (refused line) (subst (λ (l : List ℕ). OfSchemaText what (λ S x. ⊥) l (refused line)) file.2 (answering.no_schema cause refuses refl))) in
        no_text line answers (e.2 ∙ ap (λ (s : Status). schema.Ended s) so.0)
        (said_after line (ErrorsFailed more) (ErrorsFailed t) (u ≡ []) (u ≡ []) wrote_later (λ x. x) a m b (file_untouched name (Some text) first [] a m (subst (λ (l : List Event). ReadsFile slots.Schema name SCHEMA_BYTES l (Some text)) (sym (append-nil first)) reads) f) so.1)
    text_came text reads (schema_of S whole none same) =
        let file = files_are_read slots.Schema name SCHEMA_BYTES first text a m reads f in
        let stays : b ≡ m = subst (λ (l : List Event). Fits l m b) (nothing_follows more u none) g in
        read_as S file.0 file.1 (schema_whole file.0 S (subst (λ (l : List ℕ). IsSchemaText l S) file.2 whole)) same
        (untouched_then a m b (file_untouched name (Some text) first [] a m (subst (λ (l : List Event). ReadsFile slots.Schema name SCHEMA_BYTES l (Some text)) (sym (append-nil first)) reads) f) (untouched_none m b stays))

    reading_came : (o : Option (List ℕ)) → ReadsFile slots.Schema name SCHEMA_BYTES first o → after_reading o (more ++ u) r → LoadCame name t u r a b
    reading_came (Some text) reads h = text_came text reads h
    reading_came None reads h =
        let e = by_end Unread (more ++ u) r h in
        let so = tells_said read_fault_line statuses.ReadFault e.0 more u m b e.1 g in
        no_file (subst ReadFailed (sym is) (happened_first _ first more (unread_file slots.Schema name SCHEMA_BYTES first reads))) (files_can_be_read slots.Schema name SCHEMA_BYTES first a m reads f)
        (e.2 ∙ ap (λ (s : Status). schema.Ended s) (told_status read_fault_line statuses.ReadFault (more ++ u) e.0 e.1))
        (said_after read_fault_line (ErrorsFailed more) (ErrorsFailed t) (u ≡ []) (u ≡ []) wrote_later (λ x. x) a m b (file_untouched name None first [] a m (subst (λ (l : List Event). ReadsFile slots.Schema name SCHEMA_BYTES l None) (sym (append-nil first)) reads) f) so)

  by_seam : (o : Option (List ℕ)) (first rest : List Event) → ReadsFile slots.Schema name SCHEMA_BYTES first o → after_reading o rest r → Fits t a b → Seam t u first rest → LoadCame name t u r a b
  by_seam o first rest reads h f (within more is at some) =
      loading (some_more u more rest at some) (file_untouched name o t more a b (subst (λ (l : List Event). ReadsFile slots.Schema name SCHEMA_BYTES l o) is reads) f)
  by_seam o first rest reads h f (past more is at) =
      let parts = fits_both first more a b (subst (λ (l : List Event). Fits l a b) is f) in
      reading_came first more is parts.0 parts.1 parts.2 o reads (subst (λ (l : List Event). after_reading o l r) at h)

  load_came : LoadsSchema name (t ++ u) r → Fits t a b → LoadCame name t u r a b
  load_came h f = by_seam h.between h.first h.rest h.does h.goes f (seam t u h.first h.rest h.splits)

-- ---- the run

-- a refusal that no schema tells is one whatever schemas tell
any_text : (Of : Declared → Answer → Type 0) (text : List ℕ) (x : Answer) → OfSchemaText what (λ S y. ⊥) text x → OfSchemaText what Of text x
any_text Of text x (answering.no_schema cause refuses is) = answering.no_schema cause refuses is
any_text Of text x (answering.schema_of S is none) = absurd none

any_schema : (Of : Declared → Answer → Type 0) (files : Files) (name : List ℕ) (x : Answer) → OfSchemaFile what (λ S y. ⊥) files name x → OfSchemaFile what Of files name x
any_schema Of files name x (text, has, of) = (text, has, any_text Of text x of)

any_told : (Of : ProfileView → Answer → Type 0) (S : Declared) (x : Answer) → profiles.OfProfile (λ p y. ⊥) S x → profiles.OfProfile Of S x
any_told Of S x (profiles.no_profile fault lacks is) = profiles.no_profile fault lacks is
any_told Of S x (profiles.profiled p is none) = absurd none

any_of_text : (Of : ProfileView → Answer → Type 0) (text : List ℕ) (x : Answer) → OfSchemaText what (profiles.OfProfile (λ p y. ⊥)) text x → OfSchemaText what (profiles.OfProfile Of) text x
any_of_text Of text x (answering.no_schema cause refuses is) = answering.no_schema cause refuses is
any_of_text Of text x (answering.schema_of S is of) = answering.schema_of S is (any_told Of S x of)

-- and so of profiles
pub any_profile : (Of : ProfileView → Answer → Type 0) (files : Files) (name : List ℕ) (x : Answer) → OfProfileFile (λ p y. ⊥) files name x → OfProfileFile Of files name x
any_profile Of files name x (text, has, of) = (text, has, any_of_text Of text x of)

-- what a run over the profile of a schema came to, or its first part
pub data Came (Rest : OfProfile) (name : List ℕ) (t u : List Act) (r : KeptStatus) (a b : Outside) : Type 0 where
  silent : 0 < length u → Untouched a b → Came Rest name t u r a b
  unread : ReadFailed (events_in t) → (IsReliable a → IsThere name a.view → ⊥) → r ≡ Run statuses.ReadFault → added_in t ≡ [] → LineSaid read_fault_line (ErrorsFailed (events_in t)) (u ≡ []) a b → Came Rest name t u r a b
  refusal : (line : List ℕ) → OfProfileFile (λ p x. ⊥) a.view.files name (refused line) → r ≡ Run statuses.Refused → added_in t ≡ [] → LineSaid line (ErrorsFailed (events_in t)) (u ≡ []) a b → Came Rest name t u r a b
  profile : (h : HasProfile a.view.files name) (events : List Event) (rest : List Act) (m : Outside) → t ≡ map (λ e. hosted e) events ++ rest → Untouched a m → Fits events a m → Fits (events_in rest) m b → Rest h.p (rest ++ u) r → Came Rest name t u r a b

pub none_added : (t more : List Act) (events : List Event) → t ++ more ≡ map (λ e. hosted e) events → added_in t ≡ []
none_added t more events is = nothing_follows (added_in t) (added_in more) (sym (added_more t more) ∙ nothing_added (t ++ more) events is)

module _ (Rest : OfProfile) (name : List ℕ) (t u : List Act) (r : KeptStatus) (a b : Outside) where
  ended_status : (l : Loaded) (status : Status) (rest : List Act) → l ≡ schema.Ended status → after_loading Rest l rest r → (rest ≡ []) × (r ≡ Run status)
  ended_status l status rest is h = subst (λ (x : Loaded). after_loading Rest x rest r) is h

  -- the schema's part isn't over
  module _ (more rest : List Act) (l : Loaded) (at : u ≡ more ++ rest) (some : 0 < length more) (added : added_in t ≡ []) (goes : after_loading Rest l rest r) where
    never : ¬ (u ≡ [])
    never none = omega (arith, some_more u more rest at some, ap length none)

    so_far : (line : List ℕ) → LineSaid line (ErrorsFailed (events_in t)) (events_in more ≡ []) a b → LineSaid line (ErrorsFailed (events_in t)) (u ≡ []) a b
    so_far line s = record { rest = s.rest; output = s.output; errors = s.errors; tells = λ none. absurd (never none) }

    begun_came : LoadCame name (events_in t) (events_in more) l a b → Came Rest name t u r a b
    begun_came (loading go same) = silent (some_more u more rest at some) same
    begun_came (no_file failed lacks is s) = unread failed lacks (ended_status l statuses.ReadFault rest is goes).1 added (so_far read_fault_line s)
    begun_came (no_text line answers is s) = refusal line (any_schema (profiles.OfProfile (λ p x. ⊥)) a.view.files name (refused line) answers) (ended_status l statuses.Refused rest is goes).1 added (so_far line s)
    begun_came (read_as S text has whole is same) = silent (some_more u more rest at some) same

  -- it is over
  module _ (first : List Act) (events : List Event) (hosts : first ≡ map (λ e. hosted e) events) (more : List Act) (is : t ≡ first ++ more) (m : Outside) (f : Fits events a m) (g : Fits (events_in more) m b) where
    events_are : events_in t ≡ events ++ events_in more
    events_are = ap events_in is ∙ events_more first more ∙ ap (λ (l : List Event). l ++ events_in more) (hosted_events first events hosts)

    stays_so : more ++ u ≡ [] → b ≡ m
    stays_so none = fits_none more m b (ap events_in (nothing_follows more u none)) g

    first_all : more ++ u ≡ [] → events_in t ≡ events
    first_all none = events_are ∙ ap (λ (l : List Act). events ++ events_in l) (nothing_follows more u none) ∙ append-nil events

    first_added : more ++ u ≡ [] → added_in t ≡ []
    first_added none = ap added_in is ∙ added_more first more ∙ ap (λ (l : List Entry). l ++ added_in more) (nothing_added first events hosts) ∙ ap added_in (nothing_follows more u none)

    so_far_told : (line : List ℕ) → more ++ u ≡ [] → LineSaid line (ErrorsFailed events) (◌≡◌ {A = List Event} [] []) a m → LineSaid line (ErrorsFailed (events_in t)) (u ≡ []) a b
    so_far_told line none s =
        subst (λ (o : Outside). LineSaid line (ErrorsFailed (events_in t)) (u ≡ []) a o) (sym (stays_so none))
        (record { rest = s.rest; output = s.output; errors = s.errors; tells = λ x. subst (λ (l : List Event). Tells (ErrorsFailed l) line a.view m.view) (sym (first_all none)) (s.tells refl) })

    schema_came : (S : Declared) (text : List ℕ) → HasFile a.view.files name text → IsSchemaText text S → Untouched a m → OfSchema Rest S (more ++ u) r → Came Rest name t u r a b
    schema_came S text has whole same (no_profile fault lacks h) =
        let line = form_line fault in
        let all : more ++ u ≡ h.first = h.splits ∙ ap (λ (l : List Act). h.first ++ l) h.goes.0 ∙ append-nil h.first in
        let prints : Hosted (Prints (refused line)) (more ++ u) h.between = subst (λ (l : List Act). Hosted (Prints (refused line)) l h.between) (sym all) h.does in
        let so = refusal_said line (events_in more) (events_in u) h.between m b (hosted_both (Prints (refused line)) more u h.between prints) g in
        let wrote : ErrorsFailed (events_in more) → ErrorsFailed (events_in t) = λ x. subst ErrorsFailed (sym events_are) (happened_last _ events (events_in more) x) in
        let added : added_in t ≡ [] = ap added_in is ∙ added_more first more ∙ ap (λ (l : List Entry). l ++ added_in more) (nothing_added first events hosts) ∙ none_added more u prints.0 prints.1 in
        refusal line (text, has, answering.schema_of S whole (profiles.no_profile fault lacks refl)) (h.goes.1 ∙ ap (λ (s : Status). Run s) so.0) added
        (said_after line (ErrorsFailed (events_in more)) (ErrorsFailed (events_in t)) (events_in u ≡ []) (u ≡ []) wrote (λ none. ap events_in none) a m b same so.1)
    schema_came S text has whole same (profiled p answers h) =
        profile (record { text = text; p = p; there = has; is = record { schema = S; read = whole; is = answers } }) events more m (is ∙ ap (λ (l : List Act). l ++ more) hosts) same f g h

    done_came : (l : Loaded) → LoadCame name events [] l a m → after_loading Rest l (more ++ u) r → Came Rest name t u r a b
    done_came l (loading go same) goes = absurd (omega (arith, go))
    done_came l (no_file failed lacks at s) goes =
        let e = ended_status l statuses.ReadFault (more ++ u) at goes in
        unread (subst ReadFailed (sym (first_all e.0)) failed) lacks e.1 (first_added e.0) (so_far_told read_fault_line e.0 s)
    done_came l (no_text line answers at s) goes =
        let e = ended_status l statuses.Refused (more ++ u) at goes in
        refusal line (any_schema (profiles.OfProfile (λ p x. ⊥)) a.view.files name (refused line) answers) e.1 (first_added e.0) (so_far_told line e.0 s)
    done_came l (read_as S text has whole at same) goes = schema_came S text has whole same (subst (λ (x : Loaded). after_loading Rest x (more ++ u) r) at goes)

  came_by : (l : Loaded) (first rest : List Act) → Hosted (LoadsSchema name) first l → after_loading Rest l rest r → Fits (events_in t) a b → Seam t u first rest → Came Rest name t u r a b
  came_by l first rest loads goes f (within more is at some) =
      let here : Hosted (LoadsSchema name) (t ++ more) l = subst (λ (x : List Act). Hosted (LoadsSchema name) x l) is loads in
      begun_came more rest l at some (none_added t more here.0 here.1) goes (load_came name (events_in t) (events_in more) l a b (hosted_both (LoadsSchema name) t more l here) f)
  came_by l first rest loads goes f (past more is at) =
      let parts = fits_parts t first more a b is f in
      let events = loads.0 in
      let fits : Fits events a parts.0 = subst (λ (x : List Event). Fits x a parts.0) (hosted_events first events loads.1) parts.1 in
      done_came first events loads.1 more is parts.0 fits parts.2 l (load_came name events [] l a parts.0 (subst (λ (x : List Event). LoadsSchema name x l) (sym (append-nil events)) loads.2) fits) (subst (λ (x : List Act). after_loading Rest l x r) at goes)

  pub came : OfProfiled Rest name (t ++ u) r → Fits (events_in t) a b → Came Rest name t u r a b
  came h f = came_by h.between h.first h.rest h.does h.goes f (seam t u h.first h.rest h.splits)
