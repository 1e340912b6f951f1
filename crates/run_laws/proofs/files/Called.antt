-- A run of `calls`.
use Rattle.std.proofs.Common.{◌≡◌, ◌⊎◌, ℕ, ◌+◌, ◌<◌, List, [], ◌∷◌, ◌++◌, length, length-append, take, append-nil, append_assoc, Bool, true, false, Option, Some, None, codes, refl, sym, ap, ◌∙◌, subst, inl, inr, arith}
use Rattle.tl_numbers.specs.Bytes.{AreBytes}
use Rattle.tl_base.proofs.Parts.{left_back}
use Rattle.tl_base.specs.Contents.{Files, HoldBytes}
use Rattle.tl_base.specs.Outside.{View, HasFile, left_of}
use Rattle.tl_base.specs.declared.counts.Kind.TheVariants as kinds
use Rattle.tl_base.specs.declared.host.Out.TheVariants as outs
use Rattle.tl_base.specs.declared.host.Slot.TheVariants.{Schema, Input}
use Rattle.tl_schema.specs.CheckedPrograms.{IsSchema}
use Rattle.tl_schema.specs.Schemas.{Declared}
use Rattle.outside.specs.Answer.{Answer, memory_line, read_fault_line, refused, write_fault_line}
use Rattle.outside.specs.Jobs.{WritesSomeOf}
use Rattle.outside.specs.Kept.{AddsPrefix, KeepsUnread, Leaves}
use Rattle.outside.specs.Sound.{IsFault}
use Rattle.outside.specs.Sound as sound
use Rattle.outside.specs.declared.status.Status.{Status}
use Rattle.outside.specs.declared.status.Status.TheVariants as statuses
use Rattle.outside.proofs.SameFiles.{file_bytes, same_file}
use Rattle.outside.specs.Begun.{WritesOnly, to_output}
use Rattle.outside.specs.Events.{Event, Outside, opened}
use Rattle.outside.specs.Laws.{Happened, IsFailure, Throughout}
use Rattle.outside.specs.Pieces.{ReadsFile, Tells, Writes}
use Rattle.outside.specs.Printing.{Prints, Unread, after_output}
use Rattle.outside.specs.Runs.{RunsIn}
use Rattle.outside.specs.Runs as runs
use Rattle.outside.proofs.Causing.{happened_first, happened_last, keeps_file, keeps_tell, keeps_write, throughout_both, throughout_first, told_status, unread_file}
use Rattle.outside.specs.Fits.{Fits}
use Rattle.outside.specs.Reliable.{IsReliable, IsMissing}
use Rattle.outside.proofs.Fitting.{files_are_read, files_can_be_read, fits_both, fits_keeps, reads_fail_alone, reliable_on, writes_append}
use Rattle.schema_files.specs.Answering as answering
use Rattle.schema_files.specs.Lines.{input_line, schema_line}
use Rattle.schema_files.specs.Loaded.{IsSchemaText}
use Rattle.schema_files.specs.declared.schema_text.TheConstants.{SCHEMA_BYTES}
use Rattle.schema_files.proofs.Answering.{of_schema}
use Rattle.call_commands.specs.Calls.{CallsAnswer, HasSchema, OfInputFile, OfPackets, calls_job}
use Rattle.call_commands.specs.Calls as answers
use Rattle.codec_rooms.specs.Typed.{OfText, after_schema, no_schema, schema_of}
use Rattle.codec_rooms.proofs.TypedFiles.{text_stays}
use Rattle.call_commands.specs.CallsWork.{OfInput, after_opening, tells_calls}
use Rattle.run_laws.specs.Ended.{ErrorsFailed, FileBytes, IsUntold, LinkFailed, RunsJob}
use Rattle.run_laws.specs.Ended as ended
use Rattle.run_laws.proofs.files.Coming.{Spares, spares_as, spares_both, spares_more}
use Rattle.run_laws.proofs.files.Cutting.{Cut, past, within, cut, line_told, some_more, told_as}
use Rattle.run_laws.proofs.files.Ending.{EndsSo, IsPrinted, Stopped, after_printed, done_printed, keeps_unread, leaves_printed, memory_ends, memory_sound, tell_dry, tell_plain}
use Rattle.run_laws.proofs.files.Schemas.{file_printed, schema_whole}
use Rattle.run_laws.proofs.files.Spared.{IsDry, IsFileRead, IsPlain, ToErrors, ToOutput, errors_left, output_alone, output_left, output_plain, plain_keeps, reads_to_errors, reads_to_output}
use Rattle.run_laws.proofs.serving.Lines.{writes_begun}
use Rattle.run_laws.proofs.files.Turning.{BeginsWith, GoesTo, halted, unread, unwritten, ends, IsBegun, Puts, fits_join, input_of, output_of, packets_go}

-- ---- what was read before

module _ (Is Of : Answer → Type 0) (P Q C K : Type 0) (s m : Outside) (before : List Event) (f : Fits before s m) (are : Throughout IsFileRead before) (spares : Spares K before) (into : (a : Answer) → Is a → Of a)
    (back : (a : Answer) → Of a → Is a) (fine : Q → P) (came : C → K) where
  same_output : output_of m ≡ output_of s
  same_output = output_left before s m f (reads_to_errors before are)

  puts_on : (n : Outside) (t : List Event) (written : List ℕ) → Puts C m n t written → Puts K s n (before ++ t) written
  puts_on n t written p = record {
    fits = fits_join before t s m n f p.fits;
    only = throughout_both ToOutput before t (reads_to_output before are) p.only;
    spares = spares_both K before t spares (spares_as C K t came p.spares);
    grew = p.grew ∙ ap (λ (l : List ℕ). l ++ written) same_output;
  }

  begins_on : (written : List ℕ) → BeginsWith Is written → BeginsWith Of written
  begins_on written b = record { answer = b.answer; is = into b.answer b.is; more = b.more; output = b.output }

  begun_on : (written : List ℕ) → IsBegun P Is written → IsBegun Q Of written
  begun_on written (inl none) = inl none
  begun_on written (inr b) = inr (λ q. begins_on written (b (fine q)))

  split_on : (t first rest : List Event) → t ≡ first ++ rest → before ++ t ≡ (before ++ first) ++ rest
  split_on t first rest splits = ap (λ (l : List Event). before ++ l) splits ∙ sym (append_assoc before first rest)

  goes_after : (n : Outside) (t u : List Event) (status : Status) → GoesTo Is P C m n t u status → GoesTo Of Q K s n (before ++ t) u status
  goes_after n t u status (halted few written p b) = halted few written (puts_on n t written p) (begun_on written b)
  goes_after n t u status (unread first rest k written splits p g b fails h none) =
      unread (before ++ first) rest k written (split_on t first rest splits) (puts_on k first written p) g (begun_on written b) (happened_last (IsFailure kinds.Reads) before first fails) h
      (λ r a of. none (reliable_on s m (fits_keeps before s m f) r) a (back a of))
  goes_after n t u status (unwritten first rest k written line splits p g b fails h full begins) =
      let kept = fits_keeps before s m f in
      unwritten (before ++ first) rest k written line (split_on t first rest splits) (puts_on k first written p) g (λ q. begins_on written (b (fine q))) (happened_last (IsFailure kinds.Writes) before first fails) h
      (λ r. let most = full (reliable_on s m kept r) in omega (arith, most, kept.room, ap length same_output)) (λ q a of. begins (fine q) a (back a of))
  goes_after n t u status (ends a first rest k splits p g is h) = ends a (before ++ first) rest k (split_on t first rest splits) (puts_on k first a.output p) g (into a is) h

-- reading is cut short
halted_reading : (Is : Answer → Type 0) (P C : Type 0) (s n : Outside) (t u : List Event) (status : Status) → 0 < length u → Fits t s n → Throughout IsFileRead t → Spares C t → GoesTo Is P C s n t u status
halted_reading Is P C s n t u status few f are spares =
    halted few [] (record { fits = f; only = reads_to_output t are; spares = spares; grew = output_left t s n f (reads_to_errors t are) ∙ sym (append-nil (output_of s)) }) (inl refl)

-- it fails
unread_reading : (Is : Answer → Type 0) (P C : Type 0) (s m n : Outside) (t u v : List Event) (status : Status) → Fits t s m → Fits u m n → Throughout IsFileRead t → Spares C t → Happened (IsFailure kinds.Reads) t → Unread (u ++ v) status
    → (IsReliable s → (a : Answer) → Is a → ⊥) → GoesTo Is P C s n (t ++ u) v status
unread_reading Is P C s m n t u v status f g are spares fails h none =
    unread t u m [] refl (record { fits = f; only = reads_to_output t are; spares = spares; grew = output_left t s m f (reads_to_errors t are) ∙ sym (append-nil (output_of s)) }) g (inl refl) fails h none

-- ---- the input's file

module _ (S : Declared) (input : List ℕ) where
  abbrev GoesInput : Outside → Outside → List Event → List Event → Status → Type 0
  GoesInput s n t u status = GoesTo (OfInputFile s.view.files input S) (IsSchema S × HoldBytes s.view.files) (Unit {0}) s n t u status

  opened_reads : (ok : Bool) (t : List Event) → t ≡ opened Input input ok ∷ [] → Throughout IsFileRead t
  opened_reads ok t is = subst (Throughout IsFileRead) (sym is) (tt, tt)

  opened_goes : (ok : Bool) (t u v : List Event) (status : Status) (s m n : Outside) → t ≡ opened Input input ok ∷ [] → after_opening S ok (u ++ v) status → Fits t s m → Fits u m n → GoesInput s n (t ++ u) v status
  opened_goes true t u v status s m n is h f g =
      let o = subst (λ (l : List Event). Fits l s m) is f in
      let file = o.1.0.0 in
      let left : input_of m ≡ file = ap input_of o.2 ∙ ap (left_of Input) o.1.0.2 ∙ left_back Input file s.view in
      goes_after (OfPackets S (input_of m)) (OfInputFile s.view.files input S) (IsSchema S × AreBytes (input_of m)) (IsSchema S × HoldBytes s.view.files) (Unit {0}) (Unit {0}) s m t f (opened_reads true t is) (inr tt)
      (λ a of. (file, o.1.0.1, subst (λ (l : List ℕ). OfPackets S l a) left of)) (λ a of. subst (λ (l : List ℕ). OfPackets S l a) (same_file s.view.files input of.0 file of.1 o.1.0.1 ∙ sym left) of.2)
      (λ q. (q.0, subst AreBytes (sym left) (file_bytes s.view.files input file q.1 o.1.0.1))) (λ c. c) n u v status (packets_go S u v status m n h g)
  opened_goes false t u v status s m n is h f g =
      let fails : Happened (IsFailure kinds.Reads) t = subst (Happened (IsFailure kinds.Reads)) (sym is) (inl refl) in
      unread_reading (OfInputFile s.view.files input S) (IsSchema S × HoldBytes s.view.files) (Unit {0}) s m n t u v status f g (opened_reads false t is) (inr tt) fails h
      (λ r a of. elim (subst (Happened (IsMissing s)) is (reads_fail_alone t s m f r fails)) [ inl none ↦ none (of.0, of.1) | inr none ↦ none ])

  input_cut : (t u : List Event) (status : Status) (s n : Outside) (h : OfInput input S (t ++ u) status) → Fits t s n → Cut h.first h.rest t u → GoesInput s n t u status
  input_cut t u status s n h f (past more splits after) =
      let parts = fits_both h.first more s n (subst (λ (l : List Event). Fits l s n) splits f) in
      subst (λ (l : List Event). GoesInput s n l u status) (sym splits) (opened_goes h.between h.first more u status s parts.0 n h.does (subst (λ (l : List Event). after_opening S h.between l status) after h.goes) parts.1 parts.2)
  input_cut t u status s n h f (within e more splits later) =
      halted_reading (OfInputFile s.view.files input S) (IsSchema S × HoldBytes s.view.files) (Unit {0}) s n t u status (some_more e more u h.rest later) f
      (throughout_first IsFileRead t (e ∷ more) (subst (Throughout IsFileRead) splits (opened_reads h.between h.first h.does))) (inr tt)

  input_goes : (t u : List Event) (status : Status) (s n : Outside) → OfInput input S (t ++ u) status → Fits t s n → GoesInput s n t u status
  input_goes t u status s n h f = input_cut t u status s n h f (cut h.first h.rest t u h.splits)

-- ---- a refusal

module _ (Is : Answer → Type 0) (P C : Type 0) (line : List ℕ) (is : Is (refused line)) (s : Outside) where
  abbrev GoesSo : Outside → List Event → List Event → Status → Type 0
  GoesSo n t u status = GoesTo Is P C s n t u status

  empty_outputs : (ok : Bool) (t : List Event) → Writes outs.Output [] t ok → Throughout ToOutput t
  empty_outputs ok t w = keeps_write ToOutput outs.Output [] (λ piece. tt) tt t ok w

  empty_dry : (ok : Bool) (t : List Event) → Writes outs.Output [] t ok → Throughout IsDry t
  empty_dry ok t w = keeps_write IsDry outs.Output [] (λ piece. tt) tt t ok w

  refused_after_none : (ok : Bool) (first more t u : List Event) (status : Status) (n : Outside) → Writes outs.Output [] first ok → after_output (refused line) ok (more ++ u) status → t ≡ first ++ more → Fits t s n → GoesSo n t u status
  refused_after_none true first more t u status n w h splits g =
      let parts = fits_both first more s n (subst (λ (l : List Event). Fits l s n) splits g) in
      ends (refused line) first more parts.0 splits (record { fits = parts.1; only = empty_outputs true first w; spares = inl (empty_dry true first w); grew = writes_append outs.Output [] first s parts.0 w parts.1 }) parts.2 is h
  refused_after_none false first more t u status n w h splits g = absurd (omega (arith, w.4, ap length w.3, length-append w.0 w.1))

  refusal_cut : (t u : List Event) (status : Status) (n : Outside) (h : Prints (refused line) (t ++ u) status) → Fits t s n → Cut h.first h.rest t u → GoesSo n t u status
  refusal_cut t u status n h g (past more splits after) =
      refused_after_none h.between h.first more t u status n h.does (subst (λ (l : List Event). after_output (refused line) h.between l status) after h.goes) splits g
  refusal_cut t u status n h g (within e more splits later) =
      let w = subst (λ (l : List Event). Writes outs.Output [] l h.between) splits h.does in
      let some = writes_begun outs.Output [] t (e ∷ more) h.between s n w g in
      halted (some_more e more u h.rest later) some.0
      (record { fits = g; only = throughout_first ToOutput t (e ∷ more) (empty_outputs h.between (t ++ e ∷ more) w); spares = inl (throughout_first IsDry t (e ∷ more) (empty_dry h.between (t ++ e ∷ more) w)); grew = some.3 })
      (inr (λ fine. record { answer = refused line; is = is; more = some.1; output = sym some.2 }))

  refusal_goes : (t u : List Event) (status : Status) (n : Outside) → Prints (refused line) (t ++ u) status → Fits t s n → GoesSo n t u status
  refusal_goes t u status n h g = refusal_cut t u status n h g (cut h.first h.rest t u h.splits)

-- ---- which events there are

module _ (Is : Answer → Type 0) (P C : Type 0) (s n : Outside) (u : List Event) (status : Status) where
  told_plain : {A : Type 0} (line : List ℕ) (x : A) (a : A) (written : List ℕ) (m : Outside) (t first rest : List Event) → t ≡ first ++ rest → Puts C s m first written → Tells line x (rest ++ u) a → Throughout IsPlain t
  told_plain line x a written m t first rest splits p h =
      subst (Throughout IsPlain) (sym splits) (throughout_both IsPlain first rest (output_plain first p.only) (throughout_first IsPlain rest u (tell_plain line x (rest ++ u) a h)))

  goes_plain : (t : List Event) → GoesTo Is P C s n t u status → Throughout IsPlain t
  goes_plain t (halted few written p b) = output_plain t p.only
  goes_plain t (unread first rest m written splits p g b fails h none) = told_plain read_fault_line statuses.ReadFault status written m t first rest splits p h
  goes_plain t (unwritten first rest m written line splits p g b fails h full begins) = told_plain write_fault_line statuses.WriteFault status written m t first rest splits p h
  goes_plain t (ends a first rest m splits p g is h) = told_plain a.errors a.status status a.output m t first rest splits p h

  told_spares : {A : Type 0} (line : List ℕ) (x : A) (a : A) (written : List ℕ) (m : Outside) (t first rest : List Event) → t ≡ first ++ rest → Puts C s m first written → Tells line x (rest ++ u) a → Spares C t
  told_spares line x a written m t first rest splits p h = spares_more C t first rest splits p.spares (throughout_first IsDry rest u (tell_dry line x (rest ++ u) a h))

  goes_spares : (t : List Event) → GoesTo Is P C s n t u status → Spares C t
  goes_spares t (halted few written p b) = p.spares
  goes_spares t (unread first rest m written splits p g b fails h none) = told_spares read_fault_line statuses.ReadFault status written m t first rest splits p h
  goes_spares t (unwritten first rest m written line splits p g b fails h full begins) = told_spares write_fault_line statuses.WriteFault status written m t first rest splits p h
  goes_spares t (ends a first rest m splits p g is h) = told_spares a.errors a.status status a.output m t first rest splits p h

-- ---- the schema's file

module _ (schema input : List ℕ) where
  abbrev Of : Files → Answer → Type 0
  Of files a = CallsAnswer files schema input a

  abbrev Came : Outside → Type 0
  Came s = HasSchema s.view.files schema

  abbrev GoesCalls : Outside → Outside → List Event → List Event → Status → Type 0
  GoesCalls s n t u status = GoesTo (Of s.view.files) (HoldBytes s.view.files) (Came s) s n t u status

  text_goes : (file : List ℕ) (before t u : List Event) (status : Status) (s m n : Outside) → HasFile s.view.files schema file → OfText (codes "schema") (OfInput input) (take (4194304 + 1) file) (t ++ u) status → Fits before s m
      → Throughout IsFileRead before → Throughout IsDry before → Fits t m n → GoesCalls s n (before ++ t) u status
  text_goes file before t u status s m n has (no_schema cause r h) f are dry g =
      let line = schema_line (codes "schema") cause in
      let of : Of s.view.files (refused line) = (file, has, text_stays (codes "schema") (OfInputFile s.view.files input) file (refused line) (answering.no_schema cause r refl)) in
      goes_after (Of s.view.files) (Of s.view.files) (HoldBytes s.view.files) (HoldBytes s.view.files) (Came s) (Came s) s m before f are (inl dry) (λ a is. is) (λ a is. is) (λ q. q) (λ c. c) n t u status
      (refusal_goes (Of s.view.files) (HoldBytes s.view.files) (Came s) line of m t u status n h g)
  text_goes file before t u status s m n has (schema_of S is h) f are dry g =
      let read : IsSchemaText file S = subst (λ (l : List ℕ). IsSchemaText l S) (schema_whole file S is) is in
      let kept = fits_keeps before s m f in
      goes_after (OfInputFile m.view.files input S) (Of s.view.files) (IsSchema S × HoldBytes m.view.files) (HoldBytes s.view.files) (Unit {0}) (Came s) s m before f are (inl dry)
      (λ a of. (file, has, answering.schema_of S read (subst (λ (fs : Files). OfInputFile fs input S a) kept.files of)))
      (λ a of. subst (λ (fs : Files). OfInputFile fs input S a) (sym kept.files) (of_schema (codes "schema") (OfInputFile s.view.files input) s.view.files schema file S a has read of)) (λ hold. (read.good, subst HoldBytes (sym kept.files) hold))
      (λ c. record { text = file; of = S; there = has; accepted = read }) n t u status (input_goes S input t u status m n h g)

  schema_reads : (t : List Event) (text : Option (List ℕ)) → ReadsFile Schema schema SCHEMA_BYTES t text → Throughout IsFileRead t
  schema_reads = keeps_file IsFileRead Schema schema SCHEMA_BYTES (λ ok. tt) (λ bytes. tt) tt tt

  schema_dry : (t : List Event) (text : Option (List ℕ)) → ReadsFile Schema schema SCHEMA_BYTES t text → Throughout IsDry t
  schema_dry = keeps_file IsDry Schema schema SCHEMA_BYTES (λ ok. tt) (λ bytes. tt) tt tt

  read_goes : (text : Option (List ℕ)) (t u v : List Event) (status : Status) (s m n : Outside) → ReadsFile Schema schema SCHEMA_BYTES t text → after_schema (codes "schema") (OfInput input) text (u ++ v) status → Fits t s m → Fits u m n
      → GoesCalls s n (t ++ u) v status
  read_goes (Some text) t u v status s m n read h f g =
      let file = files_are_read Schema schema SCHEMA_BYTES t text s m read f in
      text_goes file.0 t u v status s m n file.1 (subst (λ (l : List ℕ). OfText (codes "schema") (OfInput input) l (u ++ v) status) file.2 h) f (schema_reads t (Some text) read) (schema_dry t (Some text) read) g
  read_goes None t u v status s m n read h f g =
      unread_reading (Of s.view.files) (HoldBytes s.view.files) (Came s) s m n t u v status f g (schema_reads t None read) (inl (schema_dry t None read)) (unread_file Schema schema SCHEMA_BYTES t read) h
      (λ r a of. files_can_be_read Schema schema SCHEMA_BYTES t s m read f r (of.0, of.1))

  calls_cut : (t u : List Event) (status : Status) (s n : Outside) (h : tells_calls schema input (t ++ u) status) → Fits t s n → Cut h.first h.rest t u → GoesCalls s n t u status
  calls_cut t u status s n h f (past more splits after) =
      let parts = fits_both h.first more s n (subst (λ (l : List Event). Fits l s n) splits f) in
      subst (λ (l : List Event). GoesCalls s n l u status) (sym splits)
      (read_goes h.between h.first more u status s parts.0 n h.does (subst (λ (l : List Event). after_schema (codes "schema") (OfInput input) h.between l status) after h.goes) parts.1 parts.2)
  calls_cut t u status s n h f (within e more splits later) =
      halted_reading (Of s.view.files) (HoldBytes s.view.files) (Came s) s n t u status (some_more e more u h.rest later) f (throughout_first IsFileRead t (e ∷ more) (subst (Throughout IsFileRead) splits (schema_reads h.first h.between h.does)))
      (inl (throughout_first IsDry t (e ∷ more) (subst (Throughout IsDry) splits (schema_dry h.first h.between h.does))))

  calls_go : (t u : List Event) (status : Status) (s n : Outside) → tells_calls schema input (t ++ u) status → Fits t s n → GoesCalls s n t u status
  calls_go t u status s n h f = calls_cut t u status s n h f (cut h.first h.rest t u h.splits)

  calls_whole : (t : List Event) (status : Status) (s n : Outside) → tells_calls schema input t status → Fits t s n → GoesCalls s n t [] status
  calls_whole t status s n h f = calls_go t [] status s n (subst (λ (l : List Event). tells_calls schema input l status) (sym (append-nil t)) h) f

  -- ---- how it ends

  packets_printed : (files : Files) (S : Declared) (a : Answer) → OfInputFile files input S a → IsPrinted a
  packets_printed files S a (file, has, answers.told events at output began is) = done_printed output a is
  packets_printed files S a (file, has, answers.no_packet events at left output place why began refuses is) = after_printed output (input_line place why) a is

  are_printed : (files : Files) (a : Answer) → Of files a → IsPrinted a
  are_printed files a is = file_printed (codes "schema") (OfInputFile files input) (packets_printed files) files schema a is

  abbrev Left : View → View → Type 0
  Left v w = KeepsUnread (HasSchema v.files schema) v w

  abbrev CallsEnd : List Event → Status → Outside → Outside → Type 0
  CallsEnd = EndsSo Of (Unit {0}) (Unit {0}) Left

  module _ (first rest : List Event) where
    lost_later : ErrorsFailed rest → ErrorsFailed (first ++ rest)
    lost_later lost = happened_last IsUntold first rest lost

    some_given : (s m : Outside) (written : List ℕ) → Puts (Came s) s m first written → BeginsWith (Of s.view.files) written → WritesSomeOf (calls_job schema input) (LinkFailed (first ++ rest)) s.view m.view
    some_given s m written p b = (b.answer, inl (inl b.is), (written, b.more, sym b.output, p.grew), inl (errors_left first s m p.fits p.only))

    unread_ends : (status : Status) (s m n : Outside) (written : List ℕ) → HoldBytes s.view.files → Puts (Came s) s m first written → IsBegun (HoldBytes s.view.files) (Of s.view.files) written → Fits rest m n → Happened (IsFailure kinds.Reads) first
        → Unread rest status → CallsEnd (first ++ rest) status s n
    unread_ends status s m n written hold p (inl none) g fails h =
        let line = line_told read_fault_line statuses.ReadFault rest status m n h g in
        ended.read_failed (happened_first (IsFailure kinds.Reads) first rest fails) (told_status read_fault_line statuses.ReadFault rest status h)
        (line.0 ∙ p.grew ∙ ap (λ (l : List ℕ). output_of s ++ l) none ∙ append-nil (output_of s))
        (told_as (ErrorsFailed rest) (ErrorsFailed (first ++ rest)) read_fault_line s.view m.view n.view lost_later (errors_left first s m p.fits p.only) line.1)
    unread_ends status s m n written hold p (inr begins) g fails h =
        let line = line_told read_fault_line statuses.ReadFault rest status m n h g in
        ended.read_failed_later (happened_first (IsFailure kinds.Reads) first rest fails) (told_status read_fault_line statuses.ReadFault rest status h) (record {
          stopped = m.view;
          given = some_given s m written p (begins hold);
          told = (line.0, told_as (ErrorsFailed rest) (ErrorsFailed (first ++ rest)) read_fault_line m.view m.view n.view lost_later refl line.1);
        }) tt

    unwritten_ends : (status : Status) (s m n : Outside) (written : List ℕ) → Puts (Came s) s m first written → BeginsWith (Of s.view.files) written → Fits rest m n → Happened (IsFailure kinds.Writes) first → Tells write_fault_line statuses.WriteFault rest status
        → CallsEnd (first ++ rest) status s n
    unwritten_ends status s m n written p b g fails h =
        let line = line_told write_fault_line statuses.WriteFault rest status m n h g in
        ended.write_failed (happened_first (IsFailure kinds.Writes) first rest fails) (told_status write_fault_line statuses.WriteFault rest status h) (record {
          stopped = m.view;
          given = some_given s m written p b;
          told = (line.0, told_as (ErrorsFailed rest) (ErrorsFailed (first ++ rest)) write_fault_line m.view m.view n.view lost_later refl line.1);
        })

    told_ends : (a : Answer) (status : Status) (s m n : Outside) → Puts (Came s) s m first a.output → Fits rest m n → Of s.view.files a → Leaves a s.view n.view → Tells a.errors a.status rest status → CallsEnd (first ++ rest) status s n
    told_ends a status s m n p g is leaves h =
        let line = line_told a.errors a.status rest status m n h g in
        ended.answered a (inl is) (told_status a.errors a.status rest status h) (line.0 ∙ p.grew) leaves
        (told_as (ErrorsFailed rest) (ErrorsFailed (first ++ rest)) a.errors s.view m.view n.view lost_later (errors_left first s m p.fits p.only) line.1)

  goes_ends : (t : List Event) (status : Status) (s n : Outside) → HoldBytes s.view.files → Fits t s n → Throughout IsPlain t → GoesCalls s n t [] status → CallsEnd t status s n
  goes_ends t status s n hold f plain (halted few written p b) = absurd (omega (arith, few))
  goes_ends t status s n hold f plain (unread first rest m written splits p g b fails h none) =
      subst (λ (l : List Event). CallsEnd l status s n) (sym splits) (unread_ends first rest status s m n written hold p b g fails (subst (λ (l : List Event). Unread l status) (append-nil rest) h))
  goes_ends t status s n hold f plain (unwritten first rest m written line splits p g b fails h full begins) =
      subst (λ (l : List Event). CallsEnd l status s n) (sym splits)
      (unwritten_ends first rest status s m n written p (b hold) g fails (subst (λ (l : List Event). Tells write_fault_line statuses.WriteFault l status) (append-nil rest) h))
  goes_ends t status s n hold f plain (ends a first rest m splits p g is h) =
      subst (λ (l : List Event). CallsEnd l status s n) (sym splits)
      (told_ends first rest a status s m n p g is (leaves_printed a s.view n.view (are_printed s.view.files a is) (plain_keeps t s n f plain)) (subst (λ (l : List Event). Tells a.errors a.status l status) (append-nil rest) h))

  -- ---- where memory runs out

  abbrev Given : Outside → Outside → Type 0
  Given s m = (output_of m ≡ output_of s) ⊎ (Unit {0} × (a : Answer) × Of s.view.files a × AddsPrefix (output_of s) (output_of m) a.output)

  some_begun : (s m n : Outside) (first : List Event) (written : List ℕ) → HoldBytes s.view.files → Puts (Came s) s m first written → IsBegun (HoldBytes s.view.files) (Of s.view.files) written → output_of n ≡ output_of m → Given s n
  some_begun s m n first written hold p (inl none) same = inl (same ∙ p.grew ∙ ap (λ (l : List ℕ). output_of s ++ l) none ∙ append-nil (output_of s))
  some_begun s m n first written hold p (inr begins) same = let b = begins hold in inr (tt, b.answer, b.is, (written, b.more, sym b.output, same ∙ p.grew))

  tell_left : {A : Type 0} (line : List ℕ) (x : A) (a : A) (rest u : List Event) (m n : Outside) → Tells line x (rest ++ u) a → Fits rest m n → output_of n ≡ output_of m
  tell_left line x a rest u m n h g = output_left rest m n g (throughout_first ToErrors rest u (keeps_tell ToErrors (λ piece. tt) tt line x (rest ++ u) a h))

  goes_given : (t u : List Event) (status : Status) (s n : Outside) → HoldBytes s.view.files → GoesCalls s n t u status → Given s n
  goes_given t u status s n hold (halted few written p b) = some_begun s n n t written hold p b refl
  goes_given t u status s n hold (unread first rest m written splits p g b fails h none) = some_begun s m n first written hold p b (tell_left read_fault_line statuses.ReadFault status rest u m n h g)
  goes_given t u status s n hold (unwritten first rest m written line splits p g b fails h full begins) = some_begun s m n first written hold p (inr b) (tell_left write_fault_line statuses.WriteFault status rest u m n h g)
  goes_given t u status s n hold (ends a first rest m splits p g is h) =
      inr (tt, a, is, (a.output, [], append-nil a.output, tell_left a.errors a.status status rest u m n h g ∙ p.grew))

  goes_stopped : (t u : List Event) (status : Status) (s n : Outside) → HoldBytes s.view.files → Fits t s n → Throughout (WritesOnly to_output) t → GoesCalls s n t u status → Stopped Of (Unit {0}) (Unit {0}) Left are_printed s n
  goes_stopped t u status s n hold f only c =
      (goes_given t u status s n hold c, errors_left t s n f (output_alone t (goes_plain (Of s.view.files) (HoldBytes s.view.files) (Came s) s n u status t c) only))

  -- ---- a run

  calls_ends : (t : List Event) (status : Status) (s n : Outside) → HoldBytes s.view.files → RunsIn to_output (tells_calls schema input) t status → Fits t s n → CallsEnd t status s n
  calls_ends t status s n bytes (runs.done h) f =
      let c = calls_whole t status s n h f in
      goes_ends t status s n bytes f (goes_plain (Of s.view.files) (HoldBytes s.view.files) (Came s) s n [] status t c) c
  calls_ends t status s n bytes (runs.out_of_memory h) f =
      let parts = fits_both h.first h.rest s n (subst (λ (l : List Event). Fits l s n) h.splits f) in
      let begun = h.does.0 in
      let c = calls_go h.first begun.rest begun.answer s parts.0 begun.whole parts.1 in
      let stopped = goes_stopped h.first begun.rest begun.answer s parts.0 bytes parts.1 begun.only c in
      subst (λ (l : List Event). CallsEnd l status s n) (sym h.splits)
      (memory_ends Of (Unit {0}) (Unit {0}) Left are_printed h.first h.rest status s parts.0 n stopped parts.2 (subst (λ (x : Status). Tells memory_line x h.rest status) h.does.1 h.goes))

  calls_keeps : (t : List Event) (status : Status) (s n : Outside) → RunsIn to_output (tells_calls schema input) t status → Fits t s n → KeepsUnread (Came s) s.view n.view
  calls_keeps t status s n (runs.done h) f =
      let c = calls_whole t status s n h f in
      keeps_unread (Came s) t s n f (goes_plain (Of s.view.files) (HoldBytes s.view.files) (Came s) s n [] status t c) (goes_spares (Of s.view.files) (HoldBytes s.view.files) (Came s) s n [] status t c)
  calls_keeps t status s n (runs.out_of_memory h) f =
      let g = subst (λ (l : List Event). Fits l s n) h.splits f in
      let parts = fits_both h.first h.rest s n g in
      let begun = h.does.0 in
      let c = calls_go h.first begun.rest begun.answer s parts.0 begun.whole parts.1 in
      let plain = goes_plain (Of s.view.files) (HoldBytes s.view.files) (Came s) s parts.0 begun.rest begun.answer h.first c in
      let spares = goes_spares (Of s.view.files) (HoldBytes s.view.files) (Came s) s parts.0 begun.rest begun.answer h.first c in
      keeps_unread (Came s) (h.first ++ h.rest) s n g (throughout_both IsPlain h.first h.rest plain (tell_plain memory_line h.between h.rest status h.goes))
      (spares_more (Came s) (h.first ++ h.rest) h.first h.rest refl spares (tell_dry memory_line h.between h.rest status h.goes))

  module _ (s : Outside) (r : IsReliable s) (hold : HoldBytes s.view.files) (b : Answer) (of : Of s.view.files b) (room : sound.HasRoomFor b s.view) where
    goes_sound : (t : List Event) (status : Status) (n : Outside) → GoesCalls s n t [] status → IsFault status → ⊥
    goes_sound t status n (halted few written p begun) fault = absurd (omega (arith, few))
    goes_sound t status n (unread first rest m written splits p g begun fails h none) fault = none r b of
    goes_sound t status n (unwritten first rest m written line splits p g begun fails h full begins) fault =
        let more = begins hold b of in
        absurd (omega (arith, room.output, full r, ap length more.1, length-append line more.0))
    goes_sound t status n (ends a first rest m splits p g is h) fault =
        (are_printed s.view.files a is).sound (subst IsFault (told_status a.errors a.status (rest ++ []) status h) fault)

    calls_sound : (t : List Event) (status : Status) (n : Outside) → RunsIn to_output (tells_calls schema input) t status → Fits t s n → IsFault status → ⊥
    calls_sound t status n (runs.done h) f fault = goes_sound t status n (calls_whole t status s n h f) fault
    calls_sound t status n (runs.out_of_memory h) f fault = memory_sound (subst IsFault (told_status memory_line h.between h.rest status h.goes ∙ h.does.1) fault)

  pub calls_runs : RunsJob FileBytes FileBytes (calls_job schema input) to_output (tells_calls schema input)
  calls_runs = record {
    ends = calls_ends;
    keeps = λ t status s n h f. calls_keeps t status s n h f;
    sound = λ t status s n bytes h f r fits fault. calls_sound s r bytes fits.0 fits.1 fits.2 t status n h f fault;
  }
