-- How a run ends that reads files and then prints an answer to them.
use Rattle.std.proofs.Common.{◌≡◌, ◌⊎◌, ℕ, List, [], ◌∷◌, ◌++◌, length, append-nil, Bool, true, false, refl, sym, ap, ◌∙◌, subst, inl, inr, arith}
use Rattle.tl_base.specs.Contents.{Files}
use Rattle.tl_base.specs.Outside.{View}
use Rattle.tl_base.specs.declared.counts.Kind.TheVariants as kinds
use Rattle.tl_base.specs.declared.host.Out.{Out}
use Rattle.tl_base.specs.declared.host.Out.TheVariants as outs
use Rattle.outside.specs.Answer.{Answer, done, printed, refused, refused_after, memory_line, read_fault_line, write_fault_line}
use Rattle.outside.specs.Jobs.{Job, unlinked_job}
use Rattle.outside.specs.Kept.{AddsPrefix, KeepsRest, KeepsUnread, Leaves}
use Rattle.outside.specs.Sound.{IsFault}
use Rattle.outside.specs.Sound as sound
use Rattle.outside.specs.declared.status.Status.{Status}
use Rattle.outside.specs.declared.status.Status.TheVariants as statuses
use Rattle.outside.specs.Begun.{WritesOnly, to_output}
use Rattle.outside.specs.Events.{Event, Outside}
use Rattle.outside.specs.Laws.{Happened, IsFailure, Throughout}
use Rattle.outside.specs.Pieces.{Tells, Writes}
use Rattle.outside.specs.Printing.{Prints, Unread, after_output}
use Rattle.outside.specs.Runs.{RunsIn}
use Rattle.outside.specs.Runs as runs
use Rattle.outside.specs.Steps.{Step}
use Rattle.outside.proofs.Causing.{happened_first, happened_last, keeps_print, keeps_tell, keeps_write, throughout_both, throughout_first, told_status, unwritten}
use Rattle.outside.specs.Fits.{Fits}
use Rattle.outside.specs.Reliable.{IsReliable}
use Rattle.outside.proofs.Fitting.{fits_both, fits_keeps, reliable_on, writes_append, writes_fail_full}
use Rattle.run_laws.specs.Ended.{Anything, Ended, ErrorsFailed, IsUntold, RunsJob}
use Rattle.run_laws.specs.Ended as ends
use Rattle.run_laws.proofs.files.Coming.{ComesTo, reading, unread, answered, Comes, Spares, spares_more}
use Rattle.run_laws.proofs.files.Cutting.{Cut, past, within, cut, line_told, told_as}
use Rattle.run_laws.proofs.files.Spared.{IsDry, IsFileRead, IsPlain, ToErrors, ToOutput, dry_keeps, errors_left, output_alone, output_left, plain_keeps, reads_plain, reads_to_errors, reads_to_output, silent}
use Rattle.run_laws.proofs.serving.Lines.{writes_begun, writes_some}

-- ---- answers that are printed

-- it writes to Output and Errors alone, and its status is no fault's
pub record IsPrinted (a : Answer) : Type 0 where
  pub is : a ≡ printed a.status a.output a.errors
  pub sound : IsFault a.status → ⊥

done_sound : IsFault statuses.Done → ⊥
done_sound (inl is) = absurd cc
done_sound (inr (inl is)) = absurd cc
done_sound (inr (inr is)) = absurd cc

refused_sound : IsFault statuses.Refused → ⊥
refused_sound (inl is) = absurd cc
refused_sound (inr (inl is)) = absurd cc
refused_sound (inr (inr is)) = absurd cc

pub memory_sound : IsFault statuses.Memory → ⊥
memory_sound (inl is) = absurd cc
memory_sound (inr (inl is)) = absurd cc
memory_sound (inr (inr is)) = absurd cc

pub done_printed : (output : List ℕ) (a : Answer) → a ≡ done output → IsPrinted a
done_printed output a is = subst IsPrinted (sym is) (record { is = refl; sound = done_sound })

pub after_printed : (output line : List ℕ) (a : Answer) → a ≡ refused_after output line → IsPrinted a
after_printed output line a is = subst IsPrinted (sym is) (record { is = refl; sound = refused_sound })

pub refused_printed : (line : List ℕ) (a : Answer) → a ≡ refused line → IsPrinted a
refused_printed line a is = after_printed [] line a is

leaves_rest : (status : Status) (output line : List ℕ) (v w : View) → KeepsRest v w → Leaves (printed status output line) v w
leaves_rest status output line v w k = record {
  files = ap (λ (x : View). x.files) k;
  moments = ap (λ (x : View). x.moments) k;
  coming = ap (λ (x : View). x.links) k;
  state_name = ap (λ (x : View). x.state_name) k;
  state = ap (λ (x : View). x.written.state) k;
  links = ap (λ (x : View). x.written.links) k ∙ sym (append-nil v.written.links);
  address = ap (λ (x : View). x.address) k;
}

pub leaves_printed : (a : Answer) (v w : View) → IsPrinted a → KeepsRest v w → Leaves a v w
leaves_printed a v w p k = subst (λ (x : Answer). Leaves x v w) (sym p.is) (leaves_rest a.status a.output a.errors v w k)

-- ---- which events there are

print_plain : (a : Answer) (t : List Event) (status : Status) → Prints a t status → Throughout IsPlain t
print_plain a t status h = keeps_print IsPlain (λ piece. tt) tt (λ piece. tt) tt a t status h

pub tell_plain : {A : Type 0} (line : List ℕ) (status : A) (t : List Event) (a : A) → Tells line status t a → Throughout IsPlain t
tell_plain line status t a h = keeps_tell IsPlain (λ piece. tt) tt line status t a h

print_dry : (a : Answer) (t : List Event) (status : Status) → Prints a t status → Throughout IsDry t
print_dry a t status h = keeps_print IsDry (λ piece. tt) tt (λ piece. tt) tt a t status h

pub tell_dry : {A : Type 0} (line : List ℕ) (status : A) (t : List Event) (a : A) → Tells line status t a → Throughout IsDry t
tell_dry line status t a h = keeps_tell IsDry (λ piece. tt) tt line status t a h

module _ (Is : Answer → Type 0) (C : Type 0) (s : Outside) (u : List Event) (status : Status) where
  comes_plain : (t : List Event) → ComesTo Is C s t u status → Throughout IsPlain t
  comes_plain t (reading few reads spares) = reads_plain t reads
  comes_plain t (unread first rest splits reads spares failed h none) =
      subst (Throughout IsPlain) (sym splits) (throughout_both IsPlain first rest (reads_plain first reads) (throughout_first IsPlain rest u (tell_plain _ _ (rest ++ u) status h)))
  comes_plain t (answered a first rest splits reads spares is h) =
      subst (Throughout IsPlain) (sym splits) (throughout_both IsPlain first rest (reads_plain first reads) (throughout_first IsPlain rest u (print_plain a (rest ++ u) status h)))

  comes_spares : (t : List Event) → ComesTo Is C s t u status → Spares C t
  comes_spares t (reading few reads spares) = spares
  comes_spares t (unread first rest splits reads spares failed h none) = spares_more C t first rest splits spares (throughout_first IsDry rest u (tell_dry _ _ (rest ++ u) status h))
  comes_spares t (answered a first rest splits reads spares is h) = spares_more C t first rest splits spares (throughout_first IsDry rest u (print_dry a (rest ++ u) status h))

-- ---- what a run keeps

pub keeps_unread : (C : Type 0) (t : List Event) (s n : Outside) → Fits t s n → Throughout IsPlain t → Spares C t → KeepsUnread C s.view n.view
keeps_unread C t s n f plain (inl dry) = record { rest = plain_keeps t s n f plain; input = inl (dry_keeps t s n f dry) }
keeps_unread C t s n f plain (inr came) = record { rest = plain_keeps t s n f plain; input = inr came }

module _ (writes : List Out) (work : Step Status) (Is : Outside → Answer → Type 0) (C : Outside → Type 0) (comes : Comes Is C work) where
  whole : (t : List Event) (status : Status) (s n : Outside) → work t status → Fits t s n → ComesTo (Is s) (C s) s t [] status
  whole t status s n h f = comes t [] status s n (subst (λ (l : List Event). work l status) (sym (append-nil t)) h) f

  run_keeps : (t : List Event) (status : Status) (s n : Outside) → RunsIn writes work t status → Fits t s n → KeepsUnread (C s) s.view n.view
  run_keeps t status s n (runs.done h) f =
      let c = whole t status s n h f in
      keeps_unread (C s) t s n f (comes_plain (Is s) (C s) s [] status t c) (comes_spares (Is s) (C s) s [] status t c)
  run_keeps t status s n (runs.out_of_memory h) f =
      let g = subst (λ (l : List Event). Fits l s n) h.splits f in
      let parts = fits_both h.first h.rest s n g in
      let begun = h.does.0 in
      let c = comes h.first begun.rest begun.answer s parts.0 begun.whole parts.1 in
      let plain = throughout_both IsPlain h.first h.rest (comes_plain (Is s) (C s) s begun.rest begun.answer h.first c) (tell_plain memory_line h.between h.rest status h.goes) in
      let spares = spares_more (C s) (h.first ++ h.rest) h.first h.rest refl (comes_spares (Is s) (C s) s begun.rest begun.answer h.first c) (tell_dry memory_line h.between h.rest status h.goes) in
      keeps_unread (C s) (h.first ++ h.rest) s n g plain spares

-- ---- how a run ends

-- a prefix of an answer's Output, where its printing was cut short
module _ (a : Answer) where
  tells_after : (ok : Bool) (t : List Event) (status : Status) → after_output a ok t status → Throughout ToErrors t
  tells_after true t status h = keeps_tell ToErrors (λ piece. tt) tt a.errors a.status t status h
  tells_after false t status h = keeps_tell ToErrors (λ piece. tt) tt write_fault_line statuses.WriteFault t status h

  whole_written : (ok : Bool) (t : List Event) (s n : Outside) → Writes outs.Output a.output t ok → Fits t s n → AddsPrefix s.view.written.output n.view.written.output a.output
  whole_written true t s n h f = (a.output, [], append-nil a.output, writes_append outs.Output a.output t s n h f)
  whole_written false t s n h f = writes_some outs.Output a.output t s n h f

  cut_prints : (t u : List Event) (status : Status) (s n : Outside) (h : Prints a (t ++ u) status) → Fits t s n → Cut h.first h.rest t u → AddsPrefix s.view.written.output n.view.written.output a.output
  cut_prints t u status s n h f (past more splits after) =
      let parts = fits_both h.first more s n (subst (λ (l : List Event). Fits l s n) splits f) in
      let all = tells_after h.between (more ++ u) status (subst (λ (l : List Event). after_output a h.between l status) after h.goes) in
      let same = output_left more parts.0 n parts.2 (throughout_first ToErrors more u all) in
      subst (λ (l : List ℕ). AddsPrefix s.view.written.output l a.output) (sym same) (whole_written h.between h.first s parts.0 h.does parts.1)
  cut_prints t u status s n h f (within e more splits later) =
      writes_begun outs.Output a.output t (e ∷ more) h.between s n (subst (λ (l : List Event). Writes outs.Output a.output l h.between) splits h.does) f

  begun_prints : (t u : List Event) (status : Status) (s n : Outside) → Prints a (t ++ u) status → Fits t s n → AddsPrefix s.view.written.output n.view.written.output a.output
  begun_prints t u status s n h f = cut_prints t u status s n h f (cut h.first h.rest t u h.splits)

module _ (Of : Files → Answer → Type 0) (pieces on : Type 0) (keeps : View → View → Type 0) where
  abbrev pub J : Job
  J = record (unlinked_job (λ v a. Of v.files a) pieces keeps) { reads_on = on }

  abbrev pub EndsSo : List Event → Status → Outside → Outside → Type 0
  EndsSo t status s n = Ended J t status s.view n.view

  print_by : (a : Answer) (ok : Bool) (reads first rest : List Event) (status : Status) (s m k n : Outside) → Fits reads s m → Fits first m k → Fits rest k n → Throughout IsFileRead reads → Writes outs.Output a.output first ok
      → after_output a ok rest status → Of s.view.files a → Leaves a s.view n.view → EndsSo (reads ++ (first ++ rest)) status s n
  print_by a true reads first rest status s m k n f g i are w h is leaves =
      let line = line_told a.errors a.status rest status k n h i in
      let errors = errors_left first m k g (keeps_write ToOutput outs.Output a.output (λ piece. tt) tt first true w) ∙ errors_left reads s m f (reads_to_output reads are) in
      let output = line.0 ∙ writes_append outs.Output a.output first m k w g ∙ ap (λ (l : List ℕ). l ++ a.output) (output_left reads s m f (reads_to_errors reads are)) in
      ends.answered a (inl is) (told_status a.errors a.status rest status h) output leaves
      (told_as (ErrorsFailed rest) (ErrorsFailed (reads ++ (first ++ rest))) a.errors s.view k.view n.view (λ lost. happened_last IsUntold reads (first ++ rest) (happened_last IsUntold first rest lost)) errors line.1)
  print_by a false reads first rest status s m k n f g i are w h is leaves =
      let line = line_told write_fault_line statuses.WriteFault rest status k n h i in
      let errors = errors_left first m k g (keeps_write ToOutput outs.Output a.output (λ piece. tt) tt first false w) ∙ errors_left reads s m f (reads_to_output reads are) in
      let some = subst (λ (l : List ℕ). AddsPrefix l k.view.written.output a.output) (output_left reads s m f (reads_to_errors reads are)) (writes_some outs.Output a.output first m k w g) in
      let later = happened_last (IsFailure kinds.Writes) reads (first ++ rest) in
      ends.write_failed (later (happened_first (IsFailure kinds.Writes) first rest (unwritten outs.Output a.output first w))) (told_status write_fault_line statuses.WriteFault rest status h) (record {
        stopped = k.view;
        given = (a, inl (inl is), some, inl errors);
        told = (line.0, told_as (ErrorsFailed rest) (ErrorsFailed (reads ++ (first ++ rest))) write_fault_line k.view k.view n.view (λ lost. happened_last IsUntold reads (first ++ rest) (happened_last IsUntold first rest lost)) refl line.1);
      })

  unread_ends : (first rest : List Event) (status : Status) (s m n : Outside) → Fits first s m → Fits rest m n → Throughout IsFileRead first → Happened (IsFailure kinds.Reads) first → Unread rest status → EndsSo (first ++ rest) status s n
  unread_ends first rest status s m n f g are failed h =
      let line = line_told read_fault_line statuses.ReadFault rest status m n h g in
      ends.read_failed (happened_first (IsFailure kinds.Reads) first rest failed) (told_status read_fault_line statuses.ReadFault rest status h) (line.0 ∙ output_left first s m f (reads_to_errors first are))
      (told_as (ErrorsFailed rest) (ErrorsFailed (first ++ rest)) read_fault_line s.view m.view n.view (λ lost. happened_last IsUntold first rest lost) (errors_left first s m f (reads_to_output first are)) line.1)

  module _ (are_printed : (files : Files) (a : Answer) → Of files a → IsPrinted a) where
    whole_ends : (C : Type 0) (t : List Event) (status : Status) (s n : Outside) → ComesTo (Of s.view.files) C s t [] status → Fits t s n → EndsSo t status s n
    whole_ends C t status s n (reading few reads spares) f = absurd (omega (arith, few))
    whole_ends C t status s n (unread first rest splits reads spares failed h none) f =
        let parts = fits_both first rest s n (subst (λ (l : List Event). Fits l s n) splits f) in
        subst (λ (l : List Event). EndsSo l status s n) (sym splits)
        (unread_ends first rest status s parts.0 n parts.1 parts.2 reads failed (subst (λ (l : List Event). Unread l status) (append-nil rest) h))
    whole_ends C t status s n (answered a first rest splits reads spares is h) f =
        let g = subst (λ (l : List Event). Fits l s n) splits f in
        let parts = fits_both first rest s n g in
        let prints = subst (λ (l : List Event). Prints a l status) (append-nil rest) h in
        let more = fits_both prints.first prints.rest parts.0 n (subst (λ (l : List Event). Fits l parts.0 n) prints.splits parts.2) in
        let plain = throughout_both IsPlain first rest (reads_plain first reads) (print_plain a rest status prints) in
        subst (λ (l : List Event). EndsSo l status s n) (sym (splits ∙ ap (λ (l : List Event). first ++ l) prints.splits))
        (print_by a prints.between first prints.first prints.rest status s parts.0 more.0 n parts.1 more.1 more.2 reads prints.does prints.goes is
        (leaves_printed a s.view n.view (are_printed s.view.files a is) (plain_keeps (first ++ rest) s n g plain)))

    -- ---- where memory runs out

    -- nothing was written; or a prefix of an answer's Output
    abbrev pub Stopped : Outside → Outside → Type 0
    Stopped s m = ((m.view.written.output ≡ s.view.written.output) ⊎ (pieces × (a : Answer) × Of s.view.files a × AddsPrefix s.view.written.output m.view.written.output a.output)) × (m.view.written.errors ≡ s.view.written.errors)

    abbrev StopsSo : List Out → Type 1
    StopsSo writes = (C : Type 0) (t u : List Event) (status : Status) (s m : Outside) → ComesTo (Of s.view.files) C s t u status → Throughout (WritesOnly writes) t → Fits t s m → Stopped s m

    stops_silent : StopsSo []
    stops_silent C t u status s m c only f =
        let are = silent t (comes_plain (Of s.view.files) C s u status t c) only in
        (inl (output_left t s m f (reads_to_errors t are)), errors_left t s m f (reads_to_output t are))

    module _ (has : pieces) where
      output_so : (C : Type 0) (t u : List Event) (status : Status) (s m : Outside) → ComesTo (Of s.view.files) C s t u status → Fits t s m
          → (m.view.written.output ≡ s.view.written.output) ⊎ (pieces × (a : Answer) × Of s.view.files a × AddsPrefix s.view.written.output m.view.written.output a.output)
      output_so C t u status s m (reading few reads spares) f = inl (output_left t s m f (reads_to_errors t reads))
      output_so C t u status s m (unread first rest splits reads spares failed h none) f =
          inl (output_left t s m f (subst (Throughout ToErrors) (sym splits) (throughout_both ToErrors first rest (reads_to_errors first reads)
          (throughout_first ToErrors rest u (keeps_tell ToErrors (λ piece. tt) tt read_fault_line statuses.ReadFault (rest ++ u) status h)))))
      output_so C t u status s m (answered a first rest splits reads spares is h) f =
          let parts = fits_both first rest s m (subst (λ (l : List Event). Fits l s m) splits f) in
          inr (has, a, is, subst (λ (l : List ℕ). AddsPrefix l m.view.written.output a.output) (output_left first s parts.0 parts.1 (reads_to_errors first reads)) (begun_prints a rest u status parts.0 m h parts.2))

      stops_output : StopsSo to_output
      stops_output C t u status s m c only f = (output_so C t u status s m c f, errors_left t s m f (output_alone t (comes_plain (Of s.view.files) C s u status t c) only))

    pub memory_ends : (first rest : List Event) (status : Status) (s m n : Outside) → Stopped s m → Fits rest m n → Tells memory_line statuses.Memory rest status → EndsSo (first ++ rest) status s n
    memory_ends first rest status s m n (inl same, spared) g h =
        let line = line_told memory_line statuses.Memory rest status m n h g in
        ends.out_of_memory (told_status memory_line statuses.Memory rest status h) (line.0 ∙ same)
        (told_as (ErrorsFailed rest) (ErrorsFailed (first ++ rest)) memory_line s.view m.view n.view (λ lost. happened_last IsUntold first rest lost) spared line.1)
    memory_ends first rest status s m n (inr (has, a, is, some), spared) g h =
        let line = line_told memory_line statuses.Memory rest status m n h g in
        ends.out_of_memory_later (told_status memory_line statuses.Memory rest status h) (record {
          stopped = m.view;
          given = (a, inl (inl is), some, inl spared);
          told = (line.0, told_as (ErrorsFailed rest) (ErrorsFailed (first ++ rest)) memory_line m.view m.view n.view (λ lost. happened_last IsUntold first rest lost) refl line.1);
        }) has

    -- ---- a run

    module _ (writes : List Out) (work : Step Status) (C : Outside → Type 0) (comes : Comes (λ s. Of s.view.files) C work) (stops : StopsSo writes) where
      run_ends : (t : List Event) (status : Status) (s n : Outside) → RunsIn writes work t status → Fits t s n → EndsSo t status s n
      run_ends t status s n (runs.done h) f = whole_ends (C s) t status s n (whole writes work (λ x. Of x.view.files) C comes t status s n h f) f
      run_ends t status s n (runs.out_of_memory h) f =
          let parts = fits_both h.first h.rest s n (subst (λ (l : List Event). Fits l s n) h.splits f) in
          let begun = h.does.0 in
          let stopped = stops (C s) h.first begun.rest begun.answer s parts.0 (comes h.first begun.rest begun.answer s parts.0 begun.whole parts.1) begun.only parts.1 in
          let tells = subst (λ (x : Status). Tells memory_line x h.rest status) h.does.1 h.goes in
          subst (λ (l : List Event). EndsSo l status s n) (sym h.splits) (memory_ends h.first h.rest status s parts.0 n stopped parts.2 tells)

      -- ---- no fault of an outside where nothing fails

      module _ (s : Outside) (r : IsReliable s) (b : Answer) (of : Of s.view.files b) (room : sound.HasRoomFor b s.view) (one : (a : Answer) → Of s.view.files a → a ≡ b) where
        print_sound : (a : Answer) (ok : Bool) (reads first rest : List Event) (status : Status) (m k n : Outside) → Fits reads s m → Fits first m k → Throughout IsFileRead reads → Writes outs.Output a.output first ok
            → after_output a ok rest status → Of s.view.files a → IsFault status → ⊥
        print_sound a true reads first rest status m k n f g are w h is fault = (are_printed s.view.files a is).sound (subst IsFault (told_status a.errors a.status rest status h) fault)
        print_sound a false reads first rest status m k n f g are w h is fault =
            let kept = fits_keeps reads s m f in
            let same = output_left reads s m f (reads_to_errors reads are) in
            absurd (omega (arith, room.output, writes_fail_full outs.Output a.output first m k w g (reliable_on s m kept r), kept.room, ap length same, ap (λ (x : Answer). length x.output) (one a is)))

        whole_sound : (t : List Event) (status : Status) (n : Outside) → ComesTo (Of s.view.files) (C s) s t [] status → Fits t s n → IsFault status → ⊥
        whole_sound t status n (reading few reads spares) f fault = absurd (omega (arith, few))
        whole_sound t status n (unread first rest splits reads spares failed h none) f fault = none r b of
        whole_sound t status n (answered a first rest splits reads spares is h) f fault =
            let parts = fits_both first rest s n (subst (λ (l : List Event). Fits l s n) splits f) in
            let prints = subst (λ (l : List Event). Prints a l status) (append-nil rest) h in
            let more = fits_both prints.first prints.rest parts.0 n (subst (λ (l : List Event). Fits l parts.0 n) prints.splits parts.2) in
            print_sound a prints.between first prints.first prints.rest status parts.0 more.0 n parts.1 more.1 reads prints.does prints.goes is fault

        run_sound : (t : List Event) (status : Status) (n : Outside) → RunsIn writes work t status → Fits t s n → IsFault status → ⊥
        run_sound t status n (runs.done h) f fault = whole_sound t status n (whole writes work (λ x. Of x.view.files) C comes t status s n h f) f fault
        run_sound t status n (runs.out_of_memory h) f fault = memory_sound (subst IsFault (told_status memory_line h.between h.rest status h.goes ∙ h.does.1) fault)

-- ---- the three together

module _ (Of : Files → Answer → Type 0) (pieces : Type 0) (C : View → Type 0) (are_printed : (files : Files) (a : Answer) → Of files a → IsPrinted a) (work : Step Status)
    (Shows : View → Type 0) (one : (v : View) → Shows v → (a b : Answer) → Of v.files a → Of v.files b → a ≡ b) (comes : Comes (λ s. Of s.view.files) (λ s. C s.view) work) where
  abbrev keeps_so : View → View → Type 0
  keeps_so v w = KeepsUnread (C v) v w

  runs_by : (writes : List Out) → StopsSo Of pieces ⊥ keeps_so are_printed writes → RunsJob Anything Shows (unlinked_job (λ v a. Of v.files a) pieces keeps_so) writes work
  runs_by writes stops = record {
    ends = λ t status s n shown h f. run_ends Of pieces ⊥ keeps_so are_printed writes work (λ s. C s.view) comes stops t status s n h f;
    keeps = λ t status s n h f. run_keeps writes work (λ s. Of s.view.files) (λ s. C s.view) comes t status s n h f;
    sound = λ t status s n shown h f r fits fault. run_sound Of pieces ⊥ keeps_so are_printed writes work (λ s. C s.view) comes stops s r fits.0 fits.1 fits.2 (λ a is. one s.view shown a fits.0 is fits.1) t status n h f fault;
  }

  -- a job that writes nothing before its answer is there
  pub runs_silent : RunsJob Anything Shows (unlinked_job (λ v a. Of v.files a) pieces keeps_so) [] work
  runs_silent = runs_by [] (stops_silent Of pieces ⊥ keeps_so are_printed)

  -- one that writes its Output in pieces
  pub runs_output : pieces → RunsJob Anything Shows (unlinked_job (λ v a. Of v.files a) pieces keeps_so) to_output work
  runs_output has = runs_by to_output (stops_output Of pieces ⊥ keeps_so are_printed has)
