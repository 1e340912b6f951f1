-- A run of `decode`.
use Rattle.std.proofs.Common.{◌≡◌, ℕ, List, [], ◌∷◌, ◌++◌, Bool, true, false, Option, Some, None, Ok, Err, codes, refl, sym, ap, ◌∙◌, subst, inl, inr}
use Rattle.std.specs.Prelude.{IfSome}
use Rattle.tl_base.proofs.Parts.{left_back}
use Rattle.tl_base.specs.Contents.{Files}
use Rattle.tl_base.specs.Outside.{left_of}
use Rattle.tl_base.specs.declared.counts.Kind.TheVariants as kinds
use Rattle.tl_base.specs.declared.host.Slot.TheVariants.{Schema, Input}
use Rattle.tl_schema.specs.Schemas.{Declared}
use Rattle.tl_schema.specs.Types.{Shape}
use Rattle.tl_decode.specs.declared.whole.WholeFault.{WholeFault}
use Rattle.tl_decode.specs.declared.whole.WholeFault.TheVariants as whole
use Rattle.outside.specs.Answer.{Answer, done, refused}
use Rattle.outside.specs.declared.status.Status.{Status}
use Rattle.outside.proofs.SameFiles.{same_file}
use Rattle.outside.specs.Events.{Event, Outside, opened}
use Rattle.outside.specs.Laws.{Happened, IsFailure, Throughout}
use Rattle.outside.specs.Steps.{Calls, Then}
use Rattle.outside.proofs.Causing.{keeps_call}
use Rattle.outside.specs.Fits.{Fits}
use Rattle.outside.specs.Reliable.{IsMissing}
use Rattle.outside.proofs.Fitting.{fits_keeps, reads_fail_alone, reliable_on}
use Rattle.schema_files.specs.Lines.{cause_text, input_line, line_text}
use Rattle.codec_commands.specs.Decode.{DecodeAnswer, OfInput, decode_job}
use Rattle.codec_commands.specs.Decode as answer
use Rattle.codec_commands.specs.Typed.{HasPlannedType, OfType, ReachesInput}
use Rattle.codec_commands.proofs.OneDecode.{one_decode}
use Rattle.codec_rooms.specs.Decode.{Verdict, ReadsValue, answer_of, printed, after_reading, after_opening, OfBytes, decodes, decodes_by}
use Rattle.codec_rooms.proofs.InputRead.{keeps_value}
use Rattle.codec_rooms.proofs.DecodingLaws.{IsLost, lost_read}
use Rattle.run_laws.specs.Ended.{Anything, RunsJob}
use Rattle.run_laws.proofs.files.Coming.{Comes, ComesTo, unread, comes_after, comes_as, comes_print, comes_then, none_missing}
use Rattle.run_laws.proofs.files.Ending.{IsPrinted, done_printed, refused_printed, runs_silent}
use Rattle.run_laws.proofs.files.InputLeft.{value_meant}
use Rattle.run_laws.proofs.files.Schemas.{Reached, ToFile, comes_schema, comes_word, file_printed, type_printed}
use Rattle.run_laws.proofs.files.Spared.{IsFileRead}

input_printed : (S : Declared) (T : Shape) (bytes : List ℕ) (a : Answer) → OfInput S T bytes a → IsPrinted a
input_printed S T bytes a (answer.whole v spells deep is) = done_printed _ a is
input_printed S T bytes a (answer.longer v x rest b split spells deep is) = refused_printed _ a is
input_printed S T bytes a (answer.faulty at why r is) = refused_printed _ a is

module _ (D : Declared) (T : Shape) where
  -- ---- what is left of Input

  abbrev OfLeft : Outside → Answer → Type 0
  OfLeft s = OfInput D T (left_of Input s.view)

  value_reads : (t : List Event) (r : Verdict) → ReadsValue D T t r → Throughout IsFileRead t
  value_reads = keeps_value D T IsFileRead (λ bytes. tt) tt tt

  value_told : (a : Answer) (t u v : List Event) (r : Verdict) (status : Status) (s m : Outside) → answer_of D T r ≡ Some a → ReadsValue D T t r → printed (Some a) (u ++ v) status → Fits t s m → ComesTo (OfLeft s) (Reached s) s (t ++ u) v status
  value_told a t u v r status s m is read h f =
      comes_after (OfLeft s) (Reached s) s t u v status (value_reads t r read) (inr tt)
      (comes_print (OfLeft s) (Reached s) s a u v status (subst (λ (o : Option Answer). IfSome o (OfLeft s)) is (value_meant D T t r s m read f)) h)

  value_lost : (e : WholeFault) (t u v : List Event) (status : Status) (s m : Outside) → IsLost e → ReadsValue D T t (Err e) → printed None (u ++ v) status → Fits t s m → ComesTo (OfLeft s) (Reached s) s (t ++ u) v status
  value_lost e t u v status s m lost read h f =
      let fails = lost_read D T t e read lost in
      unread t u refl (value_reads t (Err e) read) (inr tt) fails h
      (λ r a is. none_missing s t (keeps_value D T (λ x. IsMissing s x → ⊥) (λ bytes no. no) (λ no. no) (λ no. no) t (Err e) read) (reads_fail_alone t s m f r fails))

  value_comes : (r : Verdict) (t u v : List Event) (status : Status) (s m n : Outside) → ReadsValue D T t r → after_reading D T r (u ++ v) status → Fits t s m → Fits u m n → ComesTo (OfLeft s) (Reached s) s (t ++ u) v status
  value_comes (Ok x) t u v status s m n read h f g = value_told (done (line_text D.decls T x)) t u v (Ok x) status s m refl read h f
  value_comes (Err (whole.Refused place cause)) t u v status s m n read h f g = value_told (refused (input_line place (cause_text cause))) t u v (Err (whole.Refused place cause)) status s m refl read h f
  value_comes (Err (whole.Trailing place)) t u v status s m n read h f g = value_told (refused (input_line place (codes "Trailing"))) t u v (Err (whole.Trailing place)) status s m refl read h f
  value_comes (Err whole.ReadFault) t u v status s m n read h f g = value_lost whole.ReadFault t u v status s m tt read h f
  value_comes (Err whole.Memory) t u v status s m n read h f g = value_lost whole.Memory t u v status s m tt read h f

  comes_value : Comes OfLeft Reached (Then (ReadsValue D T) (after_reading D T))
  comes_value = comes_then (ReadsValue D T) (after_reading D T) OfLeft Reached value_reads (λ s t a h. inr tt) value_comes

  -- ---- its file

  module _ (input : List ℕ) where
    abbrev Is : Outside → Answer → Type 0
    Is = ToFile OfInput input D T

    opens : (ok : Bool) (t : List Event) → t ≡ opened Input input ok ∷ [] → Throughout IsFileRead t
    opens ok t is = subst (Throughout IsFileRead) (sym is) (tt, tt)

    opened_comes : (ok : Bool) (t u v : List Event) (status : Status) (s m n : Outside) → t ≡ opened Input input ok ∷ [] → after_opening D T ok (u ++ v) status → Fits t s m → Fits u m n → ComesTo (Is s) (Reached s) s (t ++ u) v status
    opened_comes true t u v status s m n is h f g =
        let o = subst (λ (l : List Event). Fits l s m) is f in
        let left : left_of Input m.view ≡ o.1.0.0 = ap (λ (x : Outside). left_of Input x.view) o.2 ∙ (ap (left_of Input) o.1.0.2 ∙ left_back Input o.1.0.0 s.view) in
        let into : (a : Answer) → OfLeft m a → Is s a = λ a tells. (o.1.0.0, o.1.0.1, subst (λ (l : List ℕ). OfInput D T l a) left tells) in
        let back : (a : Answer) → Is s a → OfLeft m a = λ a tells. subst (λ (l : List ℕ). OfInput D T l a) (same_file s.view.files input tells.0 o.1.0.0 tells.1 o.1.0.1 ∙ sym left) tells.2 in
        comes_after (Is s) (Reached s) s t u v status (opens true t is) (inr tt)
        (comes_as (OfLeft m) (Is s) (Reached m) (Reached s) s m into back (λ c. c) (reliable_on s m (fits_keeps t s m f)) u v status (comes_value u v status m n h g))
    opened_comes false t u v status s m n is h f g =
        let fails : Happened (IsFailure kinds.Reads) t = subst (Happened (IsFailure kinds.Reads)) (sym is) (inl refl) in
        unread t u refl (opens false t is) (inr tt) fails h
        (λ r a tells. elim (subst (Happened (IsMissing s)) is (reads_fail_alone t s m f r fails)) [ inl none ↦ none (tells.0, tells.1) | inr none ↦ none ])

    comes_bytes : Comes Is Reached (OfBytes input D T)
    comes_bytes = comes_then (Calls (opened Input input)) (after_opening D T) Is Reached (keeps_call IsFileRead (opened Input input) (λ ok. tt)) (λ s t a h. inr tt) opened_comes

-- ---- the run

module _ (schema type input : List ℕ) where
  abbrev Of : Files → Answer → Type 0
  Of files a = DecodeAnswer files schema type input a

  are_printed : (files : Files) (a : Answer) → Of files a → IsPrinted a
  are_printed files a is = file_printed (codes "schema") (λ S b. OfType OfInput S type input files b) (λ S b told. type_printed OfInput input_printed S type input files b told) files schema a is

  comes : Comes (λ s. Of s.view.files) (λ s. ReachesInput s.view.files schema type) (decodes schema type input)
  comes =
      comes_schema (codes "schema") (decodes_by type input) (λ S files. OfType OfInput S type input files) (λ S. HasPlannedType S type) (comes_word (OfBytes input) OfInput input (λ D T. comes_bytes D T input) type) Schema tt refl schema
      (λ s. ReachesInput s.view.files schema type) (λ s. inl tt) (λ s file S has is came. record { text = file; of = S; there = has; accepted = is; known = came })

  pub decode_runs : RunsJob Anything Anything (decode_job schema type input) [] (decodes schema type input)
  decode_runs =
      runs_silent Of ⊥ (λ v. ReachesInput v.files schema type) are_printed (decodes schema type input) Anything (λ v shown a b. one_decode v.files schema type input a b) comes
