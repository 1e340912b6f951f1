-- Laws of `decode`.
use Rattle.std.proofs.Common.{◌≡◌, ℕ, List, [], ◌∷◌, ◌++◌, Bool, true, false, Option, Some, None, Ok, Err, codes, refl, sym, ap, subst, inl, inr}
use Rattle.tl_base.specs.declared.counts.Kind.TheVariants as kinds
use Rattle.tl_base.specs.declared.host.Slot.TheVariants.{Schema, Input}
use Rattle.tl_schema.specs.Schemas.{Declared}
use Rattle.tl_schema.specs.Types.{Shape}
use Rattle.tl_decode.specs.declared.whole.WholeFault.{WholeFault}
use Rattle.tl_decode.specs.declared.whole.WholeFault.TheVariants as whole
use Rattle.outside.specs.Answer.{Answer, done, refused}
use Rattle.outside.specs.declared.status.Status.{Status}
use Rattle.outside.specs.declared.status.Status.TheVariants as status
use Rattle.outside.specs.Events.{Event, opened}
use Rattle.outside.specs.Laws.{Happened, Keeps, IsFailure, Explains, HasCause}
use Rattle.outside.specs.Runs.{Runs}
use Rattle.outside.specs.Steps.{Turn, again, leave, Calls}
use Rattle.outside.proofs.Causing.{happened_last, keeps_then, keeps_call, keeps_tell, keeps_print, cause_then, cause_print, cause_tell, cause_run, explains_last}
use Rattle.schema_files.specs.Lines.{cause_text, input_line, line_text}
use Rattle.codec_rooms.specs.Commands.{decode}
use Rattle.codec_rooms.specs.Decode.{Verdict, Decides, faulty, longer, HasVerdict, cut_off, is_value, ReadsOn, more, decided, at_end, failed, ReadsValue, at_once, reads, answer_of, printed, after_reading, after_opening, OfBytes, decodes, decodes_by}
use Rattle.codec_rooms.specs.Laws.{Named, IsRead, IsOf}
use Rattle.codec_rooms.proofs.FileLaws.{Touches, touches}
use Rattle.codec_rooms.proofs.InputRead.{keeps_value}
use Rattle.codec_rooms.proofs.InputLeft.{left_is}
use Rattle.codec_rooms.proofs.TypedLaws.{keeps_word, keeps_named, cause_of_file, cause_word}

-- ---- what it does

module _ (schema type input : List ℕ) where
  abbrev own : Named
  own = (decode schema type input).reads

  second : IsRead own Input input
  second = inr (inl (refl, refl))

  keeps_printed : (o : Option Answer) → Keeps (IsOf own) (printed o)
  keeps_printed (Some a) = keeps_print (IsOf own) (λ _. tt) tt (λ _. tt) tt a
  keeps_printed None = keeps_tell (IsOf own) (λ _. tt) tt _ _

  keeps_opened : (D : Declared) (T : Shape) (ok : Bool) → Keeps (IsOf own) (after_opening D T ok)
  keeps_opened D T true = keeps_then (IsOf own) (ReadsValue D T) (after_reading D T) (keeps_value D T (IsOf own) (λ _. (input, second)) (input, second) (input, second)) (λ r. keeps_printed (answer_of D T r))
  keeps_opened D T false = keeps_tell (IsOf own) (λ _. tt) tt _ _

  keeps_bytes : (D : Declared) (T : Shape) → Keeps (IsOf own) (OfBytes input D T)
  keeps_bytes D T = keeps_then (IsOf own) (Calls (opened Input input)) (after_opening D T) (keeps_call (IsOf own) (opened Input input) (λ _. second)) (keeps_opened D T)

  keeps : Keeps (IsOf own) (decodes schema type input)
  keeps = keeps_named own Schema schema (inl (refl, refl)) (codes "schema") (decodes_by type input) (keeps_word (IsOf own) (λ _. tt) tt (λ _. tt) tt (OfBytes input) type keeps_bytes)

-- ---- why it fails

-- a verdict that no bytes give
abbrev pub IsLost : WholeFault → Type 0
IsLost whole.ReadFault = Unit {0}
IsLost whole.Memory = Unit {0}
IsLost (whole.Refused place cause) = ⊥
IsLost (whole.Trailing place) = ⊥

abbrev pub err_of : WholeFault → Verdict → WholeFault
err_of e (Ok v) = e
err_of e (Err d) = d

pub err_is : {d e : WholeFault} → ◌≡◌ {A = Verdict} (Err d) (Err e) → d ≡ e
err_is {d} {e} is = ap (err_of e) is

module _ (D : Declared) (T : Shape) where
  never_lost : (bytes : List ℕ) (why e : WholeFault) → Decides D T bytes why → why ≡ e → IsLost e → ⊥
  never_lost bytes _ e (faulty offset cause not r) is lost = subst IsLost (sym is) lost
  never_lost bytes _ e (longer v x rest split some spells deep) is lost = subst IsLost (sym is) lost

  never_ends : (bytes : List ℕ) (r : Verdict) (e : WholeFault) → HasVerdict D T bytes r → r ≡ Err e → IsLost e → ⊥
  never_ends bytes _ e (cut_off offset r) is lost = subst IsLost (sym (err_is is)) lost
  never_ends bytes _ e (is_value v spells deep) is lost = absurd (let no : Ok v ≡ Err e = is in cc)

  lost_turn : (bytes : List ℕ) (t : List Event) (x : Turn (List ℕ) Verdict) (e : WholeFault) → ReadsOn D T bytes t x → x ≡ leave (Err e) → IsLost e → Happened (IsFailure kinds.Reads) t
  lost_turn bytes t _ e (more piece is o) at lost = absurd (let no : again (bytes ++ piece) ≡ leave (Err e) = at in cc)
  lost_turn bytes t _ e (decided piece why is d) at lost = absurd (never_lost (bytes ++ piece) why e d (err_is (left_is at)) lost)
  lost_turn bytes t _ e (at_end r is ends) at lost = absurd (never_ends bytes r e ends (left_is at) lost)
  lost_turn bytes t _ e (failed is) at lost = subst (Happened (IsFailure kinds.Reads)) (sym is) (inl refl)

  pub lost_read : (t : List Event) (e : WholeFault) → ReadsValue D T t (Err e) → IsLost e → Happened (IsFailure kinds.Reads) t
  lost_read t e (at_once why none d is) lost = absurd (never_lost [] why e d (sym (err_is is)) lost)
  lost_read t e (reads o h) lost =
      subst (Happened (IsFailure kinds.Reads)) (sym h.splits) (happened_last (IsFailure kinds.Reads) h.first h.rest (lost_turn h.between h.rest (leave (Err e)) e h.goes refl lost))

  cause_reading : (r : Verdict) (t u : List Event) (s : Status) → ReadsValue D T t r → after_reading D T r u s → Explains s (t ++ u)
  cause_reading (Ok v) t u s read h = explains_last s t u (cause_print (done (line_text D.decls T v)) tt u s h)
  cause_reading (Err (whole.Refused place cause)) t u s read h = explains_last s t u (cause_print (refused (input_line place (cause_text cause))) tt u s h)
  cause_reading (Err (whole.Trailing place)) t u s read h = explains_last s t u (cause_print (refused (input_line place (codes "Trailing"))) tt u s h)
  cause_reading (Err whole.ReadFault) t u s read h = cause_tell _ status.ReadFault t u s (lost_read t whole.ReadFault read tt) h
  cause_reading (Err whole.Memory) t u s read h = cause_tell _ status.ReadFault t u s (lost_read t whole.Memory read tt) h

  cause_opened : (input : List ℕ) (ok : Bool) (t u : List Event) (s : Status) → t ≡ opened Input input ok ∷ [] → after_opening D T ok u s → Explains s (t ++ u)
  cause_opened input true t u s is h = explains_last s t u (cause_then (ReadsValue D T) (after_reading D T) cause_reading u s h)
  cause_opened input false t u s is h = cause_tell _ status.ReadFault t u s (subst (Happened (IsFailure kinds.Reads)) (sym is) (inl refl)) h

  cause_bytes : (input : List ℕ) → HasCause (OfBytes input D T)
  cause_bytes input = cause_then (Calls (opened Input input)) (after_opening D T) (cause_opened input)

-- ---- the laws

module _ (schema type input : List ℕ) where
  pub decode_touches : Touches (decode schema type input)
  decode_touches = touches (decode schema type input) (keeps schema type input)

  pub decode_has_cause : HasCause (Runs (decodes schema type input))
  decode_has_cause =
      cause_run (decodes schema type input) (cause_of_file Schema refl (codes "schema") (decodes_by type input) schema (cause_word (OfBytes input) type (λ D T. cause_bytes D T input)))
