-- What a run tells and prints, whatever fails.
use Rattle.std.proofs.Common.{◌≡◌, ℕ, List, [], ◌∷◌, ◌++◌, map, append-nil, Bool, true, false, refl, sym, ap, ◌∙◌, subst, inl, inr}
use Rattle.tl_base.specs.Outside.{written_of}
use Rattle.tl_base.specs.declared.host.Out.{Out}
use Rattle.tl_base.specs.declared.host.Out.TheVariants as outs
use Rattle.outside.specs.Answer.{Answer, write_fault_line}
use Rattle.outside.specs.Kept.{AddsPrefix}
use Rattle.outside.specs.Telling.{Tells as TellsOn}
use Rattle.outside.specs.declared.status.Status.{Status}
use Rattle.outside.specs.declared.status.Status.TheVariants.{WriteFault}
use Rattle.outside.specs.Events.{Event, Outside, put, write_failed}
use Rattle.outside.specs.Pieces.{InPieces, Tells, Writes}
use Rattle.outside.specs.Printing.{Prints, after_output}
use Rattle.outside.proofs.Causing.{happened_first, happened_last}
use Rattle.outside.specs.Fits.{Fits}
use Rattle.outside.proofs.Fitting.{fits_both, writes_append}
use Rattle.session_rooms.proofs.LeftViews.{beside}
use Rattle.session_rooms.proofs.PostFiles.{output_of}
use Rattle.session_rooms.proofs.Spared.{writes_spare}
use Rattle.run_laws.specs.Ended.{ErrorsFailed, IsUntold}
use Rattle.run_laws.proofs.Untold.{unwritten_errors}
use Rattle.run_laws.proofs.serving.Lines.{writes_some}

abbrev pub errors_of : Outside → List ℕ
errors_of s = written_of outs.Errors s.view

-- a failed write to Errors in the trace is W
abbrev pub Causes : Type 0 → List Event → Type 0
Causes W t = ErrorsFailed t → W

pub cause_first : (W : Type 0) (t first rest : List Event) → t ≡ first ++ rest → Causes W t → Causes W first
cause_first W t first rest is c h = c (subst ErrorsFailed (sym is) (happened_first IsUntold first rest h))

pub cause_last : (W : Type 0) (t first rest : List Event) → t ≡ first ++ rest → Causes W t → Causes W rest
cause_last W t first rest is c h = c (subst ErrorsFailed (sym is) (happened_last IsUntold first rest h))

-- ---- what was put where a write failed

pub put_part : (out : Out) (part : List ℕ) (t : List Event) (a b : Outside) → InPieces (put out) part (write_failed out ∷ []) t → Fits t a b → written_of out b.view ≡ written_of out a.view ++ part
put_part out part t a b q f =
    let parts = fits_both (map (put out) q.pieces) (write_failed out ∷ []) a b (subst (λ (l : List Event). Fits l a b) q.events f) in
    ap (λ (o : Outside). written_of out o.view) parts.2.2 ∙ (ap (written_of out) parts.2.1.0
    ∙ writes_append out part (map (put out) q.pieces) a parts.0 (record { pieces = q.pieces; events = sym (append-nil (map (put out) q.pieces)); join = q.join }) parts.1)

-- ---- a line

-- the line was told, and nothing else changed but slots
pub record Alone (W : Type 0) (line : List ℕ) (s n : Outside) : Type 0 where
  pub line_is : TellsOn W line s.view n.view
  pub output : output_of n ≡ output_of s
  pub rest : beside n.view ≡ beside s.view

pub tells_later : (W : Type 0) (line : List ℕ) (s m n : Outside) → errors_of m ≡ errors_of s → TellsOn W line m.view n.view → TellsOn W line s.view n.view
tells_later W line s m n same (inl e) = inl (e ∙ ap (λ (z : List ℕ). z ++ line) same)
tells_later W line s m n same (inr (w, p)) = inr (w, (p.0, p.1, p.2, p.3 ∙ ap (λ (z : List ℕ). z ++ p.0) same))

errors_told : (W : Type 0) (line : List ℕ) (ok : Bool) (t : List Event) (s n : Outside) → Writes outs.Errors line t ok → Fits t s n → Causes W t → TellsOn W line s.view n.view
errors_told W line true t s n w f c = inl (writes_append outs.Errors line t s n w f)
errors_told W line false t s n w f c = inr (c (unwritten_errors line t w), writes_some outs.Errors line t s n w f)

pub tell_alone : (W : Type 0) (line : List ℕ) (status r : Status) (t : List Event) (s n : Outside) → Tells line status t r → Fits t s n → Causes W t → Alone W line s n
tell_alone W line status r t s n h f c =
    let parts = fits_both h.first h.rest s n (subst (λ (l : List Event). Fits l s n) h.splits f) in
    let stays : n ≡ parts.0 = subst (λ (l : List Event). Fits l parts.0 n) h.goes.0 parts.2 in
    let line_so = errors_told W line h.between h.first s parts.0 h.does parts.1 (cause_first W t h.first h.rest h.splits c) in
    record {
      line_is = subst (λ (o : Outside). TellsOn W line s.view o.view) (sym stays) line_so;
      output = ap output_of stays ∙ writes_spare outs.Errors (written_of outs.Output) (λ bytes v. refl) line h.first h.between s parts.0 h.does parts.1;
      rest = ap (λ (o : Outside). beside o.view) stays ∙ writes_spare outs.Errors beside (λ bytes v. refl) line h.first h.between s parts.0 h.does parts.1;
    }

-- ---- what is printed

-- all of this for Output was written, and the line was told; or a prefix of it, and that a write failed
pub data Printed (W : Type 0) (status : Status) (output line : List ℕ) (r : Status) (s n : Outside) : Type 0 where
  all_printed : r ≡ status → output_of n ≡ output_of s ++ output → TellsOn W line s.view n.view → beside n.view ≡ beside s.view → Printed W status output line r s n
  part_printed : r ≡ WriteFault → AddsPrefix (output_of s) (output_of n) output → TellsOn W write_fault_line s.view n.view → beside n.view ≡ beside s.view → Printed W status output line r s n

pub told_printed : (W : Type 0) (status r : Status) (line : List ℕ) (t : List Event) (s n : Outside) → Tells line status t r → Fits t s n → Causes W t → Printed W status [] line r s n
told_printed W status r line t s n h f c =
    let e = tell_alone W line status r t s n h f c in
    all_printed h.goes.1 (e.output ∙ sym (append-nil (output_of s))) e.line_is e.rest

output_printed : (W : Type 0) (a : Answer) (ok : Bool) (t u : List Event) (r : Status) (s m n : Outside) → Writes outs.Output a.output t ok → after_output a ok u r → Fits t s m → Fits u m n → Causes W u → Printed W a.status a.output a.errors r s n
output_printed W a true t u r s m n w h f g c =
    let e = tell_alone W a.errors a.status r u m n h g c in
    all_printed h.goes.1 (e.output ∙ writes_append outs.Output a.output t s m w f)
    (tells_later W a.errors s m n (writes_spare outs.Output (written_of outs.Errors) (λ bytes v. refl) a.output t true s m w f) e.line_is)
    (e.rest ∙ writes_spare outs.Output beside (λ bytes v. refl) a.output t true s m w f)
output_printed W a false t u r s m n w h f g c =
    let e = tell_alone W write_fault_line WriteFault r u m n h g c in
    let p = writes_some outs.Output a.output t s m w f in
    part_printed h.goes.1 (p.0, p.1, p.2, e.output ∙ p.3)
    (tells_later W write_fault_line s m n (writes_spare outs.Output (written_of outs.Errors) (λ bytes v. refl) a.output t false s m w f) e.line_is)
    (e.rest ∙ writes_spare outs.Output beside (λ bytes v. refl) a.output t false s m w f)

pub print_comes : (W : Type 0) (a : Answer) (t : List Event) (r : Status) (s n : Outside) → Prints a t r → Fits t s n → Causes W t → Printed W a.status a.output a.errors r s n
print_comes W a t r s n h f c =
    let parts = fits_both h.first h.rest s n (subst (λ (l : List Event). Fits l s n) h.splits f) in
    output_printed W a h.between h.first h.rest r s parts.0 n h.does h.goes parts.1 parts.2 (cause_last W t h.first h.rest h.splits c)
