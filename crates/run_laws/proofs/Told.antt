-- A line that is told, over an outside that shows what it holds.
use Rattle.std.proofs.Common.{◌≡◌, ℕ, List, [], ◌∷◌, ◌++◌, append-nil, sym, ap, ◌∙◌, subst}
use Rattle.tl_base.specs.Outside.{View}
use Rattle.tl_base.specs.declared.host.Out.{Out}
use Rattle.tl_base.specs.declared.host.Out.TheVariants.{Errors}
use Rattle.outside.specs.Answer.{printed}
use Rattle.outside.specs.declared.status.Status.{Status}
use Rattle.outside.specs.Kept.{Leaves, OnlyErrors}
use Rattle.outside.specs.Telling.{Tells}
use Rattle.outside.specs.Events.{Event, Outside, opened, took, ended, read_failed, created, put, write_failed, listened, connected, accepted, told}
use Rattle.outside.specs.Laws.{Throughout}
use Rattle.outside.specs.Pieces as pieces
use Rattle.outside.specs.Pieces.{Writes}
use Rattle.outside.specs.Fits.{Fits, Happens}
use Rattle.run_laws.specs.Ended.{ErrorsFailed}
use Rattle.run_laws.specs.Touched.{IsTelling}
use Rattle.run_laws.proofs.serving.Lines.{errors_told}

-- ---- nothing else changes

errors_over : (v u w : View) → OnlyErrors v u → OnlyErrors u w → OnlyErrors v w
errors_over v u w is at =
    at ∙ ap (λ (x : View). record x { written = record x.written { errors = w.written.errors } }) is

put_errors : (out : Out) (bytes : List ℕ) (s n : Outside) → Happens (put out bytes) s n → out ≡ Errors → OnlyErrors s.view n.view
put_errors Errors bytes s n h is = h.0 ∙ ap (λ (l : List ℕ). record s.view { written = record s.view.written { errors = l } }) (sym (ap (λ (x : View). x.written.errors) h.0))
put_errors out bytes s n h is = absurd cc

same_errors : (s n : Outside) → n.view ≡ s.view → OnlyErrors s.view n.view
same_errors s n is = is ∙ ap (λ (l : List ℕ). record s.view { written = record s.view.written { errors = l } }) (sym (ap (λ (x : View). x.written.errors) is))

event_errors : (e : Event) (s n : Outside) → Happens e s n → IsTelling e → OnlyErrors s.view n.view
event_errors (opened slot name ok) s n h is = absurd is
event_errors (took slot bytes) s n h is = absurd is
event_errors (ended slot) s n h is = absurd is
event_errors (read_failed slot) s n h is = absurd is
event_errors (created out name ok) s n h is = absurd is
event_errors (put out bytes) s n h is = put_errors out bytes s n h is
event_errors (write_failed out) s n h is = same_errors s n h.0
event_errors (listened address ok) s n h is = absurd is
event_errors (connected address ok) s n h is = absurd is
event_errors (accepted ok) s n h is = absurd is
event_errors (told moment) s n h is = absurd is

pub only_errors : (t : List Event) (s n : Outside) → Throughout IsTelling t → Fits t s n → OnlyErrors s.view n.view
only_errors [] s n all f = same_errors s n (ap (λ (o : Outside). o.view) f)
only_errors (e ∷ t) s n all f = errors_over s.view f.0.view n.view (event_errors e s f.0 f.1 all.0) (only_errors t f.0 n all.1 f.2)

-- ---- the line

pub tells_line : {A : Type 0} (line : List ℕ) (status given : A) (t : List Event) (s n : Outside) → pieces.Tells line status t given → Fits t s n → Tells (ErrorsFailed t) line s.view n.view
tells_line line status given t s n h f =
    let is : t ≡ h.first = h.splits ∙ (ap (λ (l : List Event). h.first ++ l) h.goes.0 ∙ append-nil h.first) in
    errors_told line t h.between s n (subst (λ (l : List Event). Writes Errors line l h.between) (sym is) h.does) f

-- ---- an answer that leaves all else as it was

pub output_kept : (v w : View) → OnlyErrors v w → w.written.output ≡ v.written.output
output_kept v w is = ap (λ (x : View). x.written.output) is

pub leaves_all : (status : Status) (output line : List ℕ) (v w : View) → OnlyErrors v w → Leaves (printed status output line) v w
leaves_all status output line v w is = record {
  files = ap (λ (x : View). x.files) is;
  moments = ap (λ (x : View). x.moments) is;
  coming = ap (λ (x : View). x.links) is;
  state_name = ap (λ (x : View). x.state_name) is;
  state = ap (λ (x : View). x.written.state) is;
  links = ap (λ (x : View). x.written.links) is ∙ sym (append-nil v.written.links);
  address = ap (λ (x : View). x.address) is;
}
