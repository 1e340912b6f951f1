-- Events that write nothing to Output and to Errors.
use Rattle.std.proofs.Common.{◌≡◌, ℕ, List, ◌++◌, true, false, refl, ap, ◌∙◌, subst}
use Rattle.tl_base.specs.Outside.{View, written_of, with_written}
use Rattle.tl_base.specs.declared.host.Out.{Out}
use Rattle.tl_base.specs.declared.host.Out.TheVariants as outs
use Rattle.outside.specs.Events.{Event, Outside, opened, took, ended, read_failed, created, put, write_failed, listened, connected, accepted, told}
use Rattle.outside.specs.Laws.{Throughout}
use Rattle.outside.proofs.Causing.{throughout_first}
use Rattle.outside.specs.Fits.{Happens, Fits}
use Rattle.session_rooms.proofs.LeftViews.{all_leave}
use Rattle.serve_rooms.specs.Acts.{Act, events_in}
use Rattle.serve_rooms.proofs.Acting.{events_more}
use Rattle.run_laws.proofs.serving.Lines.{errors_of, output_of}

abbrev IsQuietTo : Out → Type 0
IsQuietTo outs.Output = ⊥
IsQuietTo outs.Errors = ⊥
IsQuietTo outs.State = Unit {0}
IsQuietTo outs.Link = Unit {0}

abbrev pub IsQuiet : Event → Type 0
IsQuiet (opened slot name ok) = Unit {0}
IsQuiet (took slot bytes) = Unit {0}
IsQuiet (ended slot) = Unit {0}
IsQuiet (read_failed slot) = Unit {0}
IsQuiet (created out name ok) = ⊥
IsQuiet (put out bytes) = IsQuietTo out
IsQuiet (write_failed out) = Unit {0}
IsQuiet (listened address ok) = Unit {0}
IsQuiet (connected address ok) = Unit {0}
IsQuiet (accepted ok) = Unit {0}
IsQuiet (told moment) = Unit {0}

abbrev Written : View → List ℕ × List ℕ
Written v = (v.written.output, v.written.errors)

put_quiet : (out : Out) (bytes : List ℕ) (v : View) → IsQuietTo out → Written (with_written out bytes v) ≡ Written v
put_quiet outs.Output bytes v k = absurd k
put_quiet outs.Errors bytes v k = absurd k
put_quiet outs.State bytes v k = refl
put_quiet outs.Link bytes v k = refl

event_quiet : (e : Event) (s n : Outside) → Happens e s n → IsQuiet e → Written n.view ≡ Written s.view
event_quiet (opened slot name true) s n h k = ap Written h.0.2
event_quiet (opened slot name false) s n h k = ap Written h.0
event_quiet (took slot bytes) s n h k = ap Written h.1
event_quiet (ended slot) s n h k = ap Written h.1
event_quiet (read_failed slot) s n h k = ap Written h.0
event_quiet (created out name ok) s n h k = absurd k
event_quiet (put out bytes) s n h k = ap Written h.0 ∙ put_quiet out (written_of out s.view ++ bytes) s.view k
event_quiet (write_failed out) s n h k = ap Written h.0
event_quiet (listened address true) s n h k = ap Written h.0
event_quiet (listened address false) s n h k = ap Written h.0
event_quiet (connected address true) s n h k = ap Written h.0.1
event_quiet (connected address false) s n h k = ap Written h.0
event_quiet (accepted true) s n h k = ap Written h.0.1
event_quiet (accepted false) s n h k = ap Written h.0
event_quiet (told moment) s n h k = ap Written h.0.1

-- Output and Errors are as before
pub record Silent (a b : Outside) : Type 0 where
  pub output : output_of b ≡ output_of a
  pub errors : errors_of b ≡ errors_of a

pub silent : (t : List Event) (a b : Outside) → Throughout IsQuiet t → Fits t a b → Silent a b
silent t a b k f =
    let same = all_leave Written IsQuiet event_quiet t a b k f in
    record { output = ap (λ (x : List ℕ × List ℕ). x.0) same; errors = ap (λ (x : List ℕ × List ℕ). x.1) same }

pub silent_none : (a b : Outside) → b ≡ a → Silent a b
silent_none a b is = record { output = ap output_of is; errors = ap errors_of is }

pub silent_then : (a m b : Outside) → Silent a m → Silent m b → Silent a b
silent_then a m b h g = record { output = g.output ∙ h.output; errors = g.errors ∙ h.errors }

-- the beginning of quiet acts
pub begun_quiet : (t u : List Act) (a b : Outside) → Throughout IsQuiet (events_in (t ++ u)) → Fits (events_in t) a b → Silent a b
begun_quiet t u a b k f = silent (events_in t) a b (throughout_first IsQuiet (events_in t) (events_in u) (subst (Throughout IsQuiet) (events_more t u) k)) f
