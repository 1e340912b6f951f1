-- Writes to Errors that failed: where no call was told to fail, Errors is full then, and a line for which it has room stands there whole.
use Rattle.std.proofs.Common.{◌≡◌, ◌≢◌, ℕ, ◌≤◌, List, [], ◌∷◌, ◌++◌, length, length-append, map, append-nil, true, false, refl, sym, ap, ◌∙◌, subst, inl, inr, arith}
use Rattle.tl_base.specs.Calls.{with_name}
use Rattle.tl_base.specs.Outside.{View, with_written, written_of}
use Rattle.tl_base.specs.declared.host.Out.{Out}
use Rattle.tl_base.specs.declared.host.Out.TheVariants as outs
use Rattle.outside.specs.Events.{Event, Outside, opened, took, ended, read_failed, created, put, write_failed, listened, connected, accepted, told}
use Rattle.outside.specs.Fits.{Fits, Happens}
use Rattle.outside.specs.Laws.{Throughout}
use Rattle.outside.specs.Pieces.{Writes}
use Rattle.outside.specs.Reliable.{IsReliable}
use Rattle.outside.proofs.Causing.{happened_last}
use Rattle.outside.proofs.Fitting.{fits_keeps, reliable_on}
use Rattle.run_laws.specs.Ended.{ErrorsFailed, IsUntold, LinesStand}

pub unwritten_errors : (line : List ℕ) (t : List Event) → Writes outs.Errors line t false → ErrorsFailed t
unwritten_errors line t (before, after, q, join, some) =
    subst ErrorsFailed (sym q.events) (happened_last IsUntold (map (put outs.Errors) q.pieces) (write_failed outs.Errors ∷ []) (inl refl))

-- ---- what stands on Errors stays there

-- Errors isn't created
abbrev pub IsUncreated : Event → Type 0
IsUncreated (opened slot name ok) = Unit {0}
IsUncreated (took slot bytes) = Unit {0}
IsUncreated (ended slot) = Unit {0}
IsUncreated (read_failed slot) = Unit {0}
IsUncreated (created out name ok) = out ≢ outs.Errors
IsUncreated (put out bytes) = Unit {0}
IsUncreated (write_failed out) = Unit {0}
IsUncreated (listened address ok) = Unit {0}
IsUncreated (connected address ok) = Unit {0}
IsUncreated (accepted ok) = Unit {0}
IsUncreated (told moment) = Unit {0}

abbrev errors_in : View → List ℕ
errors_in v = v.written.errors

-- so much was added
abbrev Adds : View → View → Type 0
Adds v w = (more : List ℕ) × (errors_in w ≡ errors_in v ++ more)

adds_none : (v w : View) → errors_in w ≡ errors_in v → Adds v w
adds_none v w is = ([], is ∙ sym (append-nil (errors_in v)))

put_adds : (out : Out) (bytes : List ℕ) (v : View) → Adds v (with_written out (written_of out v ++ bytes) v)
put_adds outs.Output bytes v = adds_none v (with_written outs.Output (written_of outs.Output v ++ bytes) v) refl
put_adds outs.Errors bytes v = (bytes, refl)
put_adds outs.State bytes v = adds_none v (with_written outs.State (written_of outs.State v ++ bytes) v) refl
put_adds outs.Link bytes v = adds_none v (with_written outs.Link (written_of outs.Link v ++ bytes) v) refl

created_adds : (out : Out) (name : List ℕ) (v : View) → out ≢ outs.Errors → errors_in (with_name out name (with_written out [] v)) ≡ errors_in v
created_adds outs.Output name v other = refl
created_adds outs.Errors name v other = absurd (other refl)
created_adds outs.State name v other = refl
created_adds outs.Link name v other = refl

event_adds : (e : Event) (s n : Outside) → Happens e s n → IsUncreated e → Adds s.view n.view
event_adds (opened slot name true) s n h k = adds_none s.view n.view (ap errors_in h.0.2)
event_adds (opened slot name false) s n h k = adds_none s.view n.view (ap errors_in h.0)
event_adds (took slot bytes) s n h k = adds_none s.view n.view (ap errors_in h.1)
event_adds (ended slot) s n h k = adds_none s.view n.view (ap errors_in h.1)
event_adds (read_failed slot) s n h k = adds_none s.view n.view (ap errors_in h.0)
event_adds (created out name true) s n h k = adds_none s.view n.view (ap errors_in h.0 ∙ created_adds out name s.view k)
event_adds (created out name false) s n h k = adds_none s.view n.view (ap errors_in h.0)
event_adds (put out bytes) s n h k = let more = put_adds out bytes s.view in (more.0, ap errors_in h.0 ∙ more.1)
event_adds (write_failed out) s n h k = adds_none s.view n.view (ap errors_in h.0)
event_adds (listened address true) s n h k = adds_none s.view n.view (ap errors_in h.0)
event_adds (listened address false) s n h k = adds_none s.view n.view (ap errors_in h.0)
event_adds (connected address true) s n h k = adds_none s.view n.view (ap errors_in h.0.1)
event_adds (connected address false) s n h k = adds_none s.view n.view (ap errors_in h.0)
event_adds (accepted true) s n h k = adds_none s.view n.view (ap errors_in h.0.1)
event_adds (accepted false) s n h k = adds_none s.view n.view (ap errors_in h.0)
event_adds (told moment) s n h k = adds_none s.view n.view (ap errors_in h.0.1)

never_shorter : (t : List Event) (s n : Outside) → Throughout IsUncreated t → Fits t s n → length (errors_in s.view) ≤ length (errors_in n.view)
never_shorter [] s n all f = omega (arith, ap (λ (o : Outside). length (errors_in o.view)) f)
never_shorter (e ∷ t) s n all f =
    let one = event_adds e s f.0 f.1 all.0 in
    let more = never_shorter t f.0 n all.1 f.2 in
    omega (arith, more, ap length one.1, length-append (errors_in s.view) one.0)

-- ---- where no call was told to fail

-- Errors is full where a write to it failed
errors_full : (t : List Event) (s n : Outside) → Throughout IsUncreated t → Fits t s n → IsReliable s → ErrorsFailed t → s.view.room ≤ length (errors_in n.view)
errors_full [] s n all f reliable failed = absurd failed
errors_full (e ∷ t) s n all f reliable (inl is) =
    let h : Happens (write_failed outs.Errors) s f.0 = subst (λ (x : Event). Happens x s f.0) is f.1 in
    let more = never_shorter t f.0 n all.1 f.2 in
    elim h.1 as (λ z. s.view.room ≤ length (errors_in n.view)) [
      | inl fails ↦ absurd (omega (arith, fails.1, reliable))
      | inr full ↦ omega (arith, full, more, ap (λ (v : View). length (errors_in v)) h.0)
    ]
errors_full (e ∷ t) s n all f reliable (inr later) =
    let kept = fits_keeps (e ∷ []) s f.0 (f.0, f.1, refl) in
    let full = errors_full t f.0 n all.1 f.2 (reliable_on s f.0 kept reliable) later in
    omega (arith, full, kept.room)

none_left : (l : List ℕ) → length l ≤ 0 → l ≡ []
none_left [] few = refl
none_left (b ∷ l) few = absurd (omega (arith, few))

pub lines_stand : (t : List Event) (s n : Outside) → Throughout IsUncreated t → Fits t s n → LinesStand t s n
lines_stand t s n all f reliable u line room (inl whole) = whole
lines_stand t s n all f reliable u line room (inr (failed, (prefix, rest, join, is))) =
    let full = errors_full t s n all f reliable failed in
    let few : length rest ≤ 0 = omega (arith, full, room, ap length is, length-append (errors_in u) prefix, ap length join, length-append prefix rest) in
    let same : prefix ≡ line = sym (append-nil prefix) ∙ ap (λ (l : List ℕ). prefix ++ l) (sym (none_left rest few)) ∙ join in
    is ∙ ap (λ (l : List ℕ). errors_in u ++ l) same
