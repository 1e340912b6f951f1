-- What a run of `serve` keeps.
use Rattle.std.proofs.Common.{◌≡◌, ◌⊎◌, inl, inr, ℕ, List, [], ◌++◌, append-nil, true, false, Option, refl, sym, ap, ◌∙◌, subst}
use Rattle.tl_base.specs.Outside.{View, with_left, with_written, written_of}
use Rattle.tl_base.specs.declared.host.Out.{Out}
use Rattle.tl_base.specs.declared.host.Out.TheVariants as outs
use Rattle.tl_base.specs.declared.host.Slot.{Slot}
use Rattle.tl_base.specs.declared.host.Slot.TheVariants as slots
use Rattle.box_server.specs.Servers.{new_server}
use Rattle.outside.specs.Answer.{memory_line}
use Rattle.outside.specs.declared.status.Status.{Status}
use Rattle.fault_lines.specs.Profiled.{HasProfile}
use Rattle.outside.specs.Events.{Event, Outside, opened, took, ended, read_failed, created, put, write_failed, listened, connected, accepted, told}
use Rattle.outside.specs.Laws.{Throughout}
use Rattle.outside.specs.Pieces as pieces
use Rattle.outside.specs.Runs as runs
use Rattle.outside.specs.Fits.{Fits, Happens}
use Rattle.outside.proofs.Fitting.{fits_both, fits_keeps}
use Rattle.session_commands.specs.Serve.{KeepsServing, ServeKeeps, serve_job}
use Rattle.session_rooms.proofs.LeftViews.{all_leave, beside}
use Rattle.serve_rooms.specs.Acts.{Act, events_in}
use Rattle.serve_rooms.specs.Doing.{to_serve}
use Rattle.serve_rooms.specs.Serve.{OfProfile, OfProfiled, serves}
use Rattle.serve_rooms.specs.ServeLaws.{IsOfServe, IsOpenedByServe, IsReadByServe, IsWrittenByServe}
use Rattle.serve_rooms.specs.Sessions.{ServesAll}
use Rattle.serve_rooms.specs.declared.status.KeptStatus.{KeptStatus}
use Rattle.serve_rooms.specs.declared.status.KeptStatus.TheVariants.{Run}
use Rattle.serve_rooms.proofs.ServeLaws.{serve_touches}
use Rattle.run_laws.specs.Ended.{RunKeeps}
use Rattle.run_laws.proofs.serving.Beginnings.{split}
use Rattle.run_laws.proofs.serving.Lines.{lined}
use Rattle.run_laws.proofs.serving.Loads.{Came, silent, unread, refusal, profile, came}

-- State, its name and what is left of Input
abbrev Spared : View → List ℕ × Option (List ℕ) × List ℕ
Spared v = (v.written.state, v.state_name, v.left.input)

module _ (schema address : List ℕ) where
  opened_spares : (slot : Slot) (name bytes : List ℕ) (v : View) → IsOpenedByServe schema slot name → Spared (with_left slot bytes v) ≡ Spared v
  opened_spares slots.Schema name bytes v k = refl
  opened_spares slots.Input name bytes v k = absurd k
  opened_spares slots.State name bytes v k = absurd k
  opened_spares slots.Link name bytes v k = absurd k

  read_spares : (slot : Slot) (bytes : List ℕ) (v : View) → IsReadByServe slot → Spared (with_left slot bytes v) ≡ Spared v
  read_spares slots.Schema bytes v k = refl
  read_spares slots.Input bytes v k = absurd k
  read_spares slots.State bytes v k = absurd k
  read_spares slots.Link bytes v k = refl

  put_spares : (out : Out) (bytes : List ℕ) (v : View) → IsWrittenByServe out → Spared (with_written out bytes v) ≡ Spared v
  put_spares outs.Output bytes v k = refl
  put_spares outs.Errors bytes v k = refl
  put_spares outs.State bytes v k = absurd k
  put_spares outs.Link bytes v k = refl

  spares : (e : Event) (s n : Outside) → Happens e s n → IsOfServe schema address e → Spared n.view ≡ Spared s.view
  spares (opened slot name true) s n h k = ap Spared h.0.2 ∙ opened_spares slot name h.0.0 s.view k
  spares (opened slot name false) s n h k = ap Spared h.0
  spares (took slot bytes) s n h k = ap Spared h.1 ∙ read_spares slot _ s.view k
  spares (ended slot) s n h k = ap Spared h.1
  spares (read_failed slot) s n h k = ap Spared h.0
  spares (created out name ok) s n h k = absurd k
  spares (put out bytes) s n h k = ap Spared h.0 ∙ put_spares out (written_of out s.view ++ bytes) s.view k
  spares (write_failed out) s n h k = ap Spared h.0
  spares (listened at true) s n h k = ap Spared h.0
  spares (listened at false) s n h k = ap Spared h.0
  spares (connected to ok) s n h k = absurd k
  spares (accepted true) s n h k = ap Spared h.0.1
  spares (accepted false) s n h k = ap Spared h.0
  spares (told moment) s n h k = ap Spared h.0.1

  pub serving_kept : (t : List Event) (s n : Outside) → Throughout (IsOfServe schema address) t → Fits t s n → KeepsServing s.view n.view
  serving_kept t s n k f =
      let same = all_leave Spared (IsOfServe schema address) spares t s n k f in
      let kept = fits_keeps t s n f in
      record {
        files = kept.files;
        room = kept.room;
        state = (ap (λ (x : List ℕ × Option (List ℕ) × List ℕ). x.0) same, ap (λ (x : List ℕ × Option (List ℕ) × List ℕ). x.1) same);
        input = ap (λ (x : List ℕ × Option (List ℕ) × List ℕ). x.2) same;
      }

  -- all but slots, Output and Errors is as before, unless there is a profile
  pub came_leaves : (Rest : OfProfile) (t u : List Act) (r : KeptStatus) (a b : Outside) → Came Rest schema t u r a b → (beside b.view ≡ beside a.view) ⊎ HasProfile a.view.files schema
  came_leaves Rest t u r a b (silent some same) = inl same.rest
  came_leaves Rest t u r a b (unread failed missing is none line) = inl line.rest
  came_leaves Rest t u r a b (refusal text answers is none line) = inl line.rest
  came_leaves Rest t u r a b (profile h events rest m is same f g works) = inr h

  pub serve_kept : (v w : View) → KeepsServing v w → (beside w ≡ beside v) ⊎ HasProfile v.files schema → ServeKeeps schema v w
  serve_kept v w kept (inl same) =
      record { rest = kept; links = inl (ap (λ (x : View). x.links) same, ap (λ (x : View). x.written.links) same, ap (λ (x : View). x.address) same); moments = inl (ap (λ (x : View). x.moments) same) }
  serve_kept v w kept (inr h) = record { rest = kept; links = inr h; moments = inr h }

  module _ (n : ℕ) where
    left_so : (t : List Event) (status : Status) (s b : Outside) → runs.RunsIn to_serve (serves schema address n) t status → Fits t s b → (beside b.view ≡ beside s.view) ⊎ HasProfile s.view.files schema
    left_so t status s b (runs.done h) f =
        let fits : Fits (events_in h.acts) s b = subst (λ (l : List Event). Fits l s b) h.events f in
        came_leaves (ServesAll address n new_server) h.acts [] (Run status) s b
        (came (ServesAll address n new_server) schema h.acts [] (Run status) s b (subst (λ (l : List Act). OfProfiled (ServesAll address n new_server) schema l (Run status)) (sym (append-nil h.acts)) h.works) fits)
    left_so t status s b (runs.out_of_memory h) f =
        let begins = h.does.0 in
        let spares_it = begins.whole in
        let parts = split spares_it.acts h.first begins.rest (sym spares_it.events) in
        let fits = fits_both h.first h.rest s b (subst (λ (l : List Event). Fits l s b) h.splits f) in
        let m = fits.0 in
        let first : Fits (events_in parts.first) s m = subst (λ (l : List Event). Fits l s m) (sym parts.events) fits.1 in
        let works = subst (λ (l : List Act). OfProfiled (ServesAll address n new_server) schema l (Run begins.answer)) parts.all spares_it.works in
        let left = came_leaves (ServesAll address n new_server) parts.first parts.rest (Run begins.answer) s m (came (ServesAll address n new_server) schema parts.first parts.rest (Run begins.answer) s m works first) in
        let line = lined memory_line h.between h.rest [] status m b (subst (λ (l : List Event). pieces.Tells memory_line h.between l status) (sym (append-nil h.rest)) h.goes) fits.2 in
        elim left as (λ z. (beside b.view ≡ beside s.view) ⊎ HasProfile s.view.files schema) [
          | inl same ↦ inl (line.on.rest ∙ same)
          | inr has ↦ inr has
        ]

    pub serve_keeps : RunKeeps (serve_job schema address n) to_serve (serves schema address n)
    serve_keeps t status s b run f = serve_kept s.view b.view (serving_kept t s b (serve_touches schema address n t status run) f) (left_so t status s b run f)
