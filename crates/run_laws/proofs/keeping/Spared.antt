-- What a run of `keep` leaves of its outside.
use Rattle.std.proofs.Common.{◌≡◌, ◌⊎◌, inl, inr, ℕ, List, [], ◌++◌, true, false, None, refl, ap, ◌∙◌}
use Rattle.tl_base.specs.Outside.{View, left_of, with_left, with_written, written_of}
use Rattle.tl_base.specs.declared.host.Out.{Out}
use Rattle.tl_base.specs.declared.host.Out.TheVariants as outs
use Rattle.tl_base.specs.declared.host.Slot.{Slot}
use Rattle.tl_base.specs.declared.host.Slot.TheVariants as slots
use Rattle.outside.specs.Events.{Event, Outside, opened, took, ended, read_failed, created, put, write_failed, listened, connected, accepted, told}
use Rattle.outside.specs.Laws.{Throughout}
use Rattle.outside.specs.Fits.{Fits, Happens}
use Rattle.fault_lines.specs.Profiled.{HasProfile}
use Rattle.session_commands.specs.Serve.{KeepsServing, ServeKeeps}
use Rattle.session_rooms.proofs.LeftViews.{all_leave, beside}
use Rattle.serve_rooms.specs.ServeLaws.{IsOfServe, IsReadByServe, IsWrittenByServe, IsOpenedByServe}

-- files, the room, State and Input
abbrev spared : View → View
spared v = record v { left = record v.left { schema = []; state = []; link = [] }; written = record v.written { output = []; errors = []; unlinked = []; links = [] }; links = []; address = None; moments = [] }

left_spares : (slot : Slot) (bytes : List ℕ) (v : View) → IsReadByServe slot → spared (with_left slot bytes v) ≡ spared v
left_spares slots.Schema bytes v k = refl
left_spares slots.Input bytes v k = absurd k
left_spares slots.State bytes v k = absurd k
left_spares slots.Link bytes v k = refl

opened_spares : (schema : List ℕ) (slot : Slot) (name bytes : List ℕ) (v : View) → IsOpenedByServe schema slot name → spared (with_left slot bytes v) ≡ spared v
opened_spares schema slots.Schema name bytes v k = refl
opened_spares schema slots.Input name bytes v k = absurd k
opened_spares schema slots.State name bytes v k = absurd k
opened_spares schema slots.Link name bytes v k = absurd k

written_spares : (out : Out) (bytes : List ℕ) (v : View) → IsWrittenByServe out → spared (with_written out bytes v) ≡ spared v
written_spares outs.Output bytes v k = refl
written_spares outs.Errors bytes v k = refl
written_spares outs.State bytes v k = absurd k
written_spares outs.Link bytes v k = refl

module _ (schema address : List ℕ) where
  event_spares : (e : Event) (s n : Outside) → Happens e s n → IsOfServe schema address e → spared n.view ≡ spared s.view
  event_spares (opened slot name true) s n h k = ap spared h.0.2 ∙ opened_spares schema slot name h.0.0 s.view k
  event_spares (opened slot name false) s n h k = ap spared h.0
  event_spares (took slot bytes) s n h k = ap spared h.1 ∙ left_spares slot (left_of slot n.view) s.view k
  event_spares (ended slot) s n h k = ap spared h.1
  event_spares (read_failed slot) s n h k = ap spared h.0
  event_spares (created out name ok) s n h k = absurd k
  event_spares (put out bytes) s n h k = ap spared h.0 ∙ written_spares out (written_of out s.view ++ bytes) s.view k
  event_spares (write_failed out) s n h k = ap spared h.0
  event_spares (listened at true) s n h k = ap spared h.0
  event_spares (listened at false) s n h k = ap spared h.0
  event_spares (connected to ok) s n h k = absurd k
  event_spares (accepted true) s n h k = ap spared h.0.1
  event_spares (accepted false) s n h k = ap spared h.0
  event_spares (told moment) s n h k = ap spared h.0.1

  keeps_serving : (t : List Event) (s n : Outside) → Throughout (IsOfServe schema address) t → Fits t s n → KeepsServing s.view n.view
  keeps_serving t s n of f =
      let same = all_leave spared (IsOfServe schema address) event_spares t s n of f in
      record {
        files = ap (λ (v : View). v.files) same;
        room = ap (λ (v : View). v.room) same;
        state = (ap (λ (v : View). v.written.state) same, ap (λ (v : View). v.state_name) same);
        input = ap (λ (v : View). v.left.input) same;
      }

  -- links, the address and moments too, or the schema is a profile
  pub serve_keeps : (t : List Event) (s n : Outside) → Throughout (IsOfServe schema address) t → Fits t s n → (beside n.view ≡ beside s.view) ⊎ HasProfile s.view.files schema → ServeKeeps schema s.view n.view
  serve_keeps t s n of f (inl same) = record {
    rest = keeps_serving t s n of f;
    links = inl (ap (λ (v : View). v.links) same, ap (λ (v : View). v.written.links) same, ap (λ (v : View). v.address) same);
    moments = inl (ap (λ (v : View). v.moments) same);
  }
  serve_keeps t s n of f (inr h) = record { rest = keeps_serving t s n of f; links = inr h; moments = inr h }
