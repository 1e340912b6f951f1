-- How a run of `client` ends, and what it leaves.
use Rattle.std.proofs.Common.{◌≡◌, ℕ, ℤ, List, [], ◌++◌, true, false, refl, ap, ◌∙◌, subst, inl}
use Rattle.tl_base.specs.Calls.{with_name}
use Rattle.tl_base.specs.Contents.{Files}
use Rattle.tl_base.specs.Outside.{View, left_of, with_left, with_written, written_of}
use Rattle.tl_base.specs.declared.host.Out.{Out}
use Rattle.tl_base.specs.declared.host.Out.TheVariants as outs
use Rattle.tl_base.specs.declared.host.Slot.{Slot}
use Rattle.tl_base.specs.declared.host.Slot.TheVariants as slots
use Rattle.outside.specs.Answer.{Answer, memory_line}
use Rattle.outside.specs.declared.status.Status.{Status}
use Rattle.outside.specs.Begun.{to_link}
use Rattle.outside.specs.Events.{Event, Outside, opened, took, ended, read_failed, created, put, write_failed, listened, connected, accepted, told}
use Rattle.outside.specs.Runs.{RunsIn}
use Rattle.outside.specs.Runs as runs
use Rattle.outside.proofs.Causing.{keeps_tell}
use Rattle.outside.specs.Fits.{Fits, Happens}
use Rattle.outside.proofs.Fitting.{fits_both}
use Rattle.session_commands.specs.Client.{ClientAnswer, ClientKeeps, client_job}
use Rattle.session_commands.specs.Linked.{LeavesState, next_link}
use Rattle.session_commands.specs.declared.state.TheConstants.{MAX_STATE_BYTES}
use Rattle.session_rooms.specs.Client.{after_reading, recovers}
use Rattle.session_rooms.specs.ClientLaws.{IsOfClient, IsOpenedByClient, IsReadByClient}
use Rattle.session_rooms.proofs.ClientLaws.{client_has_cause, client_touches}
use Rattle.session_rooms.proofs.LeftViews.{SparesRest, all_leave}
use Rattle.run_laws.specs.Ended.{Anything, ErrorsFailed, RunEnds, RunKeeps}
use Rattle.run_laws.proofs.links.ClientComing.{client_comes}
use Rattle.run_laws.proofs.links.Ending.{ends_so, links_only, memory_ends}
use Rattle.run_laws.proofs.links.PostRuns.{links_kept}
use Rattle.run_laws.proofs.links.Reaching.{run_reach}
use Rattle.run_laws.proofs.links.ToldLines.{tell_alone}

-- ---- what each event leaves

abbrev kept_of : View → Files × List ℕ × ℕ × List ℕ
kept_of v = (v.files, v.moments, v.room, v.left.input)

written_keeps : (out : Out) (bytes : List ℕ) (v : View) → kept_of (with_written out bytes v) ≡ kept_of v
written_keeps outs.Output bytes v = refl
written_keeps outs.Errors bytes v = refl
written_keeps outs.State bytes v = refl
written_keeps outs.Link bytes v = refl

created_keeps : (out : Out) (name : List ℕ) (v : View) → kept_of (with_name out name (with_written out [] v)) ≡ kept_of v
created_keeps outs.Output name v = refl
created_keeps outs.Errors name v = refl
created_keeps outs.State name v = refl
created_keeps outs.Link name v = refl

read_keeps : (slot : Slot) (bytes : List ℕ) (v : View) → IsReadByClient slot → kept_of (with_left slot bytes v) ≡ kept_of v
read_keeps slots.Schema bytes v is = refl
read_keeps slots.Input bytes v is = absurd is
read_keeps slots.State bytes v is = refl
read_keeps slots.Link bytes v is = refl

module _ (schema address name : List ℕ) where
  opened_read : (slot : Slot) (file : List ℕ) → IsOpenedByClient schema name slot file → IsReadByClient slot
  opened_read slots.Schema file is = tt
  opened_read slots.Input file is = is
  opened_read slots.State file is = tt
  opened_read slots.Link file is = tt

  event_keeps : (e : Event) (s n : Outside) → Happens e s n → IsOfClient schema address name e → kept_of n.view ≡ kept_of s.view
  event_keeps (opened slot file true) s n h is = ap kept_of h.0.2 ∙ read_keeps slot h.0.0 s.view (opened_read slot file is)
  event_keeps (opened slot file false) s n h is = ap kept_of h.0
  event_keeps (took slot bytes) s n h is = ap kept_of h.1 ∙ read_keeps slot (left_of slot n.view) s.view is
  event_keeps (ended slot) s n h is = ap kept_of h.1
  event_keeps (read_failed slot) s n h is = ap kept_of h.0
  event_keeps (created out file true) s n h is = ap kept_of h.0 ∙ created_keeps out file s.view
  event_keeps (created out file false) s n h is = ap kept_of h.0
  event_keeps (put out bytes) s n h is = ap kept_of h.0 ∙ written_keeps out (written_of out s.view ++ bytes) s.view
  event_keeps (write_failed out) s n h is = ap kept_of h.0
  event_keeps (listened to ok) s n h is = absurd is
  event_keeps (connected to true) s n h is = ap kept_of h.0.1
  event_keeps (connected to false) s n h is = ap kept_of h.0
  event_keeps (accepted ok) s n h is = absurd is
  event_keeps (told moment) s n h is = absurd is

module _ (schema address name : List ℕ) (channels : List ℤ) where
  -- ---- how it ends

  abbrev Answers : View → Answer → Type 0
  Answers v a = ClientAnswer v.files (next_link v) schema address name channels a

  abbrev Kept : View → View → Type 0
  Kept = ClientKeeps schema address name channels

  pub ends : RunEnds Anything (client_job schema address name channels) to_link (recovers schema address name channels)
  ends t r s n shown (runs.out_of_memory h) f = memory_ends (client_job schema address name channels) (recovers schema address name channels) t r s n h f
  ends t r s n shown (runs.done h) f = ends_so Answers Kept t r s n (client_has_cause schema address name channels t r (runs.done h)) (client_comes (ErrorsFailed t) schema address name channels t r s n h f (λ x. x)).0

  -- ---- what it leaves

  state_kept : (t : List Event) (r : Status) (s n : Outside) → RunsIn to_link (recovers schema address name channels) t r → Fits t s n → LeavesState (Answers s.view) s.view n.view
  state_kept t r s n (runs.done h) f = (client_comes (ErrorsFailed t) schema address name channels t r s n h f (λ x. x)).1
  state_kept t r s n (runs.out_of_memory h) f =
      let parts = fits_both h.first h.rest s n (subst (λ (l : List Event). Fits l s n) h.splits f) in
      let kept = links_only h.first s parts.0 h.does.0.only parts.1 in
      let e = tell_alone (ErrorsFailed h.rest) memory_line h.between r h.rest parts.0 n h.goes parts.2 (λ x. x) in
      inl (ap (λ (v : View). v.written.state) e.rest ∙ ap (λ k. k.2) kept, ap (λ (v : View). v.state_name) e.rest ∙ ap (λ k. k.3) kept)

  pub keeps : RunKeeps (client_job schema address name channels) to_link (recovers schema address name channels)
  keeps t r s n run f =
      let same = all_leave kept_of (IsOfClient schema address name) (event_keeps schema address name) t s n (client_touches schema address name channels t r run) f in
      let reach = run_reach schema name slots.State MAX_STATE_BYTES (λ p. after_reading p address name channels) (λ p. keeps_tell SparesRest (λ _. tt) tt _ _) t r s n run f in
      record {
        rest = record { files = ap (λ k. k.0) same; moments = ap (λ k. k.1) same; room = ap (λ k. k.2) same };
        input = ap (λ k. k.3) same;
        state = state_kept t r s n run f;
        links = links_kept schema address name s.view n.view reach;
      }
