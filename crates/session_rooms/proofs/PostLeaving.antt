-- What `post` leaves as it was.
use Rattle.std.proofs.Common.{◌≡◌, ℕ, List, [], ◌∷◌, true, false, Option, refl, ap, ◌∙◌}
use Rattle.tl_base.specs.Contents.{Files}
use Rattle.tl_base.specs.Outside.{View, with_written}
use Rattle.tl_base.specs.declared.host.Out.{Out}
use Rattle.tl_base.specs.declared.host.Out.TheVariants as outs
use Rattle.outside.specs.declared.status.Status.{Status}
use Rattle.outside.specs.Begun.{to_link}
use Rattle.outside.specs.Events.{Event, Outside, opened, took, ended, read_failed, created, put, write_failed, listened, connected, accepted, told}
use Rattle.outside.specs.Laws.{Throughout}
use Rattle.outside.specs.Fits.{Fits, Happens}
use Rattle.outside.specs.Runs.{RunsIn}
use Rattle.session_commands.specs.Linked.{KeepsFiles}
use Rattle.session_rooms.specs.Post.{posts}
use Rattle.session_rooms.specs.PostLaws.{IsOfPost, IsWrittenByPost}
use Rattle.session_rooms.proofs.PostLaws.{post_touches}

-- files, moments, the room and State
abbrev kept_of : View → Files × List ℕ × ℕ × List ℕ × Option (List ℕ)
kept_of v = (v.files, v.moments, v.room, v.written.state, v.state_name)

written_keeps : (out : Out) (bytes : List ℕ) (v : View) → IsWrittenByPost out → kept_of (with_written out bytes v) ≡ kept_of v
written_keeps outs.Output bytes v is = refl
written_keeps outs.Errors bytes v is = refl
written_keeps outs.State bytes v is = absurd is
written_keeps outs.Link bytes v is = refl

module _ (schema address input : List ℕ) where
  event_keeps : (e : Event) (s n : Outside) → Happens e s n → IsOfPost schema address input e → kept_of n.view ≡ kept_of s.view
  event_keeps (opened slot name true) s n h is = ap kept_of h.0.2
  event_keeps (opened slot name false) s n h is = ap kept_of h.0
  event_keeps (took slot bytes) s n h is = ap kept_of h.1
  event_keeps (ended slot) s n h is = ap kept_of h.1
  event_keeps (read_failed slot) s n h is = ap kept_of h.0
  event_keeps (created out name ok) s n h is = absurd is
  event_keeps (put out bytes) s n h is = ap kept_of h.0 ∙ written_keeps out _ s.view is
  event_keeps (write_failed out) s n h is = ap kept_of h.0
  event_keeps (listened to ok) s n h is = absurd is
  event_keeps (connected to true) s n h is = ap kept_of h.0.1
  event_keeps (connected to false) s n h is = ap kept_of h.0
  event_keeps (accepted ok) s n h is = absurd is
  event_keeps (told moment) s n h is = absurd is

  events_keep : (t : List Event) (s n : Outside) → Fits t s n → Throughout (IsOfPost schema address input) t → kept_of n.view ≡ kept_of s.view
  events_keep [] s n f are = ap (λ (o : Outside). kept_of o.view) f
  events_keep (e ∷ t) s n f are = events_keep t f.0 n f.2 are.1 ∙ event_keeps e s f.0 f.1 are.0

-- whatever happens, files, moments, the room and State are as before
pub post_leaves : (schema address input : List ℕ) (t : List Event) (status : Status) (s n : Outside) → RunsIn to_link (posts schema address input) t status → Fits t s n
    → KeepsFiles s.view n.view × (n.view.written.state ≡ s.view.written.state) × (n.view.state_name ≡ s.view.state_name)
post_leaves schema address input t r s n run f =
    let same = events_keep schema address input t s n f (post_touches schema address input t r run) in
    (record { files = ap (λ k. k.0) same; moments = ap (λ k. k.1) same; room = ap (λ k. k.2) same }, ap (λ k. k.3) same, ap (λ k. k.4) same)
