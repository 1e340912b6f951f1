-- A client that goes on: what it asks has a spelling, and so has what it saves.
use Rattle.std.specs.Prelude.{pos}
use Rattle.std.proofs.Common.{◌≡◌, ℕ, suc, ◌+◌, ◌*◌, ◌<◌, ◌≤◌, ◌^◌, List, [], ◌∷◌, length, cond, Bool, true, false, refl, sym, arith}
use Rattle.std.specs.Int.{w32}
use Rattle.std.specs.List.{All}
use Rattle.std.proofs.lemmas.Int.{to_z_pos}
use Rattle.std.proofs.lemmas.List.Elements.{All-nil, All-cons, All-head, All-tail}
use Rattle.box_events.specs.Events.{EventView}
use Rattle.box_events.specs.declared.replies.Frame.{Frame}
use Rattle.box_events.specs.declared.replies.Frame.TheVariants.{Push, Reply}
use Rattle.box_events.specs.declared.replies.Reply.{Reply as SomeReply}
use Rattle.pts_machine.specs.States.{LaneState}
use Rattle.channel_box.specs.States.{ChannelState}
use Rattle.channel_box.specs.Steps as boxes
use Rattle.box_client.specs.Asking.{channels_ticked, difference_of, group_asks, group_is_due, ticks, wakes}
use Rattle.box_client.specs.Replies.{Outcome, becomes, ignored, refuses, replied}
use Rattle.box_client.specs.Saving.{saved_of}
use Rattle.box_client.specs.States.{ClientState}
use Rattle.box_client.proofs.GivenOnce.{next_past, pushed_next}
use Rattle.box_world.specs.Worlds.{after_reply}
use Rattle.wire_forms.specs.IsOf.{IsInt}
use Rattle.wire_profile.specs.Indexes.{ProfileView}
use Rattle.wire_profile.specs.Profiles.{IsProfile}
use Rattle.wire_values.specs.Carried.{FitsCall, FitsSaved}
use Rattle.wire_values.specs.CarriedFrames.{FitsFrame, IsFrame}
use Rattle.wire_values.specs.Frames.{frame_in, frame_tree}
use Rattle.box_wire.specs.Kinds.{frames}
use Rattle.box_wire.proofs.FrameLaws.{frame_laws}
use Rattle.box_world.proofs.MessagesFit.{frame_in_fits}
use Rattle.box_world.proofs.SpelledMessages.{meant_fit}
use Rattle.box_world.specs.Dated.{IsDatedClient, IsDatedFrame}
use Rattle.box_world.specs.Fitting.{IsHearable}
use Rattle.box_world.specs.Spelled.{FitsChannel, FitsClient, IsNarrow, IsNarrowLane}
use Rattle.box_world.proofs.DatedClients.{clients_stay_dated}
use Rattle.box_world.proofs.FittingClients.{clients_keep}
use Rattle.box_world.proofs.FittingSaved.{clients_are_saved}
use Rattle.box_world.proofs.ReadDates.{frames_dated}
use Rattle.box_world.proofs.ReadFrames.{frames_taken}
use Rattle.update_sessions.specs.Hearing.{hears}
use Rattle.update_sessions.specs.Packed.{MeansFrame}
use Rattle.update_sessions.proofs.ClientSteps.{hears_next}
use Rattle.session_commands.proofs.LowClients.{LowChannel, LowClient, LowLane, few_events, push_low, reply_low, settings_of, tick_low, wake_low}

-- ---- frames

-- a frame that bytes mean: its parts have a spelling, its numbers are in range
pub record IsHeard (f : Frame) : Type 0 where
  pub is : IsFrame f
  pub fits : FitsFrame f
  pub range : IsHearable f
  pub dated : IsDatedFrame f

pub heard_of : (p : ProfileView) → IsProfile p → (f : Frame) (b : List ℕ) → MeansFrame p f b → IsHeard f
heard_of p good f b (is, means) = record {
  is = is;
  fits = meant_fit frames frame_tree frame_in IsFrame frame_laws FitsFrame frame_in_fits p good f b is means;
  range = frames_taken p good f b is means;
  dated = frames_dated p good f b is means;
}

-- how many settings a frame's answer brings
abbrev pub brought_by : Frame → ℕ
brought_by (Push p) = 0
brought_by (Reply n r) = settings_of r

-- ---- clients

-- after so many ticks, and so many settings in answers
pub record IsGoing (k d : ℕ) (c : ClientState) : Type 0 where
  pub fits : FitsClient c
  pub dated : IsDatedClient c
  pub low : LowClient d c
  pub next : c.next ≤ 2000000000 + 65 * k

reply_goes : (k d : ℕ) (c : ClientState) (n : ℕ) (r : SomeReply) (o : Outcome) → replied c n r ≡ o → (after_reply c o).next ≡ c.next → IsGoing k d c → IsHeard (Reply n r) → (LowClient d c → LowClient (d + settings_of r) c) → IsGoing k (d + settings_of r) (after_reply c o)
reply_goes k d c n r ignored is next h f more = record { fits = h.fits; dated = h.dated; low = more h.low; next = h.next }
reply_goes k d c n r (refuses cause) is next h f more = record { fits = h.fits; dated = h.dated; low = more h.low; next = h.next }
reply_goes k d c n r (becomes e) is next h f more =
    let before = h.next in
    record {
      fits = clients_keep.reply c n r e h.fits f.fits.1 is;
      dated = clients_stay_dated.reply c n r e h.dated f.dated is;
      low = reply_low d c n r e is h.low f.fits.1 f.range;
      next = omega (arith, before, next);
    }

grows : (d n : ℕ) (c : ClientState) → LowClient d c → LowClient (d + n) c
grows d n c h =
    let low = h.settings.low in
    let few = h.settings.few in
    record { common = h.common; secret = h.secret; settings = record { sound = h.settings.sound; at = h.settings.at; low = omega (arith, low); few = omega (arith, few) }; lanes = h.lanes; few = h.few }

-- a frame is heard
pub going_hears : (k d : ℕ) (c : ClientState) (f : Frame) → IsGoing k d c → IsHeard f → IsGoing k (d + brought_by f) (hears c f)
going_hears k d c (Push q) h f =
    let before = h.next in
    let same = pushed_next c q in
    record { fits = clients_keep.push c q h.fits f.fits; dated = clients_stay_dated.push c q h.dated f.dated; low = grows d 0 (hears c (Push q)) (push_low d c q f.is f.range h.low); next = omega (arith, before, same) }
going_hears k d c (Reply n r) h f = reply_goes k d c n r (replied c n r) refl (hears_next c (Reply n r)) h f (λ low. grows d (settings_of r) c low)

pub going_wakes : (k d : ℕ) (c : ClientState) → IsGoing k d c → IsGoing k d (wakes c)
going_wakes k d c h = record { fits = clients_keep.wake c h.fits; dated = clients_stay_dated.wake c h.dated; low = wake_low d c h.low; next = h.next }

pub going_ticks : (k d : ℕ) (c : ClientState) → IsGoing k d c → IsGoing (suc k) d (ticks c).client
going_ticks k d c h =
    let t = tick_low d c h.low in
    let few = t.few in
    let past = next_past c in
    let before = h.next in
    record { fits = clients_keep.tick c h.fits; dated = clients_stay_dated.tick c h.dated; low = t.low; next = omega (arith, few, past, before) }

-- ---- what is asked

position_is : (t : LaneState EventView) → LowLane t → IsInt (pos t.at)
position_is t h = let limit = h.sound.limit in (t.at, omega (arith, limit), sym (to_z_pos w32 t.at (omega (arith, limit))))

channels_by : (b : Bool) (n : ℕ) (c : ChannelState) (t u : boxes.Ticked) → FitsCall (boxes.ask_of c n) → All FitsCall t.asks → All FitsCall u.asks → All FitsCall (cond b (boxes.and_asks n c t) (boxes.and_waits c u)).asks
channels_by true n c t u one x y = All-cons FitsCall (boxes.ask_of c n) t.asks one x
channels_by false n c t u one x y = y

channels_fit : (n : ℕ) (cs : List ChannelState) → n + length cs < 2 ^ 32 → All FitsChannel cs → All LowChannel cs → All FitsCall (boxes.ticked n cs).asks
channels_fit n [] few fits low = All-nil FitsCall
channels_fit n (c ∷ cs) few fits low =
    let one = All-head FitsChannel c cs fits in
    let lane = All-head LowChannel c cs low in
    let more = All-tail FitsChannel c cs fits in
    let lanes = All-tail LowChannel c cs low in
    channels_by (boxes.channel_is_due c) n c (boxes.ticked (n + 1) cs) (boxes.ticked n cs) (omega (arith, few), (one.id, position_is c.lane lane))
    (channels_fit (n + 1) cs (omega (arith, few)) more lanes) (channels_fit n cs (omega (arith, few)) more lanes)

group_fits : (b : Bool) (k d : ℕ) (c : ClientState) → k ≤ 1100000 → IsGoing k d c → All FitsCall (channels_ticked (cond b (record { client = group_asks c; asks = difference_of c ∷ [] }) (record { client = c; asks = [] }))).asks
group_fits true k d c few h =
    let next = h.next in
    let most = h.low.few in
    let date = h.dated.date in
    All-cons FitsCall (difference_of c) (boxes.ticked (c.next + 1) c.channels).asks (omega (arith, few, next), (position_is c.common h.low.common, position_is c.secret h.low.secret, omega (arith, date)))
    (channels_fit (c.next + 1) c.channels (omega (arith, few, next, most)) h.fits.channels h.low.lanes)
group_fits false k d c few h =
    let next = h.next in
    let most = h.low.few in
    channels_fit c.next c.channels (omega (arith, few, next, most)) h.fits.channels h.low.lanes

-- what is asked in a tick
pub asks_fit : (k d : ℕ) (c : ClientState) → k ≤ 1100000 → IsGoing k d c → All FitsCall (ticks c).asks
asks_fit k d c few h = group_fits (group_is_due c) k d c few h

-- ---- what is saved

lane_narrow : (t : LaneState EventView) → LowLane t → IsNarrowLane t
lane_narrow t h =
    let few = few_events t h in
    let limit = h.sound.limit in
    record { restart = omega (arith, few, limit); at = omega (arith, limit); events = omega (arith, few, limit) }

lanes_narrow : (cs : List ChannelState) → All LowChannel cs → All (λ c. IsNarrowLane c.lane) cs
lanes_narrow [] low = All-nil (λ (c : ChannelState). IsNarrowLane c.lane)
lanes_narrow (c ∷ cs) low = All-cons (λ (x : ChannelState). IsNarrowLane x.lane) c cs (lane_narrow c.lane (All-head LowChannel c cs low)) (lanes_narrow cs (All-tail LowChannel c cs low))

narrow : (k d : ℕ) (c : ClientState) → k ≤ 1100000 → d < 2000000000 → IsGoing k d c → IsNarrow c
narrow k d c few small h =
    let next = h.next in
    let date = h.dated.date in
    let keys = h.low.settings.few in
    let most = h.low.few in
    record {
      next = omega (arith, few, next);
      common = lane_narrow c.common h.low.common;
      secret = lane_narrow c.secret h.low.secret;
      date = omega (arith, date);
      seq = h.low.settings.at;
      settings = omega (arith, keys, small);
      lanes = lanes_narrow c.channels h.low.lanes;
      channels = omega (arith, most);
    }

pub saved_fit : (k d : ℕ) (c : ClientState) → k ≤ 1100000 → d < 2000000000 → IsGoing k d c → FitsSaved (saved_of c)
saved_fit k d c few small h = clients_are_saved c h.fits (narrow k d c few small h)
