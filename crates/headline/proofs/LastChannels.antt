-- Each channel of a client that hears an honest server until it asks no more has heard a last answer too, and stands at or past where the server was then.
use Rattle.std.proofs.Common.{◌≡◌, ◌⊎◌, inl, inr, ℕ, zero, suc, ◌≤◌, ℤ, pos, List, [], ◌∷◌, length, Bool, true, false, cond, Option, Some, refl, sym, ap, ◌∙◌, subst, arith}
use Rattle.std.specs.Prelude.{slice_get}
use Rattle.box_events.specs.declared.replies.ChannelReply.{ChannelReply}
use Rattle.box_events.specs.declared.replies.Reply.{Reply}
use Rattle.box_events.specs.declared.replies.Reply.TheVariants as reply_of
use Rattle.box_events.specs.declared.requests.Request.{Request}
use Rattle.box_events.specs.declared.requests.Request.TheVariants.{Channel as Channel_of}
use Rattle.channel_box.specs.Looks.{any_asks, is_waiting, waits}
use Rattle.channel_box.specs.States.{ChannelState, first}
use Rattle.channel_box.specs.Steps.{asks_number, flagged, is_asking}
use Rattle.box_server.specs.Answers.{answer, channel_difference}
use Rattle.box_server.specs.Servers.{ServerState, channel_end, channel_in}
use Rattle.box_server.proofs.Carrying.{changed_overlays}
use Rattle.box_client.specs.Asking as asking
use Rattle.box_client.specs.Asking.{difference_of, group_is_due, group_ticked, ticks, wakes}
use Rattle.box_client.specs.Pushes.{pushed}
use Rattle.box_client.specs.Replies.{replied}
use Rattle.box_client.specs.States.{ClientState}
use Rattle.box_world.specs.Agreeing.{ChannelAgrees, is_last_part}
use Rattle.box_world.specs.Growing.{IsLedger}
use Rattle.box_world.specs.Streams.{Doing, Frame, Honest, IsHonestFrame, Past, asked_by, begun, channel_request, heard_frame, past_of, told_push, told_reply}
use Rattle.box_world.specs.Worlds.{after_reply}
use Rattle.box_world.proofs.ChannelReplying.{TakenFrom, channel_taken, end_is, first_has, inside_of}
use Rattle.box_world.proofs.Continuing.{continues_same}
use Rattle.box_world.proofs.GoingOn.{agree_ticks, agree_wakes}
use Rattle.box_world.proofs.Posting.{none_either}
use Rattle.box_world.proofs.Telling.{channel_answer_is}
use Rattle.box_world.proofs.Ticking.{stands_at}
use Rattle.box_world.proofs.Streams.{hears, honest_lies, ordered}
use Rattle.headline.specs.CatchingUp.{heard_all}
use Rattle.headline.specs.CatchingUpChannels.{ChannelAsksNoMore, HonestSessionsCatchUpByChannel, IsPastAt, LastChannelAnswer, channel_waits}
use Rattle.headline.proofs.Channels.{Answered, HonestTo, Ticks, Took, map_index, pushed_stands, replied_answered, ticked_index}
use Rattle.headline.proofs.Forward.{group_index}
use Rattle.headline.proofs.LastAnswers.{AgreesAt, grown, no_both}

-- ---- one frame

ticks_index : (c : ClientState) (i : ℕ) (x : ChannelState) → slice_get c.channels i ≡ Some x → Ticks x (ticks c).client.channels i
ticks_index c i x is = let g : asking.Asked = group_ticked c in ticked_index g.client.channels g.client.next i x (group_index c (group_is_due c) refl i x is)

-- what a channel asks by a number, where the group doesn't
asked_free : (b : Bool) (r : Option Request) (o : Option ChannelState) (x : ChannelState) → b ≡ false → o ≡ Some x → cond b r (channel_request o) ≡ Some (Channel_of x.id (pos x.lane.at))
asked_free true r o x e f = absurd (let w : true ≡ false = e in cc)
asked_free false r o x e f = ap channel_request f

pub channel_asked : (c : ClientState) (n : ℕ) (x : ChannelState) → is_asking n c.common.mode ≡ false → first (asks_number n) c.channels ≡ Some x → asked_by c n ≡ Some (Channel_of x.id (pos x.lane.at))
channel_asked c n x free f = asked_free (is_asking n c.common.mode) (Some (difference_of c).request) (first (asks_number n) c.channels) x free f

pub stream_honest : (h : List Doing) (c : ClientState) (k n : ℕ) (v : Reply) → AgreesAt h k c → IsHonestFrame h c k (told_reply n v) → HonestTo (past_of h k).boxes c n v (past_of h k).boxes
stream_honest h c k n v a honest x free f =
    let p : Past = past_of h k in
    let ledger : IsLedger p.server p.boxes = ordered h k in
    let own = (first_has (λ d. ChannelAgrees (p.boxes d.id) d) (asks_number n) c.channels x a.channels f).0 in
    let fits = stands_at (p.boxes x.id) x.lane own.lane in
    let more = (continues_same p.server p.boxes p.boxes (λ id. refl)).channels x.id in
    let t = channel_taken (p.boxes x.id) (p.boxes x.id) (channel_in p.server.channels x.id) x (ledger.channels x.id) (ledger.channels x.id) more (ledger.kept x.id) fits own in
    let same : channel_difference (channel_in p.server.channels x.id) (pos x.lane.at) ≡ v = sym (honest (Channel_of x.id (pos x.lane.at)) (channel_asked c n x free f) ∙ channel_answer_is p.server x.id (pos x.lane.at)) in
    (inside_of (p.boxes x.id) x.lane.at fits, subst (TakenFrom (p.boxes x.id) (p.boxes x.id) x) same t)

-- the frame is the last part that the channel asked for, and brings it to where the server is
record FinalPart (h : List Doing) (c : ClientState) (k : ℕ) (f : Frame) (x z : ChannelState) : Type 0 where
  pub number : ℕ
  pub reply : ChannelReply
  pub is : f ≡ told_reply number (reply_of.Channel reply)
  pub asked : is_asking number x.lane.mode ≡ true
  pub answers : reply_of.Channel reply ≡ answer (past_of h k).server (Channel_of x.id (pos x.lane.at))
  pub final : is_last_part reply ≡ true
  pub past : channel_end (channel_in (past_of h k).server.channels x.id) ≤ z.lane.at

-- after a frame it waits where it waited, or the frame was the last part
record FrameAt (h : List Doing) (c : ClientState) (k : ℕ) (f : Frame) (i : ℕ) (x : ChannelState) : Type 0 where
  pub channel : ChannelState
  pub is : slice_get (heard_frame c f).channels i ≡ Some channel
  pub id : channel.id ≡ x.id
  pub up : x.lane.at ≤ channel.lane.at
  pub how : (is_waiting x.lane.mode ≡ true → is_waiting channel.lane.mode ≡ true) ⊎ FinalPart h c k f x channel

took_how : (h : List Doing) (c : ClientState) (k n : ℕ) (v : Reply) (x y : ChannelState) (ds : List ChannelState) (i : ℕ) (t : Ticks y ds i) (o : Took c n v ((past_of h k).boxes x.id) x y) (b : Bool) → is_last_part o.reply ≡ b → IsHonestFrame h c k (told_reply n v)
    → (is_waiting x.lane.mode ≡ true → is_waiting t.channel.lane.mode ≡ true) ⊎ FinalPart h c k (told_reply n v) x t.channel
took_how h c k n v x y ds i t o true e honest =
    let p : Past = past_of h k in
    inr (record {
      number = n;
      reply = o.reply;
      is = ap (told_reply n) o.is;
      asked = o.asked;
      answers = sym o.is ∙ honest (Channel_of x.id (pos x.lane.at)) (channel_asked c n x o.free o.whom);
      final = e;
      past = omega (arith, end_is (p.boxes x.id) (channel_in p.server.channels x.id) ((ordered h k).kept x.id), o.final e, t.at);
    })
took_how h c k n v x y ds i t o false e honest = inl (λ w. t.again (o.part e))

answered_how : (h : List Doing) (c : ClientState) (k n : ℕ) (v : Reply) (x : ChannelState) (ds es : List ChannelState) (i : ℕ) (a : Answered c n v (past_of h k).boxes x ds i) (t : Ticks a.channel es i) → (a.channel.lane.mode ≡ x.lane.mode) ⊎ Took c n v ((past_of h k).boxes x.id) x a.channel → IsHonestFrame h c k (told_reply n v)
    → (is_waiting x.lane.mode ≡ true → is_waiting t.channel.lane.mode ≡ true) ⊎ FinalPart h c k (told_reply n v) x t.channel
answered_how h c k n v x ds es i a t (inl same) honest = inl (λ w. t.waits (ap is_waiting same ∙ w))
answered_how h c k n v x ds es i a t (inr took) honest = took_how h c k n v x a.channel es i t took (is_last_part took.reply) refl honest

frame_at : (h : List Doing) (c : ClientState) (k : ℕ) (f : Frame) (i : ℕ) (x : ChannelState) → AgreesAt h k c → IsHonestFrame h c k f → slice_get c.channels i ≡ Some x → FrameAt h c k f i x
frame_at h c k (told_push q) i x a honest is =
    let p : Past = past_of h k in
    let y = pushed_stands p.server p.boxes c q i x (ordered h k) (honest_lies h k q honest) a is in
    let t = ticks_index (pushed c q) i y.channel y.is in
    record { channel = t.channel; is = t.is; id = t.id ∙ y.id; up = omega (arith, y.up, t.at); how = inl (λ w. t.waits (ap is_waiting y.mode ∙ w)) }
frame_at h c k (told_reply n v) i x a honest is =
    let p : Past = past_of h k in
    let y = replied_answered p.server p.boxes c n v p.boxes (ordered h k) a (stream_honest h c k n v a honest) i x is in
    let d : ClientState = after_reply c (replied c n v) in
    let t = ticks_index d i y.channel y.is in
    record { channel = t.channel; is = t.is; id = t.id ∙ y.id; up = omega (arith, y.up, t.at); how = answered_how h c k n v x d.channels (ticks d).client.channels i y t y.how honest }

-- ---- all frames

later : (h : List Doing) (c : ClientState) (m k : ℕ) (f : Frame) (fs : List Frame) (i : ℕ) (id : ℤ) → m ≤ k → LastChannelAnswer h (heard_frame c f) k fs i id → LastChannelAnswer h c m (f ∷ fs) i id
later h c m k f fs i id le l = record {
  before = f ∷ l.before;
  number = l.number;
  reply = l.reply;
  after = l.after;
  moment = l.moment;
  channel = l.channel;
  parts = ap (λ (x : List Frame). f ∷ x) l.parts;
  at = l.at;
  own = l.own;
  asked = l.asked;
  answers = l.answers;
  final = l.final;
  last = l.last;
  from = omega (arith, le, l.from);
  upto = l.upto;
  past = l.past;
}

-- a channel that stands past a server hears on: there is a later answer, or it stands past it still and has asked nothing
abbrev StandsOr : List Doing → ServerState → ChannelState → ClientState → ℕ → List Frame → ℕ → ℤ → Type 0
StandsOr h s x c m fs i id = LastChannelAnswer h c m fs i id ⊎ (IsPastAt s x (heard_all c fs).channels i × ChannelAsksNoMore i c fs)

abbrev Free : ClientState → ℕ → Type 0
Free c i = channel_waits (slice_get c.channels i) ≡ false

record On (h : List Doing) (fs : List Frame) (i : ℕ) (id : ℤ) : Type 0 where
  waits : (c : ClientState) (m : ℕ) (x : ChannelState) → m ≤ length h → AgreesAt h m c → Honest h c m fs → slice_get c.channels i ≡ Some x → x.id ≡ id → is_waiting x.lane.mode ≡ true → Free (heard_all c fs) i → LastChannelAnswer h c m fs i id
  stands : (s : ServerState) (y : ChannelState) (c : ClientState) (m : ℕ) (x : ChannelState) → m ≤ length h → AgreesAt h m c → Honest h c m fs → slice_get c.channels i ≡ Some x → x.id ≡ id → is_waiting x.lane.mode ≡ false → x.id ≡ y.id → channel_end (channel_in s.channels y.id) ≤ x.lane.at
      → Free (heard_all c fs) i → StandsOr h s y c m fs i id

waits_is : (c : ClientState) (i : ℕ) (x : ChannelState) (b : Bool) → slice_get c.channels i ≡ Some x → is_waiting x.lane.mode ≡ b → channel_waits (slice_get c.channels i) ≡ b
waits_is c i x b is e = ap channel_waits is ∙ e

on_none : (h : List Doing) (i : ℕ) (id : ℤ) → On h [] i id
on_none h i id = record {
  waits = λ c m x le a honest is own w free. absurd (no_both (channel_waits (slice_get c.channels i)) (waits_is c i x true is w) free);
  stands = λ s y c m x le a honest is own r same past free. inr ((x, is, same, past), free);
}

-- after the frame that ended the waiting
first_of : (h : List Doing) (c : ClientState) (m k : ℕ) (f : Frame) (fs : List Frame) (i : ℕ) (id : ℤ) (x z : ChannelState) → m ≤ k → k ≤ length h → slice_get c.channels i ≡ Some x → x.id ≡ id → FinalPart h c k f x z → StandsOr h (past_of h k).server x (heard_frame c f) k fs i id → LastChannelAnswer h c m (f ∷ fs) i id
first_of h c m k f fs i id x z up inside is own fa (inl l) = later h c m k f fs i id up l
first_of h c m k f fs i id x z up inside is own fa (inr (past, none)) = record {
  before = [];
  number = fa.number;
  reply = fa.reply;
  after = fs;
  moment = k;
  channel = x;
  parts = ap (λ (y : Frame). y ∷ fs) fa.is;
  at = is;
  own = own;
  asked = fa.asked;
  answers = fa.answers;
  final = fa.final;
  last = subst (λ (y : Frame). ChannelAsksNoMore i (heard_frame c y) fs) fa.is none;
  from = up;
  upto = inside;
  past = past;
}

module _ (h : List Doing) (f : Frame) (fs : List Frame) (i : ℕ) (id : ℤ) (on : On h fs i id) where
  waits_how : (c : ClientState) (m k : ℕ) (x : ChannelState) (z : FrameAt h c k f i x) → is_waiting z.channel.lane.mode ≡ false → (is_waiting x.lane.mode ≡ true → is_waiting z.channel.lane.mode ≡ true) ⊎ FinalPart h c k f x z.channel → m ≤ k → k ≤ length h → AgreesAt h k c → IsHonestFrame h c k f
      → Honest h (heard_frame c f) k fs → slice_get c.channels i ≡ Some x → x.id ≡ id → is_waiting x.lane.mode ≡ true → Free (heard_all (heard_frame c f) fs) i → LastChannelAnswer h c m (f ∷ fs) i id
  waits_how c m k x z e (inl w) up inside a honest rest is own waiting free = absurd (no_both (is_waiting z.channel.lane.mode) (w waiting) e)
  waits_how c m k x z e (inr fa) up inside a honest rest is own waiting free =
      first_of h c m k f fs i id x z.channel up inside is own fa (on.stands (past_of h k).server x (heard_frame c f) k z.channel inside (hears changed_overlays h c k f a honest).agrees rest z.is (z.id ∙ own) e z.id fa.past free)

  waits_by : (c : ClientState) (m k : ℕ) (x : ChannelState) (z : FrameAt h c k f i x) (b : Bool) → is_waiting z.channel.lane.mode ≡ b → m ≤ k → k ≤ length h → AgreesAt h k c → IsHonestFrame h c k f → Honest h (heard_frame c f) k fs
      → slice_get c.channels i ≡ Some x → x.id ≡ id → is_waiting x.lane.mode ≡ true → Free (heard_all (heard_frame c f) fs) i → LastChannelAnswer h c m (f ∷ fs) i id
  waits_by c m k x z true e up inside a honest rest is own waiting free = later h c m k f fs i id up (on.waits (heard_frame c f) k z.channel inside (hears changed_overlays h c k f a honest).agrees rest z.is (z.id ∙ own) e free)
  waits_by c m k x z false e up inside a honest rest is own waiting free = waits_how c m k x z e z.how up inside a honest rest is own waiting free

  stands_more : (s : ServerState) (y : ChannelState) (c : ClientState) (m k : ℕ) (x : ChannelState) → m ≤ k → slice_get c.channels i ≡ Some x → is_waiting x.lane.mode ≡ false → StandsOr h s y (heard_frame c f) k fs i id → StandsOr h s y c m (f ∷ fs) i id
  stands_more s y c m k x up is rests (inl l) = inl (later h c m k f fs i id up l)
  stands_more s y c m k x up is rests (inr (past, none)) = inr (past, (waits_is c i x false is rests, none))

  stands_by : (s : ServerState) (y : ChannelState) (c : ClientState) (m k : ℕ) (x : ChannelState) (z : FrameAt h c k f i x) (b : Bool) → is_waiting z.channel.lane.mode ≡ b → m ≤ k → k ≤ length h → AgreesAt h k c → IsHonestFrame h c k f → Honest h (heard_frame c f) k fs
      → slice_get c.channels i ≡ Some x → x.id ≡ id → is_waiting x.lane.mode ≡ false → x.id ≡ y.id → channel_end (channel_in s.channels y.id) ≤ x.lane.at → Free (heard_all (heard_frame c f) fs) i → StandsOr h s y c m (f ∷ fs) i id
  stands_by s y c m k x z true e up inside a honest rest is own rests same past free =
      inl (later h c m k f fs i id up (on.waits (heard_frame c f) k z.channel inside (hears changed_overlays h c k f a honest).agrees rest z.is (z.id ∙ own) e free))
  stands_by s y c m k x z false e up inside a honest rest is own rests same past free =
      stands_more s y c m k x up is rests (on.stands s y (heard_frame c f) k z.channel inside (hears changed_overlays h c k f a honest).agrees rest z.is (z.id ∙ own) e (z.id ∙ same) (omega (arith, past, z.up)) free)

  on_more : On h (f ∷ fs) i id
  on_more = record {
    waits = λ c m x le a (k, up, inside, honest, rest) is own w free.
        let now = grown h c m k up a in
        let z = frame_at h c k f i x now honest is in
        waits_by c m k x z (is_waiting z.channel.lane.mode) refl up inside now honest rest is own w free;
    stands = λ s y c m x le a (k, up, inside, honest, rest) is own r same past free.
        let now = grown h c m k up a in
        let z = frame_at h c k f i x now honest is in
        stands_by s y c m k x z (is_waiting z.channel.lane.mode) refl up inside now honest rest is own r same past free;
  }

on_all : (h : List Doing) (fs : List Frame) (i : ℕ) (id : ℤ) → On h fs i id
on_all h [] i id = on_none h i id
on_all h (f ∷ fs) i id = on_more h f fs i id (on_all h fs i id)

-- no channel waits at the end
none_waits : (ds : List ChannelState) (i : ℕ) → any_asks ds ≡ false → channel_waits (slice_get ds i) ≡ false
none_waits [] i e = refl
none_waits (d ∷ ds) zero e = (none_either (waits d) (any_asks ds) e).0
none_waits (d ∷ ds) (suc i) e = none_waits ds i (none_either (waits d) (any_asks ds) e).1

pub channels_catch_up : HonestSessionsCatchUpByChannel
channels_catch_up h c m fs le a honest calm i x is =
    let d : ClientState = heard_all (begun c) fs in
    let s : Past = past_of h m in
    let t = ticks_index (wakes c) i (flagged x) (map_index flagged c.channels i x is) in
    (on_all h fs i x.id).waits (begun c) m t.channel le (agree_ticks s.server s.boxes (wakes c) (agree_wakes s.server s.boxes c a)) honest t.is t.id (t.flag refl) (none_waits d.channels i (none_either (is_waiting d.common.mode) (any_asks d.channels) calm).1)
