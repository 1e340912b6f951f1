-- No frame changes which channels are watched, nor their order.
use Rattle.std.proofs.Common.{◌≡◌, ℕ, ◌+◌, ◌-◌, ℤ, List, [], ◌∷◌, map as each, Bool, true, false, cond, is_some, ltb, Option, Some, None, Result, Ok, Err, refl, sym, ap, ◌∙◌}
use Rattle.std.proofs.lemmas.Option.{same_Some}
use Rattle.box_events.specs.Events.{EventView, count_of}
use Rattle.box_events.specs.declared.replies.ChannelReply.{ChannelReply}
use Rattle.box_events.specs.declared.replies.ChannelReply.TheVariants.{Empty as EmptyPart, Part, TooLong as FarPart}
use Rattle.box_events.specs.declared.replies.Reply.{Reply}
use Rattle.box_events.specs.declared.replies.Reply.TheVariants as reply_of
use Rattle.box_events.specs.declared.updates.Push.{Push}
use Rattle.box_events.specs.declared.updates.Push.TheVariants.{TooLong, Container}
use Rattle.box_events.specs.declared.updates.Update.{Update}
use Rattle.box_events.specs.declared.updates.Update.TheVariants.{Common, Secret, Channel, ChannelTooLong, Setting}
use Rattle.box_events.specs.Weaves.{woven_of}
use Rattle.box_events.specs.declared.difference_fault.WeaveFault.{WeaveFault}
use Rattle.pts_machine.specs.Steps.{extend, hear, restart_at}
use Rattle.channel_box.specs.States.{ChannelState, first, has_id, ids_of}
use Rattle.channel_box.specs.Steps.{answered_by, asks_number, at_first, channel_is_due, flagged, grown, heard_by, is_asking, taken_by, ticked}
use Rattle.channel_box.specs.Steps as channels
use Rattle.box_client.specs.Asking as asking
use Rattle.box_client.specs.Asking.{group_is_due, group_ticked, ticks, wakes}
use Rattle.box_client.specs.Pushes.{all_updated, pushed, settings_in, updated}
use Rattle.box_client.specs.Replies.{ignored, by_channels, channel_replied, group_replied, replied}
use Rattle.box_client.specs.States.{ClientState}
use Rattle.box_world.specs.Streams.{Frame, begun, heard_frame, told_push, told_reply}
use Rattle.box_world.specs.Worlds.{after_reply}
use Rattle.headline.specs.CatchingUp.{heard_all}
use Rattle.headline.proofs.Channels.{group_channels, pack_channels, same_channel}

-- ---- the first channel of which something holds

ids_by : (f : ChannelState → ChannelState) (c : ChannelState) (cs es : List ChannelState) (b : Bool) → (f c).id ≡ c.id → ids_of es ≡ ids_of cs → ids_of (cond b (f c ∷ cs) (c ∷ es)) ≡ ids_of (c ∷ cs)
ids_by f c cs es true own rest = ap (λ (i : ℤ). i ∷ ids_of cs) own
ids_by f c cs es false own rest = ap (λ (l : List ℤ). c.id ∷ l) rest

ids_at : (p : ChannelState → Bool) (f : ChannelState → ChannelState) → ((x : ChannelState) → (f x).id ≡ x.id) → (cs : List ChannelState) → ids_of (at_first p f cs) ≡ ids_of cs
ids_at p f own [] = refl
ids_at p f own (c ∷ cs) = ids_by f c cs (at_first p f cs) (p c) (own c) (ids_at p f own cs)

ids_put : (p : ChannelState → Bool) (e c : ChannelState) (cs : List ChannelState) (b : Bool) → ((x : ChannelState) → cond b (Some c) (first p cs) ≡ Some x → e.id ≡ x.id) → (((x : ChannelState) → first p cs ≡ Some x → e.id ≡ x.id) → ids_of (at_first p (λ _. e) cs) ≡ ids_of cs)
    → ids_of (cond b (e ∷ cs) (c ∷ at_first p (λ _. e) cs)) ≡ ids_of (c ∷ cs)
ids_put p e c cs true own rest = ap (λ (i : ℤ). i ∷ ids_of cs) (own c refl)
ids_put p e c cs false own rest = ap (λ (l : List ℤ). c.id ∷ l) (rest own)

ids_first : (p : ChannelState → Bool) (e : ChannelState) (cs : List ChannelState) → ((x : ChannelState) → first p cs ≡ Some x → e.id ≡ x.id) → ids_of (at_first p (λ _. e) cs) ≡ ids_of cs
ids_first p e [] own = refl
ids_first p e (c ∷ cs) own = ids_put p e c cs (p c) own (λ f. ids_first p e cs f)

ids_map : (f : ChannelState → ChannelState) → ((x : ChannelState) → (f x).id ≡ x.id) → (cs : List ChannelState) → ids_of (each f cs) ≡ ids_of cs
ids_map f own [] = refl
ids_map f own (c ∷ cs) = ap (λ (i : ℤ). i ∷ ids_of (each f cs)) (own c) ∙ ap (λ (l : List ℤ). c.id ∷ l) (ids_map f own cs)

-- ---- pushes

ids_updates : (c : ClientState) (us : List Update) → ids_of (all_updated c us).channels ≡ ids_of c.channels
ids_updates c [] = refl
ids_updates c (Common event pts ∷ us) = ids_updates (updated c (Common event pts)) us
ids_updates c (Secret body qts ∷ us) = ids_updates (updated c (Secret body qts)) us
ids_updates c (Channel id event pts ∷ us) = ids_updates (updated c (Channel id event pts)) us ∙ ids_at (has_id id) (λ d. heard_by d (hear d.lane (pts - count_of event) pts event)) (λ d. refl) c.channels
ids_updates c (ChannelTooLong id ∷ us) = ids_updates (updated c (ChannelTooLong id)) us ∙ ids_at (has_id id) flagged (λ d. refl) c.channels
ids_updates c (Setting x ∷ us) = ids_updates c us

ids_pushed : (c : ClientState) (p : Push) → ids_of (pushed c p).channels ≡ ids_of c.channels
ids_pushed c TooLong = refl
ids_pushed c (Container us date seq_start seq) = ap ids_of (pack_channels (ltb 0 seq) (all_updated c us) seq_start seq date (settings_in us)) ∙ ids_updates c us

-- ---- answers

id_grown : (d y : ChannelState) (last : Bool) (w : Result (List EventView) WeaveFault) → grown d last w ≡ Ok y → y.id ≡ d.id
id_grown d y last (Ok xs) e = ap (λ (x : ChannelState). x.id) (sym (same_channel (record d { lane = extend count_of d.lane xs last }) y e))
id_grown d y last (Err cause) e = absurd cc

id_replied : (d y : ChannelState) (r : ChannelReply) → channels.replied d r ≡ Ok y → y.id ≡ d.id
id_replied d y (EmptyPart pts last) e = id_grown d y last (woven_of d.lane.at pts [] []) e
id_replied d y (Part pts news others last) e = id_grown d y last (woven_of d.lane.at pts news others) e
id_replied d y (FarPart pts recent last) e = ap (λ (x : ChannelState). x.id) (sym (same_channel (record d { lane = restart_at count_of d.lane pts; recent = recent }) y e))

ids_taken : (c : ClientState) (n : ℕ) (d : ChannelState) (r : ChannelReply) (w : Result ChannelState WeaveFault) → channels.replied d r ≡ w → first (asks_number n) c.channels ≡ Some d → ids_of (after_reply c (by_channels c (taken_by c.channels n w))).channels ≡ ids_of c.channels
ids_taken c n d r (Ok y) e f = ids_first (asks_number n) y c.channels (λ x g. id_replied d y r e ∙ ap (λ (z : ChannelState). z.id) (same_Some d x (sym f ∙ g)))
ids_taken c n d r (Err cause) e f = refl

ids_answered : (c : ClientState) (n : ℕ) (r : ChannelReply) (o : Option ChannelState) → first (asks_number n) c.channels ≡ o → ids_of (after_reply c (by_channels c (answered_by c.channels n r o))).channels ≡ ids_of c.channels
ids_answered c n r None f = refl
ids_answered c n r (Some d) f = ids_taken c n d r (channels.replied d r) refl f

ids_channel : (c : ClientState) (n : ℕ) (v : Reply) → ids_of (after_reply c (channel_replied c n v)).channels ≡ ids_of c.channels
ids_channel c n (reply_of.State state) = refl
ids_channel c n (reply_of.Empty date seq) = refl
ids_channel c n (reply_of.Difference news secrets others settings state last) = refl
ids_channel c n (reply_of.Channel r) = ids_answered c n r (first (asks_number n) c.channels) refl
ids_channel c n (reply_of.Receipt r) = refl
ids_channel c n (reply_of.Error code text) = refl

ids_one : (c : ClientState) (n : ℕ) (v : Reply) (b : Bool) → ids_of (after_reply c (cond b (channel_replied c n v) ignored)).channels ≡ ids_of c.channels
ids_one c n v true = ids_channel c n v
ids_one c n v false = refl

pub ids_whom : (c : ClientState) (n : ℕ) (v : Reply) (b : Bool) → ids_of (after_reply c (cond b (group_replied c v) (cond (is_some (first (asks_number n) c.channels)) (channel_replied c n v) ignored))).channels ≡ ids_of c.channels
ids_whom c n v true = ap ids_of (group_channels c v)
ids_whom c n v false = ids_one c n v (is_some (first (asks_number n) c.channels))

-- ---- ticks

ids_ticked_by : (n : ℕ) (d : ChannelState) (ds : List ChannelState) (b : Bool) → channel_is_due d ≡ b → ((m : ℕ) → ids_of (ticked m ds).channels ≡ ids_of ds) → ids_of (ticked n (d ∷ ds)).channels ≡ ids_of (d ∷ ds)
ids_ticked_by n d ds true e rest = rw e (ap (λ (l : List ℤ). d.id ∷ l) (rest (n + 1)))
ids_ticked_by n d ds false e rest = rw e (ap (λ (l : List ℤ). d.id ∷ l) (rest n))

ids_ticked : (ds : List ChannelState) (n : ℕ) → ids_of (ticked n ds).channels ≡ ids_of ds
ids_ticked [] n = refl
ids_ticked (d ∷ ds) n = ids_ticked_by n d ds (channel_is_due d) refl (λ m. ids_ticked ds m)

pub group_ids : (c : ClientState) (b : Bool) → group_is_due c ≡ b → ids_of (group_ticked c).client.channels ≡ ids_of c.channels
group_ids c true e = rw e refl
group_ids c false e = rw e refl

pub ids_ticks : (c : ClientState) → ids_of (ticks c).client.channels ≡ ids_of c.channels
ids_ticks c = let g : asking.Asked = group_ticked c in ids_ticked g.client.channels g.client.next ∙ group_ids c (group_is_due c) refl

-- ---- a session

ids_frame : (c : ClientState) (f : Frame) → ids_of (heard_frame c f).channels ≡ ids_of c.channels
ids_frame c (told_push p) = ids_ticks (pushed c p) ∙ ids_pushed c p
ids_frame c (told_reply n v) = ids_ticks (after_reply c (replied c n v)) ∙ ids_whom c n v (is_asking n c.common.mode)

ids_all : (c : ClientState) (fs : List Frame) → ids_of (heard_all c fs).channels ≡ ids_of c.channels
ids_all c [] = refl
ids_all c (f ∷ fs) = ids_all (heard_frame c f) fs ∙ ids_frame c f

pub ids_wakes : (c : ClientState) → ids_of (wakes c).channels ≡ ids_of c.channels
ids_wakes c = ids_map flagged (λ d. refl) c.channels

pub session_ids : (c : ClientState) (fs : List Frame) → ids_of (heard_all (begun c) fs).channels ≡ ids_of c.channels
session_ids c fs = ids_all (begun c) fs ∙ ids_ticks (wakes c) ∙ ids_wakes c
