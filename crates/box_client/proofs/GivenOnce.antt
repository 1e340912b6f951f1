-- No request number is given twice.
use Rattle.std.proofs.Common.{◌≡◌, ℕ, ◌+◌, List, [], ◌∷◌, length, Bool, true, false, cond, ltb, ◌&&◌, is_some, Result, Ok, Err, refl, ◌∙◌, arith}
use Rattle.box_events.specs.Events.{EventView}
use Rattle.box_events.specs.declared.settings.Setting.{Setting}
use Rattle.box_events.specs.declared.requests.Numbered.{Numbered}
use Rattle.box_events.specs.declared.updates.Update.{Update}
use Rattle.box_events.specs.declared.updates.Update.TheVariants.{Common, Secret, Channel, ChannelTooLong, Setting as SettingUpdate}
use Rattle.box_events.specs.declared.updates.Push.{Push}
use Rattle.box_events.specs.declared.updates.Push.TheVariants.{TooLong, Container}
use Rattle.box_events.specs.declared.replies.Reply.{Reply}
use Rattle.box_events.specs.declared.replies.Reply.TheVariants.{State, Empty, Difference, Channel as ChannelAnswer, Receipt, Error}
use Rattle.box_events.specs.Weaves.{woven_of}
use Rattle.box_events.specs.declared.difference_fault.WeaveFault.{WeaveFault}
use Rattle.channel_box.specs.States.{ChannelState, first}
use Rattle.channel_box.specs.Steps.{is_asking, asks_number, Answered, stale, refused, taken, answered, Ticked, ticked, and_asks, and_waits, channel_is_due}
use Rattle.box_client.specs.declared.received.Received.{Received}
use Rattle.box_client.specs.States.{ClientState}
use Rattle.box_client.specs.Pushes.{updated, all_updated, settings_in, pack_heard, pushed}
use Rattle.box_client.specs.Replies.{Outcome, ignored, nothing_new, group_done, group_taken, group_woven, brings, group_replied, by_channels, channel_replied, replied}
use Rattle.box_client.specs.Asking.{group_is_due, group_asks, difference_of, Asked, channels_ticked, ticks}
use Rattle.box_client.specs.Laws.{AreNumbered, next_after}

-- ticks

record Numbers (n : ℕ) (next : ℕ) (asks : List Numbered) : Type 0 where
  pub each : AreNumbered n asks
  pub past : next ≡ n + length asks

numbers_first : (n next : ℕ) (a : Numbered) (asks : List Numbered) → a.number ≡ n → Numbers (n + 1) next asks → Numbers n next (a ∷ asks)
numbers_first n next a asks is m = record { each = (is, m.each); past = omega (arith, m.past) }

ticked_over : (b : Bool) (n : ℕ) (c : ChannelState) (t u : Ticked) → Numbers (n + 1) t.next t.asks → Numbers n u.next u.asks → Numbers n (cond b (and_asks n c t) (and_waits c u)).next (cond b (and_asks n c t) (and_waits c u)).asks
ticked_over true n c t u p q = record { each = (refl, p.each); past = omega (arith, p.past) }
ticked_over false n c t u p q = record { each = q.each; past = q.past }

ticked_numbers : (n : ℕ) (cs : List ChannelState) → Numbers n (ticked n cs).next (ticked n cs).asks
ticked_numbers n [] = record { each = tt; past = omega arith }
ticked_numbers n (c ∷ cs) = ticked_over (channel_is_due c) n c (ticked (n + 1) cs) (ticked n cs) (ticked_numbers (n + 1) cs) (ticked_numbers n cs)

group_over : (b : Bool) (c : ClientState) → let a : Asked = cond b (record { client = group_asks c; asks = difference_of c ∷ [] }) (record { client = c; asks = [] }) in Numbers c.next (channels_ticked a).client.next (channels_ticked a).asks
group_over true c = numbers_first c.next (ticked (c.next + 1) c.channels).next (difference_of c) (ticked (c.next + 1) c.channels).asks refl (ticked_numbers (c.next + 1) c.channels)
group_over false c = ticked_numbers c.next c.channels

pub asks_numbered : (c : ClientState) → AreNumbered c.next (ticks c).asks
asks_numbered c = (group_over (group_is_due c) c).each

pub next_past : (c : ClientState) → (ticks c).client.next ≡ c.next + length (ticks c).asks
next_past c = (group_over (group_is_due c) c).past

-- pushes

updated_next : (c : ClientState) (u : Update) → (updated c u).next ≡ c.next
updated_next c (Common event pts) = refl
updated_next c (Secret body qts) = refl
updated_next c (Channel id event pts) = refl
updated_next c (ChannelTooLong id) = refl
updated_next c (SettingUpdate setting) = refl

all_next : (c : ClientState) (us : List Update) → (all_updated c us).next ≡ c.next
all_next c [] = refl
all_next c (u ∷ us) = all_next (updated c u) us ∙ updated_next c u

pack_next : (b : Bool) (c : ClientState) (seq_start seq date : ℕ) (settings : List Setting) → (pack_heard b c seq_start seq date settings).next ≡ c.next
pack_next true c seq_start seq date settings = refl
pack_next false c seq_start seq date settings = refl

pub pushed_next : (c : ClientState) (p : Push) → (pushed c p).next ≡ c.next
pushed_next c TooLong = refl
pushed_next c (Container updates date seq_start seq) = pack_next (ltb 0 seq) (all_updated c updates) seq_start seq date (settings_in updates) ∙ all_next c updates

-- answers

done_next : (last : Bool) (c : ClientState) (b : Received) (xs ys : List EventView) → (group_done last c b xs ys).next ≡ c.next
done_next true c b xs ys = refl
done_next false c b xs ys = refl

taken_next : (back : Bool) (c : ClientState) (b : Received) (xs ys : List EventView) → next_after c (group_taken back c b xs ys) ≡ c.next
taken_next true c b xs ys = refl
taken_next false c b xs ys = done_next b.last c b xs ys

woven_next : (c : ClientState) (b : Received) (o p : Result (List EventView) WeaveFault) → next_after c (group_woven c b o p) ≡ c.next
woven_next c b (Err cause) p = refl
woven_next c b (Ok xs) (Err cause) = refl
woven_next c b (Ok xs) (Ok ys) = taken_next (b.last && ltb b.state.seq c.settings.at) c b xs ys

brings_next : (c : ClientState) (b : Received) → next_after c (brings c b) ≡ c.next
brings_next c b = woven_next c b (woven_of c.common.at b.state.pts b.news b.others) (woven_of c.secret.at b.state.qts b.secrets [])

group_next : (c : ClientState) (r : Reply) → next_after c (group_replied c r) ≡ c.next
group_next c (State state) = refl
group_next c (Empty date seq) = brings_next c (nothing_new c date seq)
group_next c (Difference news secrets others settings state last) = brings_next c (record { news = news; secrets = secrets; others = others; settings = settings; state = state; last = last })
group_next c (ChannelAnswer reply) = refl
group_next c (Receipt receipt) = refl
group_next c (Error code text) = refl

channels_next : (c : ClientState) (a : Answered) → next_after c (by_channels c a) ≡ c.next
channels_next c stale = refl
channels_next c (refused cause) = refl
channels_next c (taken channels) = refl

channel_next : (c : ClientState) (n : ℕ) (r : Reply) → next_after c (channel_replied c n r) ≡ c.next
channel_next c n (State state) = refl
channel_next c n (Empty date seq) = refl
channel_next c n (Difference news secrets others settings state last) = refl
channel_next c n (ChannelAnswer reply) = channels_next c (answered c.channels n reply)
channel_next c n (Receipt receipt) = refl
channel_next c n (Error code text) = refl

either : (c : ClientState) (b : Bool) (o p : Outcome) → next_after c o ≡ c.next → next_after c p ≡ c.next → next_after c (cond b o p) ≡ c.next
either c true o p x y = x
either c false o p x y = y

pub replied_next : (c : ClientState) (n : ℕ) (r : Reply) → next_after c (replied c n r) ≡ c.next
replied_next c n r =
    either c (is_asking n c.common.mode) (group_replied c r) (cond (is_some (first (asks_number n) c.channels)) (channel_replied c n r) ignored) (group_next c r)
    (either c (is_some (first (asks_number n) c.channels)) (channel_replied c n r) ignored (channel_next c n r) refl)
