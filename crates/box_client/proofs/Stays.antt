-- What holds of every client stays.
use Rattle.std.proofs.Common.{◌≡◌, ℕ, zero, suc, ◌+◌, ◌-◌, ◌≤◌, List, [], ◌∷◌, Bool, true, false, cond, ltb, is_some, ◌&&◌, Result, Ok, Err, OnOk, OnErr, refl, sym, ◌∙◌, subst, arith}
use Rattle.box_events.specs.Events.{EventView, added, count_of}
use Rattle.box_events.specs.declared.settings.Setting.{Setting}
use Rattle.box_events.specs.declared.saved.Saved.{Saved}
use Rattle.box_events.specs.declared.updates.Update.{Update}
use Rattle.box_events.specs.declared.updates.Update.TheVariants.{Common, Secret, Channel, ChannelTooLong, Setting as SettingUpdate}
use Rattle.box_events.specs.declared.updates.Push.{Push}
use Rattle.box_events.specs.declared.updates.Push.TheVariants.{TooLong, Container}
use Rattle.box_events.specs.declared.replies.Reply.{Reply}
use Rattle.box_events.specs.declared.replies.Reply.TheVariants.{State, Empty, Difference, Channel as ChannelAnswer, Receipt, Error}
use Rattle.pts_machine.specs.declared.mode.Mode.TheVariants.{Live, Again}
use Rattle.pts_machine.specs.States.{LaneState}
use Rattle.pts_machine.specs.Steps.{extend, settle, forget}
use Rattle.pts_machine.proofs.Moves.{hear_mode}
use Rattle.pts_machine.specs.Packs.{pack_of}
use Rattle.pts_machine.proofs.StateSteps.{pack_mode, overlay_live}
use Rattle.tl_base.specs.declared.fault.Fault.{Fault}
use Rattle.tl_base.specs.declared.fault.Fault.TheVariants.{Refused, Memory}
use Rattle.box_events.specs.Weaves.{woven_of}
use Rattle.box_events.specs.declared.difference_fault.WeaveFault.{WeaveFault}
use Rattle.channel_box.specs.States.{ChannelState, first}
use Rattle.channel_box.specs.Steps.{is_asking, asks_number, Answered, stale, refused, taken, answered, Ticked, ticked, and_asks, and_waits, channel_is_due}
use Rattle.box_client.specs.declared.received.Received.{Received}
use Rattle.box_client.specs.declared.fault.ClientFault.{ClientFault}
use Rattle.box_client.specs.declared.fault.ReplyOutcome.{ReplyOutcome}
use Rattle.box_client.specs.declared.fault.ReplyOutcome.TheVariants.{Reply as Taken, Stale}
use Rattle.box_client.specs.States.{ClientState, new_client}
use Rattle.box_client.specs.Messages.{are_messages}
use Rattle.box_client.specs.Insides.{IsSteady}
use Rattle.box_client.specs.Pushes.{updated, all_updated, pack_heard, settings_in, pushed}
use Rattle.box_client.specs.Replies.{Outcome, ignored, refuses, becomes, nothing_new, group_done, group_taken, group_woven, brings, group_replied, by_channels, channel_replied, replied}
use Rattle.box_client.specs.Asking.{Asked, group_is_due, group_asks, difference_of, group_ticked, channels_ticked, ticks, restarted}
use Rattle.box_client.specs.Calls.{Answers}
use Rattle.box_client.specs.Saving.{is_next, client_loaded}
use Rattle.box_client.proofs.Messages.{messages_hear, messages_extend, messages_woven, messages_forget, messages_asked, messages_loaded}

stays_updated : (c : ClientState) (u : Update) → IsSteady c → IsSteady (updated c u)
stays_updated c (Common event pts) m = let h = hear_mode c.common (pts - count_of event) pts event in record { mode = (m.mode.0 ∙ sym h, m.mode.1 ∙ sym h); secret = m.secret; next = m.next }
stays_updated c (Secret body qts) m = record { mode = (hear_mode c.secret (qts - 1) qts (added body) ∙ m.mode.0, m.mode.1); secret = messages_hear c.secret (qts - 1) qts body m.secret; next = m.next }
stays_updated c (Channel id event pts) m = record { mode = m.mode; secret = m.secret; next = m.next }
stays_updated c (ChannelTooLong id) m = record { mode = m.mode; secret = m.secret; next = m.next }
stays_updated c (SettingUpdate setting) m = m

stays_all : (c : ClientState) (us : List Update) → IsSteady c → IsSteady (all_updated c us)
stays_all c [] m = m
stays_all c (u ∷ us) m = stays_all (updated c u) us (stays_updated c u m)

stays_pack : (b : Bool) (c : ClientState) (seq_start seq date : ℕ) (settings : List Setting) → IsSteady c → IsSteady (pack_heard b c seq_start seq date settings)
stays_pack true c seq_start seq date settings m = record { mode = (m.mode.0, pack_mode c.settings (seq_start - 1) seq (pack_of date settings) ∙ m.mode.1); secret = m.secret; next = m.next }
stays_pack false c seq_start seq date settings m = m

pub stays_pushed : (c : ClientState) (p : Push) → IsSteady c → IsSteady (pushed c p)
stays_pushed c TooLong m = record { mode = m.mode; secret = m.secret; next = m.next }
stays_pushed c (Container updates date seq_start seq) m = stays_pack (ltb 0 seq) (all_updated c updates) seq_start seq date (settings_in updates) (stays_all c updates m)

extend_live : (t : LaneState EventView) (xs : List EventView) → (extend count_of t xs true).mode ≡ Live
unfolding extend settle
extend_live t xs = refl

extend_again : (t : LaneState EventView) (xs : List EventView) → (extend count_of t xs false).mode ≡ Again
unfolding extend
extend_again t xs = refl

stays_done : (last : Bool) (c : ClientState) (b : Received) (xs ys : List EventView) → IsSteady c → are_messages ys ≡ true → IsSteady (group_done last c b xs ys)
stays_done true c b xs ys m new = record {
  mode = (extend_live c.secret ys ∙ sym (extend_live c.common xs), overlay_live c.settings b.settings b.state.seq b.state.date ∙ sym (extend_live c.common xs));
  secret = messages_extend c.secret ys true m.secret new;
  next = m.next;
}
stays_done false c b xs ys m new = record {
  mode = (extend_again c.secret ys ∙ sym (extend_again c.common xs), sym (extend_again c.common xs));
  secret = messages_extend c.secret ys false m.secret new;
  next = m.next;
}

-- the client of an outcome
abbrev client_in : ClientState → Outcome → ClientState
client_in c ignored = c
client_in c (refuses cause) = c
client_in c (becomes d) = d

stays_taken : (back : Bool) (c : ClientState) (b : Received) (xs ys : List EventView) → IsSteady c → are_messages ys ≡ true → IsSteady (client_in c (group_taken back c b xs ys))
stays_taken true c b xs ys m new = m
stays_taken false c b xs ys m new = stays_done b.last c b xs ys m new

stays_woven : (c : ClientState) (b : Received) (o p : Result (List EventView) WeaveFault) → ((ys : List EventView) → p ≡ Ok ys → are_messages ys ≡ true) → IsSteady c → IsSteady (client_in c (group_woven c b o p))
stays_woven c b (Err cause) p new m = m
stays_woven c b (Ok xs) (Err cause) new m = m
stays_woven c b (Ok xs) (Ok ys) new m = stays_taken (b.last && ltb b.state.seq c.settings.at) c b xs ys m (new ys refl)

stays_brings : (c : ClientState) (b : Received) → IsSteady c → IsSteady (client_in c (brings c b))
stays_brings c b m =
    stays_woven c b (woven_of c.common.at b.state.pts b.news b.others) (woven_of c.secret.at b.state.qts b.secrets []) (messages_woven c.secret.at b.state.qts b.secrets) m

stays_group : (c : ClientState) (r : Reply) → IsSteady c → IsSteady (client_in c (group_replied c r))
stays_group c (State state) m = m
stays_group c (Empty date seq) m = stays_brings c (nothing_new c date seq) m
stays_group c (Difference news secrets others settings state last) m = stays_brings c (record { news = news; secrets = secrets; others = others; settings = settings; state = state; last = last }) m
stays_group c (ChannelAnswer reply) m = m
stays_group c (Receipt receipt) m = m
stays_group c (Error code text) m = m

stays_channels : (c : ClientState) (a : Answered) → IsSteady c → IsSteady (client_in c (by_channels c a))
stays_channels c stale m = m
stays_channels c (refused cause) m = m
stays_channels c (taken channels) m = record { mode = m.mode; secret = m.secret; next = m.next }

stays_channel : (c : ClientState) (n : ℕ) (r : Reply) → IsSteady c → IsSteady (client_in c (channel_replied c n r))
stays_channel c n (State state) m = m
stays_channel c n (Empty date seq) m = m
stays_channel c n (Difference news secrets others settings state last) m = m
stays_channel c n (ChannelAnswer reply) m = stays_channels c (answered c.channels n reply) m
stays_channel c n (Receipt receipt) m = m
stays_channel c n (Error code text) m = m

stays_cond : (c : ClientState) (b : Bool) (o p : Outcome) → IsSteady (client_in c o) → IsSteady (client_in c p) → IsSteady (client_in c (cond b o p))
stays_cond c true o p a d = a
stays_cond c false o p a d = d

pub stays_replied : (c : ClientState) (n : ℕ) (r : Reply) → IsSteady c → IsSteady (client_in c (replied c n r))
stays_replied c n r m =
    stays_cond c (is_asking n c.common.mode) (group_replied c r) (cond (is_some (first (asks_number n) c.channels)) (channel_replied c n r) ignored) (stays_group c r m)
    (stays_cond c (is_some (first (asks_number n) c.channels)) (channel_replied c n r) ignored (stays_channel c n r m) m)

kept : (c d : ClientState) → d ≡ c → IsSteady c → IsSteady d
kept c d same m = subst IsSteady (sym same) m

pub stays_answers : (old : ClientState) (o : Outcome) (result : Result ReplyOutcome (Fault ClientFault)) (new : ClientState) → IsSteady old → IsSteady (client_in old o) → Answers old o result new → IsSteady new
stays_answers old o (Ok Taken) new m n a = subst (λ (x : Outcome). IsSteady (client_in old x)) a n
stays_answers old o (Ok Stale) new m n a = kept old new a.1 m
stays_answers old o (Err (Refused cause)) new m n a = kept old new a.1 m
stays_answers old o (Err Memory) new m n a = kept old new a.1 m

pub stays_restarted : (c : ClientState) → IsSteady c → IsSteady (restarted c)
unfolding forget
stays_restarted c m = record { mode = (refl, refl); secret = messages_forget c.secret m.secret; next = m.next }

pub stays_kept : {E : Type 0} (c : ClientState) (p : Push) (result : Result (Unit {0}) E) (d : ClientState) → IsSteady c → OnOk result (d ≡ pushed c p) → OnErr result (d ≡ c) → IsSteady d
stays_kept c p (Ok done) d m ok err = subst IsSteady (sym ok) (stays_pushed c p m)
stays_kept c p (Err fault) d m ok err = subst IsSteady (sym err) m

-- ticks

group_over : (b : Bool) (c : ClientState) → IsSteady c → let a : Asked = cond b (record { client = group_asks c; asks = difference_of c ∷ [] }) (record { client = c; asks = [] }) in IsSteady a.client
group_over true c m = record { mode = (refl, refl); secret = messages_asked c.secret c.next m.secret; next = omega (arith, m.next) }
group_over false c m = m

next_over : (b : Bool) (n : ℕ) (c : ChannelState) (t u : Ticked) → n + 1 ≤ t.next → n ≤ u.next → n ≤ (cond b (and_asks n c t) (and_waits c u)).next
next_over true n c t u p q = omega (arith, p)
next_over false n c t u p q = q

next_rises : (n : ℕ) (cs : List ChannelState) → n ≤ (ticked n cs).next
next_rises n [] = omega arith
next_rises n (c ∷ cs) = next_over (channel_is_due c) n c (ticked (n + 1) cs) (ticked n cs) (next_rises (n + 1) cs) (next_rises n cs)

with_channels : (a : Asked) → IsSteady a.client → IsSteady (channels_ticked a).client
with_channels a m = record { mode = m.mode; secret = m.secret; next = omega (arith, m.next, next_rises a.client.next a.client.channels) }

pub stays_ticks : (c : ClientState) → IsSteady c → IsSteady (ticks c).client
stays_ticks c m = with_channels (group_ticked c) (group_over (group_is_due c) c m)

-- new clients, and loading

pub stays_new : IsSteady new_client
stays_new = record { mode = (refl, refl); secret = messages_loaded 0 [] refl; next = omega arith }

is_one : (n : ℕ) → is_next n ≡ true → 1 ≤ n
is_one zero next = absurd cc
is_one (suc n) next = omega arith

pub stays_loaded : (s : Saved) → is_next s.next ≡ true → are_messages s.secret.events ≡ true → IsSteady (client_loaded s)
stays_loaded s next new = record { mode = (refl, refl); secret = messages_loaded s.secret.restart s.secret.events new; next = is_one s.next next }
