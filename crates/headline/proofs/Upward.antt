-- No frame of an honest server moves a client back, and it waits until the last part of an answer comes.
use Rattle.std.proofs.Common.{◌≡◌, ℕ, ◌+◌, ◌-◌, ◌<◌, ◌≤◌, List, [], ◌∷◌, ◌++◌, Bool, true, false, ◌&&◌, cond, is_some, ltb, Result, Ok, Err, refl, sym, ap, ◌∙◌, subst, arith}
use Rattle.std.specs.FinMap.{len}
use Rattle.std.proofs.lemmas.Bool.Decides.{nat_tests}
use Rattle.box_events.specs.Events.{EventView, added, count_of}
use Rattle.box_events.specs.Boxes.{AreCounted, Between}
use Rattle.box_events.proofs.Stretches.{counted_right, stretch_counts}
use Rattle.box_events.specs.declared.replies.Reply.{Reply}
use Rattle.box_events.specs.declared.replies.Reply.TheVariants as reply_of
use Rattle.box_events.specs.declared.settings.Setting.{Setting}
use Rattle.box_events.specs.declared.updates.Push.{Push}
use Rattle.box_events.specs.declared.updates.Push.TheVariants.{TooLong, Container}
use Rattle.box_events.specs.declared.updates.Update.{Update}
use Rattle.box_events.specs.declared.updates.Update.TheVariants.{Common, Secret, Channel, ChannelTooLong, Setting as SettingUpdate}
use Rattle.box_events.specs.Weaves.{woven_of}
use Rattle.box_events.specs.declared.difference_fault.WeaveFault.{WeaveFault}
use Rattle.pts_machine.specs.Chains.{EndsAfter}
use Rattle.pts_machine.specs.declared.mode.Mode.{Mode}
use Rattle.pts_machine.specs.declared.mode.Mode.TheVariants.{Live, Asking, Again}
use Rattle.pts_machine.specs.Steps.{settle}
use Rattle.pts_machine.proofs.Ends.{reach_up}
use Rattle.pts_machine.proofs.Fitting.{fits_after}
use Rattle.pts_machine.proofs.Moves.{extend_up, hear_mode, hear_up}
use Rattle.pts_machine.specs.Packs.{Pack, pack_of}
use Rattle.pts_machine.specs.SeqStates.{SettingsState, hear_pack, lane_of, overlaid}
use Rattle.channel_box.specs.States.{first}
use Rattle.channel_box.specs.Looks.{is_waiting}
use Rattle.channel_box.specs.Steps.{Answered, answered, asks_number, is_asking, is_due, refused, stale, taken}
use Rattle.box_server.specs.Servers.{ServerState}
use Rattle.box_server.specs.Growing.{AllLie}
use Rattle.box_client.specs.declared.received.Received.{Received}
use Rattle.box_client.specs.Asking.{group_is_due, group_ticked, ticks}
use Rattle.box_client.specs.Pushes.{all_updated, pack_heard, pushed, settings_in, updated}
use Rattle.box_client.specs.Replies.{ignored, becomes, by_channels, channel_replied, group_done, group_replied, group_taken, group_woven, nothing_new, replied}
use Rattle.box_client.specs.States.{ClientState}
use Rattle.box_world.specs.Agreeing.{Agrees, Boxes, IsPast, is_final}
use Rattle.box_world.specs.Growing.{IsLedger}
use Rattle.box_world.specs.Pushing.{PackLies, PushLies}
use Rattle.box_world.specs.Worlds.{after_reply}
use Rattle.box_world.proofs.Pushing.{goes_updates}
use Rattle.box_world.proofs.Replying.{extend_again}

-- ---- positions of the group

-- none of them falls
pub record Up (c d : ClientState) : Type 0 where
  pub common : c.common.at ≤ d.common.at
  pub secret : c.secret.at ≤ d.secret.at
  pub settings : c.settings.at ≤ d.settings.at

pub up_none : (c : ClientState) → Up c c
up_none c = record { common = omega arith; secret = omega arith; settings = omega arith }

pub up_then : (b c d : ClientState) → Up b c → Up c d → Up b d
up_then b c d g h = record { common = omega (arith, g.common, h.common); secret = omega (arith, g.secret, h.secret); settings = omega (arith, g.settings, h.settings) }

pub past_up : (s : ServerState) (c d : ClientState) → Up c d → IsPast s c → IsPast s d
past_up s c d up h = record { common = omega (arith, up.common, h.common); secret = omega (arith, up.secret, h.secret); settings = omega (arith, up.settings, h.settings) }

-- its group is another's
pub record Same (c d : ClientState) : Type 0 where
  pub common : d.common ≡ c.common
  pub secret : d.secret ≡ c.secret
  pub settings : d.settings ≡ c.settings

same_none : (c : ClientState) → Same c c
same_none c = record { common = refl; secret = refl; settings = refl }

up_same : (c d : ClientState) → Same c d → Up c d
up_same c d h = record { common = omega (arith, ap (λ t. t.at) h.common); secret = omega (arith, ap (λ t. t.at) h.secret); settings = omega (arith, ap (λ (b : SettingsState). b.at) h.settings) }

-- ---- a tick

up_ticked : (c : ClientState) (b : Bool) → group_is_due c ≡ b → Up c (group_ticked c).client
up_ticked c true e = rw e (record { common = omega arith; secret = omega arith; settings = omega arith })
up_ticked c false e = rw e (up_none c)

pub up_ticks : (c : ClientState) → Up c (ticks c).client
up_ticks c = let u = up_ticked c (group_is_due c) refl in record { common = u.common; secret = u.secret; settings = u.settings }

waiting_ticked : (c : ClientState) (b : Bool) → group_is_due c ≡ b → is_waiting c.common.mode ≡ true → is_waiting (group_ticked c).client.common.mode ≡ true
waiting_ticked c true e w = rw e refl
waiting_ticked c false e w = rw e w

pub waiting_ticks : (c : ClientState) → is_waiting c.common.mode ≡ true → is_waiting (ticks c).client.common.mode ≡ true
waiting_ticks c w = waiting_ticked c (group_is_due c) refl w

again_ticked : (c : ClientState) (b : Bool) → group_is_due c ≡ b → c.common.mode ≡ Again → is_waiting (group_ticked c).client.common.mode ≡ true
again_ticked c true e w = rw e refl
again_ticked c false e w = absurd (let due : group_is_due c ≡ true = ap (is_due c.flag (len c.common.held + len c.secret.held + len c.settings.held)) w in let no : true ≡ false = sym due ∙ e in cc)

pub again_ticks : (c : ClientState) → c.common.mode ≡ Again → is_waiting (ticks c).client.common.mode ≡ true
again_ticks c w = again_ticked c (group_is_due c) refl w

-- a group that is due asks
due_ticked : (c : ClientState) → group_is_due c ≡ true → is_waiting (group_ticked c).client.common.mode ≡ true
due_ticked c e = rw e refl

flag_due : (c : ClientState) (m : Mode) → c.common.mode ≡ m → c.flag ≡ true → is_waiting (ticks c).client.common.mode ≡ true
flag_due c Live e f = due_ticked c (ap (is_due c.flag (len c.common.held + len c.secret.held + len c.settings.held)) e ∙ ap (λ (t : Bool). is_due t (len c.common.held + len c.secret.held + len c.settings.held) Live) f)
flag_due c Again e f = again_ticks c e
flag_due c (Asking n) e f = waiting_ticks c (ap is_waiting e)

pub flagged_ticks : (c : ClientState) → c.flag ≡ true → is_waiting (ticks c).client.common.mode ≡ true
flagged_ticks c f = flag_due c c.common.mode refl f

-- ---- pushes

updated_mode : (c : ClientState) (u : Update) → (updated c u).common.mode ≡ c.common.mode
updated_mode c (Common event pts) = hear_mode c.common (pts - count_of event) pts event
updated_mode c (Secret body qts) = refl
updated_mode c (Channel id event pts) = refl
updated_mode c (ChannelTooLong id) = refl
updated_mode c (SettingUpdate x) = refl

all_updated_mode : (c : ClientState) (us : List Update) → (all_updated c us).common.mode ≡ c.common.mode
all_updated_mode c [] = refl
all_updated_mode c (u ∷ us) = all_updated_mode (updated c u) us ∙ updated_mode c u

pack_mode_kept : (b : Bool) (c : ClientState) (seq_start seq date : ℕ) (xs : List Setting) → (pack_heard b c seq_start seq date xs).common.mode ≡ c.common.mode
pack_mode_kept true c seq_start seq date xs = refl
pack_mode_kept false c seq_start seq date xs = refl

pub pushed_mode : (c : ClientState) (p : Push) → (pushed c p).common.mode ≡ c.common.mode
pushed_mode c TooLong = refl
pushed_mode c (Container us date seq_start seq) = pack_mode_kept (ltb 0 seq) (all_updated c us) seq_start seq date (settings_in us) ∙ all_updated_mode c us

pub lies_order : (box : List EventView) (p q : ℕ) (e : EventView) → AreCounted box → Between box p q (e ∷ []) → p < q
lies_order box p q e c b =
    let one : 1 ≤ count_of e = (counted_right b.prefix ((e ∷ []) ++ b.rest) (subst AreCounted b.whole c)).0 in
    omega (arith, stretch_counts box p q (e ∷ []) b, one)

up_updates : (s : ServerState) (boxes : Boxes) (c : ClientState) (us : List Update) → IsLedger s boxes → AllLie s boxes us → Agrees s boxes c → Up c (all_updated c us)
up_updates s boxes c [] k lie a = up_none c
up_updates s boxes c (Common event pts ∷ us) k lie a =
    let next : ClientState = updated c (Common event pts) in
    let agrees = (goes_updates s boxes c (Common event pts ∷ []) k (lie.0, tt) a).agrees in
    let one : Up c next = record {
      common = hear_up c.common (pts - count_of event) pts event (fits_after s.common c.common k.common a.common) (lies_order s.common (pts - count_of event) pts event k.common lie.0);
      secret = omega arith;
      settings = omega arith;
    } in
    up_then c next (all_updated next us) one (up_updates s boxes next us k lie.1 agrees)
up_updates s boxes c (Secret body qts ∷ us) k lie a =
    let next : ClientState = updated c (Secret body qts) in
    let agrees = (goes_updates s boxes c (Secret body qts ∷ []) k (lie.0, tt) a).agrees in
    let one : Up c next = record {
      common = omega arith;
      secret = hear_up c.secret (qts - 1) qts (added body) (fits_after s.secret c.secret k.secret a.secret) (lies_order s.secret (qts - 1) qts (added body) k.secret lie.0);
      settings = omega arith;
    } in
    up_then c next (all_updated next us) one (up_updates s boxes next us k lie.1 agrees)
up_updates s boxes c (Channel id event pts ∷ us) k lie a =
    let next : ClientState = updated c (Channel id event pts) in
    let agrees = (goes_updates s boxes c (Channel id event pts ∷ []) k (lie.0, tt) a).agrees in
    up_then c next (all_updated next us) (record { common = omega arith; secret = omega arith; settings = omega arith }) (up_updates s boxes next us k lie.1 agrees)
up_updates s boxes c (ChannelTooLong id ∷ us) k lie a =
    let next : ClientState = updated c (ChannelTooLong id) in
    let agrees = (goes_updates s boxes c (ChannelTooLong id ∷ []) k tt a).agrees in
    up_then c next (all_updated next us) (record { common = omega arith; secret = omega arith; settings = omega arith }) (up_updates s boxes next us k lie agrees)
up_updates s boxes c (SettingUpdate x ∷ us) k lie a = up_updates s boxes c us k lie a

packs_after : (s : ServerState) (boxes : Boxes) (c : ClientState) → Agrees s boxes c → EndsAfter c.settings.held
packs_after s boxes c a i x is = (a.settings.within i x is).0

up_pack : (b : SettingsState) (start end : ℕ) (p : Pack) → EndsAfter b.held → start < end → b.at ≤ (hear_pack b start end p).state.at
unfolding hear_pack
up_pack b start end p after lt = hear_up (lane_of b) start end p after lt

above : (n : ℕ) → ltb 0 n ≡ true → 0 < n
above n e = grind (arith, nat_tests)

up_packed : (s : ServerState) (boxes : Boxes) (c : ClientState) (b : Bool) (seq_start seq date : ℕ) (us : List Update) → (b ≡ true → PackLies s (seq_start - 1) seq (pack_of date (settings_in us))) → Agrees s boxes c
    → Up c (pack_heard b c seq_start seq date (settings_in us))
up_packed s boxes c true seq_start seq date us lies a = record { common = omega arith; secret = omega arith; settings = up_pack c.settings (seq_start - 1) seq (pack_of date (settings_in us)) (packs_after s boxes c a) (lies refl).order }
up_packed s boxes c false seq_start seq date us lies a = up_none c

pub up_pushed : (s : ServerState) (boxes : Boxes) (c : ClientState) (p : Push) → IsLedger s boxes → PushLies s boxes p → Agrees s boxes c → Up c (pushed c p)
up_pushed s boxes c TooLong k lies a = record { common = omega arith; secret = omega arith; settings = omega arith }
up_pushed s boxes c (Container us date seq_start seq) k lies a =
    let next : ClientState = all_updated c us in
    let agrees = (goes_updates s boxes c us k lies.0 a).agrees in
    up_then c next (pack_heard (ltb 0 seq) next seq_start seq date (settings_in us)) (up_updates s boxes c us k lies.0 a) (up_packed s boxes next (ltb 0 seq) seq_start seq date us (λ e. lies.1 (above seq e)) agrees)

-- ---- replies to the group

-- what is held ends after its start
pub record After (c : ClientState) : Type 0 where
  pub common : EndsAfter c.common.held
  pub secret : EndsAfter c.secret.held
  pub settings : EndsAfter c.settings.held

pub after_of : (s : ServerState) (boxes : Boxes) (c : ClientState) → IsLedger s boxes → Agrees s boxes c → After c
after_of s boxes c k a = record { common = fits_after s.common c.common k.common a.common; secret = fits_after s.secret c.secret k.secret a.secret; settings = packs_after s boxes c a }

up_overlaid : (b : SettingsState) (xs : List Setting) (seq date : ℕ) → EndsAfter b.held → seq ≤ (overlaid b xs seq date).at
unfolding overlaid settle
up_overlaid b xs seq date after = reach_up (len b.held) seq b.held after

up_done : (c : ClientState) (b : Received) (last : Bool) (xs ys : List EventView) → After c → (last ≡ true → c.settings.at ≤ b.state.seq) → Up c (group_done last c b xs ys)
up_done c b true xs ys f le = record {
  common = omega (arith, extend_up count_of c.common xs true f.common);
  secret = omega (arith, extend_up count_of c.secret ys true f.secret);
  settings = omega (arith, le refl, up_overlaid c.settings b.settings b.state.seq b.state.date f.settings);
}
up_done c b false xs ys f le = record {
  common = omega (arith, extend_up count_of c.common xs false f.common);
  secret = omega (arith, extend_up count_of c.secret ys false f.secret);
  settings = omega arith;
}

not_back : (last : Bool) (seq at : ℕ) → (last && ltb seq at) ≡ false → last ≡ true → at ≤ seq
not_back true seq at e f = grind (arith, nat_tests)
not_back false seq at e f = absurd (let w : false ≡ true = f in cc)

up_taken : (c : ClientState) (b : Received) (xs ys : List EventView) (t : Bool) → (b.last && ltb b.state.seq c.settings.at) ≡ t → After c → Up c (after_reply c (group_taken t c b xs ys))
up_taken c b xs ys true e f = up_none c
up_taken c b xs ys false e f = up_done c b b.last xs ys f (not_back b.last b.state.seq c.settings.at e)

up_woven : (c : ClientState) (b : Received) (o p : Result (List EventView) WeaveFault) → After c → Up c (after_reply c (group_woven c b o p))
up_woven c b (Err cause) p f = up_none c
up_woven c b (Ok xs) (Err cause) f = up_none c
up_woven c b (Ok xs) (Ok ys) f = up_taken c b xs ys (b.last && ltb b.state.seq c.settings.at) refl f

pub up_group : (c : ClientState) (v : Reply) → After c → Up c (after_reply c (group_replied c v))
up_group c (reply_of.State state) f = up_none c
up_group c (reply_of.Empty date seq) f = let b : Received = nothing_new c date seq in up_woven c b (woven_of c.common.at b.state.pts b.news b.others) (woven_of c.secret.at b.state.qts b.secrets []) f
up_group c (reply_of.Difference news secrets others settings state last) f =
    let b : Received = record { news = news; secrets = secrets; others = others; settings = settings; state = state; last = last } in
    up_woven c b (woven_of c.common.at b.state.pts b.news b.others) (woven_of c.secret.at b.state.qts b.secrets []) f
up_group c (reply_of.Channel r) f = up_none c
up_group c (reply_of.Receipt r) f = up_none c
up_group c (reply_of.Error code text) f = up_none c

-- ---- replies to channels

same_answered : (c : ClientState) (a : Answered) → Same c (after_reply c (by_channels c a))
same_answered c stale = same_none c
same_answered c (refused cause) = same_none c
same_answered c (taken channels) = record { common = refl; secret = refl; settings = refl }

same_channel : (c : ClientState) (n : ℕ) (v : Reply) → Same c (after_reply c (channel_replied c n v))
same_channel c n (reply_of.State state) = same_none c
same_channel c n (reply_of.Empty date seq) = same_none c
same_channel c n (reply_of.Difference news secrets others settings state last) = same_none c
same_channel c n (reply_of.Channel r) = same_answered c (answered c.channels n r)
same_channel c n (reply_of.Receipt r) = same_none c
same_channel c n (reply_of.Error code text) = same_none c

same_if : (c : ClientState) (n : ℕ) (v : Reply) (b : Bool) → Same c (after_reply c (cond b (channel_replied c n v) ignored))
same_if c n v true = same_channel c n v
same_if c n v false = same_none c

same_other : (c : ClientState) (n : ℕ) (v : Reply) (b : Bool) → b ≡ false → Same c (after_reply c (cond b (group_replied c v) (cond (is_some (first (asks_number n) c.channels)) (channel_replied c n v) ignored)))
same_other c n v true e = absurd (let w : true ≡ false = e in cc)
same_other c n v false e = same_if c n v (is_some (first (asks_number n) c.channels))

-- a reply that the group doesn't ask for leaves it
pub same_unasked : (c : ClientState) (n : ℕ) (v : Reply) → is_asking n c.common.mode ≡ false → Same c (after_reply c (replied c n v))
same_unasked c n v e = same_other c n v (is_asking n c.common.mode) e

up_whom : (c : ClientState) (n : ℕ) (v : Reply) (b : Bool) → After c → Up c (after_reply c (cond b (group_replied c v) (cond (is_some (first (asks_number n) c.channels)) (channel_replied c n v) ignored)))
up_whom c n v true f = up_group c v f
up_whom c n v false f = up_same c (after_reply c (cond (is_some (first (asks_number n) c.channels)) (channel_replied c n v) ignored)) (same_if c n v (is_some (first (asks_number n) c.channels)))

pub up_replied : (c : ClientState) (n : ℕ) (v : Reply) → After c → Up c (after_reply c (replied c n v))
up_replied c n v f = up_whom c n v (is_asking n c.common.mode) f

-- ---- parts that aren't the last

same_becomes : (c d : ClientState) → becomes c ≡ becomes d → d ≡ c
same_becomes c d e = let same : c ≡ d = cc in sym same

again_taken : (c : ClientState) (b : Received) (xs ys : List EventView) (t : Bool) (d : ClientState) → b.last ≡ false → group_taken t c b xs ys ≡ becomes d → d.common.mode ≡ Again
again_taken c b xs ys true d part e = absurd cc
again_taken c b xs ys false d part e =
    ap (λ (x : ClientState). x.common.mode) (same_becomes (group_done b.last c b xs ys) d e)
    ∙ ap (λ (t : Bool). (group_done t c b xs ys).common.mode) part
    ∙ extend_again c.common xs

again_woven : (c : ClientState) (b : Received) (o p : Result (List EventView) WeaveFault) (d : ClientState) → b.last ≡ false → group_woven c b o p ≡ becomes d → d.common.mode ≡ Again
again_woven c b (Err cause) p d part e = absurd cc
again_woven c b (Ok xs) (Err cause) d part e = absurd cc
again_woven c b (Ok xs) (Ok ys) d part e = again_taken c b xs ys (b.last && ltb b.state.seq c.settings.at) d part e

pub again_group : (c : ClientState) (v : Reply) (d : ClientState) → is_final v ≡ false → group_replied c v ≡ becomes d → d.common.mode ≡ Again
again_group c (reply_of.State state) d part e = absurd cc
again_group c (reply_of.Empty date seq) d part e = absurd (let w : true ≡ false = part in cc)
again_group c (reply_of.Difference news secrets others settings state last) d part e =
    let b : Received = record { news = news; secrets = secrets; others = others; settings = settings; state = state; last = last } in
    again_woven c b (woven_of c.common.at b.state.pts b.news b.others) (woven_of c.secret.at b.state.qts b.secrets []) d part e
again_group c (reply_of.Channel r) d part e = absurd cc
again_group c (reply_of.Receipt r) d part e = absurd cc
again_group c (reply_of.Error code text) d part e = absurd cc
