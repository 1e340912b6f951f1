-- Whatever reply of the pool a client receives, it is taken, or nobody asks its number.
use Rattle.std.proofs.Common.{◌≡◌, ◌≤◌, length, ℕ, ℤ, pos, Bool, true, false, cond, is_some, Option, Some, None, refl, sym, ap, ◌∙◌, subst}
use Rattle.box_events.specs.Boxes.{IsBoundary}
use Rattle.box_events.specs.declared.replies.Reply.{Reply}
use Rattle.box_events.specs.declared.requests.Request.{Request}
use Rattle.box_events.specs.declared.requests.Request.TheVariants.{Difference, Channel}
use Rattle.pts_machine.specs.declared.mode.Mode.TheVariants.{Asking}
use Rattle.channel_box.specs.States.{ChannelState, first}
use Rattle.channel_box.specs.Steps.{is_asking, asks_number}
use Rattle.box_server.specs.Servers.{ServerState, channel_in}
use Rattle.box_server.specs.Answers.{difference_of, channel_difference, answer}
use Rattle.box_client.specs.States.{ClientState}
use Rattle.box_client.specs.Replies.{Outcome, ignored, group_replied, channel_replied, replied}
use Rattle.box_world.specs.Agreeing.{Reaches, Boxes, Agrees}
use Rattle.box_world.specs.Awaiting.{GroupAsks, ChannelAsksBy, Awaits}
use Rattle.box_world.specs.Growing.{Continues, IsLedger}
use Rattle.box_world.specs.Requesting.{GroupFits, RequestFits}
use Rattle.box_world.proofs.Replying.{Carries, Told, stale, told_as, told_group}
use Rattle.box_world.proofs.ChannelReplying.{first_has, is_asked, told_channel}

same_pos : (a b : ℕ) → pos a ≡ pos b → a ≡ b
same_pos a b e = cc

-- the group's positions are those of its request
group_fits : (m : ServerState) (whole : Boxes) (c : ClientState) (r : Request) (seq : ℕ) → GroupAsks (Some (record { request = r; seq = seq })) c.common.at c.secret.at c.settings.date c.settings.at → RequestFits m whole r seq
    → GroupFits m c.common.at c.secret.at c.settings.at
group_fits m whole c r seq asks f =
    let h = subst (λ (x : Request). RequestFits m whole x seq) asks.0 f in
    let ep : h.0 ≡ c.common.at = sym (same_pos c.common.at h.0 h.2) in
    let eq : h.1 ≡ c.secret.at = sym (same_pos c.secret.at h.1 h.3) in
    let g = h.4 in
    record { common = subst (IsBoundary m.common) ep g.common; secret = subst (IsBoundary m.secret) eq g.secret; settings = subst (λ (n : ℕ). n ≤ length m.settings) asks.1 g.settings }

pub answer_is : (m : ServerState) (c : ClientState) → answer m (Difference (pos c.common.at) (pos c.secret.at) c.settings.date) ≡ difference_of m (pos c.common.at) (pos c.secret.at) c.settings.date
unfolding answer
answer_is m c = refl

pub channel_answer_is : (m : ServerState) (id pts : ℤ) → answer m (Channel id pts) ≡ channel_difference (channel_in m.channels id) pts
unfolding answer
channel_answer_is m id pts = refl

told_by_group : (carries : Carries) (m s : ServerState) (whole boxes : Boxes) (c : ClientState) (n : ℕ) (r : Request) (seq : ℕ) (v : Reply) → IsLedger m whole → IsLedger s boxes → Continues m s whole boxes → Agrees s boxes c
    → RequestFits m whole r seq → v ≡ answer m r → Awaits n (record { request = r; seq = seq }) c → c.common.mode ≡ Asking n → Told s boxes c (Reaches m v) (group_replied c v)
told_by_group carries m s whole boxes c n r seq v km k g a f is u e =
    let asks = u.asks.group e in
    let w : Reply = difference_of m (pos c.common.at) (pos c.secret.at) c.settings.date in
    let same : v ≡ w = is ∙ ap (answer m) asks.0 ∙ answer_is m c in
    told_as s boxes c (Reaches m w) (Reaches m v) (group_replied c w) (group_replied c v) (ap (group_replied c) same) (λ d h. subst (λ (x : Reply). Reaches m x d) (sym same) h)
    (told_group carries m s whole boxes c km k g a (group_fits m whole c r seq asks f))

pub channel_fits : (m : ServerState) (whole : Boxes) (d : ChannelState) (r : Request) (seq : ℕ) → r ≡ Channel d.id (pos d.lane.at) → RequestFits m whole r seq → IsBoundary (whole d.id) d.lane.at
channel_fits m whole d r seq e f =
    let h = subst (λ (x : Request). RequestFits m whole x seq) e f in
    subst (IsBoundary (whole d.id)) (sym (same_pos d.lane.at h.0 h.1)) h.2

told_by_channel : (m s : ServerState) (whole boxes : Boxes) (c : ClientState) (n : ℕ) (r : Request) (seq : ℕ) (v : Reply) (o : Option ChannelState) → first (asks_number n) c.channels ≡ o → IsLedger m whole → IsLedger s boxes
    → Continues m s whole boxes → Agrees s boxes c → RequestFits m whole r seq → v ≡ answer m r → Awaits n (record { request = r; seq = seq }) c → Told s boxes c (Reaches m v) (cond (is_some o) (channel_replied c n v) ignored)
told_by_channel m s whole boxes c n r seq v None at km k g a f is w = stale refl
told_by_channel m s whole boxes c n r seq v (Some d) at km k g a f is u =
    let here = first_has (ChannelAsksBy n (Some (record { request = r; seq = seq }))) (asks_number n) c.channels d u.asks.channels at in
    let asks = here.0 (is_asked n d.lane.mode here.1) in
    let w : Reply = channel_difference (channel_in m.channels d.id) (pos d.lane.at) in
    let same : v ≡ w = is ∙ ap (answer m) asks ∙ channel_answer_is m d.id (pos d.lane.at) in
    told_as s boxes c (Reaches m w) (Reaches m v) (channel_replied c n w) (channel_replied c n v) (ap (channel_replied c n) same) (λ e h. subst (λ (x : Reply). Reaches m x e) (sym same) h)
    (told_channel m s whole boxes c n d km k g a at (channel_fits m whole d r seq asks f))

told_if : (s : ServerState) (boxes : Boxes) (c : ClientState) (P : ClientState → Type 0) (b : Bool) (x y : Outcome) → (b ≡ true → Told s boxes c P x) → Told s boxes c P y → Told s boxes c P (cond b x y)
told_if s boxes c P true x y f g = f refl
told_if s boxes c P false x y f g = g

pub told : (carries : Carries) (m s : ServerState) (whole boxes : Boxes) (c : ClientState) (n : ℕ) (r : Request) (seq : ℕ) (v : Reply) → IsLedger m whole → IsLedger s boxes → Continues m s whole boxes → Agrees s boxes c
    → RequestFits m whole r seq → v ≡ answer m r → Awaits n (record { request = r; seq = seq }) c → Told s boxes c (Reaches m v) (replied c n v)
told carries m s whole boxes c n r seq v km k g a f is w =
    told_if s boxes c (Reaches m v) (is_asking n c.common.mode) (group_replied c v) (cond (is_some (first (asks_number n) c.channels)) (channel_replied c n v) ignored)
    (λ e. told_by_group carries m s whole boxes c n r seq v km k g a f is w (is_asked n c.common.mode e))
    (told_by_channel m s whole boxes c n r seq v (first (asks_number n) c.channels) refl km k g a f is w)
