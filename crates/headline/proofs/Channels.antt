-- What each step does to the channel at an index: its id stays, and its pts doesn't fall.
use Rattle.std.proofs.Common.{◌≡◌, ◌⊎◌, inl, inr, ℕ, zero, suc, ◌+◌, ◌-◌, ◌<◌, ◌≤◌, ℤ, List, [], ◌∷◌, ◌++◌, map as each, Bool, true, false, cond, is_some, ltb, Option, Some, None, Result, Ok, Err, refl, sym, ap, ◌∙◌, subst, arith}
use Rattle.std.specs.Prelude.{◌&&◌, slice_get}
use Rattle.std.specs.FinMap.{len}
use Rattle.std.proofs.lemmas.Option.{none-some, same_Some}
use Rattle.box_events.specs.Events.{EventView, count_of}
use Rattle.box_events.specs.Boxes.{ending}
use Rattle.box_events.specs.declared.replies.ChannelReply.{ChannelReply}
use Rattle.box_events.specs.declared.replies.ChannelReply.TheVariants.{Empty as EmptyPart, Part, TooLong as FarPart}
use Rattle.box_events.specs.declared.replies.Reply.{Reply}
use Rattle.box_events.specs.declared.replies.Reply.TheVariants as reply_of
use Rattle.box_events.specs.declared.settings.Setting.{Setting}
use Rattle.box_events.specs.declared.updates.Push.{Push}
use Rattle.box_events.specs.declared.updates.Push.TheVariants.{TooLong, Container}
use Rattle.box_events.specs.declared.updates.Update.{Update}
use Rattle.box_events.specs.declared.updates.Update.TheVariants.{Common, Secret, Channel, ChannelTooLong, Setting as SettingUpdate}
use Rattle.box_events.specs.Weaves.{woven_of}
use Rattle.box_events.specs.declared.difference_fault.WeaveFault.{WeaveFault}
use Rattle.pts_machine.specs.Chains.{EndsAfter}
use Rattle.pts_machine.specs.declared.mode.Mode.{Mode}
use Rattle.pts_machine.specs.declared.mode.Mode.TheVariants.{Live, Asking, Again}
use Rattle.pts_machine.specs.States.{LaneState}
use Rattle.pts_machine.specs.Steps.{extend, forget, hear, new_lane, restart_at, settle}
use Rattle.pts_machine.proofs.Fitting.{fits_after}
use Rattle.pts_machine.proofs.Moves.{extend_up, hear_mode, hear_up}
use Rattle.channel_box.specs.States.{ChannelState, first, has_id}
use Rattle.channel_box.specs.Looks.{is_waiting}
use Rattle.channel_box.specs.Steps.{asks_number, at_first, channel_asks, channel_is_due, channel_of, flagged, forgot, forgotten, grown, heard, heard_by, is_asking, is_due, may_watch, ticked, told_too_long, watched, watched_if, woken}
use Rattle.box_server.specs.Servers.{ServerState}
use Rattle.box_server.specs.Growing.{AllLie}
use Rattle.box_client.specs.declared.received.Received.{Received}
use Rattle.box_client.specs.Pushes.{all_updated, pack_heard, pushed, settings_in, updated}
use Rattle.box_client.specs.Replies.{Outcome, ignored, becomes, channel_replied, group_done, group_replied, group_taken, group_woven, nothing_new, replied}
use Rattle.box_client.specs.States.{ClientState}
use Rattle.box_world.specs.Agreeing.{Agrees, Boxes, ChannelAgrees, Each, is_last_part}
use Rattle.box_world.specs.Growing.{IsLedger}
use Rattle.box_world.specs.Pushing.{PushLies}
use Rattle.box_world.specs.Worlds.{after_reply}
use Rattle.box_world.proofs.ChannelReplying.{Taken, TakenFrom, answered_is, first_has}
use Rattle.box_world.proofs.Pushing.{goes_updates}
use Rattle.headline.proofs.Upward.{lies_order}

-- ---- lists

pub each_index : {A : Type 0} (P : A → Type 0) (xs : List A) (i : ℕ) (x : A) → Each P xs → slice_get xs i ≡ Some x → P x
each_index P [] i x h is = absurd (none-some x is)
each_index P (y ∷ ys) zero x h is = subst P (same_Some y x is) h.0
each_index P (y ∷ ys) (suc i) x h is = each_index P ys i x h.1 is

pub map_index : {A B : Type 0} (f : A → B) (xs : List A) (i : ℕ) (x : A) → slice_get xs i ≡ Some x → slice_get (each f xs) i ≡ Some (f x)
map_index f [] i x is = absurd (none-some x is)
map_index {A} {B} f (y ∷ ys) zero x is = ap (λ (z : A). Some (f z)) (same_Some y x is)
map_index f (y ∷ ys) (suc i) x is = map_index f ys i x is

pub append_index : {A : Type 0} (xs ys : List A) (i : ℕ) (x : A) → slice_get xs i ≡ Some x → slice_get (xs ++ ys) i ≡ Some x
append_index [] ys i x is = absurd (none-some x is)
append_index (y ∷ xs) ys zero x is = is
append_index (y ∷ xs) ys (suc i) x is = append_index xs ys i x is

-- the channel at an index is the first of which p holds, and takes the step; or it stays
abbrev AtFirst : (ChannelState → Bool) → (ChannelState → ChannelState) → List ChannelState → ℕ → ChannelState → List ChannelState → Type 0
AtFirst p f cs i x ds = (slice_get ds i ≡ Some x) ⊎ ((first p cs ≡ Some x) × (slice_get ds i ≡ Some (f x)))

at_first_by : (p : ChannelState → Bool) (f : ChannelState → ChannelState) (c : ChannelState) (cs : List ChannelState) (i : ℕ) (x : ChannelState) (b : Bool) → p c ≡ b → slice_get (c ∷ cs) i ≡ Some x
    → ((j : ℕ) → slice_get cs j ≡ Some x → AtFirst p f cs j x (at_first p f cs)) → (slice_get (cond b (f c ∷ cs) (c ∷ at_first p f cs)) i ≡ Some x) ⊎ ((cond b (Some c) (first p cs) ≡ Some x) × (slice_get (cond b (f c ∷ cs) (c ∷ at_first p f cs)) i ≡ Some (f x)))
at_first_by p f c cs zero x true e is rest = inr (is, ap (λ (y : ChannelState). Some (f y)) (same_Some c x is))
at_first_by p f c cs zero x false e is rest = inl is
at_first_by p f c cs (suc i) x true e is rest = inl is
at_first_by p f c cs (suc i) x false e is rest = rest i is

pub at_first_index : (p : ChannelState → Bool) (f : ChannelState → ChannelState) (cs : List ChannelState) (i : ℕ) (x : ChannelState) → slice_get cs i ≡ Some x → AtFirst p f cs i x (at_first p f cs)
at_first_index p f [] i x is = absurd (none-some x is)
at_first_index p f (c ∷ cs) i x is = at_first_by p f c cs i x (p c) refl is (λ j at. at_first_index p f cs j x at)

first_by : (p : ChannelState → Bool) (c : ChannelState) (cs : List ChannelState) (x e : ChannelState) (b : Bool) → cond b (Some c) (first p cs) ≡ Some x → (first p cs ≡ Some x → (i : ℕ) × (slice_get cs i ≡ Some x) × (slice_get (at_first p (λ _. e) cs) i ≡ Some e))
    → (i : ℕ) × (slice_get (c ∷ cs) i ≡ Some x) × (slice_get (cond b (e ∷ cs) (c ∷ at_first p (λ _. e) cs)) i ≡ Some e)
first_by p c cs x e true is rest = (0, is, refl)
first_by p c cs x e false is rest = let r = rest is in (suc r.0, r.1, r.2)

-- where the first is, it stands after the step
pub first_index : (p : ChannelState → Bool) (cs : List ChannelState) (x e : ChannelState) → first p cs ≡ Some x → (i : ℕ) × (slice_get cs i ≡ Some x) × (slice_get (at_first p (λ _. e) cs) i ≡ Some e)
first_index p [] x e is = absurd (none-some x is)
first_index p (c ∷ cs) x e is = first_by p c cs x e (p c) is (λ at. first_index p cs x e at)

-- ---- the channel at an index, after a step

-- it waits as before
pub record Stands (x : ChannelState) (ds : List ChannelState) (i : ℕ) : Type 0 where
  pub channel : ChannelState
  pub is : slice_get ds i ≡ Some channel
  pub id : channel.id ≡ x.id
  pub up : x.lane.at ≤ channel.lane.at
  pub mode : channel.lane.mode ≡ x.lane.mode

pub stands_same : (x : ChannelState) (ds : List ChannelState) (i : ℕ) → slice_get ds i ≡ Some x → Stands x ds i
stands_same x ds i is = record { channel = x; is = is; id = refl; up = omega arith; mode = refl }

-- ---- pushes

heard_stands : (s : ServerState) (boxes : Boxes) (c : ClientState) (id : ℤ) (event : EventView) (pts : ℕ) (i : ℕ) (x : ChannelState) → IsLedger s boxes → Agrees s boxes c → pts - count_of event < pts → slice_get c.channels i ≡ Some x
    → Stands x (heard c.channels id (pts - count_of event) pts event) i
heard_stands s boxes c id event pts i x k a lt is =
    let start : ℕ = pts - count_of event in
    let fits = each_index (λ d. ChannelAgrees (boxes d.id) d) c.channels i x a.channels is in
    elim (at_first_index (has_id id) (λ d. heard_by d (hear d.lane start pts event)) c.channels i x is) as (λ z. Stands x (heard c.channels id start pts event) i) [
      | inl same ↦ stands_same x (heard c.channels id start pts event) i same
      | inr new ↦ record {
        channel = heard_by x (hear x.lane start pts event);
        is = new.1;
        id = refl;
        up = hear_up x.lane start pts event (fits_after (boxes x.id) x.lane (k.channels x.id) fits.lane) lt;
        mode = hear_mode x.lane start pts event;
      }
    ]

told_stands : (cs : List ChannelState) (id : ℤ) (i : ℕ) (x : ChannelState) → slice_get cs i ≡ Some x → Stands x (told_too_long cs id) i
told_stands cs id i x is = elim (at_first_index (has_id id) flagged cs i x is) as (λ z. Stands x (told_too_long cs id) i) [
  | inl same ↦ stands_same x (told_too_long cs id) i same
  | inr new ↦ record { channel = flagged x; is = new.1; id = refl; up = omega arith; mode = refl }
]

pub stands_then : (x : ChannelState) (cs ds : List ChannelState) (i : ℕ) (g : Stands x cs i) → Stands g.channel ds i → Stands x ds i
stands_then x cs ds i g h = record { channel = h.channel; is = h.is; id = h.id ∙ g.id; up = omega (arith, g.up, h.up); mode = h.mode ∙ g.mode }

updates_stand : (s : ServerState) (boxes : Boxes) (c : ClientState) (us : List Update) (i : ℕ) (x : ChannelState) → IsLedger s boxes → AllLie s boxes us → Agrees s boxes c → slice_get c.channels i ≡ Some x → Stands x (all_updated c us).channels i
updates_stand s boxes c [] i x k lie a is = stands_same x c.channels i is
updates_stand s boxes c (Common event pts ∷ us) i x k lie a is =
    updates_stand s boxes (updated c (Common event pts)) us i x k lie.1 (goes_updates s boxes c (Common event pts ∷ []) k (lie.0, tt) a).agrees is
updates_stand s boxes c (Secret body qts ∷ us) i x k lie a is =
    updates_stand s boxes (updated c (Secret body qts)) us i x k lie.1 (goes_updates s boxes c (Secret body qts ∷ []) k (lie.0, tt) a).agrees is
updates_stand s boxes c (Channel id event pts ∷ us) i x k lie a is =
    let next : ClientState = updated c (Channel id event pts) in
    let one = heard_stands s boxes c id event pts i x k a (lies_order (boxes id) (pts - count_of event) pts event (k.channels id) lie.0) is in
    stands_then x next.channels (all_updated next us).channels i one (updates_stand s boxes next us i one.channel k lie.1 (goes_updates s boxes c (Channel id event pts ∷ []) k (lie.0, tt) a).agrees one.is)
updates_stand s boxes c (ChannelTooLong id ∷ us) i x k lie a is =
    let next : ClientState = updated c (ChannelTooLong id) in
    let one = told_stands c.channels id i x is in
    stands_then x next.channels (all_updated next us).channels i one (updates_stand s boxes next us i one.channel k lie (goes_updates s boxes c (ChannelTooLong id ∷ []) k tt a).agrees one.is)
updates_stand s boxes c (SettingUpdate u ∷ us) i x k lie a is = updates_stand s boxes c us i x k lie a is

pub pack_channels : (b : Bool) (c : ClientState) (seq_start seq date : ℕ) (xs : List Setting) → (pack_heard b c seq_start seq date xs).channels ≡ c.channels
pack_channels true c seq_start seq date xs = refl
pack_channels false c seq_start seq date xs = refl

pub pushed_stands : (s : ServerState) (boxes : Boxes) (c : ClientState) (p : Push) (i : ℕ) (x : ChannelState) → IsLedger s boxes → PushLies s boxes p → Agrees s boxes c → slice_get c.channels i ≡ Some x → Stands x (pushed c p).channels i
pushed_stands s boxes c TooLong i x k lies a is = stands_same x c.channels i is
pushed_stands s boxes c (Container us date seq_start seq) i x k lies a is =
    subst (λ (l : List ChannelState). Stands x l i) (sym (pack_channels (ltb 0 seq) (all_updated c us) seq_start seq date (settings_in us))) (updates_stand s boxes c us i x k lies.0 a is)

-- ---- answers

-- a channel that asked the number took the reply: with a last part it stands at or past the end of `whole`, after another it is to ask again
pub record Took (c : ClientState) (n : ℕ) (v : Reply) (whole : List EventView) (x y : ChannelState) : Type 0 where
  pub free : is_asking n c.common.mode ≡ false
  pub whom : first (asks_number n) c.channels ≡ Some x
  pub reply : ChannelReply
  pub is : v ≡ reply_of.Channel reply
  pub asked : is_asking n x.lane.mode ≡ true
  pub final : is_last_part reply ≡ true → ending whole ≤ y.lane.at
  pub part : is_last_part reply ≡ false → y.lane.mode ≡ Again

-- it stands as before, or took the reply
pub record Answered (c : ClientState) (n : ℕ) (v : Reply) (whole : Boxes) (x : ChannelState) (ds : List ChannelState) (i : ℕ) : Type 0 where
  pub channel : ChannelState
  pub is : slice_get ds i ≡ Some channel
  pub id : channel.id ≡ x.id
  pub up : x.lane.at ≤ channel.lane.at
  pub how : (channel.lane.mode ≡ x.lane.mode) ⊎ Took c n v (whole x.id) x channel

answered_same : (c : ClientState) (n : ℕ) (v : Reply) (whole : Boxes) (x : ChannelState) (ds : List ChannelState) (i : ℕ) → slice_get ds i ≡ Some x → Answered c n v whole x ds i
answered_same c n v whole x ds i is = record { channel = x; is = is; id = refl; up = omega arith; how = inl refl }

pub same_channel : (a b : ChannelState) → ◌≡◌ {A = Result ChannelState WeaveFault} (Ok a) (Ok b) → a ≡ b
same_channel a b e = cc

up_grown : (x y : ChannelState) (last : Bool) (w : Result (List EventView) WeaveFault) → grown x last w ≡ Ok y → EndsAfter x.lane.held → x.lane.at ≤ y.lane.at
up_grown x y last (Ok xs) e after =
    let same : record x { lane = extend count_of x.lane xs last } ≡ y = same_channel _ y e in
    omega (arith, extend_up count_of x.lane xs last after, ap (λ (d : ChannelState). d.lane.at) same)
up_grown x y last (Err cause) e after = absurd cc

restart_live : (t : LaneState EventView) (p : ℕ) → (restart_at count_of t p).mode ≡ Live
unfolding restart_at extend settle
restart_live t p = refl

live_again : (m : Mode) → m ≡ Live → m ≡ Again → ⊥
live_again m e f = absurd (let w : Live ≡ Again = sym e ∙ f in cc)

up_taken : (whole box : List EventView) (x : ChannelState) (r : ChannelReply) (t : Taken whole box x r) → EndsAfter x.lane.held → x.lane.at ≤ ending whole → x.lane.at ≤ t.channel.lane.at
up_taken whole box x (EmptyPart pts last) t after le = up_grown x t.channel last (woven_of x.lane.at pts [] []) t.is after
up_taken whole box x (Part pts news others last) t after le = up_grown x t.channel last (woven_of x.lane.at pts news others) t.is after
up_taken whole box x (FarPart pts recent true) t after le = let far = t.reaches refl in omega (arith, far, le)
up_taken whole box x (FarPart pts recent false) t after le =
    let same : record x { lane = restart_at count_of x.lane pts; recent = recent } ≡ t.channel = same_channel _ t.channel t.is in
    absurd (live_again t.channel.lane.mode (ap (λ (d : ChannelState). d.lane.mode) (sym same) ∙ restart_live x.lane pts) (t.goes_on refl).0)

-- the group's answers leave the channels

done_channels : (last : Bool) (c : ClientState) (b : Received) (xs ys : List EventView) → (group_done last c b xs ys).channels ≡ c.channels
done_channels true c b xs ys = refl
done_channels false c b xs ys = refl

taken_channels : (t : Bool) (c : ClientState) (b : Received) (xs ys : List EventView) → (after_reply c (group_taken t c b xs ys)).channels ≡ c.channels
taken_channels true c b xs ys = refl
taken_channels false c b xs ys = done_channels b.last c b xs ys

woven_channels : (c : ClientState) (b : Received) (o p : Result (List EventView) WeaveFault) → (after_reply c (group_woven c b o p)).channels ≡ c.channels
woven_channels c b (Err cause) p = refl
woven_channels c b (Ok xs) (Err cause) = refl
woven_channels c b (Ok xs) (Ok ys) = taken_channels (b.last && ltb b.state.seq c.settings.at) c b xs ys

pub group_channels : (c : ClientState) (v : Reply) → (after_reply c (group_replied c v)).channels ≡ c.channels
group_channels c (reply_of.State state) = refl
group_channels c (reply_of.Empty date seq) = let b : Received = nothing_new c date seq in woven_channels c b (woven_of c.common.at b.state.pts b.news b.others) (woven_of c.secret.at b.state.qts b.secrets [])
group_channels c (reply_of.Difference news secrets others settings state last) =
    let b : Received = record { news = news; secrets = secrets; others = others; settings = settings; state = state; last = last } in
    woven_channels c b (woven_of c.common.at b.state.pts b.news b.others) (woven_of c.secret.at b.state.qts b.secrets [])
group_channels c (reply_of.Channel r) = refl
group_channels c (reply_of.Receipt r) = refl
group_channels c (reply_of.Error code text) = refl

-- the reply is what a server answers that had these boxes: to the channel that takes it
abbrev pub HonestTo : Boxes → ClientState → ℕ → Reply → Boxes → Type 0
HonestTo boxes c n v whole = (x : ChannelState) → is_asking n c.common.mode ≡ false → first (asks_number n) c.channels ≡ Some x → (x.lane.at ≤ ending (whole x.id)) × TakenFrom (whole x.id) (boxes x.id) x v

module _ (s : ServerState) (boxes : Boxes) (c : ClientState) (n : ℕ) (v : Reply) (whole : Boxes) (k : IsLedger s boxes) (a : Agrees s boxes c) (honest : HonestTo boxes c n v whole) (i : ℕ) (x : ChannelState) (is : slice_get c.channels i ≡ Some x) where
  channel_answered : (y : ChannelState) → is_asking n c.common.mode ≡ false → first (asks_number n) c.channels ≡ Some y → Answered c n v whole x (after_reply c (channel_replied c n v)).channels i
  channel_answered y free f =
      let h = honest y free f in
      let t = h.1.taken in
      let ds : List ChannelState = at_first (asks_number n) (λ _. t.channel) c.channels in
      let becoming : channel_replied c n v ≡ becomes (record c { channels = ds }) = ap (channel_replied c n) h.1.is ∙ answered_is c n y h.1.reply t.channel f t.is in
      let own = first_has (λ d. ChannelAgrees (boxes d.id) d) (asks_number n) c.channels y a.channels f in
      let after : EndsAfter y.lane.held = fits_after (boxes y.id) y.lane (k.channels y.id) own.0.lane in
      subst (λ (o : Outcome). Answered c n v whole x (after_reply c o).channels i) (sym becoming)
      (elim (at_first_index (asks_number n) (λ _. t.channel) c.channels i x is) as (λ z. Answered c n v whole x ds i) [
        | inl same ↦ answered_same c n v whole x ds i same
        | inr new ↦ (
            let here : y ≡ x = same_Some y x (sym f ∙ new.0) in
            subst (λ (z : ChannelState). Answered c n v whole z ds i) here (record {
              channel = t.channel;
              is = new.1;
              id = t.id;
              up = up_taken (whole y.id) (boxes y.id) y h.1.reply t after h.0;
              how = inr (record { free = free; whom = f; reply = h.1.reply; is = h.1.is; asked = own.1; final = t.reaches; part = λ e. (t.goes_on e).0 });
            }))
      ])

  one_answered : (o : Option ChannelState) → first (asks_number n) c.channels ≡ o → is_asking n c.common.mode ≡ false → Answered c n v whole x (after_reply c (cond (is_some o) (channel_replied c n v) ignored)).channels i
  one_answered None f free = answered_same c n v whole x c.channels i is
  one_answered (Some y) f free = channel_answered y free f

  whom_answered : (b : Bool) → is_asking n c.common.mode ≡ b → Answered c n v whole x (after_reply c (cond b (group_replied c v) (cond (is_some (first (asks_number n) c.channels)) (channel_replied c n v) ignored))).channels i
  whom_answered true e = answered_same c n v whole x (after_reply c (group_replied c v)).channels i (ap (λ (l : List ChannelState). slice_get l i) (group_channels c v) ∙ is)
  whom_answered false e = one_answered (first (asks_number n) c.channels) refl e

  pub replied_answered : Answered c n v whole x (after_reply c (replied c n v)).channels i
  replied_answered = whom_answered (is_asking n c.common.mode) refl

-- ---- what a client does by itself

-- after a tick it waits where it waited, was to ask again, or was flagged
pub record Ticks (x : ChannelState) (ds : List ChannelState) (i : ℕ) : Type 0 where
  pub channel : ChannelState
  pub is : slice_get ds i ≡ Some channel
  pub id : channel.id ≡ x.id
  pub at : channel.lane.at ≡ x.lane.at
  pub waits : is_waiting x.lane.mode ≡ true → is_waiting channel.lane.mode ≡ true
  pub again : x.lane.mode ≡ Again → is_waiting channel.lane.mode ≡ true
  pub flag : x.flag ≡ true → is_waiting channel.lane.mode ≡ true

not_due_again : (d : ChannelState) → channel_is_due d ≡ false → d.lane.mode ≡ Again → ⊥
not_due_again d e w = absurd (let due : channel_is_due d ≡ true = ap (is_due d.flag (len d.lane.held)) w in let no : true ≡ false = sym due ∙ e in cc)

not_due_flag : (d : ChannelState) (m : Mode) → d.lane.mode ≡ m → channel_is_due d ≡ false → d.flag ≡ true → is_waiting d.lane.mode ≡ true
not_due_flag d Live w e f = absurd (let due : channel_is_due d ≡ true = ap (is_due d.flag (len d.lane.held)) w ∙ ap (λ (t : Bool). is_due t (len d.lane.held) Live) f in let no : true ≡ false = sym due ∙ e in cc)
not_due_flag d Again w e f = absurd (not_due_again d e w)
not_due_flag d (Asking k) w e f = ap is_waiting w

asks_now : (d : ChannelState) (n : ℕ) (ds : List ChannelState) → Ticks d (channel_asks d n ∷ ds) 0
asks_now d n ds = record { channel = channel_asks d n; is = refl; id = refl; at = refl; waits = λ w. refl; again = λ w. refl; flag = λ w. refl }

asks_not : (d : ChannelState) (ds : List ChannelState) → channel_is_due d ≡ false → Ticks d (d ∷ ds) 0
asks_not d ds e = record { channel = d; is = refl; id = refl; at = refl; waits = λ w. w; again = λ w. absurd (not_due_again d e w); flag = λ f. not_due_flag d d.lane.mode refl e f }

ticks_later : (x d : ChannelState) (ds : List ChannelState) (i : ℕ) → Ticks x ds i → Ticks x (d ∷ ds) (suc i)
ticks_later x d ds i t = record { channel = t.channel; is = t.is; id = t.id; at = t.at; waits = t.waits; again = t.again; flag = t.flag }

ticked_by : (n : ℕ) (d : ChannelState) (ds : List ChannelState) (i : ℕ) (x : ChannelState) (b : Bool) → channel_is_due d ≡ b → slice_get (d ∷ ds) i ≡ Some x → ((m j : ℕ) → slice_get ds j ≡ Some x → Ticks x (ticked m ds).channels j)
    → Ticks x (ticked n (d ∷ ds)).channels i
ticked_by n d ds zero x true e is rest = rw e (subst (λ (y : ChannelState). Ticks y (channel_asks d n ∷ (ticked (n + 1) ds).channels) 0) (same_Some d x is) (asks_now d n (ticked (n + 1) ds).channels))
ticked_by n d ds zero x false e is rest = rw e (subst (λ (y : ChannelState). Ticks y (d ∷ (ticked n ds).channels) 0) (same_Some d x is) (asks_not d (ticked n ds).channels e))
ticked_by n d ds (suc i) x true e is rest = rw e (ticks_later x (channel_asks d n) (ticked (n + 1) ds).channels i (rest (n + 1) i is))
ticked_by n d ds (suc i) x false e is rest = rw e (ticks_later x d (ticked n ds).channels i (rest n i is))

pub ticked_index : (ds : List ChannelState) (n i : ℕ) (x : ChannelState) → slice_get ds i ≡ Some x → Ticks x (ticked n ds).channels i
ticked_index [] n i x is = absurd (none-some x is)
ticked_index (d ∷ ds) n i x is = ticked_by n d ds i x (channel_is_due d) refl is (λ m j at. ticked_index ds m j x at)

pub woken_stands : (cs : List ChannelState) (i : ℕ) (x : ChannelState) → slice_get cs i ≡ Some x → Stands x (woken cs) i
woken_stands cs i x is = record { channel = flagged x; is = map_index flagged cs i x is; id = refl; up = omega arith; mode = refl }

forget_at : (t : LaneState EventView) → (forget t).at ≡ t.at
unfolding forget
forget_at t = refl

pub forgotten_up : (cs : List ChannelState) (i : ℕ) (x : ChannelState) → slice_get cs i ≡ Some x → (y : ChannelState) × (slice_get (woken (forgotten cs)) i ≡ Some y) × (y.id ≡ x.id) × (x.lane.at ≤ y.lane.at)
forgotten_up cs i x is = (flagged (forgot x), map_index flagged (forgotten cs) i (forgot x) (map_index forgot cs i x is), refl, omega (arith, forget_at x.lane))

watched_by : (b : Bool) (cs : List ChannelState) (d : ChannelState) (i : ℕ) (x : ChannelState) → slice_get cs i ≡ Some x → slice_get (watched_if b cs d) i ≡ Some x
watched_by true cs d i x is = append_index cs (d ∷ []) i x is
watched_by false cs d i x is = is

pub watched_stands : (cs : List ChannelState) (id : ℤ) (i : ℕ) (x : ChannelState) → slice_get cs i ≡ Some x → Stands x (watched cs id) i
watched_stands cs id i x is = stands_same x (watched cs id) i (watched_by (may_watch cs id) cs (channel_of id new_lane []) i x is)
