-- Each answer brings a client nearer to the end of its server's boxes.
use Rattle.std.proofs.Common.{◌≡◌, ◌⊎◌, inl, inr, ℕ, ◌+◌, ◌-◌, ◌≤◌, min, ℤ, pos, List, [], ◌∷◌, length, take, drop, map as each, Bool, true, false, ◌&&◌, ◌||◌, cond, eqb, ltb, is_some, Option, Some, None, refl, sym, ap, ap₂, ◌∙◌, subst, arith}
use Rattle.std.specs.Ordering.{nat_cmp}
use Rattle.std.specs.Cmp.{nat_cmp_total}
use Rattle.std.specs.FinMap.{get, len, empty, get-empty, len-empty, same_map, nat_cmp-IsAntisymmetric}
use Rattle.std.proofs.lemmas.List.{length-map, length-drop, length-take-le}
use Rattle.pts_machine.specs.Holding.{Items}
use Rattle.box_events.specs.declared.limits.TheConstants.{MAX_BEHIND, MAX_END, RUN_BYTES}
use Rattle.box_events.specs.declared.requests.Request.{Request}
use Rattle.box_events.specs.declared.requests.Request.TheVariants.{Channel}
use Rattle.box_events.specs.declared.replies.ChannelReply.{ChannelReply}
use Rattle.box_events.specs.declared.replies.Reply.{Reply}
use Rattle.std.proofs.lemmas.Option.{none-some, same_Some}
use Rattle.box_events.specs.declared.replies.Reply.TheVariants.{Empty, Difference}
use Rattle.box_events.specs.Events.{EventView, count_of}
use Rattle.box_events.specs.Boxes.{ending, AreCounted, Between}
use Rattle.box_events.specs.SettingLists.{Dated}
use Rattle.box_events.proofs.Stretches.{stretch_counts, stretch_inside}
use Rattle.pts_machine.specs.declared.mode.Mode.{Mode}
use Rattle.pts_machine.specs.declared.mode.Mode.TheVariants.{Live, Asking, Again}
use Rattle.pts_machine.specs.States.{LaneState, IsSound, StartAfter}
use Rattle.pts_machine.specs.Steps.{extend}
use Rattle.pts_machine.specs.Fitting.{Fits}
use Rattle.pts_machine.proofs.Fitting.{fits_after, fits_inside, fits_reaches, fits_sound}
use Rattle.pts_machine.proofs.Kept.{sound_extend}
use Rattle.pts_machine.specs.Packs.{Pack, size}
use Rattle.pts_machine.specs.SeqStates.{SettingsState, IsSoundState}
use Rattle.pts_machine.specs.Agreeing.{SettingsAgree}
use Rattle.pts_machine.proofs.StateSteps.{sound_overlaid, overlay_live}
use Rattle.channel_box.specs.States.{ChannelState, first}
use Rattle.channel_box.specs.Steps.{is_due, channel_is_due, ticked, at_first, asks_number, is_asking, woken}
use Rattle.channel_box.specs.Looks.{is_waiting, any_asks}
use Rattle.box_server.specs.Servers.{ServerState, state_of, channel_in}
use Rattle.box_server.specs.Entries.{bytes_of}
use Rattle.box_client.specs.States.{ClientState}
use Rattle.box_client.specs.Asking.{group_is_due, difference_of, group_ticked, ticks, wakes, is_one_asking}
use Rattle.box_client.specs.declared.received.Received.{Received}
use Rattle.box_client.specs.Replies.{Outcome, ignored, becomes, nothing_new, group_done, group_replied, channel_replied}
use Rattle.box_server.specs.Runs.{limited, run_of}
use Rattle.box_server.specs.Answers.{answer, is_whole, slice, last_by, carried, difference_by, channel_difference}
use Rattle.box_server.specs.Answers as server
use Rattle.box_server.specs.LastEntries.{changed_since}
use Rattle.box_events.specs.Weaving.{bodies, others_from}
use Rattle.box_world.proofs.Answering.{RunAt, run_after, run_lies, whole_run, both_true, empty_run, each_right}
use Rattle.box_world.proofs.Continuing.{continues_same}
use Rattle.box_world.proofs.Telling.{answer_is, channel_answer_is}
use Rattle.box_world.proofs.Ticking.{stands_at}
use Rattle.box_world.proofs.GoingOn.{agree_ticks, agree_wakes}
use Rattle.box_world.proofs.ChannelReplying.{first_small, sum_is, counted_right, Taken, first_has, is_asked, answered_is, channel_taken, goes_taken}
use Rattle.box_world.proofs.Pushing.{each_at_first}
use Rattle.box_world.proofs.Posting.{none_either}
use Rattle.box_world.proofs.Replying.{Carries, extend_live, extend_again, goes_done, done_past, Runs, runs_from, brought_slice, brought_last, slice_is, last_is, last_over, none_is, none_over, none_lies, no_settings}
use Rattle.box_world.specs.Agreeing.{Boxes, Each, ChannelAgrees, Agrees, IsPast, is_last_part}
use Rattle.box_world.specs.Growing.{IsLedger}
use Rattle.box_world.specs.Worlds.{after_reply}
use Rattle.box_world.specs.Streams.{Past, told_reply, heard_frame, begun, channel_request}
use Rattle.box_world.specs.Recovering.{AnswersEach, most_of_channels, most_frames}

-- ---- lanes that stand at the end hold nothing

none_by : {E : Type 0} (m : Items E) (s : ℕ) (o : Option (ℕ × E)) → get m s ≡ o → ((x : ℕ × E) → get m s ≡ Some x → ⊥) → get m s ≡ None
none_by m s None e h = e
none_by m s (Some x) e h = absurd (h x e)

holds_none : {E : Type 0} (m : Items E) → ((s : ℕ) (x : ℕ × E) → get m s ≡ Some x → ⊥) → len m ≡ 0
holds_none {E} m h = ap len (same_map nat_cmp_total nat_cmp-IsAntisymmetric m empty (λ s. none_by m s (get m s) refl (h s) ∙ sym (get-empty nat_cmp s))) ∙ len-empty nat_cmp (ℕ × E)

lane_holds_none : (box : List EventView) (t : LaneState EventView) → AreCounted box → Fits box t → StartAfter t.at t.held → ending box ≤ t.at → len t.held ≡ 0
lane_holds_none box t c f ahead le = holds_none t.held (λ s x is. absurd (omega (arith, le, ahead s x is, fits_after box t c f s x is, stretch_inside box s x.0 (x.1 ∷ []) (f.held s x is))))

-- a lane that asks is sound
asking_sound : (box : List EventView) (t : LaneState EventView) (n : ℕ) → AreCounted box → ending box ≤ MAX_END → Fits box t → t.mode ≡ Asking n → IsSound count_of t
asking_sound box t n c le f e = fits_sound box t c le f (λ live. absurd (let w : Asking n ≡ Live = sym e ∙ live in cc))

-- settings that ask are sound
pack_sized : (L : List Dated) (start end : ℕ) (p : Pack) → p.settings ≡ each (λ (e : Dated). e.setting) (drop start (take end L)) → end ≤ length L → size p ≡ end - start
pack_sized L start end p is le = omega (arith, ap length is, length-map (drop start (take end L)) (λ (e : Dated). e.setting), length-drop start (take end L), length-take-le end L le)

settings_sound : (L : List Dated) (now n : ℕ) (b : SettingsState) → length L ≤ MAX_END → SettingsAgree L now b → b.mode ≡ Asking n → IsSoundState b
settings_sound L now n b le a e = record {
  sized = λ s x is.
      let w = a.within s x is in
      (w.0, omega (arith, w.0, pack_sized L s x.0 x.1 (a.latest.held s x is).is w.1), omega (arith, w.1, le));
  ahead = λ live. absurd (let w : Asking n ≡ Live = sym e ∙ live in cc);
}

-- ---- how much is left

abbrev left_of : Bool → ℕ → ℕ
left_of true n = n
left_of false n = 0

abbrev group_held : ClientState → ℕ
group_held c = len c.common.held + len c.secret.held + len c.settings.held

abbrev busy : Bool → ℕ → Mode → Bool
busy flag held m = is_waiting m || is_due flag held m

abbrev left_group : ServerState → ClientState → ℕ
left_group s c = left_of (busy c.flag (group_held c) c.common.mode) ((ending s.common - c.common.at) + (ending s.secret - c.secret.at) + 1)

abbrev left_channel : Boxes → ChannelState → ℕ
left_channel boxes d = left_of (busy d.flag (len d.lane.held) d.lane.mode) (min (ending (boxes d.id) - d.lane.at) MAX_BEHIND + 1)

abbrev left_channels : Boxes → List ChannelState → ℕ
left_channels boxes [] = 0
left_channels boxes (d ∷ ds) = left_channel boxes d + left_channels boxes ds

abbrev left : ServerState → Boxes → ClientState → ℕ
left s boxes c = left_group s c + left_channels boxes c.channels

or_true : (b : Bool) → (b || true) ≡ true
or_true true = refl
or_true false = refl

left_most : (b : Bool) (n : ℕ) → left_of b n ≤ n
left_most true n = omega arith
left_most false n = omega arith

left_due : (b : Bool) (n : ℕ) → left_of (b || true) n ≡ n
left_due true n = refl
left_due false n = refl

-- asking leaves as much as there was
ticked_by : (boxes : Boxes) (n : ℕ) (d : ChannelState) (ds : List ChannelState) (b : Bool) → channel_is_due d ≡ b → ((m : ℕ) → left_channels boxes (ticked m ds).channels ≡ left_channels boxes ds)
    → left_channels boxes (ticked n (d ∷ ds)).channels ≡ left_channels boxes (d ∷ ds)
ticked_by boxes n d ds true e rest = rw e (ap₂ (λ (x y : ℕ). x + y) (sym (left_due (is_waiting d.lane.mode) (min (ending (boxes d.id) - d.lane.at) MAX_BEHIND + 1))) (rest (n + 1)))
ticked_by boxes n d ds false e rest = rw e (ap₂ (λ (x y : ℕ). x + y) (ap (λ (b : Bool). left_of (is_waiting d.lane.mode || b) (min (ending (boxes d.id) - d.lane.at) MAX_BEHIND + 1)) e) (rest n))

left_ticked : (boxes : Boxes) (ds : List ChannelState) (n : ℕ) → left_channels boxes (ticked n ds).channels ≡ left_channels boxes ds
left_ticked boxes [] n = refl
left_ticked boxes (d ∷ ds) n = ticked_by boxes n d ds (channel_is_due d) refl (left_ticked boxes ds)

group_by : (s : ServerState) (c : ClientState) (b : Bool) → group_is_due c ≡ b → left_group s (group_ticked c).client ≡ left_group s c
group_by s c true e = rw e (sym (left_due (is_waiting c.common.mode) ((ending s.common - c.common.at) + (ending s.secret - c.secret.at) + 1)))
group_by s c false e = rw e (ap (λ (b : Bool). left_of (is_waiting c.common.mode || b) ((ending s.common - c.common.at) + (ending s.secret - c.secret.at) + 1)) e)

channels_by : (c : ClientState) (b : Bool) → group_is_due c ≡ b → (group_ticked c).client.channels ≡ c.channels
channels_by c true e = rw e refl
channels_by c false e = rw e refl

left_ticks : (s : ServerState) (boxes : Boxes) (c : ClientState) → left s boxes (ticks c).client ≡ left s boxes c
left_ticks s boxes c =
    let g : ClientState = (group_ticked c).client in
    ap₂ (λ (x y : ℕ). x + y) (group_by s c (group_is_due c) refl) (left_ticked boxes g.channels g.next ∙ ap (left_channels boxes) (channels_by c (group_is_due c) refl))

-- ---- whoever waits has no flag

abbrev CalmChannel : ChannelState → Type 0
CalmChannel d = is_waiting d.lane.mode ≡ true → d.flag ≡ false

record IsCalm (c : ClientState) : Type 0 where
  pub group : is_waiting c.common.mode ≡ true → c.flag ≡ false
  pub channels : Each CalmChannel c.channels

calm_channel_by : (n : ℕ) (d : ChannelState) (ds : List ChannelState) (b : Bool) → channel_is_due d ≡ b → CalmChannel d → ((m : ℕ) → Each CalmChannel (ticked m ds).channels) → Each CalmChannel (ticked n (d ∷ ds)).channels
calm_channel_by n d ds true e h rest = rw e ((λ w. refl), rest (n + 1))
calm_channel_by n d ds false e h rest = rw e (h, rest n)

calm_ticked : (ds : List ChannelState) (n : ℕ) → Each CalmChannel ds → Each CalmChannel (ticked n ds).channels
calm_ticked [] n h = tt
calm_ticked (d ∷ ds) n h = calm_channel_by n d ds (channel_is_due d) refl h.0 (λ m. calm_ticked ds m h.1)

calm_group : (c : ClientState) (b : Bool) → group_is_due c ≡ b → IsCalm c → IsCalm (group_ticked c).client
calm_group c true e h = rw e (record { group = λ w. refl; channels = h.channels })
calm_group c false e h = rw e h

calm_ticks : (c : ClientState) → IsCalm c → IsCalm (ticks c).client
calm_ticks c h = let g = calm_group c (group_is_due c) refl h in record { group = g.group; channels = calm_ticked (group_ticked c).client.channels (group_ticked c).client.next g.channels }

not_waiting : (m k : Mode) → m ≡ k → is_waiting k ≡ false → is_waiting m ≡ true → ⊥
not_waiting m k e f t = absurd (let w : true ≡ false = sym t ∙ ap is_waiting e ∙ f in cc)

-- ---- a channel's answer

channel_ends : (boxes : Boxes) (d e : ChannelState) (n : ℕ) → d.lane.mode ≡ Asking n → e.lane.mode ≡ Live → e.flag ≡ false → len e.lane.held ≡ 0 → left_channel boxes e + 1 ≤ left_channel boxes d
channel_ends boxes d e n asks live flag held =
    let none : busy e.flag (len e.lane.held) e.lane.mode ≡ false =
    ap (busy e.flag (len e.lane.held)) live ∙ ap₂ (λ (f : Bool) (k : ℕ). f || ltb 0 k) flag held in
    omega (arith, ap (λ (b : Bool). left_of b (min (ending (boxes e.id) - e.lane.at) MAX_BEHIND + 1)) none, ap (λ (m : Mode). left_of (busy d.flag (len d.lane.held) m) (min (ending (boxes d.id) - d.lane.at) MAX_BEHIND + 1)) asks)

channel_part : (boxes : Boxes) (d e : ChannelState) (n : ℕ) → d.lane.mode ≡ Asking n → e.lane.mode ≡ Again → e.id ≡ d.id → ending (boxes d.id) - d.lane.at ≤ MAX_BEHIND → d.lane.at + 1 ≤ e.lane.at → e.lane.at ≤ ending (boxes e.id) → left_channel boxes e + 1 ≤ left_channel boxes d
channel_part boxes d e n asks again id near up inside = omega (
  arith,
  near,
  up,
  inside,
  ap (λ (i : ℤ). ending (boxes i)) id,
  ap (λ (m : Mode). left_of (busy e.flag (len e.lane.held) m) (min (ending (boxes e.id) - e.lane.at) MAX_BEHIND + 1)) again,
  ap (λ (m : Mode). left_of (busy d.flag (len d.lane.held) m) (min (ending (boxes d.id) - d.lane.at) MAX_BEHIND + 1)) asks,
)

first_by : (boxes : Boxes) (p : ChannelState → Bool) (c d e : ChannelState) (ds : List ChannelState) (b : Bool) → p c ≡ b → first p (c ∷ ds) ≡ Some d → left_channel boxes e + 1 ≤ left_channel boxes d
    → (first p ds ≡ Some d → left_channels boxes (at_first p (λ _. e) ds) + 1 ≤ left_channels boxes ds) → left_channels boxes (at_first p (λ _. e) (c ∷ ds)) + 1 ≤ left_channels boxes (c ∷ ds)
first_by boxes p c d e ds true t is le rest =
    let same : Some c ≡ Some d = ap (λ (b : Bool). cond b (Some c) (first p ds)) (sym t) ∙ is in
    let here : c ≡ d = cc in
    rw t (omega (arith, le, ap (left_channel boxes) here))
first_by boxes p c d e ds false t is le rest =
    let there : first p ds ≡ Some d = ap (λ (b : Bool). cond b (Some c) (first p ds)) (sym t) ∙ is in
    rw t (omega (arith, rest there))

left_at_first : (boxes : Boxes) (p : ChannelState → Bool) (d e : ChannelState) (ds : List ChannelState) → first p ds ≡ Some d → left_channel boxes e + 1 ≤ left_channel boxes d → left_channels boxes (at_first p (λ _. e) ds) + 1 ≤ left_channels boxes ds
left_at_first boxes p d e [] is le = absurd cc
left_at_first boxes p d e (c ∷ ds) is le = first_by boxes p c d e ds (p c) refl is le (λ there. left_at_first boxes p d e ds there le)

-- ---- the group's answer

-- an answer brings the group nearer, and leaves the rest
record Nearer (s : ServerState) (c d : ClientState) : Type 0 where
  pub channels : d.channels ≡ c.channels
  pub left : left_group s d + 1 ≤ left_group s c
  pub calm : is_waiting d.common.mode ≡ true → d.flag ≡ false

-- what holds of the server: its events count, and it keeps within the limit
pub record Known (s : ServerState) (boxes : Boxes) : Type 0 where
  pub ledger : IsLedger s boxes
  pub common : ending s.common ≤ MAX_END
  pub secret : ending s.secret ≤ MAX_END
  pub settings : length s.settings ≤ MAX_END
  pub channels : (id : ℤ) → ending (boxes id) ≤ MAX_END

lane_ahead : (box : List EventView) (t : LaneState EventView) (n to : ℕ) (xs : List EventView) → AreCounted box → ending box ≤ MAX_END → Fits box t → t.mode ≡ Asking n → Between box t.at to xs → StartAfter (extend count_of t xs true).at (extend count_of t xs true).held
lane_ahead box t n to xs c le f e b =
    (sound_extend count_of t xs true (asking_sound box t n c le f e) (omega (arith, le, sum_is xs, stretch_counts box t.at to xs b, stretch_inside box t.at to xs b))).ahead (extend_live t xs)

group_ends : (s : ServerState) (boxes : Boxes) (c : ClientState) (n tx ty : ℕ) (b : Received) (xs ys : List EventView) → Known s boxes → Agrees s boxes c → c.common.mode ≡ Asking n → c.flag ≡ false → Between s.common c.common.at tx xs → Between s.secret c.secret.at ty ys
    → IsPast s (group_done true c b xs ys) → Agrees s boxes (group_done true c b xs ys) → Nearer s c (group_done true c b xs ys)
group_ends s boxes c n tx ty b xs ys k a e flag x y past agrees =
    let d : ClientState = group_done true c b xs ys in
    let live : d.common.mode ≡ Live = extend_live c.common xs in
    let common : len d.common.held ≡ 0 = lane_holds_none s.common d.common k.ledger.common agrees.common (lane_ahead s.common c.common n tx xs k.ledger.common k.common a.common e x) past.common in
    let secret : len d.secret.held ≡ 0 = lane_holds_none s.secret d.secret k.ledger.secret agrees.secret (lane_ahead s.secret c.secret n ty ys k.ledger.secret k.secret a.secret (a.one_mode.0 ∙ e) y) past.secret in
    let sound = sound_overlaid c.settings b.settings b.state.seq b.state.date (settings_sound s.settings s.date n c.settings k.settings a.settings (a.one_mode.1 ∙ e)) in
    let settings : len d.settings.held ≡ 0 =
    holds_none d.settings.held (λ i z is. let w = agrees.settings.within i z is in absurd (omega (arith, w.0, w.1, past.settings, sound.ahead (overlay_live c.settings b.settings b.state.seq b.state.date) i z is))) in
    let held : group_held d ≡ 0 = omega (arith, common, secret, settings) in
    let none : busy d.flag (group_held d) d.common.mode ≡ false = ap (busy d.flag (group_held d)) live ∙ ap₂ (λ (f : Bool) (i : ℕ). f || ltb 0 i) flag held in
    record {
      channels = refl;
      left = omega (arith, ap (λ (t : Bool). left_of t ((ending s.common - d.common.at) + (ending s.secret - d.secret.at) + 1)) none, ap (λ (m : Mode). left_of (busy c.flag (group_held c) m) ((ending s.common - c.common.at) + (ending s.secret - c.secret.at) + 1)) e);
      calm = λ w. absurd (not_waiting d.common.mode Live live refl w);
    }

group_part : (s : ServerState) (boxes : Boxes) (c : ClientState) (n tx ty : ℕ) (b : Received) (xs ys : List EventView) → Known s boxes → Agrees s boxes c → c.common.mode ≡ Asking n → Between s.common c.common.at tx xs → Between s.secret c.secret.at ty ys
    → 1 ≤ ending xs + ending ys → Agrees s boxes (group_done false c b xs ys) → Nearer s c (group_done false c b xs ys)
group_part s boxes c n tx ty b xs ys k a e x y some agrees =
    let d : ClientState = group_done false c b xs ys in
    let again : d.common.mode ≡ Again = extend_again c.common xs in
    record {
      channels = refl;
      left = omega (
        arith,
        some,
        stretch_counts s.common c.common.at tx xs x,
        stretch_counts s.secret c.secret.at ty ys y,
        fits_reaches s.common c.common tx xs false k.ledger.common a.common x,
        fits_reaches s.secret c.secret ty ys false k.ledger.secret a.secret y,
        fits_inside s.common d.common agrees.common,
        fits_inside s.secret d.secret agrees.secret,
        ap (λ (m : Mode). left_of (busy d.flag (group_held d) m) ((ending s.common - d.common.at) + (ending s.secret - d.secret.at) + 1)) again,
        ap (λ (m : Mode). left_of (busy c.flag (group_held c) m) ((ending s.common - c.common.at) + (ending s.secret - c.secret.at) + 1)) e,
      );
      calm = λ w. absurd (not_waiting d.common.mode Again again refl w);
    }

-- what an answer to the group makes
record Next (s : ServerState) (boxes : Boxes) (c : ClientState) (v : Reply) : Type 0 where
  pub client : ClientState
  pub is : group_replied c v ≡ becomes client
  pub agrees : Agrees s boxes client
  pub nearer : Nearer s c client

-- a run that isn't whole has an event that counts
run_some : (es : List EventView) → AreCounted es → Each (λ e. bytes_of e ≤ RUN_BYTES) es → is_whole es ≡ false → 1 ≤ ending (run_of es)
unfolding limited
run_some [] c small e = absurd cc
run_some (x ∷ es) c small e = first_small x es c.0 small.0

either_false : (a b : Bool) → (a && b) ≡ false → (a ≡ false) ⊎ (b ≡ false)
either_false true b e = inr e
either_false false b e = inl refl

next_part : (s : ServerState) (boxes : Boxes) (c : ClientState) (n : ℕ) (es fs : List EventView) → Known s boxes → Agrees s boxes c → c.common.mode ≡ Asking n → Runs s s c es fs → 1 ≤ ending (run_of es) + ending (run_of fs)
    → Next s boxes c (slice s c.common.at c.secret.at (run_of es) (run_of fs))
next_part s boxes c n es fs k a e r some =
    let b : Received = brought_slice s c (run_of es) (run_of fs) in
    let x = run_lies s.common s.common c.common.at es r.more r.common in
    let y = run_lies s.secret s.secret c.secret.at fs r.secret_more r.secret in
    let tx : ℕ = c.common.at + ending (run_of es) in
    let ty : ℕ = c.secret.at + ending (run_of fs) in
    let agrees = (goes_done s boxes c b false tx ty (run_of es) (run_of fs) k.ledger a x y (λ f. absurd cc)).agrees in
    record {
      client = group_done false c b (run_of es) (run_of fs);
      is = slice_is s s c es fs r;
      agrees = agrees;
      nearer = group_part s boxes c n tx ty b (run_of es) (run_of fs) k a e x y some agrees;
    }

next_final : (carries : Carries) (s : ServerState) (boxes : Boxes) (c : ClientState) (n : ℕ) (es fs : List EventView) → is_whole es ≡ true → is_whole fs ≡ true → Known s boxes → Agrees s boxes c → c.common.mode ≡ Asking n → c.flag ≡ false → Runs s s c es fs
    → Next s boxes c (Difference (bodies (run_of es)) (bodies (run_of fs)) (others_from c.common.at (run_of es)) (changed_since s.settings c.settings.date) (state_of s) true)
next_final carries s boxes c n es fs we wf k a e flag r =
    let b : Received = brought_last s c (run_of es) (run_of fs) in
    let x = run_lies s.common s.common c.common.at es r.more r.common in
    let y = run_lies s.secret s.secret c.secret.at fs r.secret_more r.secret in
    let tx : ℕ = c.common.at + ending (run_of es) in
    let ty : ℕ = c.secret.at + ending (run_of fs) in
    let agrees = (goes_done s boxes c b true tx ty (run_of es) (run_of fs) k.ledger a x y (λ f. last_over carries s s c es fs r)).agrees in
    let past = done_past s s boxes c b tx ty (run_of es) (run_of fs) k.ledger a x y (omega (arith, whole_run s.common c.common.at es r.common we)) (omega (arith, whole_run s.secret c.secret.at fs r.secret wf)) (omega arith) in
    record {
      client = group_done true c b (run_of es) (run_of fs);
      is = last_is s s c es fs we wf r;
      agrees = agrees;
      nearer = group_ends s boxes c n tx ty b (run_of es) (run_of fs) k a e flag x y past agrees;
    }

next_none : (carries : Carries) (s : ServerState) (boxes : Boxes) (c : ClientState) (n : ℕ) (es fs : List EventView) → run_of es ≡ [] → run_of fs ≡ [] → changed_since s.settings c.settings.date ≡ [] → is_whole es ≡ true → is_whole fs ≡ true → Known s boxes
    → Agrees s boxes c → c.common.mode ≡ Asking n → c.flag ≡ false → Runs s s c es fs → Next s boxes c (Empty s.date (length s.settings))
next_none carries s boxes c n es fs ne nf ns we wf k a e flag r =
    let b : Received = nothing_new c s.date (length s.settings) in
    let x = none_lies s.common s.common c.common.at es ne r.more r.common in
    let y = none_lies s.secret s.secret c.secret.at fs nf r.secret_more r.secret in
    let tx : ℕ = c.common.at + ending [] in
    let ty : ℕ = c.secret.at + ending [] in
    let agrees = (goes_done s boxes c b true tx ty [] [] k.ledger a x y (λ f. none_over carries s s c es fs ns r)).agrees in
    let past = done_past s s boxes c b tx ty [] [] k.ledger a x y (omega (arith, whole_run s.common c.common.at es r.common we, ap ending ne)) (omega (arith, whole_run s.secret c.secret.at fs r.secret wf, ap ending nf)) (omega arith) in
    record {
      client = group_done true c b [] [];
      is = none_is s s c es fs r;
      agrees = agrees;
      nearer = group_ends s boxes c n tx ty b [] [] k a e flag x y past agrees;
    }

next_last : (carries : Carries) (s : ServerState) (boxes : Boxes) (c : ClientState) (n : ℕ) (es fs : List EventView) (t : Bool) → (eqb (length (run_of es)) 0 && eqb (length (run_of fs)) 0 && eqb (length (changed_since s.settings c.settings.date)) 0) ≡ t
    → is_whole es ≡ true → is_whole fs ≡ true → Known s boxes → Agrees s boxes c → c.common.mode ≡ Asking n → c.flag ≡ false → Runs s s c es fs
    → Next s boxes c (last_by t s c.common.at (run_of es) (run_of fs) (changed_since s.settings c.settings.date))
next_last carries s boxes c n es fs true is we wf k a e flag r =
    let two = both_true (eqb (length (run_of es)) 0 && eqb (length (run_of fs)) 0) (eqb (length (changed_since s.settings c.settings.date)) 0) is in
    let one = both_true (eqb (length (run_of es)) 0) (eqb (length (run_of fs)) 0) two.0 in
    next_none carries s boxes c n es fs (empty_run (run_of es) one.0) (empty_run (run_of fs) one.1) (no_settings (changed_since s.settings c.settings.date) two.1) we wf k a e flag r
next_last carries s boxes c n es fs false is we wf k a e flag r = next_final carries s boxes c n es fs we wf k a e flag r

-- no event is larger than a part may be
pub record AreSmall (s : ServerState) (boxes : Boxes) : Type 0 where
  pub common : Each (λ e. bytes_of e ≤ RUN_BYTES) s.common
  pub secret : Each (λ e. bytes_of e ≤ RUN_BYTES) s.secret
  pub channels : (id : ℤ) → Each (λ e. bytes_of e ≤ RUN_BYTES) (boxes id)

rest_small : (box : List EventView) (p : ℕ) (es : List EventView) → RunAt box p es → Each (λ e. bytes_of e ≤ RUN_BYTES) box → Each (λ e. bytes_of e ≤ RUN_BYTES) es
rest_small box p es r h = each_right (λ e. bytes_of e ≤ RUN_BYTES) r.prefix es (subst (Each (λ e. bytes_of e ≤ RUN_BYTES)) r.whole h)

rest_counts : (box : List EventView) (p : ℕ) (es : List EventView) → RunAt box p es → AreCounted box → AreCounted es
rest_counts box p es r c = counted_right r.prefix es (subst AreCounted r.whole c)

next_carried : (carries : Carries) (s : ServerState) (boxes : Boxes) (c : ClientState) (n : ℕ) (es fs : List EventView) (t : Bool) → (is_whole es && is_whole fs) ≡ t → Known s boxes → AreSmall s boxes → Agrees s boxes c → c.common.mode ≡ Asking n → c.flag ≡ false
    → Runs s s c es fs → Next s boxes c (carried t s c.common.at c.secret.at c.settings.date (run_of es) (run_of fs))
next_carried carries s boxes c n es fs true is k small a e flag r =
    let w = both_true (is_whole es) (is_whole fs) is in
    next_last carries s boxes c n es fs (eqb (length (run_of es)) 0 && eqb (length (run_of fs)) 0 && eqb (length (changed_since s.settings c.settings.date)) 0) refl w.0 w.1 k a e flag r
next_carried carries s boxes c n es fs false is k small a e flag r =
    next_part s boxes c n es fs k a e r (elim (either_false (is_whole es) (is_whole fs) is) [
      | inl x ↦ omega (arith, run_some es (rest_counts s.common c.common.at es r.common k.ledger.common) (rest_small s.common c.common.at es r.common small.common) x)
      | inr y ↦ omega (arith, run_some fs (rest_counts s.secret c.secret.at fs r.secret k.ledger.secret) (rest_small s.secret c.secret.at fs r.secret small.secret) y)
    ])

next_group : (carries : Carries) (s : ServerState) (boxes : Boxes) (c : ClientState) (n : ℕ) (v : Reply) → Known s boxes → AreSmall s boxes → Agrees s boxes c → c.common.mode ≡ Asking n → c.flag ≡ false
    → v ≡ server.difference_of s (pos c.common.at) (pos c.secret.at) c.settings.date → Next s boxes c v
next_group carries s boxes c n v k small a e flag is =
    let p = stands_at s.common c.common a.common in
    let q = stands_at s.secret c.secret a.secret in
    let r = runs_from s s boxes boxes c k.ledger (continues_same s boxes boxes (λ id. refl)) (record { common = p; secret = q; settings = a.settings.inside }) in
    let same : v ≡ carried (is_whole p.rest && is_whole q.rest) s c.common.at c.secret.at c.settings.date (run_of p.rest) (run_of q.rest) =
    is ∙ ap₂ (λ (o z : Option (List EventView)). difference_by s c.common.at c.secret.at c.settings.date o z) (run_after s.common c.common.at k.ledger.common p) (run_after s.secret c.secret.at k.ledger.secret q) in
    subst (Next s boxes c) (sym same) (next_carried carries s boxes c n p.rest q.rest (is_whole p.rest && is_whole q.rest) refl k small a e flag r)

-- ---- an answer to a number that is asked

record Stepped (s : ServerState) (boxes : Boxes) (c : ClientState) (o : Outcome) : Type 0 where
  pub client : ClientState
  pub is : o ≡ becomes client
  pub agrees : Agrees s boxes client
  pub calm : IsCalm client
  pub left : left s boxes client + 1 ≤ left s boxes c

channel_left : (s : ServerState) (boxes : Boxes) (d : ChannelState) (n : ℕ) (r : ChannelReply) (b : Bool) → is_last_part r ≡ b → Known s boxes → AreSmall s boxes → (t : Taken (boxes d.id) (boxes d.id) d r) → ChannelAgrees (boxes d.id) d → d.lane.mode ≡ Asking n → d.flag ≡ false
    → left_channel boxes t.channel + 1 ≤ left_channel boxes d
channel_left s boxes d n r true is k small t a mode flag =
    let sound = asking_sound (boxes d.id) d.lane n (k.ledger.channels d.id) (k.channels d.id) a.lane mode in
    channel_ends boxes d t.channel n mode (t.stops is) (t.flag ∙ flag) (lane_holds_none (boxes d.id) t.channel.lane (k.ledger.channels d.id) t.agrees.lane (t.ahead sound (k.channels d.id) (t.stops is)) (t.reaches is))
channel_left s boxes d n r false is k small t a mode flag =
    let go = t.goes_on is in
    channel_part boxes d t.channel n mode go.0 t.id go.1 (go.2 (small.channels d.id)) (omega (arith, fits_inside (boxes d.id) t.channel.lane t.agrees.lane, ap (λ (i : ℤ). ending (boxes i)) t.id))

calm_taken : (e : ChannelState) → (e.lane.mode ≡ Live) ⊎ (e.lane.mode ≡ Again) → CalmChannel e
calm_taken e (inl live) w = absurd (not_waiting e.lane.mode Live live refl w)
calm_taken e (inr again) w = absurd (not_waiting e.lane.mode Again again refl w)

by_channel : (s : ServerState) (boxes : Boxes) (c : ClientState) (n : ℕ) (v : Reply) (d : ChannelState) → Known s boxes → AreSmall s boxes → Agrees s boxes c → IsCalm c → first (asks_number n) c.channels ≡ Some d → v ≡ answer s (Channel d.id (pos d.lane.at))
    → Stepped s boxes c (channel_replied c n v)
by_channel s boxes c n v d k small a calm f is =
    let here = first_has (λ x. ChannelAgrees (boxes x.id) x) (asks_number n) c.channels d a.channels f in
    let mode : d.lane.mode ≡ Asking n = is_asked n d.lane.mode here.1 in
    let flag : d.flag ≡ false = (first_has CalmChannel (asks_number n) c.channels d calm.channels f).0 (ap is_waiting mode) in
    let same = continues_same s boxes boxes (λ id. refl) in
    let t = channel_taken (boxes d.id) (boxes d.id) (channel_in s.channels d.id) d (k.ledger.channels d.id) (k.ledger.channels d.id) (same.channels d.id) (k.ledger.kept d.id) (stands_at (boxes d.id) d.lane here.0.lane) here.0 in
    let e : ChannelState = t.taken.channel in
    let one = channel_left s boxes d n t.reply (is_last_part t.reply) refl k small t.taken here.0 mode flag in
    record {
      client = record c { channels = at_first (asks_number n) (λ _. e) c.channels };
      is = ap (channel_replied c n) (is ∙ channel_answer_is s d.id (pos d.lane.at) ∙ t.is) ∙ answered_is c n d t.reply e f t.taken.is;
      agrees = (goes_taken s boxes c n d t.reply (boxes d.id) t.taken a).agrees;
      calm = record { group = calm.group; channels = each_at_first CalmChannel (asks_number n) (λ _. e) (λ x p h. calm_taken e t.taken.free) c.channels calm.channels };
      left = omega (arith, left_at_first boxes (asks_number n) d e c.channels f one);
    }

same_request : (a b : Request) → Some a ≡ Some b → a ≡ b
same_request a b e = same_Some a b e

by_first : (s : ServerState) (boxes : Boxes) (c : ClientState) (n : ℕ) (v : Reply) (o : Option ChannelState) (r : Request) → first (asks_number n) c.channels ≡ o → channel_request o ≡ Some r → v ≡ answer s r → Known s boxes → AreSmall s boxes → Agrees s boxes c → IsCalm c
    → Stepped s boxes c (cond (is_some o) (channel_replied c n v) ignored)
by_first s boxes c n v None r f e is k small a calm = absurd (none-some r e)
by_first s boxes c n v (Some d) r f e is k small a calm = by_channel s boxes c n v d k small a calm f (is ∙ ap (answer s) (sym (same_request (Channel d.id (pos d.lane.at)) r e)))

by_whom : (carries : Carries) (s : ServerState) (boxes : Boxes) (c : ClientState) (n : ℕ) (v : Reply) (b : Bool) (r : Request) → is_asking n c.common.mode ≡ b → cond b (Some (difference_of c).request) (channel_request (first (asks_number n) c.channels)) ≡ Some r → v ≡ answer s r
    → Known s boxes → AreSmall s boxes → Agrees s boxes c → IsCalm c → Stepped s boxes c (cond b (group_replied c v) (cond (is_some (first (asks_number n) c.channels)) (channel_replied c n v) ignored))
by_whom carries s boxes c n v true r asks e is k small a calm =
    let mode : c.common.mode ≡ Asking n = is_asked n c.common.mode asks in
    let x = next_group carries s boxes c n v k small a mode (calm.group (ap is_waiting mode)) (is ∙ ap (answer s) (sym (same_request (difference_of c).request r e)) ∙ answer_is s c) in
    record {
      client = x.client;
      is = x.is;
      agrees = x.agrees;
      calm = record { group = x.nearer.calm; channels = subst (Each CalmChannel) (sym x.nearer.channels) calm.channels };
      left = omega (arith, x.nearer.left, ap (left_channels boxes) x.nearer.channels);
    }
by_whom carries s boxes c n v false r asks e is k small a calm = by_first s boxes c n v (first (asks_number n) c.channels) r refl e is k small a calm

-- ---- all frames

bounded : (carries : Carries) (s : ServerState) (boxes : Boxes) (fs : List (ℕ × Reply)) (c : ClientState) → Known s boxes → AreSmall s boxes → Agrees s boxes c → IsCalm c → AnswersEach s c fs → length fs ≤ left s boxes c
bounded carries s boxes [] c k small a calm h = omega arith
bounded carries s boxes (f ∷ fs) c k small a calm h =
    let st = by_whom carries s boxes c f.0 f.1 (is_asking f.0 c.common.mode) h.0.0 refl h.0.1 h.0.2 k small a calm in
    let d : ClientState = st.client in
    let next : heard_frame c (told_reply f.0 f.1) ≡ (ticks d).client = ap (λ (o : Outcome). (ticks (after_reply c o)).client) st.is in
    let rest = bounded carries s boxes fs (ticks d).client k small (agree_ticks s boxes d st.agrees) (calm_ticks d st.calm) (subst (λ (x : ClientState). AnswersEach s x fs) next h.1) in
    omega (arith, rest, st.left, left_ticks s boxes d)

-- ---- as a session begins

woken_most : (boxes : Boxes) (ds : List ChannelState) → left_channels boxes (woken ds) ≤ most_of_channels boxes ds
woken_most boxes [] = omega arith
woken_most boxes (d ∷ ds) = omega (arith, left_most (busy true (len d.lane.held) d.lane.mode) (min (ending (boxes d.id) - d.lane.at) MAX_BEHIND + 1), woken_most boxes ds)

woken_calm : (ds : List ChannelState) → any_asks ds ≡ false → Each CalmChannel (woken ds)
woken_calm [] e = tt
woken_calm (d ∷ ds) e =
    let both = none_either (is_waiting d.lane.mode) (any_asks ds) e in
    ((λ w. absurd (let t : true ≡ false = sym w ∙ both.0 in cc)), woken_calm ds both.1)

wakes_calm : (c : ClientState) → is_one_asking c ≡ false → IsCalm (wakes c)
wakes_calm c e =
    let both = none_either (is_waiting c.common.mode) (any_asks c.channels) e in
    record { group = λ w. absurd (let t : true ≡ false = sym w ∙ both.0 in cc); channels = woken_calm c.channels both.1 }

pub frames_bounded : (carries : Carries) (p : Past) (c : ClientState) (fs : List (ℕ × Reply)) → Known p.server p.boxes → AreSmall p.server p.boxes → Agrees p.server p.boxes c → is_one_asking c ≡ false → AnswersEach p.server (begun c) fs → length fs ≤ most_frames p c
frames_bounded carries p c fs k small a free h =
    let woke = agree_wakes p.server p.boxes c a in
    let most = bounded carries p.server p.boxes fs (begun c) k small (agree_ticks p.server p.boxes (wakes c) woke) (calm_ticks (wakes c) (wakes_calm c free)) h in
    omega (
      arith,
      most,
      left_ticks p.server p.boxes (wakes c),
      left_most (busy true (group_held c) c.common.mode) ((ending p.server.common - c.common.at) + (ending p.server.secret - c.secret.at) + 1),
      woken_most p.boxes c.channels,
    )
