-- What a client asks in a session has a spelling, and is read as it was spelled.
use Rattle.std.proofs.Common.{◌≡◌, ℕ, ◌+◌, ◌<◌, ◌≤◌, ◌^◌, ℤ, pos, List, [], ◌∷◌, length, length-append, Bool, true, false, refl, sym, ap, ◌∙◌, subst, arith}
use Rattle.std.specs.Int.{w32}
use Rattle.std.specs.List.{AllByRecursion}
use Rattle.std.proofs.lemmas.Int.{to_z_pos}
use Rattle.std.proofs.lemmas.List.{length-map}
use Rattle.std.proofs.lemmas.Option.{same_Some}
use Rattle.box_events.specs.Boxes.{IsBoundary, ending}
use Rattle.box_events.specs.Events.{EventView}
use Rattle.box_events.specs.declared.limits.TheConstants.{MAX_ASKS, MAX_CHANNELS, MAX_END}
use Rattle.box_events.specs.declared.replies.Frame.TheVariants as frame
use Rattle.box_events.specs.declared.replies.Reply.{Reply}
use Rattle.box_events.specs.declared.requests.Numbered.{Numbered}
use Rattle.box_events.proofs.Boundaries.{ending-append}
use Rattle.channel_box.specs.States.{ChannelState, ids_of}
use Rattle.channel_box.specs.Steps.{ask_of, channel_is_due, ticked}
use Rattle.box_client.specs.Asking as asking
use Rattle.box_client.specs.Asking.{group_is_due, group_ticked, ticks, wakes}
use Rattle.box_client.specs.Laws.{AreNumbered}
use Rattle.box_client.specs.States.{ClientState}
use Rattle.box_client.proofs.GivenOnce.{asks_numbered, next_past}
use Rattle.box_server.specs.Answers.{answer}
use Rattle.box_server.specs.Servers.{ServerState, channel_in}
use Rattle.box_server.specs.Sound.{IsSound}
use Rattle.box_world.specs.Agreeing.{Agrees, Boxes, ChannelAgrees, Each}
use Rattle.box_world.specs.Growing.{IsKept, IsLedger}
use Rattle.box_world.specs.Recovering.{AnswersEach}
use Rattle.box_world.specs.Streams.{Doing, IsHonestFrame, Past, begun, past_of, told_reply}
use Rattle.box_world.proofs.ChannelReplying.{end_is}
use Rattle.box_world.proofs.GoingOn.{agree_group_ticked, agree_ticks, agree_wakes}
use Rattle.box_world.proofs.Streams.{ordered}
use Rattle.box_world.proofs.Ticking.{stands_at}
use Rattle.wire_forms.specs.IsOf.{IsInt, IsLong}
use Rattle.wire_values.specs.Carried.{FitsCall, FitsRequest}
use Rattle.box_world.specs.Fitting.{CallFits, IsNumber}
use Rattle.box_world.proofs.AsksFit.{asks_fit}
use Rattle.box_world.proofs.Carried.{kept_in}
use Rattle.update_sessions.proofs.ClientSteps.{hears_next}
use Rattle.headline.specs.Answering.{all_asks, hears_one, session_asks}
use Rattle.headline.specs.Ending.{told_replies}
use Rattle.headline.proofs.Answered.{goes_honest}
use Rattle.headline.proofs.Conversing.{each_both, each_of_all}
use Rattle.headline.proofs.LastAnswers.{AgreesAt}
use Rattle.headline.proofs.Watching.{group_ids, ids_ticks, ids_wakes, ids_whom}

-- a request that has a spelling, and is read as it was spelled
pub record IsReady (q : Numbered) : Type 0 where
  pub number : IsNumber q.number
  pub read : CallFits q
  pub fits : FitsCall q

-- ---- positions

position : (p : ℕ) → p ≤ MAX_END → IsInt (pos p)
position p le = (p, omega (arith, le), sym (to_z_pos w32 p (omega (arith, le))))

-- a boundary is no number past the box
pub boundary_inside : (box : List EventView) (p : ℕ) → IsBoundary box p → p ≤ ending box
boundary_inside box p b =
    let whole : ending box ≡ ending b.prefix + ending b.rest = ap ending b.whole ∙ ending-append b.prefix b.rest in
    let stop = b.stop in
    omega (arith, whole, stop)

boundary_low : (box : List EventView) (p : ℕ) → IsBoundary box p → ending box ≤ MAX_END → p ≤ MAX_END
boundary_low box p b limit = let inside = boundary_inside box p b in omega (arith, inside, limit)

whole_low : (s : ServerState) (id : ℤ) (whole : List EventView) → IsSound s → IsKept whole (channel_in s.channels id) → ending whole ≤ MAX_END
whole_low s id whole h k =
    let same = end_is whole (channel_in s.channels id) k in
    let limit = (kept_in s.channels id h.channels h.events.channels).limit in
    omega (arith, same, limit)

-- ---- what is asked at once

abbrev Fits : Numbered → Type 0
Fits q = FitsRequest q.request

channel_fits : (d : ChannelState) (n : ℕ) (ds : List ChannelState) (b : Bool) → channel_is_due d ≡ b → FitsRequest (ask_of d n).request → ((m : ℕ) → Each Fits (ticked m ds).asks) → Each Fits (ticked n (d ∷ ds)).asks
channel_fits d n ds true e one rest = rw e (one, rest (n + 1))
channel_fits d n ds false e one rest = rw e (rest n)

module _ (s : ServerState) (boxes : Boxes) (sound : IsSound s) (k : IsLedger s boxes) where
  channels_fit : (ds : List ChannelState) (n : ℕ) → Each (λ d. ChannelAgrees (boxes d.id) d) ds → AllByRecursion IsLong (ids_of ds) → Each Fits (ticked n ds).asks
  channels_fit [] n a long = tt
  channels_fit (d ∷ ds) n a long =
      let low = boundary_low (boxes d.id) d.lane.at (stands_at (boxes d.id) d.lane a.0.lane) (whole_low s d.id (boxes d.id) sound (k.kept d.id)) in
      channel_fits d n ds (channel_is_due d) refl (long.0, position d.lane.at low) (λ m. channels_fit ds m a.1 long.1)

  group_fits : (c : ClientState) (b : Bool) → group_is_due c ≡ b → Agrees s boxes c → Each Fits (group_ticked c).asks
  group_fits c true e a =
      let common = boundary_low s.common c.common.at (stands_at s.common c.common a.common) sound.common.1 in
      let secret = boundary_low s.secret c.secret.at (stands_at s.secret c.secret a.secret) sound.secret.1 in
      let past = a.settings.past in
      let date = sound.date in
      rw e ((position c.common.at common, position c.secret.at secret, omega (arith, past, date)), tt)
  group_fits c false e a = rw e tt

  tick_fits : (c : ClientState) → Agrees s boxes c → AllByRecursion IsLong (ids_of c.channels) → Each Fits (ticks c).asks
  tick_fits c a long =
      let g : asking.Asked = group_ticked c in
      each_both Fits g.asks (ticked g.client.next g.client.channels).asks (group_fits c (group_is_due c) refl a)
      (channels_fit g.client.channels g.client.next (agree_group_ticked s boxes c (group_is_due c) refl a).channels (subst (AllByRecursion IsLong) (sym (group_ids c (group_is_due c) refl)) long))

-- ---- their numbers

numbers_of : (n : ℕ) (qs : List Numbered) → AreNumbered n qs → 1 ≤ n → n + length qs ≤ 2 ^ 31 → Each (λ q. IsNumber q.number) qs
numbers_of n [] all some room = tt
numbers_of n (q ∷ qs) all some room = let is = all.0 in ((omega (arith, is, some), omega (arith, is, room)), numbers_of (n + 1) qs all.1 (omega (arith, some)) (omega (arith, room)))

each_ready : (qs : List Numbered) → Each (λ q. IsNumber q.number) qs → Each CallFits qs → Each Fits qs → Each IsReady qs
each_ready [] numbers read fits = tt
each_ready (q ∷ qs) numbers read fits =
    let low = numbers.0.1 in
    (record { number = numbers.0; read = read.0; fits = (omega (arith, low), fits.0) }, each_ready qs numbers.1 read.1 fits.1)

-- ---- in a session

module _ (h : List Doing) (ids : List ℤ) (long : AllByRecursion IsLong ids) (few : length ids ≤ MAX_CHANNELS) (sound : IsSound (past_of h (length h)).server) where
  abbrev s : Past
  s = past_of h (length h)

  tick_ready : (c : ClientState) → AgreesAt h (length h) c → ids_of c.channels ≡ ids → 1 ≤ c.next → c.next + length (ticks c).asks + MAX_ASKS < 2 ^ 31 → Each IsReady (ticks c).asks
  tick_ready c a same some room =
      let past = a.settings.past in
      let date = sound.date in
      let as_many = length-map c.channels (λ (d : ChannelState). d.id) in
      let those = ap length same in
      each_ready (ticks c).asks (numbers_of c.next (ticks c).asks (asks_numbered c) some (omega (arith, room)))
      (each_of_all CallFits (ticks c).asks (asks_fit c some (omega (arith, room)) (omega (arith, past, date)) (omega (arith, as_many, those, few))))
      (tick_fits s.server s.boxes sound (ordered h (length h)) c a (subst (AllByRecursion IsLong) (sym same) long))

  all_ready : (c : ClientState) (fs : List (ℕ × Reply)) → AgreesAt h (length h) c → ids_of c.channels ≡ ids → 1 ≤ c.next → c.next + length (all_asks c (told_replies fs)) + MAX_ASKS < 2 ^ 31 → AnswersEach s.server c fs → Each IsReady (all_asks c (told_replies fs))
  all_ready c [] a same some room each = tt
  all_ready c (f ∷ fs) a same some room each =
      let honest : IsHonestFrame h c (length h) (told_reply f.0 f.1) = λ q asks. each.0.2 ∙ ap (answer s.server) (same_Some each.0.0 q (sym each.0.1 ∙ asks)) in
      let g = goes_honest h c (length h) f.0 f.1 a honest in
      let d : ClientState = hears_one c (told_reply f.0 f.1) in
      let e : ClientState = (ticks d).client in
      let next : d.next ≡ c.next = hears_next c (frame.Reply f.0 f.1) in
      let past = next_past d in
      let both = length-append (ticks d).asks (all_asks e (told_replies fs)) in
      let here : ids_of d.channels ≡ ids = ids_whom c f.0 f.1 _ ∙ same in
      each_both IsReady (ticks d).asks (all_asks e (told_replies fs)) (tick_ready d g.agrees here (omega (arith, next, some)) (omega (arith, next, room, both)))
      (all_ready e fs (agree_ticks s.server s.boxes d g.agrees) (ids_ticks d ∙ here) (omega (arith, next, past, some)) (omega (arith, next, past, room, both)) each.1)

  -- what a client asks that agrees and watches these channels, in a session in which it hears the server's answers
  pub session_ready : (c : ClientState) (fs : List (ℕ × Reply)) → AgreesAt h (length h) c → ids_of c.channels ≡ ids → 1 ≤ c.next → c.next + length (session_asks c (told_replies fs)) + MAX_ASKS < 2 ^ 31 → AnswersEach s.server (begun c) fs
      → Each IsReady (session_asks c (told_replies fs))
  session_ready c fs a same some room each =
      let w : ClientState = wakes c in
      let woke = agree_wakes s.server s.boxes c a in
      let past = next_past w in
      let both = length-append (ticks w).asks (all_asks (begun c) (told_replies fs)) in
      let here : ids_of w.channels ≡ ids = ids_wakes c ∙ same in
      each_both IsReady (ticks w).asks (all_asks (begun c) (told_replies fs)) (tick_ready w woke here some (omega (arith, room, both)))
      (all_ready (begun c) fs (agree_ticks s.server s.boxes w woke) (ids_ticks w ∙ here) (omega (arith, past, some)) (omega (arith, past, room, both)) each)
