-- What both send has a spelling, so a server and a client come to their end over one link.
use Rattle.std.specs.Prelude.{⊤, IsOk}
use Rattle.std.proofs.Common.{◌≡◌, ◌≢◌, ℕ, ◌<◌, ◌≤◌, ◌^◌, List, [], ◌∷◌, ◌++◌, append_assoc, length, length-append, false, None, Ok, refl, sym, ap, ap₂, ◌∙◌, subst, arith}
use Rattle.std.proofs.lemmas.List.{length-map}
use Rattle.std.proofs.lemmas.Option.{same_Some}
use Rattle.tl_numbers.specs.Bytes.{AreBytes}
use Rattle.tl_types.specs.Values.{ValueView}
use Rattle.tl_base.specs.Packets.{packet}
use Rattle.box_events.specs.declared.replies.Frame.{Frame}
use Rattle.box_events.specs.declared.replies.Frame.TheVariants.{Reply}
use Rattle.box_events.specs.declared.replies.Reply as replying
use Rattle.box_events.specs.declared.requests.Numbered.{Numbered}
use Rattle.box_events.specs.declared.requests.Request.{Request}
use Rattle.box_events.specs.declared.requests.Request.TheVariants as request
use Rattle.channel_box.specs.States.{ChannelState, ids_of}
use Rattle.box_client.specs.Asking.{is_one_asking, ticks, wakes}
use Rattle.box_client.specs.Replies.{Outcome, becomes, ignored, refuses, replied}
use Rattle.box_client.specs.declared.fault.ClientFault.{ClientFault}
use Rattle.box_client.specs.States.{ClientState}
use Rattle.box_server.specs.Answers.{IsAnswered, answer}
use Rattle.box_server.specs.Servers.{ServerState, dated_at}
use Rattle.box_server.specs.Sound.{IsSound}
use Rattle.box_server.proofs.Carrying.{changed_overlays}
use Rattle.box_world.specs.Agreeing.{Agrees, Each}
use Rattle.box_world.specs.Recovering.{AnswersEach}
use Rattle.box_world.specs.Streams as streams
use Rattle.box_world.specs.Streams.{Doing, IsHonestFrame, Past, begun, dates, done, first_past, heard_frame, past_of, told_reply}
use Rattle.box_world.proofs.GoingOn.{agree_ticks, agree_wakes}
use Rattle.wire_profile.specs.Indexes.{ProfileView}
use Rattle.wire_profile.specs.Profiles.{IsProfile}
use Rattle.wire_values.specs.Calls.{call_in, call_tree}
use Rattle.wire_values.specs.Carried.{FitsCall}
use Rattle.wire_values.specs.CarriedFrames.{FitsFrame, IsFrame}
use Rattle.wire_values.specs.Frames.{frame_in, frame_tree}
use Rattle.wire_values.proofs.CallsAndValues as call_values
use Rattle.wire_values.proofs.FitFrames as frame_values
use Rattle.box_wire.specs.Framing.{Framed}
use Rattle.box_wire.specs.Kinds.{Kind, calls, frames}
use Rattle.box_wire.specs.Laws.{AreSpelled}
use Rattle.box_wire.proofs.CallLaws.{call_laws, call_levels}
use Rattle.box_wire.proofs.FrameLaws.{frame_laws}
use Rattle.box_wire.proofs.FrameLevels.{frame_levels}
use Rattle.box_wire.proofs.ReadBack.{are_spelled}
use Rattle.box_world.specs.Fitting.{CallFits, IsNumber}
use Rattle.box_world.specs.Spelled.{FitsServer}
use Rattle.box_world.proofs.AnswersFit.{answers_fit}
use Rattle.box_world.proofs.FittingFrames.{answers_have}
use Rattle.box_world.proofs.FittingServers.{servers_keep}
use Rattle.box_world.proofs.MessageForms.{call_has, call_served, frame_has}
use Rattle.box_world.proofs.SpelledMessages.{are_meant}
use Rattle.update_sessions.specs.Exchanges.{Exchanged, TakesAll, after_all}
use Rattle.update_sessions.specs.Heard.{asked}
use Rattle.update_sessions.specs.Hearing.{cause_in, client_side}
use Rattle.update_sessions.specs.Honest.{told_all}
use Rattle.update_sessions.specs.Packed.{Came, MeansCall, MeansFrame, Packed, SpellsCall, SpellsFrame}
use Rattle.update_sessions.specs.Serving.{after_request, server_side}
use Rattle.update_sessions.specs.declared.fault.TheConstants.{MAX_FRAMES}
use Rattle.session_commands.proofs.SpelledBytes.{ValueHolds}
use Rattle.box_world.proofs.Streams.{hears}
use Rattle.headline.specs.Answering.{AreAnswers, all_asks, session_asks}
use Rattle.headline.specs.CatchingUp.{heard_all}
use Rattle.headline.specs.Conversations.{CanBegin, ConversationsEnd, answers_of}
use Rattle.headline.specs.Ending.{EndsInOrder, told_replies}
use Rattle.headline.specs.Histories.{HasHistory}
use Rattle.headline.specs.ReadHistories.{WereRead}
use Rattle.headline.specs.TwoPrograms.{Converse}
use Rattle.headline.proofs.Conversing.{IsAsk, call_fits, frame_fits, none_of, past_last, replies_so, sent_so, session_are_asks, stays_so}
use Rattle.headline.proofs.HeldTexts.{ServerHolds, answers_have_bytes, dated_holds}
use Rattle.headline.proofs.InOrder.{asked_waits}
use Rattle.headline.proofs.LastAnswers.{AgreesAt, grown}
use Rattle.headline.proofs.ReadServers.{read_servers}
use Rattle.headline.proofs.Recoveries.{heard_so, past_front}
use Rattle.headline.proofs.SessionAsks.{IsReady, session_ready}
use Rattle.headline.proofs.SessionHistories.{dated_history, histories_are_sound}
use Rattle.headline.proofs.TextBytes.{packed_are}

-- a request that is read as it was spelled: its number is from 1, its number and its date have 31 bits
abbrev IsRead : Numbered → Type 0
IsRead q = IsNumber q.number × CallFits q

-- These bytes are the packets of requests, and of a server's answers to them in order; they are fewer than a session may have.
record HasSpelling (p : ProfileView) (s : ServerState) (qs : List Numbered) : Type 0 where
  pub asked : List ℕ
  pub answered : List ℕ
  pub bytes : AreBytes asked × AreBytes answered
  pub requests : Packed (SpellsCall p) qs asked
  pub answers : Packed (SpellsFrame p) (answers_of s qs) answered
  pub read : Each IsRead qs
  pub few : length qs < MAX_FRAMES

-- ---- replies as frames

frames_of : List (ℕ × replying.Reply) → List Frame
frames_of [] = []
frames_of (f ∷ fs) = Reply f.0 f.1 ∷ frames_of fs

told_frames : (rs : List (ℕ × replying.Reply)) → told_all (frames_of rs) ≡ told_replies rs
unfolding frames_of
told_frames [] = refl
told_frames (f ∷ fs) = ap (λ (l : List streams.Frame). told_reply f.0 f.1 ∷ l) (told_frames fs)

long_frames : (rs : List (ℕ × replying.Reply)) → length (frames_of rs) ≡ length rs
unfolding frames_of
long_frames [] = refl
long_frames (f ∷ fs) = let rest = long_frames fs in omega (arith, rest)

same_reply : (a b : ℕ) (v w : replying.Reply) → told_reply a v ≡ told_reply b w → Reply a v ≡ Reply b w
same_reply a b v w e = let x : a ≡ b = cc in let y : v ≡ w = cc in ap₂ (λ (n : ℕ) (r : replying.Reply). Reply n r) x y

answers_are : (s : ServerState) (qs : List Numbered) (rs : List (ℕ × replying.Reply)) → AreAnswers s qs (told_replies rs) → length qs ≡ length rs → frames_of rs ≡ answers_of s qs
unfolding frames_of
answers_are s [] [] a e = refl
answers_are s [] (r ∷ rs) a e = absurd a
answers_are s (q ∷ qs) [] a e = absurd (omega (arith, e))
answers_are s (q ∷ qs) (r ∷ rs) (is, more) e = ap₂ (λ (f : Frame) (l : List Frame). f ∷ l) (same_reply r.0 q.number r.1 (answer s q.request) is) (answers_are s qs rs more (omega (arith, e)))

-- ---- packets

split : {M : Type 0} (Spells : M → List ℕ → Type 0) (ms ns : List M) (z : List ℕ) → Packed Spells (ms ++ ns) z → (x : List ℕ) × (y : List ℕ) × (z ≡ x ++ y) × Packed Spells ms x × Packed Spells ns y
split Spells [] ns z p = ([], z, refl, refl, p)
split Spells (m ∷ ms) ns z (b, rest, s, is, p) =
    let more = split Spells ms ns rest p in
    (packet b ++ more.0, more.1, is ∙ ap (λ (l : List ℕ). packet b ++ l) more.2 ∙ sym (append_assoc (packet b) more.0 more.1), (b, more.0, s, refl, more.3), more.4)

module _ (p : ProfileView) (good : IsProfile p) where
  calls_come : (qs : List Numbered) (bytes : List ℕ) → Each IsAsk qs → Each IsRead qs → Packed (SpellsCall p) qs bytes → Came (MeansCall p) bytes qs []
  calls_come [] bytes all read is = is
  calls_come (q ∷ qs) bytes all read (b, rest, spells, is, more) =
      (b, rest, call_fits p good q b all.0 spells, is, are_meant calls call_tree call_in (λ _. ⊤) call_laws call_has call_served call_levels p good q b tt read.0.1 spells, calls_come qs rest all.1 read.1 more)

  frames_come : (s : ServerState) → IsSound s → (qs : List Numbered) (bytes : List ℕ) → Each IsAsk qs → Each IsRead qs → Packed (SpellsFrame p) (answers_of s qs) bytes → Came (MeansFrame p) bytes (answers_of s qs) []
  frames_come s sound [] bytes all read is = is
  frames_come s sound (q ∷ qs) bytes all read (b, rest, spells, is, more) =
      let f : Frame = Reply q.number (answer s q.request) in
      let fits = answers_fit s q.number q.request sound read.0.0 all.0.none in
      (b, rest, frame_fits p good s q b sound spells, is, (fits.is, are_meant frames frame_tree frame_in IsFrame frame_laws frame_has (λ m. tt) (λ t kind clear. frame_levels t kind) p good f b fits.is fits.clear spells), frames_come s sound qs rest all.1 read.1 more)

  -- ---- each is taken

  server_takes : (s : ServerState) (qs : List Numbered) → TakesAll (server_side p) s qs
  server_takes s [] = tt
  server_takes s (q ∷ qs) = (tt, server_takes (after_request s q.request) qs)

  clear_by : (o : Outcome) → ((cause : ClientFault) → o ≢ refuses cause) → cause_in o ≡ None
  clear_by ignored h = refl
  clear_by (refuses cause) h = absurd (h cause refl)
  clear_by (becomes d) h = refl

  client_takes : (h : List Doing) (c : ClientState) (rs : List (ℕ × replying.Reply)) → AgreesAt h (length h) c → AnswersEach (past_of h (length h)).server c rs → TakesAll (client_side p) c (frames_of rs)
  unfolding frames_of
  client_takes h c [] a each = tt
  client_takes h c (f ∷ fs) a each =
      let s : Past = past_of h (length h) in
      let honest : IsHonestFrame h c (length h) (told_reply f.0 f.1) = λ q asks. each.0.2 ∙ ap (answer s.server) (same_Some each.0.0 q (sym each.0.1 ∙ asks)) in
      let heard = hears changed_overlays h c (length h) (told_reply f.0 f.1) a honest in
      (record { asking = asked_waits c f.0 each.0.0 each.0.1; clear = clear_by (replied c f.0 f.1) heard.taken }, client_takes h (heard_frame c (told_reply f.0 f.1)) fs heard.agrees each.1)

  -- ---- both together

  conversation : (h : List Doing) (now : ℕ) (c : ClientState) → IsSound (dated_at (past_of h (length h)).server now) → AgreesAt h (length h) c → is_one_asking c ≡ false
      → (e : EndsInOrder (h ++ dates now ∷ []) c) → HasSpelling p (dated_at (past_of h (length h)).server now) (session_asks c (told_replies e.replies)) → (d : ClientState) × (m : Converse p (past_of h (length h)).server now c (dated_at (past_of h (length h)).server now) d) × IsOk m.ended
  conversation h now c sound a calm e sp =
      let g : List Doing = h ++ dates now ∷ [] in
      let server : ServerState = dated_at (past_of h (length h)).server now in
      let fs : List streams.Frame = told_replies e.replies in
      let gs : List Frame = frames_of e.replies in
      let qs : List Numbered = session_asks c fs in
      let all = session_are_asks c fs in
      let last : past_of g (length g) ≡ done (past_of h (length h)) (dates now) = past_last first_past h (dates now) in
      let answers : AreAnswers server qs fs = subst (λ (q : Past). AreAnswers q.server qs fs) last e.answers in
      let is : gs ≡ answers_of server qs = answers_are server qs e.replies answers e.all in
      let far : length h ≤ length g = omega (arith, length-append h (dates now ∷ [])) in
      let first : AgreesAt g (length h) c = subst (λ (q : Past). Agrees q.server q.boxes c) (sym (past_front first_past h (dates now ∷ []) (length h) (omega arith))) a in
      let agrees : AgreesAt g (length g) c = grown g c (length h) (length g) far first in
      let q : Past = past_of g (length g) in
      let woke : AgreesAt g (length g) (begun c) = agree_ticks q.server q.boxes (wakes c) (agree_wakes q.server q.boxes c agrees) in
      let d : ClientState = after_all (client_side p) (begun c) gs in
      let parts = split (SpellsCall p) (ticks (wakes c)).asks (all_asks (begun c) fs) sp.asked sp.requests in
      let told_is : told_all gs ≡ fs = told_frames e.replies in
      let serves : Exchanged (server_side p) server sp.asked [] sp.answered server qs = record {
        came = calls_come qs sp.asked all sp.read sp.requests;
        taken = server_takes server qs;
        wrote = subst (λ (l : List Frame). Packed (SpellsFrame p) l sp.answered) (sym (replies_so p server qs (none_of qs all))) sp.answers;
        ends = sym (stays_so p server qs (none_of qs all));
      } in
      let hearing : Exchanged (client_side p) (begun c) sp.answered [] parts.1 d gs = record {
        came = subst (λ (l : List Frame). Came (MeansFrame p) sp.answered l []) (sym is) (frames_come server sound qs sp.answered all sp.read sp.answers);
        taken = client_takes g (begun c) e.replies woke e.each;
        wrote = subst (λ (l : List Numbered). Packed (SpellsCall p) l parts.1) (sym (sent_so p (begun c) gs ∙ ap (all_asks (begun c)) told_is)) parts.4;
        ends = refl;
      } in
      let done_asking : is_one_asking d ≡ false = ap is_one_asking (heard_so p (begun c) gs ∙ ap (heard_all (begun c)) told_is) ∙ e.done in
      let long = long_frames e.replies in
      let same = e.all in
      let few = sp.few in (
        d,
        record {
          asked = sp.asked;
          answered = sp.answered;
          bytes = sp.bytes;
          calls = qs;
          ended = Ok (length qs);
          serves = (serves, refl, few);
          frames = gs;
          many = length gs;
          hears = asked parts.0 parts.1 parts.3 parts.2 ([], hearing, done_asking, refl, omega (arith, long, same, few), refl);
        },
        refl,
      )

  -- ---- they have a spelling

  abbrev Spelled : {M : Type 0} → Kind → (M → ValueView) → List M → Type 0
  Spelled kind tree ms = (bytes : List ℕ) × AreBytes bytes × Packed (λ m b. Framed p kind (tree m) b) ms bytes

  all_spelled : {M : Type 0} (kind : Kind) (tree : M → ValueView) (Fits : M → Type 0) → AreSpelled kind tree Fits → (ms : List M) → Each Fits ms → Each (λ m. ValueHolds (tree m)) ms → Spelled kind tree ms
  all_spelled {M} kind tree Fits law ms fits holds =
      let packed = each_packed ms fits in
      (packed.0, packed_are kind tree p ms packed.0 holds packed.1, packed.1)
    where
      each_packed : (ms : List M) → Each Fits ms → (bytes : List ℕ) × Packed (λ m b. Framed p kind (tree m) b) ms bytes
      each_packed [] all = ([], refl)
      each_packed (m ∷ ms) all = let first = law p good m all.0 in let rest = each_packed ms all.1 in (packet first.0 ++ rest.0, (first.0, rest.0, first.1, refl, rest.1))

  request_holds : (n : ℕ) (r : Request) → IsAnswered r → ValueHolds (call_tree (record { number = n; request = r }))
  request_holds n request.State none = (tt, (tt, tt))
  request_holds n (request.Difference pts qts date) none = (tt, ((tt, (tt, (tt, tt))), tt))
  request_holds n (request.Channel id pts) none = (tt, ((tt, (tt, tt)), tt))
  request_holds n (request.Post random_id posts) none = absurd none

  requests_hold : (qs : List Numbered) → Each IsAsk qs → Each (λ q. ValueHolds (call_tree q)) qs
  requests_hold [] all = tt
  requests_hold (q ∷ qs) all = (request_holds q.number q.request all.0.none, requests_hold qs all.1)

  requests_fit : (qs : List Numbered) → Each IsReady qs → Each FitsCall qs
  requests_fit [] all = tt
  requests_fit (q ∷ qs) all = (all.0.fits, requests_fit qs all.1)

  requests_read : (qs : List Numbered) → Each IsReady qs → Each IsRead qs
  requests_read [] all = tt
  requests_read (q ∷ qs) all = ((all.0.number, all.0.read), requests_read qs all.1)

  module _ (s : ServerState) (sound : IsSound s) (fits : FitsServer s) (held : ServerHolds s) where
    answers_fit_all : (qs : List Numbered) → Each IsReady qs → Each FitsFrame (answers_of s qs)
    answers_fit_all [] all = tt
    answers_fit_all (q ∷ qs) all = let low = all.0.number.1 in (answers_have s q.number q.request fits sound (omega (arith, low)), answers_fit_all qs all.1)

    answers_hold : (qs : List Numbered) → Each (λ f. ValueHolds (frame_tree f)) (answers_of s qs)
    answers_hold [] = tt
    answers_hold (q ∷ qs) = (answers_have_bytes s q.number q.request held, answers_hold qs)

    spelling : (qs : List Numbered) → Each IsAsk qs → Each IsReady qs → length qs < MAX_FRAMES → HasSpelling p s qs
    spelling qs all ready few =
        let asked_so = all_spelled calls call_tree FitsCall (are_spelled calls call_tree call_in (λ _. ⊤) FitsCall call_laws call_values.call_fits) qs (requests_fit qs ready) (requests_hold qs all) in
        let told_so = all_spelled frames frame_tree FitsFrame (are_spelled frames frame_tree frame_in IsFrame FitsFrame frame_laws frame_values.frame_fits) (answers_of s qs) (answers_fit_all qs ready) (answers_hold qs) in
        record { asked = asked_so.0; answered = told_so.0; bytes = (asked_so.1, told_so.1); requests = asked_so.2; answers = told_so.2; read = requests_read qs ready; few = few }

  ended : (h : List Doing) (s : ServerState) (now : ℕ) (c : ClientState) → HasHistory h s → WereRead h → now < 2 ^ 31 → Agrees s (past_of h (length h)).boxes c → is_one_asking c ≡ false → CanBegin c → (e : EndsInOrder (h ++ dates now ∷ []) c) → length e.replies < MAX_FRAMES
      → (d : ClientState) × (m : Converse p s now c (dated_at s now) d) × IsOk m.ended
  ended h s now c a read lt agrees calm can e few =
      let g : List Doing = h ++ dates now ∷ [] in
      let t : ServerState = (past_of h (length h)).server in
      let dated : HasHistory g (dated_at s now) = dated_history h s now lt a in
      let here : dated_at s now ≡ dated_at t now = ap (λ (z : ServerState). dated_at z now) a.is in
      let at_end : (past_of g (length g)).server ≡ dated_at t now = sym dated.is ∙ here in
      let sound : IsSound (dated_at t now) = subst IsSound here (histories_are_sound.sound g (dated_at s now) dated) in
      let first : AgreesAt h (length h) c = subst (λ (z : ServerState). Agrees z (past_of h (length h)).boxes c) a.is agrees in
      let moved : AgreesAt g (length h) c = subst (λ (q : Past). Agrees q.server q.boxes c) (sym (past_front first_past h (dates now ∷ []) (length h) (omega arith))) first in
      let last : AgreesAt g (length g) c = grown g c (length h) (length g) (omega (arith, length-append h (dates now ∷ []))) moved in
      let qs : List Numbered = session_asks c (told_replies e.replies) in
      let as_many = length-map c.channels (λ (d : ChannelState). d.id) in
      let many = e.all in
      let some = can.next.0 in
      let most = can.next.1 in
      let watched = can.few in
      let ready = session_ready g (ids_of c.channels) can.ids (omega (arith, as_many, watched)) (subst IsSound (sym at_end) sound) c e.replies last refl some (omega (arith, many, few, most)) e.each in
      let known = read_servers h (length h) a.dated read in
      let fits : FitsServer (dated_at t now) = servers_keep.date t now known.fits in
      let sp = spelling (dated_at t now) sound fits (dated_holds t now known.holds) qs (session_are_asks c (told_replies e.replies)) ready (omega (arith, many, few)) in
      let both = conversation h now c sound first calm e sp in
      let there = subst (λ (z : ServerState). (m : Converse p z now c (dated_at z now) both.0) × IsOk m.ended) (sym a.is) (both.1, both.2) in
      (both.0, there.0, there.1)

pub conversations_end : ConversationsEnd
conversations_end p good h s now c a read lt agrees calm can e few = ended p good h s now c a read lt agrees calm can e few
