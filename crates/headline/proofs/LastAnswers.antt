-- A client that hears an honest server until it asks no more has heard a last answer, and stands at or past where the server was then.
use Rattle.std.proofs.Common.{◌≡◌, ◌⊎◌, inl, inr, ℕ, ◌≤◌, pos, List, [], ◌∷◌, length, Bool, true, false, cond, Some, refl, sym, ap, ◌∙◌, subst, arith}
use Rattle.box_events.specs.declared.replies.Reply.{Reply}
use Rattle.channel_box.specs.Looks.{any_asks, is_waiting}
use Rattle.channel_box.specs.Steps.{is_asking}
use Rattle.channel_box.specs.States.{first}
use Rattle.channel_box.specs.Steps.{asks_number}
use Rattle.box_server.specs.Servers.{ServerState}
use Rattle.box_server.specs.Answers.{answer}
use Rattle.box_server.specs.Answers as server
use Rattle.box_server.proofs.Carrying.{changed_overlays}
use Rattle.box_client.specs.Asking.{difference_of, ticks, wakes}
use Rattle.box_client.specs.Pushes.{pushed}
use Rattle.box_client.specs.Replies.{group_replied, replied}
use Rattle.box_client.specs.States.{ClientState}
use Rattle.box_world.specs.Agreeing.{Agrees, Boxes, IsPast, Reaches, is_final}
use Rattle.box_world.specs.Growing.{IsLedger}
use Rattle.box_world.specs.Requesting.{GroupFits}
use Rattle.box_world.specs.Streams.{AgreesThrough, Doing, Frame, Honest, IsHonestFrame, Past, begun, channel_request, first_past, heard_frame, past_of, told_push, told_reply}
use Rattle.box_world.specs.Worlds.{after_reply}
use Rattle.box_world.proofs.Continuing.{continues_same}
use Rattle.box_world.proofs.GoingOn.{agree_ticks, agree_wakes}
use Rattle.box_world.proofs.Growing.{agree_as_servers_grow}
use Rattle.box_world.proofs.Posting.{none_either}
use Rattle.box_world.proofs.Replying.{Told, stale, takes, told_as, told_group}
use Rattle.box_world.proofs.Streams.{goes_later, hears, honest_lies, honest_streams_agree, ordered}
use Rattle.box_world.proofs.Telling.{answer_is}
use Rattle.box_world.proofs.Ticking.{stands_at}
use Rattle.headline.specs.CatchingUp.{AsksNoMore, HonestSessionsCatchUp, LastAnswer, heard_all}
use Rattle.headline.proofs.Finished.{group_some}
use Rattle.headline.proofs.Upward.{Up, after_of, again_group, again_ticks, flagged_ticks, past_up, pushed_mode, same_unasked, up_pushed, up_replied, up_then, up_ticks, waiting_ticks}

-- ---- one frame

frame_up : (h : List Doing) (c : ClientState) (k : ℕ) (f : Frame) → Agrees (past_of h k).server (past_of h k).boxes c → IsHonestFrame h c k f → Up c (heard_frame c f)
frame_up h c k (told_push p) a honest =
    let s : Past = past_of h k in
    up_then c (pushed c p) (ticks (pushed c p)).client (up_pushed s.server s.boxes c p (ordered h k) (honest_lies h k p honest) a) (up_ticks (pushed c p))
frame_up h c k (told_reply n v) a honest =
    let s : Past = past_of h k in
    let d : ClientState = after_reply c (replied c n v) in
    up_then c d (ticks d).client (up_replied c n v (after_of s.server s.boxes c (ordered h k) a)) (up_ticks d)

-- a frame that ends the group's waiting is the last part that it asked for
record FinalAnswer (h : List Doing) (c : ClientState) (k : ℕ) (f : Frame) : Type 0 where
  pub number : ℕ
  pub reply : Reply
  pub is : f ≡ told_reply number reply
  pub asked : is_asking number c.common.mode ≡ true
  pub answers : reply ≡ answer (past_of h k).server (difference_of c).request
  pub final : is_final reply ≡ true
  pub past : IsPast (past_of h k).server (heard_frame c f)

pub by_true : {A : Type 0} (b : Bool) (x y : A) → b ≡ true → cond b x y ≡ x
by_true true x y e = refl
by_true false x y e = absurd (let w : false ≡ true = e in cc)

told_here : (s : ServerState) (boxes : Boxes) (c : ClientState) (v : Reply) → IsLedger s boxes → Agrees s boxes c → v ≡ answer s (difference_of c).request → Told s boxes c (Reaches s v) (group_replied c v)
told_here s boxes c v k a is =
    let w : Reply = server.difference_of s (pos c.common.at) (pos c.secret.at) c.settings.date in
    let same : v ≡ w = is ∙ answer_is s c in
    let fits : GroupFits s c.common.at c.secret.at c.settings.at = record { common = stands_at s.common c.common a.common; secret = stands_at s.secret c.secret a.secret; settings = a.settings.inside } in
    told_as s boxes c (Reaches s w) (Reaches s v) (group_replied c w) (group_replied c v) (ap (group_replied c) same) (λ e g. subst (λ (x : Reply). Reaches s x e) (sym same) g)
    (told_group changed_overlays s s boxes boxes c k k (continues_same s boxes boxes (λ id. refl)) a fits)

pub no_both : (b : Bool) → b ≡ true → b ≡ false → ⊥
no_both b e f = absurd (let w : true ≡ false = sym e ∙ f in cc)

-- the client that takes the group's answer
final_taken : (h : List Doing) (c : ClientState) (k n : ℕ) (v : Reply) (t : Bool) → is_final v ≡ t → is_asking n c.common.mode ≡ true → v ≡ answer (past_of h k).server (difference_of c).request
    → Told (past_of h k).server (past_of h k).boxes c (Reaches (past_of h k).server v) (group_replied c v) → is_waiting (heard_frame c (told_reply n v)).common.mode ≡ false → FinalAnswer h c k (told_reply n v)
final_taken h c k n v t final asks is (stale none) free = absurd (group_some c v none)
final_taken h c k n v true final asks is (takes d becoming g past) free =
    let after : after_reply c (replied c n v) ≡ d = ap (after_reply c) (by_true (is_asking n c.common.mode) (group_replied c v) _ asks ∙ becoming) in
    record {
      number = n;
      reply = v;
      is = refl;
      asked = asks;
      answers = is;
      final = final;
      past = subst (λ (x : ClientState). IsPast (past_of h k).server (ticks x).client) (sym after) (past_up (past_of h k).server d (ticks d).client (up_ticks d) (past final));
    }
final_taken h c k n v false final asks is (takes d becoming g past) free =
    let after : after_reply c (replied c n v) ≡ d = ap (after_reply c) (by_true (is_asking n c.common.mode) (group_replied c v) _ asks ∙ becoming) in
    absurd (no_both (is_waiting (heard_frame c (told_reply n v)).common.mode) (ap (λ (x : ClientState). is_waiting (ticks x).client.common.mode) after ∙ again_ticks d (again_group c v d final becoming)) free)

final_reply : (h : List Doing) (c : ClientState) (k n : ℕ) (v : Reply) (b : Bool) → is_asking n c.common.mode ≡ b → Agrees (past_of h k).server (past_of h k).boxes c → IsHonestFrame h c k (told_reply n v) → is_waiting c.common.mode ≡ true
    → is_waiting (heard_frame c (told_reply n v)).common.mode ≡ false → FinalAnswer h c k (told_reply n v)
final_reply h c k n v true asks a honest waits free =
    let is : v ≡ answer (past_of h k).server (difference_of c).request = honest (difference_of c).request (by_true (is_asking n c.common.mode) (Some (difference_of c).request) (channel_request (first (asks_number n) c.channels)) asks) in
    final_taken h c k n v (is_final v) refl asks is (told_here (past_of h k).server (past_of h k).boxes c v (ordered h k) a is) free
final_reply h c k n v false asks a honest waits free =
    let d : ClientState = after_reply c (replied c n v) in
    let same = same_unasked c n v asks in
    absurd (no_both (is_waiting (ticks d).client.common.mode) (waiting_ticks d (ap (λ x. is_waiting x.mode) same.common ∙ waits)) free)

final_frame : (h : List Doing) (c : ClientState) (k : ℕ) (f : Frame) → Agrees (past_of h k).server (past_of h k).boxes c → IsHonestFrame h c k f → is_waiting c.common.mode ≡ true → is_waiting (heard_frame c f).common.mode ≡ false → FinalAnswer h c k f
final_frame h c k (told_push p) a honest waits free = absurd (no_both (is_waiting (ticks (pushed c p)).client.common.mode) (waiting_ticks (pushed c p) (ap is_waiting (pushed_mode c p) ∙ waits)) free)
final_frame h c k (told_reply n v) a honest waits free = final_reply h c k n v (is_asking n c.common.mode) refl a honest waits free

-- ---- all frames

-- an answer that comes later among more frames
later : (h : List Doing) (c : ClientState) (m k : ℕ) (f : Frame) (fs : List Frame) → m ≤ k → LastAnswer h (heard_frame c f) k fs → LastAnswer h c m (f ∷ fs)
later h c m k f fs le l = record {
  before = f ∷ l.before;
  number = l.number;
  reply = l.reply;
  after = l.after;
  moment = l.moment;
  parts = ap (λ (x : List Frame). f ∷ x) l.parts;
  asked = l.asked;
  answers = l.answers;
  final = l.final;
  last = l.last;
  from = omega (arith, le, l.from);
  upto = l.upto;
  past = l.past;
}

-- a client that stands past a server hears on: there is a later answer, or it stands past it still and has asked nothing
abbrev StandsOr : List Doing → ServerState → ClientState → ℕ → List Frame → Type 0
StandsOr h s c m fs = LastAnswer h c m fs ⊎ (IsPast s (heard_all c fs) × AsksNoMore c fs)

abbrev pub AgreesAt : List Doing → ℕ → ClientState → Type 0
AgreesAt h m c = Agrees (past_of h m).server (past_of h m).boxes c

record On (h : List Doing) (fs : List Frame) : Type 0 where
  waits : (c : ClientState) (m : ℕ) → m ≤ length h → AgreesAt h m c → Honest h c m fs → is_waiting c.common.mode ≡ true → is_waiting (heard_all c fs).common.mode ≡ false → LastAnswer h c m fs
  stands : (s : ServerState) (c : ClientState) (m : ℕ) → m ≤ length h → AgreesAt h m c → Honest h c m fs → is_waiting c.common.mode ≡ false → IsPast s c → is_waiting (heard_all c fs).common.mode ≡ false → StandsOr h s c m fs

on_none : (h : List Doing) → On h []
on_none h = record {
  waits = λ c m le a honest waits free. absurd (no_both (is_waiting c.common.mode) waits free);
  stands = λ s c m le a honest rests past free. inr (past, free);
}

pub grown : (h : List Doing) (c : ClientState) (m k : ℕ) → m ≤ k → AgreesAt h m c → AgreesAt h k c
grown h c m k up a = agree_as_servers_grow (past_of h m).server (past_of h k).server (past_of h m).boxes (past_of h k).boxes c (goes_later first_past h m k up) a

-- after the frame that ended the waiting
first_of : (h : List Doing) (c : ClientState) (m k : ℕ) (f : Frame) (fs : List Frame) → m ≤ k → k ≤ length h → FinalAnswer h c k f → StandsOr h (past_of h k).server (heard_frame c f) k fs → LastAnswer h c m (f ∷ fs)
first_of h c m k f fs up inside fa (inl l) = later h c m k f fs up l
first_of h c m k f fs up inside fa (inr (past, none)) = record {
  before = [];
  number = fa.number;
  reply = fa.reply;
  after = fs;
  moment = k;
  parts = ap (λ (x : Frame). x ∷ fs) fa.is;
  asked = fa.asked;
  answers = fa.answers;
  final = fa.final;
  last = subst (λ (x : Frame). AsksNoMore (heard_frame c x) fs) fa.is none;
  from = up;
  upto = inside;
  past = past;
}

waits_by : (h : List Doing) (f : Frame) (fs : List Frame) → On h fs → (c : ClientState) (m k : ℕ) (b : Bool) → is_waiting (heard_frame c f).common.mode ≡ b → m ≤ k → k ≤ length h → AgreesAt h k c → IsHonestFrame h c k f → Honest h (heard_frame c f) k fs
    → is_waiting c.common.mode ≡ true → is_waiting (heard_all (heard_frame c f) fs).common.mode ≡ false → LastAnswer h c m (f ∷ fs)
waits_by h f fs on c m k true e up inside a honest rest waits free = later h c m k f fs up (on.waits (heard_frame c f) k inside (hears changed_overlays h c k f a honest).agrees rest e free)
waits_by h f fs on c m k false e up inside a honest rest waits free =
    let fa = final_frame h c k f a honest waits e in
    first_of h c m k f fs up inside fa (on.stands (past_of h k).server (heard_frame c f) k inside (hears changed_overlays h c k f a honest).agrees rest e fa.past free)

stands_more : (h : List Doing) (s : ServerState) (c : ClientState) (m k : ℕ) (f : Frame) (fs : List Frame) → m ≤ k → is_waiting c.common.mode ≡ false → StandsOr h s (heard_frame c f) k fs → StandsOr h s c m (f ∷ fs)
stands_more h s c m k f fs up rests (inl l) = inl (later h c m k f fs up l)
stands_more h s c m k f fs up rests (inr (past, none)) = inr (past, (rests, none))

stands_by : (h : List Doing) (f : Frame) (fs : List Frame) → On h fs → (s : ServerState) (c : ClientState) (m k : ℕ) (b : Bool) → is_waiting (heard_frame c f).common.mode ≡ b → m ≤ k → k ≤ length h → AgreesAt h k c → IsHonestFrame h c k f
    → Honest h (heard_frame c f) k fs → is_waiting c.common.mode ≡ false → IsPast s c → is_waiting (heard_all (heard_frame c f) fs).common.mode ≡ false → StandsOr h s c m (f ∷ fs)
stands_by h f fs on s c m k true e up inside a honest rest rests past free = inl (later h c m k f fs up (on.waits (heard_frame c f) k inside (hears changed_overlays h c k f a honest).agrees rest e free))
stands_by h f fs on s c m k false e up inside a honest rest rests past free =
    stands_more h s c m k f fs up rests (on.stands s (heard_frame c f) k inside (hears changed_overlays h c k f a honest).agrees rest e (past_up s c (heard_frame c f) (frame_up h c k f a honest) past) free)

on_more : (h : List Doing) (f : Frame) (fs : List Frame) → On h fs → On h (f ∷ fs)
on_more h f fs on = record {
  waits = λ c m le a (k, up, inside, honest, rest) waits free. waits_by h f fs on c m k (is_waiting (heard_frame c f).common.mode) refl up inside (grown h c m k up a) honest rest waits free;
  stands = λ s c m le a (k, up, inside, honest, rest) rests past free. stands_by h f fs on s c m k (is_waiting (heard_frame c f).common.mode) refl up inside (grown h c m k up a) honest rest rests past free;
}

on_all : (h : List Doing) (fs : List Frame) → On h fs
on_all h [] = on_none h
on_all h (f ∷ fs) = on_more h f fs (on_all h fs)

pub honest_sessions_catch_up : HonestSessionsCatchUp
honest_sessions_catch_up h c m fs le a honest calm =
    let d : ClientState = heard_all (begun c) fs in
    let s : Past = past_of h m in
    (on_all h fs).waits (begun c) m le (agree_ticks s.server s.boxes (wakes c) (agree_wakes s.server s.boxes c a)) honest (flagged_ticks (wakes c) refl) (none_either (is_waiting d.common.mode) (any_asks d.channels) calm).0

-- after frames, and through them, a client agrees with the server at the end of its history
agrees_last : (p : Past) (c : ClientState) (fs : List Frame) → AgreesThrough p c fs → Agrees p.server p.boxes (heard_all c fs)
agrees_last p c [] h = h
agrees_last p c (f ∷ fs) h = agrees_last p (heard_frame c f) fs h.2

pub ends_agreeing : (h : List Doing) (c : ClientState) (m : ℕ) (fs : List Frame) → m ≤ length h → AgreesAt h m c → Honest h (begun c) m fs → AgreesAt h (length h) (heard_all (begun c) fs)
ends_agreeing h c m fs le a honest = agrees_last (past_of h (length h)) (begun c) fs (honest_streams_agree changed_overlays h c m fs le a honest)
