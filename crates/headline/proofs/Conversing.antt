-- What `serve` sends to a client's requests is what the client hears.
use Rattle.std.specs.Prelude.{⊤}
use Rattle.std.specs.List.{All}
use Rattle.std.proofs.lemmas.List.Elements.{All-head, All-tail}
use Rattle.std.proofs.Common.{◌≡◌, inl, inr, ℕ, ◌+◌, ◌≤◌, List, [], ◌∷◌, ◌++◌, append-nil, append_assoc, length, length-append, Bool, true, false, Result, Ok, Err, refl, sym, ap, ap₂, ◌∙◌, subst, arith}
use Rattle.tl_numbers.specs.Bytes.{AreBytes}
use Rattle.tl_numbers.specs.Numbers.{word}
use Rattle.tl_base.specs.Packets.{IsPacketLength, packet}
use Rattle.tl_numbers.proofs.Spelled.{words}
use Rattle.tl_types.specs.Exactly.{ExactlyOne}
use Rattle.tl_types.specs.Values.{ValueView, depth}
use Rattle.tl_types.specs.declared.value.TheConstants.{MAX_LEVELS}
use Rattle.tl_types.proofs.Exactly.{exactly_one}
use Rattle.tl_schema.specs.Formed.{IsFormed}
use Rattle.box_events.specs.declared.replies.Frame.{Frame}
use Rattle.box_events.specs.declared.replies.Frame.TheVariants.{Push, Reply}
use Rattle.box_events.specs.declared.requests.Numbered.{Numbered}
use Rattle.box_events.specs.declared.requests.Request.{Request}
use Rattle.box_events.specs.declared.requests.Request.TheVariants as request
use Rattle.channel_box.specs.States.{ChannelState}
use Rattle.channel_box.specs.Steps.{channel_is_due, ticked}
use Rattle.box_client.specs.Asking.{group_is_due, group_ticked, is_one_asking, ticks, wakes}
use Rattle.box_client.specs.States.{ClientState}
use Rattle.box_server.specs.Answers.{IsAnswered, answer}
use Rattle.box_server.specs.Servers.{ServerState, dated_at}
use Rattle.box_server.specs.Sound.{IsSound}
use Rattle.box_world.specs.Agreeing.{Agrees, Each}
use Rattle.box_world.specs.Streams as streams
use Rattle.box_world.specs.Streams.{Doing, Honest, Past, begun, dates, done, done_all, first_past, heard_frame, past_of}
use Rattle.wire_profile.specs.Indexes.{ProfileView, cell_shape, form_at, number_at}
use Rattle.wire_profile.specs.Profiles.{IsProfile}
use Rattle.wire_profile.specs.SpelledForms.{owned, placed}
use Rattle.wire_profile.proofs.ProfileFacts.{own_again}
use Rattle.wire_profile.proofs.Renamings.{HasForms, renamed_back}
use Rattle.wire_values.specs.Calls.{call_in, call_tree}
use Rattle.wire_values.specs.CarriedFrames.{IsFrame}
use Rattle.wire_values.specs.Frames.{frame_in, frame_tree}
use Rattle.box_wire.specs.Framing.{Framed, Means}
use Rattle.box_wire.specs.Kinds.{Kind, calls, frames}
use Rattle.box_wire.proofs.CallLaws.{call_laws}
use Rattle.box_wire.proofs.Exactly.{KindLaws}
use Rattle.box_wire.proofs.FrameLaws.{frame_formed, frame_laws}
use Rattle.box_wire.proofs.FrameLevels.{frame_levels}
use Rattle.box_wire.proofs.Levels.{depth_same}
use Rattle.box_world.specs.Sizes.{call_size}
use Rattle.box_world.proofs.MessageForms.{call_has, call_served, frame_has}
use Rattle.box_world.proofs.SpelledMessages.{are_whole, of_the_kind, read_of}
use Rattle.box_world.proofs.AnswersFit.{answers_fit}
use Rattle.box_world.proofs.PushesBelow.{asks_below}
use Rattle.update_sessions.specs.Exchanges.{Broken, Exchanged, after_all, sends_all}
use Rattle.update_sessions.specs.Heard.{Hears, asked, broke_off}
use Rattle.update_sessions.specs.Hearing.{client_side}
use Rattle.update_sessions.specs.Honest.{told, told_all}
use Rattle.update_sessions.specs.Packed.{Came, MeansCall, MeansFrame, Packed, PartlyPacked, SpellsCall, SpellsFrame}
use Rattle.update_sessions.specs.Served.{Serves}
use Rattle.update_sessions.specs.Serving.{server_side}
use Rattle.update_sessions.specs.declared.fault.SessionFault.{SessionFault}
use Rattle.update_sessions.specs.declared.fault.SessionFault.TheVariants as fault
use Rattle.update_sessions.proofs.Answered.{after_answer, answer_short, sent_answer}
use Rattle.update_sessions.proofs.Packets.{packed_then, partly_of}
use Rattle.update_sessions.proofs.Sizes.{call_sized, frame_sized}
use Rattle.session_commands.proofs.OneExchange.{rest_bytes, same_rest}
use Rattle.session_commands.proofs.OneReply.{body_bytes}
use Rattle.headline.specs.Answering.{AreAnswers, IsUpToDate, all_asks, hears_one, session_asks}
use Rattle.headline.specs.CatchingUp.{heard_all}
use Rattle.headline.specs.Conversations.{answers_of}
use Rattle.headline.specs.TwoPrograms.{TwoProgramsMeet}
use Rattle.headline.proofs.Answered.{answers_bring_up_to_date}
use Rattle.headline.proofs.LastAnswers.{AgreesAt, grown}
use Rattle.headline.proofs.Recoveries.{heard_so, past_front}
use Rattle.headline.proofs.ClientEnding.{unbroken}

-- ---- requests of clients are no posts

abbrev pub NoPost : Numbered → Type 0
NoPost q = IsAnswered q.request

channel_asks_none : (d : ChannelState) (n : ℕ) (ds : List ChannelState) (b : Bool) → channel_is_due d ≡ b → ((m : ℕ) → Each NoPost (ticked m ds).asks) → Each NoPost (ticked n (d ∷ ds)).asks
channel_asks_none d n ds true e rest = rw e (tt, rest (n + 1))
channel_asks_none d n ds false e rest = rw e (rest n)

channels_no_post : (ds : List ChannelState) (n : ℕ) → Each NoPost (ticked n ds).asks
channels_no_post [] n = tt
channels_no_post (d ∷ ds) n = channel_asks_none d n ds (channel_is_due d) refl (λ m. channels_no_post ds m)

pub each_both : (P : Numbered → Type 0) (xs ys : List Numbered) → Each P xs → Each P ys → Each P (xs ++ ys)
each_both P [] ys h g = g
each_both P (x ∷ xs) ys h g = (h.0, each_both P xs ys h.1 g)

group_no_post : (c : ClientState) (b : Bool) → group_is_due c ≡ b → Each NoPost (group_ticked c).asks
group_no_post c true e = rw e (tt, tt)
group_no_post c false e = rw e tt

tick_no_post : (c : ClientState) → Each NoPost (ticks c).asks
tick_no_post c = let g = group_ticked c in each_both NoPost g.asks (ticked g.client.next g.client.channels).asks (group_no_post c (group_is_due c) refl) (channels_no_post g.client.channels g.client.next)

-- a client asks for what its definition says
pub sent_so : (p : ProfileView) (c : ClientState) (fs : List Frame) → sends_all (client_side p) c fs ≡ all_asks c (told_all fs)
sent_so p c [] = refl
sent_so p c (Push q ∷ fs) = ap (λ (l : List Numbered). (ticks (hears_one c (told (Push q)))).asks ++ l) (sent_so p (heard_frame c (told (Push q))) fs)
sent_so p c (Reply n r ∷ fs) = ap (λ (l : List Numbered). (ticks (hears_one c (told (Reply n r)))).asks ++ l) (sent_so p (heard_frame c (told (Reply n r))) fs)

-- ---- a server's answers to them

pub replies_so : (p : ProfileView) (s : ServerState) (qs : List Numbered) → Each NoPost qs → sends_all (server_side p) s qs ≡ answers_of s qs
replies_so p s [] h = refl
replies_so p s (q ∷ qs) h =
    ap₂ (λ (l k : List Frame). l ++ k) (sent_answer s q.number q.request h.0) (ap (λ (t : ServerState). sends_all (server_side p) t qs) (after_answer s q.request h.0) ∙ replies_so p s qs h.1)

pub stays_so : (p : ProfileView) (s : ServerState) (qs : List Numbered) → Each NoPost qs → after_all (server_side p) s qs ≡ s
stays_so p s [] h = refl
stays_so p s (q ∷ qs) h = ap (λ (t : ServerState). after_all (server_side p) t qs) (after_answer s q.request h.0) ∙ stays_so p s qs h.1

-- ---- bytes that are spelled mean one message

module _ {M : Type 0} (kind : Kind) (tree : M → ValueView) (inside : ValueView → M) (Is : M → Type 0) (laws : KindLaws kind tree inside Is) (has : (m : M) → HasForms (tree m)) (p : ProfileView) (good : IsProfile p) (formed : IsFormed p.schema (cell_shape p kind.cell)) where
  own_tree : (x : M) → owned p (placed p (tree x)) ≡ tree x
  own_tree x = renamed_back (number_at p.indexes) (form_at p.indexes) (tree x) (λ k form. own_again p good k form.0 form.1) (has x)

  meant_one : (bytes : List ℕ) → AreBytes bytes → (x s : M) → Is x → Is s → depth (tree x) ≤ MAX_LEVELS → Framed p kind (tree x) bytes → Means p kind (tree s) bytes → s ≡ x
  meant_one bytes are x s was is few spelled means =
      let one : ExactlyOne p.schema MAX_LEVELS (cell_shape p kind.cell) bytes = exactly_one p.schema good.schema MAX_LEVELS (cell_shape p kind.cell) bytes formed are in
      let deep : depth (placed p (tree x)) ≤ MAX_LEVELS = subst (λ (n : ℕ). n ≤ MAX_LEVELS) (sym (depth_same (number_at p.indexes) (tree x))) few in
      let v : ValueView = means.v in
      let same : v ≡ placed p (tree x) = (one.one_value v (placed p (tree x)) bytes bytes ([], sym (append-nil bytes), means.spelled.0, means.spelled.1) ([], sym (append-nil bytes), spelled, deep)).0 in
      let read = read_of kind tree inside Is laws p good s bytes is means in
      sym read.message ∙ ap (λ (t : ValueView). inside (owned p t)) same ∙ ap inside (own_tree x) ∙ laws.back x was

flat_by : (n : ℕ) (r : Request) → IsAnswered r → depth (call_tree (record { number = n; request = r })) ≤ MAX_LEVELS
flat_by n request.State h = omega arith
flat_by n (request.Difference pts qts date) h = omega arith
flat_by n (request.Channel id pts) h = omega arith
flat_by n (request.Post random_id posts) h = absurd h

-- ---- packets

none_first : (xs ys : List ℕ) → xs ++ ys ≡ [] → xs ≡ []
none_first [] ys e = refl
none_first (x ∷ xs) ys e = absurd cc

no_packet : (b rest : List ℕ) → [] ≡ packet b ++ rest → ⊥
no_packet b rest e = omega (arith, ap length e, length-append (packet b) rest, length-append (word (length b)) b, words.long (length b))

-- a request of a client: no post, of 24 bytes
pub record IsAsk (q : Numbered) : Type 0 where
  pub none : NoPost q
  pub size : call_size q ≡ 24

pub each_of_all : (P : Numbered → Type 0) (qs : List Numbered) → All P qs → Each P qs
each_of_all P [] a = tt
each_of_all P (q ∷ qs) a = (All-head P q qs a, each_of_all P qs (All-tail P q qs a))

each_ask : (qs : List Numbered) → Each NoPost qs → Each (λ q. call_size q ≡ 24) qs → Each IsAsk qs
each_ask [] h g = tt
each_ask (q ∷ qs) h g = (record { none = h.0; size = g.0 }, each_ask qs h.1 g.1)

tick_asks : (c : ClientState) → Each IsAsk (ticks c).asks
tick_asks c = each_ask (ticks c).asks (tick_no_post c) (each_of_all (λ q. call_size q ≡ 24) (ticks c).asks (asks_below c))

all_are_asks : (c : ClientState) (fs : List streams.Frame) → Each IsAsk (all_asks c fs)
all_are_asks c [] = tt
all_are_asks c (f ∷ fs) = each_both IsAsk (ticks (hears_one c f)).asks (all_asks (heard_frame c f) fs) (tick_asks (hears_one c f)) (all_are_asks (heard_frame c f) fs)

pub session_are_asks : (c : ClientState) (fs : List streams.Frame) → Each IsAsk (session_asks c fs)
session_are_asks c fs = each_both IsAsk (ticks (wakes c)).asks (all_asks (begun c) fs) (tick_asks (wakes c)) (all_are_asks (begun c) fs)

pub none_of : (qs : List Numbered) → Each IsAsk qs → Each NoPost qs
none_of [] h = tt
none_of (q ∷ qs) h = (h.0.none, none_of qs h.1)

module _ (p : ProfileView) (good : IsProfile p) where
  pub call_fits : (q : Numbered) (b : List ℕ) → IsAsk q → SpellsCall p q b → IsPacketLength (length b)
  call_fits q b h s = (are_whole calls call_tree call_in (λ _. ⊤) call_laws call_has call_served p good q b s, omega (arith, call_sized p good q b s, h.size))

  pub frame_fits : (s : ServerState) (q : Numbered) (b : List ℕ) → IsSound s → SpellsFrame p (Reply q.number (answer s q.request)) b → IsPacketLength (length b)
  frame_fits s q b sound spells =
      (are_whole frames frame_tree frame_in IsFrame frame_laws frame_has (λ m. tt) p good (Reply q.number (answer s q.request)) b spells, omega (arith, frame_sized p good (Reply q.number (answer s q.request)) b spells, answer_short s q.number q.request (answer s q.request) sound refl))

  one_call : (b : List ℕ) → AreBytes b → (a q : Numbered) → NoPost a → SpellsCall p a b → MeansCall p q b → q ≡ a
  one_call b are a q none spells means = meant_one calls call_tree call_in (λ _. ⊤) call_laws call_has p good tt b are a q tt tt (flat_by a.number a.request none) spells means

  one_frame : (s : ServerState) → IsSound s → (b : List ℕ) → AreBytes b → (q : Numbered) (f : Frame) → NoPost q → SpellsFrame p (Reply q.number (answer s q.request)) b → MeansFrame p f b → f ≡ Reply q.number (answer s q.request)
  one_frame s sound b are q f none spells (is, means) =
      let g : Frame = Reply q.number (answer s q.request) in
      let was : IsFrame g = (answers_fit s 1 q.request sound (omega arith, omega arith) none).is in
      let kind = of_the_kind frames frame_tree frame_in IsFrame frame_laws frame_has (λ m. tt) p good g b spells in
      meant_one frames frame_tree frame_in IsFrame frame_laws frame_has p good (frame_formed p good) b are g f was is (frame_levels (frame_tree g) kind) spells means

  none_are : (s : ServerState) (qs : List Numbered) → AreAnswers s qs []
  none_are s [] = tt
  none_are s (q ∷ qs) = tt

  -- the server hears the first of the client's requests
  calls_begin : (qs ks : List Numbered) (bytes left : List ℕ) → AreBytes bytes → Each IsAsk qs → Packed (SpellsCall p) qs bytes → Came (MeansCall p) bytes ks left → (others : List Numbered) × (qs ≡ ks ++ others) × Packed (SpellsCall p) others left × AreBytes left
  calls_begin qs [] bytes left are all wrote is = (qs, refl, subst (Packed (SpellsCall p) qs) is wrote, subst AreBytes is are)
  calls_begin [] (k ∷ ks) bytes left are all wrote (b, rest, fits, is, means, more) = absurd (no_packet b rest (sym wrote ∙ is))
  calls_begin (q ∷ qs) (k ∷ ks) bytes left are all (b, rest, spells, is, more) (d, behind, fits, at, means, further) =
      let same = same_rest d b behind rest fits (call_fits q b all.0 spells) (sym at ∙ is) in
      let first : k ≡ q = one_call b (body_bytes bytes b rest is are) q k all.0.none spells (subst (MeansCall p k) same.0 means) in
      let (others, parts, wrote, bytes_left) = calls_begin qs ks rest left (rest_bytes bytes b rest is are) all.1 more (subst (λ (l : List ℕ). Came (MeansCall p) l ks left) same.1 further) in
      (others, ap₂ (λ (x : Numbered) (l : List Numbered). x ∷ l) (sym first) parts, wrote, bytes_left)

  -- after a packet that was cut no frame comes
  nothing_comes : (s : ServerState) (q : Numbered) (ks : List Numbered) (f : Frame) (fs : List Frame) (behind left : List ℕ) → behind ≡ [] → Came (MeansFrame p) behind fs left → told f ≡ told (Reply q.number (answer s q.request)) → AreAnswers s (q ∷ ks) (told_all (f ∷ fs))
  nothing_comes s q ks f [] behind left none came is = (is, none_are s ks)
  nothing_comes s q ks f (g ∷ gs) behind left none (b, rest, fits, at, means, more) is = absurd (no_packet b rest (sym none ∙ at))

  -- the client hears the first of the server's answers
  frames_are : (s : ServerState) → IsSound s → (ks : List Numbered) (fs : List Frame) (bytes left : List ℕ) → AreBytes bytes → Each IsAsk ks → PartlyPacked (SpellsFrame p) (answers_of s ks) bytes → Came (MeansFrame p) bytes fs left → AreAnswers s ks (told_all fs)
  frames_are s sound ks [] bytes left are all wrote came = none_are s ks
  frames_are s sound [] (f ∷ fs) bytes left are all wrote (b, rest, fits, is, means, more) = absurd (no_packet b rest (sym wrote ∙ is))
  frames_are s sound (q ∷ ks) (f ∷ fs) bytes left are all (inl none) (d, behind, fits, at, means, further) = absurd (no_packet d behind (sym none ∙ at))
  frames_are s sound (q ∷ ks) (f ∷ fs) bytes left are all (inr (b, rest, spells, inl part)) (d, behind, fits, at, means, further) =
      let whole : packet d ++ (behind ++ rest) ≡ packet b ++ [] = sym (append_assoc (packet d) behind rest) ∙ ap (λ (l : List ℕ). l ++ rest) (sym at) ∙ part ∙ sym (append-nil (packet b)) in
      let same = same_rest d b (behind ++ rest) [] fits (frame_fits s q b sound spells) whole in
      let body : AreBytes b = subst AreBytes same.0 (body_bytes bytes d behind at are) in
      let first : f ≡ Reply q.number (answer s q.request) = one_frame s sound b body q f all.0.none spells (subst (MeansFrame p f) same.0 means) in
      nothing_comes s q ks f fs behind left (none_first behind rest same.1) further (ap told first)
  frames_are s sound (q ∷ ks) (f ∷ fs) bytes left are all (inr (b, rest, spells, inr (is, more))) (d, behind, fits, at, means, further) =
      let same = same_rest d b behind rest fits (frame_fits s q b sound spells) (sym at ∙ is) in
      let first : f ≡ Reply q.number (answer s q.request) = one_frame s sound b (body_bytes bytes b rest is are) q f all.0.none spells (subst (MeansFrame p f) same.0 means) in (
        ap told first,
        frames_are s sound ks fs rest left (rest_bytes bytes b rest is are) all.1 more (subst (λ (l : List ℕ). Came (MeansFrame p) l fs left) same.1 further),
      )

-- ---- what a session of the server sent, however it ended

each_front : (P : Numbered → Type 0) (xs ys : List Numbered) → Each P (xs ++ ys) → Each P xs
each_front P [] ys h = tt
each_front P (x ∷ xs) ys h = (h.0, each_front P xs ys h.1)

each_back : (P : Numbered → Type 0) (xs ys : List Numbered) → Each P (xs ++ ys) → Each P ys
each_back P [] ys h = h
each_back P (x ∷ xs) ys h = each_back P xs ys h.1

partly_then : {M : Type 0} (Spells : M → List ℕ → Type 0) (ms ns : List M) (x y : List ℕ) → Packed Spells ms x → PartlyPacked Spells ns y → PartlyPacked Spells (ms ++ ns) (x ++ y)
partly_then Spells [] ns x y is q = subst (PartlyPacked Spells ns) (sym (ap (λ (l : List ℕ). l ++ y) is)) q
partly_then Spells (m ∷ ms) ns x y (b, rest, s, is, p) q = inr (b, rest ++ y, s, inr (ap (λ (l : List ℕ). l ++ y) is ∙ append_assoc (packet b) rest y, partly_then Spells ms ns rest y p q))

answers_then : (s : ServerState) (xs ys : List Numbered) → answers_of s (xs ++ ys) ≡ answers_of s xs ++ answers_of s ys
answers_then s [] ys = refl
answers_then s (x ∷ xs) ys = ap (λ (l : List Frame). Reply x.number (answer s x.request) ∷ l) (answers_then s xs ys)

answers_more : (s : ServerState) (ks others : List Numbered) (fs : List streams.Frame) → AreAnswers s ks fs → AreAnswers s (ks ++ others) fs
answers_more s [] [] [] a = tt
answers_more s [] (q ∷ qs) [] a = tt
answers_more s [] others (f ∷ fs) a = absurd a
answers_more s (k ∷ ks) others [] a = tt
answers_more s (k ∷ ks) others (f ∷ fs) (is, a) = (is, answers_more s ks others fs a)

-- it heard the first of these requests, wrote a prefix of its answers to them, and is as it was
record SentOf (p : ProfileView) (s : ServerState) (qs : List Numbered) (out : List ℕ) (t : ServerState) : Type 0 where
  pub heard : List Numbered
  pub others : List Numbered
  pub parts : qs ≡ heard ++ others
  pub wrote : PartlyPacked (SpellsFrame p) (answers_of s heard) out
  pub stays : t ≡ s

module _ (p : ProfileView) (good : IsProfile p) (s : ServerState) (qs : List Numbered) (bytes : List ℕ) (are : AreBytes bytes) (all : Each IsAsk qs) (packed : Packed (SpellsCall p) qs bytes) where
  of_exchange : (out left : List ℕ) (t : ServerState) (ks : List Numbered) → Exchanged (server_side p) s bytes left out t ks → SentOf p s qs out t
  of_exchange out left t ks e =
      let (others, parts, rest, left_bytes) = calls_begin p good qs ks bytes left are all packed e.came in
      let none : Each NoPost ks = none_of ks (each_front IsAsk ks others (subst (Each IsAsk) parts all)) in
      record {
        heard = ks;
        others = others;
        parts = parts;
        wrote = partly_of (SpellsFrame p) (answers_of s ks) out out [] (subst (λ (l : List Frame). Packed (SpellsFrame p) l out) (replies_so p s ks none) e.wrote) (append-nil out);
        stays = e.ends ∙ stays_so p s ks none;
      }

  of_broken : (out : List ℕ) (t : ServerState) (ks : List Numbered) → Broken (server_side p) s bytes out t ks → SentOf p s qs out t
  of_broken out t ks b =
      let (after, parts, rest, left_bytes) = calls_begin p good qs b.first bytes b.rest are all packed b.exchanged.came in
      let both : Each IsAsk (b.first ++ after) = subst (Each IsAsk) parts all in
      let then_asked : Each IsAsk after = each_back IsAsk b.first after both in
      let (others, further, more, none_left) = calls_begin p good after b.last b.rest b.cut.left left_bytes then_asked rest b.cut.came in
      let first : Each NoPost b.first = none_of b.first (each_front IsAsk b.first after both) in
      let last : Each NoPost b.last = none_of b.last (each_front IsAsk b.last others (subst (Each IsAsk) further then_asked)) in
      let same : b.between ≡ s = b.exchanged.ends ∙ stays_so p s b.first first in
      let wrote : Packed (SpellsFrame p) (answers_of s b.first) b.wrote = subst (λ (l : List Frame). Packed (SpellsFrame p) l b.wrote) (replies_so p s b.first first) b.exchanged.wrote in
      let part : PartlyPacked (SpellsFrame p) (answers_of s b.last) b.part =
      subst (λ (l : List Frame). PartlyPacked (SpellsFrame p) l b.part) (ap (λ (z : ServerState). sends_all (server_side p) z b.last) same ∙ replies_so p s b.last last) b.cut.wrote in
      let joined = partly_then (SpellsFrame p) (answers_of s b.first) (answers_of s b.last) b.wrote b.part wrote part in
      record {
        heard = b.first ++ b.last;
        others = others;
        parts = parts ∙ ap (λ (l : List Numbered). b.first ++ l) further ∙ sym (append_assoc b.first b.last others);
        wrote = subst (λ (l : List Frame). PartlyPacked (SpellsFrame p) l out) (sym (answers_then s b.first b.last)) (subst (PartlyPacked (SpellsFrame p) (answers_of s b.first ++ answers_of s b.last)) (sym b.out_is) joined);
        stays = b.cut.ends ∙ ap (λ (z : ServerState). after_all (server_side p) z b.last) same ∙ stays_so p s b.last last;
      }

  sent_of : (out : List ℕ) (t : ServerState) (r : Result ℕ SessionFault) (ks : List Numbered) → Serves p s bytes out t r ks → SentOf p s qs out t
  sent_of out t (Ok n) ks h = of_exchange out [] t ks h.0
  sent_of out t (Err (fault.Packet f)) ks h = of_exchange out h.0 t ks h.1
  sent_of out t (Err (fault.Wire f)) ks h = of_exchange out h.0 t ks h.1
  sent_of out t (Err (fault.Client f)) ks h = absurd h
  sent_of out t (Err fault.TooManyFrames) ks h = of_exchange out h.0 t ks h.1
  sent_of out t (Err fault.LinkFault) ks h = of_broken out t ks h

-- ---- both together

pub past_last : (p : Past) (h : List Doing) (x : Doing) → done_all p (h ++ x ∷ []) (length (h ++ x ∷ [])) ≡ done (done_all p h (length h)) x
past_last p [] x = refl
past_last p (y ∷ h) x = past_last (done p y) h x

-- what they came to
record Met (h : List Doing) (now : ℕ) (c d : ClientState) (t : ServerState) (fs : List Frame) : Type 0 where
  pub server : t ≡ dated_at (past_of h (length h)).server now
  pub honest : Honest (h ++ dates now ∷ []) (begun c) (length (h ++ dates now ∷ [])) (told_all fs)
  pub up_to_date : IsUpToDate (h ++ dates now ∷ []) d

module _ (p : ProfileView) (good : IsProfile p) (h : List Doing) (now : ℕ) (c d : ClientState) (t : ServerState) (sound : IsSound (dated_at (past_of h (length h)).server now)) (a : AgreesAt h (length h) c) (calm : is_one_asking c ≡ false) where
  abbrev server : ServerState
  server = dated_at (past_of h (length h)).server now

  abbrev after : List Doing
  after = h ++ dates now ∷ []

  met_by : (asks answers left : List ℕ) (r : Result ℕ SessionFault) (calls_heard : List Numbered) (fs : List Frame) → AreBytes asks → AreBytes answers → Serves p server asks answers t r calls_heard → Packed (SpellsCall p) (session_asks c (told_all fs)) asks
      → Came (MeansFrame p) answers fs left → d ≡ after_all (client_side p) (begun c) fs → is_one_asking d ≡ false → Met h now c d t fs
  met_by asks answers left r calls_heard fs are also serves packed came heard done_asking =
      let qs : List Numbered = session_asks c (told_all fs) in
      let all = session_are_asks c (told_all fs) in
      let sent = sent_of p good server qs asks are all packed answers t r calls_heard serves in
      let asked_first : Each IsAsk sent.heard = each_front IsAsk sent.heard sent.others (subst (Each IsAsk) sent.parts all) in
      let some = answers_more server sent.heard sent.others (told_all fs) (frames_are p good server sound sent.heard fs answers left also asked_first sent.wrote came) in
      let answered : AreAnswers server qs (told_all fs) = subst (λ (l : List Numbered). AreAnswers server l (told_all fs)) (sym sent.parts) some in
      let last : past_of after (length after) ≡ done (past_of h (length h)) (dates now) = past_last first_past h (dates now) in
      let here : AreAnswers (past_of after (length after)).server qs (told_all fs) = subst (λ (q : Past). AreAnswers q.server qs (told_all fs)) (sym last) answered in
      let far : length h ≤ length after = omega (arith, length-append h (dates now ∷ [])) in
      let first : AgreesAt after (length h) c = subst (λ (q : Past). Agrees q.server q.boxes c) (sym (past_front first_past h (dates now ∷ []) (length h) (omega arith))) a in
      let agrees : AgreesAt after (length after) c = grown after c (length h) (length after) far first in
      let is : d ≡ heard_all (begun c) (told_all fs) = heard ∙ heard_so p (begun c) fs in
      record {
        server = sent.stays;
        honest = answers_bring_up_to_date.honest after c (told_all fs) agrees calm here;
        up_to_date = subst (IsUpToDate after) (sym is) (answers_bring_up_to_date.up_to_date after c (told_all fs) agrees calm here (ap is_one_asking (sym is) ∙ done_asking));
      }

  met : (asks answers : List ℕ) (r : Result ℕ SessionFault) (calls_heard : List Numbered) (many : ℕ) (fs : List Frame) → AreBytes asks → AreBytes answers → Serves p server asks answers t r calls_heard → Hears p c answers asks d (Ok many) fs [] → Met h now c d t fs
  met asks answers r calls_heard many fs are also serves (broke_off why wrote is none nothing) = absurd (unbroken many why)
  met asks answers r calls_heard many fs are also serves (asked first more packed parts (left, x, done_asking, number, few, none)) =
      let both = packed_then (SpellsCall p) (ticks (wakes c)).asks (sends_all (client_side p) (begun c) fs) first more packed x.wrote in
      let wrote : Packed (SpellsCall p) (session_asks c (told_all fs)) asks = subst (λ (l : List Numbered). Packed (SpellsCall p) ((ticks (wakes c)).asks ++ l) asks) (sent_so p (begun c) fs) (subst (Packed (SpellsCall p) ((ticks (wakes c)).asks ++ sends_all (client_side p) (begun c) fs)) (sym parts) both) in
      met_by asks answers left r calls_heard fs are also serves wrote x.came x.ends done_asking

pub two_programs_meet : TwoProgramsMeet
two_programs_meet p good h now c d t sound a calm m =
    let r = met p good h now c d t sound a calm m.asked m.answered m.ended m.calls m.many m.frames m.bytes.0 m.bytes.1 m.serves m.hears in
    (r.server, r.honest, r.up_to_date)
