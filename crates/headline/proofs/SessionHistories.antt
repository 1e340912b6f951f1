-- The server after sessions is one with a history.
use Rattle.std.proofs.Common.{◌≡◌, ℕ, zero, suc, ◌<◌, ◌≤◌, ◌^◌, max, ℤ, List, [], ◌∷◌, ◌++◌, append-nil, append_assoc, length, Option, Some, None, Result, Ok, Err, refl, sym, ap, ◌∙◌, subst, arith}
use Rattle.std.specs.Prelude.{⊤, get_or}
use Rattle.std.specs.FinMap as map
use Rattle.std.specs.List.{All}
use Rattle.std.proofs.lemmas.List.Elements.{All-nil, All-cons}
use Rattle.tl_numbers.specs.Bytes.{AreBytes, ListsOfBytes}
use Rattle.box_events.specs.declared.positions.Receipt.{Receipt}
use Rattle.box_events.specs.declared.requests.Numbered.{Numbered}
use Rattle.box_events.specs.declared.requests.Post.{Post}
use Rattle.box_events.specs.declared.requests.Post.TheVariants as post
use Rattle.box_events.specs.declared.requests.Request.{Request}
use Rattle.box_events.specs.declared.requests.Request.TheVariants as request
use Rattle.box_server.specs.Receiving.{after_post, state_by}
use Rattle.box_server.specs.Refusing.{post_cause}
use Rattle.box_server.specs.Servers.{ServerState, dated_at}
use Rattle.box_server.specs.Sound.{IsSound}
use Rattle.box_server.specs.declared.fault.PostFault.{PostFault}
use Rattle.box_server.proofs.NewServers.{sound_new}
use Rattle.box_server.proofs.Soundness.{dated_sound, posted_sound}
use Rattle.box_server.specs.declared.entry.Entry.{Entry}
use Rattle.box_server.specs.Rebuilding.{Rebuilds, rebuilt}
use Rattle.box_server.proofs.Rebuilt.{one_server}
use Rattle.box_world.specs.Streams.{Doing, Past, dates, done, done_all, first_past, past_of, posted_by, posts}
use Rattle.box_world.specs.Agreeing.{Each}
use Rattle.wire_forms.specs.Parts.{row}
use Rattle.wire_profile.specs.Indexes.{ProfileView}
use Rattle.wire_profile.specs.Profiles.{IsProfile}
use Rattle.wire_values.specs.Calls.{call_in, call_tree}
use Rattle.wire_values.specs.Carried.{FitsCall, FitsPost, FitsRequest}
use Rattle.wire_values.specs.Posts.{post_tree}
use Rattle.box_wire.specs.Kinds.{calls}
use Rattle.box_wire.proofs.CallLaws.{call_laws}
use Rattle.box_world.proofs.MessagesFit.{call_in_fits}
use Rattle.box_world.proofs.SpelledMessages.{meant_fit}
use Rattle.update_sessions.specs.Exchanges.{Broken, after_all}
use Rattle.update_sessions.specs.Packed.{Came, MeansCall}
use Rattle.update_sessions.specs.Served.{Serves}
use Rattle.update_sessions.specs.Serving.{after_request, server_side}
use Rattle.update_sessions.specs.declared.fault.SessionFault.{SessionFault}
use Rattle.update_sessions.specs.declared.fault.SessionFault.TheVariants as fault
use Rattle.session_commands.specs.Serve.{IsAny, Session, SessionEnd, Sessions, Total}
use Rattle.session_commands.proofs.OneExchange.{rest_bytes}
use Rattle.session_commands.proofs.OneReply.{body_bytes}
use Rattle.session_commands.proofs.OneTotal.{given_bytes}
use Rattle.session_commands.proofs.SpelledBytes.{ValueHolds, ValuesHold}
use Rattle.headline.specs.Histories.{AreDated, AreMoments, HasHistory, HistoriesAreSound, KeptRunsGoOn, SessionsGoOn}
use Rattle.headline.specs.ReadHistories.{HasBytes, WereRead}
use Rattle.headline.proofs.Conversing.{each_both, past_last}
use Rattle.headline.proofs.TextBytes.{call_texts}
use Rattle.run_laws.proofs.keeping.Entries.{served_by}

-- ---- histories that go on

pub dated_append : (h more : List Doing) → AreDated h → AreDated more → AreDated (h ++ more)
dated_append [] more d e = e
dated_append (posts random_id ps ∷ h) more d e = dated_append h more d e
dated_append (dates date ∷ h) more d e = (d.0, dated_append h more d.1 e)

pub read_append : (h more : List Doing) → WereRead h → WereRead more → WereRead (h ++ more)
read_append [] more r q = q
read_append (posts random_id ps ∷ h) more r q = (r.0, r.1, read_append h more r.2 q)
read_append (dates date ∷ h) more r q = read_append h more r q

-- a server with more of a history, whose posts were read where R holds
abbrev pub GoesOn : Type 0 → List Doing → ServerState → Type 0
GoesOn R h s = (more : List Doing) × HasHistory (h ++ more) s × (R → WereRead more)

pub on_none : (R : Type 0) (h : List Doing) (s : ServerState) → HasHistory h s → GoesOn R h s
on_none R h s a = ([], subst (λ (l : List Doing). HasHistory l s) (sym (append-nil h)) a, λ r. tt)

pub on_then : (R : Type 0) (h more : List Doing) (s : ServerState) → (R → WereRead more) → GoesOn R (h ++ more) s → GoesOn R h s
on_then R h more s read (rest, a, then_read) = (more ++ rest, subst (λ (l : List Doing). HasHistory l s) (append_assoc h more rest) a, λ r. read_append more rest (read r) (then_read r))

pub one_more : (h : List Doing) (s : ServerState) (x : Doing) (t : ServerState) → AreDated (x ∷ []) → ((p : Past) → p.server ≡ s → t ≡ (done p x).server) → HasHistory h s → HasHistory (h ++ x ∷ []) t
one_more h s x t d on a = record { dated = dated_append h (x ∷ []) a.dated d; is = on (past_of h (length h)) (sym a.is) ∙ sym (ap (λ (p : Past). p.server) (past_last first_past h x)) }

posted_so : (p : Past) (random_id : ℤ) (ps : List Post) (r : Option Receipt) (cause : Option PostFault) → state_by p.server random_id ps r cause ≡ (posted_by p random_id ps r cause).server
posted_so p random_id ps (Some r) cause = refl
posted_so p random_id ps None (Some cause) = refl
posted_so p random_id ps None None = refl

post_on : (s : ServerState) (random_id : ℤ) (ps : List Post) (p : Past) → p.server ≡ s → after_post s random_id ps ≡ (done p (posts random_id ps)).server
post_on s random_id ps p is = ap (λ (t : ServerState). after_post t random_id ps) (sym is) ∙ posted_so p random_id ps (map.get p.server.receipts random_id) (post_cause p.server ps)

date_on : (s : ServerState) (now : ℕ) (p : Past) → p.server ≡ s → dated_at s now ≡ (done p (dates now)).server
date_on s now p is = ap (λ (t : ServerState). dated_at t now) (sym is)

pub dated_history : (h : List Doing) (s : ServerState) (now : ℕ) → now < 2 ^ 31 → HasHistory h s → HasHistory (h ++ dates now ∷ []) (dated_at s now)
dated_history h s now lt a = one_more h s (dates now) (dated_at s now) (lt, tt) (date_on s now) a

-- a request whose posts were read, and such calls
abbrev RequestRead : Request → Type 0
RequestRead request.State = Unit {0}
RequestRead (request.Difference pts qts date) = Unit {0}
RequestRead (request.Channel id pts) = Unit {0}
RequestRead (request.Post random_id ps) = All FitsPost ps × All HasBytes ps

abbrev CallRead : Numbered → Type 0
CallRead c = RequestRead c.request

call_on : (R : Type 0) (h : List Doing) (s : ServerState) (r : Request) → (R → RequestRead r) → HasHistory h s → GoesOn R h (after_request s r)
call_on R h s request.State read a = on_none R h s a
call_on R h s (request.Difference pts qts date) read a = on_none R h s a
call_on R h s (request.Channel id pts) read a = on_none R h s a
call_on R h s (request.Post random_id ps) read a = (posts random_id ps ∷ [], one_more h s (posts random_id ps) (after_post s random_id ps) tt (post_on s random_id ps) a, λ r. ((read r).0, (read r).1, tt))

calls_on : (R : Type 0) (p : ProfileView) (h : List Doing) (s : ServerState) (cs : List Numbered) → (R → Each CallRead cs) → HasHistory h s → GoesOn R h (after_all (server_side p) s cs)
calls_on R p h s [] read a = on_none R h s a
calls_on R p h s (c ∷ cs) read a =
    let (more, b, posts_read) = call_on R h s c.request (λ r. (read r).0) a in
    on_then R h more (after_all (server_side p) (after_request s c.request) cs) posts_read (calls_on R p (h ++ more) (after_request s c.request) cs (λ r. (read r).1) b)

-- ---- sessions

-- what stood in the bytes before the calls that came
record CameRead (cs : List Numbered) (left : List ℕ) : Type 0 where
  pub read : Each CallRead cs
  pub bytes : AreBytes left

posts_hold : (ps : List Post) → ValuesHold (row post_tree ps) → All HasBytes ps
posts_hold [] h = All-nil HasBytes
posts_hold (post.Message body ∷ ps) h = All-cons HasBytes (post.Message body) ps h.0.0 (posts_hold ps h.1)
posts_hold (post.Edit body ∷ ps) h = All-cons HasBytes (post.Edit body) ps h.0.0 (posts_hold ps h.1)
posts_hold (post.Delete ids ∷ ps) h = All-cons HasBytes (post.Delete ids) ps tt (posts_hold ps h.1)
posts_hold (post.Secret body ∷ ps) h = All-cons HasBytes (post.Secret body) ps h.0.0 (posts_hold ps h.1)
posts_hold (post.ChannelMessage id body ∷ ps) h = All-cons HasBytes (post.ChannelMessage id body) ps h.0.1.0 (posts_hold ps h.1)
posts_hold (post.ChannelEdit id body ∷ ps) h = All-cons HasBytes (post.ChannelEdit id body) ps h.0.1.0 (posts_hold ps h.1)
posts_hold (post.ChannelDelete id ids ∷ ps) h = All-cons HasBytes (post.ChannelDelete id ids) ps tt (posts_hold ps h.1)
posts_hold (post.Setting key content ∷ ps) h = All-cons HasBytes (post.Setting key content) ps (h.0.0, h.0.1.0) (posts_hold ps h.1)
posts_hold (post.Read max_id ∷ ps) h = All-cons HasBytes (post.Read max_id) ps tt (posts_hold ps h.1)
posts_hold (post.ChannelRead id max_id ∷ ps) h = All-cons HasBytes (post.ChannelRead id max_id) ps tt (posts_hold ps h.1)

request_read : (n : ℕ) (r : Request) → FitsRequest r → ValueHolds (call_tree (record { number = n; request = r })) → RequestRead r
request_read n request.State fits h = tt
request_read n (request.Difference pts qts date) fits h = tt
request_read n (request.Channel id pts) fits h = tt
request_read n (request.Post random_id ps) fits h = (fits.1.1, posts_hold ps h.1.0.1.0)

module _ (p : ProfileView) (good : IsProfile p) where
  call_read : (c : Numbered) (b : List ℕ) → AreBytes b → MeansCall p c b → CallRead c
  call_read c b are means = request_read c.number c.request (meant_fit calls call_tree call_in (λ _. ⊤) call_laws FitsCall call_in_fits p good c b tt means).1 (call_texts p c b are means)

  came_read : (cs : List Numbered) (bytes left : List ℕ) → AreBytes bytes → Came (MeansCall p) bytes cs left → CameRead cs left
  came_read [] bytes left are is = record { read = tt; bytes = subst AreBytes is are }
  came_read (c ∷ cs) bytes left are (b, rest, fits, is, means, more) =
      let then_read = came_read cs rest left (rest_bytes bytes b rest is are) more in
      record { read = (call_read c b (body_bytes bytes b rest is are) means, then_read.read); bytes = then_read.bytes }

  broken_read : (s t : ServerState) (bytes out : List ℕ) (cs : List Numbered) → AreBytes bytes → Broken (server_side p) s bytes out t cs → Each CallRead cs
  broken_read s t bytes out cs are b =
      let first = came_read b.first bytes b.rest are b.exchanged.came in
      let last = came_read b.last b.rest b.cut.left first.bytes b.cut.came in
      subst (Each CallRead) (sym b.all) (each_both CallRead b.first b.last first.read last.read)

  served_read : (s : ServerState) (bytes out : List ℕ) (t : ServerState) (r : Result ℕ SessionFault) (cs : List Numbered) → AreBytes bytes → Serves p s bytes out t r cs → Each CallRead cs
  served_read s bytes out t (Ok n) cs are h = (came_read cs bytes [] are h.0.came).read
  served_read s bytes out t (Err (fault.Packet f)) cs are h = (came_read cs bytes h.0 are h.1.came).read
  served_read s bytes out t (Err (fault.Wire f)) cs are h = (came_read cs bytes h.0 are h.1.came).read
  served_read s bytes out t (Err (fault.Client f)) cs are h = absurd h
  served_read s bytes out t (Err fault.TooManyFrames) cs are h = (came_read cs bytes h.0 are h.1.came).read
  served_read s bytes out t (Err fault.LinkFault) cs are h = broken_read s t bytes out cs are h

-- a session with a server that is s at its moment
pub session_on : (R : Type 0) (p : ProfileView) (h : List Doing) (s u : ServerState) (now : ℕ) (bytes out : List ℕ) (t : ServerState) (more : List Entry) (e : SessionEnd) → (R → IsProfile p × AreBytes bytes) → now < 2 ^ 31 → HasHistory h s → dated_at u now ≡ dated_at s now
    → Session p u now bytes out t more e → GoesOn R h t
session_on R p h s u now bytes out t more e read lt a same session =
    let on =
    calls_on R p (h ++ dates now ∷ []) (dated_at s now) session.calls (λ r. (let known = read r in served_read p known.0 (dated_at u now) bytes out t session.answer session.calls known.1 session.serves)) (dated_history h s now lt a) in
    let is : t ≡ after_all (server_side p) (dated_at s now) session.calls =
    served_by p (dated_at u now) bytes out t session.answer session.calls session.serves ∙ ap (λ (z : ServerState). after_all (server_side p) z session.calls) same in
    on_then R h (dates now ∷ []) t (λ r. tt) (subst (GoesOn R (h ++ dates now ∷ [])) (sym is) on)

module _ (p : ProfileView) (h : List Doing) (s u : ServerState) (given : List (List ℕ)) (moments : List ℕ) (a : HasHistory h s) (low : AreMoments moments) (same : dated_at u (get_or moments 0 0) ≡ dated_at s (get_or moments 0 0)) where
  abbrev R : Type 0
  R = IsProfile p × ListsOfBytes given

  known : (k : ℕ) → R → IsProfile p × AreBytes (get_or given k [])
  known k r = (r.0, given_bytes given r.1 k)

  pub some_sessions : (k : ℕ) (r : Total) → Sessions IsAny p u given moments (suc k) r → GoesOn R h r.server
  some_sessions zero r (q, e, out, t, more, before, any, session, is) =
      let now : ℕ = get_or moments 0 0 in
      let here : dated_at q.server now ≡ dated_at s now = ap (λ (x : Total). dated_at x.server now) before ∙ same in
      subst (GoesOn R h) (sym (ap (λ (x : Total). x.server) is)) (session_on R p h s q.server now (get_or given 0 []) out t more e (known 0) (low 0) a here session)
  some_sessions (suc k) r (q, e, out, t, more, before, any, session, is) =
      let (first, b, read) = some_sessions k q before in
      let on = session_on R p (h ++ first) q.server q.server (get_or moments (suc k) 0) (get_or given (suc k) []) out t more e (known (suc k)) (low (suc k)) b refl session in
      subst (GoesOn R h) (sym (ap (λ (x : Total). x.server) is)) (on_then R h first t read on)

pub sessions_go_on : SessionsGoOn
sessions_go_on p h s given moments zero r a low is = subst (GoesOn (IsProfile p × ListsOfBytes given) h) (sym (ap (λ (x : Total). x.server) is)) (on_none (IsProfile p × ListsOfBytes given) h s a)
sessions_go_on p h s given moments (suc k) r a low sessions = some_sessions p h s s given moments a low refl k r sessions

-- ---- runs of keep

pub rebuilds_itself : (es : List Entry) (s : ServerState) → Rebuilds es s → Rebuilds es (rebuilt es)
rebuilds_itself es s k = record { right = k.right; server = (let d : (rebuilt es).date ≡ max (rebuilt es).date (rebuilt es).date = omega arith in ap (λ (n : ℕ). record (rebuilt es) { date = n }) d) }

pub rebuilt_below : (es : List Entry) (s : ServerState) → Rebuilds es s → (rebuilt es).date ≤ s.date
rebuilt_below es s k = let d : s.date ≡ max (rebuilt es).date s.date = ap (λ (t : ServerState). t.date) k.server in omega (arith, d)

kept_some : (R : Type 0) (h : List Doing) (es : List Entry) (r : Total) → GoesOn R h r.server → Rebuilds (es ++ r.entries) r.server → (more : List Doing) × (t : ServerState) × HasHistory (h ++ more) t × Rebuilds (es ++ r.entries) t × (R → WereRead more)
kept_some R h es r (more, a, read) kept = (more, r.server, a, kept, read)

pub kept_runs_go_on : KeptRunsGoOn
kept_runs_go_on p h s es given moments zero r a k low past is kept =
    let none : es ≡ es ++ r.entries = sym (append-nil es) ∙ ap (λ (x : Total). es ++ x.entries) (sym is) in
    ([], s, subst (λ (l : List Doing). HasHistory l s) (sym (append-nil h)) a, subst (λ (l : List Entry). Rebuilds l s) none k, λ z. tt)
kept_runs_go_on p h s es given moments (suc n) r a k low past sessions kept =
    let now : ℕ = get_or moments 0 0 in
    let same : dated_at (rebuilt es) now ≡ dated_at s now = one_server es (rebuilt es) s now (rebuilds_itself es s k) k (omega (arith, rebuilt_below es s k, past)) past in
    kept_some (IsProfile p × ListsOfBytes given) h es r (some_sessions p h s (rebuilt es) given moments a low same n r sessions) kept

-- ---- they are sound

sound_posted : (p : Past) (random_id : ℤ) (ps : List Post) (r : Option Receipt) (cause : Option PostFault) → post_cause p.server ps ≡ cause → IsSound p.server → IsSound (posted_by p random_id ps r cause).server
sound_posted p random_id ps (Some r) cause e k = k
sound_posted p random_id ps None (Some cause) e k = k
sound_posted p random_id ps None None e k = posted_sound p.server random_id ps k e

sound_all : (p : Past) (h : List Doing) (m : ℕ) → AreDated h → IsSound p.server → IsSound (done_all p h m).server
sound_all p h zero d k = k
sound_all p [] (suc m) d k = k
sound_all p (posts random_id ps ∷ h) (suc m) d k = sound_all (done p (posts random_id ps)) h m d (sound_posted p random_id ps (map.get p.server.receipts random_id) (post_cause p.server ps) refl k)
sound_all p (dates date ∷ h) (suc m) d k = sound_all (done p (dates date)) h m d.1 (dated_sound p.server date k d.0)

pub histories_are_sound : HistoriesAreSound
histories_are_sound = record {
  first = record { dated = tt; is = refl };
  sound = λ h s a. subst IsSound (sym a.is) (sound_all first_past h (length h) a.dated sound_new);
}
