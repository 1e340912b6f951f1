-- Calls of a session, kept.
use Rattle.std.proofs.Common.{◌≡◌, ℕ, ℤ, ◌<◌, ◌≤◌, ◌^◌, List, [], ◌∷◌, ◌++◌, Option, Some, None, Result, Ok, Err, refl, sym, ap, ◌∙◌, subst, append-nil, append_assoc, arith}
use Rattle.std.specs.FinMap as map
use Rattle.box_events.specs.declared.positions.Receipt.{Receipt}
use Rattle.box_events.specs.declared.requests.Numbered.{Numbered}
use Rattle.box_events.specs.declared.requests.Post.{Post}
use Rattle.box_events.specs.declared.requests.Request.{Request}
use Rattle.box_events.specs.declared.requests.Request.TheVariants as request
use Rattle.box_server.specs.Entries.{Entry as Doing, to_common, to_secret, to_channel, to_settings, entries_of}
use Rattle.box_server.specs.Posting.{applied, applied_all, posted}
use Rattle.box_server.specs.Receiving.{state_by}
use Rattle.box_server.specs.Refusing.{post_cause}
use Rattle.box_server.specs.Servers.{ServerState, dated_at}
use Rattle.box_server.specs.declared.fault.PostFault.{PostFault}
use Rattle.box_server.specs.declared.entry.Entry.{Entry}
use Rattle.box_server.specs.Rebuilding.{Rebuilds}
use Rattle.box_server.proofs.Rebuilt.{date_aside, one_more, one_server}
use Rattle.wire_profile.specs.Indexes.{ProfileView}
use Rattle.update_sessions.specs.declared.fault.SessionFault.{SessionFault}
use Rattle.update_sessions.specs.declared.fault.SessionFault.TheVariants.{Packet, Wire, Client, TooManyFrames, LinkFault}
use Rattle.update_sessions.specs.Exchanges.{after_all}
use Rattle.update_sessions.specs.Kept.{kept_for, kept_in}
use Rattle.update_sessions.specs.Served.{Serves}
use Rattle.update_sessions.specs.Serving.{after_request, server_side}
use Rattle.update_sessions.proofs.Exchanging.{broken_ends}

-- ---- dates

applied_date : (s : ServerState) (x : Doing) → (applied s x).date ≡ s.date
applied_date s (to_common e) = refl
applied_date s (to_secret body) = refl
applied_date s (to_channel id e) = refl
applied_date s (to_settings x) = refl

all_date : (s : ServerState) (xs : List Doing) → (applied_all s xs).date ≡ s.date
all_date s [] = refl
all_date s (x ∷ xs) = all_date (applied s x) xs ∙ applied_date s x

posted_date : (s : ServerState) (id : ℤ) (posts : List Post) → (posted s id posts).date ≡ s.date
unfolding posted
posted_date s id posts = all_date s (entries_of posts)

date_by : (s : ServerState) (id : ℤ) (posts : List Post) (o : Option Receipt) (c : Option PostFault) → (state_by s id posts o c).date ≡ s.date
date_by s id posts (Some r) c = refl
date_by s id posts None (Some cause) = refl
date_by s id posts None None = posted_date s id posts

request_date : (s : ServerState) (r : Request) → (after_request s r).date ≡ s.date
request_date s request.State = refl
request_date s (request.Difference pts qts date) = refl
request_date s (request.Channel id pts) = refl
request_date s (request.Post id posts) = date_by s id posts (map.get s.receipts id) (post_cause s posts)

module _ (p : ProfileView) where
  calls_date : (s : ServerState) (cs : List Numbered) → (after_all (server_side p) s cs).date ≡ s.date
  calls_date s [] = refl
  calls_date s (c ∷ cs) = calls_date (after_request s c.request) cs ∙ request_date s c.request

  date_of : (s t : ServerState) (cs : List Numbered) → t ≡ after_all (server_side p) s cs → t.date ≡ s.date
  date_of s t cs is = ap (λ (v : ServerState). v.date) is ∙ calls_date s cs

pub sessions_keep_dates : (p : ProfileView) (s : ServerState) (bytes out : List ℕ) (t : ServerState) (r : Result ℕ SessionFault) (cs : List Numbered) → Serves p s bytes out t r cs → t.date ≡ s.date
sessions_keep_dates p s bytes out t (Ok n) cs h = date_of p s t cs h.0.ends
sessions_keep_dates p s bytes out t (Err (Packet fault)) cs h = date_of p s t cs h.1.ends
sessions_keep_dates p s bytes out t (Err (Wire fault)) cs h = date_of p s t cs h.1.ends
sessions_keep_dates p s bytes out t (Err (Client fault)) cs h = absurd h
sessions_keep_dates p s bytes out t (Err TooManyFrames) cs h = date_of p s t cs h.1.ends
sessions_keep_dates p s bytes out t (Err LinkFault) cs h = date_of p s t cs (broken_ends (server_side p) s t bytes out cs h)

-- ---- entries

request_kept : (es : List Entry) (s : ServerState) (r : Request) → s.date < 2 ^ 31 → Rebuilds es s → Rebuilds (es ++ kept_for s r) (after_request s r)
request_kept es s request.State small k = subst (λ (l : List Entry). Rebuilds l s) (sym (append-nil es)) k
request_kept es s (request.Difference pts qts date) small k = subst (λ (l : List Entry). Rebuilds l s) (sym (append-nil es)) k
request_kept es s (request.Channel id pts) small k = subst (λ (l : List Entry). Rebuilds l s) (sym (append-nil es)) k
request_kept es s (request.Post id posts) small k = one_more es s id posts small k

calls_kept : (p : ProfileView) (es : List Entry) (s : ServerState) (cs : List Numbered) → s.date < 2 ^ 31 → Rebuilds es s → Rebuilds (es ++ kept_in s cs) (after_all (server_side p) s cs)
calls_kept p es s [] small k = subst (λ (l : List Entry). Rebuilds l s) (sym (append-nil es)) k
calls_kept p es s (c ∷ cs) small k =
    let t : ServerState = after_request s c.request in
    let same = request_date s c.request in
    subst (λ (l : List Entry). Rebuilds l (after_all (server_side p) t cs)) (append_assoc es (kept_for s c.request) (kept_in t cs))
    (calls_kept p (es ++ kept_for s c.request) t cs (omega (arith, same, small)) (request_kept es s c.request small k))

pub calls_are_kept : (p : ProfileView) (es : List Entry) (s : ServerState) (now : ℕ) (cs : List Numbered) → s.date < 2 ^ 31 → now < 2 ^ 31 → Rebuilds es s → Rebuilds (es ++ kept_in (dated_at s now) cs) (after_all (server_side p) (dated_at s now) cs)
calls_are_kept p es s now cs small later k = calls_kept p es (dated_at s now) cs (omega (arith, small, later)) (date_aside es s now k)

pub rebuilt_serve_alike : (p : ProfileView) (es : List Entry) (s u : ServerState) (now : ℕ) (bytes out : List ℕ) (t : ServerState) (r : Result ℕ SessionFault) (cs : List Numbered) → Rebuilds es s → Rebuilds es u → s.date ≤ now → u.date ≤ now
    → Serves p (dated_at s now) bytes out t r cs → Serves p (dated_at u now) bytes out t r cs
rebuilt_serve_alike p es s u now bytes out t r cs a b le lf h = subst (λ (v : ServerState). Serves p v bytes out t r cs) (one_server es s u now a b le lf) h
