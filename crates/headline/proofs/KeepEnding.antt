-- A run of `client` in a session of a run of `keep` saves a client that is up to date.
use Rattle.std.proofs.Common.{◌≡◌, inl, inr, ℕ, zero, suc, ◌+◌, ◌<◌, ◌≤◌, ℤ, List, [], ◌++◌, append-nil, length, get_or, Option, Some, refl, sym, ap, ◌∙◌, subst, arith}
use Rattle.tl_numbers.specs.Bytes.{AreBytes}
use Rattle.tl_base.specs.Outside.{View, HasFile}
use Rattle.box_server.specs.Servers.{ServerState, dated_at}
use Rattle.box_server.specs.declared.entry.Entry.{Entry}
use Rattle.box_server.specs.Rebuilding.{Rebuilds, rebuilt}
use Rattle.box_server.proofs.Rebuilt.{one_server}
use Rattle.box_world.specs.Streams.{Doing}
use Rattle.wire_profile.specs.Indexes.{ProfileView}
use Rattle.outside.specs.declared.status.Status.TheVariants.{Done}
use Rattle.outside.proofs.SameFiles.{same_file}
use Rattle.fault_lines.specs.Profiled.{IsProfileText}
use Rattle.session_commands.specs.Keep.{SessionsBy}
use Rattle.session_commands.specs.Serve.{IsAny, Sessions, Total}
use Rattle.session_commands.proofs.OneTotal.{any_of}
use Rattle.serve_rooms.specs.Acts.{events_in}
use Rattle.serve_rooms.specs.declared.status.KeptStatus.TheVariants.{Run}
use Rattle.run_laws.specs.Ended.{LinkFailed}
use Rattle.run_laws.specs.Kept.{KeptByFile, KeptEnd, kept_status, keeper_failed, keeper_untold, served, stopped}
use Rattle.run_laws.proofs.Stored.{stored_runs_end}
use Rattle.headline.specs.Histories.{AreMoments, HasHistory, IsThere}
use Rattle.headline.specs.KeptRuns.{KeepsOver, KeptClientsMeet, KeptRunsMeet, SavesOfKept}
use Rattle.headline.proofs.ClientEnding.{Ran, profile_is}
use Rattle.headline.proofs.RunsMeeting.{RanBy, ran_by, ran_over, saves_by, shown_as}
use Rattle.headline.proofs.ServeEnding.{IsAmong, is_among, written_at}
use Rattle.headline.proofs.SessionHistories.{rebuilds_itself, rebuilt_below, some_sessions}
use Rattle.headline.proofs.TwoClients.{both_by}

-- ---- a run that ended with status 0

-- it served all its sessions
served_all : (L : Type 0) (schema_name address : List ℕ) (n : ℕ) (entries after : Option (List Entry)) (v w : View) (end : KeptEnd) → Run Done ≡ kept_status end → KeptByFile L schema_name address n entries after end v w
    → KeptByFile L schema_name address n entries after (served Done) v w
served_all L schema_name address n entries after v w (served status) e h = h
served_all L schema_name address n entries after v w (stopped Done) e h = absurd h
served_all L schema_name address n entries after v w (stopped status) e h = absurd cc
served_all L schema_name address n entries after v w keeper_failed e h = absurd cc
served_all L schema_name address n entries after v w keeper_untold e h = absurd cc

-- its sessions, and what was sent in them
record Kept (schema : List ℕ) (es : List Entry) (k : ℕ) (v w : View) : Type 0 where
  pub p : ProfileView
  pub text : IsProfileText schema p
  pub total : Total
  pub among : IsAmong p (rebuilt es) v.links v.moments k total
  pub links : w.written.links ≡ v.written.links ++ total.sent

any_by : (L : Type 0) (p : ProfileView) (s : ServerState) (given : List (List ℕ)) (moments : List ℕ) (n : ℕ) (r : Total) → SessionsBy L p s given moments n r → Sessions IsAny p s given moments n r
any_by L p s given moments n r (inl whole) = any_of p s given moments n r whole
any_by L p s given moments n r (inr (rose, any)) = any

kept_by : (L : Type 0) (schema_name address schema : List ℕ) (n k : ℕ) (es : List Entry) (after : Option (List Entry)) (v w : View) → HasFile v.files schema_name schema → k < n → KeptByFile L schema_name address n (Some es) after (served Done) v w → Kept schema es k v w
kept_by L schema_name address schema n k es after v w has less (h, s, starts, kept) =
    let r : Total = kept.0 in
    let sessions : Sessions IsAny h.p (rebuilt es) v.links v.moments n r = subst (λ (z : ServerState). Sessions IsAny h.p z v.links v.moments n r) starts.1 (any_by L h.p s v.links v.moments n r kept.1) in
    record {
      p = h.p;
      text = subst (λ (t : List ℕ). IsProfileText t h.p) (same_file v.files schema_name h.text schema h.there has) h.is;
      total = r;
      among = is_among h.p (rebuilt es) v.links v.moments n r sessions k less;
      links = kept.2;
    }

kept_over : (schema : List ℕ) (es : List Entry) (k : ℕ) (came sent : List ℕ) (v w : View) → KeepsOver schema es k came sent v w → Kept schema es k v w
kept_over schema es k came sent v w s =
    let L : Type 0 = LinkFailed (events_in s.acts) in
    let P : Option (List Entry) → View → View → Type 0 = λ o x y. KeptByFile L s.request.schema s.request.address s.request.sessions o s.file_new.entries (served Done) x y in
    let runs = stored_runs_end s.words s.request s.acts (Run Done) s.before s.after s.file_old s.file_new s.asks s.runs in
    let well = served_all L s.request.schema s.request.address s.request.sessions s.file_old.entries s.file_new.entries s.before.view s.after.view runs.end runs.status_is runs.entries in
    let known = subst (λ (o : Option (List Entry)). P o s.before.view s.after.view) s.shown.2 well in
    kept_by L s.request.schema s.request.address schema s.request.sessions k es s.file_new.entries v w s.has s.among (shown_as (P (Some es)) s.before.view s.after.view v w s.shown.0 s.shown.1 known)

-- ---- the server's history

history_by : (p : ProfileView) (es : List Entry) (given : List (List ℕ)) (moments : List ℕ) (k : ℕ) (r : Total) → AreMoments moments → Sessions IsAny p (rebuilt es) given moments k r → (h : List Doing) (s : ServerState) → HasHistory h s → Rebuilds es s → s.date ≤ get_or moments 0 0
    → (more : List Doing) × (t : ServerState) × IsThere (h ++ more) t r.server (get_or moments k 0)
history_by p es given moments zero r low is h s has rebuilds past =
    let same : dated_at s (get_or moments 0 0) ≡ dated_at (rebuilt es) (get_or moments 0 0) = one_server es s (rebuilt es) (get_or moments 0 0) rebuilds (rebuilds_itself es s rebuilds) past (omega (arith, rebuilt_below es s rebuilds, past)) in
    ([], s, (subst (λ (l : List Doing). HasHistory l s) (sym (append-nil h)) has, same ∙ sym (ap (λ (x : Total). dated_at x.server (get_or moments 0 0)) is)))
history_by p es given moments (suc n) r low sessions h s has rebuilds past =
    let same : dated_at (rebuilt es) (get_or moments 0 0) ≡ dated_at s (get_or moments 0 0) = one_server es (rebuilt es) s (get_or moments 0 0) (rebuilds_itself es s rebuilds) rebuilds (omega (arith, rebuilt_below es s rebuilds, past)) past in
    let on = some_sessions p h s (rebuilt es) given moments has low same n r sessions in
    (on.0, r.server, (on.1, refl))

met : (schema state_name state asks answers : List ℕ) (channels : List ℤ) (es : List Entry) (k : ℕ) (v w x y : View) → AreBytes state → AreBytes asks → AreBytes answers → AreMoments v.moments → Ran schema state_name channels state x y → (s : Kept schema es k v w) → get_or v.links k [] ≡ asks
    → get_or w.written.links (length v.written.links + k) [] ≡ answers → get_or x.links 0 [] ≡ answers → get_or y.written.links (length x.written.links) [] ≡ asks → SavesOfKept schema state es k v y.written.state
met schema state_name state asks answers channels es k v w x y are heard given low ran s came out next wrote =
    let a : IsAmong s.p (rebuilt es) v.links v.moments k s.total = s.among in
    let r : RanBy s.p channels state x y = ran_by schema state_name channels state x y s.p s.text ran in
    let told : a.out ≡ answers = sym a.at ∙ sym (written_at v w s.total k s.links) ∙ out in
    record {
      p = s.p;
      profile = s.text;
      before = a.before;
      sessions = a.sessions;
      history = history_by s.p es v.links v.moments k a.before low a.sessions;
      d = r.d;
      saves = r.spelled;
      meets = λ h z m there le agrees.
          let saved = saves_by s.p (profile_is schema s.p s.text) state asks answers channels (rebuilt es) k v x y s.total are heard given low r a came told next wrote h z m there.0 there.1 le agrees in
          (saved.up_to_date, saved.agrees);
    }

pub kept_runs_meet : KeptRunsMeet
kept_runs_meet schema state asks answers es k v w x y are heard given low s c =
    met schema c.state_name state asks answers c.channels es k v w x y are heard given low (ran_over schema state answers asks x y c) (kept_over schema es k asks answers v w s) s.given s.written c.given c.written

pub kept_clients_meet : KeptClientsMeet
kept_clients_meet schema first second asked answered then_asked then_answered es j k v w x y a b own other heard given then_heard then_given low less s t c e =
    let run = kept_over schema es k then_asked then_answered v w t in
    both_by schema first second asked answered then_asked then_answered c.state_name e.state_name c.channels e.channels (rebuilt es) j k v w x y a b run.p run.total low less own other heard given then_heard then_given
    (ran_over schema first answered asked x y c) (ran_over schema second then_answered then_asked a b e) run.text run.among run.links s.given s.written c.given c.written t.given t.written e.given e.written
