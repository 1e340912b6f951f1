-- A client that is recovered over an honest link is up to date with its server, and what is saved of it goes on so.
use Rattle.std.proofs.Common.{◌≡◌, ℕ, zero, suc, ◌≤◌, ℤ, List, [], ◌∷◌, ◌++◌, length, length-append, Bool, true, false, cond, ltb, Option, Some, None, refl, sym, ap, ◌∙◌, subst, arith}
use Rattle.std.specs.Prelude.{option_and_then}
use Rattle.tl_numbers.specs.Bytes.{AreBytes}
use Rattle.box_events.specs.declared.limits.TheConstants.{MAX_CHANNELS}
use Rattle.box_events.specs.declared.replies.Frame.{Frame}
use Rattle.box_events.specs.declared.replies.Frame.TheVariants.{Push, Reply}
use Rattle.pts_machine.specs.Steps.{new_lane}
use Rattle.channel_box.specs.Steps.{channel_of, is_watched, watched_if}
use Rattle.box_client.specs.Asking.{is_one_asking}
use Rattle.box_client.specs.Saving.{saved_of}
use Rattle.box_client.specs.States.{ClientState}
use Rattle.box_client.proofs.Restarts.{loads_again}
use Rattle.box_server.specs.Servers.{ServerState}
use Rattle.box_world.specs.Agreeing.{Agrees, Boxes}
use Rattle.box_world.specs.Streams.{Doing, Honest, Past, begun, done, done_all, first_past, heard_frame, past_of}
use Rattle.box_world.proofs.GoingOn.{agree_restarts, agree_watches}
use Rattle.box_world.proofs.Growing.{new_clients_agree}
use Rattle.wire_profile.specs.Indexes.{ProfileView}
use Rattle.wire_profile.specs.Profiles.{IsProfile}
use Rattle.wire_values.specs.SavedClients.{saved_tree}
use Rattle.box_wire.specs.Framing.{Framed}
use Rattle.box_wire.specs.Kinds.{saved_clients}
use Rattle.update_sessions.specs.Exchanges.{after_all}
use Rattle.update_sessions.specs.Hearing.{client_side}
use Rattle.update_sessions.specs.Honest.{told, told_all}
use Rattle.session_commands.specs.Client.{HasClient, begins, loads, watch_all, watch_one}
use Rattle.headline.specs.CatchingUp.{heard_all}
use Rattle.headline.specs.Recovered.{IsRecovered, Recovers, StateAgrees}
use Rattle.headline.specs.States.{ClientRun, ClientRuns, StatesGoOn}
use Rattle.headline.proofs.Counts.{is_saved}
use Rattle.headline.proofs.Held.{has_boxes}
use Rattle.headline.proofs.LastAnswers.{AgreesAt, ends_agreeing, grown, honest_sessions_catch_up}
use Rattle.headline.proofs.LastChannels.{channels_catch_up}
use Rattle.headline.proofs.SavedAgain.{saved_again}

-- ---- watching

pub some_is : (c d : ClientState) → Some c ≡ Some d → d ≡ c
some_is c d e = let same : c ≡ d = cc in sym same

pub none_some : (c : ClientState) → None ≡ Some c → ⊥
none_some c e = cc

abbrev pub one_by : Bool → Bool → ClientState → ℤ → Option ClientState
one_by old room c id = cond old (Some c) (cond room (Some (record c { channels = c.channels ++ channel_of id new_lane [] ∷ [] })) None)

watched_by : (s : ServerState) (boxes : Boxes) (c d : ClientState) (id : ℤ) (old room : Bool) → one_by old room c id ≡ Some d → Agrees s boxes c → Agrees s boxes (record c { channels = watched_if (cond old false room) c.channels (channel_of id new_lane []) }) → Agrees s boxes d
watched_by s boxes c d id true room e a b = subst (Agrees s boxes) (sym (some_is c d e)) a
watched_by s boxes c d id false true e a b = subst (Agrees s boxes) (sym (some_is _ d e)) b
watched_by s boxes c d id false false e a b = absurd (none_some d e)

one_agrees : (s : ServerState) (boxes : Boxes) (c d : ClientState) (id : ℤ) → watch_one c id ≡ Some d → Agrees s boxes c → Agrees s boxes d
one_agrees s boxes c d id e a = watched_by s boxes c d id (is_watched c.channels id) (ltb (length c.channels) MAX_CHANNELS) e a (agree_watches id s boxes c a)

-- the first that is watched, and then the others
pub watch_then : (ids : List ℤ) (o : Option ClientState) (d : ClientState) → option_and_then (watch_all ids) o ≡ Some d → (e : ClientState) × (o ≡ Some e) × (watch_all ids e ≡ Some d)
watch_then ids None d e = absurd (none_some d e)
watch_then ids (Some x) d e = (x, refl, e)

pub all_agree : (s : ServerState) (boxes : Boxes) (ids : List ℤ) (c d : ClientState) → watch_all ids c ≡ Some d → Agrees s boxes c → Agrees s boxes d
all_agree s boxes [] c d e a = subst (Agrees s boxes) (sym (some_is c d e)) a
all_agree s boxes (id ∷ ids) c d e a =
    let one = watch_then ids (watch_one c id) d e in
    all_agree s boxes ids one.0 d one.2 (one_agrees s boxes c one.0 id one.1 a)

-- ---- frames

pub heard_so : (p : ProfileView) (c : ClientState) (fs : List Frame) → after_all (client_side p) c fs ≡ heard_all c (told_all fs)
heard_so p c [] = refl
heard_so p c (Push q ∷ fs) = heard_so p (heard_frame c (told (Push q))) fs
heard_so p c (Reply n r ∷ fs) = heard_so p (heard_frame c (told (Reply n r))) fs

-- ---- states

pub loaded_agrees : (p : ProfileView) → IsProfile p → (h : List Doing) (m : ℕ) (saved : List ℕ) (d c : ClientState) → AreBytes saved → AgreesAt h m d → Framed p saved_clients (saved_tree (saved_of d)) saved → HasClient p saved c → AgreesAt h m c
loaded_agrees p good h m saved d c are a spelled (begins none is) = subst (AgreesAt h m) (sym is) (new_clients_agree (past_of h m).server (past_of h m).boxes)
loaded_agrees p good h m saved d c are a spelled (loads s has l) =
    let same : s ≡ saved_of d = saved_again p good saved are (saved_of d) s (is_saved h m d a) has.is spelled has.means in
    subst (AgreesAt h m) (sym (loads_again d c s same l)) (agree_restarts (past_of h m).server (past_of h m).boxes d a)

pub recovered : (p : ProfileView) → IsProfile p → (channels : List ℤ) (state given saved : List ℕ) (frames : List Frame) (c d : ClientState) → AreBytes state → Recovers p channels state given saved frames c d
    → (h : List Doing) (m : ℕ) → m ≤ length h → StateAgrees p h m state → Honest h (begun c) m (told_all frames) → IsRecovered p h m saved frames c d
recovered p good channels state given saved frames c d are r h m le agrees honest =
    let first : AgreesAt h m c = all_agree (past_of h m).server (past_of h m).boxes channels r.opened c r.watches (agrees are r.opened r.has) in
    let last = honest_sessions_catch_up h c m (told_all frames) le first honest (ap is_one_asking (sym r.heard) ∙ r.done) in
    let end : AgreesAt h (length h) d = subst (AgreesAt h (length h)) (sym r.heard) (ends_agreeing h c m (told_all frames) le first honest) in
    record {
      boxes = has_boxes (past_of h (length h)).server (past_of h (length h)).boxes d end;
      last = last;
      channels = channels_catch_up h c m (told_all frames) le first honest (ap is_one_asking (sym r.heard) ∙ r.done);
      state = λ bytes e has. loaded_agrees p good h (length h) saved d e bytes end r.saves has;
    }

-- ---- runs after runs

first_state : (p : ProfileView) (h : List Doing) (m : ℕ) → StateAgrees p h m []
first_state p h m are c (begins none is) = subst (AgreesAt h m) (sym is) (new_clients_agree (past_of h m).server (past_of h m).boxes)
first_state p h m are c (loads s has l) = let some = has.some in absurd (omega (arith, some))

pub later_state : (p : ProfileView) (h : List Doing) (m k : ℕ) (bytes : List ℕ) → m ≤ k → StateAgrees p h m bytes → StateAgrees p h k bytes
later_state p h m k bytes le agrees are c has = grown h c m k le (agrees are c has)

-- the first of a history that goes on
pub past_front : (p : Past) (h more : List Doing) (m : ℕ) → m ≤ length h → done_all p (h ++ more) m ≡ done_all p h m
past_front p h more zero le = refl
past_front p [] more (suc m) le = absurd (omega (arith, le))
past_front p (x ∷ h) more (suc m) le = past_front (done p x) h more m (omega (arith, le))

pub state_goes_on : (p : ProfileView) (h more : List Doing) (bytes : List ℕ) → StateAgrees p h (length h) bytes → StateAgrees p (h ++ more) (length h) bytes
state_goes_on p h more bytes agrees are c has = subst (λ (q : Past). Agrees q.server q.boxes c) (sym (past_front first_past h more (length h) (omega arith))) (agrees are c has)

all_runs : (p : ProfileView) → IsProfile p → (h : List Doing) (state : List ℕ) (rs : List ClientRun) (g : List Doing) (last : List ℕ) → AreBytes state → StateAgrees p h (length h) state → ClientRuns p h state rs g last → StateAgrees p g (length g) last
all_runs p good h state [] g last are agrees (same, is) = subst (λ (b : List ℕ). StateAgrees p g (length g) b) (sym is) (subst (λ (k : List Doing). StateAgrees p k (length k) state) (sym same) agrees)
all_runs p good h state (r ∷ rs) g last are agrees (one, bytes, honest, rest) =
    let far : length h ≤ length (h ++ r.doings) = omega (arith, length-append h r.doings) in
    let done = recovered p good r.channels state r.given r.saved r.frames r.c r.d are one (h ++ r.doings) (length h) far (state_goes_on p h r.doings state agrees) honest in
    all_runs p good (h ++ r.doings) r.saved rs g last bytes done.state rest

pub states_go_on : StatesGoOn
states_go_on = record { first = first_state; later = later_state; runs = all_runs }
