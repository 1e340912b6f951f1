-- A run of `client` in a session of a run of `serve` saves a client that is up to date.
use Rattle.std.proofs.Common.{◌≡◌, ℕ, ◌+◌, ◌≤◌, ℤ, List, [], ◌∷◌, ◌++◌, length, get_or, Some, Ok, refl, sym, ap, ◌∙◌, subst, arith}
use Rattle.tl_numbers.specs.Bytes.{AreBytes}
use Rattle.tl_base.specs.Outside.{View}
use Rattle.tl_schema.specs.Schemas.{Declared}
use Rattle.box_events.specs.declared.replies.Frame.{Frame}
use Rattle.box_client.specs.Saving.{saved_of}
use Rattle.box_client.specs.States.{ClientState}
use Rattle.box_server.specs.Servers.{ServerState, dated_at, new_server}
use Rattle.box_world.specs.Streams.{Doing, dates}
use Rattle.wire_profile.specs.Faults.{IsAnswer}
use Rattle.wire_profile.specs.Indexes.{ProfileView}
use Rattle.wire_profile.specs.Profiles.{IsProfile}
use Rattle.wire_values.specs.SavedClients.{saved_tree}
use Rattle.box_wire.specs.Framing.{Framed}
use Rattle.box_wire.specs.Kinds.{saved_clients}
use Rattle.outside.specs.declared.status.Status.TheVariants.{Done}
use Rattle.schema_files.proofs.OneSchemaText.{one_schema_text}
use Rattle.fault_lines.specs.Profiled.{IsProfileText}
use Rattle.fault_lines.proofs.Profiled.{one_schema}
use Rattle.update_sessions.specs.Heard.{Hears, asked, broke_off}
use Rattle.update_sessions.specs.Served.{Serves}
use Rattle.session_commands.specs.Client.{HasClient, watch_all}
use Rattle.session_commands.specs.Linked.{next_link}
use Rattle.session_commands.specs.Serve.{Total}
use Rattle.run_laws.specs.Runs.{Ends}
use Rattle.headline.specs.Histories.{AreMoments, HasHistory}
use Rattle.headline.specs.Answering.{IsUpToDate}
use Rattle.headline.specs.Recovered.{StateAgrees}
use Rattle.headline.specs.ServedRuns.{RecoversOver, SavesUpToDate, ServedRunsMeet, ServesOver}
use Rattle.headline.specs.TwoPrograms.{Converse}
use Rattle.run_laws.proofs.Endings.{words_end}
use Rattle.headline.proofs.ClientEnding.{Ran, client_ends, profile_is, unbroken}
use Rattle.headline.proofs.Meeting.{meets_by}
use Rattle.headline.proofs.Recoveries.{later_state}
use Rattle.headline.proofs.ServeEnding.{IsAmong, Served, at_length, serve_ends, written_at}
use Rattle.headline.proofs.SessionHistories.{histories_are_sound, sessions_go_on}

-- of the same outsides
pub shown_as : (P : View → View → Type 0) (a b v w : View) → a ≡ v → b ≡ w → P a b → P v w
shown_as P a b v w is at h = subst (P v) at (subst (λ (x : View). P x b) is h)

-- a text is one profile's
ok_profile : (S : Declared) (p q : ProfileView) → IsAnswer S (Ok p) → IsAnswer S (Ok q) → p ≡ q
ok_profile S p q is at = let one = one_schema S (Ok p) (Ok q) is at in cc

one_profile : (text : List ℕ) (p q : ProfileView) → IsProfileText text p → IsProfileText text q → p ≡ q
one_profile text p q h k = ok_profile h.schema p q h.is (subst (λ (S : Declared). IsAnswer S (Ok q)) (sym (one_schema_text text h.schema k.schema h.read k.read)) k.is)

-- a session without a fault refused no frame
none_refused : (p : ProfileView) (c : ClientState) (bytes out : List ℕ) (d : ClientState) (n : ℕ) (fs last : List Frame) → Hears p c bytes out d (Ok n) fs last → last ≡ []
none_refused p c bytes out d n fs last (broke_off why wrote is none nothing) = absurd (unbroken n why)
none_refused p c bytes out d n fs last (asked first more packed parts (left, e, calm, many, few, none)) = none

-- a session's server is this one but for its date
moved : (p : ProfileView) (s u : ServerState) (now : ℕ) (c : ClientState) (t : ServerState) (d : ClientState) → dated_at s now ≡ dated_at u now → Converse p u now c t d → Converse p s now c t d
moved p s u now c t d same m = record {
  asked = m.asked;
  answered = m.answered;
  bytes = m.bytes;
  calls = m.calls;
  ended = m.ended;
  serves = subst (λ (z : ServerState). Serves p z m.asked m.answered t m.ended m.calls) (sym same) m.serves;
  frames = m.frames;
  many = m.many;
  hears = m.hears;
}

-- what the client and the server of a session are, after it
pub record Saved (p : ProfileView) (h : List Doing) (now : ℕ) (t : ServerState) (d : ClientState) (saved : List ℕ) : Type 0 where
  pub history : HasHistory (h ++ dates now ∷ []) t
  pub up_to_date : IsUpToDate (h ++ dates now ∷ []) d
  pub agrees : StateAgrees p (h ++ dates now ∷ []) (length (h ++ dates now ∷ [])) saved

-- a run of `client` that ended well, by this profile
pub record RanBy (p : ProfileView) (channels : List ℤ) (state : List ℕ) (x y : View) : Type 0 where
  pub opened : ClientState
  pub c : ClientState
  pub d : ClientState
  pub has : HasClient p state opened
  pub watches : watch_all channels opened ≡ Some c
  pub many : ℕ
  pub sent : List ℕ
  pub frames : List Frame
  pub last : List Frame
  pub hears : Hears p c (next_link x) sent d (Ok many) frames last
  pub spelled : Framed p saved_clients (saved_tree (saved_of d)) y.written.state
  pub links : y.written.links ≡ x.written.links ++ sent ∷ []

-- its schema's text is that of one profile
pub ran_by : (schema state_name : List ℕ) (channels : List ℤ) (state : List ℕ) (x y : View) (p : ProfileView) → IsProfileText schema p → Ran schema state_name channels state x y → RanBy p channels state x y
ran_by schema state_name channels state x y p is r =
    subst (λ (z : ProfileView). RanBy z channels state x y) (one_profile schema r.p p r.text is)
    (record { opened = r.opened; c = r.c; d = r.d; has = r.has; watches = r.watches; many = r.many; sent = r.sent; frames = r.frames; last = r.last; hears = r.hears; spelled = r.spelled; links = r.links })

module _ (p : ProfileView) (good : IsProfile p) (state asks answers : List ℕ) (channels : List ℤ) (first : ServerState) (k : ℕ) (v x y : View) (total : Total) (are : AreBytes state) (heard : AreBytes asks) (given : AreBytes answers) (low : AreMoments v.moments) (r : RanBy p channels state x y)
    (a : IsAmong p first v.links v.moments k total) where
  abbrev now : ℕ
  now = get_or v.moments k 0

  converse : get_or v.links k [] ≡ asks → a.out ≡ answers → next_link x ≡ answers → get_or y.written.links (length x.written.links) [] ≡ asks → Converse p a.before.server now r.c a.server r.d
  converse came out next wrote =
      let s : ServerState = dated_at a.before.server now in
      let sent : r.sent ≡ asks = sym (ap (λ (l : List (List ℕ)). get_or l (length x.written.links) []) r.links ∙ at_length x.written.links (r.sent ∷ []) (length x.written.links) 0 (omega arith)) ∙ wrote in
      let serves : Serves p s asks a.out a.server a.session.answer a.session.calls = subst (λ (l : List ℕ). Serves p s l a.out a.server a.session.answer a.session.calls) came a.session.serves in
      let both : Serves p s asks answers a.server a.session.answer a.session.calls = subst (λ (l : List ℕ). Serves p s asks l a.server a.session.answer a.session.calls) out serves in
      let hears : Hears p r.c (next_link x) r.sent r.d (Ok r.many) r.frames [] = subst (λ (l : List Frame). Hears p r.c (next_link x) r.sent r.d (Ok r.many) r.frames l) (none_refused p r.c (next_link x) r.sent r.d r.many r.frames r.last r.hears) r.hears in
      let also : Hears p r.c answers r.sent r.d (Ok r.many) r.frames [] = subst (λ (l : List ℕ). Hears p r.c l r.sent r.d (Ok r.many) r.frames []) next hears in
      record {
        asked = asks;
        answered = answers;
        bytes = (heard, given);
        calls = a.session.calls;
        ended = a.session.answer;
        serves = both;
        frames = r.frames;
        many = r.many;
        hears = subst (λ (l : List ℕ). Hears p r.c answers l r.d (Ok r.many) r.frames []) sent also;
      }

  -- where that server has this history, its date aside, and the state agreed with it at a moment
  pub saves_by : get_or v.links k [] ≡ asks → a.out ≡ answers → next_link x ≡ answers → get_or y.written.links (length x.written.links) [] ≡ asks
      → (h : List Doing) (s : ServerState) (m : ℕ) → HasHistory h s → dated_at s now ≡ dated_at a.before.server now → m ≤ length h → StateAgrees p h m state → Saved p h now a.server r.d y.written.state
  saves_by came out next wrote h s m own same le agrees =
      let c = moved p s a.before.server now r.c a.server r.d same (converse came out next wrote) in
      let met = meets_by p good h s now channels state y.written.state a.server r.opened r.c r.d are own (low k) (later_state p h m (length h) state le agrees) r.has r.watches c r.spelled in
      record { history = met.1; up_to_date = met.2; agrees = met.3 }

met : (schema state_name state asks answers : List ℕ) (channels : List ℤ) (k : ℕ) (v w x y : View) → AreBytes state → AreBytes asks → AreBytes answers → AreMoments v.moments → Ran schema state_name channels state x y → (s : Served schema k v w) → get_or v.links k [] ≡ asks
    → get_or w.written.links (length v.written.links + k) [] ≡ answers → next_link x ≡ answers → get_or y.written.links (length x.written.links) [] ≡ asks → SavesUpToDate schema state k v y.written.state
met schema state_name state asks answers channels k v w x y are heard given low ran s came out next wrote =
    let a : IsAmong s.p new_server v.links v.moments k s.total = s.among in
    let r : RanBy s.p channels state x y = ran_by schema state_name channels state x y s.p s.text ran in
    let told : a.out ≡ answers = sym a.at ∙ sym (written_at v w s.total k s.links) ∙ out in
    record {
      p = s.p;
      profile = s.text;
      before = a.before;
      sessions = a.sessions;
      history = (let on = sessions_go_on s.p [] new_server v.links v.moments k a.before histories_are_sound.first low a.sessions in (on.0, on.1));
      d = r.d;
      saves = r.spelled;
      meets = λ h m own le agrees.
          let saved = saves_by s.p (profile_is schema s.p s.text) state asks answers channels new_server k v x y s.total are heard given low r a came told next wrote h a.before.server m own refl le agrees in
          (saved.up_to_date, saved.agrees);
    }

-- over outsides that show what they hold
pub ran_over : (schema state came sent : List ℕ) (x y : View) (c : RecoversOver schema state came sent x y) → Ran schema c.state_name c.channels state x y
ran_over schema state came sent x y c =
    let ends = words_end c.words c.trace Done c.before c.after c.runs in
    let here : Ends c.words c.trace Done x y = shown_as (Ends c.words c.trace Done) c.before.view c.after.view x y c.shown.0 c.shown.1 ends in
    client_ends c.words c.schema_name c.address c.state_name c.channels c.trace x y schema state c.asks c.has c.holds here

pub served_over : (schema : List ℕ) (k : ℕ) (came sent : List ℕ) (v w : View) → ServesOver schema k came sent v w → Served schema k v w
served_over schema k came sent v w s =
    let ends = words_end s.words s.trace Done s.before s.after s.runs in
    let here : Ends s.words s.trace Done v w = shown_as (Ends s.words s.trace Done) s.before.view s.after.view v w s.shown.0 s.shown.1 ends in
    serve_ends s.schema_name s.address s.sessions schema v w s.has k s.among s.words s.trace s.asks here

pub served_runs_meet : ServedRunsMeet
served_runs_meet schema state asks answers k v w x y are heard given low s c =
    met schema c.state_name state asks answers c.channels k v w x y are heard given low (ran_over schema state answers asks x y c) (served_over schema k asks answers v w s) s.given s.written c.given c.written
